-- Columns stand behind the units before them.
use Rattle.std.proofs.Common.{◌≡◌, ℕ, zero, suc, ◌+◌, ◌-◌, ◌<◌, ◌≤◌, Bool, true, false, not, ◌&&◌, ◌==◌, List, [], ◌∷◌, length, take, get_or, Option, Some, None, inl, inr, refl, ap, sym, subst, ◌∙◌, arith, ⊎_elim}
use Rattle.std.specs.Prelude.{nat_le}
use Rattle.std.proofs.lemmas.Bool.{cases_Bool, cases_lt, cond-true, cond-false, le-leb, lt-leb, leb-true, leb-false, false≢true}
use Rattle.std.proofs.lemmas.Bool.Decides.{nat_tests}
use Rattle.std.proofs.lemmas.List.{take_all}
use Rattle.std.proofs.lemmas.List.Sums.{sum_by-cons}
use Rattle.text_core.specs.declared.position.PositionEncoding.{PositionEncoding}
use Rattle.text_core.specs.declared.position.PositionEncoding.TheVariants.{Utf8, Wide}
use Rattle.text_core.specs.declared.position.WideEncoding.TheVariants.{Utf16, Utf32}
use Rattle.text_core.specs.Columns.{units_of, StandsBehind}
use Rattle.text_core.specs.Positions.{is_inside, units, past_units}
use Rattle.text_core.proofs.LineLemmas.{further}
use Rattle.text_core.proofs.PlaceLemmas.{option_cases}
use Rattle.text_core.proofs.StartLemmas.{none_some}

-- the front of a line that a walk has passed, or that there is none
abbrev Stands : PositionEncoding → ℕ → List ℕ → Option ℕ → Type 0
Stands e column line (Some n) =
    (n ≤ length line) × (units_of e (take n line) ≤ column)
    × (n < length line → (units_of e (take n line) ≡ column) × (is_inside (get_or line n 0) ≡ false))
Stands e column line None =
    (column < units_of e line) × ((n : ℕ) → n < length line → units_of e (take n line) ≡ column → is_inside (get_or line n 0) ≡ true)

-- a byte that counts nothing is inside a character
no_unit : (e : PositionEncoding) (b : ℕ) → units e b ≡ 0 → is_inside b ≡ true
no_unit Utf8 b h = cc
no_unit (Wide Utf16) b h = grind (arith, nat_tests, h)
no_unit (Wide Utf32) b h = grind (arith, nat_tests, h)

-- the first byte of a character counts
some_unit : (e : PositionEncoding) (b : ℕ) → is_inside b ≡ false → 0 < units e b
some_unit e b h =
    elim (cases_lt 0 (units e b)) [ inl some ↦ some | inr none ↦ absurd (false≢true (sym h ∙ no_unit e b (omega arith))) ]

one_more : (n : ℕ) → suc n ≡ 1 + n
one_more n = omega arith

over_none : (e : PositionEncoding) (column b : ℕ) (rest : List ℕ) → units e b ≤ column
    → ((n : ℕ) → n < length rest → units_of e (take n rest) ≡ column - units e b → is_inside (get_or rest n 0) ≡ true)
    → (n : ℕ) → n < length (b ∷ rest) → units_of e (take n (b ∷ rest)) ≡ column → is_inside (get_or (b ∷ rest) n 0) ≡ true
over_none e column b rest fits later zero here same = no_unit e b (omega arith)
over_none e column b rest fits later (suc n) here same =
    let sum = sum_by-cons (units e) b (take n rest) in
    later n (omega arith) (omega (arith, sum, same))

over : (e : PositionEncoding) (column b : ℕ) (rest : List ℕ) (o : Option ℕ) → units e b ≤ column → Stands e (column - units e b) rest o
    → Stands e column (b ∷ rest) (further 1 o)
over e column b rest None fits is = (omega (arith, is.0, sum_by-cons (units e) b rest), over_none e column b rest fits is.1)
over e column b rest (Some n) fits is =
    let sum = sum_by-cons (units e) b (take n rest) in
    subst (λ k. Stands e column (b ∷ rest) (Some k)) (one_more n)
    (omega (arith, is.0), omega (arith, is.1, sum), λ here. let later = is.2 (omega arith) in (omega (arith, later.0, sum), later.1))

first_parts : (column : ℕ) (inside : Bool) → (column == 0 && not inside) ≡ true → (0 ≡ column) × (inside ≡ false)
first_parts column true h = grind arith
first_parts column false h = (grind (arith, nat_tests, h), refl)

first_not : (column : ℕ) (inside : Bool) → (column == 0 && not inside) ≡ false → 0 ≡ column → inside ≡ true
first_not column true h none = refl
first_not column false h none = grind (arith, nat_tests, h)

stops_none : (e : PositionEncoding) (column b : ℕ) (rest : List ℕ) → column < units e b → (column == 0 && not (is_inside b)) ≡ false
    → (n : ℕ) → n < length (b ∷ rest) → units_of e (take n (b ∷ rest)) ≡ column → is_inside (get_or (b ∷ rest) n 0) ≡ true
stops_none e column b rest above h zero here same = first_not column (is_inside b) h same
stops_none e column b rest above h (suc n) here same = absurd (omega (arith, sum_by-cons (units e) b (take n rest), same))

columns_stand : (e : PositionEncoding) (column : ℕ) (line : List ℕ) → Stands e column line (past_units e column line)
columns_stand e column [] = (omega arith, omega arith, λ here. absurd (omega arith))
columns_stand e column (b ∷ rest) = ⊎_elim
    (λ t.
    subst (Stands e column (b ∷ rest)) (sym (cond-true _ _ _ t))
    (over e column b rest (past_units e (column - units e b) rest) (leb-true _ _ t) (columns_stand e (column - units e b) rest)))
    (λ f.
    let above : column < units e b = leb-false _ _ f in
    subst (Stands e column (b ∷ rest)) (sym (cond-false _ _ _ f))
    (⊎_elim
    (λ t.
    let parts = first_parts column (is_inside b) t in
    subst (Stands e column (b ∷ rest)) (sym (cond-true _ _ _ t)) (omega arith, omega arith, λ here. (parts.0, parts.1)))
    (λ u.
    subst (Stands e column (b ∷ rest)) (sym (cond-false _ _ _ u))
    (omega (arith, sum_by-cons (units e) b rest), stops_none e column b rest above u))
    (cases_Bool (column == 0 && not (is_inside b)))))
    (cases_Bool (nat_le (units e b) column))

-- the same, one case for each end
stands_cases : (e : PositionEncoding) (column : ℕ) (line : List ℕ) (n : ℕ) → Stands e column line (Some n) → StandsBehind e column line n
stands_cases e column line n is =
    elim (cases_lt n (length line)) [
      | inl here ↦ inl (here, (is.2 here).0, (is.2 here).1)
      | inr past ↦
          let all : n ≡ length line = omega (arith, is.0) in
          let whole : take n line ≡ line = take_all n line (omega arith) in
          inr (all, omega (arith, is.1, ap (units_of e) whole))
    ]

-- a front that ends where a character begins is found by its units
pub front_column : (e : PositionEncoding) (line : List ℕ) (n : ℕ) → n ≤ length line → (n < length line → is_inside (get_or line n 0) ≡ false)
    → past_units e (units_of e (take n line)) line ≡ Some n
front_column e [] n within whole = ap Some (omega arith)
front_column e (b ∷ rest) zero within whole =
    let first : is_inside b ≡ false = whole (omega arith) in
    cond-false _ _ _ (lt-leb _ _ (some_unit e b first)) ∙ cond-true _ _ _ (ap not first)
front_column e (b ∷ rest) (suc n) within whole =
    let sum = sum_by-cons (units e) b (take n rest) in
    let fits : units e b ≤ units_of e (b ∷ take n rest) = omega (arith, sum) in
    let left : units_of e (b ∷ take n rest) - units e b ≡ units_of e (take n rest) = omega (arith, sum) in
    cond-true _ _ _ (le-leb _ _ fits)
    ∙ ap (λ k. further 1 (past_units e k rest)) left
    ∙ ap (further 1) (front_column e rest n (omega arith) (λ here. whole (omega arith)))
    ∙ ap Some (omega arith)

-- a line that has no more units is passed whole
pub line_column : (e : PositionEncoding) (column : ℕ) (line : List ℕ) → units_of e line ≤ column → past_units e column line ≡ Some (length line)
line_column e column [] fits = refl
line_column e column (b ∷ rest) fits =
    let sum = sum_by-cons (units e) b rest in
    let first : units e b ≤ column = omega (arith, sum) in
    cond-true _ _ _ (le-leb _ _ first)
    ∙ ap (further 1) (line_column e (column - units e b) rest (omega (arith, sum))) ∙ ap Some (omega arith)

pub behind_column : (e : PositionEncoding) (column : ℕ) (line : List ℕ) (n : ℕ) → past_units e column line ≡ Some n → StandsBehind e column line n
behind_column e column line n h = stands_cases e column line n (subst (Stands e column line) h (columns_stand e column line))

pub column_behind : (e : PositionEncoding) (column : ℕ) (line : List ℕ) (n : ℕ) → StandsBehind e column line n → past_units e column line ≡ Some n
column_behind e column line n is =
    elim is [
      | inl front ↦ ap (λ k. past_units e k line) (sym front.1) ∙ front_column e line n (omega (arith, front.0)) (λ here. front.2)
      | inr whole ↦ line_column e column line whole.1 ∙ ap Some (sym whole.0)
    ]

pub no_column : (e : PositionEncoding) (column : ℕ) (line : List ℕ) → ((n : ℕ) → StandsBehind e column line n → ⊥) → past_units e column line ≡ None
no_column e column line none =
    ⊎_elim
    (λ some. absurd (none some.0 (behind_column e column line some.0 some.1)))
    (λ nowhere. nowhere)
    (option_cases (past_units e column line))

pub no_behind : (e : PositionEncoding) (column : ℕ) (line : List ℕ) → past_units e column line ≡ None → (n : ℕ) → StandsBehind e column line n → ⊥
no_behind e column line nowhere n is = none_some n (sym nowhere ∙ column_behind e column line n is)
