-- The list of line starts holds where each line begins.
use Rattle.std.proofs.Common.{◌≡◌, ℕ, zero, suc, ◌+◌, ◌-◌, ◌<◌, ◌≤◌, cond, List, [], ◌∷◌, length, take, drop, map, ◌++◌, get_or, Option, Some, None, refl, ap, sym, ◌∙◌, arith, ⊎_elim}
use Rattle.std.specs.Prelude.{count_by, slice_get, slice_index, All}
use Rattle.std.specs.Option.{option_map}
use Rattle.std.proofs.lemmas.Bool.{cases_Bool, cond-true, cond-false}
use Rattle.std.proofs.lemmas.List.{at_drop_more, drop_all}
use Rattle.std.proofs.lemmas.List.Recursion.{is_count_by}
use Rattle.std.proofs.lemmas.Option.{slice_get_cases}
use Rattle.std.proofs.lemmas.List.Elements.{All-nil, All-cons, All-same}
use Rattle.memchr.specs.Find.{places, places_from, is_byte}
use Rattle.text_core.specs.Positions.{ends_line, line_start, line_end, line_span}
use Rattle.text_core.specs.Starts.{line_starts, starts_in}
use Rattle.text_core.proofs.LineLemmas.{further, further-zero}

pub none_some : {A : Type 0} (x : A) → None ≡ Some x → ⊥
none_some x p = cc

-- the places of LF, each one further and as far on as the part begins
pub starts_in_places : (text : List ℕ) (at i n : ℕ) → i + n ≡ length text → map (λ k. at + k + 1) (places_from (is_byte 10) text i n) ≡ starts_in (at + i) (drop i text)
unfolding places_from
starts_in_places text at i zero all = sym (ap (starts_in (at + i)) (drop_all i text (omega arith)))
starts_in_places text at i (suc n) all =
    let next : at + (i + 1) ≡ at + i + 1 = omega arith in
    let rest = starts_in_places text at (i + 1) n (omega arith) ∙ ap (λ k. starts_in k (drop (i + 1) text)) next in
    let step = at_drop_more (starts_in (at + i)) text i 0 (omega arith) in
    ⊎_elim
    (λ t. ap (map (λ k. at + k + 1)) (cond-true _ _ _ t) ∙ ap (λ l. (at + i + 1) ∷ l) rest ∙ sym (step ∙ cond-true _ _ _ t))
    (λ f. ap (map (λ k. at + k + 1)) (cond-false _ _ _ f) ∙ rest ∙ sym (step ∙ cond-false _ _ _ f))
    (cases_Bool (ends_line (get_or text i 0)))

-- the places of all LF of a part
pub places_start : (text : List ℕ) (at : ℕ) → map (λ k. at + k + 1) (places (is_byte 10) text) ≡ starts_in at text
places_start text at =
    let all : length text - 0 ≡ length text = omega arith in
    let here : at + 0 ≡ at = omega arith in
    ap (λ n. map (λ k. at + k + 1) (places_from (is_byte 10) text 0 n)) all ∙ starts_in_places text at 0 (length text) (omega arith) ∙ ap (λ k. starts_in k text) here

further_more : (at : ℕ) (o : Option ℕ) → further (at + 1) o ≡ further at (further 1 o)
further_more at None = refl
further_more at (Some n) = ap Some (omega arith)

get_starts_in : (text : List ℕ) (at line : ℕ) → slice_get (starts_in at text) line ≡ further at (line_start (suc line) text)
get_starts_in [] at line = refl
get_starts_in (b ∷ rest) at zero = ⊎_elim
    (λ t. ap (λ l. slice_get l zero) (cond-true _ _ _ t) ∙ sym (ap (λ o. further at (further 1 o)) (cond-true _ _ _ t)))
    (λ f. ap (λ l. slice_get l zero) (cond-false _ _ _ f) ∙ get_starts_in rest (at + 1) zero ∙ further_more at (line_start (suc zero) rest)
    ∙ sym (ap (λ o. further at (further 1 o)) (cond-false _ _ _ f)))
    (cases_Bool (ends_line b))
get_starts_in (b ∷ rest) at (suc line) = ⊎_elim
    (λ t. ap (λ l. slice_get l (suc line)) (cond-true _ _ _ t) ∙ get_starts_in rest (at + 1) line ∙ further_more at (line_start (suc line) rest)
    ∙ sym (ap (λ o. further at (further 1 o)) (cond-true _ _ _ t)))
    (λ f. ap (λ l. slice_get l (suc line)) (cond-false _ _ _ f) ∙ get_starts_in rest (at + 1) (suc line) ∙ further_more at (line_start (suc (suc line)) rest)
    ∙ sym (ap (λ o. further at (further 1 o)) (cond-false _ _ _ f)))
    (cases_Bool (ends_line b))

pub get_starts : (text : List ℕ) (line : ℕ) → slice_get (line_starts text) line ≡ line_start line text
unfolding line_starts
get_starts text zero = refl
get_starts text (suc line) = get_starts_in text 0 line ∙ further-zero (line_start (suc line) text)

places_within : (text : List ℕ) (i n : ℕ) → i + n ≤ length text → All (λ k. k < length text) (places_from (is_byte 10) text i n)
unfolding places_from
places_within text i zero h = All-nil _
places_within text i (suc n) h =
    let rest = places_within text (i + 1) n (omega arith) in
    ⊎_elim
    (λ t. All-same (λ k. k < length text) _ _ (cond-true _ _ _ t) (All-cons (λ k. k < length text) i _ (omega arith) rest))
    (λ f. All-same (λ k. k < length text) _ _ (cond-false _ _ _ f) rest)
    (cases_Bool (is_byte 10 (slice_index text i)))

pub line_places_within : (text : List ℕ) → All (λ k. k < length text) (places (is_byte 10) text)
line_places_within text = places_within text 0 (length text - 0) (omega arith)

lf_count : List ℕ → ℕ
lf_count [] = 0
lf_count (b ∷ rest) = cond (ends_line b) (1 + lf_count rest) (lf_count rest)

length_starts_in : (text : List ℕ) (at : ℕ) → length (starts_in at text) ≡ lf_count text
unfolding lf_count
length_starts_in [] at = refl
length_starts_in (b ∷ rest) at = ⊎_elim
    (λ t. ap length (cond-true _ _ _ t) ∙ omega (arith, length_starts_in rest (at + 1)) ∙ sym (cond-true _ _ _ t))
    (λ f. ap length (cond-false _ _ _ f) ∙ length_starts_in rest (at + 1) ∙ sym (cond-false _ _ _ f))
    (cases_Bool (ends_line b))

lf_count_by : (text : List ℕ) → lf_count text ≡ count_by ends_line text
unfolding lf_count
lf_count_by text = is_count_by lf_count ends_line refl (λ x xs. refl) text

-- as many lines as LF, and one
pub length-line_starts : (text : List ℕ) → length (line_starts text) ≡ count_by ends_line text + 1
unfolding line_starts
length-line_starts text =
    let count : length (starts_in 0 text) ≡ count_by ends_line text = length_starts_in text 0 ∙ lf_count_by text in
    omega (arith, count)

-- a right list knows all lines
pub starts-know : (starts text : List ℕ) → starts ≡ line_starts text → (line : ℕ) → slice_get starts line ≡ line_start line text
starts-know starts text h line = ap (λ l. slice_get l line) h ∙ get_starts text line

-- a line begins exactly where as many LF stand before it
pub line-past : (line : ℕ) (text : List ℕ) → line_span line text ≡ None → count_by ends_line text < line
line-past line text h = ⊎_elim
    (λ here.
    let some : line_span line text ≡ Some (here.0, line_end line text) = ap (option_map (λ n. (n, line_end line text))) (sym (get_starts text line) ∙ here.2) in
    absurd (none_some _ (sym h ∙ some)))
    (λ past. omega (arith, past.0, length-line_starts text))
    (slice_get_cases (line_starts text) line).1

pub line-within : (line : ℕ) (text : List ℕ) (start stop : ℕ) → line_span line text ≡ Some (start, stop) → line ≤ count_by ends_line text
line-within line text start stop h = ⊎_elim
    (λ here. omega (arith, here.1, length-line_starts text))
    (λ past.
    let none : line_span line text ≡ None = ap (option_map (λ n. (n, line_end line text))) (sym (get_starts text line) ∙ past.1) in
    absurd (none_some _ (sym none ∙ h)))
    (slice_get_cases (line_starts text) line).1

pub some_inj : (x y : ℕ) → Some x ≡ Some y → x ≡ y
some_inj x y p = cc

pub further_some : (i : ℕ) (o : Option ℕ) (k : ℕ) → further i o ≡ Some k → (j : ℕ) × (o ≡ Some j) × (i + j ≡ k)
further_some i None k h = cc
further_some i (Some j) k h = (j, refl, some_inj _ _ h)

-- a line that begins, begins within the text
pub line_start-within : (line : ℕ) (text : List ℕ) (k : ℕ) → line_start line text ≡ Some k → k ≤ length text
line_start-within zero text k h = let first : 0 ≡ k = some_inj _ _ h in omega arith
line_start-within (suc line) [] k h = cc
line_start-within (suc line) (b ∷ rest) k h =
    let rec = further_some 1 _ k h in
    ⊎_elim
    (λ t. let shorter = line_start-within line rest rec.0 (sym (cond-true _ _ _ t) ∙ rec.1) in omega (arith, rec.2))
    (λ f. let shorter = line_start-within (suc line) rest rec.0 (sym (cond-false _ _ _ f) ∙ rec.1) in omega (arith, rec.2))
    (cases_Bool (ends_line b))

-- the next line begins later
pub line_start-next : (line : ℕ) (text : List ℕ) (j k : ℕ) → line_start line text ≡ Some j → line_start (suc line) text ≡ Some k → j < k
line_start-next line [] j k g h = cc
line_start-next zero (b ∷ rest) j k g h =
    let first : 0 ≡ j = some_inj _ _ g in
    let next = further_some 1 _ k h in
    omega (arith, next.2)
line_start-next (suc line) (b ∷ rest) j k g h =
    let here = further_some 1 _ j g in
    let next = further_some 1 _ k h in
    ⊎_elim
    (λ t. let later = line_start-next line rest here.0 next.0 (sym (cond-true _ _ _ t) ∙ here.1) (sym (cond-true _ _ _ t) ∙ next.1) in omega (arith, here.2, next.2))
    (λ f. let later = line_start-next (suc line) rest here.0 next.0 (sym (cond-false _ _ _ f) ∙ here.1) (sym (cond-false _ _ _ f) ∙ next.1) in omega (arith, here.2, next.2))
    (cases_Bool (ends_line b))

-- the line before one that begins, begins too
pub line_start-before : (line : ℕ) (text : List ℕ) (k : ℕ) → line_start (suc line) text ≡ Some k → (j : ℕ) × (line_start line text ≡ Some j)
line_start-before line [] k h = cc
line_start-before zero (b ∷ rest) k h = (0, refl)
line_start-before (suc line) (b ∷ rest) k h =
    let next = further_some 1 _ k h in
    ⊎_elim
    (λ t. let before = line_start-before line rest next.0 (sym (cond-true _ _ _ t) ∙ next.1) in (1 + before.0, ap (further 1) (cond-true _ _ _ t ∙ before.1)))
    (λ f. let before = line_start-before (suc line) rest next.0 (sym (cond-false _ _ _ f) ∙ next.1) in (1 + before.0, ap (further 1) (cond-false _ _ _ f ∙ before.1)))
    (cases_Bool (ends_line b))

-- lines that begin no later than a place begin there whatever comes after that place
pub line_start-kept : (line : ℕ) (text rest : List ℕ) (n k : ℕ) → n ≤ length text → line_start line text ≡ Some k → k ≤ n → line_start line (take n text ++ rest) ≡ Some k
line_start-kept zero text rest n k within h low = h
line_start-kept (suc line) [] rest n k within h low = cc
line_start-kept (suc line) (b ∷ text) rest zero k within h low =
    let here = further_some 1 _ k h in absurd (omega (arith, here.2))
line_start-kept (suc line) (b ∷ text) rest (suc n) k within h low =
    let here = further_some 1 _ k h in
    let sum : Some (1 + here.0) ≡ Some k = ap Some here.2 in
    ⊎_elim
    (λ t. ap (further 1) (cond-true _ _ _ t ∙ line_start-kept line text rest n here.0 (omega arith) (sym (cond-true _ _ _ t) ∙ here.1) (omega (arith, here.2))) ∙ sum)
    (λ f. ap (further 1) (cond-false _ _ _ f ∙ line_start-kept (suc line) text rest n here.0 (omega arith) (sym (cond-false _ _ _ f) ∙ here.1) (omega (arith, here.2))) ∙ sum)
    (cases_Bool (ends_line b))
