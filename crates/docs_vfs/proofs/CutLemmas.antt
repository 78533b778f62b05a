-- Where `rsplit_once` cuts a text at an ASCII character.
use Rattle.std.proofs.Common.{◌≡◌, ℕ, ◌<◌, Bool, true, false, not, ◌||◌, ◌==◌, List, [], ◌∷◌, ◌++◌, get_or, take, drop, All, Option, Some, None, MatchOption, Bor, sym, refl, ap, ◌∙◌, take-append-drop}
use Rattle.std.specs.List.{list_any, before_last, after_last}
use Rattle.std.specs.Str.{NoCharPasses}
use Rattle.std.specs.Str.Pattern.{RFindsChar, SplitsAroundMatch}
use Rattle.std.proofs.lemmas.Bool.{eq-eqb, ne_eqb, or_right}
use Rattle.std.proofs.lemmas.Str.Pattern.{NoCharPasses-char, drop_at_char}
use Rattle.std.proofs.lemmas.List.Elements.{All-from_get_or, All-weaker}
use Rattle.docs_vfs.proofs.LastLemmas.{before_last_at, after_last_at}
use Rattle.std.proofs.lemmas.List.Folds.{list_any_none}

abbrev is_it : ℕ → ℕ → Bool
is_it c b = b == c

lacks : (c : ℕ) (bs : List ℕ) → c < 128 → NoCharPasses (λ d. d == c) bs → All (λ b. is_it c b ≡ false) bs
lacks c bs low none = All-from_get_or (λ b. is_it c b ≡ false) bs 0 (λ i inside. ne_eqb (get_or bs i 0) c (NoCharPasses-char c bs i none low inside))

has_it : (c : ℕ) (xs ys : List ℕ) → list_any (is_it c) (xs ++ c ∷ ys) ≡ true
has_it c [] ys = ap (λ b. b || list_any (is_it c) ys) (eq-eqb c c refl)
has_it c (x ∷ xs) ys = or_right (is_it c x) _ (has_it c xs ys)

pub cut_at_last : (c : ℕ) (bs : List ℕ) (r : Option (Bor (List ℕ) × Bor (List ℕ))) → c < 128 → MatchOption r (RFindsChar c bs None) (λ x. SplitsAroundMatch (RFindsChar c) bs x.0.now x.1.now)
    → MatchOption r (list_any (is_it c) bs ≡ false) (λ x. (list_any (is_it c) bs ≡ true) × (x.0.now ≡ before_last (is_it c) bs) × (x.1.now ≡ after_last (is_it c) bs))
cut_at_last c bs None low none = list_any_none (is_it c) bs (lacks c bs low none)
cut_at_last c bs (Some x) low h =
    let front = take h.0 bs in
    let back = drop h.1 bs in
    let split : bs ≡ front ++ c ∷ back = sym (take-append-drop h.0 bs) ∙ ap (λ l. front ++ l) (drop_at_char c bs h.0 h.1 h.2.1 low) in
    let whole = All-weaker (λ b. is_it c b ≡ false) (λ b. not (is_it c b) ≡ true) (λ b no. ap not no) back (lacks c back low h.2.0) in
    let here = eq-eqb c c refl in (
      ap (list_any (is_it c)) split ∙ has_it c front back,
      h.3 ∙ sym (ap (before_last (is_it c)) split ∙ before_last_at (is_it c) front c back here whole),
      h.4 ∙ sym (ap (after_last (is_it c)) split ∙ after_last_at (is_it c) front c back here whole),
    )

-- a text that holds the byte is what stands before its last one, that byte, and what stands after it
pub around_last : (c : ℕ) (bs : List ℕ) (low : c < 128) (front back : List ℕ) → SplitsAroundMatch (RFindsChar c) bs front back → (bs ≡ front ++ c ∷ back) × (list_any (is_it c) back ≡ false)
around_last c bs low front back h = (
  sym (take-append-drop h.0 bs) ∙ ap (λ l. take h.0 bs ++ l) (drop_at_char c bs h.0 h.1 h.2.1 low) ∙ (λ i. sym h.3 i ++ c ∷ sym h.4 i),
  ap (list_any (is_it c)) h.4 ∙ list_any_none (is_it c) (drop h.1 bs) (lacks c (drop h.1 bs) low h.2.0),
)

pub cut_around_last : (c : ℕ) (bs : List ℕ) (r : Option (Bor (List ℕ) × Bor (List ℕ))) → c < 128 → MatchOption r (RFindsChar c bs None) (λ x. SplitsAroundMatch (RFindsChar c) bs x.0.now x.1.now)
    → MatchOption r (list_any (is_it c) bs ≡ false) (λ x. (bs ≡ x.0.now ++ c ∷ x.1.now) × (list_any (is_it c) x.1.now ≡ false) × (x.0.now ≡ before_last (is_it c) bs) × (x.1.now ≡ after_last (is_it c) bs))
cut_around_last c bs None low none = cut_at_last c bs None low none
cut_around_last c bs (Some x) low h =
    let around = around_last c bs low x.0.now x.1.now h in
    let parts = cut_at_last c bs (Some x) low h in
    (around.0, around.1, parts.1, parts.2)
