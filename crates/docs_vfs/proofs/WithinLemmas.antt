-- A base is a folder above a path just where the path's bytes begin with the base's, up to a slash or the end.
use Rattle.std.proofs.Common.{◌≡◌, ℕ, ◌<◌, Bool, true, false, ◌||◌, ◌==◌, nat_eq, List, [], ◌∷◌, ◌++◌, length, drop, sym, refl, ap, ◌∙◌, arith, ⊎_elim, append-nil, length-append}
use Rattle.std.proofs.Math.Seq.{get_or-append_seam}
use Rattle.std.specs.Prelude.{slice_index}
use Rattle.std.specs.List.{onto_first, starts_with, flat_map}
use Rattle.std.proofs.lemmas.Bool.{cond-false, and_from, and_parts, cases_Bool, eqb-true, eq-eqb, ne_eqb, true≢false, or_left, or_right, or_from}
use Rattle.std.proofs.lemmas.Bool.Decides.{Decides-eqb}
use Rattle.std.proofs.lemmas.Grind.{flat_map-append}
use Rattle.std.proofs.lemmas.List.Splits.{slice_split-cons_yes, slice_split-cons_no}
use Rattle.std.proofs.lemmas.Slice.Eq.{starts_is, bytes_eq-Decides}
use Rattle.docs_vfs.specs.Paths.{is_slash, parts, is_path, segments_of, is_within, begins_with_folder}
use Rattle.docs_vfs.proofs.PathLemmas.{parts-append, parts_some, or_right_true}

-- ---- the parts of a text give it back

-- each segment after a `/`
abbrev joined : List (List ℕ) → List ℕ
joined segments = flat_map (λ s. 47 ∷ s) segments

joined_onto : (x : ℕ) (segments : List (List ℕ)) (text : List ℕ) → joined segments ≡ 47 ∷ text → joined (onto_first x segments) ≡ 47 ∷ x ∷ text
joined_onto x [] text is = absurd (omega (arith, ap length is))
joined_onto x (s ∷ segments) text is = ap (λ l. 47 ∷ x ∷ drop 1 l) is

-- the parts, each after a slash, are the text after a slash
joined_parts : (text : List ℕ) → joined (parts text) ≡ 47 ∷ text
joined_parts [] = refl
joined_parts (x ∷ text) =
    ⊎_elim
    (λ slash. ap joined (slice_split-cons_yes is_slash x text slash) ∙ ap (λ l. 47 ∷ l) (joined_parts text) ∙ ap (λ y. 47 ∷ y ∷ text) (sym (eqb-true x 47 slash)))
    (λ other. ap joined (slice_split-cons_no is_slash x text other) ∙ joined_onto x (parts text) text (joined_parts text))
    (cases_Bool (is_slash x))

-- where the parts of a text begin with those of another, the text begins with it
parts_front : (front text : List ℕ) (more : List (List ℕ)) → parts text ≡ parts front ++ more → text ≡ front ++ joined more
parts_front front text more is =
    let both : 47 ∷ text ≡ 47 ∷ (front ++ joined more) =
    sym (joined_parts text) ∙ ap joined is ∙ flat_map-append (λ s. 47 ∷ s) (parts front) more ∙ ap (λ l. l ++ joined more) (joined_parts front) in
    ap (λ l. drop 1 l) both

-- ---- the segments of a path

segments_some : (b : ℕ) (rest : List ℕ) → 0 < length rest → segments_of (b ∷ rest) ≡ parts rest
segments_some b rest some = cond-false _ _ _ (ne_eqb (length rest) 0 (λ e. omega arith))

-- what the test by bytes says of a text that begins with the base
abbrev ends_well : (x y : ℕ) (base text : List ℕ) → Bool
ends_well x y base text =
    length (x ∷ base) == 1 || length (y ∷ text) == length (x ∷ base) || is_slash (slice_index (y ∷ text) (length (x ∷ base)))

-- bytes up to a slash or the end: the segments begin with the base's
segments_more : (x y : ℕ) (b more : List ℕ) → ends_well x y b (b ++ more) ≡ true
    → (rest : List (List ℕ)) × (segments_of (y ∷ (b ++ more)) ≡ segments_of (x ∷ b) ++ rest)
segments_more x y [] more test = (segments_of (y ∷ more), refl)
segments_more x y (c ∷ b) [] test =
    ([], ap (λ l. segments_of (y ∷ l)) (append-nil (c ∷ b)) ∙ sym (append-nil (segments_of (x ∷ c ∷ b))))
segments_more x y (c ∷ b) (d ∷ back) test =
    let front = c ∷ b in
    let len = length-append front (d ∷ back) in
    let longer : (length (x ∷ front) == 1 || length (y ∷ (front ++ d ∷ back)) == length (x ∷ front)) ≡ false =
    or_from _ _ (ne_eqb (length (x ∷ front)) 1 (λ e. omega arith)) (ne_eqb (length (y ∷ (front ++ d ∷ back))) (length (x ∷ front)) (λ e. omega arith)) in
    let here : slice_index (y ∷ (front ++ d ∷ back)) (length (x ∷ front)) ≡ d = get_or-append_seam (y ∷ front) d back 0 in
    let slash : d ≡ 47 = eqb-true d 47 (sym (ap is_slash here) ∙ or_right_true _ _ test longer) in (
      parts back,
      segments_some y (front ++ d ∷ back) (omega arith) ∙ ap (λ e. parts (front ++ e ∷ back)) slash ∙ parts-append front back
          ∙ ap (λ l. l ++ parts back) (sym (segments_some x front (omega arith))),
    )

segments_from_bytes : (x y : ℕ) (b p : List ℕ) → begins_with_folder (x ∷ b) (y ∷ p) ≡ true
    → (rest : List (List ℕ)) × (segments_of (y ∷ p) ≡ segments_of (x ∷ b) ++ rest)
segments_from_bytes x y b p test =
    let both = and_parts (starts_with nat_eq (y ∷ p) (x ∷ b)) (ends_well x y b p) test in
    let more = drop (length (x ∷ b)) (y ∷ p) in
    let is : y ∷ p ≡ x ∷ (b ++ more) = (starts_is Decides-eqb (y ∷ p) (x ∷ b) _ refl).0 both.0 in
    let tail : p ≡ b ++ more = ap (λ l. drop 1 l) is in
    let found = segments_more x y b more (sym (ap (λ l. ends_well x y b l) tail) ∙ both.1) in
    (found.0, ap (λ l. segments_of (y ∷ l)) tail ∙ found.1)

-- the segments begin with the base's: so do the bytes, up to a slash or the end
ends_from_segments : (x y : ℕ) (b p : List ℕ) (rest : List (List ℕ)) → p ≡ b ++ joined rest → ends_well x y b p ≡ true
ends_from_segments x y b p [] is =
    or_left _ _ (or_right _ _ (eq-eqb (length (y ∷ p)) (length (x ∷ b)) (omega (arith, ap length is, length-append b []))))
ends_from_segments x y b p (s ∷ more) is =
    or_right _ _ (eq-eqb _ 47 (ap (λ l. slice_index (y ∷ l) (length (x ∷ b))) is ∙ get_or-append_seam (y ∷ b) 47 (s ++ joined more) 0))

starts_from : (x y : ℕ) (b p more : List ℕ) → y ≡ x → p ≡ b ++ more → starts_with nat_eq (y ∷ p) (x ∷ b) ≡ true
starts_from x y b p more same is = (starts_is Decides-eqb (y ∷ p) (x ∷ b) _ refl).1 more (λ i. same i ∷ is i)

bytes_from_segments : (x y : ℕ) (b p : List ℕ) (rest : List (List ℕ)) → y ≡ x → segments_of (y ∷ p) ≡ segments_of (x ∷ b) ++ rest
    → begins_with_folder (x ∷ b) (y ∷ p) ≡ true
bytes_from_segments x y [] p rest same is = and_from _ _ (starts_from x y [] p p same refl) refl
bytes_from_segments x y (c ∷ b) [] rest same is =
    let first = segments_some x (c ∷ b) (omega arith) in
    absurd (omega (arith, ap length is, length-append (segments_of (x ∷ c ∷ b)) rest, ap length first, parts_some (c ∷ b)))
bytes_from_segments x y (c ∷ b) (q ∷ p) rest same is =
    let by_parts : parts (q ∷ p) ≡ parts (c ∷ b) ++ rest =
    sym (segments_some y (q ∷ p) (omega arith)) ∙ is ∙ ap (λ l. l ++ rest) (segments_some x (c ∷ b) (omega arith)) in
    let text = parts_front (c ∷ b) (q ∷ p) rest by_parts in
    and_from _ _ (starts_from x y (c ∷ b) (q ∷ p) (joined rest) same text) (ends_from_segments x y (c ∷ b) (q ∷ p) rest text)

same_tests : (a b : Bool) → (a ≡ true → b ≡ true) → (b ≡ true → a ≡ true) → a ≡ b
same_tests true b there back = sym (there refl)
same_tests false true there back = back refl
same_tests false false there back = refl

-- the test by bytes says whether a path is the base or within it
pub begins_with_folder-is_within : (base path : List ℕ) → is_path base ≡ true → is_path path ≡ true → begins_with_folder base path ≡ is_within base path
unfolding is_path is_within
begins_with_folder-is_within [] path base_is path_is = absurd (true≢false (sym base_is))
begins_with_folder-is_within (x ∷ b) [] base_is path_is = absurd (true≢false (sym path_is))
begins_with_folder-is_within (x ∷ b) (y ∷ p) base_is path_is =
    let same : y ≡ x = eqb-true y 47 (and_parts (is_slash y) _ path_is).0 ∙ sym (eqb-true x 47 (and_parts (is_slash x) _ base_is).0) in
    let says = starts_is bytes_eq-Decides (segments_of (y ∷ p)) (segments_of (x ∷ b)) _ refl in
    same_tests _ _
    (λ by_bytes. let found = segments_from_bytes x y b p by_bytes in says.1 found.0 found.1)
    (λ within. bytes_from_segments x y b p _ same (says.0 within))
