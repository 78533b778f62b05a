-- A tree's entries by the texts of their keys.
use Rattle.std.proofs.Common.{◌≡◌, ◌<◌, ◌≤◌, ℕ, suc, List, [], ◌∷◌, length, true, refl, sym, ap, ◌∙◌, Ordering, Less, Equal, Greater}
use Rattle.std.specs.Prelude.{Option, Some, None, IsSome, IfSome, MatchOption, cond, map as each, is_some, unwrap_or, if◌then◌else◌}
use Rattle.std.specs.List.{AllByRecursion, AllZip}
use Rattle.std.specs.List.Sorted.{IsStrictlySortedBy}
use Rattle.std.specs.Map.{lookup, keys_of, remove_entry, set_value}
use Rattle.std.specs.Ordering.{match_ordering, is_eq}
use Rattle.std.specs.BTreeMap.{is_at, insert_entry}
use Rattle.std.specs.Map.{values_of}
use Rattle.std.specs.Ordering.{eq_by_cmp}
use Rattle.std.specs.Cmp.{eq_by_cmp_equiv}
use Rattle.std.specs.Cmp.Lexicographic.{nat_list_cmp_total}
use Rattle.std.specs.FinMap as map
use Rattle.std.proofs.lemmas.Map.{lookup-set_value, lookup-remove_entry}
use Rattle.std.proofs.lemmas.Map.Keys.{IsDistinct-from_sorted}
use Rattle.std.proofs.lemmas.List.Elements.{same_from_all_zip}
use Rattle.plain.specs.Texts.{text_cmp, by_texts}
use Rattle.plain.proofs.MembersLemmas.{at_key}
use Rattle.plain.proofs.Mapped as mapped

-- ---- maps from texts

same_texts : map.IsAntisymmetric text_cmp
same_texts = map.slice_cmp-IsAntisymmetric map.nat_cmp-IsAntisymmetric

tied : (k x y : List ℕ) → is_at (text_cmp k) x ≡ true → is_at (text_cmp k) y ≡ eq_by_cmp text_cmp x y
tied k x y h = ap (λ n. is_eq (text_cmp n y)) (at_key k x h)

module _ {V : Type 0} where
  inserted : (es : List (List ℕ × V)) (k : List ℕ) (v : V) → map.from_entries {R = text_cmp} (insert_entry text_cmp es k v) ≡ map.insert (map.from_entries es) k v
  inserted = mapped.inserted nat_list_cmp_total same_texts

  -- what is put where there is nothing, and stays where there is something
  pub put_once : (m : map.FinMap text_cmp V) (k : List ℕ) (v w : V) (o : Option V) → map.get m k ≡ o → w ≡ unwrap_or o v → map.insert m k w ≡ (if is_some o then m else map.insert m k v)
  put_once = mapped.put_once nat_list_cmp_total same_texts

-- ---- a tree whose keys stand for texts

module _ {K V : Type 0} (text : K → List ℕ) {R : K → K → Ordering} (in_order : (x y : K) → R x y ≡ text_cmp (text x) (text y)) where
  pub lookup-texts : (q : K) (es : List (K × V)) → lookup (is_at (R q)) es ≡ lookup (is_at (text_cmp (text q))) (by_texts text es)
  lookup-texts q [] = refl
  lookup-texts q (e ∷ es) = λ i. cond (is_eq (in_order q e.0 i)) (Some e.1) (lookup-texts q es i)

  placed : (o : Ordering) (xs ys zs : List (K × V)) → by_texts text (match_ordering o xs ys zs) ≡ match_ordering o (by_texts text xs) (by_texts text ys) (by_texts text zs)
  placed Less xs ys zs = refl
  placed Equal xs ys zs = refl
  placed Greater xs ys zs = refl

  pub insert-texts : (es : List (K × V)) (k : K) (v : V) → by_texts text (insert_entry R es k v) ≡ insert_entry text_cmp (by_texts text es) (text k) v
  insert-texts [] k v = refl
  insert-texts (e ∷ es) k v =
      placed (R k e.0) ((k, v) ∷ e ∷ es) ((e.0, v) ∷ es) (e ∷ insert_entry R es k v)
      ∙ (λ i. match_ordering (in_order k e.0 i) ((text k, v) ∷ by_texts text (e ∷ es)) ((text e.0, v) ∷ by_texts text es) ((text e.0, e.1) ∷ insert-texts es k v i))

  either : (o : Ordering) (xs ys : List (K × V)) → by_texts text (cond (is_eq o) xs ys) ≡ cond (is_eq o) (by_texts text xs) (by_texts text ys)
  either Less xs ys = refl
  either Equal xs ys = refl
  either Greater xs ys = refl

  pub remove-texts : (k : K) (es : List (K × V)) → by_texts text (remove_entry (is_at (R k)) es) ≡ remove_entry (is_at (text_cmp (text k))) (by_texts text es)
  remove-texts k [] = refl
  remove-texts k (e ∷ es) =
      either (R k e.0) es (e ∷ remove_entry (is_at (R k)) es)
      ∙ (λ i. cond (is_eq (in_order k e.0 i)) (by_texts text es) ((text e.0, e.1) ∷ remove-texts k es i))

  pub set-texts : (k : K) (es : List (K × V)) (w : V) → by_texts text (set_value (is_at (R k)) es w) ≡ set_value (is_at (text_cmp (text k))) (by_texts text es) w
  set-texts k [] w = refl
  set-texts k (e ∷ es) w =
      either (R k e.0) ((e.0, w) ∷ es) (e ∷ set_value (is_at (R k)) es w)
      ∙ (λ i. cond (is_eq (in_order k e.0 i)) ((text e.0, w) ∷ by_texts text es) ((text e.0, e.1) ∷ set-texts k es w i))

  above : (k : K) (es : List (K × V)) → AllByRecursion (λ q. R k q ≡ Less) (keys_of es) → AllByRecursion (λ q. text_cmp (text k) q ≡ Less) (keys_of (by_texts text es))
  above k [] all = tt
  above k (e ∷ es) all = (sym (in_order k e.0) ∙ all.0, above k es all.1)

  pub sorted-texts : (es : List (K × V)) → IsStrictlySortedBy R (keys_of es) → IsStrictlySortedBy text_cmp (keys_of (by_texts text es))
  unfolding IsStrictlySortedBy
  sorted-texts [] sorted = tt
  sorted-texts (e ∷ es) sorted = (above e.0 es sorted.0, sorted-texts es sorted.1)

  abbrev view : List (K × V) → map.FinMap text_cmp V
  view es = map.from_entries (by_texts text es)

  pub get-view : (es : List (K × V)) (q : K) → map.get (view es) (text q) ≡ lookup (is_at (R q)) es
  get-view es q = mapped.get-view nat_list_cmp_total (by_texts text es) (text q) ∙ sym (lookup-texts q es)

  length-texts : (es : List (K × V)) → length (by_texts text es) ≡ length es
  length-texts [] = refl
  length-texts (e ∷ es) = ap suc (length-texts es)

  keys-texts : (es : List (K × V)) → keys_of (by_texts text es) ≡ each text (keys_of es)
  keys-texts [] = refl
  keys-texts (e ∷ es) = ap (λ ks. text e.0 ∷ ks) (keys-texts es)

  values-texts : (es : List (K × V)) → values_of (by_texts text es) ≡ values_of es
  values-texts [] = refl
  values-texts (e ∷ es) = ap (λ vs. e.1 ∷ vs) (values-texts es)

  entries-view : (es : List (K × V)) → IsStrictlySortedBy R (keys_of es) → map.entries (view es) ≡ by_texts text es
  entries-view es sorted = mapped.entries-view nat_list_cmp_total (by_texts text es) (sorted-texts es sorted)

  pub len-view : (es : List (K × V)) → IsStrictlySortedBy R (keys_of es) → map.len (view es) ≡ length es
  len-view es sorted = mapped.len-view nat_list_cmp_total (by_texts text es) (sorted-texts es sorted) ∙ length-texts es

  pub keys-view : (es : List (K × V)) → IsStrictlySortedBy R (keys_of es) → map.keys (view es) ≡ each text (keys_of es)
  keys-view es sorted = ap keys_of (entries-view es sorted) ∙ keys-texts es

  pub values-view : (es : List (K × V)) → IsStrictlySortedBy R (keys_of es) → map.values (view es) ≡ values_of es
  values-view es sorted = ap values_of (entries-view es sorted) ∙ values-texts es

  pub insert-view : (old new : List (K × V)) (k : K) (v : V) → new ≡ insert_entry R old k v → view new ≡ map.insert (view old) (text k) v
  insert-view old new k v is = ap view is ∙ ap (λ es. map.from_entries es) (insert-texts old k v) ∙ inserted (by_texts text old) (text k) v

  pub remove-view : (old new : List (K × V)) (k : K) → IsStrictlySortedBy R (keys_of old) → new ≡ remove_entry (is_at (R k)) old → view new ≡ map.remove (view old) (text k)
  remove-view old new k sorted is = mapped.view-update nat_list_cmp_total same_texts (by_texts text new) (by_texts text old) _ (text k) None
      (map.get-remove nat_list_cmp_total _ (text k))
      (λ q. ap (λ es. lookup (is_at (text_cmp q)) (by_texts text es)) is ∙ ap (lookup (is_at (text_cmp q))) (remove-texts k old)
      ∙ lookup-remove_entry (eq_by_cmp_equiv nat_list_cmp_total) (is_at (text_cmp (text k))) (tied (text k)) q (by_texts text old)
      (IsDistinct-from_sorted text_cmp _ (sorted-texts old sorted)))

  pub set-view : (old new : List (K × V)) (k : K) (w : V) → IsSome (lookup (is_at (R k)) old) → new ≡ set_value (is_at (R k)) old w → view new ≡ map.insert (view old) (text k) w
  set-view old new k w some is = mapped.view-update nat_list_cmp_total same_texts (by_texts text new) (by_texts text old) _ (text k) (Some w)
      (map.get-insert nat_list_cmp_total _ (text k) w)
      (λ q. ap (λ es. lookup (is_at (text_cmp q)) (by_texts text es)) is ∙ ap (lookup (is_at (text_cmp q))) (set-texts k old w)
      ∙ lookup-set_value (eq_by_cmp_equiv nat_list_cmp_total) (is_at (text_cmp (text k))) (tied (text k)) q w (by_texts text old)
      (rw (← lookup-texts k old) some))

  pub popped : (result : Option (K × V)) (old new : List (K × V)) (before after : map.FinMap text_cmp V) → view old ≡ before → view new ≡ after
      → IsStrictlySortedBy R (keys_of old) → IsStrictlySortedBy R (keys_of new) → (0 < length old → IsSome result) → IfSome result (λ p. old ≡ p ∷ new) → length new ≤ length old
      → MatchOption result ((map.entries before ≡ []) × (map.entries after ≡ [])) (λ p. map.entries before ≡ (text p.0, p.1) ∷ map.entries after)
  popped None old new before after is_before is_after sorted sorted_after some first len =
      let none = mapped.nothing old some in (
        sym (ap map.entries is_before) ∙ entries-view old sorted ∙ ap (by_texts text) none,
        sym (ap map.entries is_after) ∙ entries-view new sorted_after ∙ ap (by_texts text) (mapped.left_nothing old new none len),
      )
  popped (Some p) old new before after is_before is_after sorted sorted_after some first len =
      sym (ap map.entries is_before) ∙ entries-view old sorted ∙ ap (by_texts text) first ∙ ap (λ l. (text p.0, p.1) ∷ l) (sym (entries-view new sorted_after) ∙ ap map.entries is_after)

  pub copy-view : {C : K → K → Type 0} {D : V → V → Type 0} → ((x y : K) → C x y → y ≡ x) → ((x y : V) → D x y → y ≡ x) → (old new : List (K × V))
      → AllZip (λ p q. C p.0 q.0 × D p.1 q.1) old new → view new ≡ view old
  copy-view keys values old new copies = ap view (same_from_all_zip _ _ _ copies (λ p q h. λ i. (keys p.0 q.0 h.0 i, values p.1 q.1 h.1 i)))
