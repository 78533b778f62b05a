-- The keys of a map, where one that is there gets another value; and what is asked of each key of a map.
use Rattle.std.proofs.Common.{◌≡◌, ℕ, suc, List, [], ◌∷◌, length, map as each, Bool, true, false, refl, sym, ap, ◌∙◌, arith}
use Rattle.std.specs.Prelude.{◌||◌, is_some, Option}
use Rattle.std.specs.FinMap as map
use Rattle.std.specs.List.{cons_option, filter_map, list_any}
use Rattle.std.specs.Ordering.{eq_by_cmp}
use Rattle.std.proofs.Common.{Ordering}
use Rattle.std.specs.declared.cmp.Ordering.TheVariants.{Less, Equal, Greater}
use Rattle.std.specs.Cmp.Lexicographic.{nat_list_cmp_total}
use Rattle.std.proofs.lemmas.Bool.{cond-true, true≢false}
use Rattle.std.specs.FinMap.Entries.{by_order, put}
use Rattle.docs_vfs.specs.Paths.{path_cmp}
use Rattle.docs_vfs.proofs.PutLemmas.{itself, same_path}

-- ---- a key that is there

no-more : {P : Type 0} (n : ℕ) → suc (suc n) ≡ suc n → P
no-more n e = absurd (omega (arith, e))

one-none : {P : Type 0} → suc 0 ≡ 0 → P
one-none e = absurd (omega (arith, e))

one-less : (n m : ℕ) → suc n ≡ suc m → n ≡ m
one-less n m e = omega (arith, e)

module _ {X : Type 0} where
  abbrev keys_in : List (List ℕ × X) → List (List ℕ)
  keys_in es = each (λ (e : List ℕ × X). e.0) es

  put-cases : (r : Ordering) (k : List ℕ) (v : X) (e : List ℕ × X) (es : List (List ℕ × X))
      → length (by_order r ((k, v) ∷ e ∷ es) ((e.0, v) ∷ es) (e ∷ put path_cmp k v es)) ≡ length (e ∷ es)
      → (length (put path_cmp k v es) ≡ length es → keys_in (put path_cmp k v es) ≡ keys_in es)
      → keys_in (by_order r ((k, v) ∷ e ∷ es) ((e.0, v) ∷ es) (e ∷ put path_cmp k v es)) ≡ keys_in (e ∷ es)
  put-cases Less k v e es same rest = no-more (length es) same
  put-cases Equal k v e es same rest = refl
  put-cases Greater k v e es same rest = ap (λ ks. e.0 ∷ ks) (rest (one-less _ _ same))

  put-keys : (k : List ℕ) (v : X) (es : List (List ℕ × X)) → length (put path_cmp k v es) ≡ length es → keys_in (put path_cmp k v es) ≡ keys_in es
  put-keys k v [] same = one-none same
  put-keys k v (e ∷ es) same = put-cases (path_cmp k e.0) k v e es same (put-keys k v es)

  pub keys-insert : (m : map.FinMap path_cmp X) (k : List ℕ) (v : X) → is_some (map.get m k) ≡ true → map.keys (map.insert m k v) ≡ map.keys m
  keys-insert m k v there =
      let now = map.entries-insert nat_list_cmp_total m k v in
      ap keys_in now ∙ put-keys k v (map.entries m)
      (ap length (sym now) ∙ sym (map.len-entries (map.insert m k v)) ∙ map.len-insert nat_list_cmp_total m k v ∙ cond-true _ _ _ there ∙ map.len-entries m)

-- ---- each key

agree : {Y : Type 0} (f g : List ℕ → Option Y) (ks : List (List ℕ)) → ((q : List ℕ) → list_any (eq_by_cmp path_cmp q) ks ≡ true → f q ≡ g q)
    → filter_map f ks ≡ filter_map g ks
agree f g [] same = refl
agree f g (k ∷ ks) same =
    λ i. cons_option (same k (here k ks) i) (agree f g ks (λ q among. same q (there q k ks among)) i)
  where
    first : (a b : Bool) → a ≡ true → (a || b) ≡ true
    first true b h = refl
    first false b h = absurd (true≢false (sym h))

    second : (a b : Bool) → b ≡ true → (a || b) ≡ true
    second true b h = refl
    second false b h = h

    here : (k : List ℕ) (ks : List (List ℕ)) → list_any (eq_by_cmp path_cmp k) (k ∷ ks) ≡ true
    here k ks = first _ _ (same_path k k ∙ itself k)

    there : (q k : List ℕ) (ks : List (List ℕ)) → list_any (eq_by_cmp path_cmp q) ks ≡ true → list_any (eq_by_cmp path_cmp q) (k ∷ ks) ≡ true
    there q k ks among = second _ _ among

-- what is so of each key that is there
pub keys-agree : {X Y : Type 0} (f g : List ℕ → Option Y) (m : map.FinMap path_cmp X) → ((q : List ℕ) → is_some (map.get m q) ≡ true → f q ≡ g q)
    → filter_map f (map.keys m) ≡ filter_map g (map.keys m)
keys-agree f g m same = agree f g (map.keys m) (λ q among. same q (map.contains_key-keys m q ∙ among))
