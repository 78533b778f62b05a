-- The entries of a table of hashes as a finite map.
use Rattle.std.proofs.Common.{◌≡◌, ℕ, List, [], ◌∷◌, refl, sym, ap, ◌∙◌}
use Rattle.std.specs.Prelude.{Option, Some, cond, nat_eq}
use Rattle.std.specs.Map.{lookup}
use Rattle.std.specs.Ordering.{eq_by_cmp}
use Rattle.std.specs.Cmp.{eq_by_cmp_equiv}
use Rattle.std.specs.Cmp.Lexicographic.{pointwise, nat_list_cmp_total, texts_ties}
use Rattle.std.specs.FinMap as map
use Rattle.docs_vfs.specs.Paths.{path_cmp}

same_paths : map.IsAntisymmetric path_cmp
same_paths = map.slice_cmp-IsAntisymmetric map.nat_cmp-IsAntisymmetric

module _ {V : Type 0} where
  find-lookup : (q : List ℕ) (es : List (List ℕ × V)) → map.find path_cmp q es ≡ lookup (pointwise nat_eq q) es
  find-lookup q [] = refl
  find-lookup q (e ∷ es) = λ i. cond (sym (texts_ties q e.0) i) (Some e.1) (find-lookup q es i)

  -- the map answers at a path as the table does
  pub get-view : (es : List (List ℕ × V)) (q : List ℕ) → map.get (map.from_entries {R = path_cmp} es) q ≡ lookup (pointwise nat_eq q) es
  get-view es q = map.get-from_entries nat_list_cmp_total es q ∙ find-lookup q es

  -- a table that answers as the old one does but at one path is the old map changed there
  pub view-update : (new old : List (List ℕ × V)) (changed : map.FinMap path_cmp V) (k : List ℕ) (w : Option V)
      → ((q : List ℕ) → map.get changed q ≡ cond (eq_by_cmp path_cmp q k) w (map.get (map.from_entries {R = path_cmp} old) q))
      → ((q : List ℕ) → lookup (pointwise nat_eq q) new ≡ cond (pointwise nat_eq k q) w (lookup (pointwise nat_eq q) old))
      → map.from_entries {R = path_cmp} new ≡ changed
  view-update new old changed k w is updates = map.same_map nat_list_cmp_total same_paths _ _ (λ q.
      get-view new q ∙ updates q ∙ ap (cond (pointwise nat_eq k q) w) (sym (get-view old q))
      ∙ ap (λ b. cond b w (map.get (map.from_entries {R = path_cmp} old) q)) (texts_ties k q ∙ (eq_by_cmp_equiv nat_list_cmp_total).symm k q) ∙ sym (is q))
