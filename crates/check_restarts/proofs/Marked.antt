-- A list of roots and the map of it hold the same.
use Rattle.std.proofs.Common.{◌≡◌, ℕ, Bool, true, false, cond, List, [], ◌∷◌, ◌++◌, length, map, filter, Option, is_some, append-nil, refl, sym, ap, ◌∙◌}
use Rattle.std.specs.Prelude.{bytes_eq, if◌then◌else◌}
use Rattle.std.specs.List.{list_any}
use Rattle.std.specs.FinMap as by_key
use Rattle.std.specs.FinMap.Entries.{is_some-find}
use Rattle.std.specs.Ordering.{eq_by_cmp}
use Rattle.std.specs.Cmp.Lexicographic.{nat_list_cmp_total, texts_ties}
use Rattle.docs_vfs.specs.Paths.{path_cmp}
use Rattle.plain.proofs.Mapped.{from_entries-push}
use Rattle.std.proofs.lemmas.List.{map-append}
use Rattle.project_model.specs.declared.crates.CrateInfo.{CrateInfo}
use Rattle.project_model.specs.declared.target_spec.TargetSpec.{TargetSpec}
use Rattle.project_model.specs.declared.workspace.ProjectWorkspace.{ProjectWorkspace}
use Rattle.check_restarts.specs.Affected.{affected_of}
use Rattle.check_restarts.specs.Among.{is_among, marked, as_map, holds}
use Rattle.check_restarts.specs.Restarts.{first_target, restart_at, alone, place_of, is_affected, or_all, others, others_of, restarts_of, AreRestarts}
use Rattle.project_model.specs.declared.check_scope.Restart.{Restart}
use Rattle.check_restarts.proofs.RoundLaws.{affected_is, affected_only}

roots_marked : (roots : List (List ℕ)) → map (λ e. e.0) (map marked roots) ≡ roots
roots_marked [] = refl
roots_marked (root ∷ rest) = ap (λ l. root ∷ l) (roots_marked rest)

same_test : (root : List ℕ) → eq_by_cmp path_cmp root ≡ bytes_eq root
same_test root = λ i other. sym (texts_ties root other) i

pub holds_same : (roots : List (List ℕ)) → holds (as_map roots) ≡ is_among roots
holds_same roots = λ i root. (
    ap is_some (by_key.get-from_entries nat_list_cmp_total (map marked roots) root) ∙ is_some-find path_cmp root (map marked roots)
    ∙ ap (list_any (eq_by_cmp path_cmp root)) (roots_marked roots) ∙ ap (λ test. list_any test roots) (same_test root)) i

-- one root more
pub as_map-more : (before : List (List ℕ)) (root : List ℕ)
    → (if is_some (by_key.get (as_map before) root) then as_map before else by_key.insert (as_map before) root true) ≡ as_map (before ++ root ∷ [])
as_map-more before root =
    sym (from_entries-push nat_list_cmp_total (by_key.slice_cmp-IsAntisymmetric by_key.nat_cmp-IsAntisymmetric) (map marked before) root true)
    ∙ ap (λ es. by_key.from_entries {R = path_cmp} es) (sym (map-append marked before (root ∷ [])))

-- the package's own restart and then those of the others
pub both : (check_workspace : Bool) (crates : List CrateInfo) (paths roots : List (List ℕ)) (workspaces : List ProjectWorkspace) (checks saved : List ℕ) (target : Option TargetSpec)
    (place : Option ℕ) (none own list : List Restart) → target ≡ first_target workspaces roots → none ≡ [] → own ≡ none ++ alone check_workspace workspaces checks saved target
    → place ≡ place_of check_workspace workspaces target
    → list ≡ own ++ cond check_workspace (map (restart_at saved) (others_of crates paths roots workspaces checks place)) []
    → list ≡ restarts_of check_workspace crates paths roots workspaces checks saved
both check_workspace crates paths roots workspaces checks saved target place none own list same none_is own_is place_is all =
    let first : own ≡ alone check_workspace workspaces checks saved (first_target workspaces roots) =
    own_is ∙ ap (λ (l : List Restart). l ++ alone check_workspace workspaces checks saved target) none_is ∙ ap (alone check_workspace workspaces checks saved) same in
    let at : place ≡ place_of check_workspace workspaces (first_target workspaces roots) = place_is ∙ ap (place_of check_workspace workspaces) same in
    let rest : Option ℕ → List Restart = λ p. cond check_workspace (map (restart_at saved) (others_of crates paths roots workspaces checks p)) [] in
    all ∙ ap (λ (o : List Restart). o ++ rest place) first
    ∙ ap (λ (p : Option ℕ). alone check_workspace workspaces checks saved (first_target workspaces roots) ++ rest p) at

-- the others that restart where these roots are affected
pub others_are : (crates : List CrateInfo) (paths roots : List (List ℕ)) (workspaces : List ProjectWorkspace) (checks saved : List ℕ) (place : Option ℕ) (affected slice : List (List ℕ))
    (rows : by_key.FinMap path_cmp Bool) (some some_slice ids : List ℕ) (old new : List Restart) → affected ≡ affected_of crates paths roots → slice ≡ affected → rows ≡ as_map slice
    → some ≡ filter (is_affected (holds rows) workspaces place) checks → some_slice ≡ some → ids ≡ or_all checks place some_slice → new ≡ old ++ map (restart_at saved) ids
    → new ≡ old ++ map (restart_at saved) (others_of crates paths roots workspaces checks place)
others_are crates paths roots workspaces checks saved place affected slice rows some some_slice ids old new are same rows_are some_are some_same ids_are all =
    let found : slice ≡ affected_of crates paths roots = same ∙ are in
    let test : holds rows ≡ is_among (affected_of crates paths roots) =
    ap holds rows_are ∙ ap (λ (l : List (List ℕ)). holds (as_map l)) found ∙ holds_same (affected_of crates paths roots) in
    let which : ids ≡ others_of crates paths roots workspaces checks place =
    ids_are ∙ ap (or_all checks place) (some_same ∙ some_are ∙ ap (λ (t : List ℕ → Bool). filter (is_affected t workspaces place) checks) test) in
    all ∙ ap (λ (l : List ℕ). old ++ map (restart_at saved) l) which

pub restarts_are : (check_workspace : Bool) (crates : List CrateInfo) (paths roots : List (List ℕ)) (workspaces : List ProjectWorkspace) (checks saved : List ℕ)
    → length paths ≡ length crates
    → AreRestarts check_workspace crates paths roots workspaces checks saved (restarts_of check_workspace crates paths roots workspaces checks saved)
restarts_are true crates paths roots workspaces checks saved same =
    let affected = affected_of crates paths roots in
    let ids = others_of crates paths roots workspaces checks (place_of true workspaces (first_target workspaces roots)) in
    (ids, (affected, affected_is crates paths roots same, refl), refl)
restarts_are false crates paths roots workspaces checks saved same = append-nil (alone false workspaces checks saved (first_target workspaces roots))

pub restarts_only : (check_workspace : Bool) (crates : List CrateInfo) (paths roots : List (List ℕ)) (workspaces : List ProjectWorkspace) (checks saved : List ℕ) (list : List Restart)
    → length paths ≡ length crates → AreRestarts check_workspace crates paths roots workspaces checks saved list
    → list ≡ restarts_of check_workspace crates paths roots workspaces checks saved
restarts_only true crates paths roots workspaces checks saved list same are =
    let place = place_of true workspaces (first_target workspaces roots) in
    let ids : are.0 ≡ others_of crates paths roots workspaces checks place =
    are.1.2 ∙ ap (λ (a : List (List ℕ)). others (is_among a) workspaces checks place) (affected_only crates paths roots are.1.0 same are.1.1) in
    are.2 ∙ ap (λ (l : List ℕ). alone true workspaces checks saved (first_target workspaces roots) ++ map (restart_at saved) l) ids
restarts_only false crates paths roots workspaces checks saved list same are =
    are ∙ sym (append-nil (alone false workspaces checks saved (first_target workspaces roots)))
