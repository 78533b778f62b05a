use Rattle.std.proofs.Common.{◌≡◌, ◌++◌, [], ◌∷◌, not, take, sym, ap, subst, ◌∙◌}
use Rattle.std.specs.Prelude.{is_some}
use Rattle.std.specs.FinMap as map
use Rattle.std.specs.List.{list_any}
use Rattle.std.proofs.lemmas.List.{take_more}
use Rattle.plain.specs.Texts.{optional_text, text_cmp}
use Rattle.small_project.specs.Workspaces.{are_alike}
use Rattle.small_project.proofs.Listed.{Knows, key_of, knows-more, listed_new, listed_old}
use Rattle.small_project.proofs.answers.workspaces_of.Goals as goal
use Rattle.small_project.proofs.answers.workspaces_of.Goals.{then-is_none+in_ok-workspace_of+in_ok-push, else-is_none}

pub loop-project-init : goal.loop-project-init
loop-project-init c = record {
  listed = c.new-workspaces.ensures;
  known = λ project. ap (λ m. is_some (map.get m (key_of project))) c.new-manifests.ensures ∙ ap is_some (map.get-empty text_cmp (key_of project));
}

pub loop-project-preserved : goal.loop-project-preserved
loop-project-preserved c =
    let before = take c.loop-project.project-index c.args.projects.now in
    let project = c.project-item.result in
    let manifests = c.loop-project.manifests in
    let next = take_more c.args.projects.now c.loop-project.project-index project c.loop-project-test.true in
    let more = next ∙ ap (λ y. before ++ y ∷ []) (sym c.project-item.is) in
    let put = c.in_ok-earlier.ensures.ok ∙ ap (λ m. map.insert manifests (optional_text (λ path. path) m) tt) c.in_ok-manifest_of.ensures in
    let was = c.in_ok-earlier.ensures.old ∙ ap (λ m. map.get manifests (optional_text (λ path. path) m)) c.in_ok-manifest_of.ensures in
    let known : is_some c.in_ok-earlier.earlier ≡ list_any (are_alike project) before = ap is_some was ∙ c.loop-project.invariant.known project in
    let none : is_some c.in_ok-earlier.earlier ≡ not c.is_none.result = c.is_none.ensures in
    record {
      listed = elim c.if-is_none.branch [
        | then-is_none+in_ok-workspace_of+in_ok-push w ↦
            listed_new before _ project _ c.in_ok-earlier.earlier more c.loop-project.invariant.listed known _ _ (none ∙ ap not w.if-is_none.true)
            w.in_ok-workspace_of.ensures (w.workspaces-is ∙ w.in_ok-push.ensures.ok)
        | else-is_none w ↦
            listed_old before _ project _ c.in_ok-earlier.earlier more c.loop-project.invariant.listed known _ (none ∙ ap not w.if-is_none.false)
            w.workspaces-is
      ];
      known = subst (Knows c.insert.new.self) (sym more)
          (subst (λ m. Knows m (before ++ project ∷ [])) (sym put) (knows-more manifests before project c.loop-project.invariant.known));
    }
