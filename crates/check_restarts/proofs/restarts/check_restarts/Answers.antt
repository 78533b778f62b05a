use Rattle.check_restarts.proofs.Marked.{both}
use Rattle.check_restarts.proofs.restarts.check_restarts.Goals as goal

pub returns : goal.returns
returns c =
    let a = c.args in
    both a.check_workspace a.crates.now a.paths.now a.roots.now a.workspaces.now a.checks.now a.saved.now c.in_ok-target.target c.in_ok-place.place _ _ _
    c.in_ok-target.ensures c.new-list.ensures c.in_ok-place.ensures.list c.in_ok-place.ensures.place c.in_ok-push_others_if.ensures
