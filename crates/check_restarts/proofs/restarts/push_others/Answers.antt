use Rattle.check_restarts.proofs.Marked.{others_are}
use Rattle.check_restarts.proofs.restarts.push_others.Goals as goal

pub returns : goal.returns
returns c =
    let a = c.args in
    others_are a.crates.now a.paths.now a.roots.now a.workspaces.now a.checks.now a.saved.now a.place c.in_ok-affected.affected c.as_slice.result.now
    c.in_ok-rows.rows c.in_ok-others.others c.as_slice-2.result.now c.or_all.result.now a.list.now c.push_restarts.new.list
    c.in_ok-affected.ensures c.as_slice.ensures c.in_ok-rows.ensures c.in_ok-others.ensures c.as_slice-2.ensures c.or_all.ensures c.in_ok-push_restarts.ensures
