use Rattle.std.proofs.Common.{◌≡◌, true, rules}
use Rattle.status.specs.Same.{is_same_status}
use Rattle.session_model.specs.Status.{facts_known, is_quiescent, status_now}
use Rattle.session_status.specs.Well.{well_status}
use Rattle.session_status.proofs.Told.{carried, same_where}
use Rattle.session_status.proofs.well.is_told.Goals as goal

pub returns : goal.returns
unfolding status_now
returns c =
    let same : is_same_status c.args.last.now (well_status (is_quiescent c.args.files.now c.args.workspaces.now)) ≡ true = search rules in
    carried c.is_well.result _ _ (same_where c.args.last.now (facts_known c.args.client.now c.args.files.now c.args.workspaces.now c.args.checks.now) same) c.is_well.ensures
