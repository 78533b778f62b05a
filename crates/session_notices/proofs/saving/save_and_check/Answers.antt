use Rattle.std.proofs.Common.{◌≡◌, Bool, rules, subst}
use Rattle.session_port.specs.Refines.{Refines}
use Rattle.session_model.specs.Machine.{file_checked_if, saved_file}
use Rattle.session_notices.proofs.Followed.{behind_total}
use Rattle.session_notices.proofs.saving.save_and_check.Goals as goal

pub returns : goal.returns
returns c =
    subst (λ (checks : Bool). Refines c.check_file_if.result (file_checked_if checks c.args.path (saved_file c.args.path (record { state = c.args.store.now; out = c.args.out.now }))) c.check_file_if.new.store c.check_file_if.new.out)
    (search rules)
    (behind_total c.check_file_if.result (file_checked_if c.checks_on_save-checks.result c.args.path) _ _ _ _ c.in_ok-save.ensures c.check_file_if.ensures)
