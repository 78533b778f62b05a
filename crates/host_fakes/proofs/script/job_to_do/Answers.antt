use Rattle.std.proofs.Common.{cond, ap, sym, ◌∙◌}
use Rattle.std.specs.Prelude.{None, is_some, option_copied}
use Rattle.host_fakes.specs.Script.{asked_at, left_out}
use Rattle.host_fakes.proofs.Scripts.{asked_none, done_again, left_asked, left_done}
use Rattle.host_fakes.proofs.script.job_to_do.Goals as goal

pub returns-in_default-clause-found : goal.returns-in_default-clause-found
returns-in_default-clause-found c =
    sym (asked_none c.args.out.now c.args.done.now c.args.number (sym c.asked_at.ensures ∙ ap option_copied c.in_default.is))

pub returns-in-Some-2-clause-found : goal.returns-in-Some-2-clause-found
returns-in-Some-2-clause-found c =
    sym (left_asked c.args.out.now c.args.done.now c.args.number
    ∙ ap (λ found. cond (is_some found) None (asked_at c.args.number c.args.out.now)) (sym c.in_ok-insert.ensures.old ∙ c.in-Some-2.is))

pub returns-in-Some-2-clause-done : goal.returns-in-Some-2-clause-done
returns-in-Some-2-clause-done c =
    ap (left_out c.args.out.now) c.in_ok-insert.ensures.ok
    ∙ done_again c.args.out.now c.args.done.now c.args.number _ (sym c.in_ok-insert.ensures.old ∙ c.in-Some-2.is)

pub returns-in-None-clause-found : goal.returns-in-None-clause-found
returns-in-None-clause-found c =
    ap option_copied (sym c.in-Some.is) ∙ c.asked_at.ensures
    ∙ sym (left_asked c.args.out.now c.args.done.now c.args.number
    ∙ ap (λ found. cond (is_some found) None (asked_at c.args.number c.args.out.now)) (sym c.in_ok-insert.ensures.old ∙ c.in-None.is))

pub returns-in-None-clause-done : goal.returns-in-None-clause-done
returns-in-None-clause-done c = ap (left_out c.args.out.now) c.in_ok-insert.ensures.ok ∙ left_done c.args.out.now c.args.done.now c.args.number
