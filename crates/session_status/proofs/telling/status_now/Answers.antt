use Rattle.std.proofs.Common.{◌≡◌, ◌∙◌, subst}
use Rattle.std.specs.Prelude.{IfOk}
use Rattle.status.specs.Facts.{status_of}
use Rattle.status.specs.declared.status.Status.{Status}
use Rattle.status.specs.declared.status.StatusInput.{StatusInput}
use Rattle.session_model.specs.Status.{status_now}
use Rattle.session_status.proofs.telling.status_now.Goals as goal

pub returns : goal.returns
unfolding status_now
returns c =
    subst (λ (input : StatusInput). IfOk c.status_with.result (λ (status : Status). status ≡ status_of input))
    ((λ i. record c.in_ok-facts.facts { linked = c.linked_projects.ensures i; workspaces = c.present.ensures i }) ∙ c.in_ok-facts.ensures) c.status_with.ensures
