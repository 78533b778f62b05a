use Rattle.std.proofs.Common.{sym, ap, subst}
use Rattle.inbox.specs.Counts.{counted}
use Rattle.inbox.specs.Posting.{IsPosting, bytes_of, of_reader}
use Rattle.task_pool.proofs.Crews.{none_run}
use Rattle.task_pool.proofs.crew.Crew.new.Goals as goal

pub invariant_of-result : goal.invariant_of-result
invariant_of-result g c =
    let v = c.args.inbox.pass.me.view.client in (
      (c.args.inbox.takes, subst (λ t. IsPosting v.faults v.held (of_reader t)) (sym c.requires.none) tt),
      c.requires.reader,
      ap (λ t. counted (bytes_of t)) (sym c.requires.none),
      none_run _ _ _ _ _ _ c.new-2.ensures,
    )
