-- What was posted when the threads were joined.
use Rattle.std.proofs.Common.{◌≡◌, ℕ, true, List, ◌++◌, Option, Some, sym, subst, ap, ◌∙◌}
use Rattle.inbox.specs.Counts.{counted}
use Rattle.inbox.specs.Posting.{IsPosting, bytes_of}
use Rattle.inbox.specs.Readers.{HasEnded}
use Rattle.inbox.specs.Rule.{IsBeginning}
use Rattle.inbox.specs.declared.entry.Entry.{Entry}
use Rattle.inbox.specs.declared.entry.Knows.{Knows}
use Rattle.inbox.proofs.Prefixes.{posted_all, posting_prefix, taken_begins}
use Rattle.task_pool.specs.Finishing.{IsFinished}
use Rattle.task_pool.specs.declared.crew.Finished.{Finished}

-- by the host's pass and what the reader posted
pub finishes : (v : Knows) (posted : List Entry) (f : Finished) → IsBeginning v.taken posted → IsPosting v.faults v.held posted
    → f.posted ≡ counted (bytes_of posted) → f.taken ≡ counted (bytes_of v.taken) → (f.ended ≡ true → HasEnded posted)
    → IsFinished v.held (bytes_of v.taken) f
finishes v posted f begins may is its ended =
    let front = taken_begins v.taken posted begins in
    record {
      bytes = bytes_of posted;
      rest = front.0;
      held_first = posting_prefix v.faults v.held posted may;
      given_first = front.1;
      posted = is;
      taken = its;
      all = λ e whole held. posted_all v.faults v.held posted may (ended e) whole held;
    }
