-- A queue of one operation: the request that waits, whether one runs, and the result of the last that ended.
use Rattle.std.specs.Prelude.{ℕ, Bool, false, List, Option, None, is_some, cond}

pub record Queue (Args Output : Type 0) : Type 0 where
  pub waiting : Option (List ℕ × Args)
  pub in_progress : Bool
  pub last : Option Output

-- nothing was requested, and nothing ran
abbrev pub new_queue : {A O : Type 0} → Queue A O
new_queue = record { waiting = None; in_progress = false; last = None }

-- the request that is to start: the waiting one, where none runs
abbrev pub starts : {A O : Type 0} → Queue A O → Option (List ℕ × A)
starts q = cond q.in_progress None q.waiting

-- after the request that is to start, if there is one, was handed out
abbrev pub after_start : {A O : Type 0} → Queue A O → Queue A O
after_start q = cond q.in_progress q (record { waiting = None; in_progress = is_some q.waiting; last = q.last })
