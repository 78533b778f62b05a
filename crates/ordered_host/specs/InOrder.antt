-- What the host on one thread gives, and when, by the bytes of its source and by the calls so far.
use Rattle.std.specs.Prelude.{◌≡◌, ◌≢◌, ◌<◌, ℕ, Bool, false, List, [], ◌∷◌, ◌++◌, map, length, drop, Option, None, Some}
use Rattle.std.specs.List.{AllZip}
use Rattle.std.specs.FinMap as map
use Rattle.host_orders.specs.HostOrders.{none_kept}
use Rattle.lsp_frame.specs.Frames.{cut_of}
use Rattle.session_port.specs.Events.{event_bytes}
use Rattle.session_port.specs.Jobs.{Jobs}
use Rattle.session_port.specs.Record.{HostCall, gave, took, after_event, after_order, before_piece}
use Rattle.session_port.specs.Runs.{AreUncancelled}
use Rattle.session_port.specs.declared.command.Command.{Command}
use Rattle.session_port.specs.declared.event.HostEvent.{HostEvent}
use Rattle.session_port.specs.declared.event.HostEvent.TheVariants.{Bytes, Ended, Tasks, Flycheck, TestResult}
use Rattle.session_port.specs.declared.event.HostEvent.TheVariants.{DiscoverProject}
use Rattle.session_port.specs.declared.event.TaskMsg.{TaskMsg}
use Rattle.inline_host.specs.Coming.{orders_after}
use Rattle.inline_host.specs.Inline.{InlineData, IsFirstPiece, waiting}
use Rattle.inline_host.specs.Orders.{Orders, after_commands, next_answer}
use Rattle.inline_host.specs.Results.{IsOfProject}

-- the jobs out, the other orders that are not answered, and the bytes not given
pub record Standing : Type 0 where
  pub out : Jobs
  pub orders : Orders
  pub left : List ℕ

-- before any call, on a source of these bytes
abbrev pub beginning : List ℕ → Standing
beginning bytes = record { out = map.empty; orders = none_kept; left = bytes }

abbrev pub after_gave : HostEvent → Standing → Standing
after_gave event s = record {
  out = after_event event s.out;
  orders = orders_after event s.orders;
  left = drop (length (event_bytes event)) s.left;
}

abbrev pub after_took : List Command → Standing → Standing
after_took commands s = record {
  out = after_order commands s.out;
  orders = after_commands commands s.orders;
  left = s.left;
}

abbrev pub after_calls : List HostCall → Standing → Standing
after_calls [] s = s
after_calls (gave event ∷ calls) s = after_calls calls (after_gave event s)
after_calls (took commands ∷ calls) s = after_calls calls (after_took commands s)

-- bytes come while no job is out and no order waits for its answer: the next frame, where the bytes begin with one
pub record AreNextBytes (s : Standing) (piece : List ℕ) : Type 0 where
  pub idle : s.out ≡ map.empty
  pub answered : next_answer s.orders ≡ None
  pub some : 0 < length piece
  pub first : IsFirstPiece piece s.left (cut_of s.left)
  pub parted : s.left ≡ piece ++ drop (length piece) s.left

-- while jobs are out, one batch has the results of all of them, by number, and nothing stopped any; the host's own jobs
-- end as those of a project of which nothing is known but where it lies
pub record AreNextResults (s : Standing) (batch : List TaskMsg) : Type 0 where
  pub busy : s.out ≢ map.empty
  pub numbers : map (λ message. message.job) batch ≡ map.keys s.out
  pub uncancelled : AreUncancelled batch
  pub project : AllZip IsOfProject (map.values s.out) batch

-- while no job is out, the answer that is due comes
pub record IsNextAnswer (s : Standing) (event : HostEvent) : Type 0 where
  pub idle : s.out ≡ map.empty
  pub due : next_answer s.orders ≡ Some event

-- the end comes where nothing is left to do or to give
pub record IsAtEnd (s : Standing) : Type 0 where
  pub idle : s.out ≡ map.empty
  pub answered : next_answer s.orders ≡ None
  pub none : s.left ≡ []

abbrev pub IsNext : Standing → HostEvent → Type 0
IsNext s (Bytes piece) = AreNextBytes s piece
IsNext s (Tasks batch) = AreNextResults s batch
IsNext s Ended = IsAtEnd s
IsNext s (Flycheck messages) = ⊥
IsNext s (TestResult messages) = ⊥
IsNext s (DiscoverProject messages) = ⊥
IsNext s other = IsNextAnswer s other

-- each event came in its order
abbrev pub AreInOrder : Standing → List HostCall → Type 0
AreInOrder s [] = Unit {0}
AreInOrder s (gave event ∷ calls) = IsNext s event × AreInOrder (after_gave event s) calls
AreInOrder s (took commands ∷ calls) = AreInOrder (after_took commands s) calls

-- the bytes that calls gave
abbrev pub bytes_given : List HostCall → List ℕ
bytes_given [] = []
bytes_given (gave event ∷ calls) = event_bytes event ++ bytes_given calls
bytes_given (took commands ∷ calls) = bytes_given calls

-- the host, and whether a call of it has failed
pub record OrderedData : Type 0 where
  pub host : InlineData
  pub failed : Bool

-- the bytes that were given, and then those that wait: all that the source had, if it and the host tell
abbrev pub whole_of : Option (List HostCall) → Option (List ℕ) → Option (List ℕ)
whole_of None left = None
whole_of (Some calls) left = before_piece (bytes_given calls) left

abbrev pub stream_of : OrderedData → Option (List ℕ)
stream_of h = whole_of h.host.calls (waiting h.host)

-- what was told is in order, and what the host has follows from it, unless a call has failed
pub record Follows (h : OrderedData) (calls : List HostCall) (left : List ℕ) : Type 0 where
  pub in_order : AreInOrder (beginning (bytes_given calls ++ left)) calls
  pub stands : h.failed ≡ false → after_calls calls (beginning (bytes_given calls ++ left))
      ≡ record { out = h.host.out; orders = h.host.orders; left = left }

pub record IsOrdered (h : OrderedData) : Type 0 where
  pub usable : h.failed ≡ false → h.host.poisoned ≡ false
  pub follows : (calls : List HostCall) (left : List ℕ) → h.host.calls ≡ Some calls → waiting h.host ≡ Some left
      → Follows h calls left
