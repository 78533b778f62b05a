-- What the host on one thread is, and in which order it gives what it has.
use Rattle.std.specs.Prelude.{◌≡◌, ◌≢◌, ◌<◌, ℕ, Bool, List, [], map, length, take, Option, None, Some, if◌then◌else◌}
use Rattle.std.specs.List.{AllZip}
use Rattle.std.specs.FinMap as map
use Rattle.host_orders.specs.HostOrders.{none_kept, after_next}
use Rattle.lsp_frame.specs.Frames.{cut_of}
use Rattle.lsp_frame.specs.declared.frame.Cut.{Cut}
use Rattle.lsp_frame.specs.declared.frame.Cut.TheVariants.{NeedMore, Bad, Frame}
use Rattle.inline_host.specs.Orders.{Orders, next_answer}
use Rattle.inline_host.specs.Results.{IsOfProject}
use Rattle.session_port.specs.Jobs.{Jobs}
use Rattle.session_port.specs.Record.{HostCall, before_piece}
use Rattle.session_port.specs.Runs.{AreUncancelled}
use Rattle.session_port.specs.declared.event.HostEvent.{HostEvent}
use Rattle.session_port.specs.declared.event.TaskMsg.{TaskMsg}

-- the jobs out and the last number handed over, the other orders that are not answered, the bytes that were read and
-- not given, those that the source has left, if it tells, the calls, if they are kept, how often the source has failed,
-- and whether it is poisoned
pub record InlineData : Type 0 where
  pub out : Jobs
  pub last_job : ℕ
  pub orders : Orders
  pub held : List ℕ
  pub left : Option (List ℕ)
  pub calls : Option (List HostCall)
  pub faults : ℕ
  pub poisoned : Bool

-- the bytes not given yet, if the source tells
abbrev pub waiting : InlineData → Option (List ℕ)
waiting h = before_piece h.held h.left

-- a record with nothing in it, if one is kept
abbrev pub started : {X : Type 0} → Bool → Option (List X)
started keep = if keep then Some [] else None

-- the host before any call, on a source that has so much left and has failed so often
abbrev pub new_inline : Option (List ℕ) → ℕ → Bool → Bool → InlineData
new_inline left faults poisoned keep =
    record {
      out = map.empty;
      last_job = 0;
      orders = none_kept;
      held = [];
      left = left;
      calls = started keep;
      faults =
          faults;
      poisoned = poisoned;
    }

-- nothing is left
abbrev pub IsDry : Option (List ℕ) → Type 0
IsDry left = (bytes : List ℕ) → left ≡ Some bytes → bytes ≡ []

-- the piece that comes first of all the bytes: a frame, or all of them where no frame is whole, or, where they are no
-- frame, enough to show it
abbrev pub IsFirstPiece : List ℕ → List ℕ → Cut → Type 0
IsFirstPiece piece all NeedMore = piece ≡ all
IsFirstPiece piece all Bad = cut_of piece ≡ Bad
IsFirstPiece piece all (Frame start end) = piece ≡ take end all

abbrev pub IsNextPiece : List ℕ → Option (List ℕ) → Type 0
IsNextPiece piece None = Unit {0}
IsNextPiece piece (Some all) = IsFirstPiece piece all (cut_of all)

-- bytes come where no job is out and no order waits for its answer, and they are the next of those that wait. Nothing
-- is read where those held show the next piece
pub record GivesBytes (old new : InlineData) (piece : List ℕ) : Type 0 where
  pub idle : old.out ≡ map.empty
  pub answered : next_answer old.orders ≡ None
  pub orders : new.orders ≡ old.orders
  pub some : 0 < length piece
  pub parted : waiting old ≡ before_piece piece (waiting new)
  pub next : IsNextPiece piece (waiting old)
  pub unread : cut_of old.held ≢ NeedMore → new.left ≡ old.left

-- where jobs are out, one batch has the results of all of them, by number, nothing stopped any, and nothing is read.
-- The host's own jobs end as those of a project of which nothing is known but where it lies
pub record GivesResults (old new : InlineData) (batch : List TaskMsg) : Type 0 where
  pub busy : old.out ≢ map.empty
  pub numbers : map (λ message. message.job) batch ≡ map.keys old.out
  pub uncancelled : AreUncancelled batch
  pub project : AllZip IsOfProject (map.values old.out) batch
  pub idle : new.out ≡ map.empty
  pub orders : new.orders ≡ old.orders
  pub held : new.held ≡ old.held
  pub left : new.left ≡ old.left
  pub faults : new.faults ≡ old.faults

-- where no job is out, the answer to an order comes that is due, and nothing is read
pub record GivesAnswer (old new : InlineData) (event : HostEvent) : Type 0 where
  pub idle : old.out ≡ map.empty
  pub due : next_answer old.orders ≡ Some event
  pub orders : new.orders ≡ after_next old.orders
  pub held : new.held ≡ old.held
  pub left : new.left ≡ old.left
  pub faults : new.faults ≡ old.faults

-- the end comes where no job is out, no order waits for its answer, and no byte waits
pub record GivesEnd (old new : InlineData) : Type 0 where
  pub idle : old.out ≡ map.empty
  pub answered : next_answer old.orders ≡ None
  pub orders : new.orders ≡ old.orders
  pub dry : IsDry (waiting old)
  pub waiting : waiting new ≡ waiting old

-- the source is read, and may fail, only where no job is out, no order waits for its answer, and the bytes held don't
-- show the next piece
pub record ReadsNow (old : InlineData) : Type 0 where
  pub idle : old.out ≡ map.empty
  pub answered : next_answer old.orders ≡ None
  pub needs : cut_of old.held ≡ NeedMore
