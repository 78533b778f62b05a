-- What an event leaves, by the clauses of the host on one thread.
use Rattle.std.proofs.Common.{◌≡◌, ℕ, false, List, [], ◌++◌, length, drop, refl, sym, ap, subst, ◌∙◌}
use Rattle.std.specs.Prelude.{Option, None, Some}
use Rattle.std.proofs.Math.Seq.{drop-append_seam}
use Rattle.session_port.specs.Events.{event_bytes, is_news}
use Rattle.session_port.specs.Record.{before_piece}
use Rattle.session_port.specs.declared.command.DeferredTask.{DeferredTask as Task}
use Rattle.session_port.specs.declared.event.LoaderMsg.{LoaderMsg}
use Rattle.session_port.specs.declared.event.TaskMsg.{TaskMsg}
use Rattle.session_port.specs.declared.event.HostEvent.{HostEvent}
use Rattle.session_port.specs.declared.event.HostEvent.TheVariants.{Bytes, Ended, Tasks, DeferredTask, Vfs, Flycheck, TestResult, DiscoverProject, Timer}
use Rattle.inline_host.specs.Coming.{orders_after}
use Rattle.inline_host.specs.Inline.{InlineData, IsNextPiece, GivesAnswer, GivesBytes, GivesEnd, GivesResults, waiting}
use Rattle.ordered_host.specs.InOrder.{IsNext, Standing}

-- nothing before some bytes
pub before_nothing : (left : Option (List ℕ)) → before_piece [] left ≡ left
before_nothing None = refl
before_nothing (Some left) = refl

abbrev pub standing_at : InlineData → List ℕ → Standing
standing_at h left = record { out = h.out; orders = h.orders; left = left }

-- what is known of a host that gave an event
pub record Gave (old new : InlineData) (event : HostEvent) : Type 0 where
  pub orders : new.orders ≡ orders_after event old.orders
  pub parted : waiting old ≡ before_piece (event_bytes event) (waiting new)
  pub next : (left later : List ℕ) → waiting old ≡ Some left → waiting new ≡ Some later → IsNext (standing_at old left) event

some-same : (xs ys : List ℕ) → Some xs ≡ Some ys → xs ≡ ys
some-same xs ys e = cc

unread : (old new : InlineData) → new.held ≡ old.held → new.left ≡ old.left → waiting old ≡ before_piece [] (waiting new)
unread old new held left =
    sym (before_nothing (waiting new) ∙ ap (λ (h : List ℕ). before_piece h new.left) held ∙ ap (before_piece old.held) left)

answered : (old new : InlineData) (event : HostEvent) → GivesAnswer old new event → waiting old ≡ before_piece [] (waiting new)
answered old new event g = unread old new g.held g.left

bytes-next : (piece left later : List ℕ) → left ≡ piece ++ later → left ≡ piece ++ drop (length piece) left
bytes-next piece left later is = is ∙ ap (λ (xs : List ℕ). piece ++ xs) (sym (ap (drop (length piece)) is ∙ drop-append_seam piece later))

pub gave_by : (old new : InlineData) (event : HostEvent)
    → ((piece : List ℕ) → event ≡ Bytes piece → GivesBytes old new piece)
    → ((batch : List TaskMsg) → event ≡ Tasks batch → GivesResults old new batch)
    → (event ≡ Ended → GivesEnd old new)
    → ((messages : List LoaderMsg) → event ≡ Vfs messages → GivesAnswer old new event)
    → ((tasks : List Task) → event ≡ DeferredTask tasks → GivesAnswer old new event)
    → ((ticket : ℕ) → event ≡ Timer ticket → GivesAnswer old new event)
    → is_news event ≡ false
    → Gave old new event
gave_by old new (Bytes piece) bytes results ended loader deferred timer news = let g = bytes piece refl in record {
  orders = g.orders;
  parted = g.parted;
  next = λ left later was is. record {
    idle = g.idle;
    answered = g.answered;
    some = g.some;
    first = subst (IsNextPiece piece) was g.next;
    parted = bytes-next piece left later (some-same left (piece ++ later) (sym was ∙ g.parted ∙ ap (before_piece piece) is));
  };
}
gave_by old new Ended bytes results ended loader deferred timer news = let g = ended refl in record {
  orders = g.orders;
  parted = sym (before_nothing (waiting new) ∙ g.waiting);
  next = λ left later was is. record { idle = g.idle; answered = g.answered; none = g.dry left was };
}
gave_by old new (Tasks batch) bytes results ended loader deferred timer news = let g = results batch refl in record {
  orders = g.orders;
  parted = unread old new g.held g.left;
  next = λ left later was is. record { busy = g.busy; numbers = g.numbers; uncancelled = g.uncancelled; project = g.project };
}
gave_by old new (DeferredTask tasks) bytes results ended loader deferred timer news = let g = deferred tasks refl in record {
  orders = g.orders;
  parted = answered old new (DeferredTask tasks) g;
  next = λ left later was is. record { idle = g.idle; due = g.due };
}
gave_by old new (Vfs messages) bytes results ended loader deferred timer news = let g = loader messages refl in record {
  orders = g.orders;
  parted = answered old new (Vfs messages) g;
  next = λ left later was is. record { idle = g.idle; due = g.due };
}
gave_by old new (Timer ticket) bytes results ended loader deferred timer news = let g = timer ticket refl in record {
  orders = g.orders;
  parted = answered old new (Timer ticket) g;
  next = λ left later was is. record { idle = g.idle; due = g.due };
}
gave_by old new (Flycheck messages) bytes results ended loader deferred timer news = absurd cc
gave_by old new (TestResult messages) bytes results ended loader deferred timer news = absurd cc
gave_by old new (DiscoverProject messages) bytes results ended loader deferred timer news = absurd cc
