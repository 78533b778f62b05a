-- Each event is asked for where what came before it was answered, and the answers were handed on.
use Rattle.std.proofs.Common.{◌≡◌, List, [], ◌∷◌, ◌++◌, refl, sym, ap, ◌∙◌, subst, inl, inr}
use Rattle.std.specs.Prelude.{◌⊎◌}
use Rattle.session_port.specs.Record.{HostCall, gave, took, given_in, taken_in}
use Rattle.session_port.specs.declared.event.HostEvent.{HostEvent}
use Rattle.session_laws.specs.Course.{Course, waits}
use Rattle.session_laws.specs.Input.{Input}
use Rattle.session_laws.specs.Run.{MayAsk, giving}
use Rattle.session_laws.proofs.Asking.{InFirst, InSecond, given-append, no-entry, parted, same-tail, taken-append}
use Rattle.server.specs.Opening.{RepliesComeFirst, HadReplies, handed_on, inputs_taken}
use Rattle.server.specs.Stages.{Setup, Stage, stage_after, replies_to}
use Rattle.server.proofs.Folds.{handed-append, taking-append}

module _ (setup : Setup) (stage : Stage) (from : List HostEvent → Course) where
  pub asks-none : RepliesComeFirst setup stage from []
  asks-none = λ before event after is. no-entry before (gave event) after is

  -- an order alone
  pub asks-order : RepliesComeFirst setup stage from (took [] ∷ [])
  asks-order = λ before event after is. none before event after is
    where
      none : (before : List HostCall) (event : HostEvent) (after : List HostCall) → took [] ∷ [] ≡ before ++ gave event ∷ after
          → HadReplies setup stage from before
      none [] event after e = absurd cc
      none (b ∷ before) event after e = no-entry before (gave event) after (same-tail (took []) b [] (before ++ gave event ∷ after) e)

  one-event : (given : HostEvent) (before : List HostCall) (event : HostEvent) (after : List HostCall) → from [] ≡ waits → gave given ∷ [] ≡ before
      ++ gave event ∷ after
      → HadReplies setup stage from before
  one-event given [] event after asked e = record { inputs = []; waiting = asked; handed = refl }
  one-event given (b ∷ before) event after asked e = no-entry before (gave event) after (same-tail (gave given) b [] (before ++ gave event ∷ after) e)

  -- at most one event
  pub asks-events : (events : List HostEvent) → MayAsk from events → RepliesComeFirst setup stage from (giving events)
  asks-events [] asked = λ before event after is. no-entry before (gave event) after is
  asks-events (given ∷ []) asked = λ before event after is. one-event given before event after asked is
  asks-events (given ∷ other ∷ events) asked = absurd asked

  module _ (mid : List HostEvent → Course) (cs ds : List HostCall) (xs : List Input) (first : RepliesComeFirst setup stage from cs)
      (handed : taken_in cs ≡ handed_on (replies_to setup stage xs))
      (course : (more : List HostEvent) → from (given_in cs ++ more) ≡ inputs_taken xs (mid more))
      (second : RepliesComeFirst setup (stage_after setup stage xs) mid ds) where
    had-later : (rest : List HostCall) → HadReplies setup (stage_after setup stage xs) mid rest → HadReplies setup stage from (cs ++ rest)
    had-later rest h = record {
      inputs = xs ++ h.inputs;
      waiting = ap from (given-append cs rest) ∙ course (given_in rest) ∙ ap (inputs_taken xs) h.waiting ∙ sym (taking-append xs h.inputs waits);
      handed = taken-append cs rest ∙ (λ i. handed i ++ h.handed i) ∙ sym (handed-append setup stage xs h.inputs);
    }

    on-side : (before : List HostCall) (event : HostEvent) (after : List HostCall) → InFirst cs before (gave event) ⊎ InSecond cs ds before (gave event) after
        → HadReplies setup stage from before
    on-side before event after (inl h) = first before event h.rest h.is
    on-side before event after (inr h) = subst (HadReplies setup stage from) (sym h.before_is) (had-later h.rest (second h.rest event after h.is))

    -- calls, and then others
    pub asks-on : RepliesComeFirst setup stage from (cs ++ ds)
    asks-on = λ before event after is. on-side before event after (parted cs ds before (gave event) after is)
