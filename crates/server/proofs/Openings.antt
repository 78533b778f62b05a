-- How a handshake ends.
use Rattle.std.proofs.Common.{◌≡◌, ℕ, ◌+◌, List, [], ◌∷◌, ◌++◌, length, refl, sym, ap, ◌∙◌, subst, arith, append-nil, inl, inr}
use Rattle.std.specs.Prelude.{Option, None, Some, option_to_list, Ok, Err}
use Rattle.lsp_frame.specs.declared.message.Response.{Response}
use Rattle.ra_config.specs.Config.{ConfigData}
use Rattle.session_port.specs.Record.{HostCall, given_in, taken_in}
use Rattle.session_port.specs.declared.command.Command.{Command}
use Rattle.session_port.specs.declared.event.HostEvent.{HostEvent}
use Rattle.session_laws.specs.Course.{stops, exit, course_of, bytes_brought}
use Rattle.session_laws.specs.Run.{Told, fed_bytes, giving}
use Rattle.session_laws.specs.SessionError.{SessionError}
use Rattle.session_laws.specs.Input.{Input}
use Rattle.session_laws.proofs.Asking.{given-append, given-giving, taken-append, taken-giving}
use Rattle.session.specs.Reading.{course_from}
use Rattle.server.specs.Opening.{Opens, IsWaiting, handed_on, inputs_taken, replies_told}
use Rattle.server.specs.Stages.{Setup, Outcome, Stage, awaits_initialize, by_input, stage_after, replies_to}
use Rattle.server.specs.Talking.{TalkStretch, Starts, Breaks, first_talk, stage_of}
use Rattle.server.specs.declared.handshake.opening.Opening.TheVariants.{Begun, Left}
use Rattle.server.specs.declared.handshake.opening.Talk.{Talk}
use Rattle.server.proofs.Folds.{taking-append, stage-append, replies-append, telling-append, calls-bytes, calls-events}
use Rattle.server.proofs.Handing.{asks-events, asks-on}

waiting : (config : Option ConfigData) → IsWaiting (stage_of config)
waiting None = tt
waiting (Some config) = tt

-- the loop came to this place
module _ (setup : Setup) (talk : Talk) (old mid new : Told) (s : TalkStretch setup first_talk talk old mid) where
  abbrev stage : Stage
  stage = stage_after setup awaits_initialize s.inputs

  still : IsWaiting stage
  still = subst IsWaiting s.stage (waiting talk.negotiation.config)

  abbrev replies : List Response
  replies = replies_to setup awaits_initialize s.inputs

  module _ (now : Talk) (config : ConfigData) (t : Starts setup talk now config mid new) where
    abbrev inputs : List Input
    inputs = s.inputs ++ t.input ∷ []

    course : (more : List HostEvent) → course_of 0 [] (given_in s.calls ++ more) ≡ inputs_taken inputs (course_from now.reader more)
    course more = s.course more ∙ ap (inputs_taken s.inputs) (t.course more) ∙ sym (taking-append s.inputs (t.input ∷ []) (course_from now.reader more))

    silent : replies_to setup stage (t.input ∷ []) ≡ []
    silent = ap (λ st. replies_to setup st (t.input ∷ [])) (sym s.stage) ∙ ap (λ (o : Outcome). option_to_list o.reply ++ []) t.begins

    no_more : replies_to setup awaits_initialize inputs ≡ replies
    no_more = replies-append setup awaits_initialize s.inputs (t.input ∷ []) ∙ ap (λ (rs : List Response). replies ++ rs) silent ∙ append-nil replies

    pub opens-begun : Opens setup old new (Ok (Begun config now.reader))
    opens-begun = record {
      calls = s.calls;
      inputs = inputs;
      told = t.told ∙ s.told ∙ ap (λ (rs : List Response). replies_told s.calls rs old) (sym no_more);
      asks = s.asks;
      left = course_from now.reader [];
      course = ap (course_of 0 []) (sym (append-nil (given_in s.calls))) ∙ course [];
      ends = (
        s.handed ∙ ap handed_on (sym no_more),
        record {
          before = s.inputs;
          last = t.input;
          split = refl;
          waited = sym s.stage ∙ ap stage_of t.waited;
          begins = stage-append setup awaits_initialize s.inputs (t.input ∷ []) ∙ ap (λ st. stage_after setup st (t.input ∷ [])) (sym s.stage)
              ∙ ap (λ (o : Outcome). o.stage) t.begins;
          course = course;
          fed = let one = t.fed in let two = s.fed in omega (arith, one, two);
        },
      );
    }

  pub opens-left : course_from talk.reader [] ≡ stops exit → new ≡ mid → Opens setup old new (Ok Left)
  opens-left is same = record {
    calls = s.calls;
    inputs = s.inputs;
    told = same ∙ s.told;
    asks = s.asks;
    left = stops exit;
    course = ap (course_of 0 []) (sym (append-nil (given_in s.calls))) ∙ s.course [] ∙ ap (inputs_taken s.inputs) is;
    ends = (s.handed, still, refl);
  }

  pub opens-broken : (error : SessionError) → Breaks setup talk mid new error → Opens setup old new (Err error)
  opens-broken error (inl b) =
      let given : given_in (s.calls ++ giving b.events) ≡ given_in s.calls ++ b.events =
      given-append s.calls (giving b.events) ∙ ap (λ (es : List HostEvent). given_in s.calls ++ es) (given-giving b.events) in
      let taken : taken_in (s.calls ++ giving b.events) ≡ taken_in s.calls =
      taken-append s.calls (giving b.events) ∙ ap (λ (xs : List (List Command)). taken_in s.calls ++ xs) (taken-giving b.events)
      ∙ append-nil (taken_in s.calls) in
      let events : length (given_in (s.calls ++ giving b.events)) ≡ talk.events + length b.events =
      (let one = s.counted in let two = ap length (given-giving b.events) in omega (arith, one, two, calls-events s.calls (giving b.events))) in
      let bytes : bytes_brought (given_in (s.calls ++ giving b.events)) ≡ fed_bytes talk.reader + bytes_brought b.events =
      (let one = s.fed in let two = ap bytes_brought (given-giving b.events) in omega (arith, one, two, calls-bytes s.calls (giving b.events))) in
      record {
        calls = s.calls ++ giving b.events;
        inputs = s.inputs;
        told = b.told ∙ ap (replies_told (giving b.events) []) s.told ∙ telling-append s.calls (giving b.events) replies [] old
            ∙ ap (λ (rs : List Response). replies_told (s.calls ++ giving b.events) rs old) (append-nil replies);
        asks = asks-on setup awaits_initialize (course_of 0 []) (course_from talk.reader) s.calls (giving b.events) s.inputs s.asks s.handed s.course
            (asks-events setup stage (course_from talk.reader) b.events b.asked);
        left = course_from talk.reader b.events;
        course = ap (course_of 0 []) given ∙ s.course b.events;
        ends = (still, inl (taken ∙ s.handed, rw (events, bytes, ← s.stage) b.left));
      }
  opens-broken error (inr n) =
      let one : replies_to setup stage (n.input ∷ []) ≡ n.response ∷ [] =
      ap (λ st. replies_to setup st (n.input ∷ [])) (sym s.stage) ∙ ap (λ (o : Outcome). option_to_list o.reply ++ []) n.answered in
      let all : replies_to setup awaits_initialize (s.inputs ++ n.input ∷ []) ≡ replies ++ n.response ∷ [] =
      replies-append setup awaits_initialize s.inputs (n.input ∷ []) ∙ ap (λ (rs : List Response). replies ++ rs) one in
      let goes_on : stage_after setup awaits_initialize (s.inputs ++ n.input ∷ []) ≡ stage_of n.next =
      stage-append setup awaits_initialize s.inputs (n.input ∷ []) ∙ ap (λ st. stage_after setup st (n.input ∷ [])) (sym s.stage)
      ∙ ap (λ (o : Outcome). o.stage) n.answered in
      record {
        calls = s.calls;
        inputs = s.inputs ++ n.input ∷ [];
        told = n.told ∙ ap (replies_told [] (n.response ∷ [])) s.told ∙ telling-append s.calls [] replies (n.response ∷ []) old
            ∙ ap (λ (cs : List HostCall). replies_told cs (replies ++ n.response ∷ []) old) (append-nil s.calls)
            ∙ ap (λ (rs : List Response). replies_told s.calls rs old) (sym all);
        asks = s.asks;
        left = n.later;
        course = ap (course_of 0 []) (sym (append-nil (given_in s.calls))) ∙ s.course [] ∙ ap (inputs_taken s.inputs) n.is
            ∙ sym (taking-append s.inputs (n.input ∷ []) n.later);
        ends = (
          subst IsWaiting (sym goes_on) (waiting n.next),
          inr (
            record {
              before = s.inputs;
              last = n.input;
              split = refl;
              response = n.response;
              answered = ap (λ st. (by_input setup st n.input).reply) (sym s.stage) ∙ ap (λ (o : Outcome). o.reply) n.answered;
              handed = s.handed;
            },
            n.fault,
          ),
        );
      }
