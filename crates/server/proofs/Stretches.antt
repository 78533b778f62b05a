-- One step of the loop, and stretches of a handshake, one after another.
use Rattle.std.proofs.Common.{◌≡◌, ℕ, ◌+◌, ◌-◌, ◌^◌, ◌<◌, List, [], ◌∷◌, ◌++◌, length, false, refl, sym, ap, ◌∙◌, subst, arith, append-nil, append_assoc}
use Rattle.std.proofs.Common.{length-append, inl, inr}
use Rattle.std.specs.Prelude.{⊤, IfErr, OnOk, Option, None, Some, option_to_list, Result, Ok, Err}
use Rattle.lsp_frame.specs.Frames.{cut_of}
use Rattle.lsp_frame.specs.Reader.{Reader}
use Rattle.lsp_frame.specs.declared.frame.Cut.TheVariants.{NeedMore}
use Rattle.lsp_frame.specs.declared.message.Message.{Message}
use Rattle.lsp_frame.specs.declared.message.Response.{Response}
use Rattle.session_port.specs.Record.{gave, took, given_in, taken_in}
use Rattle.session_port.specs.declared.command.DeferredTask.{DeferredTask}
use Rattle.session_port.specs.declared.event.HostEvent.{HostEvent}
use Rattle.session_port.specs.declared.event.HostEvent.TheVariants.{Bytes, Tasks, Vfs as Files, DeferredTask as Given, Timer as TimerEvent}
use Rattle.session_port.specs.declared.event.HostEvent.TheVariants.{Flycheck, TestResult, DiscoverProject}
use Rattle.session_port.specs.declared.event.LoaderMsg.{LoaderMsg}
use Rattle.session_port.specs.declared.event.TaskMsg.{TaskMsg}
use Rattle.session_laws.specs.Course.{bytes_brought, course_of, takes, waits}
use Rattle.session_laws.specs.Run.{Told, fed_bytes}
use Rattle.session_laws.specs.SessionError.{SessionError}
use Rattle.session_laws.specs.SessionError.TheVariants.{ClientExited, BadFrame, BadMessage, HostFault, WriteFault, Exhausted, NoMemory}
use Rattle.session_laws.specs.Event.TheVariants.{Lsp, Task, Vfs, Deferred, News, Timer}
use Rattle.session_laws.specs.News.{News as NewsData}
use Rattle.session_laws.specs.News.TheVariants as news
use Rattle.session_laws.specs.Input.TheVariants.{Next}
use Rattle.session_laws.proofs.Asking.{given-append, taken-append}
use Rattle.session_laws.proofs.Courses.{course-event, course-fed, course-empty, course-waits}
use Rattle.session.specs.Reading.{TakesOut, IsFeedError, course_from}
use Rattle.server.specs.Opening.{RepliesComeFirst, LeftBy, handed_on, inputs_taken, replies_told}
use Rattle.server.specs.Stages.{Setup, Outcome, by_message, quiet, with_reply, stage_after, replies_to}
use Rattle.server.specs.Talking.{TalkStretch, TalkGoes, Breaks, TalkAdvancesByEvent, IsInStep, IsReplied, stage_of}
use Rattle.server.specs.declared.handshake.opening.Talk.{Talk}
use Rattle.server.proofs.Folds.{taking-append, stage-append, replies-append, handed-append, telling-append, telling-none, calls-bytes, calls-events}
use Rattle.server.proofs.Handing.{asks-events, asks-none, asks-on, asks-order}

-- ---- a message

-- a message that is taken out
module _ (setup : Setup) (message : Message) (before now : Talk) (old new : Told) (out : TakesOut before.reader now.reader message) where
  -- with what it is answered, if it is
  answered : (reply : Option Response) → by_message setup (stage_of before.negotiation.config) message ≡
      record { reply = reply; stage = stage_of now.negotiation.config }
      → option_to_list reply ≡ replies_to setup (stage_of before.negotiation.config) (Next (Lsp message) ∷ [])
  answered reply outcome = sym (append-nil (option_to_list reply)) ∙ ap (λ (o : Outcome). option_to_list o.reply ++ []) (sym outcome)

  stretch-quiet : by_message setup (stage_of before.negotiation.config) message ≡ quiet (stage_of now.negotiation.config) → now.events ≡ before.events
      → new ≡ old
      → TalkStretch setup before now old new
  stretch-quiet outcome same told = record {
    calls = [];
    inputs = Next (Lsp message) ∷ [];
    course = out.course;
    stage = sym (ap (λ (o : Outcome). o.stage) outcome);
    told = told ∙ sym (telling-none old) ∙ ap (λ (rs : List Response). replies_told [] rs old) (answered None outcome);
    handed = ap handed_on (answered None outcome);
    asks = asks-none setup (stage_of before.negotiation.config) (course_from before.reader);
    fed = let fed = out.fed in omega (arith, fed);
    counted = omega (arith, same);
  }

  stretch-reply : (response : Response) → by_message setup (stage_of before.negotiation.config) message ≡ with_reply response (stage_of now.negotiation.config)
      → now.events ≡ before.events → new ≡ replies_told (took [] ∷ []) (response ∷ []) old → TalkStretch setup before now old new
  stretch-reply response outcome same told = record {
    calls = took [] ∷ [];
    inputs = Next (Lsp message) ∷ [];
    course = out.course;
    stage = sym (ap (λ (o : Outcome). o.stage) outcome);
    told = told ∙ ap (λ (rs : List Response). replies_told (took [] ∷ []) rs old) (answered (Some response) outcome);
    handed = ap handed_on (answered (Some response) outcome);
    asks = asks-order setup (stage_of before.negotiation.config) (course_from before.reader);
    fed = let fed = out.fed in omega (arith, fed);
    counted = omega (arith, same);
  }

  pub goes-message : TalkStretch setup before now old new → now.events ≡ before.events → IsInStep now.negotiation → fed_bytes before.reader < 2 ^ 64
      → TalkGoes setup before now old new
  goes-message stretch same in_step fits =
      let fed = out.fed in let later = out.later in
      record {
        stretch = stretch;
        fewer = omega (arith, fed, later, fits, same);
        in_step = in_step;
        sound = out.sound;
        fits = omega (arith, fed, fits);
      }

  pub goes-quiet : by_message setup (stage_of before.negotiation.config) message ≡ quiet (stage_of now.negotiation.config) → now.events ≡ before.events
      → new ≡ old
      → IsInStep now.negotiation → fed_bytes before.reader < 2 ^ 64 → TalkGoes setup before now old new
  goes-quiet outcome same told in_step fits = goes-message (stretch-quiet outcome same told) same in_step fits

  pub goes-reply : (response : Response) → by_message setup (stage_of before.negotiation.config) message ≡ with_reply response (stage_of now.negotiation.config)
      → now.events ≡ before.events → new ≡ replies_told (took [] ∷ []) (response ∷ []) old → IsInStep now.negotiation → fed_bytes before.reader < 2 ^ 64
      → TalkGoes setup before now old new
  goes-reply response outcome same told in_step fits = goes-message (stretch-reply response outcome same told) same in_step fits

  -- a message whose answer was not written, or was not handed on
  module _ (response : Response) (outcome : by_message setup (stage_of before.negotiation.config) message ≡ with_reply
      response (stage_of now.negotiation.config)) where
    unwritten : (error : SessionError) → LeftBy setup (before.events + 0) (fed_bytes before.reader + 0) (stage_of before.negotiation.config)
        (course_from before.reader []) error
        → new ≡ old → Breaks setup before old new error
    unwritten error left same = inl (record { events = []; asked = tt; told = same ∙ sym (telling-none old); left = left })

    pub breaks-reply : (error : SessionError) → IsReplied {T = ⊤} response old new (Err error) → Breaks setup before old new error
    breaks-reply WriteFault same = unwritten WriteFault (record {
      input = Next (Lsp message);
      later = course_from now.reader [];
      is = out.course [];
      response = response;
      answered = ap (λ (o : Outcome). o.reply) outcome;
    }) same
    breaks-reply HostFault told = inr (record {
      input = Next (Lsp message);
      later = course_from now.reader [];
      is = out.course [];
      response = response;
      next = now.negotiation.config;
      answered = outcome;
      told = told;
      fault = tt;
    })
    breaks-reply NoMemory (inl same) = unwritten NoMemory tt same
    breaks-reply NoMemory (inr told) = inr (record {
      input = Next (Lsp message);
      later = course_from now.reader [];
      is = out.course [];
      response = response;
      next = now.negotiation.config;
      answered = outcome;
      told = told;
      fault = tt;
    })
    breaks-reply ClientExited is = absurd is
    breaks-reply (BadFrame at) is = absurd is
    breaks-reply (BadMessage at) is = absurd is
    breaks-reply (Exhausted counter) is = absurd is

-- it ends where it stands
pub breaks-here : (setup : Setup) (talk : Talk) (told : Told) (error : SessionError)
    → LeftBy setup (talk.events + 0) (fed_bytes talk.reader + 0) (stage_of talk.negotiation.config) (course_from talk.reader []) error
    → Breaks setup talk told told error
breaks-here setup talk told error left = inl (record { events = []; asked = tt; told = sym (telling-none told); left = left })

-- ---- an event

abbrev counted : Talk → Talk
counted talk = record talk { events = talk.events + 1 }

-- the event that brings news
abbrev told_by : NewsData → HostEvent
told_by (news.Flycheck messages) = Flycheck messages
told_by (news.TestResult messages) = TestResult messages
told_by (news.DiscoverProject messages) = DiscoverProject messages

no_bytes : (told : NewsData) → bytes_brought (told_by told ∷ []) ≡ 0
no_bytes (news.Flycheck messages) = refl
no_bytes (news.TestResult messages) = refl
no_bytes (news.DiscoverProject messages) = refl

module _ (setup : Setup) (before : Talk) (old new : Told) (partial : cut_of before.reader.held ≡ NeedMore) (sound : before.reader.failed ≡ false)
    (in_step : IsInStep before.negotiation) (fits : fed_bytes before.reader < 2 ^ 64) (room : before.events < 2 ^ 64 - 1) where
  -- it was asked for where nothing was left to do
  asked : course_from before.reader [] ≡ waits
  asked = course-waits before.reader.place before.reader.held partial

  asks-one : (event : HostEvent) → RepliesComeFirst setup (stage_of before.negotiation.config) (course_from before.reader) (gave event ∷ [])
  asks-one event = asks-events setup (stage_of before.negotiation.config) (course_from before.reader) (event ∷ []) asked

  -- results of jobs are passed over
  pub goes-tasks : (batch : List TaskMsg) (now : Talk) → now ≡ counted before → new ≡ replies_told (gave (Tasks batch) ∷ []) [] old
      → TalkGoes setup before now old new
  goes-tasks batch now is told = rw is (record {
    stretch = record {
      calls = gave (Tasks batch) ∷ [];
      inputs = Next (Task batch) ∷ [];
      course = λ more. course-event before.reader.place before.reader.held (Tasks batch) more partial;
      stage = refl;
      told = told;
      handed = refl;
      asks = asks-one (Tasks batch);
      fed = omega arith;
      counted = refl;
    };
    fewer = omega (arith, room);
    in_step = in_step;
    sound = sound;
    fits = fits;
  })

  -- a loader's messages are passed over
  pub goes-loader : (messages : List LoaderMsg) (now : Talk) → now ≡ counted before → new ≡ replies_told (gave (Files messages) ∷ []) [] old
      → TalkGoes setup before now old new
  goes-loader messages now is told = rw is (record {
    stretch = record {
      calls = gave (Files messages) ∷ [];
      inputs = Next (Vfs messages) ∷ [];
      course = λ more. course-event before.reader.place before.reader.held (Files messages) more partial;
      stage = refl;
      told = told;
      handed = refl;
      asks = asks-one (Files messages);
      fed = omega arith;
      counted = refl;
    };
    fewer = omega (arith, room);
    in_step = in_step;
    sound = sound;
    fits = fits;
  })

  -- deferred tasks are passed over
  pub goes-deferred : (tasks : List DeferredTask) (now : Talk) → now ≡ counted before → new ≡ replies_told (gave (Given tasks) ∷ []) [] old
      → TalkGoes setup before now old new
  goes-deferred tasks now is told = rw is (record {
    stretch = record {
      calls = gave (Given tasks) ∷ [];
      inputs = Next (Deferred tasks) ∷ [];
      course = λ more. course-event before.reader.place before.reader.held (Given tasks) more partial;
      stage = refl;
      told = told;
      handed = refl;
      asks = asks-one (Given tasks);
      fed = omega arith;
      counted = refl;
    };
    fewer = omega (arith, room);
    in_step = in_step;
    sound = sound;
    fits = fits;
  })

  news_course : (told : NewsData) (more : List HostEvent) → course_from before.reader (told_by told ∷ more) ≡ takes (Next (News told)) (course_from before.reader more)
  news_course (news.Flycheck messages) more = course-event before.reader.place before.reader.held (Flycheck messages) more partial
  news_course (news.TestResult messages) more = course-event before.reader.place before.reader.held (TestResult messages) more partial
  news_course (news.DiscoverProject messages) more = course-event before.reader.place before.reader.held (DiscoverProject messages) more partial

  -- what checks, a test run or discoveries tell is passed over
  pub goes-news : (brought : NewsData) (now : Talk) → now ≡ counted before → new ≡ replies_told (gave (told_by brought) ∷ []) [] old
      → TalkGoes setup before now old new
  goes-news brought now is told = rw is (record {
    stretch = record {
      calls = gave (told_by brought) ∷ [];
      inputs = Next (News brought) ∷ [];
      course = news_course brought;
      stage = refl;
      told = told;
      handed = refl;
      asks = asks-one (told_by brought);
      fed = let none = no_bytes brought in omega (arith, none);
      counted = refl;
    };
    fewer = omega (arith, room);
    in_step = in_step;
    sound = sound;
    fits = fits;
  })

  -- the end of a timer is passed over
  pub goes-timer : (ticket : ℕ) (now : Talk) → now ≡ counted before → new ≡ replies_told (gave (TimerEvent ticket) ∷ []) [] old
      → TalkGoes setup before now old new
  goes-timer ticket now is told = rw is (record {
    stretch = record {
      calls = gave (TimerEvent ticket) ∷ [];
      inputs = Next (Timer ticket) ∷ [];
      course = λ more. course-event before.reader.place before.reader.held (TimerEvent ticket) more partial;
      stage = refl;
      told = told;
      handed = refl;
      asks = asks-one (TimerEvent ticket);
      fed = omega arith;
      counted = refl;
    };
    fewer = omega (arith, room);
    in_step = in_step;
    sound = sound;
    fits = fits;
  })

  -- bytes are held behind those that were held before
  abbrev fed_talk : List ℕ → Talk
  fed_talk bytes = record {
    reader = record { place = before.reader.place; held = before.reader.held ++ bytes; failed = false };
    negotiation = before.negotiation;
    events = before.events + 1;
  }

  goes-fed : (bytes : List ℕ) → fed_bytes before.reader + length bytes < 2 ^ 64 → new ≡ replies_told (gave (Bytes bytes) ∷ []) [] old
      → TalkGoes setup before (fed_talk bytes) old new
  goes-fed [] more_fits told =
      let none : length (before.reader.held ++ []) ≡ length before.reader.held = ap length (append-nil before.reader.held) in
      record {
        stretch = record {
          calls = gave (Bytes []) ∷ [];
          inputs = Next (Task []) ∷ [];
          course = λ more. course-empty before.reader.place before.reader.held [] more partial refl
              ∙ ap (λ (held : List ℕ). inputs_taken (Next (Task []) ∷ []) (course_of before.reader.place held more)) (sym (append-nil before.reader.held));
          stage = refl;
          told = told;
          handed = refl;
          asks = asks-one (Bytes []);
          fed = omega (arith, none);
          counted = refl;
        };
        fewer = omega (arith, room);
        in_step = in_step;
        sound = refl;
        fits = omega (arith, none, fits);
      }
  goes-fed (byte ∷ bytes) more_fits told =
      let longer = length-append before.reader.held (byte ∷ bytes) in
      record {
        stretch = record {
          calls = gave (Bytes (byte ∷ bytes)) ∷ [];
          inputs = [];
          course = λ more. course-fed before.reader.place before.reader.held (byte ∷ bytes) more partial (omega arith);
          stage = refl;
          told = told;
          handed = refl;
          asks = asks-one (Bytes (byte ∷ bytes));
          fed = omega (arith, longer);
          counted = refl;
        };
        fewer = omega (arith, room);
        in_step = in_step;
        sound = refl;
        fits = omega (arith, longer, more_fits);
      }

  -- bytes that could not be fed
  unfed : (bytes : List ℕ) (error : SessionError) → new ≡ replies_told (gave (Bytes bytes) ∷ []) [] old
      → LeftBy setup (before.events + 1) (fed_bytes before.reader + bytes_brought (Bytes bytes ∷ [])) (stage_of before.negotiation.config)
      (course_from before.reader (Bytes bytes ∷ [])) error → Breaks setup before old new error
  unfed bytes error told left = inl (record { events = Bytes bytes ∷ []; asked = asked; told = told; left = left })

  pub breaks-feed : (bytes : List ℕ) (error : SessionError) → new ≡ replies_told (gave (Bytes bytes) ∷ []) [] old
      → IsFeedError (fed_bytes before.reader) (length bytes) error
      → Breaks setup before old new error
  breaks-feed bytes (Exhausted counter) told is = unfed bytes (Exhausted counter) told (inr (is.0, let many = is.1 in omega (arith, many)))
  breaks-feed bytes NoMemory told is = unfed bytes NoMemory told tt
  breaks-feed bytes ClientExited told is = absurd is
  breaks-feed bytes (BadFrame at) told is = absurd is
  breaks-feed bytes (BadMessage at) told is = absurd is
  breaks-feed bytes HostFault told is = absurd is
  breaks-feed bytes WriteFault told is = absurd is

  -- bytes that came
  pub advances-feed : (bytes : List ℕ) (reader : Reader) (result : Result ⊤ SessionError)
      → OnOk result (reader ≡ record { place = before.reader.place; held = before.reader.held ++ bytes; failed = false })
      → OnOk result (fed_bytes before.reader + length bytes < 2 ^ 64) → IfErr result (IsFeedError (fed_bytes before.reader) (length bytes))
      → new ≡ replies_told (gave (Bytes bytes) ∷ []) [] old
      → TalkAdvancesByEvent setup before (record { reader = reader; negotiation = before.negotiation; events = before.events + 1 }) old new result
  advances-feed bytes reader (Ok x) is more_fits err told = rw is (goes-fed bytes more_fits told)
  advances-feed bytes reader (Err error) is more_fits err told = breaks-feed bytes error told err

-- ---- stretches

-- nothing happened
pub stretch-none : (setup : Setup) (talk : Talk) (old : Told) → TalkStretch setup talk talk old old
stretch-none setup talk old = record {
  calls = [];
  inputs = [];
  course = λ more. refl;
  stage = refl;
  told = sym (telling-none old);
  handed = refl;
  asks = asks-none setup (stage_of talk.negotiation.config) (course_from talk.reader);
  fed = omega arith;
  counted = omega arith;
}

-- one stretch and then another
pub stretch-on : (setup : Setup) (a b c : Talk) (old mid new : Told) → TalkStretch setup a b old mid → TalkStretch setup b c mid new
    → TalkStretch setup a c old new
stretch-on setup a b c old mid new r s =
    let start = stage_of a.negotiation.config in
    let middle = stage_of b.negotiation.config in
    let first = replies_to setup start r.inputs in
    let handed : taken_in s.calls ≡ handed_on (replies_to setup (stage_after setup start r.inputs) s.inputs) =
    s.handed ∙ ap (λ st. handed_on (replies_to setup st s.inputs)) r.stage in
    record {
      calls = r.calls ++ s.calls;
      inputs = r.inputs ++ s.inputs;
      course = λ more. ap (λ (es : List HostEvent). course_from a.reader (es ++ more)) (given-append r.calls s.calls)
          ∙ ap (course_from a.reader) (append_assoc (given_in r.calls) (given_in s.calls) more) ∙ r.course (given_in s.calls ++ more)
          ∙ ap (inputs_taken r.inputs) (s.course more) ∙ sym (taking-append r.inputs s.inputs (course_from c.reader more));
      stage = s.stage ∙ ap (λ st. stage_after setup st s.inputs) r.stage ∙ sym (stage-append setup start r.inputs s.inputs);
      told = s.told ∙ ap (replies_told s.calls (replies_to setup middle s.inputs)) r.told
          ∙ telling-append r.calls s.calls first (replies_to setup middle s.inputs) old
          ∙ ap (λ (rs : List Response). replies_told (r.calls ++ s.calls) rs old)
          (ap (λ st. first ++ replies_to setup st s.inputs) r.stage ∙ sym (replies-append setup start r.inputs s.inputs));
      handed = taken-append r.calls s.calls ∙ (λ i. r.handed i ++ handed i) ∙ sym (handed-append setup start r.inputs s.inputs);
      asks = asks-on setup start (course_from a.reader) (course_from b.reader) r.calls s.calls r.inputs r.asks r.handed r.course
          (subst (λ st. RepliesComeFirst setup st (course_from b.reader) s.calls) r.stage s.asks);
      fed = let one = r.fed in let two = s.fed in omega (arith, one, two, calls-bytes r.calls s.calls);
      counted = let one = r.counted in let two = s.counted in omega (arith, one, two, calls-events r.calls s.calls);
    }
