-- A run over generated messages, call by call: each message is read by a turn of its own, and at the `exit` no job is out.
use Rattle.std.proofs.Common.{◌≡◌, ℕ, ◌+◌, ◌≤◌, Bool, true, false, List, [], ◌∷◌, ◌++◌, length, map, take, drop, refl, sym, ap, subst, ◌∙◌, arith, append_assoc, append-nil}
use Rattle.std.specs.Prelude.{Option, None, Some}
use Rattle.std.specs.FinMap as maps
use Rattle.std.proofs.Math.Seq.{drop-append_seam}
use Rattle.std.proofs.lemmas.List.{take-append-le, take_all}
use Rattle.lsp_frame.specs.Frames.{cut_of, frames_from}
use Rattle.lsp_frame.specs.Written.{body_of, frame_for, header_for}
use Rattle.lsp_frame.specs.declared.frame.Cut.TheVariants.{Frame}
use Rattle.lsp_frame.specs.declared.message.Message.{Message}
use Rattle.lsp_frame.specs.declared.message.Message.TheVariants.{Request, Notification, Response}
use Rattle.lsp_frame.proofs.Written.{cut_written, frames_written}
use Rattle.session_port.specs.Events.{event_bytes, batch_in}
use Rattle.session_port.specs.Jobs.{Jobs, after_batch}
use Rattle.session_port.specs.Record.{HostCall, gave, took, given_in, taken_in}
use Rattle.session_port.specs.declared.command.Command.{Command}
use Rattle.session_port.specs.declared.event.TaskMsg.{TaskMsg}
use Rattle.inline_host.specs.Coming.{orders_after}
use Rattle.message_generator.proofs.Streams.{frame_some}
use Rattle.session_port.specs.declared.event.HostEvent.{HostEvent}
use Rattle.session_port.specs.declared.event.HostEvent.TheVariants.{Bytes, Ended, Tasks, DeferredTask, Vfs, Flycheck, TestResult, DiscoverProject, Timer}
use Rattle.inline_host.specs.Inline.{IsFirstPiece}
use Rattle.inline_host.specs.Orders.{Orders}
use Rattle.inline_host.proofs.FirstPieces.{cut_nothing}
use Rattle.ordered_host.specs.InOrder.{AreInOrder, AreNextBytes, IsNext, Standing, after_calls, after_gave, after_took, beginning, bytes_given}
use Rattle.ordered_host.proofs.Following.{after-append, given-append as bytes-append}
use Rattle.session_model.specs.Course.{Course, Stop, takes, stops, waits, exit, course_of, event_then, is_exit, message_then, session_course, stop_of}
use Rattle.session_model.specs.Inputs.{batch_of, request_of}
use Rattle.session_model.specs.Run.{AsksLast, Turn, after_input, commands_of, out_after, out_after_all, taking}
use Rattle.session_model.specs.declared.input.Event.TheVariants.{Lsp, Task, Vfs as VfsEvent, Deferred, Timer as TimerEvent}
use Rattle.session_model.specs.declared.input.Input.{Input}
use Rattle.session_model.specs.declared.input.Input.TheVariants.{Start, Next}
use Rattle.session_laws.proofs.Asking.{commands-append, given-append, taken-append, taking-append}
use Rattle.session_laws.proofs.Courses.{course-event, course-fed, course-given, course-waits, message-exit, message-takes}
use Rattle.message_generator.specs.Messages.{frames_of}
use Rattle.message_generator.specs.Stream.{AreReadable, EndByExit, IsReadable, request_count}
use Rattle.session_generate.proofs.Counting.{asked_by, one_for}

-- ---- courses

taken-one : (i j : Input) (c d : Course) → takes i c ≡ takes j d → (i ≡ j) × (c ≡ d)
taken-one i j c d e = (cc, cc)

end-taking : (turns : List Turn) (later : Course) → stop_of (taking turns later) ≡ stop_of later
end-taking [] later = refl
end-taking (turn ∷ turns) later = end-taking turns later

same-tail : {X : Type 0} (x y : X) (xs ys : List X) → x ∷ xs ≡ y ∷ ys → (x ≡ y) × (xs ≡ ys)
same-tail x y xs ys e = (cc, cc)

-- one turn more had its commands taken
record OneMore (done now : List Turn) (input : Input) : Type 0 where
  turn : Turn
  is : now ≡ done ++ turn ∷ []
  input_is : turn.input ≡ input

one-more : (done rest now later turns : List Turn) (input : Input) → turns ≡ done ++ rest → turns ≡ now ++ later
    → taking done (takes input waits) ≡ taking now waits → OneMore done now input
one-more [] rest [] later turns input split other e = absurd cc
one-more [] rest (turn ∷ []) later turns input split other e =
    let t = taken-one input turn.input waits waits e in record { turn = turn; is = refl; input_is = sym t.0 }
one-more [] rest (turn ∷ next ∷ now) later turns input split other e = let t = taken-one input turn.input waits (takes next.input (taking now waits)) e in absurd (no-more next.input (taking now waits) t.1)
  where
    no-more : (i : Input) (c : Course) → waits ≡ takes i c → ⊥
    no-more i c same = cc
one-more (first ∷ done) rest [] later turns input split other e = absurd cc
one-more (first ∷ done) rest (turn ∷ now) later turns input split other e =
    let parts = same-tail first turn (done ++ rest) (now ++ later) (sym split ∙ other) in
    let t = taken-one first.input turn.input (taking done (takes input waits)) (taking now waits) e in
    let m = one-more done rest now later (done ++ rest) input refl parts.1 t.1 in
    record { turn = m.turn; is = subst (λ (x : Turn). turn ∷ now ≡ x ∷ (done ++ m.turn ∷ [])) (sym parts.0) (ap (λ (ts : List Turn). turn ∷ ts) m.is); input_is = m.input_is }

-- where the turns end by the same stop, none is left
none-left : (done rest : List Turn) (s : Stop) → taking done (stops s) ≡ taking (done ++ rest) (stops s) → rest ≡ []
none-left [] [] s e = refl
none-left [] (turn ∷ rest) s e = absurd cc
none-left (turn ∷ done) rest s e = none-left done rest s (taken-one turn.input turn.input (taking done (stops s)) (taking (done ++ rest) (stops s)) e).1

-- ---- lists of calls

takings : List (List Command) → List HostCall
takings commands = map took commands

given-takings : (commands : List (List Command)) → given_in (map took commands) ≡ []
given-takings [] = refl
given-takings (c ∷ commands) = given-takings commands

taken-takings : (commands : List (List Command)) → taken_in (map took commands) ≡ commands
taken-takings [] = refl
taken-takings (c ∷ commands) = ap (λ (cs : List (List Command)). c ∷ cs) (taken-takings commands)

bytes-takings : (commands : List (List Command)) → bytes_given (map took commands) ≡ []
bytes-takings [] = refl
bytes-takings (c ∷ commands) = bytes-takings commands

takings-more : (commands : List (List Command)) (more : List Command) (rest : List HostCall)
    → map took commands ++ took more ∷ rest ≡ map took (commands ++ more ∷ []) ++ rest
takings-more [] more rest = refl
takings-more (c ∷ commands) more rest = ap (λ (cs : List HostCall). took c ∷ cs) (takings-more commands more rest)

same-front : (xs ys zs : List (List Command)) → xs ++ ys ≡ xs ++ zs → ys ≡ zs
same-front [] ys zs e = e
same-front (x ∷ xs) ys zs e = same-front xs ys zs (same-tail x x (xs ++ ys) (xs ++ zs) e).1

next-at : (before : List HostCall) (event : HostEvent) (after : List HostCall) (s : Standing) → AreInOrder s (before ++ gave event ∷ after)
    → IsNext (after_calls before s) event
next-at [] event after s all = all.0
next-at (gave first ∷ before) event after s all = next-at before event after (after_gave first s) all.1
next-at (took commands ∷ before) event after s all = next-at before event after (after_took commands s) all

out-append : (turns : List Turn) (turn : Turn) (out : Jobs) → out_after_all (turns ++ turn ∷ []) out ≡ out_after turn (out_after_all turns out)
out-append [] turn out = refl
out-append (first ∷ turns) turn out = out-append turns turn (out_after first out)

asked-append : (turns : List Turn) (turn : Turn) → asked_by (turns ++ turn ∷ []) ≡ asked_by turns + one_for (request_of turn.input)
asked-append [] turn = omega arith
asked-append (first ∷ turns) turn = omega (arith, asked-append turns turn)

-- ---- messages

lsp-asks : (message : Message) (later : List Message) → one_for (request_of (Next (Lsp message))) + request_count later ≡ request_count (message ∷ later)
lsp-asks (Request r) later = omega arith
lsp-asks (Notification n) later = omega arith
lsp-asks (Response r) later = omega arith

lsp-batch : (message : Message) → batch_of (Next (Lsp message)) ≡ []
lsp-batch message = refl

exit-asks : (message : Message) → is_exit message ≡ true → request_count (message ∷ []) ≡ 0
exit-asks (Request r) e = absurd cc
exit-asks (Notification n) e = refl
exit-asks (Response r) e = absurd cc

last-exit : (message : Message) (later : List Message) → EndByExit (message ∷ later) → is_exit message ≡ true → later ≡ []
last-exit message [] end is = refl
last-exit message (other ∷ later) end is = let no = end.0 in absurd cc

goes-on : (message : Message) (later : List Message) → EndByExit (message ∷ later) → is_exit message ≡ false → EndByExit later
goes-on message [] end is = absurd cc
goes-on message (other ∷ later) end is = end.1

frame_of : Message → List ℕ
frame_of message = frame_for (body_of message)

-- the piece that comes is the first frame
first-frame : (message : Message) (later : List Message) (piece : List ℕ) → length (body_of message) ≤ 67108864
    → IsFirstPiece piece (frames_of (message ∷ later)) (cut_of (frames_of (message ∷ later))) → piece ≡ frame_for (body_of message)
first-frame message later piece short first =
    let body = body_of message in
    let cut : cut_of (frames_of (message ∷ later)) ≡ Frame (length (header_for (length body))) (length (frame_for body)) = cut_written body (frames_of later) short in
    let is : piece ≡ take (length (frame_for body)) (frame_for body ++ frames_of later) = subst (IsFirstPiece piece (frames_of (message ∷ later))) cut first in
    is ∙ take-append-le (length (frame_for body)) (frame_for body) (frames_of later) (omega arith) ∙ take_all (length (frame_for body)) (frame_for body) (omega arith)

-- where the reader stands behind it
pub frame-course : (at : ℕ) (message : Message) (more : List HostEvent) → IsReadable message
    → course_of at (frame_for (body_of message)) more ≡ message_then at (Some message) (course_of (at + length (frame_for (body_of message))) [] more)
frame-course at message more readable =
    let body = body_of message in
    course-given at (at + length (frame_for body)) (frame_for body) [] body more
    (ap (frames_from at) (sym (append-nil (frame_for body))) ∙ frames_written at body [] readable.short)
    ∙ ap (λ (m : Option Message). message_then at m (course_of (at + length (frame_for body)) [] more)) readable.read

-- an event that brings no bytes
record IsQuiet (event : HostEvent) (input : Input) : Type 0 where
  none : event_bytes event ≡ []
  batch : batch_in event ≡ batch_of input
  asks : one_for (request_of input) ≡ 0
  course : (held : List ℕ) (later : List ℕ → Course) → event_then event held later ≡ takes input (later held)

module _ (turns : List Turn) (calls : List HostCall) (messages : List Message) (count : ℕ)
    (asks : AsksLast (session_course 0 []) calls turns)
    (inputs : session_course 0 [] (given_in calls) ≡ taking turns (stops exit))
    (in_order : AreInOrder (beginning (frames_of messages)) calls) where
  abbrev start : Standing
  start = beginning (frames_of messages)

  -- an input came and has no turn yet; all inputs before it had theirs, whose commands were taken
  record Before (before : List HostCall) (input : Input) : Type 0 where
    done : List Turn
    rest : List Turn
    split : turns ≡ done ++ rest
    ordered : taken_in before ≡ commands_of done
    at : ℕ
    left : List Message
    orders : Orders
    course : (more : List HostEvent) → session_course 0 [] (given_in before ++ more) ≡ taking done (takes input (course_of at [] more))
    stands : after_calls before start ≡ record { out = after_input input (out_after_all done maps.empty); orders = orders; left = frames_of left }
    readable : AreReadable left
    ends : EndByExit left
    counted : asked_by done + (one_for (request_of input) + request_count left) ≡ count
    bytes : frames_of messages ≡ bytes_given before ++ frames_of left

  -- all inputs had their turns
  record Asking (before : List HostCall) : Type 0 where
    done : List Turn
    rest : List Turn
    split : turns ≡ done ++ rest
    ordered : taken_in before ≡ commands_of done
    at : ℕ
    left : List Message
    orders : Orders
    course : (more : List HostEvent) → session_course 0 [] (given_in before ++ more) ≡ taking done (course_of at [] more)
    stands : after_calls before start ≡ record { out = out_after_all done maps.empty; orders = orders; left = frames_of left }
    readable : AreReadable left
    ends : EndByExit left
    counted : asked_by done + request_count left ≡ count
    bytes : frames_of messages ≡ bytes_given before ++ frames_of left

  -- what is so in the end
  pub record AtExit : Type 0 where
    pub idle : out_after_all turns maps.empty ≡ maps.empty
    pub asked : asked_by turns ≡ count
    pub given : bytes_given calls ≡ frames_of messages

  -- an event was asked for
  abbrev asking : (before : List HostCall) (input : Input) (commands : List (List Command)) (event : HostEvent) (rest : List HostCall)
      → calls ≡ (before ++ map took commands) ++ gave event ∷ rest → Before before input → Asking (before ++ map took commands)
  asking before input commands event rest whole b =
      let asked = before ++ map took commands in
      let had = asks asked event rest whole in
      let same_given : given_in asked ≡ given_in before = given-append before (map took commands) ∙ ap (λ (es : List HostEvent). given_in before ++ es) (given-takings commands) ∙ append-nil (given_in before) in
      let course_now : taking b.done (takes input waits) ≡ taking had.done waits =
      ap (λ (c : Course). taking b.done (takes input c)) (sym (course-waits b.at [] cut_nothing))
      ∙ sym (b.course []) ∙ ap (session_course 0 []) (append-nil (given_in before) ∙ sym same_given) ∙ had.waiting in
      let more = one-more b.done b.rest had.done had.rest turns input b.split had.split course_now in
      let taken : commands ≡ more.turn.commands ∷ [] =
      same-front (commands_of b.done) commands (more.turn.commands ∷ [])
      (ap (λ (cs : List (List Command)). cs ++ commands) (sym b.ordered) ∙ ap (λ (cs : List (List Command)). taken_in before ++ cs) (sym (taken-takings commands)) ∙ sym (taken-append before (map took commands))
      ∙ had.ordered ∙ ap commands_of more.is ∙ commands-append b.done (more.turn ∷ [])) in
      let out = after_input input (out_after_all b.done maps.empty) in
      record {
        done = had.done;
        rest = had.rest;
        split = had.split;
        ordered = had.ordered;
        at = b.at;
        left = b.left;
        orders = after_orders more.turn.commands b.orders;
        course = λ events. ap (λ (es : List HostEvent). session_course 0 [] (es ++ events)) same_given ∙ b.course events
            ∙ ap (λ (i : Input). taking b.done (takes i (course_of b.at [] events))) (sym more.input_is)
            ∙ sym (taking-append b.done (more.turn ∷ []) (course_of b.at [] events)) ∙ ap (λ (ts : List Turn). taking ts (course_of b.at [] events)) (sym more.is);
        stands = after-append before (map took commands) start ∙ ap (after_calls (map took commands)) b.stands
            ∙ ap (λ (cs : List (List Command)). after_calls (map took cs) (standing out b.orders b.left)) taken
            ∙ ap (λ (i : Input). after_took more.turn.commands (standing (after_input i (out_after_all b.done maps.empty)) b.orders b.left)) (sym more.input_is)
            ∙ ap (λ (o : Jobs). standing o (after_orders more.turn.commands b.orders) b.left) (sym (out-append b.done more.turn maps.empty) ∙ ap (λ (ts : List Turn). out_after_all ts maps.empty) (sym more.is));
        readable = b.readable;
        ends = b.ends;
        counted = counts b.done had.done more.turn input b.left more.is more.input_is b.counted;
        bytes = b.bytes ∙ ap (λ (bytes : List ℕ). bytes ++ frames_of b.left)
            (sym (bytes-append before (map took commands) ∙ ap (λ (bytes : List ℕ). bytes_given before ++ bytes) (bytes-takings commands) ∙ append-nil (bytes_given before)));
      }
    where
      after_orders : List Command → Orders → Orders
      after_orders commands orders = (after_took commands (record { out = maps.empty; orders = orders; left = [] })).orders

      standing : Jobs → Orders → List Message → Standing
      standing out orders left = record { out = out; orders = orders; left = frames_of left }

      counts : (done now : List Turn) (turn : Turn) (input : Input) (left : List Message) → now ≡ done ++ turn ∷ [] → turn.input ≡ input
          → asked_by done + (one_for (request_of input) + request_count left) ≡ count → asked_by now + request_count left ≡ count
      counts done now turn input left is same counted =
          let one : one_for (request_of turn.input) ≡ one_for (request_of input) = ap (λ (i : Input). one_for (request_of i)) same in
          omega (arith, ap asked_by is, asked-append done turn, one, counted)

  not-exit : (c : Course) → c ≡ waits → stop_of c ≡ Some exit → ⊥
  not-exit c is stop = let none : stop_of c ≡ None = ap stop_of is in no-stop (sym none ∙ stop)
    where
      no-stop : None ≡ Some exit → ⊥
      no-stop e = cc

  -- the inputs end by `exit`
  ends-well : stop_of (session_course 0 [] (given_in calls)) ≡ Some exit
  ends-well = ap stop_of inputs ∙ end-taking turns (stops exit)

  -- no bytes come behind an `exit`
  no-more-bytes : (before rest : List HostCall) → calls ≡ before ++ rest → stop_of (session_course 0 [] (given_in before)) ≡ Some exit
      → bytes_given rest ≡ []
  no-more-bytes before [] whole stop = refl
  no-more-bytes before (took commands ∷ rest) whole stop =
      no-more-bytes (before ++ took commands ∷ []) rest (whole ∙ sym (append_assoc before (took commands ∷ []) rest))
      (ap (λ (es : List HostEvent). stop_of (session_course 0 [] es)) (given-append before (took commands ∷ []) ∙ append-nil (given_in before)) ∙ stop)
  no-more-bytes before (gave event ∷ rest) whole stop =
      let had = asks before event rest whole in
      let none : stop_of (session_course 0 [] (given_in before)) ≡ None = ap stop_of had.waiting ∙ end-taking had.done waits in
      absurd (no-stop (sym none ∙ stop))
    where
      no-stop : None ≡ Some exit → ⊥
      no-stop e = cc

  -- the `exit` came
  exited : (before rest : List HostCall) (piece : List ℕ) (message : Message) (later : List Message) (a : Asking before)
      → calls ≡ before ++ gave (Bytes piece) ∷ rest → a.left ≡ message ∷ later → is_exit message ≡ true
      → AreNextBytes (record { out = out_after_all a.done maps.empty; orders = a.orders; left = frames_of (message ∷ later) }) piece → AtExit
  exited before rest piece message later a whole left is next =
      let readable : AreReadable (message ∷ later) = subst AreReadable left a.readable in
      let ends : EndByExit (message ∷ later) = subst EndByExit left a.ends in
      let alone : later ≡ [] = last-exit message later ends is in
      let frame_is : piece ≡ frame_for (body_of message) = first-frame message later piece readable.0.short next.first in
      let now = before ++ gave (Bytes piece) ∷ [] in
      let whole_now : calls ≡ now ++ rest = whole ∙ sym (append_assoc before (gave (Bytes piece) ∷ []) rest) in
      let given_now : given_in now ≡ given_in before ++ Bytes piece ∷ [] = given-append before (gave (Bytes piece) ∷ []) in
      let course_now : (more : List HostEvent) → session_course 0 [] (given_in now ++ more) ≡ taking a.done (stops exit) =
      λ more. ap (λ (es : List HostEvent). session_course 0 [] (es ++ more)) given_now ∙ ap (session_course 0 []) (append_assoc (given_in before) (Bytes piece ∷ []) more)
      ∙ a.course (Bytes piece ∷ more)
      ∙ ap (taking a.done) (course-fed a.at [] piece more cut_nothing next.some ∙ ap (λ (bytes : List ℕ). course_of a.at bytes more) frame_is
      ∙ frame-course a.at message more readable.0 ∙ message-exit a.at message (course_of (a.at + length (frame_for (body_of message))) [] more) is) in
      let all : given_in calls ≡ given_in now ++ given_in rest = ap given_in whole_now ∙ given-append now rest in
      let same : taking a.done (stops exit) ≡ taking (a.done ++ a.rest) (stops exit) =
      sym (course_now (given_in rest)) ∙ ap (session_course 0 []) (sym all) ∙ inputs ∙ ap (λ (ts : List Turn). taking ts (stops exit)) a.split in
      let done_all : turns ≡ a.done = a.split ∙ ap (λ (ts : List Turn). a.done ++ ts) (none-left a.done a.rest exit same) ∙ append-nil a.done in
      let stop_now : stop_of (session_course 0 [] (given_in now)) ≡ Some exit =
      ap (λ (es : List HostEvent). stop_of (session_course 0 [] es)) (sym (append-nil (given_in now))) ∙ ap stop_of (course_now []) ∙ end-taking a.done (stops exit) in
      let none : request_count a.left ≡ 0 = ap request_count (left ∙ ap (λ (ms : List Message). message ∷ ms) alone) ∙ exit-asks message is in
      let frames : frames_of a.left ≡ piece = ap frames_of (left ∙ ap (λ (ms : List Message). message ∷ ms) alone) ∙ append-nil (frame_for (body_of message)) ∙ sym frame_is in
      record {
        idle = ap (λ (ts : List Turn). out_after_all ts maps.empty) done_all ∙ next.idle;
        asked = ap asked_by done_all ∙ counted a.done a.left none a.counted;
        given = ap bytes_given whole_now ∙ bytes-append now rest ∙ ap (λ (bytes : List ℕ). bytes_given now ++ bytes) (no-more-bytes now rest whole_now stop_now)
            ∙ append-nil (bytes_given now) ∙ bytes-append before (gave (Bytes piece) ∷ []) ∙ ap (λ (bytes : List ℕ). bytes_given before ++ bytes) (append-nil piece)
            ∙ sym (a.bytes ∙ ap (λ (bytes : List ℕ). bytes_given before ++ bytes) frames);
      }
    where
      counted : (done : List Turn) (left : List Message) → request_count left ≡ 0 → asked_by done + request_count left ≡ count → asked_by done ≡ count
      counted done left none all = omega (arith, none, all)

  -- a message came that is no `exit`
  message-came : (before : List HostCall) (piece : List ℕ) (message : Message) (later : List Message) (a : Asking before)
      → a.left ≡ message ∷ later → is_exit message ≡ false
      → AreNextBytes (record { out = out_after_all a.done maps.empty; orders = a.orders; left = frames_of (message ∷ later) }) piece
      → Before (before ++ gave (Bytes piece) ∷ []) (Next (Lsp message))
  message-came before piece message later a left is next =
      let readable : AreReadable (message ∷ later) = subst AreReadable left a.readable in
      let ends : EndByExit (message ∷ later) = subst EndByExit left a.ends in
      let frame_is : piece ≡ frame_for (body_of message) = first-frame message later piece readable.0.short next.first in
      let given_now : given_in (before ++ gave (Bytes piece) ∷ []) ≡ given_in before ++ Bytes piece ∷ [] = given-append before (gave (Bytes piece) ∷ []) in
      let behind : drop (length piece) (frames_of (message ∷ later)) ≡ frames_of later =
      ap (λ (bytes : List ℕ). drop (length bytes) (frames_of (message ∷ later))) frame_is ∙ drop-append_seam (frame_for (body_of message)) (frames_of later) in
      record {
        done = a.done;
        rest = a.rest;
        split = a.split;
        ordered = taken-append before (gave (Bytes piece) ∷ []) ∙ append-nil (taken_in before) ∙ a.ordered;
        at = a.at + length (frame_for (body_of message));
        left = later;
        orders = a.orders;
        course = λ more. ap (λ (es : List HostEvent). session_course 0 [] (es ++ more)) given_now ∙ ap (session_course 0 []) (append_assoc (given_in before) (Bytes piece ∷ []) more)
            ∙ a.course (Bytes piece ∷ more)
            ∙ ap (taking a.done) (course-fed a.at [] piece more cut_nothing next.some ∙ ap (λ (bytes : List ℕ). course_of a.at bytes more) frame_is
            ∙ frame-course a.at message more readable.0 ∙ message-takes a.at message (course_of (a.at + length (frame_for (body_of message))) [] more) is);
        stands = after-append before (gave (Bytes piece) ∷ []) start ∙ ap (after_gave (Bytes piece)) (a.stands ∙ ap (λ (ms : List Message). standing (out_after_all a.done maps.empty) a.orders (frames_of ms)) left)
            ∙ ap (standing (out_after_all a.done maps.empty) a.orders) behind;
        readable = readable.1;
        ends = goes-on message later ends is;
        counted = counts a.done a.left left a.counted;
        bytes = a.bytes ∙ ap (λ (ms : List Message). bytes_given before ++ frames_of ms) left
            ∙ ap (λ (bytes : List ℕ). bytes_given before ++ (bytes ++ frames_of later)) (sym frame_is)
            ∙ sym (append_assoc (bytes_given before) piece (frames_of later))
            ∙ ap (λ (bytes : List ℕ). bytes ++ frames_of later) (sym (bytes-append before (gave (Bytes piece) ∷ []) ∙ ap (λ (bytes : List ℕ). bytes_given before ++ bytes) (append-nil piece)));
      }
    where
      standing : Jobs → Orders → List ℕ → Standing
      standing out orders left = record { out = out; orders = orders; left = left }

      counts : (done : List Turn) (left : List Message) → left ≡ message ∷ later → asked_by done + request_count left ≡ count
          → asked_by done + (one_for (request_of (Next (Lsp message))) + request_count later) ≡ count
      counts done left is counted = omega (arith, ap request_count is, lsp-asks message later, counted)

  -- an event came that brings no bytes
  quiet-came : (before : List HostCall) (event : HostEvent) (input : Input) → IsQuiet event input → Asking before → Before (before ++ gave event ∷ []) input
  quiet-came before event input quiet a =
      let given_now : given_in (before ++ gave event ∷ []) ≡ given_in before ++ event ∷ [] = given-append before (gave event ∷ []) in
      let out = out_after_all a.done maps.empty in
      record {
        done = a.done;
        rest = a.rest;
        split = a.split;
        ordered = taken-append before (gave event ∷ []) ∙ append-nil (taken_in before) ∙ a.ordered;
        at = a.at;
        left = a.left;
        orders = orders_after event a.orders;
        course = λ more. ap (λ (es : List HostEvent). session_course 0 [] (es ++ more)) given_now ∙ ap (session_course 0 []) (append_assoc (given_in before) (event ∷ []) more)
            ∙ a.course (event ∷ more)
            ∙ ap (taking a.done) (course-event a.at [] event more cut_nothing ∙ quiet.course [] (λ (bytes : List ℕ). course_of a.at bytes more));
        stands = after-append before (gave event ∷ []) start ∙ ap (after_gave event) a.stands
            ∙ ap (λ (batch : List TaskMsg). standing (after_batch batch out) (orders_after event a.orders) (drop (length (event_bytes event)) (frames_of a.left))) quiet.batch
            ∙ ap (λ (bytes : List ℕ). standing (after_input input out) (orders_after event a.orders) (drop (length bytes) (frames_of a.left))) quiet.none
            ∙ ap (standing (after_input input out) (orders_after event a.orders)) (drop-append_seam [] (frames_of a.left));
        readable = a.readable;
        ends = a.ends;
        counted = counts a.done a.left quiet.asks a.counted;
        bytes = a.bytes ∙ ap (λ (bytes : List ℕ). bytes ++ frames_of a.left)
            (sym (bytes-append before (gave event ∷ []) ∙ ap (λ (bytes : List ℕ). bytes_given before ++ (bytes ++ [])) quiet.none ∙ append-nil (bytes_given before)));
      }
    where
      standing : Jobs → Orders → List ℕ → Standing
      standing out orders left = record { out = out; orders = orders; left = left }

      counts : (done : List Turn) (left : List Message) → one_for (request_of input) ≡ 0 → asked_by done + request_count left ≡ count
          → asked_by done + (one_for (request_of input) + request_count left) ≡ count
      counts done left none counted = omega (arith, none, counted)

  -- the rest of the calls, from where an input came on
  abbrev GoesOn : List HostCall → List HostCall → Type 0
  GoesOn before rest = (input : Input) → Before before input → AtExit

  bytes-came : (before rest : List HostCall) (piece : List ℕ) (a : Asking before) → calls ≡ before ++ gave (Bytes piece) ∷ rest
      → AreNextBytes (record { out = out_after_all a.done maps.empty; orders = a.orders; left = frames_of a.left }) piece
      → GoesOn (before ++ gave (Bytes piece) ∷ []) rest → AtExit
  bytes-came before rest piece a whole next later = by_left a.left refl next
    where
      by_exit : (message : Message) (more : List Message) (is : Bool) → a.left ≡ message ∷ more → AreNextBytes (record { out = out_after_all a.done maps.empty; orders = a.orders; left = frames_of (message ∷ more) }) piece → is_exit message ≡ is → AtExit
      by_exit message more true left n is = exited before rest piece message more a whole left is n
      by_exit message more false left n is = later (Next (Lsp message)) (message-came before piece message more a left is n)

      by_left : (left : List Message) → a.left ≡ left → AreNextBytes (record { out = out_after_all a.done maps.empty; orders = a.orders; left = frames_of left }) piece → AtExit
      by_left [] is n = absurd (subst EndByExit is a.ends)
      by_left (message ∷ more) is n = by_exit message more (is_exit message) is n refl

  some-left : (left : List Message) → EndByExit left → frames_of left ≡ [] → ⊥
  some-left [] ends none = ends
  some-left (message ∷ later) ends none = let some = frame_some message later in absurd (omega (arith, some, ap length none))

  event-came : (before rest : List HostCall) (event : HostEvent) (a : Asking before) → calls ≡ before ++ gave event ∷ rest
      → IsNext (record { out = out_after_all a.done maps.empty; orders = a.orders; left = frames_of a.left }) event
      → GoesOn (before ++ gave event ∷ []) rest → AtExit
  event-came before rest (Bytes piece) a whole next later = bytes-came before rest piece a whole next later
  event-came before rest Ended a whole next later = absurd (some-left a.left a.ends next.none)
  event-came before rest (Tasks batch) a whole next later =
      later (Next (Task batch)) (quiet-came before (Tasks batch) (Next (Task batch)) (record { none = refl; batch = refl; asks = refl; course = λ held on. refl }) a)
  event-came before rest (DeferredTask tasks) a whole next later =
      later (Next (Deferred tasks)) (quiet-came before (DeferredTask tasks) (Next (Deferred tasks)) (record { none = refl; batch = refl; asks = refl; course = λ held on. refl }) a)
  event-came before rest (Vfs messages) a whole next later =
      later (Next (VfsEvent messages)) (quiet-came before (Vfs messages) (Next (VfsEvent messages)) (record { none = refl; batch = refl; asks = refl; course = λ held on. refl }) a)
  event-came before rest (Timer ticket) a whole next later =
      later (Next (TimerEvent ticket)) (quiet-came before (Timer ticket) (Next (TimerEvent ticket)) (record { none = refl; batch = refl; asks = refl; course = λ held on. refl }) a)
  event-came before rest (Flycheck messages) a whole next later = absurd next
  event-came before rest (TestResult messages) a whole next later = absurd next
  event-came before rest (DiscoverProject messages) a whole next later = absurd next

  walk : (before : List HostCall) (input : Input) (commands : List (List Command)) (rest : List HostCall)
      → calls ≡ (before ++ map took commands) ++ rest → Before before input → AtExit
  walk before input commands [] whole b =
      let all : given_in calls ≡ given_in before ++ [] =
      ap given_in (whole ∙ append-nil (before ++ map took commands)) ∙ given-append before (map took commands) ∙ ap (λ (es : List HostEvent). given_in before ++ es) (given-takings commands) in
      let none : stop_of (session_course 0 [] (given_in calls)) ≡ None =
      ap (λ (es : List HostEvent). stop_of (session_course 0 [] es)) all ∙ ap stop_of (b.course [])
      ∙ end-taking b.done (takes input (course_of b.at [] [])) ∙ ap stop_of (course-waits b.at [] cut_nothing) in
      absurd (no-stop (sym none ∙ ends-well))
    where
      no-stop : None ≡ Some exit → ⊥
      no-stop e = cc
  walk before input commands (took more ∷ rest) whole b =
      walk before input (commands ++ more ∷ []) rest
      (whole ∙ append_assoc before (map took commands) (took more ∷ rest) ∙ ap (λ (cs : List HostCall). before ++ cs) (takings-more commands more rest)
      ∙ sym (append_assoc before (map took (commands ++ more ∷ [])) rest)) b
  walk before input commands (gave event ∷ rest) whole b =
      let asked = before ++ map took commands in
      let a = asking before input commands event rest whole b in
      let next : IsNext (after_calls asked start) event = next-at asked event rest start (subst (AreInOrder start) whole in_order) in
      event-came asked rest event a whole (subst (λ (s : Standing). IsNext s event) a.stands next)
      (λ later here. walk (asked ++ gave event ∷ []) later [] rest
      (whole ∙ sym (append_assoc asked (gave event ∷ []) rest) ∙ ap (λ (cs : List HostCall). cs ++ rest) (sym (append-nil (asked ++ gave event ∷ [])))) here)

  pub walked : AreReadable messages → EndByExit messages → request_count messages ≡ count → AtExit
  walked readable ends counted = walk [] Start [] calls refl (record {
    done = [];
    rest = turns;
    split = refl;
    ordered = refl;
    at = 0;
    left = messages;
    orders = start.orders;
    course = λ more. refl;
    stands = refl;
    readable = readable;
    ends = ends;
    counted = omega (arith, counted);
    bytes = refl;
  })
