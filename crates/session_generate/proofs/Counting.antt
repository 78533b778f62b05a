-- How many responses turns write, where each answers once and nothing waits in the end.
use Rattle.std.proofs.Common.{◌≡◌, ℕ, zero, suc, ◌+◌, ◌-◌, ◌<◌, ◌≤◌, Bool, true, false, cond, List, [], ◌∷◌, ◌++◌, length, refl, sym, ap, subst, ◌∙◌, arith, append_assoc, append-nil}
use Rattle.std.specs.Prelude.{Option, None, Some, is_some}
use Rattle.std.specs.Ordering.{nat_cmp}
use Rattle.std.specs.Cmp.{nat_cmp_total}
use Rattle.std.specs.FinMap as map
use Rattle.lsp_frame.specs.declared.message.RequestId.{RequestId}
use Rattle.lsp_frame.specs.declared.message.Request.{Request}
use Rattle.lsp_frame.specs.declared.message.Response.{Response}
use Rattle.lsp_frame.specs.declared.message.Message.TheVariants.{Request as RequestMessage, Notification as NotificationMessage, Response as ResponseMessage}
use Rattle.lsp_frame.specs.Pending.{Pending, IsAbove, closed, completed, id_of, is_pending, none_pending, registered, ticket_of}
use Rattle.lsp_frame.specs.declared.incoming.Registered.TheVariants.{New}
use Rattle.lsp_frame.proofs.Above.{closed_above, later_above, none_above, registering_above}
use Rattle.lsp_frame.proofs.InStep.{closed-is, ticket_of-is}
use Rattle.ra_config.specs.Config.{ConfigData}
use Rattle.session_port.specs.Written.{responses_in}
use Rattle.session_port.specs.Jobs.{Jobs}
use Rattle.desk.specs.Folds.{AnswersOnce, AnswersRequest, AreAnswers, AreHeld, after_request, closed_by, closed_with, pending_after}
use Rattle.desk.specs.Meaning.{Meaning}
use Rattle.session_model.specs.Headline.{Answers}
use Rattle.session_model.specs.Inputs.{request_of, turns_after}
use Rattle.session_model.specs.Places.{Place, beginning, place_after, place_of_turns}
use Rattle.session_model.specs.Run.{Turn}
use Rattle.session_model.specs.declared.input.Event.TheVariants.{Lsp, Task, Vfs, Deferred, News, Timer}
use Rattle.session_model.specs.declared.input.Input.{Input}
use Rattle.session_model.specs.declared.input.Input.TheVariants.{Start, Next}
use Rattle.session_laws.proofs.Handed.{after_all-append}
use Rattle.session_generate.specs.Generating.{response_count}

-- how many requests wait
waits : Pending → ℕ
waits p = map.len p

nothing-waits : waits none_pending ≡ 0
unfolding waits none_pending
nothing-waits = map.len-empty nat_cmp RequestId

-- one for a request
abbrev pub one_for : Option Request → ℕ
one_for request = cond (is_some request) 1 0

abbrev pub asked_by : List Turn → ℕ
asked_by [] = 0
asked_by (turn ∷ turns) = one_for (request_of turn.input) + asked_by turns

true_not_false : true ≡ false → ⊥
true_not_false e = cc

some-found : (o : Option ℕ) → is_some o ≡ true → (ticket : ℕ) × (o ≡ Some ticket)
some-found None e = absurd cc
some-found (Some ticket) e = (ticket, refl)

-- what is there is counted
waiting-some : (p : Pending) (ticket : ℕ) → map.contains_key p ticket ≡ true → 0 < map.len p
waiting-some p ticket there = at_length (map.len p) refl
  where
    at_length : (n : ℕ) → map.len p ≡ n → 0 < map.len p
    at_length zero none =
        let empty : map.get p ticket ≡ None = ap (λ (q : Pending). map.get q ticket) (map.empty_of_len p none) ∙ map.get-empty nat_cmp ticket in
        absurd (true_not_false (sym there ∙ ap is_some empty))
    at_length (suc n) some = omega (arith, some)

closed-fewer : (id : RequestId) (p : Pending) → is_pending id p ≡ true → waits p ≡ 1 + waits (closed id p)
unfolding waits completed
closed-fewer id p pends =
    let found = some-found (ticket_of id p) pends in
    let there : map.contains_key p found.0 ≡ true = ap is_some (ticket_of-is found.0 id p found.1) in
    let less : map.len (map.remove p found.0) ≡ map.len p - 1 = map.len-remove nat_cmp_total p found.0 ∙ ap (λ (b : Bool). cond b (map.len p - 1) (map.len p)) there in
    let some : 0 < map.len p = waiting-some p found.0 there in
    let same : map.len (closed id p) ≡ map.len (map.remove p found.0) = ap map.len (closed-is id p (Some found.0) found.1) in
    omega (arith, less, some, same)

-- each response closes one
closed-all : (responses : List Response) (p : Pending) → AreAnswers responses p → waits p ≡ length responses + waits (closed_by responses p)
closed-all [] p all = omega arith
closed-all (response ∷ responses) p all =
    let closing : closed_with response.id p ≡ closed all.0 p = ap (λ (o : Option RequestId). closed_with o p) all.1 in
    let later = closed-all responses (closed all.0 p) all.3 in
    let same : waits (closed_by responses (closed_with response.id p)) ≡ waits (closed_by responses (closed all.0 p)) =
    ap (λ (q : Pending). waits (closed_by responses q)) closing in
    omega (arith, closed-fewer all.0 p all.2, later, same)

-- a new request is one more
registered-more : (ticket : ℕ) (id : RequestId) (p : Pending) → IsAbove ticket p → waits (registered ticket id p) ≡ 1 + waits p
unfolding waits registered
registered-more ticket id p above =
    let absent : map.contains_key p ticket ≡ false = by_id (map.get p ticket) refl in
    let more : map.len (map.insert p ticket id) ≡ map.len p + 1 = map.len-insert nat_cmp_total p ticket id ∙ ap (λ (b : Bool). cond b (map.len p) (map.len p + 1)) absent in
    omega (arith, more)
  where
    by_id : (o : Option RequestId) → map.get p ticket ≡ o → map.contains_key p ticket ≡ false
    by_id None none = ap is_some none
    by_id (Some other) there = let low = above.below ticket other there in absurd (omega arith)

-- a turn
request-balanced : (ticket : ℕ) (r : Request) (responses : List Response) (p : Pending) (pends : Bool) → is_pending r.id p ≡ pends → IsAbove ticket p
    → AnswersRequest pends ticket r.id responses p → 1 + waits p ≡ length responses + waits (after_request pends ticket r.id responses p)
request-balanced ticket r responses p true is above once = omega (arith, ap length once)
request-balanced ticket r responses p false is above once =
    omega (arith, registered-more ticket r.id p above, closed-all responses (registered ticket r.id p) once)

turn-balanced : (ticket : ℕ) (request : Option Request) (responses : List Response) (p : Pending) → IsAbove ticket p → AnswersOnce ticket request responses p
    → one_for request + waits p ≡ length responses + waits (pending_after ticket request responses p)
turn-balanced ticket None responses p above once = omega (arith, closed-all responses p once)
turn-balanced ticket (Some r) responses p above once = request-balanced ticket r responses p (is_pending r.id p) refl above once

-- the tickets that wait stay below the number of the next turn
closed-above : (n : ℕ) (responses : List Response) (p : Pending) → IsAbove n p → IsAbove n (closed_by responses p)
closed-above n [] p above = above
closed-above n (response ∷ responses) p above = closed-above n responses (closed_with response.id p) (by_id response.id)
  where
    by_id : (o : Option RequestId) → IsAbove n (closed_with o p)
    by_id None = above
    by_id (Some id) = closed_above n id p (closed id p) refl above

none-found : (o : Option ℕ) → is_some o ≡ false → o ≡ None
none-found None e = refl
none-found (Some ticket) e = absurd cc

request-above : (turns : ℕ) (r : Request) (responses : List Response) (p : Pending) (pends : Bool) → is_pending r.id p ≡ pends → IsAbove (turns + 1) p
    → IsAbove (turns + 1 + 1) (after_request pends (turns + 1) r.id responses p)
request-above turns r responses p true is above = later_above (turns + 1) (turns + 1 + 1) p (omega arith) above
request-above turns r responses p false is above =
    closed-above (turns + 1 + 1) responses (registered (turns + 1) r.id p)
    (registering_above (turns + 1) (turns + 1 + 1) r.id p (registered (turns + 1) r.id p) New (omega arith) (none-found (ticket_of r.id p) is, refl)
    (later_above (turns + 1) (turns + 1 + 1) p (omega arith) above))

none-above : (turns more : ℕ) (responses : List Response) (p : Pending) → turns ≤ more → IsAbove (turns + 1) p → IsAbove (more + 1) (closed_by responses p)
none-above turns more responses p le above = later_above (turns + 1) (more + 1) (closed_by responses p) (omega (arith, le)) (closed-above (turns + 1) responses p above)

input-above : (input : Input) (turns : ℕ) (responses : List Response) (p : Pending) → IsAbove (turns + 1) p
    → IsAbove (turns_after input turns + 1) (pending_after (turns + 1) (request_of input) responses p)
input-above Start turns responses p above = none-above turns turns responses p (omega arith) above
input-above (Next (Lsp (RequestMessage r))) turns responses p above = request-above turns r responses p (is_pending r.id p) refl above
input-above (Next (Lsp (NotificationMessage n))) turns responses p above = none-above turns (turns + 1) responses p (omega arith) above
input-above (Next (Lsp (ResponseMessage r))) turns responses p above = none-above turns (turns + 1) responses p (omega arith) above
input-above (Next (Task batch)) turns responses p above = none-above turns (turns + 1) responses p (omega arith) above
input-above (Next (Vfs messages)) turns responses p above = none-above turns (turns + 1) responses p (omega arith) above
input-above (Next (Deferred tasks)) turns responses p above = none-above turns (turns + 1) responses p (omega arith) above
input-above (Next (News news)) turns responses p above = none-above turns (turns + 1) responses p (omega arith) above
input-above (Next (Timer ticket)) turns responses p above = none-above turns (turns + 1) responses p (omega arith) above

module _ (meaning : Meaning) (settings : ConfigData) (honest : Bool) (turns : List Turn)
    (each : (before : List Turn) (turn : Turn) (after : List Turn) → turns ≡ before ++ turn ∷ after → Answers meaning settings honest before turn) where
  place : List Turn → Place
  place before = place_of_turns meaning settings before

  place-one : (before : List Turn) (turn : Turn) → place_of_turns meaning settings (before ++ turn ∷ []) ≡ place_after meaning turn (place_of_turns meaning settings before)
  place-one before turn = after_all-append meaning before (turn ∷ []) (beginning settings)

  balanced : (before rest : List Turn) → turns ≡ before ++ rest
      → IsAbove ((place_of_turns meaning settings before).desk.turns + 1) (place_of_turns meaning settings before).desk.pending
      → asked_by rest + waits (place_of_turns meaning settings before).desk.pending
      ≡ response_count rest + waits (place_of_turns meaning settings turns).desk.pending
  balanced before [] split above =
      let same : waits (place_of_turns meaning settings before).desk.pending ≡ waits (place_of_turns meaning settings turns).desk.pending =
      ap (λ (ts : List Turn). waits (place_of_turns meaning settings ts).desk.pending) (sym (split ∙ append-nil before)) in
      omega (arith, same)
  balanced before (turn ∷ rest) split above =
      let now = place_of_turns meaning settings before in
      let once = (each before turn rest split).once in
      let one = turn-balanced (now.desk.turns + 1) (request_of turn.input) (responses_in turn.messages) now.desk.pending above once in
      let moved : turns ≡ (before ++ turn ∷ []) ++ rest = split ∙ sym (append_assoc before (turn ∷ []) rest) in
      let same = place-one before turn in
      let above_then : IsAbove ((place_of_turns meaning settings (before ++ turn ∷ [])).desk.turns + 1) (place_of_turns meaning settings (before ++ turn ∷ [])).desk.pending =
      subst (λ (p : Place). IsAbove (p.desk.turns + 1) p.desk.pending) (sym same) (input-above turn.input now.desk.turns (responses_in turn.messages) now.desk.pending above) in
      let later = balanced (before ++ turn ∷ []) rest moved above_then in
      let then_same : waits (place_of_turns meaning settings (before ++ turn ∷ [])).desk.pending ≡ waits (place_after meaning turn now).desk.pending =
      ap (λ (p : Place). waits p.desk.pending) same in
      omega (arith, one, later, then_same)

  -- nothing waits where no job is out
  none-waits : (place : Place) → AreHeld place.desk → place.desk.jobs ≡ map.empty → waits place.desk.pending ≡ 0
  unfolding waits
  none-waits place held idle =
      ap map.len (map.same_map nat_cmp_total map.nat_cmp-IsAntisymmetric place.desk.pending map.empty (λ ticket. by_id ticket (id_of ticket place.desk.pending) refl ∙ sym (map.get-empty nat_cmp ticket)))
      ∙ map.len-empty nat_cmp RequestId
    where
      no_job : (jobs : Jobs) (number : ℕ) → jobs ≡ map.empty → map.get jobs number ≡ None
      no_job jobs number is = ap (λ (js : Jobs). map.get js number) is ∙ map.get-empty nat_cmp number

      by_id : (ticket : ℕ) (o : Option RequestId) → id_of ticket place.desk.pending ≡ o → id_of ticket place.desk.pending ≡ None
      by_id ticket None is = is
      by_id ticket (Some id) is =
          let h = held ticket id is in
          let one = h.each h.part h.is_left in
          let none = no_job place.desk.jobs one.number idle in
          let there = one.is_out in
          absurd cc

  -- each request has its response
  pub all-answered : AreHeld (place_of_turns meaning settings turns).desk → (place_of_turns meaning settings turns).desk.jobs ≡ map.empty
      → response_count turns ≡ asked_by turns
  all-answered held idle =
      let start = balanced [] turns refl (none_above 1 none_pending refl) in
      let none = none-waits (place_of_turns meaning settings turns) held idle in
      omega (arith, start, none, nothing-waits)
