-- The jobs that a row hands over have the numbers after those that were given.
use Rattle.std.proofs.Common.{◌≡◌, ℕ, ◌+◌, List, [], ◌∷◌, ◌++◌, length, Bool, true, false, refl, sym, ◌∙◌, subst, arith, inl, inr}
use Rattle.std.specs.Prelude.{Option, None, Some, if◌then◌else◌}
use Rattle.lsp_frame.specs.Pending.{is_pending}
use Rattle.lsp_frame.specs.declared.message.Request.{Request}
use Rattle.lsp_frame.specs.declared.message.RequestId.{RequestId}
use Rattle.session_port.specs.Jobs.{final_of, fitting_job}
use Rattle.session_port.specs.Record.{AreRising, last_number}
use Rattle.session_port.specs.declared.event.TaskMsg.{TaskMsg}
use Rattle.session_port.specs.declared.job.Job.{Job}
use Rattle.session_port.specs.declared.job.JobResult.{JobResult}
use Rattle.desk.specs.Desk.{Desk, waiting_for}
use Rattle.desk.specs.Meaning.{Meaning}
use Rattle.desk.specs.Reactions.{Reaction, silent, says, new_row, request_row, cancel_row, ticket_row, final_row, fitting_row, message_row}
use Rattle.desk.specs.Replies.{canceled_by_client, finished_reply}
use Rattle.desk.specs.Scene.{Scene}
use Rattle.desk_laws.specs.Numbers.{AreNumbered}
use Rattle.desk_laws.specs.Reacting.{Reacts}
use Rattle.desk_laws.proofs.Held.{has-ticket}
use Rattle.desk_laws.proofs.Reacting.{new-reacts, result-reacts}

-- jobs with the numbers after those of others
pub numbered-append : (given : ℕ) (xs ys : List Job) → AreNumbered given xs → AreNumbered (given + length xs) ys → AreNumbered given (xs ++ ys)
numbered-append given [] ys a b = subst (λ n. AreNumbered n ys) (omega arith) b
numbered-append given (x ∷ xs) ys a b = (a.0, numbered-append (given + 1) xs ys a.1 (subst (λ n. AreNumbered n ys) same b))
  where
    same : given + length (x ∷ xs) ≡ given + 1 + length xs
    same = omega arith

-- each number is above the one before
pub numbered-rising : (given low : ℕ) (jobs : List Job) → low ≡ given → AreNumbered given jobs → AreRising low jobs
numbered-rising given low [] is h = tt
numbered-rising given low (job ∷ jobs) is h = (let e = h.0 in omega arith, numbered-rising (given + 1) job.number jobs h.0 h.1)

-- and the last one says how many were given
pub numbered-last : (given low : ℕ) (jobs : List Job) → low ≡ given → AreNumbered given jobs → last_number low jobs ≡ given + length jobs
numbered-last given low [] is h = omega (arith, is)
numbered-last given low (job ∷ jobs) is h = numbered-last (given + 1) job.number jobs h.0 h.1 ∙ omega arith

either-numbered : (given : ℕ) (b : Bool) (x y : Reaction) → AreNumbered given x.jobs → AreNumbered given y.jobs → AreNumbered given (if b then x else y).jobs
either-numbered given true x y p q = p
either-numbered given false x y p q = q

-- what answers a request, or hands over a job for it
reacts-numbered : (scene : Scene) (given ticket : ℕ) (id : RequestId) (done : Reaction) → Reacts scene given ticket id done → AreNumbered given done.jobs
reacts-numbered scene given ticket id done (inl (response, is, said)) = subst (λ (d : Reaction). AreNumbered given d.jobs) (sym said) tt
reacts-numbered scene given ticket id done (inr (class, row_id, params, last_job)) = subst (λ (d : Reaction). AreNumbered given d.jobs) (sym last_job) (refl, tt)

pub request-numbered : (meaning : Meaning) (scene : Scene) (desk : Desk) (ticket : ℕ) (r : Request)
    → AreNumbered desk.last_job (request_row meaning scene desk ticket r).jobs
request-numbered meaning scene desk ticket r =
    either-numbered desk.last_job (is_pending r.id desk.pending) _ _ tt
    (reacts-numbered scene desk.last_job ticket r.id (new_row meaning scene desk ticket r) (new-reacts meaning scene desk ticket r))

pub cancel-numbered : (id : RequestId) (desk : Desk) → AreNumbered desk.last_job (cancel_row id desk).jobs
cancel-numbered id desk = either-numbered desk.last_job (is_pending id desk.pending) (says (canceled_by_client id)) silent tt tt

ticket-numbered : (meaning : Meaning) (scene : Scene) (desk : Desk) (o : Option RequestId) (job : Job) (result : JobResult) → waiting_for job desk ≡ o
    → AreNumbered desk.last_job (ticket_row meaning scene desk o job result).jobs
ticket-numbered meaning scene desk None job result waits = tt
ticket-numbered meaning scene desk (Some id) job result waits =
    let t = has-ticket job desk id waits in
    reacts-numbered scene desk.last_job t.ticket id _ (result-reacts meaning scene desk t.ticket id job result (finished_reply id result) refl t.its)

final-numbered : (meaning : Meaning) (scene : Scene) (desk : Desk) (o : Option JobResult) (job : Job)
    → AreNumbered desk.last_job (final_row meaning scene desk o job).jobs
final-numbered meaning scene desk None job = tt
final-numbered meaning scene desk (Some result) job = ticket-numbered meaning scene desk (waiting_for job desk) job result refl

fitting-numbered : (meaning : Meaning) (scene : Scene) (desk : Desk) (o : Option Job) (message : TaskMsg)
    → AreNumbered desk.last_job (fitting_row meaning scene desk o message).jobs
fitting-numbered meaning scene desk None message = tt
fitting-numbered meaning scene desk (Some job) message = final-numbered meaning scene desk (final_of message.body) job

pub message-numbered : (meaning : Meaning) (scene : Scene) (desk : Desk) (message : TaskMsg)
    → AreNumbered desk.last_job (message_row meaning scene desk message).jobs
message-numbered meaning scene desk message = fitting-numbered meaning scene desk (fitting_job message desk.jobs) message
