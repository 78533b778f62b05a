-- Messages, commands, responses and jobs, one list after another.
use Rattle.std.proofs.Common.{◌≡◌, ℕ, List, [], ◌∷◌, ◌++◌, refl, ◌∙◌, append-nil}
use Rattle.std.proofs.lemmas.List.Elements.{filter-append, filter_map-append}
use Rattle.std.specs.List.{filter_map}
use Rattle.std.specs.Prelude.{Option, None}
use Rattle.lsp_frame.specs.Pending.{Pending}
use Rattle.lsp_frame.specs.declared.message.Message.{Message}
use Rattle.lsp_frame.specs.declared.message.Response.{Response}
use Rattle.session_port.specs.Events.{job_of, revision_of}
use Rattle.session_port.specs.Jobs.{Jobs}
use Rattle.session_port.specs.Record.{spawned, with_jobs}
use Rattle.session_port.specs.declared.command.Command.{Command}
use Rattle.session_port.specs.declared.job.Job.{Job}
use Rattle.session_port.specs.Written.{response_in, responses_in}
use Rattle.desk.specs.Folds.{asked_among, closed_by, closed_with, is_for_request}

pub closed_by-append : (xs ys : List Response) (pending : Pending) → closed_by (xs ++ ys) pending ≡ closed_by ys (closed_by xs pending)
closed_by-append [] ys pending = refl
closed_by-append (response ∷ xs) ys pending = closed_by-append xs ys (closed_with response.id pending)

pub responses-append : (xs ys : List Message) → responses_in (xs ++ ys) ≡ responses_in xs ++ responses_in ys
responses-append xs ys = filter_map-append response_in xs ys

pub spawned-append : (xs ys : List Command) → spawned (xs ++ ys) ≡ spawned xs ++ spawned ys
spawned-append xs ys = filter_map-append job_of xs ys

pub revisions-append : (xs ys : List Command) → filter_map revision_of (xs ++ ys) ≡ filter_map revision_of xs ++ filter_map revision_of ys
revisions-append xs ys = filter_map-append revision_of xs ys

-- a command that is passed over
pub passed-append : (number_of : Command → Option ℕ) (commands : List Command) (command : Command) → number_of command ≡ None
    → filter_map number_of (commands ++ command ∷ []) ≡ filter_map number_of commands
passed-append number_of commands command none = filter_map-append number_of commands (command ∷ []) ∙ rw none (append-nil _)

pub asked-append : (xs ys : List Job) → asked_among (xs ++ ys) ≡ asked_among xs ++ asked_among ys
asked-append xs ys = filter-append is_for_request xs ys

pub with_jobs-append : (xs ys : List Job) (out : Jobs) → with_jobs (xs ++ ys) out ≡ with_jobs ys (with_jobs xs out)
with_jobs-append [] ys out = refl
with_jobs-append (x ∷ xs) ys out = with_jobs-append xs ys _
