-- What a step of the desk has done, where other messages may stand among those of its row.
use Rattle.std.proofs.Common.{◌≡◌, ℕ, ◌+◌, List, [], ◌∷◌, ◌++◌, length, refl, sym, ap, ◌∙◌, arith, append-nil, append_assoc}
use Rattle.std.proofs.lemmas.List.{length-append}
use Rattle.std.specs.Prelude.{None, Option}
use Rattle.std.specs.List.{filter_map}
use Rattle.lsp_frame.specs.declared.message.Message.{Message}
use Rattle.lsp_frame.specs.declared.message.Message.TheVariants.{Notification as NotificationMessage}
use Rattle.lsp_frame.specs.declared.message.Notification.{Notification}
use Rattle.lsp_frame.specs.declared.message.Request.{Request}
use Rattle.session_port.specs.Jobs.{Jobs}
use Rattle.session_port.specs.Record.{spawned}
use Rattle.session_port.specs.TurnState.{TurnState, written}
use Rattle.lsp_frame.specs.declared.message.Response.{Response}
use Rattle.session_port.specs.Written.{Written, responses_in}
use Rattle.session_port.specs.declared.command.Command.{Command}
use Rattle.session_port.specs.declared.job.Job.{Job}
use Rattle.desk.specs.Desk.{Desk}
use Rattle.desk.specs.Folds.{asked_among, closed_by, pending_after, shutdown_after}
use Rattle.desk.specs.Reactions.{Reaction, reactions_joined, responses_of, silent}
use Rattle.desk_laws.specs.Settled.{PassesOver, Settled}
use Rattle.desk_laws.proofs.Appends.{asked-append, closed_by-append, responses-append, spawned-append}
use Rattle.desk_laws.proofs.Settling.{nothing-settles}
use Rattle.session_model.specs.Sublists.{IsSublist}
use Rattle.session_laws.proofs.Passing.{Says}
use Rattle.session_laws.proofs.Sublists.{sublist-behind, sublist-itself, sublist-joined}

-- as `Settled`, but that messages which answer nobody may stand among those of the row
pub record SettledAmong (request : Option Request) (w v : TurnState Desk) (done : Reaction) (jobs : Jobs) : Type 0 where
  pub messages : List Message
  pub writes : v.out.messages ≡ w.out.messages ++ messages
  pub answers : responses_in messages ≡ responses_of done
  pub in_order : IsSublist done.messages messages
  pub spawns : spawned v.out.commands ≡ spawned w.out.commands ++ done.jobs
  pub asked : asked_among done.jobs ≡ done.jobs
  pub others : (number_of : Command → Option ℕ) → PassesOver number_of → filter_map number_of v.out.commands ≡ filter_map number_of w.out.commands
  pub turns : v.state.turns ≡ w.state.turns
  pub pending : v.state.pending ≡ pending_after w.state.turns request (responses_of done) w.state.pending
  pub out : v.state.jobs ≡ jobs
  pub last_job : v.state.last_job ≡ w.state.last_job + length done.jobs
  pub shutdown : v.state.shutdown ≡ shutdown_after request (responses_of done) w.state.shutdown

-- where none does
pub among : {request : Option Request} {w v : TurnState Desk} {done : Reaction} {jobs : Jobs} → Settled request w v done jobs
    → SettledAmong request w v done jobs
among {request} {w} {v} {done} {jobs} s = record {
  messages = done.messages;
  writes = s.written;
  answers = refl;
  in_order = sublist-itself done.messages;
  spawns = s.spawns;
  asked = s.asked;
  others = s.others;
  turns = s.turns;
  pending = s.pending;
  out = s.out;
  last_job = s.last_job;
  shutdown = s.shutdown;
}

-- one step and then another
pub among-on : (w v u : TurnState Desk) (a b : Reaction) (js ks : Jobs) → SettledAmong None w v a js → SettledAmong None v u b ks
    → SettledAmong None w u (reactions_joined a b) ks
among-on w v u a b js ks p q = record {
  messages = p.messages ++ q.messages;
  writes = q.writes ∙ ap (λ (ms : List Message). ms ++ q.messages) p.writes ∙ append_assoc w.out.messages p.messages q.messages;
  answers = responses-append p.messages q.messages ∙ (λ i. p.answers i ++ q.answers i) ∙ sym (responses-append a.messages b.messages);
  in_order = sublist-joined a.messages b.messages p.messages q.messages p.in_order q.in_order;
  spawns = q.spawns ∙ ap (λ (xs : List Job). xs ++ b.jobs) p.spawns ∙ append_assoc (spawned w.out.commands) a.jobs b.jobs;
  asked = asked-append a.jobs b.jobs ∙ (λ i. p.asked i ++ q.asked i);
  others = λ number_of passes. q.others number_of passes ∙ p.others number_of passes;
  turns = q.turns ∙ p.turns;
  pending = q.pending ∙ ap (closed_by (responses_of b)) p.pending ∙ sym (closed_by-append (responses_of a) (responses_of b) w.state.pending)
      ∙ ap (λ rs. closed_by rs w.state.pending) (sym (responses-append a.messages b.messages));
  out = q.out;
  last_job = omega (arith, q.last_job, p.last_job, length-append a.jobs b.jobs);
  shutdown = q.shutdown ∙ p.shutdown;
}

-- a notification
pub tells-among : (n : Notification) (w : TurnState Desk) → SettledAmong None w (written (NotificationMessage n) w) silent w.state.jobs
unfolding written
tells-among n w = let still : Settled None w w silent w.state.jobs = nothing-settles w in record {
  messages = NotificationMessage n ∷ [];
  writes = refl;
  answers = refl;
  in_order = tt;
  spawns = still.spawns;
  asked = still.asked;
  others = still.others;
  turns = still.turns;
  pending = still.pending;
  out = still.out;
  last_job = still.last_job;
  shutdown = still.shutdown;
}

-- what is said that answers nobody
pub says-among : (w : TurnState Desk) (out : Written) → Says w.out out
    → SettledAmong None w (record { state = w.state; out = out }) silent w.state.jobs
says-among w out s = let still : Settled None w w silent w.state.jobs = nothing-settles w in record {
  messages = s.tells.messages;
  writes = s.tells.written;
  answers = s.tells.answers_none;
  in_order = tt;
  spawns = ap spawned s.tells.ordered ∙ spawned-append w.out.commands s.tells.commands
      ∙ ap (λ (js : List Job). spawned w.out.commands ++ js) s.tells.spawns_none;
  asked = still.asked;
  others = s.passes;
  turns = still.turns;
  pending = still.pending;
  out = still.out;
  last_job = still.last_job;
  shutdown = still.shutdown;
}

-- and then the desk does its row
pub among-behind : (request : Option Request) (w : TurnState Desk) (out : Written) (v : TurnState Desk) (done : Reaction) (jobs : Jobs) → Says w.out out
    → Settled request (record { state = w.state; out = out }) v done jobs → SettledAmong request w v done jobs
among-behind request w out v done jobs s settled = record {
  messages = s.tells.messages ++ done.messages;
  writes = settled.written ∙ ap (λ (ms : List Message). ms ++ done.messages) s.tells.written
      ∙ append_assoc w.out.messages s.tells.messages done.messages;
  answers = responses-append s.tells.messages done.messages ∙ ap (λ (rs : List Response). rs ++ responses_of done) s.tells.answers_none;
  in_order = sublist-behind done.messages s.tells.messages done.messages (sublist-itself done.messages);
  spawns = settled.spawns ∙ ap (λ (js : List Job). js ++ done.jobs) (ap spawned s.tells.ordered ∙ spawned-append w.out.commands s.tells.commands
      ∙ ap (λ (js : List Job). spawned w.out.commands ++ js) s.tells.spawns_none ∙ append-nil _);
  asked = settled.asked;
  others = λ number_of passes. settled.others number_of passes ∙ s.passes number_of passes;
  turns = settled.turns;
  pending = settled.pending;
  out = settled.out;
  last_job = settled.last_job;
  shutdown = settled.shutdown;
}
