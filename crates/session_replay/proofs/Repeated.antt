-- A record's session repeats each run that had its events.
use Rattle.std.proofs.Common.{◌≡◌, ℕ, ◌<◌, false, List, [], ◌++◌, refl, sym, ap, ◌∙◌, subst}
use Rattle.std.specs.Prelude.{⊤, Option, Some, Result, ◌^◌, replicate}
use Rattle.session_port.specs.Record.{HostCall, given_in}
use Rattle.session_port.specs.declared.event.HostEvent.{HostEvent}
use Rattle.session_port.specs.declared.event.HostEvent.TheVariants.{Ended}
use Rattle.session_laws.specs.Course.{bytes_brought}
use Rattle.session_laws.specs.Meaning.{Meaning}
use Rattle.session_laws.specs.Run.{Turn, told_of}
use Rattle.session_laws.specs.SessionError.{SessionError}
use Rattle.session_record.specs.declared.start.StartConfig.{StartConfig}
use Rattle.session_replay.specs.Again.{GivesAgain, IsDecided, IsUndisturbed, ToldRun, written}
use Rattle.session_replay.specs.Replaying.{RunsAgain}
use Rattle.session_replay.specs.declared.error.ReplayError.{ReplayError}
use Rattle.session_replay.proofs.Again.{replay-front, replay-whole}

module _ (meaning : Meaning) (begin : StartConfig) (events : List HostEvent) (calls : List HostCall) (old new : Option (List (List ℕ))) (SinkFailed : Type 0)
    (replayed : Result ⊤ ReplayError) (again : RunsAgain meaning begin events calls old new SinkFailed replayed) (first : Result ⊤ SessionError)
    (run : ToldRun meaning again.config first) (same : given_in run.calls ≡ events) (few : bytes_brought events < 2 ^ 64) (calm : IsUndisturbed again.outcome) where
  told : ToldRun meaning again.config again.outcome
  told = record {
    old = told_of (Some []) old;
    new = told_of (Some calls) new;
    honest = false;
    run = again.ran.run;
    before = [];
    calls = calls;
    told_before = refl;
    told_behind = refl;
  }

  gives : GivesAgain run.calls calls
  gives = record { left = again.left; ends = again.ends; is = again.gives ∙ ap (λ es. es ++ replicate again.ends Ended) (sym same) }

  fits : bytes_brought (given_in run.calls) < 2 ^ 64
  fits = subst (λ es. bytes_brought es < 2 ^ 64) (sym same) few

  pub record-front : (more : List Turn) × (written again.ran.run ≡ written run.run ++ more)
  unfolding told
  record-front = replay-front meaning again.config first again.outcome run told gives fits calm

  pub record-whole : IsDecided first → (written again.ran.run ≡ written run.run) × (again.outcome ≡ first)
  unfolding told
  record-whole decided = replay-whole meaning again.config first again.outcome run told gives fits calm decided
