-- A session for whose settings there was no memory.
use Rattle.std.proofs.Common.{Bool, refl}
use Rattle.std.specs.Prelude.{⊤, Err}
use Rattle.ra_config.specs.Config.{ConfigData}
use Rattle.session_laws.specs.Headline.{EndsByCause, IsAnswered}
use Rattle.session_laws.specs.Meaning.{Meaning}
use Rattle.session_laws.specs.Run.{Told, empty_reader, IsRun}
use Rattle.session_laws.specs.SessionError.TheVariants.{NoMemory}
use Rattle.session_laws.proofs.Answered.{run-answered}
use Rattle.session_laws.proofs.Causes.{answered-caused, answered-complete}
use Rattle.trust_laws.proofs.Trusted.{run-trusted}
use Rattle.session.proofs.Advancing.{run-none}
use Rattle.session.specs.Ran.{RanSession}

pub unstarted : (meaning : Meaning) (config : ConfigData) (told : Told) (honest : Bool) (HostFailed SinkFailed : Type 0)
    → RanSession meaning config empty_reader told told honest HostFailed SinkFailed (Err NoMemory)
unstarted meaning config told honest HostFailed SinkFailed =
    let run : IsRun {T = ⊤} meaning config empty_reader told told honest (Err NoMemory) = run-none meaning config empty_reader told honest ⊤ in
    let headline : IsAnswered {T = ⊤} meaning config empty_reader told told honest (Err NoMemory) =
    run-answered ⊤ meaning config empty_reader told told honest (Err NoMemory) run in
    let end : EndsByCause {T = ⊤} empty_reader told.calls told.calls (Err NoMemory) =
    answered-caused ⊤ meaning config empty_reader told told honest (Err NoMemory) headline in
    record {
      run = run;
      end = end;
      complete = answered-complete ⊤ meaning config empty_reader told told honest HostFailed SinkFailed (Err NoMemory) headline
          end (λ e. absurd cc) (λ e. absurd cc);
      headline = headline;
      quiet = run-trusted ⊤ meaning config empty_reader told told honest (Err NoMemory) run;
    }
