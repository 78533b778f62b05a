-- A session behind a handshake.
use Rattle.std.proofs.Common.{◌≡◌, ◌≤◌, ℕ, List, Bool, refl, ap, subst, arith}
use Rattle.std.specs.Prelude.{⊤, Option, Result, Ok, Err}
use Rattle.lsp_frame.specs.Reader.{Reader}
use Rattle.ra_config.specs.Config.{ConfigData}
use Rattle.session_port.specs.Record.{HostCall, Rose}
use Rattle.session.specs.Course.{stop_of}
use Rattle.session.specs.Headline.{EndsByCause, IsAnswered, IsComplete}
use Rattle.session.specs.Run.{Told, IsRun}
use Rattle.session.proofs.Trusted.{run-trusted}
use Rattle.session.specs.Meaning.{Meaning}
use Rattle.session.specs.SessionError.{SessionError}
use Rattle.session.specs.SessionError.TheVariants.{HostFault, WriteFault}
use Rattle.analysis_host.specs.declared.server_info.ServerInfo.{ServerInfo}
use Rattle.server.specs.Opening.{Opens}
use Rattle.server.specs.declared.handshake.opening.Opening.TheVariants.{Begun, Left}
use Rattle.session.specs.Ran.{RanSession}
use Rattle.server.specs.Serving.{Welcomed, setup_of}
use Rattle.server.proofs.Whole.{completes, left-ends, whole-begun, whole-opened}

-- a count that has risen since a later moment has risen
pub rose-later : (before middle now : ℕ) → before ≤ middle → Rose middle now → Rose before now
rose-later before middle now le rose = omega (arith, le, rose)

-- what fails later has failed
complete-later : (meaning : Meaning) (config : ConfigData) (reader : Reader) (old new : Option (List HostCall))
    (HostFailed SinkFailed HostFails SinkFails : Type 0)
    (outcome : Result ⊤ SessionError) → (HostFails → HostFailed) → (SinkFails → SinkFailed)
    → IsComplete meaning config reader old new HostFails SinkFails outcome → IsComplete meaning config reader old new HostFailed SinkFailed outcome
complete-later meaning config reader old new HostFailed SinkFailed HostFails SinkFails outcome host sink complete =
    λ before calls was is good calm dry. complete before calls was is good (λ h. calm (host h)) (λ h. dry (sink h))

module _ (info : ServerInfo) (meaning : Meaning) (old middle new : Told) (honest : Bool) (HostFailed SinkFailed : Type 0) where
  pub welcomed-begun : (honest_now : Bool) (HostFails SinkFails : Type 0) (config : ConfigData) (reader : Reader) (outcome : Result ⊤ SessionError)
      → Opens (setup_of info) old middle (Ok (Begun config reader)) → honest_now ≡ honest
      → IsRun meaning config reader middle new honest_now outcome → EndsByCause reader middle.calls new.calls outcome
      → IsComplete meaning config reader middle.calls new.calls HostFails SinkFails outcome → IsAnswered meaning config reader middle new honest_now outcome
      → (HostFails → HostFailed) → (SinkFails → SinkFailed) → (outcome ≡ Err HostFault → HostFails) → (outcome ≡ Err WriteFault → SinkFails)
      → Welcomed info meaning old new honest HostFailed SinkFailed outcome
  welcomed-begun honest_now HostFails SinkFails config reader outcome opens same run end complete headline host sink host_fault write_fault =
      let answered : IsAnswered meaning config reader middle new honest outcome =
      subst (λ (h : Bool). IsAnswered meaning config reader middle new h outcome) same headline in
      let whole_run : IsRun meaning config reader middle new honest outcome =
      subst (λ (h : Bool). IsRun meaning config reader middle new h outcome) same run in
      let whole = whole-begun (setup_of info) old middle new meaning config reader honest outcome opens answered end in
      record {
        opening = Ok (Begun config reader);
        middle = middle;
        opens = opens;
        follows = record {
          run = whole_run;
          end = end;
          complete = complete-later meaning config reader middle.calls new.calls HostFailed SinkFailed HostFails SinkFails outcome host sink complete;
          headline = answered;
          quiet = run-trusted ⊤ meaning config reader middle new honest outcome whole_run;
        };
        end = whole;
        complete = completes old.calls new.calls HostFailed SinkFailed outcome whole (λ e. host (host_fault e)) (λ e. sink (write_fault e));
      }

module _ (info : ServerInfo) (meaning : Meaning) (old new : Told) (honest : Bool) (HostFailed SinkFailed : Type 0) where
  pub welcomed-left : (x : ⊤) → Opens (setup_of info) old new (Ok Left) → Welcomed info meaning old new honest HostFailed SinkFailed (Ok x)
  welcomed-left x opens =
      let whole = whole-opened (setup_of info) old new new (Ok Left) (Ok x) opens refl (ap stop_of opens.ends.2) in
      record {
        opening = Ok Left;
        middle = new;
        opens = opens;
        follows = (refl, refl);
        end = whole;
        complete = completes old.calls new.calls HostFailed SinkFailed (Ok x) whole (λ e. absurd cc) (λ e. absurd cc);
      }

  pub welcomed-broken : (error : SessionError) → Opens (setup_of info) old new (Err error) → (error ≡ HostFault → HostFailed)
      → (error ≡ WriteFault → SinkFailed)
      → Welcomed info meaning old new honest HostFailed SinkFailed (Err error)
  welcomed-broken error opens host sink =
      let whole = whole-opened (setup_of info) old new new (Err error) (Err error) opens refl (left-ends _ _ _ _ opens.left _ _ error opens.ends.1) in
      record {
        opening = Err error;
        middle = new;
        opens = opens;
        follows = (refl, refl);
        end = whole;
        complete = completes old.calls new.calls HostFailed SinkFailed (Err error) whole (λ e. host cc) (λ e. sink cc);
      }
