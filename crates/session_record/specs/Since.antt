-- What a recorder has kept of a host's calls since it began.
use Rattle.std.specs.Prelude.{◌≡◌, List, Option}
use Rattle.session_record.specs.Keeping.{IsKept}
use Rattle.session_port.specs.Record.{HostCall, given_in, grown}
use Rattle.session_record.specs.declared.start.StartConfig.{StartConfig}
use Rattle.session_record.specs.declared.recording.Recording.{Recording}

-- Of a host whose calls were those before, and are those now, if it tells them: there are calls between, whose events
-- are kept behind the beginning.
pub record KeepsSince (begin : StartConfig) (before now : Option (List HostCall)) (recording : Recording) : Type 0 where
  pub calls : List HostCall
  pub told : now ≡ grown before calls
  pub keeps : IsKept begin (given_in calls) recording

-- what is known of a recorder at any time
abbrev pub Records : StartConfig → Option (List HostCall) → Option (List HostCall) → Recording → Type 0
Records begin before now recording = ∥ KeepsSince begin before now recording ∥₁
