-- What the service of an editor is, on a host of its own.
use Rattle.std.specs.Prelude.{ℕ, List, Option, true}
use Rattle.analysis_host.specs.declared.server_info.ServerInfo.{ServerInfo}
use Rattle.session_port.specs.Record.{Rose}
use Rattle.session.specs.Meaning.{Meaning}
use Rattle.session.specs.Run.{Told, told_of}
use Rattle.server.specs.Serving.{EndsWith, Welcomed}
use Rattle.server.specs.declared.threaded.Served.{Served}

-- by the calls that an honest host tells at the end, and how often it failed
abbrev pub ServesEditor : ServerInfo → Meaning → Told → Option (List (List ℕ)) → Type 0 → Served → Type 0
ServesEditor info meaning old turns SinkFailed served =
    EndsWith (Welcomed info meaning old (told_of served.calls turns) true (Rose 0 served.faults) SinkFailed) served.status
