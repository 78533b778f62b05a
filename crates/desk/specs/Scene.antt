-- What a request meets beside the desk.
use Rattle.std.specs.Prelude.{Bool}
use Rattle.analysis_host.specs.SnapshotData.{SnapshotData}

pub record Scene : Type 0 where
  -- the snapshot of the present
  pub snapshot : SnapshotData
  -- files are loading
  pub loading : Bool
  -- the crate graph is not complete
  pub incomplete : Bool
