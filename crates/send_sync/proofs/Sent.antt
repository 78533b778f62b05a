-- Which types may go to another thread, and which ones threads may share, from the lowest up. The tree in a world,
-- in the numbers, in the versions and in the settings leads back to itself, so the check doesn't find the types above it. It finds all others by itself.
use denote.Param.Send.{IsSend, IsSync, view_send, view_sync, sendable}
use denote.Param.SendFields.{declared_send, declared_sync, variants_send}
use Rattle.std.proofs.Crossing as heap
use Rattle.shared_map.proofs.tree.Tree.TheLaws.TheKnot as knot
use Rattle.plain.proofs.text.Text.TheSendSync as Text
use Rattle.docs_vfs.proofs.path.VfsPath.TheSendSync as VfsPath
use Rattle.file_ids.specs.contracts.FileIds as FileIds
use Rattle.plain.proofs.by_number.ByNumber.TheSendSync as ByNumber
use Rattle.plain.proofs.items.Items.TheSendSync as Items
use Rattle.ra_settings.proofs.layer.Layer.TheSendSync as Layer
use Rattle.ra_settings.proofs.defaults.Defaults.TheSendSync as Defaults
use Rattle.layered_settings.specs.contracts.settings.Settings as Settings
use Rattle.ra_config.proofs.capabilities.Capabilities.TheSendSync as Capabilities
use Rattle.ra_config.proofs.projects.Discovered.TheSendSync as Discovered
use Rattle.ra_config.specs.contracts.config.Config as Config
use Rattle.ra_config.specs.contracts.config.Config.TheInside as ConfigInside
use Rattle.analysis_host.proofs.text_entry.TextEntry.TheSendSync as TextEntry
use Rattle.analysis_host.specs.contracts.snapshot.GlobalStateSnapshot as Snapshot
use Rattle.analysis_host.specs.contracts.snapshot.GlobalStateSnapshot.TheInside as SnapshotInside
use Rattle.analysis_host.specs.contracts.snapshot.SnapshotParts as SnapshotParts
use Rattle.analysis_host.specs.contracts.versions.Versions as Versions
use Rattle.analysis_host.specs.contracts.world.World as World
use Rattle.docs_vfs.proofs.source_roots.Root.TheSendSync as Root
use Rattle.op_board.proofs.diagnostic.CheckFix.TheSendSync as CheckFix
use Rattle.project_model.proofs.check_scope.CheckScope.TheSendSync as CheckScope
use Rattle.session_port.proofs.command.DiscoverArg.TheSendSync as DiscoverArg
use Rattle.docs_vfs.proofs.source_roots.SourceRoots.TheSendSync as SourceRoots
use Rattle.project_model.proofs.crates.CrateData.TheSendSync as CrateData
use Rattle.project_model.proofs.workspace.ProjectWorkspace.TheSendSync as ProjectWorkspace
use Rattle.session_port.proofs.command.DeferredTask.TheSendSync as DeferredTask
use Rattle.session_port.proofs.command.LogCode.TheSendSync as LogCode
use Rattle.session_port.proofs.job.JobKind.TheSendSync as JobKind
use Rattle.method_table.proofs.class.PoolClass.TheSendSync as PoolClass
use Rattle.session_port.specs.contracts.command.Command as Command
use Rattle.session_port.specs.contracts.job.Job as Job

ruleset trees = (TextEntry.the_send, TextEntry.the_sync, VfsPath.the_send, VfsPath.the_sync, SourceRoots.the_send, SourceRoots.the_sync, CrateData.the_send, CrateData.the_sync, heap.crosses, knot.crosses, sendable)

ruleset layers = (Layer.the_send, Layer.the_sync, Defaults.the_send, Defaults.the_sync, ByNumber.the_send, ByNumber.the_sync, heap.crosses, knot.crosses, sendable)

pub settings_send : IsSend Settings.the_row
settings_send = search layers depth 60 fits 20000

pub settings_sync : IsSync Settings.the_row
settings_sync = search layers depth 60 fits 20000

ruleset found = (Discovered.the_send, Discovered.the_sync, Items.the_send, Items.the_sync, heap.crosses, sendable)

pub config_send : IsSend Config.the_row
config_send = view_send ConfigInside.the_row _ _ _ _ (declared_send ConfigInside.the_type (
  VfsPath.the_send,
  (
    search (VfsPath.the_send, heap.crosses, sendable) depth 20 fits 20000,
    (
      search (sendable) depth 20 fits 20000,
      (Capabilities.the_send, (settings_send, (search found depth 20 fits 20000, tt))),
    ),
  ),
))

pub config_sync : IsSync Config.the_row
config_sync = view_sync ConfigInside.the_row _ _ _ _ (declared_sync ConfigInside.the_type (
  VfsPath.the_sync,
  (
    search (VfsPath.the_sync, heap.crosses, sendable) depth 20 fits 20000,
    (
      search (sendable) depth 20 fits 20000,
      (Capabilities.the_sync, (settings_sync, (search found depth 20 fits 20000, tt))),
    ),
  ),
))

pub world_send : IsSend World.the_row
world_send = search trees depth 60 fits 20000

pub world_sync : IsSync World.the_row
world_sync = search trees depth 60 fits 20000

pub file_ids_send : IsSend FileIds.the_row
file_ids_send = search trees depth 60 fits 20000

pub file_ids_sync : IsSync FileIds.the_row
file_ids_sync = search trees depth 60 fits 20000

pub versions_send : IsSend Versions.the_row
versions_send = search trees depth 60 fits 20000

pub versions_sync : IsSync Versions.the_row
versions_sync = search trees depth 60 fits 20000

ruleset workspaces = (ProjectWorkspace.the_send, ProjectWorkspace.the_sync, CheckFix.the_send, CheckFix.the_sync, Items.the_send, Items.the_sync)

pub parts_send : IsSend SnapshotParts.the_row
parts_send = declared_send SnapshotParts.the_type (search (world_send, file_ids_send, versions_send, config_send, config_sync, workspaces, heap.Arc-send, sendable) depth 20 fits 20000)

pub parts_sync : IsSync SnapshotParts.the_row
parts_sync = declared_sync SnapshotParts.the_type (search (world_sync, file_ids_sync, versions_sync, config_send, config_sync, workspaces, heap.Arc-sync, sendable) depth 20 fits 20000)

pub snapshot_send : IsSend Snapshot.the_row
snapshot_send = view_send SnapshotInside.the_row _ _ _ _ (declared_send SnapshotInside.the_type (search (parts_send, parts_sync, heap.Arc-send, sendable) depth 20 fits 20000))

pub snapshot_sync : IsSync Snapshot.the_row
snapshot_sync = view_sync SnapshotInside.the_row _ _ _ _ (declared_sync SnapshotInside.the_type (search (parts_send, parts_sync, heap.Arc-sync, sendable) depth 20 fits 20000))

pub job_send : IsSend Job.the_row
job_send = declared_send Job.the_type (search (PoolClass.the_send, JobKind.the_send, snapshot_send, sendable) depth 20 fits 20000)

pub job_sync : IsSync Job.the_row
job_sync = declared_sync Job.the_type (search (PoolClass.the_sync, JobKind.the_sync, snapshot_sync, sendable) depth 20 fits 20000)

pub command_send : IsSend Command.the_row
command_send = variants_send Command.enum (search (job_send, LogCode.the_send, DeferredTask.the_send, CheckScope.the_send, DiscoverArg.the_send, Root.the_send, Items.the_send, Text.the_send, VfsPath.the_send, sendable) depth 20 fits 20000)

-- for a type or a closure that holds one of these
pub ruleset sends = (world_send, file_ids_send, versions_send, config_send, snapshot_send, job_send, command_send, heap.Arc-send)

pub ruleset syncs = (world_sync, file_ids_sync, versions_sync, config_sync, snapshot_sync, job_sync, heap.Arc-sync)
