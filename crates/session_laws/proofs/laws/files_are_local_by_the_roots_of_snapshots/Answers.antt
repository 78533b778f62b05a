use Rattle.std.proofs.Common.{ap}
use Rattle.std.specs.Prelude.{if◌then◌else◌}
use Rattle.session_model.specs.Saving.{asked_by_save}
use Rattle.session_laws.proofs.Bringing.{filed-by-roots}
use Rattle.session_laws.proofs.laws.files_are_local_by_the_roots_of_snapshots.Goals as goal

pub returns-clause-settings : goal.returns-clause-settings
returns-clause-settings c = filed-by-roots

pub returns-clause-saved : goal.returns-clause-saved
returns-clause-saved c = λ s path known. ap (λ b. if b then asked_by_save s.client.settings s.files.host.world.roots path s.workspaces else s.workspaces) known
