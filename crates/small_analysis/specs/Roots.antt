-- The root files of crates.
use Rattle.std.specs.Prelude.{ℕ, List, codes, if◌then◌else◌, Option, Some, None}
use Rattle.std.specs.List.{filter_map}
use Rattle.analysis_host.specs.Answers.{OutcomeSpec, answer}
use Rattle.analysis_host.specs.SnapshotData.{SnapshotData}
use Rattle.analysis_host.specs.SnapshotFiles.{file_exists, file_text, path_at}
use Rattle.analysis_host.specs.declared.ask.Answer.TheVariants.{Roots}
use Rattle.docs_vfs.specs.declared.file_kinds.FileId.{FileId}
use Rattle.project_model.specs.declared.crates.CrateInfo.{CrateInfo}
use Rattle.requests.specs.Files.{refusal}

-- the path of a file that exists
abbrev pub existing_path : SnapshotData → FileId → Option (List ℕ)
existing_path snapshot file = if file_exists snapshot file then path_at snapshot file else None

-- the paths of the crates' root files, in order, but for those that don't exist
abbrev pub existing_roots : SnapshotData → List CrateInfo → List (List ℕ)
existing_roots snapshot crates = filter_map (λ info. existing_path snapshot info.root) crates

-- any text may belong to each crate
abbrev pub crates_with : SnapshotData → Option (List ℕ) → OutcomeSpec
crates_with snapshot None = refusal (codes "not text")
crates_with snapshot (Some text) = answer (Roots (existing_roots snapshot snapshot.world.crates.crates))

abbrev pub crates_of : SnapshotData → FileId → OutcomeSpec
crates_of snapshot file = crates_with snapshot (file_text snapshot file)
