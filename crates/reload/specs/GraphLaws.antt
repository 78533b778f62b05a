-- What is said of the crates that a graph keeps.
use Rattle.std.specs.Prelude.{ℕ, List, map, Option, option_map}
use Rattle.std.specs.List.{filter_map}
use Rattle.docs_vfs.specs.declared.file_kinds.FileId.{FileId}
use Rattle.project_model.specs.declared.crates.CrateInfo.{CrateInfo}
use Rattle.reload.specs.Graph.{Standing}

-- the numbers of the crates that are kept, in order
abbrev pub numbers_in : List (Option Standing) → List ℕ
numbers_in places = filter_map (option_map (λ (place : Standing). place.1)) places

-- the files of the crates that are kept, in order
abbrev pub graph_files : List (Option Standing) → List FileId
graph_files places = filter_map (option_map (λ (place : Standing). place.0)) places

-- the files that were answered, in order
abbrev pub files_found : List (Option FileId) → List FileId
files_found files = filter_map (λ (file : Option FileId). file) files

-- the files of the crates of a graph, in order
abbrev pub roots_in : List CrateInfo → List FileId
roots_in crates = map (λ (info : CrateInfo). info.root) crates
