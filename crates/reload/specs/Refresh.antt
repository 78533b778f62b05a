-- Which changes of files ask for the workspaces to be fetched anew.
use Rattle.std.specs.Prelude.{ℕ, Bool, true, false, not, ◌&&◌, ◌||◌, List, codes, bytes_eq, nat_eq, Option, Some, None}
use Rattle.std.specs.Prelude.{option_and_then, if◌then◌else◌}
use Rattle.std.specs.List.{ends_with, list_any}
use Rattle.docs_vfs.specs.Paths.{name_of, extension_of, parent_of}
use Rattle.docs_vfs.specs.declared.file_kinds.ChangeKind.{ChangeKind}
use Rattle.docs_vfs.specs.Kinds.{is_created_or_deleted}

-- the text ends with this one
abbrev pub ends : List ℕ → List ℕ → Bool
ends text end = ends_with nat_eq text end

-- there is a folder, and its text passes the test
abbrev pub folder_is : (List ℕ → Bool) → Option (List ℕ) → Bool
folder_is test None = false
folder_is test (Some folder) = test folder

abbrev pub is_manifest_name : List ℕ → Bool
is_manifest_name name = bytes_eq name (codes "Cargo.toml") || bytes_eq name (codes "Cargo.lock")

abbrev pub is_config_name : List ℕ → Bool
is_config_name name = bytes_eq name (codes "config.toml") || bytes_eq name (codes "config")

-- a file that is a target of a package by its name and place
abbrev pub is_target_file : List ℕ → Bool
is_target_file path = ends path (codes "build.rs") || ends path (codes "src/main.rs") || ends path (codes "src/lib.rs")

-- a folder whose files are targets of a package
abbrev pub is_target_folder : List ℕ → Bool
is_target_folder folder =
    ends folder (codes "src/bin") || ends folder (codes "examples") || ends folder (codes "tests")
    || ends folder (codes "benches")

abbrev pub is_extension_rs : Option (List ℕ) → Bool
is_extension_rs None = false
is_extension_rs (Some extension) = bytes_eq extension (codes "rs")

-- a file of Rust that is a target of a package
abbrev pub is_target : List ℕ → List ℕ → Bool
is_target path name =
    is_target_file path || folder_is is_target_folder (parent_of path)
    || (bytes_eq name (codes "main.rs") && folder_is is_target_folder (option_and_then parent_of (parent_of path)))

-- the configuration of cargo
abbrev pub is_cargo_config : List ℕ → List ℕ → Bool
is_cargo_config path name = is_config_name name && folder_is (λ folder. ends folder (codes ".cargo")) (parent_of path)

-- a manifest or a listed name, whatever the change; else a file that came or went and is a target, or cargo's
-- configuration
abbrev pub refreshes_by_name : List ℕ → ChangeKind → List (List ℕ) → List ℕ → Bool
refreshes_by_name path kind additional name =
    if is_manifest_name name || list_any (λ listed. bytes_eq listed name) additional then true
    else if not (is_created_or_deleted kind) then false
    else if not (is_extension_rs (extension_of name)) then is_cargo_config path name
    else is_target path name

-- a path without a name refreshes nothing
abbrev pub refreshes : List ℕ → ChangeKind → List (List ℕ) → Bool
refreshes path kind additional = folder_is (refreshes_by_name path kind additional) (name_of path)
