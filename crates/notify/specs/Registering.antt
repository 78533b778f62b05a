-- What a client is asked to tell of (LSP 3.17, RegistrationParams).
use Rattle.std.specs.Prelude.{ℕ, false, List, [], ◌∷◌, ◌++◌, codes, map}
use Rattle.serde_json.specs.Data.{Data, boolean, string, object, no_members, put}
use Rattle.notify.specs.Objects.{one, with_text, list}
use Rattle.lsp_types.specs.Values.{list_value, watcher_value}
use Rattle.lsp_types.specs.declared.watcher.Watcher.{Watcher}

-- `{"id":M,"method":M,"registerOptions":..}`
abbrev pub registration : List ℕ → Data → Data
registration method options =
    object (put (codes "registerOptions") options (put (codes "method") (string method) (put (codes "id") (string method) no_members)))

-- `{"registrations":[..]}`, one registration under its method's name
abbrev pub registering : List ℕ → Data → Data
registering method options = one (codes "registrations") (list (registration method options ∷ []))

-- the documents of Rust and Cargo, and those of these names
abbrev pub patterns : List (List ℕ) → List (List ℕ)
patterns files = codes "**/*.rs" ∷ codes "**/Cargo.toml" ∷ codes "**/Cargo.lock" ∷ map (λ file. codes "**/" ++ file) files

-- `{"documentSelector":[{"pattern":..}..],"includeText":false}`
abbrev pub save_options : List (List ℕ) → Data
save_options files =
    object (put (codes "includeText") (boolean false)
    (put (codes "documentSelector") (list (map (with_text (codes "pattern")) (patterns files))) no_members))

-- `{"watchers":[{"globPattern":..}..]}`
abbrev pub watch_options : List Watcher → Data
watch_options watchers = one (codes "watchers") (list_value watcher_value watchers)
