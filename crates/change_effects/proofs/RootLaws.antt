-- What is read at no root.
use Rattle.std.proofs.Common.{◌≡◌, ◌+◌, ℕ, zero, suc, List, [], ◌∷◌, ◌++◌, refl, sym, ap, ◌∙◌}
use Rattle.std.specs.Prelude.{Option, None, unwrap_or}
use Rattle.std.specs.FinMap as map
use Rattle.docs_vfs.specs.declared.source_roots.Root.{Root}
use Rattle.project_model.specs.declared.workspace.ProjectWorkspace.{ProjectWorkspace}
use Rattle.ra_settings.specs.Facts.{facts_of}
use Rattle.ra_settings.specs.declared.row.Row.{Row}
use Rattle.layered_settings.specs.Change.{after}
use Rattle.layered_settings.specs.Search.{SettingsData, Parents, chain, first_in, layers_of, setting}
use Rattle.change_effects.specs.declared.effects.SettingsFile.{SettingsFile}
use Rattle.change_effects.specs.Filing.{filed_change}

no_chain : (n : ℕ) (parents : Parents) → chain n parents [] None ≡ []
unfolding chain
no_chain zero parents = refl
no_chain (suc n) parents = refl

-- no file is searched
at_no_root : (row : Row) (s : SettingsData) → setting row None s ≡ unwrap_or (first_in row (s.client ∷ s.user ∷ [])) (facts_of row).default
unfolding setting
at_no_root row s =
    ap (λ (roots : List ℕ). unwrap_or (first_in row (layers_of s roots ++ s.client ∷ s.user ∷ [])) (facts_of row).default)
    (no_chain (map.len s.parents + 1) s.parents)

pub stays_at_no_root : (path : List ℕ) (roots : List Root) (parents : Option (List (ℕ × ℕ))) (workspaces : List ProjectWorkspace) (files : List SettingsFile)
    (settings : SettingsData) (row : Row) → setting row None (after path (filed_change roots parents workspaces files) settings) ≡ setting row None settings
unfolding after
stays_at_no_root path roots parents workspaces files settings row =
    at_no_root row (after path (filed_change roots parents workspaces files) settings) ∙ sym (at_no_root row settings)
