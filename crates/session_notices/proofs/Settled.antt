-- Where nothing is to be told to the settings, the source roots stay as they are.
use Rattle.std.proofs.Common.{◌≡◌, ◌==◌, ◌&&◌, ℕ, List, Bool, true, length, refl}
use Rattle.std.specs.Prelude.{Option, None, Some, is_none}
use Rattle.docs_vfs.specs.declared.source_roots.Root.{Root}
use Rattle.change_effects.specs.declared.effects.SettingsFile.{SettingsFile}
use Rattle.session_model.specs.Sources.{is_settled, parents_told}
use Rattle.session_model.specs.State.{Sources}

by_parents : (roots : List Root) (parents : Option (List (ℕ × ℕ))) (b : Bool) → (is_none parents && b) ≡ true
    → parents_told (record { roots = roots; parents = parents }) ≡ record { roots = roots; parents = parents }
by_parents roots None b is = refl
by_parents roots (Some pairs) b is = absurd cc

pub settled_stays : (files : List SettingsFile) (sources : Sources) → is_settled files sources ≡ true → parents_told sources ≡ sources
settled_stays files sources is = by_parents sources.roots sources.parents (length files == 0) is
