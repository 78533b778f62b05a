-- Changed files in the order of their paths.
use Rattle.std.specs.Prelude.{List}
use Rattle.plain.specs.Order.{in_order_by, ranked}
use Rattle.docs_vfs.specs.Paths.{path_cmp}
use Rattle.layered_settings.specs.declared.change.SettingsFile.{SettingsFile}

unfoldable pub by_path : List SettingsFile → List SettingsFile
by_path = in_order_by (ranked path_cmp (λ (f : SettingsFile). f.path))
