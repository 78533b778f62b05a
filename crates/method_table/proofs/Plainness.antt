-- The defaults of the table are plain.
use Rattle.std.proofs.Common.{◌≡◌, true, refl, ap, ◌∙◌}
use Rattle.plain.specs.Plain.{is_plain, most_levels}
use Rattle.serde_json.specs.Data.{Data}
use Rattle.method_table.specs.Defaults.{value_of}
use Rattle.method_table.specs.declared.default_value.DefaultValue.{DefaultValue}
use Rattle.method_table.specs.declared.default_value.DefaultValue.TheVariants.{Null, EmptyText, EmptyList, EmptyObject, EmptyLabel, FullReport, NoCrates, NoTests}

value_plain : (default : DefaultValue) → is_plain (value_of default) ≡ true
unfolding most_levels
value_plain Null = refl
value_plain EmptyText = refl
value_plain EmptyList = refl
value_plain EmptyObject = refl
value_plain EmptyLabel = refl
value_plain FullReport = refl
value_plain NoCrates = refl
value_plain NoTests = refl

pub default_plain : (default : DefaultValue) (json : Data) → json ≡ value_of default → is_plain json ≡ true
default_plain default json is = ap is_plain is ∙ value_plain default
