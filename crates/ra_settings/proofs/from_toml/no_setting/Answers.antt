use Rattle.std.proofs.Common.{◌≡◌, true, cond, ap, refl, ◌∙◌, Some, None, option_map}
use Rattle.std.specs.Prelude.{unwrap_or}
use Rattle.std.specs.Float.{float_is_finite}
use Rattle.serde_json.specs.Data.{number, float, null}
use Rattle.ra_settings.specs.declared.from_toml.TheConstants.{NO_SETTING}
use Rattle.ra_settings.proofs.from_toml.no_setting.Goals as goal

finite : float_is_finite NO_SETTING ≡ true
unfolding float_is_finite lib.Ieee.of_bits
finite = refl

pub returns : goal.returns
returns c = c.new.ensures ∙ c.from.ensures ∙ ap (λ b. unwrap_or (option_map number (cond b (Some (float NO_SETTING)) None)) null) finite
