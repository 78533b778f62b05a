-- A session of a record has settings to begin with.
use Rattle.std.proofs.Common.{◌≡◌, ℕ, Bool, true, false, List, [], ◌∷◌, refl}
use Rattle.std.specs.Prelude.{◌&&◌, is_some, IsSome}
use Rattle.std.specs.Result.{result_ok}
use Rattle.serde_json.specs.Data.{Data}
use Rattle.ra_config.specs.Initialize.{initial_config, config_with, roots_of, at_least_one, paths_of}
use Rattle.session_port.specs.declared.event.HostEvent.{HostEvent}
use Rattle.session_record.specs.Record.{can_be_recorded}
use Rattle.session_record.specs.Start.{start_codec, params_codec, has_root}
use Rattle.session_record.specs.declared.start.StartConfig.{StartConfig}
use Rattle.session_record.specs.declared.start.StartConfig.TheVariants.{New, Initialize}
use Rattle.session_replay.specs.Beginning.{config_of}

and-left : (a b : Bool) → (a && b) ≡ true → a ≡ true
and-left true b e = refl
and-left false b e = absurd cc

and-right : (a b : Bool) → (a && b) ≡ true → b ≡ true
and-right true b e = e
and-right false b e = absurd cc

by-paths : (params : Data) (threads : ℕ) (paths : List (List ℕ)) → is_some (at_least_one paths) ≡ true
    → IsSome (result_ok (config_with params threads paths))
by-paths params threads [] e = absurd cc
by-paths params threads (first ∷ rest) e = refl

with-roots : (params : Data) (threads : ℕ) → has_root params ≡ true → IsSome (result_ok (initial_config params threads))
unfolding initial_config roots_of
with-roots params threads e = by-paths params threads (paths_of params) e

fits-params : (params : Data) → params_codec.fits params ≡ true → has_root params ≡ true
unfolding params_codec
fits-params params e = and-right _ _ e

fits-begins : (begin : StartConfig) → start_codec.fits begin ≡ true → IsSome (config_of begin)
unfolding start_codec
fits-begins (New root threads) e = refl
fits-begins (Initialize params threads) e = with-roots params threads (fits-params params (and-left _ _ e))

pub recorded-begins : (begin : StartConfig) (events : List HostEvent) → can_be_recorded begin events ≡ true → IsSome (config_of begin)
recorded-begins begin events e = fits-begins begin (and-left _ _ e)
