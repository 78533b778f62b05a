-- How the beginning of a session is spelled.
use Rattle.std.specs.Prelude.{◌≡◌, ℕ, List, Bool, ◌&&◌, nat_le, is_some, ◌⊎◌, refl}
use Rattle.std.proofs.Common.{inl, inr}
use Rattle.serde_json.specs.Data.{Data}
use Rattle.ra_config.specs.Initialize.{roots_of}
use Rattle.record_codec.specs.Codec.{Codec, ◌and◌, passing}
use Rattle.record_codec.specs.Numbers.{number32}
use Rattle.record_codec.specs.Cases.{◌or◌, last, by_cases}
use Rattle.record_codec.specs.Leaves.{path, json}
use Rattle.session_record.specs.declared.start.StartConfig.{StartConfig}
use Rattle.session_record.specs.declared.start.StartConfig.TheVariants.{New, Initialize}

-- a session has 1 to 64 threads
abbrev pub is_thread_count : ℕ → Bool
is_thread_count n = nat_le 1 n && nat_le n 64

unfoldable pub threads_codec : Codec ℕ
threads_codec = passing is_thread_count number32

-- the params of `initialize` name a root
abbrev pub has_root : Data → Bool
has_root params = is_some (roots_of params)

unfoldable pub params_codec : Codec Data
params_codec = passing has_root json

abbrev pub StartParts : Type 0
StartParts = (List ℕ × ℕ) ⊎ (Data × ℕ)

abbrev pub start_parts : StartConfig → StartParts
start_parts (New root threads) = inl (root, threads)
start_parts (Initialize params threads) = inr (params, threads)

abbrev pub start_of : StartParts → StartConfig
start_of (inl p) = New p.0 p.1
start_of (inr p) = Initialize p.0 p.1

pub start_made : (x : StartConfig) → start_of (start_parts x) ≡ x
start_made (New root threads) = refl
start_made (Initialize params threads) = refl

pub start_unmade : (y : StartParts) → start_parts (start_of y) ≡ y
start_unmade (inl p) = refl
start_unmade (inr p) = refl

unfoldable pub start_codec : Codec StartConfig
start_codec =
    by_cases start_parts start_of start_made start_unmade
    ((path and threads_codec) or last (params_codec and threads_codec))
