-- What a change doesn't name stays.
use Rattle.std.proofs.Common.{◌≡◌, ℕ, List, refl, true≢false}
use Rattle.std.specs.Prelude.{false, Option, Some, None, is_some}
use Rattle.serde_json.specs.Data.{Data}
use Rattle.ra_settings.specs.Layers.{Values}
use Rattle.layered_settings.specs.Change.{client_after, user_after}

pub client_stays : (root : List ℕ) (change : Option Data) (old : Values) → is_some change ≡ false → client_after root change old ≡ old
client_stays root None old h = refl
client_stays root (Some d) old h = absurd (true≢false h)

pub user_stays : (root : List ℕ) (change : Option (List ℕ)) (old : Values) → is_some change ≡ false → user_after root change old ≡ old
user_stays root None old h = refl
user_stays root (Some text) old h = absurd (true≢false h)
