-- What the rows are answered that find nothing in a text.
use Rattle.std.proofs.Common.{◌≡◌, Bool, true, ap}
use Rattle.std.specs.Prelude.{cond, ◌&&◌}
use Rattle.analysis_host.specs.Answers.{OutcomeSpec}
use Rattle.requests.specs.Files.{malformed}

-- params that are plain, and a value that is
pub read : (plain : Bool) (finding : OutcomeSpec) → plain ≡ true → cond (plain && true) (cond plain finding malformed) malformed ≡ finding
read plain finding is = ap (λ b. cond (b && true) (cond b finding malformed) malformed) is

-- params that are plain
pub known : (plain : Bool) (finding : OutcomeSpec) → plain ≡ true → cond (plain && true) finding malformed ≡ finding
known plain finding is = ap (λ b. cond (b && true) finding malformed) is
