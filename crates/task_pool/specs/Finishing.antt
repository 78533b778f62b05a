-- What a host had read of its source when its threads were joined.
use Rattle.std.specs.Prelude.{◌≡◌, ℕ, true, List, ◌++◌, Option, Some}
use Rattle.inbox.specs.Counts.{counted}
use Rattle.inbox.specs.Given.{BeginsWith}
use Rattle.task_pool.specs.declared.crew.Finished.{Finished}

-- the bytes that were posted are the first of those that the source held, and those that were given the first of them; all
-- were posted where the source was read to its end
pub record IsFinished (held : Option (List ℕ)) (given : List ℕ) (finished : Finished) : Type 0 where
  pub bytes : List ℕ
  pub rest : List ℕ
  pub held_first : BeginsWith held bytes
  pub given_first : given ++ rest ≡ bytes
  pub posted : finished.posted ≡ counted bytes
  pub taken : finished.taken ≡ counted given
  pub all : finished.ended ≡ true → (whole : List ℕ) → held ≡ Some whole → whole ≡ bytes
