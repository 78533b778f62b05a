-- Whether two statuses are the same.
use Rattle.std.specs.Prelude.{Bool, true, false, ◌&&◌, nat_eq}
use Rattle.std.specs.Bool.{beq}
use Rattle.std.specs.Cmp.Lexicographic.{pointwise}
use Rattle.std.specs.Option.{option_eq}
use Rattle.status.specs.declared.health.Health.{Health}
use Rattle.status.specs.declared.health.Health.TheVariants.{Ok, Warning, Error}
use Rattle.status.specs.declared.status.Status.{Status}

abbrev pub is_same_health : Health → Health → Bool
is_same_health Ok Ok = true
is_same_health Warning Warning = true
is_same_health Error Error = true
is_same_health one other = false

-- they are in each part
abbrev pub is_same_status : Status → Status → Bool
is_same_status one other =
    is_same_health one.health other.health && beq one.quiescent other.quiescent && option_eq (pointwise nat_eq) one.message other.message
