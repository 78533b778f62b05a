-- How well a session is.
use Rattle.status.specs.declared.health.Health.{Health}
use Rattle.status.specs.declared.health.Health.TheVariants as health

-- the worse of two: an error, else a warning
abbrev pub worse : Health → Health → Health
worse health.Error other = health.Error
worse health.Warning health.Error = health.Error
worse health.Warning health.Warning = health.Warning
worse health.Warning health.Ok = health.Warning
worse health.Ok other = other
