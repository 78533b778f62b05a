use Rattle.std.proofs.Common.{◌≡◌, ◌++◌, drop}
use Rattle.ra_settings.specs.Shown.{more_text}
use Rattle.ra_settings.proofs.error.push_more.Given as goal

abbrev pub invariant-loop-error : goal.invariant-loop-error
invariant-loop-error l = l.text ++ more_text (drop l.error-index l.errors) ≡ l.initial.text ++ more_text l.errors
