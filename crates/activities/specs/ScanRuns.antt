-- Messages of a loader that say nothing of how far it is.
use Rattle.std.specs.Prelude.{Bool, true, false}
use Rattle.session_port.specs.declared.event.LoaderMsg.{LoaderMsg}
use Rattle.session_port.specs.declared.event.LoaderMsg.TheVariants.{Changed, Loaded}
use Rattle.session_port.specs.declared.event.LoaderMsg.TheVariants.{Progress as IsAt}
use Rattle.session_port.specs.declared.event.LoadingProgress.{LoadingProgress}
use Rattle.session_port.specs.declared.event.LoadingProgress.TheVariants as steps

abbrev pub leaves_report : LoadingProgress → Bool
leaves_report steps.Started = true
leaves_report (steps.Progress done) = false
leaves_report steps.Finished = false

-- the message neither reports nor ends
abbrev pub leaves_last : LoaderMsg → Bool
leaves_last (Changed files) = true
leaves_last (Loaded files) = true
leaves_last (IsAt total step dir version) = leaves_report step
