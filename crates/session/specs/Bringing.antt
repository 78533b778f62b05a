-- What an event of the host brings to a session.
use Rattle.std.specs.Prelude.{[], ◌∷◌}
use Rattle.session_port.specs.declared.event.HostEvent.{HostEvent}
use Rattle.session_port.specs.declared.event.HostEvent.TheVariants.{Bytes, Tasks, Vfs, DeferredTask, Timer}
use Rattle.session_port.specs.declared.event.HostEvent.TheVariants.{Flycheck, TestResult, DiscoverProject}
use Rattle.session_port.specs.declared.event.HostEvent.TheVariants.{Ended as HostEnded}
use Rattle.session_laws.specs.Event.TheVariants.{Task, Vfs as VfsEvent, Deferred, News, Timer as TimerEvent}
use Rattle.session_laws.specs.Input.TheVariants.{Next}
use Rattle.session_laws.specs.News.TheVariants as news
use Rattle.session.specs.declared.bringing.Brought.{Brought}
use Rattle.session.specs.declared.bringing.Brought.TheVariants.{Input, Fed, Ended}

-- the input of a turn, bytes that are to be fed, or the end; no bytes are an empty batch
abbrev pub brought_by : HostEvent → Brought
brought_by (Bytes []) = Input (Next (Task []))
brought_by (Bytes (byte ∷ bytes)) = Fed (byte ∷ bytes)
brought_by (Tasks batch) = Input (Next (Task batch))
brought_by (Vfs messages) = Input (Next (VfsEvent messages))
brought_by (DeferredTask tasks) = Input (Next (Deferred tasks))
brought_by (Flycheck messages) = Input (Next (News (news.Flycheck messages)))
brought_by (TestResult messages) = Input (Next (News (news.TestResult messages)))
brought_by (DiscoverProject messages) = Input (Next (News (news.DiscoverProject messages)))
brought_by (Timer ticket) = Input (Next (TimerEvent ticket))
brought_by HostEnded = Ended
