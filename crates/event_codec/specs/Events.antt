-- How events are spelled.
use Rattle.std.specs.Prelude.{◌≡◌, ℕ, List, ◌⊎◌, refl}
use Rattle.std.proofs.Common.{inl, inr}
use Rattle.record_codec.specs.Codec.{Codec, nothing}
use Rattle.record_codec.specs.Numbers.{number64, counted}
use Rattle.record_codec.specs.Lists.{list_of}
use Rattle.record_codec.specs.Cases.{◌or◌, last, by_cases}
use Rattle.event_codec.specs.Jobs.{task_msg_codec}
use Rattle.event_codec.specs.Loading.{deferred_task_codec, loader_msg_codec}
use Rattle.event_codec.specs.News.{discover_msg_codec, flycheck_msg_codec, test_msg_codec}
use Rattle.session_port.specs.declared.command.DeferredTask.{DeferredTask}
use Rattle.session_port.specs.declared.news.DiscoverMsg.{DiscoverMsg}
use Rattle.session_port.specs.declared.news.FlycheckMsg.{FlycheckMsg}
use Rattle.session_port.specs.declared.event.LoaderMsg.{LoaderMsg}
use Rattle.session_port.specs.declared.event.TaskMsg.{TaskMsg}
use Rattle.session_port.specs.declared.news.TestMsg.{TestMsg}
use Rattle.session_port.specs.declared.event.HostEvent.{HostEvent}
use Rattle.session_port.specs.declared.event.HostEvent.TheVariants as host_event

abbrev pub HostEventParts : Type 0
HostEventParts = (List ℕ) ⊎ ((Unit {0}) ⊎
    ((List TaskMsg) ⊎ ((List DeferredTask) ⊎
    ((List LoaderMsg) ⊎ ((List FlycheckMsg) ⊎ ((List TestMsg) ⊎ ((List DiscoverMsg) ⊎ ℕ)))))))

abbrev pub host_event_parts : HostEvent → HostEventParts
host_event_parts (host_event.Bytes x) = inl x
host_event_parts host_event.Ended = inr (inl tt)
host_event_parts (host_event.Tasks x) = inr (inr (inl x))
host_event_parts (host_event.DeferredTask x) = inr (inr (inr (inl x)))
host_event_parts (host_event.Vfs x) = inr (inr (inr (inr (inl x))))
host_event_parts (host_event.Flycheck x) = inr (inr (inr (inr (inr (inl x)))))
host_event_parts (host_event.TestResult x) = inr (inr (inr (inr (inr (inr (inl x))))))
host_event_parts (host_event.DiscoverProject x) = inr (inr (inr (inr (inr (inr (inr (inl x)))))))
host_event_parts (host_event.Timer x) = inr (inr (inr (inr (inr (inr (inr (inr x)))))))

abbrev pub host_event_of : HostEventParts → HostEvent
host_event_of (inl p) = host_event.Bytes p
host_event_of (inr (inl p)) = host_event.Ended
host_event_of (inr (inr (inl p))) = host_event.Tasks p
host_event_of (inr (inr (inr (inl p)))) = host_event.DeferredTask p
host_event_of (inr (inr (inr (inr (inl p))))) = host_event.Vfs p
host_event_of (inr (inr (inr (inr (inr (inl p)))))) = host_event.Flycheck p
host_event_of (inr (inr (inr (inr (inr (inr (inl p))))))) = host_event.TestResult p
host_event_of (inr (inr (inr (inr (inr (inr (inr (inl p)))))))) = host_event.DiscoverProject p
host_event_of (inr (inr (inr (inr (inr (inr (inr (inr p)))))))) = host_event.Timer p

pub host_event_made : (x : HostEvent) → host_event_of (host_event_parts x) ≡ x
host_event_made (host_event.Bytes x) = refl
host_event_made host_event.Ended = refl
host_event_made (host_event.Tasks x) = refl
host_event_made (host_event.DeferredTask x) = refl
host_event_made (host_event.Vfs x) = refl
host_event_made (host_event.Flycheck x) = refl
host_event_made (host_event.TestResult x) = refl
host_event_made (host_event.DiscoverProject x) = refl
host_event_made (host_event.Timer x) = refl

pub host_event_unmade : (y : HostEventParts) → host_event_parts (host_event_of y) ≡ y
host_event_unmade (inl p) = refl
host_event_unmade (inr (inl p)) = refl
host_event_unmade (inr (inr (inl p))) = refl
host_event_unmade (inr (inr (inr (inl p)))) = refl
host_event_unmade (inr (inr (inr (inr (inl p))))) = refl
host_event_unmade (inr (inr (inr (inr (inr (inl p)))))) = refl
host_event_unmade (inr (inr (inr (inr (inr (inr (inl p))))))) = refl
host_event_unmade (inr (inr (inr (inr (inr (inr (inr (inl p)))))))) = refl
host_event_unmade (inr (inr (inr (inr (inr (inr (inr (inr p)))))))) = refl

unfoldable pub host_event_codec : Codec HostEvent
host_event_codec =
    by_cases host_event_parts host_event_of host_event_made host_event_unmade
    (counted or nothing or (list_of task_msg_codec) or (list_of deferred_task_codec) or (list_of loader_msg_codec) or
    (list_of flycheck_msg_codec) or (list_of test_msg_codec) or (list_of discover_msg_codec) or last number64)
