-- How deferred tasks and messages of a loader are spelled.
use Rattle.std.specs.Prelude.{◌≡◌, ℕ, List, Option, ◌⊎◌, refl}
use Rattle.std.proofs.Common.{inl, inr}
use Rattle.record_codec.specs.Codec.{Codec, ◌and◌, by_parts, nothing}
use Rattle.record_codec.specs.Numbers.{number32, number64, counted}
use Rattle.record_codec.specs.Lists.{list_of}
use Rattle.record_codec.specs.Cases.{◌or◌, last, by_cases, optional}
use Rattle.record_codec.specs.Leaves.{file, path}
use Rattle.docs_vfs.specs.declared.file_kinds.FileId.{FileId}
use Rattle.session_port.specs.declared.command.DeferredTask.{DeferredTask}
use Rattle.session_port.specs.declared.command.DeferredTask.TheVariants as deferred_task
use Rattle.session_port.specs.declared.event.LoadedFile.{LoadedFile}
use Rattle.session_port.specs.declared.event.LoadingProgress.{LoadingProgress}
use Rattle.session_port.specs.declared.event.LoadingProgress.TheVariants as loading_progress
use Rattle.session_port.specs.declared.event.LoaderMsg.{LoaderMsg}
use Rattle.session_port.specs.declared.event.LoaderMsg.TheVariants as loader_msg

abbrev pub DeferredTaskParts : Type 0
DeferredTaskParts = (List ℕ) ⊎ (List FileId)

abbrev pub deferred_task_parts : DeferredTask → DeferredTaskParts
deferred_task_parts (deferred_task.CheckIfIndexed x) = inl x
deferred_task_parts (deferred_task.CheckProcMacroSources x) = inr x

abbrev pub deferred_task_of : DeferredTaskParts → DeferredTask
deferred_task_of (inl p) = deferred_task.CheckIfIndexed p
deferred_task_of (inr p) = deferred_task.CheckProcMacroSources p

pub deferred_task_made : (x : DeferredTask) → deferred_task_of (deferred_task_parts x) ≡ x
deferred_task_made (deferred_task.CheckIfIndexed x) = refl
deferred_task_made (deferred_task.CheckProcMacroSources x) = refl

pub deferred_task_unmade : (y : DeferredTaskParts) → deferred_task_parts (deferred_task_of y) ≡ y
deferred_task_unmade (inl p) = refl
deferred_task_unmade (inr p) = refl

unfoldable pub deferred_task_codec : Codec DeferredTask
deferred_task_codec =
    by_cases deferred_task_parts deferred_task_of deferred_task_made deferred_task_unmade
    (path or last (list_of file))

unfoldable pub loaded_file_codec : Codec LoadedFile
loaded_file_codec =
    by_parts (λ x. (x.path, x.contents))
    (λ p. record { path = p.0; contents = p.1 }) (λ x. refl) (λ p. refl)
    (path and optional counted)

abbrev pub LoadingProgressParts : Type 0
LoadingProgressParts = (Unit {0}) ⊎ (ℕ ⊎ (Unit {0}))

abbrev pub loading_progress_parts : LoadingProgress → LoadingProgressParts
loading_progress_parts loading_progress.Started = inl tt
loading_progress_parts (loading_progress.Progress x) = inr (inl x)
loading_progress_parts loading_progress.Finished = inr (inr tt)

abbrev pub loading_progress_of : LoadingProgressParts → LoadingProgress
loading_progress_of (inl p) = loading_progress.Started
loading_progress_of (inr (inl p)) = loading_progress.Progress p
loading_progress_of (inr (inr p)) = loading_progress.Finished

pub loading_progress_made : (x : LoadingProgress) → loading_progress_of (loading_progress_parts x) ≡ x
loading_progress_made loading_progress.Started = refl
loading_progress_made (loading_progress.Progress x) = refl
loading_progress_made loading_progress.Finished = refl

pub loading_progress_unmade : (y : LoadingProgressParts) → loading_progress_parts (loading_progress_of y) ≡ y
loading_progress_unmade (inl p) = refl
loading_progress_unmade (inr (inl p)) = refl
loading_progress_unmade (inr (inr p)) = refl

unfoldable pub loading_progress_codec : Codec LoadingProgress
loading_progress_codec =
    by_cases loading_progress_parts loading_progress_of loading_progress_made loading_progress_unmade
    (nothing or number64 or last nothing)

abbrev pub LoaderMsgParts : Type 0
LoaderMsgParts = (List LoadedFile) ⊎ ((List LoadedFile) ⊎ (ℕ × (LoadingProgress × ((Option (List ℕ)) × ℕ))))

abbrev pub loader_msg_parts : LoaderMsg → LoaderMsgParts
loader_msg_parts (loader_msg.Changed files) = inl files
loader_msg_parts (loader_msg.Loaded files) = inr (inl files)
loader_msg_parts (loader_msg.Progress n_total n_done dir config_version) =
    inr (inr (n_total, (n_done, (dir, config_version))))

abbrev pub loader_msg_of : LoaderMsgParts → LoaderMsg
loader_msg_of (inl p) = loader_msg.Changed p
loader_msg_of (inr (inl p)) = loader_msg.Loaded p
loader_msg_of (inr (inr p)) = loader_msg.Progress p.0 p.1.0 p.1.1.0 p.1.1.1

pub loader_msg_made : (x : LoaderMsg) → loader_msg_of (loader_msg_parts x) ≡ x
loader_msg_made (loader_msg.Changed files) = refl
loader_msg_made (loader_msg.Loaded files) = refl
loader_msg_made (loader_msg.Progress n_total n_done dir config_version) = refl

pub loader_msg_unmade : (y : LoaderMsgParts) → loader_msg_parts (loader_msg_of y) ≡ y
loader_msg_unmade (inl p) = refl
loader_msg_unmade (inr (inl p)) = refl
loader_msg_unmade (inr (inr p)) = refl

unfoldable pub loader_msg_codec : Codec LoaderMsg
loader_msg_codec =
    by_cases loader_msg_parts loader_msg_of loader_msg_made loader_msg_unmade
    ((list_of loaded_file_codec) or (list_of loaded_file_codec) or last
    (number64 and loading_progress_codec and optional path and number32))
