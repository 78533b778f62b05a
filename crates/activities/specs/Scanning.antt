-- How far a loader is with the files of the roots, and what is told of it.
use Rattle.std.specs.Prelude.{ℕ, List, [], ◌∷◌, ◌++◌, codes, Option, None, Some, unwrap_or, min, if◌then◌else◌}
use Rattle.std.specs.Option.{option_map_or}
use Rattle.std.specs.Fmt.{decimal}
use Rattle.docs_vfs.specs.Paths.{is_within}
use Rattle.notify.specs.Fraction.{hundredths}
use Rattle.session_port.specs.declared.event.LoaderMsg.{LoaderMsg}
use Rattle.session_port.specs.declared.event.LoaderMsg.TheVariants.{Changed, Loaded}
use Rattle.session_port.specs.declared.event.LoaderMsg.TheVariants.{Progress as IsAt}
use Rattle.session_port.specs.declared.event.LoadingProgress.{LoadingProgress}
use Rattle.session_port.specs.declared.event.LoadingProgress.TheVariants as steps
use Rattle.activities.specs.CheckNames.{behind}
use Rattle.activities.specs.declared.telling.Telling.{Telling}
use Rattle.activities.specs.declared.telling.Telling.TheVariants.{Begin, Report, End}

abbrev pub title : List ℕ
title = codes "Roots Scanned"

-- ---- the texts

abbrev pub without_slash : List ℕ → List ℕ
without_slash text = unwrap_or (behind (codes "/") text) text

-- a folder relative to the root path, where it lies in it
abbrev pub relative_to : List ℕ → List ℕ → List ℕ
relative_to root dir = if is_within root dir then option_map_or without_slash (behind root dir) dir else dir

-- the folder that is read, where it is known
abbrev pub folder_text : List ℕ → Option (List ℕ) → List ℕ
folder_text root None = []
folder_text root (Some dir) = codes ": " ++ relative_to root dir

-- so many of so many files are done
abbrev pub scan_text : List ℕ → ℕ → ℕ → Option (List ℕ) → List ℕ
scan_text root done total dir = decimal done ++ (codes "/" ++ (decimal total ++ folder_text root dir))

-- ---- what is told

abbrev pub scan_begun : List ℕ → ℕ → Option (List ℕ) → Telling
scan_begun root total dir = Begin title None (Some (scan_text root 0 total dir)) (Some (hundredths 0 total))

-- more than all counts as all
abbrev pub scan_reported : List ℕ → ℕ → ℕ → Option (List ℕ) → Telling
scan_reported root done total dir =
    Report title None (Some (scan_text root (min done total) total dir)) (Some (hundredths (min done total) total))

abbrev pub scan_ended : List ℕ → ℕ → Option (List ℕ) → Telling
scan_ended root total dir = End title None (Some (scan_text root total total dir))

-- ---- of a batch

-- what one message tells, and the report that is the last one then, if there is one since the last end
abbrev pub step_told : List ℕ → ℕ → LoadingProgress → Option (List ℕ) → Option Telling → List Telling × Option Telling
step_told root total steps.Started dir last = (scan_begun root total dir ∷ [], last)
step_told root total (steps.Progress done) dir None =
    (scan_reported root done total dir ∷ [], Some (scan_reported root done total dir))
step_told root total (steps.Progress done) dir (Some last) = ([], Some (scan_reported root done total dir))
step_told root total steps.Finished dir last = (scan_ended root total dir ∷ [], None)

abbrev pub message_told : List ℕ → LoaderMsg → Option Telling → List Telling × Option Telling
message_told root (Changed files) last = ([], last)
message_told root (Loaded files) last = ([], last)
message_told root (IsAt total step dir version) last = step_told root total step dir last

-- the last report is told once more
abbrev pub told_again : Option Telling → List Telling
told_again None = []
told_again (Some last) = last ∷ []

-- what messages tell, one after another, behind a last report
abbrev pub scans_behind : List ℕ → Option Telling → List LoaderMsg → List Telling
scans_behind root last [] = told_again last
scans_behind root last (message ∷ messages) =
    (message_told root message last).0 ++ scans_behind root (message_told root message last).1 messages

-- of a batch: the first report and the first behind each end, and at the end of the batch the last report once more,
-- where no end came behind it
abbrev pub scans_told : List ℕ → List LoaderMsg → List Telling
scans_told root messages = scans_behind root None messages
