-- What whole runs of calls leave in the table of files.
use Rattle.std.proofs.Common.{◌≡◌, ℕ, Bool, true, List, [], ◌∷◌, ◌++◌, Option, Some, Ok, Err, Result, sym, refl, ap, subst, ◌∙◌, ⊎_elim}
use Rattle.std.specs.Prelude.{bytes_eq, if◌then◌else◌}
use Rattle.std.proofs.lemmas.Bool.{cases_Bool, cond-true, cond-false}
use Rattle.docs_vfs.specs.declared.file_kinds.FileId.{FileId}
use Rattle.docs_vfs.specs.declared.file_kinds.RowState.{RowState}
use Rattle.docs_vfs.specs.declared.file_kinds.RowState.TheVariants.{Excluded}
use Rattle.docs_vfs.specs.declared.file_kinds.TableFault.{TableFault}
use Rattle.docs_vfs.specs.Files.{Files, new_files, kept_at, contents_at, is_marked, kept_of, set_in, mark_in, changes}
use Rattle.docs_vfs.specs.FileLaws.{Keeps, number_at, IsNumbered, KeepsTaken, taken_at, IsDifference}
use Rattle.docs_vfs.specs.FileRuns.{Call, set_or, mark_or, step, after, before_take}
use Rattle.docs_vfs.specs.FileRuns.Call.{Sets, Marks, Takes}
use Rattle.docs_vfs.proofs.PutLemmas.{one_path}
use Rattle.docs_vfs.proofs.KeptLaws.{set_changes, mark_changes, set_keeps_taken, mark_keeps_taken}
use Rattle.docs_vfs.proofs.NumberLaws.{none_numbered, taken_numbered, set_numbers, mark_numbers}
use Rattle.docs_vfs.proofs.ChangeLaws.{nothing_taken, is_difference}

-- what every call keeps of the table
record Onward (t u : Files) : Type 0 where
  numbered : IsNumbered u
  numbers : (q : List ℕ) (file : FileId) → number_at t q ≡ Some file → number_at u q ≡ Some file
  marks : (q : List ℕ) → is_marked (kept_at t q) ≡ true → is_marked (kept_at u q) ≡ true

stays : (t : Files) → IsNumbered t → Onward t t
stays t numbered = record { numbered = numbered; numbers = λ q file is. is; marks = λ q is. is }

-- a mark stays where the path of the call would keep it
marks_stay : (t u : Files) (path : List ℕ) (kept : RowState) → Keeps t path kept u → (is_marked (kept_at t path) ≡ true → is_marked kept ≡ true) → (q : List ℕ) → is_marked (kept_at t q) ≡ true → is_marked (kept_at u q) ≡ true
marks_stay t u path kept keeps here q is =
    ap is_marked (keeps q)
    ∙ ⊎_elim
    (λ same. ap is_marked (cond-true _ _ _ same) ∙ here (ap (λ p. is_marked (kept_at t p)) (sym (one_path q path same)) ∙ is))
    (λ other. ap is_marked (cond-false _ _ _ other) ∙ is)
    (cases_Bool (bytes_eq q path))

set_onward : (t : Files) (path : List ℕ) (contents : Option (List ℕ)) → IsNumbered t → (r : Result (Files × Bool) TableFault) → set_in t path contents ≡ r → Onward t (set_or t r)
set_onward t path contents numbered (Err e) is = stays t numbered
set_onward t path contents numbered (Ok made) is =
    let sets = set_changes t made.0 path contents made.1 is in
    ⊎_elim
    (λ yes. let k = set_numbers t made.0 path contents made.1 numbered is yes in record {
      numbered = k.numbered;
      numbers = k.kept;
      marks = marks_stay t made.0 path (if is_marked (kept_at t path) then Excluded else kept_of contents) sets.kept (λ marked. ap is_marked (cond-true _ _ _ marked));
    })
    (λ no. subst (Onward t) (sym (sets.unchanged no)) (stays t numbered))
    (cases_Bool made.1)

mark_onward : (t : Files) (path : List ℕ) → IsNumbered t → (r : Result Files TableFault) → mark_in t path ≡ r → Onward t (mark_or t r)
mark_onward t path numbered (Err e) is = stays t numbered
mark_onward t path numbered (Ok u) is =
    let k = mark_numbers t u path numbered is in
    record {
      numbered = k.numbered;
      numbers = k.kept;
      marks = marks_stay t u path Excluded (mark_changes t u path is) (λ marked. refl);
    }

onward : (call : Call) (t : Files) → IsNumbered t → Onward t (step call t)
onward (Sets path contents) t numbered = set_onward t path contents numbered (set_in t path contents) refl
onward (Marks path) t numbered = mark_onward t path numbered (mark_in t path) refl
onward Takes t numbered = record { numbered = taken_numbered t numbered; numbers = λ q file is. is; marks = λ q is. is }

pub run_numbered : (first : ℕ) (run : List Call) → IsNumbered (after first run)
run_numbered first [] = none_numbered first
run_numbered first (call ∷ run) = (onward call (after first run) (run_numbered first run)).numbered

pub number_for_good : (first : ℕ) (run more : List Call) (path : List ℕ) (file : FileId) → number_at (after first run) path ≡ Some file → number_at (after first (more ++ run)) path ≡ Some file
number_for_good first run [] path file is = is
number_for_good first run (call ∷ more) path file is =
    (onward call (after first (more ++ run)) (run_numbered first (more ++ run))).numbers path file (number_for_good first run more path file is)

pub mark_for_good : (first : ℕ) (run more : List Call) (path : List ℕ) → is_marked (kept_at (after first run) path) ≡ true → is_marked (kept_at (after first (more ++ run)) path) ≡ true
mark_for_good first run [] path is = is
mark_for_good first run (call ∷ more) path is =
    (onward call (after first (more ++ run)) (run_numbered first (more ++ run))).marks path (mark_for_good first run more path is)

-- ---- the last take

set_taken : (t : Files) (path : List ℕ) (contents : Option (List ℕ)) (r : Result (Files × Bool) TableFault) → set_in t path contents ≡ r → KeepsTaken t (set_or t r)
set_taken t path contents (Err e) is = λ q. refl
set_taken t path contents (Ok made) is = set_keeps_taken t made.0 path contents made.1 is

mark_taken : (t : Files) (path : List ℕ) (r : Result Files TableFault) → mark_in t path ≡ r → KeepsTaken t (mark_or t r)
mark_taken t path (Err e) is = λ q. refl
mark_taken t path (Ok u) is = mark_keeps_taken t u path is

pub run_taken : (first : ℕ) (run : List Call) (path : List ℕ) → taken_at (after first run) path ≡ contents_at (after first (before_take run)) path
run_taken first [] path = nothing_taken (new_files first) path
run_taken first (Takes ∷ run) path = nothing_taken (after first run) path
run_taken first (Sets p contents ∷ run) path = set_taken (after first run) p contents (set_in (after first run) p contents) refl path ∙ run_taken first run path
run_taken first (Marks p ∷ run) path = mark_taken (after first run) p (mark_in (after first run) p) refl path ∙ run_taken first run path

pub run_difference : (first : ℕ) (run : List Call) → IsDifference (after first run) (changes (after first run))
run_difference first run = is_difference (after first run) (run_numbered first run)

-- ---- the calls are the steps

pub set_steps : (t u : Files) (path : List ℕ) (contents : Option (List ℕ)) (changed : Bool) → set_in t path contents ≡ Ok (u, changed) → u ≡ step (Sets path contents) t
set_steps t u path contents changed is = sym (ap (set_or t) is)

pub mark_steps : (t u : Files) (path : List ℕ) → mark_in t path ≡ Ok u → u ≡ step (Marks path) t
mark_steps t u path is = sym (ap (mark_or t) is)
