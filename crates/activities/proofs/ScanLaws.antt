-- The last report of a batch is the last that is told of it.
use Rattle.std.proofs.Common.{◌≡◌, ℕ, true, false, List, [], ◌∷◌, ◌++◌, refl, sym, ap, subst, ◌∙◌, append_assoc}
use Rattle.std.specs.Prelude.{All, Option, None, Some}
use Rattle.std.proofs.lemmas.Bool.{true≢false}
use Rattle.std.proofs.lemmas.List.Elements.{All-head, All-tail}
use Rattle.session_port.specs.declared.event.LoaderMsg.{LoaderMsg}
use Rattle.session_port.specs.declared.event.LoaderMsg.TheVariants.{Changed, Loaded}
use Rattle.session_port.specs.declared.event.LoaderMsg.TheVariants.{Progress as IsAt}
use Rattle.session_port.specs.declared.event.LoadingProgress.TheVariants as steps
use Rattle.activities.specs.Scanning.{message_told, scan_reported, scans_behind, scans_told}
use Rattle.activities.specs.ScanRuns.{leaves_last}
use Rattle.activities.specs.declared.telling.Telling.{Telling}

abbrev EndsWith : Telling → List Telling → Type 0
EndsWith last tellings = (front : List Telling) × (tellings ≡ front ++ last ∷ [])

ends-behind : (last : Telling) (before tellings : List Telling) → EndsWith last tellings
    → EndsWith last (before ++ tellings)
ends-behind last before tellings (front, is) =
    (before ++ front, ap (λ (ts : List Telling). before ++ ts) is ∙ sym (append_assoc before front (last ∷ [])))

-- a message that neither reports nor ends leaves the last report
left-last : (root : List ℕ) (message : LoaderMsg) (last : Option Telling) → leaves_last message ≡ true
    → (message_told root message last).1 ≡ last
left-last root (Changed files) last leaves = refl
left-last root (Loaded files) last leaves = refl
left-last root (IsAt total steps.Started dir version) last leaves = refl
left-last root (IsAt total (steps.Progress done) dir version) last leaves = absurd (true≢false (sym leaves))
left-last root (IsAt total steps.Finished dir version) last leaves = absurd (true≢false (sym leaves))

abbrev Leaves : LoaderMsg → Type 0
Leaves message = leaves_last message ≡ true

ends-with-last : (root : List ℕ) (last : Telling) (after : List LoaderMsg)
    → All (λ message. leaves_last message ≡ true) after → EndsWith last (scans_behind root (Some last) after)
ends-with-last root last [] leave = ([], refl)
ends-with-last root last (message ∷ after) leave =
    ends-behind last (message_told root message (Some last)).0 _
    (subst (λ (now : Option Telling). EndsWith last (scans_behind root now after))
    (sym (left-last root message (Some last) (All-head Leaves message after leave)))
    (ends-with-last root last after (All-tail Leaves message after leave)))

reports-last : (root : List ℕ) (done total : ℕ) (dir : Option (List ℕ)) (version : ℕ) (last : Option Telling)
    → (message_told root (IsAt total (steps.Progress done) dir version) last).1
    ≡ Some (scan_reported root done total dir)
reports-last root done total dir version None = refl
reports-last root done total dir version (Some last) = refl

pub ends-behind-report : (root : List ℕ) (before after : List LoaderMsg) (done total : ℕ) (dir : Option (List ℕ))
    (version : ℕ) (last : Option Telling) → All (λ message. leaves_last message ≡ true) after
    → EndsWith (scan_reported root done total dir)
    (scans_behind root last (before ++ IsAt total (steps.Progress done) dir version ∷ after))
ends-behind-report root [] after done total dir version last leave =
    ends-behind (scan_reported root done total dir) _ _
    (subst (λ (now : Option Telling). EndsWith (scan_reported root done total dir) (scans_behind root now after))
    (sym (reports-last root done total dir version last))
    (ends-with-last root (scan_reported root done total dir) after leave))
ends-behind-report root (message ∷ before) after done total dir version last leave =
    ends-behind (scan_reported root done total dir) (message_told root message last).0 _
    (ends-behind-report root before after done total dir version (message_told root message last).1 leave)
