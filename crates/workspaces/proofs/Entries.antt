-- What is kept has one entry for each.
use Prim.Native.Nat.{zero, suc}
use Rattle.std.proofs.Common.{◌≡◌, ℕ, ◌+◌, ◌-◌, ◌<◌, ◌≤◌, List, [], ◌∷◌, ◌++◌, length, map, refl, sym, ap, ◌∙◌, arith, append_assoc, append-nil}
use Rattle.std.specs.Prelude.{Option, Some, Result, Ok, Err}
use Rattle.std.specs.Borrow.{Bor}
use Rattle.std.specs.FinMap as by_key
use Rattle.std.specs.Ordering.{nat_cmp}
use Rattle.project_model.specs.declared.crates.MacroState.{MacroState}
use Rattle.project_model.specs.declared.crates.MacroState.TheVariants.{Failed}
use Rattle.project_model.specs.declared.build.BuildScripts.{BuildScripts}
use Rattle.reload.specs.Switch.{BuildRuns}
use Rattle.workspaces.specs.Builds.{one_each, missing, runs_of}
use Rattle.workspaces.specs.Loads.{found_in, numbered, first_told, macros_of}

one_each_length : (error : List ℕ) (count : ℕ) (runs : BuildRuns) → length (one_each error count runs) ≡ count
one_each_length error zero runs = refl
one_each_length error (suc more) [] = ap suc (one_each_length error more [])
one_each_length error (suc more) (run ∷ runs) = ap suc (one_each_length error more runs)

pub runs_length : (given : Result BuildRuns (List ℕ)) (count : ℕ) → length (runs_of given count) ≡ count
runs_length (Ok runs) count = one_each_length missing count runs
runs_length (Err error) count = one_each_length error count []

-- a run is added where one more is wanted
each_one : (error : List ℕ) (left : ℕ) (list : BuildRuns) (run : Result BuildScripts (List ℕ)) (rest : BuildRuns)
    → (list ++ run ∷ []) ++ one_each error left rest ≡ list ++ one_each error (suc left) (run ∷ rest)
each_one error left list run rest = append_assoc list (run ∷ []) (one_each error left rest)

-- and the error where there is none
each_missing : (error : List ℕ) (left : ℕ) (list : BuildRuns) → (list ++ Err error ∷ []) ++ one_each error left [] ≡ list ++ one_each error (suc left) []
each_missing error left list = append_assoc list (Err error ∷ []) (one_each error left [])

one_left : (count at : ℕ) → at < count → count - at ≡ suc (count - (at + 1))
one_left count at more = omega arith

pub next_run : (error : List ℕ) (count at : ℕ) (list new : BuildRuns) (run : Result BuildScripts (List ℕ)) (given rest whole : BuildRuns) → at < count
    → given ≡ run ∷ rest
    → new ≡ list ++ run ∷ [] → list ++ one_each error (count - at) given ≡ whole → new ++ one_each error (count - (at + 1)) rest ≡ whole
next_run error count at list new run given rest whole more cut grows so_far =
    ap (λ l. l ++ one_each error (count - (at + 1)) rest) grows ∙ each_one error (count - (at + 1)) list run rest
    ∙ (λ i. list ++ one_each error (sym (one_left count at more) i) (sym cut i)) ∙ so_far

pub next_missing : (error : List ℕ) (count at : ℕ) (list new given rest whole : BuildRuns) → at < count → given ≡ [] → rest ≡ []
    → new ≡ list ++ Err error ∷ [] → list ++ one_each error (count - at) given ≡ whole → new ++ one_each error (count - (at + 1)) rest ≡ whole
next_missing error count at list new given rest whole more none still grows so_far =
    (λ i. grows i ++ one_each error (count - (at + 1)) (still i)) ∙ each_missing error (count - (at + 1)) list
    ∙ (λ i. list ++ one_each error (sym (one_left count at more) i) (sym none i)) ∙ so_far

-- all are made once so many are
pub all_made : (error : List ℕ) (count at : ℕ) (list given whole : BuildRuns) → count ≤ at → list ++ one_each error (count - at) given ≡ whole → list ≡ whole
all_made error count at list given whole all so_far =
    let none : count - at ≡ 0 = omega arith in
    sym (append-nil list) ∙ ap (λ left. list ++ one_each error left given) (sym none) ∙ so_far

numbers_kept : (told : ℕ → Option MacroState) (listed : List ℕ) → map (λ (entry : ℕ × MacroState). entry.0) (map (numbered told) listed) ≡ listed
numbers_kept told [] = refl
numbers_kept told (number ∷ rest) = ap (λ l. number ∷ l) (numbers_kept told rest)

pub numbers_of : (told : Result (List (ℕ × MacroState)) (List ℕ)) (listed : List ℕ) → map (λ (entry : ℕ × MacroState). entry.0) (macros_of told listed)
    ≡ listed
numbers_of (Ok entries) listed = numbers_kept (first_told entries) listed
numbers_of (Err error) listed = numbers_kept (λ number. Some (Failed error)) listed

-- what was told of a crate is found by its number
pub told_by_number : (told : Result (List (ℕ × MacroState)) (List ℕ)) (entries given : List (ℕ × MacroState)) (rows : by_key.FinMap nat_cmp (Bor MacroState))
    (listed : List ℕ)
    → told ≡ Ok entries → given ≡ entries → ((number : ℕ) → found_in rows number ≡ first_told given number)
    → map (numbered (found_in rows)) listed ≡ macros_of told listed
told_by_number told entries given rows listed is are found =
    ap (λ f. map (numbered f) listed) (λ i number. (found number ∙ ap (λ (es : List (ℕ × MacroState)). first_told es number) are) i)
    ∙ ap (λ t. macros_of t listed) (sym is)
