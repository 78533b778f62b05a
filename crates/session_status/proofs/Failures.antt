-- A fetch and a run of build scripts have a text of errors exactly where something failed.
use Rattle.std.proofs.Common.{◌≡◌, ℕ, List, [], ◌∷◌, ◌++◌, length, map, Bool, true, false, refl, ap, sym, ◌∙◌}
use Rattle.std.proofs.Math.Dec.{eqb-suc-zero}
use Rattle.std.proofs.lemmas.Bool.{true≢false}
use Rattle.std.specs.Prelude.{◌==◌, ◌||◌, if◌then◌else◌, not, Option, None, Some, is_some, Result, Ok, Err}
use Rattle.std.specs.List.{concat, list_any}
use Rattle.project_model.specs.declared.build.BuildScripts.{BuildScripts}
use Rattle.project_model.specs.declared.workspace.ProjectWorkspace.{ProjectWorkspace}
use Rattle.reload.specs.Errors.{build_error, fetch_error, line_feed, line_of_build, line_of_workspace, unless_empty}
use Rattle.session_status.specs.Failures.{has_failed, has_failed_build}

-- whether a text has a byte
abbrev is_filled : List ℕ → Bool
is_filled [] = false
is_filled (byte ∷ text) = true

told_where : (text : List ℕ) → is_some (unless_empty text) ≡ is_filled text
told_where [] = refl
told_where (byte ∷ text) = ap (λ none. is_some (if none then None else Some (byte ∷ text))) (eqb-suc-zero (length text))

filled-append : (first second : List ℕ) → is_filled (first ++ second) ≡ (is_filled first || is_filled second)
filled-append [] second = refl
filled-append (byte ∷ first) second = refl

line-filled : (error : List ℕ) → is_filled (error ++ line_feed) ≡ true
line-filled [] = refl
line-filled (byte ∷ error) = refl

-- lines of a list, by what each says
lines_filled : {A : Type 0} (line : A → List ℕ) (says : A → Bool) → ((x : A) → is_filled (line x) ≡ says x) → (xs : List A)
    → is_filled (concat (map line xs)) ≡ list_any says xs
lines_filled line says each [] = refl
lines_filled line says each (x ∷ xs) =
    filled-append (line x) (concat (map line xs)) ∙ (λ i. each x i || lines_filled line says each xs i)

failed-filled : (fetched : Result ProjectWorkspace (List ℕ)) → is_filled (line_of_workspace fetched) ≡ has_failed fetched
failed-filled (Ok workspace) = refl
failed-filled (Err error) = refl

error-filled : (scripts : BuildScripts) (error : Option (List ℕ)) → scripts.error ≡ error → is_filled (line_of_build (Ok scripts)) ≡ is_some error
error-filled scripts None is = rw is refl
error-filled scripts (Some error) is = rw is (line-filled error)

build-filled : (run : Result BuildScripts (List ℕ)) → is_filled (line_of_build run) ≡ has_failed_build run
build-filled (Ok scripts) = error-filled scripts scripts.error refl
build-filled (Err error) = line-filled error

pub nothing_found : (found : List (Result ProjectWorkspace (List ℕ))) (discovers : Bool) → (length found == 0) ≡ true
    → is_some (fetch_error (Some found) discovers) ≡ not discovers
nothing_found [] true none = refl
nothing_found [] false none = refl
nothing_found (fetched ∷ found) discovers none = absurd (true≢false (sym none ∙ eqb-suc-zero (length found)))

pub some_found : (found : List (Result ProjectWorkspace (List ℕ))) (discovers : Bool) → (length found == 0) ≡ false
    → is_some (fetch_error (Some found) discovers) ≡ list_any has_failed found
some_found [] discovers some = absurd (true≢false some)
some_found (fetched ∷ found) discovers some =
    told_where (concat (map line_of_workspace (fetched ∷ found))) ∙ lines_filled line_of_workspace has_failed failed-filled (fetched ∷ found)

pub builds_fail : (runs : List (Result BuildScripts (List ℕ))) → is_some (build_error (Some runs)) ≡ list_any has_failed_build runs
builds_fail runs = told_where (concat (map line_of_build runs)) ∙ lines_filled line_of_build has_failed_build build-filled runs
