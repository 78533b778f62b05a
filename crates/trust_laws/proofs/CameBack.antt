-- An honest job that ends with a value brings what the analysis finds.
use Rattle.std.proofs.Common.{◌≡◌, ℕ, List, [], ◌∷◌, Bool, true, false, cond, refl, sym, ap, ◌∙◌}
use Rattle.std.specs.Prelude.{◌||◌, map as each, Option, None, Some, is_some}
use Rattle.std.specs.List.{list_any}
use Rattle.std.proofs.lemmas.Bool.{eqb-true, false≢true}
use Rattle.docs_vfs.specs.declared.file_kinds.FileId.{FileId}
use Rattle.lsp_types.specs.declared.diagnostic.Diagnostic.{Diagnostic}
use Rattle.op_board.specs.Runs.{same_file}
use Rattle.analysis_host.specs.Answers.{OutcomeSpec, answer, fault}
use Rattle.session_port.specs.Results.{answers_in, lists_of, or_fault}
use Rattle.session_port.specs.declared.job.JobResult.{JobResult}
use Rattle.session_port.specs.declared.job.JobResult.TheVariants.{Value, Fault}
use Rattle.session_port.specs.declared.job.JobValue.{JobValue}
use Rattle.diagnostics_laws.specs.Batches.{list_among}
use Rattle.trust_laws.specs.CameBack.{found_in}

-- ---- what questions come to

fault-value : (code : Option _) (message : List ℕ) (value : JobValue) → Fault code message ≡ Value value → ⊥
fault-value code message value e = cc

pub or_fault-value : (findings : List OutcomeSpec) (r : JobResult) (value : JobValue) → or_fault findings r ≡ Value value → r ≡ Value value
or_fault-value [] r value is = is
or_fault-value (answer a ∷ findings) r value is = or_fault-value findings r value is
or_fault-value (fault code message ∷ findings) r value is = absurd (fault-value code message value is)

-- where no question comes to a fault, the lists are those that were found
pub lists-found : (ask : FileId → OutcomeSpec) (files : List FileId) (r : JobResult) (value : JobValue) → or_fault (each ask files) r ≡ Value value
    → lists_of files (answers_in (each ask files)) ≡ each (λ file. (file, found_in (ask file))) files
lists-found ask [] r value is = refl
lists-found ask (file ∷ files) r value is = by_outcome (lists-found ask files r value) (ask file) is
  where
    by_outcome : (or_fault (each ask files) r ≡ Value value → lists_of files (answers_in (each ask files)) ≡ each (λ file. (file, found_in (ask file))) files)
        → (o : OutcomeSpec) → or_fault (o ∷ each ask files) r ≡ Value value
        → lists_of (file ∷ files) (answers_in (o ∷ each ask files)) ≡ (file, found_in o) ∷ each (λ file. (file, found_in (ask file))) files
    by_outcome later (answer a) same = ap (λ l. (file, found_in (answer a)) ∷ l) (later same)
    by_outcome later (fault code message) same = absurd (fault-value code message value same)

-- ---- the list for a file among them

no_list : {X : Type 0} (x : X) → None ≡ Some x → ⊥
no_list x e = cc

some_list : {X : Type 0} (x y : X) → Some x ≡ Some y → x ≡ y
some_list x y e = cc

number-same : (file other : FileId) → same_file file other ≡ true → file ≡ other
number-same file other same = ap (λ n. record { 0 = n }) (eqb-true file.0 other.0 same)

module _ (said : FileId → List Diagnostic) (file : FileId) where
  -- what was brought, if anything was, is what is said of the file
  abbrev pub IsSaid : Option (List Diagnostic) → Type 0
  IsSaid before = (list : List Diagnostic) → before ≡ Some list → list ≡ said file

  pub among-said : (files : List FileId) (before : Option (List Diagnostic)) → IsSaid before
      → IsSaid (list_among file (each (λ f. (f, said f)) files) before)
  among-said [] before h = h
  among-said (other ∷ files) before h = among-said files (cond (same_file file other) (Some (said other)) before) (by_file (same_file file other) refl)
    where
      by_file : (b : Bool) → same_file file other ≡ b → IsSaid (cond b (Some (said other)) before)
      by_file true same list is = sym (some_list _ _ is) ∙ ap said (sym (number-same file other same))
      by_file false same list is = h list is

  pub among-some : (lists : List (FileId × List Diagnostic)) (before : Option (List Diagnostic)) → is_some before ≡ true → is_some (list_among file lists before) ≡ true
  among-some [] before h = h
  among-some (given ∷ lists) before h = among-some lists (cond (same_file file given.0) (Some given.1) before) (by_file (same_file file given.0))
    where
      by_file : (b : Bool) → is_some (cond b (Some given.1) before) ≡ true
      by_file true = refl
      by_file false = h

  -- one of these files
  abbrev pub is_among : List FileId → Bool
  is_among files = list_any (same_file file) files

  pub among-has : (files : List FileId) (before : Option (List Diagnostic)) → is_among files ≡ true
      → is_some (list_among file (each (λ f. (f, said f)) files) before) ≡ true
  among-has [] before is = absurd (false≢true is)
  among-has (other ∷ files) before is = by_file (among-has files) (same_file file other) is
    where
      by_file : ((o : Option (List Diagnostic)) → is_among files ≡ true → is_some (list_among file (each (λ f. (f, said f)) files) o) ≡ true)
          → (b : Bool) → (b || is_among files) ≡ true
          → is_some (list_among file (each (λ f. (f, said f)) files) (cond b (Some (said other)) before)) ≡ true
      by_file later true is = among-some (each (λ f. (f, said f)) files) (Some (said other)) refl
      by_file later false is = later before is
