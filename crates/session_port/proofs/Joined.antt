-- The value that answers make is one of the job's kind.
use Rattle.std.proofs.Common.{◌≡◌, Bool, true, false, List, [], ◌∷◌, ◌++◌, map, refl, sym, ap, ◌∙◌, ◌&&◌}
use Rattle.std.specs.List.{AllZip, flat_map, list_all}
use Rattle.std.proofs.lemmas.Bool.{eq-eqb}
use Rattle.std.proofs.lemmas.List.Folds.{list_all-append}
use Rattle.docs_vfs.specs.declared.file_kinds.FileId.{FileId}
use Rattle.plain.specs.Plain.{is_plain}
use Rattle.analysis_host.specs.Answers.{IsAnswerTo, IsPlainAnswer, IsPrimed, AreTests}
use Rattle.analysis_host.specs.declared.ask.Answer.{Answer}
use Rattle.analysis_host.specs.declared.ask.Answer.TheVariants as answers
use Rattle.analysis_host.specs.declared.ask.Ask.{Ask}
use Rattle.analysis_host.specs.declared.ask.Ask.TheVariants as asks
use Rattle.session_port.specs.Jobs.{fits_value, has_files, is_sound}
use Rattle.session_port.specs.Kinds.{asks_analysis, asks_of, is_same_kind, kind_of, pass_ask}
use Rattle.session_port.specs.Results.{joined, lists_of, tests_in, value_answering}
use Rattle.session_port.specs.declared.kinds.ValueKind.TheVariants as kinds
use Rattle.session_port.specs.declared.job.JobKind.{JobKind}
use Rattle.session_port.specs.declared.job.JobKind.TheVariants.{Request, Part, Diagnostics, Tests, Indexed, ProcMacroSources, CheckScope}
use Rattle.session_port.specs.declared.job.JobKind.TheVariants.{Prime, FetchWorkspaces, FetchBuildData, LoadProcMacros}

-- there is a list for each file
has_files-lists_of : (ask : FileId → Ask) (files : List FileId) (found : List Answer) → AllZip IsAnswerTo (map ask files) found
    → has_files files (lists_of files found) ≡ true
has_files-lists_of ask [] [] zip = refl
has_files-lists_of ask [] (first ∷ rest) zip = absurd zip
has_files-lists_of ask (file ∷ files) [] zip = absurd zip
has_files-lists_of ask (file ∷ files) (first ∷ rest) zip =
    ap (λ same. same && has_files files (lists_of files rest)) (eq-eqb file.0 file.0 refl) ∙ has_files-lists_of ask files rest zip.1

-- the tests are plain
plain_tests : (first : Answer) → AreTests first → list_all is_plain (tests_in first) ≡ true
plain_tests (answers.Tests tests) is = is
plain_tests (answers.Json value) is = absurd is
plain_tests (answers.Diagnostics list) is = absurd is
plain_tests (answers.Roots paths) is = absurd is
plain_tests answers.Primed is = absurd is

all_plain : (files : List FileId) (found : List Answer) → AllZip IsAnswerTo (map asks.Tests files) found
    → list_all is_plain (flat_map tests_in found) ≡ true
all_plain [] [] zip = refl
all_plain [] (first ∷ rest) zip = absurd zip
all_plain (file ∷ files) [] zip = absurd zip
all_plain (file ∷ files) (first ∷ rest) zip =
    list_all-append is_plain (tests_in first) (flat_map tests_in rest) ∙ (λ i. plain_tests first zip.0 i && all_plain files rest zip.1 i)

-- one answer to a request is plain JSON, and one that all is found out is no more than that
plain_first : (first : Answer) → IsPlainAnswer first → (is_same_kind (kind_of (value_answering first)) kinds.Json && is_sound [] (value_answering first)) ≡ true
plain_first (answers.Json value) is = is
plain_first (answers.Diagnostics list) is = absurd is
plain_first (answers.Tests tests) is = absurd is
plain_first (answers.Roots paths) is = absurd is
plain_first answers.Primed is = absurd is

primed_first : (first : Answer) → IsPrimed first → (is_same_kind (kind_of (value_answering first)) kinds.Primed && is_sound [] (value_answering first)) ≡ true
primed_first (answers.Json value) is = absurd is
primed_first (answers.Diagnostics list) is = absurd is
primed_first (answers.Tests tests) is = absurd is
primed_first (answers.Roots paths) is = absurd is
primed_first answers.Primed is = refl

pub joined_fits : (kind : JobKind) (found : List Answer) → asks_analysis kind ≡ true → AllZip IsAnswerTo (asks_of kind) found
    → fits_value kind (joined kind found) ≡ true
joined_fits (Request ticket row params) [] asked zip = absurd zip
joined_fits (Request ticket row params) (first ∷ rest) asked zip = plain_first first zip.0
joined_fits (Part ticket part row params files) [] asked zip = absurd zip
joined_fits (Part ticket part row params files) (first ∷ rest) asked zip = plain_first first zip.0
joined_fits (Diagnostics generation pass files) found asked zip = has_files-lists_of (pass_ask pass) files found zip
joined_fits (Tests files) found asked zip = all_plain files found zip
joined_fits (Indexed file path) found asked zip = refl
joined_fits (ProcMacroSources files) found asked zip = refl
joined_fits (CheckScope file path) found asked zip = refl
joined_fits Prime [] asked zip = absurd zip
joined_fits Prime (first ∷ rest) asked zip = primed_first first zip.0
joined_fits (FetchWorkspaces projects detached path force) found asked zip = cc
joined_fits (FetchBuildData version) found asked zip = cc
joined_fits (LoadProcMacros paths ignored) found asked zip = cc
