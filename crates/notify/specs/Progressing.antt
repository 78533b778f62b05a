-- How far some work is (LSP 3.17, WorkDoneProgress).
use Rattle.std.specs.Prelude.{ℕ, Bool, List, codes, Option}
use Rattle.serde_json.specs.Data.{Data, boolean, string, object, Members, no_members, put}
use Rattle.lsp_types.specs.Values.{put_some}
use Rattle.notify.specs.Objects.{optional_text, optional_number}
use Rattle.notify.specs.declared.outgo.ProgressValue.{ProgressValue}
use Rattle.notify.specs.declared.outgo.ProgressValue.TheVariants.{Begin, Report, End}

-- the members of work that goes on
abbrev pub work_members : List ℕ → Bool → Option (List ℕ) → Option ℕ → Members
work_members kind cancellable message percentage =
    put_some (codes "percentage") (optional_number percentage) (put_some (codes "message") (optional_text message)
    (put (codes "kind") (string kind) (put (codes "cancellable") (boolean cancellable) no_members)))

-- the same with a title, for work that begins
abbrev pub begin_value : List ℕ → Members → Data
begin_value title work = object (put (codes "title") (string title) work)

-- `{"kind":"end","message":M}`
abbrev pub end_value : Option (List ℕ) → Data
end_value message = object (put_some (codes "message") (optional_text message) (put (codes "kind") (string (codes "end")) no_members))

abbrev pub progress_value : ProgressValue → Data
progress_value (Begin cancellable message percentage title) = begin_value title (work_members (codes "begin") cancellable message percentage)
progress_value (Report cancellable message percentage) = object (work_members (codes "report") cancellable message percentage)
progress_value (End message) = end_value message

-- `{"token":T,"value":V}`
abbrev pub progress_params : List ℕ → ProgressValue → Data
progress_params token value = object (put (codes "value") (progress_value value) (put (codes "token") (string token) no_members))
