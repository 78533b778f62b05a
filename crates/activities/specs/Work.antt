-- What is told of the host's own jobs, and of crate data that is built.
use Rattle.std.specs.Prelude.{ℕ, List, [], ◌∷◌, codes, Option, None, Some}
use Rattle.session_port.specs.Kinds.{job_group}
use Rattle.session_port.specs.declared.event.TaskBody.{TaskBody}
use Rattle.session_port.specs.declared.event.TaskBody.TheVariants as bodies
use Rattle.session_port.specs.declared.job.Job.{Job}
use Rattle.session_port.specs.declared.kinds.JobGroup.{JobGroup}
use Rattle.session_port.specs.declared.kinds.JobGroup.TheVariants as groups
use Rattle.activities.specs.declared.telling.Telling.{Telling}
use Rattle.activities.specs.declared.telling.Telling.TheVariants.{Begin, Report, End}

-- the title of a job of the host's own
abbrev pub title_of : JobGroup → Option (List ℕ)
title_of groups.Fetches = Some (codes "Fetching")
title_of groups.Builds = Some (codes "Building compile-time-deps")
title_of groups.Loads = Some (codes "Loading proc-macros")
title_of other = None

abbrev pub body_told : List ℕ → TaskBody → List Telling
body_told title bodies.Begin = Begin title None None None ∷ []
body_told title (bodies.Report text) = Report title None (Some text) None ∷ []
body_told title (bodies.PrimeReport done total crates) = []
body_told title (bodies.Final result) = End title None None ∷ []

abbrev pub told_under : Option (List ℕ) → TaskBody → List Telling
told_under None body = []
told_under (Some title) body = body_told title body

-- what a message tells that fits this job, if it fits one
abbrev pub job_told : TaskBody → Option Job → List Telling
job_told body None = []
job_told body (Some job) = told_under (title_of (job_group job.kind)) body

-- crate data is built at once: it begins and ends
abbrev pub graph_told : List Telling
graph_told = Begin (codes "Building CrateGraph") None None None ∷ End (codes "Building CrateGraph") None None ∷ []
