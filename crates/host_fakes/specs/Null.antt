-- What an analysis answers that knows nothing, and what it says of itself.
use Rattle.std.specs.Prelude.{[], codes}
use Rattle.serde_json.specs.Data.{null, no_members}
use Rattle.analysis_host.specs.Answers.{OutcomeSpec, answer}
use Rattle.analysis_host.specs.declared.ask.Answer.TheVariants.{Json, Diagnostics, Tests, Roots, Primed}
use Rattle.analysis_host.specs.declared.ask.Ask.{Ask}
use Rattle.analysis_host.specs.declared.ask.Ask.TheVariants.{Request, Part, Syntax, Semantic, Tests as TestsOf}
use Rattle.analysis_host.specs.declared.ask.Ask.TheVariants.{CratesOf, Prime}
use Rattle.analysis_host.specs.declared.server_info.ServerInfo.{ServerInfo}

-- null to every request, nothing wrong, no tests and no crates
abbrev pub null_answer : Ask → OutcomeSpec
null_answer (Request row params) = answer (Json null)
null_answer (Part row params files) = answer (Json null)
null_answer (Syntax file) = answer (Diagnostics [])
null_answer (Semantic file) = answer (Diagnostics [])
null_answer (TestsOf file) = answer (Tests [])
null_answer (CratesOf file) = answer (Roots [])
null_answer Prime = answer Primed

-- nothing that it can do
abbrev pub null_info : ServerInfo
null_info = record { name = codes "null"; version = codes "1"; capabilities = no_members }
