-- The questions of jobs that ask the same of each of their files.
use Rattle.docs_vfs.specs.declared.file_kinds.FileId.{FileId}
use Rattle.analysis_host.specs.declared.ask.Ask.{Ask}
use Rattle.analysis_host.specs.declared.ask.Ask.TheVariants as asks
use Rattle.session_port.specs.declared.asking.Question.{Question}
use Rattle.session_port.specs.declared.asking.Question.TheVariants.{Syntax, Semantic, Tests, CratesOf}

-- the question about a file
abbrev pub about : Question → FileId → Ask
about Syntax = asks.Syntax
about Semantic = asks.Semantic
about Tests = asks.Tests
about CratesOf = asks.CratesOf
