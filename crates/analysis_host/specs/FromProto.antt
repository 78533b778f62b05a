-- What is read of the protocol's texts (LSP 3.17).
use Rattle.std.specs.Prelude.{ℕ, List, codes, bytes_eq, Option, Some, None, if◌then◌else◌}
use Rattle.analysis_host.specs.declared.from_proto.AssistKind.{AssistKind}
use Rattle.analysis_host.specs.declared.from_proto.AssistKind.TheVariants.{Generate, QuickFix, Refactor}
use Rattle.analysis_host.specs.declared.from_proto.AssistKind.TheVariants.{RefactorExtract, RefactorInline}
use Rattle.analysis_host.specs.declared.from_proto.AssistKind.TheVariants.{RefactorRewrite}

-- the kinds of code actions by which assists are asked for (CodeActionKind)
abbrev pub assist_kind : List ℕ → Option AssistKind
assist_kind kind =
    if bytes_eq kind (codes "") then Some Generate
    else if bytes_eq kind (codes "quickfix") then Some QuickFix
    else if bytes_eq kind (codes "refactor") then Some Refactor
    else if bytes_eq kind (codes "refactor.extract") then Some RefactorExtract
    else if bytes_eq kind (codes "refactor.inline") then Some RefactorInline
    else if bytes_eq kind (codes "refactor.rewrite") then Some RefactorRewrite
    else None
