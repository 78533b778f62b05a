use Rattle.std.proofs.Common.{◌≡◌, ◌++◌, drop, List, []}
use Rattle.std.specs.List.{filter_map}
use Rattle.status.specs.Texts.{manifest_of, front_of, lines_behind}
use Rattle.status.proofs.linked.manifest_lines.Given as goal

abbrev pub invariant-loop-project : goal.invariant-loop-project
invariant-loop-project l =
    l.text ++ lines_behind (front_of l.first) (filter_map manifest_of (drop l.project-index l.linked)) ≡ lines_behind [] (filter_map manifest_of l.linked)
