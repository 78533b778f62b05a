use Rattle.std.proofs.Common.{◌≡◌, ◌++◌, ℕ, List, drop, map, bytes_eq}
use Rattle.std.specs.List.{filter, list_all}
use Rattle.docs_vfs.specs.Paths.{is_path}
use Rattle.docs_vfs.specs.Includes.{places}
use Rattle.docs_vfs.proofs.includes.Includes.add_all.Given as goal

abbrev pub invariant-loop-include : goal.invariant-loop-include
invariant-loop-include l =
    ((text : List ℕ) → places l.self text ++ map (λ _. l.at) (filter (bytes_eq text) (drop l.include-index l.includes))
    ≡ places l.fn.self text ++ map (λ _. l.at) (filter (bytes_eq text) l.includes))
    × (list_all is_path (drop l.include-index l.includes) ≡ list_all is_path l.includes)
