use Rattle.std.proofs.Common.{ap, ◌∙◌}
use Rattle.std.specs.List.{enumerate_from, filter_map}
use Rattle.reload.specs.Graph.{found_in, path_of}
use Rattle.reload.proofs.Found.{found_by_index}
use Rattle.reload.proofs.macro_paths.paths_in.Goals as goal

pub returns : goal.returns
returns c =
    let workspace = c.args.workspace.now in
    let places = c.args.places.now in
    c.in_ok-paths.ensures
    ∙ ap (λ crates. filter_map (path_of (found_in c.in_ok-rows.rows) places) (enumerate_from 0 crates)) c.as_slice.ensures
    ∙ ap (λ found. filter_map (path_of found places) (enumerate_from 0 workspace.crates))
    (found_by_index c.in_ok-rows.rows workspace.build c.built_of.result.now c.in_ok-rows.ensures c.built_of.ensures)
