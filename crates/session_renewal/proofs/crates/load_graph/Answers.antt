use Rattle.std.proofs.Common.{◌≡◌, ℕ, List, map, subst, rules}
use Rattle.std.specs.Prelude.{IfOk}
use Rattle.project_model.specs.declared.build.MacroPath.{MacroPath}
use Rattle.project_model.specs.declared.crates.CrateData.{CrateData}
use Rattle.reload.specs.Graph.{crate_roots, graph_of}
use Rattle.session_model.specs.Crates.{extra_env, loaded_as}
use Rattle.session_renewal.proofs.Graphs.{asked_answers}
use Rattle.session_renewal.proofs.crates.load_graph.Goals as goal

pub returns : goal.returns
returns c =
    let env : c.cargo_extra_env.result.now ≡ extra_env c.args.settings.now = search rules in
    subst (λ (graph : CrateData × List (List (ℕ × MacroPath))). IfOk c.ws_to_crate_graph.result (λ made. made ≡ graph))
    (λ i. graph_of c.args.workspaces.now (env i) (map (loaded_as c.args.numbers.now) (crate_roots c.args.workspaces.now)))
    (asked_answers _ _ _ _ c.ws_to_crate_graph.result c.ws_to_crate_graph.ensures (loaded_as c.args.numbers.now) (λ x r next called. search rules))
