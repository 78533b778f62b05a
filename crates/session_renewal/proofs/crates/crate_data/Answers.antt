use Rattle.std.proofs.Common.{ℕ, ◌<◌, ◌^◌, length, sym, ap, subst}
use Rattle.session_renewal.proofs.Graphs.{crates_fit}
use Rattle.session_renewal.proofs.crates.crate_data.Goals as goal

pub without_macros-requires : goal.without_macros-requires
without_macros-requires c =
    subst (λ (n : ℕ). n < 2 ^ 32) (sym (ap (λ made. length made.0.crates) c.in_ok-graph.ensures))
    (crates_fit c.args.settings.now c.in_ok-numbers.numbers c.args.workspaces.now)
