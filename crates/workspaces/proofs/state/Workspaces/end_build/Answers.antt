use Rattle.std.proofs.Common.{length, sym, ap, subst, ◌∙◌}
use Rattle.std.specs.Arc.{arc_value}
use Rattle.workspaces.specs.Workspaces.{HasBuilt}
use Rattle.workspaces.proofs.Entries.{runs_length}
use Rattle.workspaces.proofs.state.Workspaces.end_build.Goals as goal

pub invariant_of-self : goal.invariant_of-self
invariant_of-self c =
    let w = c.self.inside in
    subst (λ queue. HasBuilt (record { queue = queue; version = w.build_version; count = w.build_count }) (arc_value w.present) w.version)
    (sym c.op_completed.ensures)
    (record {
      started = c.self.invariant.started;
      counted = c.self.invariant.counted;
      ended = (
        c.self.invariant.started,
        λ same. ap length c.in_ok-runs.ensures ∙ runs_length c.args.made w.build_count ∙ c.self.invariant.counted same,
      );
    })
