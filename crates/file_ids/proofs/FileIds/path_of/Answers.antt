use Rattle.std.proofs.Common.{sym, ◌∙◌}
use Rattle.file_ids.proofs.FirstPath.{at_number, first_path}
use Rattle.file_ids.proofs.FileIds.path_of.Goals as goal

pub returns-clause-value : goal.returns-clause-value
returns-clause-value c =
    let file = c.args.file in
    c.get.ensures ∙ first_path c.args.self.now file _ (at_number c.self.inside.files c.self.inside.paths c.self.invariant c.args.self.now c.self.view_is file)

pub returns-clause-each : goal.returns-clause-each
returns-clause-each c = λ path.
    let told = at_number c.self.inside.files c.self.inside.paths c.self.invariant c.args.self.now c.self.view_is c.args.file path in
    (λ e. told.0 (sym c.get.ensures ∙ e), λ e. c.get.ensures ∙ told.1 e)
