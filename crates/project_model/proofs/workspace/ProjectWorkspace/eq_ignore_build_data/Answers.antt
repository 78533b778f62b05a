use Rattle.std.proofs.lemmas.Bool.Decides.{same_from_decides}
use Rattle.project_model.specs.Same.{same_but_build_told}
use Rattle.project_model.proofs.workspace.ProjectWorkspace.eq_ignore_build_data.Goals as goal

-- two tests that decide the same are one
pub returns-clause-value : goal.returns-clause-value
returns-clause-value c =
    same_from_decides _ _ c.has_same_parts.ensures (same_but_build_told c.args.self.now c.args.other.now)
