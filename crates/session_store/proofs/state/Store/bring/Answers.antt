use Rattle.std.proofs.Common.{rules}
use Rattle.session_model.specs.DeskSteps.{result_taken}
use Rattle.session_model.specs.Meaning.{meaning_of}
use Rattle.session_model.specs.Scene.{Scene}
use Rattle.session_store.proofs.AtDesk.{present_meets}
use Rattle.session_store.proofs.state.Store.bring.Goals as goal

pub returns-clause-meets : goal.returns-clause-meets
returns-clause-meets g c =
    present_meets (λ (scene : Scene). result_taken (meaning_of g.A.Analysis.decodes g.A.Analysis.answer) scene c.args.message) c.on_task.result c.args.self.now
    _
    c.self.inside.client c.self.inside.files c.self.inside.workspaces c.self.inside.board c.self.inside.desk c.on_task.new.self _ _
    (search rules) (search rules) (search rules) (search rules) (search rules) (search rules) c.on_task.ensures.meets
