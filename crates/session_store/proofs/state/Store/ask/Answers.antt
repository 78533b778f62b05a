use Rattle.std.proofs.Common.{rules}
use Rattle.session_model.specs.DeskSteps.{requested}
use Rattle.session_model.specs.Meaning.{meaning_of}
use Rattle.session_model.specs.Scene.{Scene}
use Rattle.session_store.proofs.AtDesk.{present_meets}
use Rattle.session_store.proofs.state.Store.ask.Goals as goal

pub returns : goal.returns
returns g c =
    present_meets (λ (scene : Scene). requested (meaning_of g.A.Analysis.decodes g.A.Analysis.answer) scene c.args.request) c.on_request.result c.args.self.now
    _
    c.self.inside.client c.self.inside.files c.self.inside.workspaces c.self.inside.board c.self.inside.desk c.on_request.new.self _ _
    (search rules) (search rules) (search rules) (search rules) (search rules) (search rules) c.on_request.ensures
