use Rattle.session_laws.proofs.Answered.{runs-stand}
use Rattle.session_laws.proofs.laws.loads_in_progress_are_out.Goals as goal

pub returns : goal.returns
returns c = λ meaning settings turns last runs. (runs-stand meaning settings turns last runs).runs.loading
