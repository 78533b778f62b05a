use Rattle.diagnostics_laws.proofs.StandingShown.{runs-show-board}
use Rattle.diagnostics_laws.proofs.shown.each_published_list_is_the_boards.Goals as goal

pub returns : goal.returns
returns c = runs-show-board c.equal_urls_name_equal_paths.ensures.law
