use Rattle.layered_settings.proofs.PathEnds.{paths_end, first_pair_holds}
use Rattle.layered_settings.proofs.path_laws.the_search_path_ends.Goals as goal

pub returns : goal.returns
returns c = record { ends = paths_end; first = first_pair_holds }
