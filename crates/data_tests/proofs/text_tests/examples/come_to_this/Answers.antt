use Rattle.std.proofs.Common.{refl}
use Rattle.text_core.specs.Rebuilds.{rebuilds}
use Rattle.text_core.specs.Skips.{skips}
use Rattle.data_tests.proofs.text_tests.examples.come_to_this.Goals as goal

pub returns : goal.returns
unfolding rebuilds skips
returns c = record { backward = refl; forward = refl; twice = refl; past = refl; reversed = refl; limited = refl; dropped = refl; whole_dropped = refl; before_whole = refl }
