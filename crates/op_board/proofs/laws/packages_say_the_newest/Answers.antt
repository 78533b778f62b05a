use Rattle.op_board.proofs.PackageRuns.{lists_are, fixes_are}
use Rattle.op_board.proofs.laws.packages_say_the_newest.Goals as goal

pub returns : goal.returns
returns c = record { lists = λ run id name file. lists_are id name run file; fixes = λ run id name. fixes_are id name run }
