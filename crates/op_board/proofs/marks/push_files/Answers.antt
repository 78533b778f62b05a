use Rattle.std.proofs.Common.{◌≡◌, length, rules, ap, arith, ◌++◌}
use Rattle.std.proofs.lemmas.List.{length-map}
use Rattle.std.specs.FinMap as map
use Rattle.op_board.specs.Marked.{files_at}
use Rattle.op_board.proofs.marks.push_files.Goals as goal

pub loop-number-init : goal.loop-number-init
loop-number-init c =
    let is : c.into_iter-number-iterator.result ≡ map.keys c.args.files.now = search rules in
    record {
      list = ap (λ l. c.args.list.now.items ++ files_at l) is;
      room = omega (arith, c.requires, ap length is, length-map (map.entries c.args.files.now) (λ e. e.0), map.len-entries c.args.files.now);
    }
