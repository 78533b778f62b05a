use Rattle.std.proofs.Common.{◌≡◌, arith, length}
use Rattle.std.proofs.lemmas.Grind.{common_steps}
use Rattle.text_core.specs.Starts.{line_starts}
use Rattle.text_core.proofs.StartLemmas.{length-line_starts}
use Rattle.text_core.proofs.text_index.TextIndex.lines.Goals as goal

pub returns : goal.returns
returns c =
    let count = length-line_starts c.args.self.now in
    let same : length c.self.inside.starts.items ≡ length (line_starts c.args.self.now) = cc in
    grind (arith, common_steps)
