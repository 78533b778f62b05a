use Rattle.std.proofs.Common.{subst, sym, drop}
use Rattle.text_core.specs.Whole.{Begins}
use Rattle.text_core.proofs.editing.begin.Goals as goal

pub returns-in-Some-clause-begins : goal.returns-in-Some-clause-begins
returns-in-Some-clause-begins c =
    subst (λ text. Begins c.args.limit c.args.file_contents.now c.args.changes.now.items text (drop c.in-Some.from c.whole_text.new.changes.items)) (sym c.into_string.ensures)
    (c.in-Some.ensures.begins c.args.file_contents.now)
