use Rattle.std.proofs.Common.{◌≡◌, refl, sym, arith, None, Some}
use Rattle.std.proofs.lemmas.Bool.{false≢true}
use Rattle.text_core.specs.Positions.{line_span}
use Rattle.text_core.proofs.StartLemmas.{starts-know, line-past, line-within}
use Rattle.text_core.proofs.text_index.TextIndex.line.Goals as goal

pub line_span-requires : goal.line_span-requires
line_span-requires c = λ line _. starts-know c.deref.result.now c.as_str.result.now (cc) line

pub returns-in-None-clause-none : goal.returns-in-None-clause-none
returns-in-None-clause-none c =
    let none : line_span c.args.line c.args.self.now ≡ None = cc in
    (λ _. line-past c.args.line c.args.self.now none, λ _. refl)

pub returns-in-Some-clause-none : goal.returns-in-Some-clause-none
returns-in-Some-clause-none c =
    let some : line_span c.args.line c.args.self.now ≡ Some (c.in-Some.start, c.in-Some.end) = cc in
    let within = line-within c.args.line c.args.self.now _ _ some in
    (λ no. absurd (false≢true (sym no)), λ past. absurd (omega arith))
