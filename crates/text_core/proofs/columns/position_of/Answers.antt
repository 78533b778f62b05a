use Rattle.std.proofs.Common.{refl, arith}
use Rattle.std.proofs.lemmas.Bool.{false≢true}
use Rattle.std.specs.Str.{IsCharBoundary}
use Rattle.text_core.proofs.PositionLemmas.{column_fits, found, lines_fit, position_found, split_whole}
use Rattle.text_core.proofs.columns.position_of.Goals as goal

pub returns-then-not-is_char_boundary-clause-some : goal.returns-then-not-is_char_boundary-clause-some
returns-then-not-is_char_boundary-clause-some c = (
  λ no. absurd (false≢true no),
  λ is. let yes = c.is_char_boundary.ensures.test.1 (split_whole c.args.text.now c.args.place c.utf8.text is) in cc,
)

pub overflow_sub-line : goal.overflow_sub-line
overflow_sub-line c =
    let is : IsCharBoundary c.args.text.now c.args.place = c.if-not-is_char_boundary.ensures.test.0 refl in
    let at = found c.args.text.now c.args.starts.now c.args.place c.starts_up_to-line.result is.0 c.requires.known c.starts_up_to-line.ensures.splits in
    omega (arith, at.counts)

pub bounds-starts-line : goal.bounds-starts-line
bounds-starts-line c =
    let is : IsCharBoundary c.args.text.now c.args.place = c.if-not-is_char_boundary.ensures.test.0 refl in
    let at = found c.args.text.now c.args.starts.now c.args.place c.starts_up_to-line.result is.0 c.requires.known c.starts_up_to-line.ensures.splits in
    at.within

pub slice_bounds-units_of-count : goal.slice_bounds-units_of-count
slice_bounds-units_of-count c =
    let is : IsCharBoundary c.args.text.now c.args.place = c.if-not-is_char_boundary.ensures.test.0 refl in
    let at = found c.args.text.now c.args.starts.now c.args.place c.starts_up_to-line.result is.0 c.requires.known c.starts_up_to-line.ensures.splits in
    at.low

pub slice_bounds-units_of-start : goal.slice_bounds-units_of-start
slice_bounds-units_of-start c =
    let is : IsCharBoundary c.args.text.now c.args.place = c.if-not-is_char_boundary.ensures.test.0 refl in
    let at = found c.args.text.now c.args.starts.now c.args.place c.starts_up_to-line.result is.0 c.requires.known c.starts_up_to-line.ensures.splits in
    omega (arith, at.low, is.0)

pub units_of-character-requires : goal.units_of-character-requires
units_of-character-requires c =
    column_fits c.args.encoding c.args.text.now c.as_bytes.result.now c.args.starts.now c.args.place c.starts_up_to-line.result c.as_bytes.ensures.value c.utf8.text c.requires.within

pub overflow_cast-result : goal.overflow_cast-result
overflow_cast-result c =
    let is : IsCharBoundary c.args.text.now c.args.place = c.if-not-is_char_boundary.ensures.test.0 refl in
    let at = found c.args.text.now c.args.starts.now c.args.place c.starts_up_to-line.result is.0 c.requires.known c.starts_up_to-line.ensures.splits in
    omega (arith, at.counts, lines_fit c.args.text.now c.args.place, c.requires.within, is.0)

pub returns-clause-value : goal.returns-clause-value
returns-clause-value c =
    let is : IsCharBoundary c.args.text.now c.args.place = c.if-not-is_char_boundary.ensures.test.0 refl in
    let at = found c.args.text.now c.args.starts.now c.args.place c.starts_up_to-line.result is.0 c.requires.known c.starts_up_to-line.ensures.splits in
    position_found c.args.encoding c.args.text.now c.as_bytes.result.now c.args.starts.now c.args.place c.starts_up_to-line.result _ c.as_bytes.ensures.value is.0 at c.units_of-character.ensures
