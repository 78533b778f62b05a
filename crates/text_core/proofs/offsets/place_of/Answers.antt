use Rattle.std.proofs.Common.{sym}
use Rattle.text_core.proofs.PlaceLemmas.{place-split}
use Rattle.text_core.proofs.offsets.place_of.Goals as goal

pub returns-in-Some-past_units-clause-split : goal.returns-in-Some-past_units-clause-split
returns-in-Some-past_units-clause-split c =
    let place = place-split c.args.encoding c.args.text.now c.args.position.line c.args.position.character c.in-Some.start c.in-Some.end c.in-Some-past_units.past c.utf8.text (sym c.in-Some.ensures.value) (cc) in
    (place.0, λ some. place.1)
