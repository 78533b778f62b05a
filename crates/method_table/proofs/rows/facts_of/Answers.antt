use Rattle.std.proofs.Common.{arith, ◌∙◌, ap}
use Rattle.std.specs.Option.{option_map}
use Rattle.method_table.specs.Seen.{seen}
use Rattle.method_table.proofs.Tables.{facts_found, no_facts, lent}
use Rattle.method_table.proofs.rows.facts_of.Goals as goal

pub returns-then-row-eq0 : goal.returns-then-row-eq0
returns-then-row-eq0 c = no_facts c.args.row c.if-row-eq0.true

pub returns : goal.returns
returns c =
    let found = facts_found c.table.result.now c.table.ensures c.args.row c.from.result (omega (arith, c.from.ensures)) in
    lent c.args.row.0 c.at.result ∙ ap (option_map (seen c.args.row.0)) c.at.ensures ∙ found
