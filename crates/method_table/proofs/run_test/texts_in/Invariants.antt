use Rattle.std.proofs.Common.{◌≡◌, ◌++◌, drop, option_map}
use Rattle.serde_json.specs.View.{items_view}
use Rattle.method_table.specs.RunTest.{texts_in}
use Rattle.method_table.proofs.run_test.texts_in.Given as goal

abbrev pub invariant-loop-item : goal.invariant-loop-item
invariant-loop-item l = option_map (λ rest. l.texts ++ rest) (texts_in (items_view (drop l.item-index l.list))) ≡ texts_in (items_view l.list)
