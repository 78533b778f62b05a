use Rattle.std.proofs.Common.{◌≡◌, ◌≤◌, ◌++◌, ℕ, List, false, Some, arith, sym, ap, subst, ◌∙◌, append_assoc}
use Rattle.std.specs.Prelude.{IsUtf8}
use Rattle.serde_json.specs.Data.{Data, depth}
use Rattle.serde_json.specs.Read.{read, max_depth}
use Rattle.serde_json.specs.View.{view}
use Rattle.serde_json.specs.Written.{has_float, compact_text, IsInOrder}
use Rattle.lsp_frame.specs.Exact.{IsExact}
use Rattle.lsp_frame.specs.Written.{IsWritable, value_depth}
use Rattle.lsp_frame.proofs.Exact.{IsExact-written}
use Rattle.lsp_frame.proofs.encoding.write_value.Goals as goal

-- a value that can be written, and what its writer says of the text
written : (text : List ℕ) (d : Data) → IsWritable d → (has_float d ≡ false → text ≡ compact_text d) → IsUtf8 text → IsInOrder text d → (depth d ≤ max_depth → read text ≡ Some d) → IsExact d
unfolding value_depth
written text d h is utf8 order reads =
    let nests : depth d ≤ max_depth = omega (arith, h.nests) in
    IsExact-written text d (is h.no_float) utf8 order h.no_float nests (reads nests)

pub returns-clause-exact : goal.returns-clause-exact
returns-clause-exact c =
    let told = c.in_ok-text.ensures in
    let seen : IsWritable (view c.as_value.result.now) = subst IsWritable (sym c.as_value.ensures) c.requires in
    subst IsExact c.as_value.ensures (written c.in_ok-text.text.items (view c.as_value.result.now) seen told.text told.utf8 told.order told.reads_back)

pub returns-clause-text : goal.returns-clause-text
returns-clause-text c =
    let is = c.in_ok-text.ensures.text (ap has_float c.as_value.ensures ∙ c.requires.no_float) ∙ ap compact_text c.as_value.ensures in
    c.in_ok-push.ensures
    ∙ ap (λ s. s ++ c.in_ok-text.text.items) c.in_ok-extend_from_slice.ensures
    ∙ append_assoc c.args.into.now c.args.before.now c.in_ok-text.text.items
    ∙ ap (λ s. c.args.into.now ++ (c.args.before.now ++ s)) is
