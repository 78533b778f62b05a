-- A plain value can be written.
use Rattle.std.proofs.Common.{◌≡◌, ◌≤◌, Bool, true, false, not, refl, sym, arith}
use Rattle.std.specs.Prelude.{nat_le}
use Rattle.std.proofs.lemmas.Bool.{and_parts, leb-true}
use Rattle.serde_json.specs.Data.{Data, depth}
use Rattle.serde_json.specs.Written.{has_float}
use Rattle.plain.specs.Plain.{is_plain, most_levels}
use Rattle.lsp_frame.specs.Written.{IsWritable, AreWritable, value_depth}
use Rattle.lsp_frame.specs.declared.message.Message.TheVariants.{Response as ResponseMessage}
use Rattle.lsp_frame.specs.declared.message.RequestId.{RequestId}
use Rattle.dispatch.specs.Responses.{response_with}

not_true : (b : Bool) → not b ≡ true → b ≡ false
not_true true e = sym e
not_true false e = refl

pub plain_writable : (d : Data) → is_plain d ≡ true → IsWritable d
unfolding most_levels value_depth
plain_writable d plain =
    let parts = and_parts (not (has_float d)) (nat_le (depth d) 120) plain in
    let le : depth d ≤ 120 = leb-true _ _ parts.1 in
    record { no_float = not_true (has_float d) parts.0; nests = omega arith }

pub value_writable : (id : RequestId) (d : Data) → is_plain d ≡ true → AreWritable (ResponseMessage (response_with id d))
value_writable id d plain = (plain_writable d plain, tt)
