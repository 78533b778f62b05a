-- Plain JSON reads as itself.
use Rattle.std.proofs.Common.{◌≡◌, ◌≤◌, nat_le, not, true, Some, refl, ap, ◌∙◌, arith}
use Rattle.std.proofs.lemmas.Bool.{leb-true}
use Rattle.serde_json.specs.Data.{Data, depth}
use Rattle.serde_json.specs.Read.{max_depth}
use Rattle.serde_json.specs.Written.{has_float, compact_text}
use Rattle.plain.specs.Plain.{is_plain, most_levels}
use Rattle.plain.specs.Reading.{read_body}
use Rattle.plain.specs.Same.{is_same_data, data_told}
use Rattle.record_codec.specs.Front.{and_right}
use Rattle.record_codec.specs.Spoken.{is_this, reads_back}

pub shallow : (d : Data) → is_plain d ≡ true → depth d ≤ max_depth
unfolding most_levels
shallow d p =
    let within : depth d ≤ 120 = leb-true (depth d) 120 (and_right (not (has_float d)) (nat_le (depth d) 120) p) in
    omega (arith, within)

pub reads_back_plain : (d : Data) → is_plain d ≡ true → (depth d ≤ max_depth → read_body (compact_text d) ≡ Some d)
    → reads_back compact_text read_body is_plain is_same_data data_told d ≡ true
reads_back_plain d p back = ap (is_this compact_text read_body is_plain is_same_data data_told d) (back (shallow d p)) ∙ (data_told d d).1 refl
