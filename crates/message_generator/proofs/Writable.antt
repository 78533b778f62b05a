-- The messages can be written.
use Rattle.std.proofs.Common.{ℕ, List, refl, arith}
use Rattle.lsp_frame.specs.Written.{IsWritable, value_depth}
use Rattle.message_generator.specs.Messages.{changed_params, hovered_params, opened_params}

pub opened_writable : (place : ℕ) (text : List ℕ) → IsWritable (opened_params place text)
unfolding value_depth
opened_writable place text = record { no_float = refl; nests = omega arith }

pub changed_writable : (place version column letter : ℕ) → IsWritable (changed_params place version column letter)
unfolding value_depth
changed_writable place version column letter = record { no_float = refl; nests = omega arith }

pub hovered_writable : (place : ℕ) → IsWritable (hovered_params place)
unfolding value_depth
hovered_writable place = record { no_float = refl; nests = omega arith }
