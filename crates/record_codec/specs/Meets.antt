-- What a writer and a reader of the code answer.
use Rattle.std.specs.Prelude.{◌≡◌, ℕ, List, ◌++◌, Bool, true, false, Some, None, Result, Ok, Err}
use Rattle.record_codec.specs.declared.faults.EncodeFault.{EncodeFault}
use Rattle.record_codec.specs.declared.faults.EncodeFault.TheVariants as encode_fault
use Rattle.record_codec.specs.declared.faults.DecodeFault.{DecodeFault}
use Rattle.record_codec.specs.declared.faults.DecodeFault.TheVariants as decode_fault
use Rattle.record_codec.specs.Front.{Found}
use Rattle.record_codec.specs.Codec.{Codec}

-- a text is appended, which is to be if the test holds; or memory ran out
abbrev pub Appends : {T : Type 0} → Bool → List ℕ → List ℕ → List ℕ → Result T EncodeFault → Type 0
Appends fits text old new (Ok done) = (fits ≡ true) × (new ≡ old ++ text)
Appends fits text old new (Err encode_fault.Unrecordable) = fits ≡ false
Appends fits text old new (Err encode_fault.NoMemory) = Unit {0}

-- the spelling is appended; or the value has none, or memory ran out
abbrev pub Encodes : {A T : Type 0} → Codec A → A → List ℕ → List ℕ → Result T EncodeFault → Type 0
Encodes code x old new result = Appends (code.fits x) (code.spelling x) old new result

-- what is found at the front, and what is left; or nothing is found, or memory ran out
abbrev pub Decodes : {A : Type 0} → Found A → List ℕ → Result A DecodeFault → Type 0
Decodes found new (Ok x) = found ≡ Some (x, new)
Decodes found new (Err decode_fault.Malformed) = found ≡ None
Decodes found new (Err decode_fault.NoMemory) = Unit {0}

-- the same of bytes that are lent
module _ {L : Type 0} (now : L → List ℕ) where
  abbrev pub DecodesLent : Found (List ℕ) → List ℕ → Result L DecodeFault → Type 0
  DecodesLent found new (Ok x) = found ≡ Some (now x, new)
  DecodesLent found new (Err decode_fault.Malformed) = found ≡ None
  DecodesLent found new (Err decode_fault.NoMemory) = Unit {0}
