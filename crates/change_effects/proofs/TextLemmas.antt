-- The texts that bytes are.
use Rattle.std.proofs.Common.{◌≡◌, ◌≤◌, ◌<◌, ◌^◌, ℕ, List, Bool, true, false, length, refl, sym, ap, ◌∙◌}
use Rattle.std.specs.Prelude.{Option, None, Some, nat_le, ◌&&◌, if◌then◌else◌}
use Rattle.std.specs.Str.{is_utf8}
use Rattle.std.proofs.lemmas.Bool.{cond-true, cond-false, le-leb, lt-leb}
use Rattle.std.proofs.lemmas.Option.{same_Some}
use Rattle.text_core.specs.LineEnds.{normalized}
use Rattle.change_effects.specs.Filing.{is_text, text_in, text_limit}

text_true : (bytes : List ℕ) → is_utf8 bytes ≡ true → length bytes ≤ text_limit → is_text bytes ≡ true
text_true bytes utf8 within = ap (λ b. b && nat_le (length bytes) text_limit) utf8 ∙ le-leb (length bytes) text_limit within

and_false : (a b : Bool) → b ≡ false → (a && b) ≡ false
and_false true b is = is
and_false false b is = refl

pub long_text : (bytes : List ℕ) → text_limit < length bytes → text_in (Some bytes) ≡ None
long_text bytes long = cond-false _ _ _ (and_false (is_utf8 bytes) (nat_le (length bytes) text_limit) (lt-leb (length bytes) text_limit long))

-- bytes that are UTF-8
abbrev utf8_in : List ℕ → Option (List ℕ)
utf8_in bytes = if is_utf8 bytes then Some bytes else None

text_by : (bytes text : List ℕ) (b : Bool) → is_utf8 bytes ≡ b → Some text ≡ (if b then Some bytes else None) → (b ≡ true) × (text ≡ bytes)
text_by bytes text true is found = (refl, same_Some _ _ found)
text_by bytes text false is found = absurd cc

other_by : (bytes : List ℕ) (b : Bool) → is_utf8 bytes ≡ b → None ≡ (if b then Some bytes else None) → b ≡ false
other_by bytes true is found = absurd cc
other_by bytes false is found = refl

pub utf8_text : (bytes text made : List ℕ) → length bytes ≤ text_limit → Some text ≡ utf8_in bytes → made ≡ normalized text → Some made ≡ text_in (Some bytes)
utf8_text bytes text made within found is =
    let here = text_by bytes text (is_utf8 bytes) refl found in
    ap Some (is ∙ ap normalized here.1) ∙ sym (cond-true _ _ _ (text_true bytes here.0 within))

pub other_text : (bytes : List ℕ) → None ≡ utf8_in bytes → text_in (Some bytes) ≡ None
other_text bytes found = cond-false _ _ _ (ap (λ b. b && nat_le (length bytes) text_limit) (other_by bytes (is_utf8 bytes) refl found))

pub ruleset bytes_texts = (long_text, utf8_text, other_text)
