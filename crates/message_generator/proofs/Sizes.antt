-- How long the text of a value is at most.
use Rattle.std.proofs.Common.{◌+◌, ◌*◌, ◌/◌, ◌%◌, ◌≤◌, nat_lt, ℕ, Bool, true, false, cond, List, [], ◌∷◌, ◌++◌, length, arith, length-append}
use Rattle.json.specs.Print.{escape, escape_byte, escape_letter, quoted}
use Rattle.serde_json.specs.Data.{Data, null, boolean, number, string, array, object, Items, no_items, item, Members, no_members, member}
use Rattle.serde_json.specs.Written.{comma_if, compact_text, items_text, members_text, number_text}
use Rattle.std.specs.Char.{digit_char}

-- a bound on the text, by the lengths of its strings and numbers
abbrev mutual
  pub size : Data → ℕ
  size null = 4
  size (boolean b) = 5
  size (number n) = length (number_text n)
  size (string s) = 6 * length s + 2
  size (array ds) = items_size ds + 1
  size (object ms) = members_size ms + 1

  pub items_size : Items → ℕ
  items_size no_items = 1
  items_size (item d ds) = size d + items_size ds + 1

  pub members_size : Members → ℕ
  members_size no_members = 1
  members_size (member k d ms) = 6 * length k + size d + members_size ms + 4

length-cond : (b : Bool) (xs ys : List ℕ) → length xs ≤ 6 → length ys ≤ 6 → length (cond b xs ys) ≤ 6
length-cond true xs ys one other = one
length-cond false xs ys one other = other

escape_byte-within : (byte : ℕ) → length (escape_byte byte) ≤ 6
unfolding escape_byte
escape_byte-within byte =
    let long = 92 ∷ 117 ∷ 48 ∷ 48 ∷ digit_char (byte / 16) ∷ digit_char (byte % 16) ∷ [] in
    length-cond (nat_lt 0 (escape_letter byte)) (92 ∷ escape_letter byte ∷ []) (cond (nat_lt byte 32) long (byte ∷ [])) (omega arith)
    (length-cond (nat_lt byte 32) long (byte ∷ []) (omega arith) (omega arith))

escape-within : (text : List ℕ) → length (escape text) ≤ 6 * length text
escape-within [] = omega arith
escape-within (byte ∷ text) = omega (arith, length-append (escape_byte byte) (escape text), escape_byte-within byte, escape-within text)

pub quoted-within : (text : List ℕ) → length (quoted text) ≤ 6 * length text + 2
quoted-within text = omega (arith, length-append (escape text) (34 ∷ []), escape-within text)

comma-within : (later : Bool) → length (comma_if later) ≤ 1
comma-within true = omega arith
comma-within false = omega arith

mutual
  pub compact_text-within : (d : Data) → length (compact_text d) ≤ size d
  compact_text-within null = omega arith
  compact_text-within (boolean true) = omega arith
  compact_text-within (boolean false) = omega arith
  compact_text-within (number n) = omega arith
  compact_text-within (string s) = quoted-within s
  compact_text-within (array ds) = omega (arith, items_text-within false ds)
  compact_text-within (object ms) = omega (arith, members_text-within false ms)

  items_text-within : (later : Bool) (ds : Items) → length (items_text later ds) ≤ items_size ds
  items_text-within later no_items = omega arith
  items_text-within later (item d ds) =
      omega (
        arith,
        length-append (comma_if later) (compact_text d ++ items_text true ds),
        length-append (compact_text d) (items_text true ds),
        comma-within later,
        compact_text-within d,
        items_text-within true ds,
      )

  members_text-within : (later : Bool) (ms : Members) → length (members_text later ms) ≤ members_size ms
  members_text-within later no_members = omega arith
  members_text-within later (member k d ms) =
      omega (
        arith,
        length-append (comma_if later) (quoted k ++ 58 ∷ (compact_text d ++ members_text true ms)),
        length-append (quoted k) (58 ∷ (compact_text d ++ members_text true ms)),
        length-append (compact_text d) (members_text true ms),
        comma-within later,
        quoted-within k,
        compact_text-within d,
        members_text-within true ms,
      )
