-- The lines of documents while they are edited.
use Rattle.std.proofs.Common.{◌≡◌, ◌+◌, ◌<◌, ◌≤◌, ℕ, zero, suc, List, [], ◌∷◌, ◌++◌, length, take, drop, codes, decimal, IsAscii, arith, length-append, length-drop}
use Rattle.std.specs.List.{insert_slice}
use Rattle.std.proofs.lemmas.List.{length-take}
use Rattle.std.proofs.lemmas.Str.{IsAscii-append, IsAscii-drop, IsAscii-take}
use Rattle.std.proofs.lemmas.Str.Ascii.{IsAscii-cons, IsAscii-nil}
use Rattle.std.proofs.lemmas.Fmt.{IsAscii-decimal, length-decimal-le}
use Rattle.std.specs.String.Boundary.{IsSplitPoint}
use Rattle.message_generator.specs.Drafts.{IsPlainLine, column_of, letter_of, edited, edited_times, first_line}
use Rattle.message_generator.specs.declared.draft.Draft.{Draft}

pub column_within : (draft : Draft) → column_of draft ≤ length draft.line
unfolding column_of
column_within draft = omega arith

pub letter_within : (draft : Draft) → letter_of draft < 128
unfolding letter_of
letter_within draft = omega arith

pub ascii_split : (line : List ℕ) (column : ℕ) → IsAscii line → column ≤ length line → IsSplitPoint line column
ascii_split line column ascii within = (within, λ some more high. let low = ascii column in absurd (omega arith))

length-inserted : (line : List ℕ) (column letter : ℕ) → column ≤ length line → length (insert_slice line column (letter ∷ [])) ≡ length line + 1
length-inserted line column letter within =
    omega (arith, length-append (take column line ++ letter ∷ []) (drop column line), length-append (take column line) (letter ∷ []), length-take column line, length-drop column line)

pub edited_plain : (most : ℕ) (draft : Draft) → IsPlainLine most draft.line → IsPlainLine (most + 1) (edited draft).line
edited_plain most draft plain = record {
  ascii = IsAscii-append (take (column_of draft) draft.line ++ letter_of draft ∷ []) (drop (column_of draft) draft.line)
      (IsAscii-append (take (column_of draft) draft.line) (letter_of draft ∷ []) (IsAscii-take draft.line (column_of draft) plain.ascii) (IsAscii-cons (letter_of draft) [] (letter_within draft) IsAscii-nil))
      (IsAscii-drop draft.line (column_of draft) plain.ascii);
  short = omega (arith, length-inserted draft.line (column_of draft) (letter_of draft) (column_within draft), plain.short);
}

pub edited_times_plain : (count most : ℕ) (draft : Draft) → IsPlainLine most draft.line → IsPlainLine (most + count) (edited_times count draft).line
unfolding edited_times
edited_times_plain zero most draft plain = record { ascii = plain.ascii; short = omega (arith, plain.short) }
edited_times_plain (suc count) most draft plain =
    let one = edited_plain (most + count) (edited_times count draft) (edited_times_plain count most draft plain) in
    record { ascii = one.ascii; short = omega (arith, one.short) }

pub first_plain : (place : ℕ) → place < 65536 → IsPlainLine 16 (first_line place)
first_plain place within = record {
  ascii = IsAscii-append (codes "fn g") _ (λ i. search arith) (IsAscii-append (decimal place) (codes "() {}") (IsAscii-decimal place (omega arith)) (λ i. search arith));
  short = omega (arith, length-append (codes "fn g") (decimal place ++ codes "() {}"), length-append (decimal place) (codes "() {}"), length-decimal-le 5 place (omega arith) (omega arith) (omega arith));
}

pub plain_within : (most more : ℕ) (line : List ℕ) → most ≤ more → IsPlainLine most line → IsPlainLine more line
plain_within most more line within plain = record { ascii = plain.ascii; short = omega (arith, plain.short) }
