-- The messages of a document read as what they are, and are short.
use Rattle.std.proofs.Common.{◌≡◌, ◌^◌, ◌<◌, ◌≤◌, ℕ, pos, true, List, [], ◌∷◌, ◌++◌, length, nat_lt, nat_le, Option, None, Some, option_map, option_and_then, codes, decimal, IsAscii, refl, ap, ◌∙◌, arith, length-append}
use Rattle.std.proofs.lemmas.Bool.{and_parts, cond-true, le-leb, lt-ltb, ltb-true}
use Rattle.std.proofs.lemmas.Str.{IsAscii-append, IsUtf8-append, IsUtf8-from_ascii}
use Rattle.std.proofs.lemmas.Str.Ascii.{IsAscii-cons, IsAscii-nil}
use Rattle.std.proofs.lemmas.Fmt.{IsAscii-decimal, length-decimal-le}
use Rattle.json.proofs.Printed.Utf8.{are_ascii, IsUtf8-are_ascii, IsUtf8-quoted}
use Rattle.serde_json.specs.Data.{Data, Items, null, number, unsigned, string, array, object, no_items, item}
use Rattle.serde_json.specs.Written.{compact_text}
use Rattle.plain.specs.Reading.{as_i32, fit_i32}
use Rattle.lsp_frame.specs.Exact.{IsExact}
use Rattle.lsp_frame.specs.Header.{size_limit}
use Rattle.lsp_frame.specs.Rules.{data_message, message_of}
use Rattle.lsp_frame.specs.Written.{AreWritable, body_of, data_of, params_data}
use Rattle.lsp_frame.specs.declared.message.RequestId.TheVariants.{Number}
use Rattle.lsp_frame.proofs.Bodies.{body_nests, IsWritable-null}
use Rattle.lsp_frame.proofs.Exact.{IsExact-object, exact_reads}
use Rattle.lsp_frame.proofs.Integers.{integer_exact}
use Rattle.lsp_frame.proofs.Texts.{asking_exact, asking_reads, notice_exact, notice_reads}
use Rattle.message_generator.specs.Drafts.{IsPlainLine, column_of, letter_of, text_of}
use Rattle.message_generator.specs.Messages.{changed, changed_params, exits, hovered, hovered_params, notifies, opened, opened_params, uri_of, change_value, versioned, column_at, range_at}
use Rattle.lsp_types.specs.Values.{position_value, range_value}
use Rattle.message_generator.specs.Stream.{IsReadable}
use Rattle.message_generator.specs.declared.draft.Draft.{Draft}
use Rattle.message_generator.proofs.Lines.{column_within, letter_within}
use Rattle.message_generator.proofs.Sizes.{compact_text-within}
use Rattle.message_generator.proofs.Writable.{changed_writable, hovered_writable, opened_writable}

ascii : (text : List ℕ) → are_ascii text ≡ true → IsAscii text
ascii [] e = IsAscii-nil
ascii (byte ∷ text) e = let p = and_parts _ _ e in IsAscii-cons byte text (ltb-true _ _ p.0) (ascii text p.1)

string_exact : (text : List ℕ) → IsAscii text → IsExact (string text)
string_exact text ascii = record { numbers = tt; reads = refl; utf8 = IsUtf8-quoted text (IsUtf8-from_ascii text ascii) }

number_exact : (n : ℕ) → n < 2 ^ 31 → IsExact (number (unsigned n))
number_exact n within = integer_exact (pos n) (record { sfits = omega arith })

uri_ascii : (place : ℕ) → place < 65536 → IsAscii (uri_of place)
uri_ascii place within = IsAscii-append (codes "file:///w/g") _ (ascii (codes "file:///w/g") refl) (IsAscii-append (decimal place) (codes ".rs") (IsAscii-decimal place (omega arith)) (ascii (codes ".rs") refl))

text_ascii : (draft : Draft) → IsAscii draft.line → IsAscii (text_of draft)
text_ascii draft plain = IsAscii-append draft.line (10 ∷ []) plain (ascii (10 ∷ []) refl)

-- a notification whose params are exact
notice_readable : (method : List ℕ) (params : Data) → IsAscii method → params_data params ≡ Some params → IsExact params
    → AreWritable (notifies method params) → message_of (body_of (notifies method params)) ≡ Some (notifies method params)
unfolding message_of body_of data_of
notice_readable method params plain some exact writable =
    let whole = notice_exact method (params_data params) (string_exact method plain) (rw some exact) in
    ap (option_and_then data_message) (exact_reads (data_of (notifies method params)) whole (body_nests (notifies method params) writable))
    ∙ notice_reads method params

versioned_exact : (place version : ℕ) → place < 65536 → version < 2 ^ 31 → IsExact (object (versioned place version))
versioned_exact place version one two = IsExact-object _ (IsUtf8-are_ascii _ refl, string_exact (uri_of place) (uri_ascii place one), (IsUtf8-are_ascii _ refl, number_exact version two, tt)) refl

opened_exact : (place : ℕ) (text : List ℕ) → place < 65536 → IsAscii text → IsExact (opened_params place text)
opened_exact place text within plain =
    IsExact-object _ (
      IsUtf8-are_ascii _ refl,
      IsExact-object _ (
        IsUtf8-are_ascii _ refl,
        string_exact (codes "rust") (ascii (codes "rust") refl),
        (
          IsUtf8-are_ascii _ refl,
          string_exact text plain,
          (
            IsUtf8-are_ascii _ refl,
            string_exact (uri_of place) (uri_ascii place within),
            (IsUtf8-are_ascii _ refl, number_exact 1 (omega arith), tt),
          ),
        ),
      ) refl,
      tt,
    ) refl

position_exact : (column : ℕ) → column < 2 ^ 31 → IsExact (position_value (column_at column))
position_exact column within =
    IsExact-object _ (IsUtf8-are_ascii _ refl, number_exact column within, (IsUtf8-are_ascii _ refl, number_exact 0 (omega arith), tt)) refl

range_exact : (column : ℕ) → column < 2 ^ 31 → IsExact (range_value (range_at column))
range_exact column within =
    IsExact-object _ (IsUtf8-are_ascii _ refl, position_exact column within, (IsUtf8-are_ascii _ refl, position_exact column within, tt)) refl

change_exact : (column letter : ℕ) → column < 2 ^ 31 → letter < 128 → IsExact (change_value column letter)
change_exact column letter one two =
    IsExact-object _ (
      IsUtf8-are_ascii _ refl,
      range_exact column one,
      (IsUtf8-are_ascii _ refl, string_exact (letter ∷ []) (IsAscii-cons letter [] two IsAscii-nil), tt),
    ) refl

-- a list of one exact value
alone_exact : (d : Data) → IsExact d → IsExact (array (item d no_items))
alone_exact d exact = record {
  numbers = (exact.numbers, tt);
  reads = ap (λ (o : Option Data). option_map array (option_and_then (λ (x : Data). option_map (λ (xs : Items). item x xs) (Some no_items)) o)) exact.reads;
  utf8 = IsUtf8-append (91 ∷ []) _ (IsUtf8-are_ascii (91 ∷ []) refl) (IsUtf8-append (compact_text d) (93 ∷ []) exact.utf8 (IsUtf8-are_ascii (93 ∷ []) refl));
}

number_fits : (n : ℕ) → n < 2 ^ 31 → as_i32 (number (unsigned n)) ≡ Some (pos n)
number_fits n within =
    ap (option_and_then fit_i32) (cond-true (nat_lt n (2 ^ 63)) (Some (pos n)) None (lt-ltb n (2 ^ 63) (omega arith)))
    ∙ cond-true (nat_le n 2147483647) (Some (pos n)) None (le-leb n 2147483647 (omega arith))

changed_exact : (place version column letter : ℕ) → place < 65536 → version < 2 ^ 31 → column < 2 ^ 31 → letter < 128
    → IsExact (changed_params place version column letter)
changed_exact place version column letter one two three four =
    IsExact-object _ (
      IsUtf8-are_ascii _ refl,
      alone_exact (change_value column letter) (change_exact column letter three four),
      (IsUtf8-are_ascii _ refl, versioned_exact place version one two, tt),
    ) refl

hovered_exact : (place : ℕ) → place < 65536 → IsExact (hovered_params place)
hovered_exact place within =
    IsExact-object _ (
      IsUtf8-are_ascii _ refl,
      position_exact 3 (omega arith),
      (IsUtf8-are_ascii _ refl, IsExact-object _ (IsUtf8-are_ascii _ refl, string_exact (uri_of place) (uri_ascii place within), tt) refl, tt),
    ) refl

-- ---- how long they are

length-uri : (place : ℕ) → place < 65536 → length (uri_of place) ≤ 20
length-uri place within =
    omega (arith, length-append (codes "file:///w/g") (decimal place ++ codes ".rs"), length-append (decimal place) (codes ".rs"), length-decimal-le 5 place (omega arith) (omega arith) (omega arith))

length-digits : (n : ℕ) → n < 2 ^ 31 → length (decimal n) ≤ 10
length-digits n within = length-decimal-le 10 n (omega arith) (omega arith) (omega arith)

opened_short : (place : ℕ) (draft : Draft) → place < 65536 → length draft.line ≤ 26 → length (body_of (opened place draft)) ≤ size_limit
unfolding body_of data_of
opened_short place draft within short =
    omega (arith, compact_text-within (data_of (opened place draft)), length-uri place within, length-append draft.line (10 ∷ []), length-digits 1 (omega arith))

changed_short : (place version : ℕ) (draft : Draft) → place < 65536 → version < 2 ^ 31 → length draft.line ≤ 26
    → length (body_of (changed place version draft)) ≤ size_limit
unfolding body_of data_of
changed_short place version draft within later short =
    omega (
      arith,
      compact_text-within (data_of (changed place version draft)),
      length-uri place within,
      length-digits version later,
      length-digits (column_of draft) (omega (arith, column_within draft)),
      length-digits 0 (omega arith),
    )

hovered_short : (place : ℕ) → place < 65536 → length (body_of (hovered place)) ≤ size_limit
unfolding body_of data_of
hovered_short place within =
    omega (arith, compact_text-within (data_of (hovered place)), length-uri place within, length-digits place (omega arith), length-digits 0 (omega arith), length-digits 3 (omega arith))

exits_short : length (body_of exits) ≤ size_limit
unfolding body_of data_of
exits_short = omega (arith, compact_text-within (data_of exits))

-- ---- each message

pub opened_readable : (place : ℕ) (draft : Draft) → place < 65536 → IsPlainLine 26 draft.line → IsReadable (opened place draft)
opened_readable place draft within plain = record {
  read = notice_readable (codes "textDocument/didOpen") (opened_params place (text_of draft)) (ascii (codes "textDocument/didOpen") refl) refl
      (opened_exact place (text_of draft) within (text_ascii draft plain.ascii)) (opened_writable place (text_of draft));
  short = opened_short place draft within plain.short;
}

pub changed_readable : (place version : ℕ) (draft : Draft) → place < 65536 → version < 2 ^ 31 → IsPlainLine 26 draft.line
    → IsReadable (changed place version draft)
changed_readable place version draft within later plain = record {
  read = notice_readable (codes "textDocument/didChange") (changed_params place version (column_of draft) (letter_of draft)) (ascii (codes "textDocument/didChange") refl) refl
      (changed_exact place version (column_of draft) (letter_of draft) within later (omega (arith, column_within draft, plain.short)) (letter_within draft))
      (changed_writable place version (column_of draft) (letter_of draft));
  short = changed_short place version draft within later plain.short;
}

pub hovered_readable : (place : ℕ) → place < 65536 → IsReadable (hovered place)
unfolding message_of body_of data_of
hovered_readable place within =
    let params = hovered_params place in
    let method = codes "textDocument/hover" in
    let id = Number (pos place) in
    let whole = asking_exact (number (unsigned place)) method (Some params) (number_exact place (omega arith)) (string_exact method (ascii (codes "textDocument/hover") refl)) (hovered_exact place within) in
    record {
      read = ap (option_and_then data_message) (exact_reads (data_of (hovered place)) whole (body_nests (hovered place) (hovered_writable place)))
          ∙ asking_reads id method params (ap (option_map Number) (number_fits place (omega arith)));
      short = hovered_short place within;
    }

pub exits_readable : IsReadable exits
unfolding message_of body_of data_of
exits_readable =
    let whole = notice_exact (codes "exit") None (string_exact (codes "exit") (ascii (codes "exit") refl)) tt in
    record {
      read = ap (option_and_then data_message) (exact_reads (data_of exits) whole (body_nests exits IsWritable-null)) ∙ notice_reads (codes "exit") null;
      short = exits_short;
    }
