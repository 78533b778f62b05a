-- A header that is one plain line with its size.
use Rattle.std.proofs.Common.{◌≡◌, ◌+◌, ◌<◌, ◌≤◌, ℕ, Bool, true, not, nat_eq, List, [], ◌∷◌, ◌++◌, Some, length, get_or, take, drop, refl, sym, ap, ◌∙◌, arith, lit<, length-append, length-drop, append_assoc, codes}
use Rattle.std.specs.Char.{is_ascii_digit, digit_value}
use Rattle.std.specs.List.{list_all}
use Rattle.std.specs.Str.Parse.{AllDigits, digits_value}
use Rattle.std.proofs.Math.ListN.{get_or-append}
use Rattle.std.proofs.Math.Seq.{take-append_seam}
use Rattle.std.proofs.lemmas.Bool.{and_from, false≢true}
use Rattle.std.proofs.lemmas.Bool.Decides.{nat_tests}
use Rattle.std.proofs.lemmas.List.{get_or-append-add, get_or-take, get_or-drop, length-take-le, take-append-drop, drop-drop, ext_get_or}
use Rattle.std.proofs.lemmas.List.Folds.{list_all-append, list_all_at}
use Rattle.memchr.specs.Find.{OccursAt, Nowhere}
use Rattle.lsp_frame.specs.declared.frame.Head.{Head}
use Rattle.lsp_frame.specs.declared.frame.Head.TheVariants.{Open, Body}
use Rattle.lsp_frame.specs.Find.{place_of}
use Rattle.lsp_frame.specs.Header.{is_field, is_length, is_value_byte, value_of, size_of, size_in, sizes, only_size, body_size, lines_of}
use Rattle.lsp_frame.specs.Frames.{empty_line, sized, head_of}
use Rattle.lsp_frame.proofs.Lines.{lines_of-one}
use Rattle.lsp_frame.proofs.Places.{place_found}
use Rattle.lsp_frame.proofs.Sizes.{size_of-some}
use Rattle.lsp_frame.proofs.Cuts.{window-short, head_some, head_more}

-- digits that write a size
pub record WriteSize (digits : List ℕ) : Type 0 where
  pub some : 1 ≤ length digits
  pub ten : length digits ≤ 10
  pub all : AllDigits 10 digits
  pub limit : digits_value 10 digits ≤ 67108864

-- a byte that is no CR
abbrev is_no_cr : ℕ → Bool
is_no_cr b = not (nat_eq b 13)

digit_code : (b : ℕ) → digit_value b < 10 → is_ascii_digit b ≡ true
digit_code b h = grind (arith, nat_tests)

digit_no_cr : (b : ℕ) → digit_value b < 10 → is_no_cr b ≡ true
digit_no_cr b h = grind (arith, nat_tests)

digit_value_byte : (b : ℕ) → digit_value b < 10 → is_value_byte b ≡ true
digit_value_byte b h = grind (arith, nat_tests)

digits_pass : (test : ℕ → Bool) → ((b : ℕ) → digit_value b < 10 → test b ≡ true) → (bytes : List ℕ) → AllDigits 10 bytes → list_all test bytes ≡ true
digits_pass test each [] all = refl
digits_pass test each (b ∷ bytes) all = and_from _ _ (each b all.0) (digits_pass test each bytes all.1)

-- the block of such a header
abbrev pub plain_block : List ℕ → List ℕ
plain_block digits = codes "Content-Length: " ++ digits

block_no_cr : (digits : List ℕ) → AllDigits 10 digits → list_all is_no_cr (plain_block digits) ≡ true
block_no_cr digits all = list_all-append is_no_cr (codes "Content-Length: ") digits ∙ digits_pass is_no_cr digit_no_cr digits all

no_cr_at : (bytes : List ℕ) → list_all is_no_cr bytes ≡ true → (k : ℕ) → k < length bytes → get_or bytes k 0 ≡ 13 → ⊥
no_cr_at bytes all k lt is = false≢true (sym (list_all_at is_no_cr bytes k 0 lt (rw is refl)) ∙ all)

length_block : (digits : List ℕ) → length (plain_block digits) ≡ 16 + length digits
length_block digits = length-append (codes "Content-Length: ") digits

one_line : (bytes : List ℕ) → list_all is_no_cr bytes ≡ true → lines_of bytes ≡ bytes ∷ []
one_line bytes all = lines_of-one bytes (λ k occurs. no_cr_at bytes all k (omega (arith, occurs.fits)) (ap (λ i. get_or bytes i 0) (omega arith) ∙ occurs.reads 0 (lit< tt)))

block_place : (bytes : List ℕ) → list_all is_no_cr bytes ≡ true → place_of empty_line (bytes ++ empty_line) ≡ Some (length bytes)
block_place bytes all = sym (place_found (bytes ++ empty_line) empty_line (Some (length bytes)) (lit< tt) (
  record { low = omega arith; high = omega (arith, length-append bytes empty_line); before = before },
  record { fits = omega (arith, length-append bytes empty_line); reads = λ j lt. get_or-append-add bytes empty_line j 0 },
))
  where
    before : Nowhere (OccursAt (bytes ++ empty_line) empty_line) 0 (length bytes)
    before j low lt occurs = let e : j ≡ j + 0 = omega arith in
        no_cr_at bytes all j lt (sym (get_or-append bytes empty_line 0 j lt) ∙ ap (λ i. get_or (bytes ++ empty_line) i 0) e ∙ occurs.reads 0 (lit< tt))

size_plain : (digits : List ℕ) → WriteSize digits → size_of digits ≡ Some (digits_value 10 digits)
size_plain digits h = size_of-some digits h.some h.ten (digits_pass is_ascii_digit digit_code digits h.all) h.limit

one_size : (line : List ℕ) (size : ℕ) → is_field line ≡ true → is_length line ≡ true → size_of (value_of line) ≡ Some size → size_in (line ∷ []) ≡ Some size
unfolding size_in sizes only_size
one_size line size field named is = rw (field, named, is) refl

field_plain : (digits : List ℕ) → AllDigits 10 digits → is_field (plain_block digits) ≡ true
unfolding is_field
field_plain digits all = digits_pass is_value_byte digit_value_byte digits all

length_plain : (digits : List ℕ) → is_length (plain_block digits) ≡ true
unfolding is_length
length_plain digits = refl

body_size_plain : (digits : List ℕ) → WriteSize digits → body_size (plain_block digits) ≡ Some (digits_value 10 digits)
unfolding body_size
body_size_plain digits h =
    let block = plain_block digits in
    ap size_in (one_line block (block_no_cr digits h.all)) ∙ one_size block (digits_value 10 digits) (field_plain digits h.all) (length_plain digits) (size_plain digits h)

-- what such a header says
abbrev pub plain_says : List ℕ → Head
plain_says digits = Body (16 + length digits + 4) (16 + length digits + 4 + digits_value 10 digits)

pub head_plain : (digits : List ℕ) → WriteSize digits → head_of (plain_block digits ++ empty_line) ≡ plain_says digits
head_plain digits h =
    let block = plain_block digits in
    let len = length_block digits in
    head_some (block ++ empty_line) (length block) (ap (place_of empty_line) (window-short (block ++ empty_line) (omega (arith, h.ten, len, length-append block empty_line))) ∙ block_place block (block_no_cr digits h.all))
    ∙ ap (λ b. sized (length block + 4) (body_size b)) (take-append_seam block empty_line)
    ∙ ap (sized (length block + 4)) (body_size_plain digits h)
    ∙ ap (λ n. Body (n + 4) (n + 4 + digits_value 10 digits)) len

pub body_not_open : (start end : ℕ) → Body start end ≡ Open → ⊥
body_not_open start end e = cc

-- the same, whatever follows
head_plain-more : (digits more : List ℕ) → WriteSize digits → head_of (plain_block digits ++ empty_line ++ more) ≡ plain_says digits
head_plain-more digits more h =
    let head = head_plain digits h in
    head_more (plain_block digits ++ empty_line) more (λ e. body_not_open _ _ (sym head ∙ e)) ∙ head

-- an empty line at a place is a part there
empty_line_there : (bytes : List ℕ) (k : ℕ) → OccursAt bytes empty_line k → drop k bytes ≡ empty_line ++ drop (k + 4) bytes
empty_line_there bytes k occurs =
    let four : 4 ≤ length (drop k bytes) = omega (arith, occurs.fits, length-drop k bytes) in
    let len : length (take 4 (drop k bytes)) ≡ 4 = length-take-le 4 (drop k bytes) four in
    let is : take 4 (drop k bytes) ≡ empty_line = ext_get_or 0 _ _ len (λ i lt. get_or-take 4 (drop k bytes) i 0 (omega arith) ∙ get_or-drop k bytes i 0 ∙ occurs.reads i (omega arith)) in
    sym (take-append-drop 4 (drop k bytes)) ∙ ap (λ (xs : List ℕ). xs ++ drop 4 (drop k bytes)) is ∙ ap (λ (xs : List ℕ). empty_line ++ xs) (drop-drop 4 k bytes)

-- bytes that begin with such a header: behind the name so many digits, and an empty line
pub head_plain-at : (bytes rest : List ℕ) (count : ℕ) → bytes ≡ codes "Content-Length: " ++ rest → count ≤ length rest → WriteSize (take count rest) → OccursAt rest empty_line count
    → Body (16 + count + 4) (16 + count + 4 + digits_value 10 (take count rest)) ≡ head_of bytes
head_plain-at bytes rest count begins within h occurs =
    let digits = take count rest in
    let more = drop (count + 4) rest in
    let name = codes "Content-Length: " in
    let parts : rest ≡ digits ++ (empty_line ++ more) = sym (take-append-drop count rest) ∙ ap (λ (xs : List ℕ). digits ++ xs) (empty_line_there rest count occurs) in
    let whole : bytes ≡ plain_block digits ++ empty_line ++ more =
    begins ∙ ap (λ (xs : List ℕ). name ++ xs) parts ∙ sym (append_assoc name digits (empty_line ++ more)) ∙ sym (append_assoc (plain_block digits) empty_line more) in
    let len : length digits ≡ count = length-take-le count rest within in
    sym (ap head_of whole ∙ head_plain-more digits more h ∙ ap (λ n. Body (16 + n + 4) (16 + n + 4 + digits_value 10 digits)) len)
