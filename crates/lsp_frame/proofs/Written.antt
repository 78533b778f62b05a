-- A written header is a header.
use Rattle.std.proofs.Common.{◌≡◌, ◌+◌, ◌-◌, ◌≤◌, ℕ, List, [], ◌++◌, length, take, drop, sym, ap, ◌∙◌, arith, lit<, length-append, append_assoc, codes}
use Rattle.std.specs.Prelude.{decimal}
use Rattle.std.specs.Str.Parse.{digits_value}
use Rattle.std.proofs.Math.Seq.{drop-append_seam}
use Rattle.std.proofs.lemmas.List.{append-nil, take_all, drop_all}
use Rattle.std.proofs.lemmas.Fmt.{decimal_is_IsNumeral, length-decimal-le}
use Rattle.lsp_frame.specs.declared.frame.Cut.TheVariants.{Frame}
use Rattle.lsp_frame.specs.declared.frame.Head.TheVariants.{Body}
use Rattle.lsp_frame.specs.Frames.{empty_line, head_of, cut_of, frame, frames_from}
use Rattle.lsp_frame.specs.Written.{header_for, frame_for}
use Rattle.lsp_frame.proofs.Cuts.{head_more}
use Rattle.lsp_frame.proofs.Turns.{cut_whole}
use Rattle.lsp_frame.proofs.Streams.{frames_given}
use Rattle.lsp_frame.proofs.Plain.{WriteSize, plain_block, head_plain, body_not_open}

-- the digits of a size
size_digits : (size : ℕ) → size ≤ 67108864 → WriteSize (decimal size) × (digits_value 10 (decimal size) ≡ size)
size_digits size le = let numeral = decimal_is_IsNumeral size (omega arith) in (
  record {
    some = numeral.0.0;
    ten = length-decimal-le 10 size (lit< tt) (omega arith) (omega arith);
    all = numeral.0.1;
    limit = omega (arith, numeral.1);
  },
  numeral.1,
)

head_written : (size : ℕ) → size ≤ 67108864 → head_of (header_for size) ≡ Body (length (header_for size)) (length (header_for size) + size)
unfolding header_for
head_written size le =
    let block = plain_block (decimal size) in
    let digits = size_digits size le in
    let len : length (block ++ empty_line) ≡ 16 + length (decimal size) + 4 = length-append block empty_line ∙ ap (λ n. n + 4) (length-append (codes "Content-Length: ") (decimal size)) in
    head_plain (decimal size) digits.0
    ∙ ap (λ n. Body (16 + length (decimal size) + 4) (16 + length (decimal size) + 4 + n)) digits.1
    ∙ ap (λ n. Body n (n + size)) (sym len)

-- a written frame is cut as it was written, whatever follows
pub cut_written : (body more : List ℕ) → length body ≤ 67108864 → cut_of (frame_for body ++ more) ≡ Frame (length (header_for (length body))) (length (frame_for body))
cut_written body more le =
    let header = header_for (length body) in
    let head = head_written (length body) le in
    let whole : frame_for body ++ more ≡ header ++ (body ++ more) = append_assoc header body more in
    let len : length (frame_for body) ≡ length header + length body = length-append header body in
    rw len (cut_whole (frame_for body ++ more) (length header) (length header + length body)
    (sym (ap head_of whole ∙ head_more header (body ++ more) (λ e. body_not_open _ _ (sym head ∙ e)) ∙ head))
    (omega (arith, length-append (frame_for body) more)))

pub frames_written : (at : ℕ) (body more : List ℕ) → length body ≤ 67108864 → frames_from at (frame_for body ++ more) ≡ frame at body (frames_from (at + length (frame_for body)) more)
frames_written at body more le =
    let header = header_for (length body) in
    let all = frame_for body in
    let len : length all ≡ length header + length body = length-append header body in
    let alone : cut_of all ≡ Frame (length header) (length all) = sym (ap cut_of (append-nil all)) ∙ cut_written body [] le in
    let then = λ (first later : List ℕ). frame at first (frames_from (at + length all) later) in
    frames_given at all (length header) (length all) alone more
    ∙ ap (λ (xs : List ℕ). then (take (length all - length header) xs) (drop (length all) all ++ more)) (drop-append_seam header body)
    ∙ ap (λ (xs : List ℕ). then xs (drop (length all) all ++ more)) (take_all (length all - length header) body (omega arith))
    ∙ ap (λ (xs : List ℕ). then body (xs ++ more)) (drop_all (length all) all (omega arith))
