-- Frames and texts, one behind another.
use Rattle.std.proofs.Common.{Bool, false, cond, ◌≡◌, ◌+◌, ◌-◌, ◌<◌, ◌≤◌, ℕ, zero, suc, List, [], ◌∷◌, ◌++◌, length, sym, ap, ◌∙◌, arith, append_assoc, append-nil, add-one, length-append, codes, decimal}
use Rattle.std.proofs.lemmas.List.Concat.{flat_map-append}
use Rattle.lsp_frame.specs.Written.{frame_for, body_of, header_for}
use Rattle.lsp_frame.specs.Frames.{empty_line}
use Rattle.lsp_frame.specs.declared.message.Message.{Message}
use Rattle.message_generator.specs.Drafts.{edit_count, edited, edited_times, first_draft, last_draft, text_of, texts_from}
use Rattle.message_generator.specs.Messages.{changed, document_messages, edits, exits, frames_of, hovered, opened}
use Rattle.message_generator.specs.Stream.{messages_from}
use Rattle.message_generator.specs.declared.draft.Draft.{Draft}

pub frames-append : (first second : List Message) → frames_of (first ++ second) ≡ frames_of first ++ frames_of second
frames-append first second = flat_map-append (λ message. frame_for (body_of message)) first second

pub frame_some : (message : Message) (later : List Message) → 0 < length (frames_of (message ∷ later))
unfolding header_for
frame_some message later = let body = body_of message in
    omega (
      arith,
      length-append (frame_for body) (frames_of later),
      length-append (header_for (length body)) body,
      length-append (codes "Content-Length: " ++ decimal (length body)) empty_line,
    )

-- one edit more
pub edited_more : (count : ℕ) (first draft next : Draft) → draft ≡ edited_times count first → next ≡ edited draft → next ≡ edited_times (count + 1) first
unfolding edited_times
edited_more count first draft next is more = rw add-one (more ∙ ap edited is)

pub edits_more : (count place : ℕ) (first draft : Draft) (old some more : List ℕ) → draft ≡ edited_times count first
    → some ≡ old ++ frames_of (edits count place first) → more ≡ some ++ frames_of (changed place (count + 2) draft ∷ [])
    → more ≡ old ++ frames_of (edits (count + 1) place first)
unfolding edits
edits_more count place first draft old some more is so_far next = rw add-one
    (next ∙ ap (λ (bytes : List ℕ). bytes ++ frames_of (changed place (count + 2) draft ∷ [])) so_far
    ∙ append_assoc old (frames_of (edits count place first)) (frames_of (changed place (count + 2) draft ∷ []))
    ∙ ap (λ (bytes : List ℕ). old ++ bytes) (sym (frames-append (edits count place first) (changed place (count + 2) draft ∷ [])))
    ∙ ap (λ (d : Draft). old ++ frames_of (edits count place first ++ changed place (count + 2) d ∷ [])) is)

-- a whole document
pub document_written : (place state : ℕ) (first : Draft) (old a b c : List ℕ) → first ≡ first_draft place state
    → a ≡ old ++ frames_of (opened place first ∷ []) → b ≡ a ++ frames_of (edits edit_count place first)
    → c ≡ b ++ frames_of (hovered place ∷ []) → c ≡ old ++ frames_of (document_messages place state)
unfolding document_messages
document_written place state first old a b c is one two three =
    let p = frames_of (opened place first ∷ []) in let q = frames_of (edits edit_count place first) in let r = frames_of (hovered place ∷ []) in
    three ∙ ap (λ (bytes : List ℕ). bytes ++ r) (two ∙ ap (λ (bytes : List ℕ). bytes ++ q) one)
    ∙ append_assoc (old ++ p) q r ∙ append_assoc old p (q ++ r)
    ∙ ap (λ (bytes : List ℕ). old ++ (p ++ bytes)) (sym (frames-append (edits edit_count place first) (hovered place ∷ [])))
    ∙ ap (λ (bytes : List ℕ). old ++ bytes) (sym (frames-append (opened place first ∷ []) (edits edit_count place first ++ hovered place ∷ [])))
    ∙ ap (λ (d : Draft). old ++ frames_of (opened place d ∷ (edits edit_count place d ++ hovered place ∷ []))) is

-- the texts of one document more
pub texts_more : (count place state : ℕ) (last : Draft) (fed all : List ℕ) → place < count → last ≡ last_draft place state
    → fed ++ texts_from (count - place) place state ≡ all
    → ((fed ++ last.line) ++ 10 ∷ []) ++ texts_from (count - (place + 1)) (place + 1) last.state ≡ all
unfolding texts_from
texts_more count place state last fed all below is so_far =
    let left : count - place ≡ suc (count - (place + 1)) = omega arith in
    append_assoc (fed ++ last.line) (10 ∷ []) (texts_from (count - (place + 1)) (place + 1) last.state)
    ∙ append_assoc fed last.line (10 ∷ texts_from (count - (place + 1)) (place + 1) last.state)
    ∙ ap (λ (bytes : List ℕ). fed ++ bytes) (sym (append_assoc last.line (10 ∷ []) (texts_from (count - (place + 1)) (place + 1) last.state)))
    ∙ ap (λ (d : Draft). fed ++ (text_of d ++ texts_from (count - (place + 1)) (place + 1) d.state)) is
    ∙ ap (λ (n : ℕ). fed ++ texts_from n place state) (sym left) ∙ so_far

-- the bytes of one document more
pub document_taken : (place left state : ℕ) → 0 < left
    → frames_of (messages_from left place state)
    ≡ frames_of (document_messages place state) ++ frames_of (messages_from (left - 1) (place + 1) (last_draft place state).state)
unfolding messages_from
document_taken place zero state some = absurd (omega arith)
document_taken place (suc left) state some =
    let same : suc left - 1 ≡ left = omega arith in
    rw same (frames-append (document_messages place state) (messages_from left (place + 1) (last_draft place state).state))

-- what a generator has left, by its parts
abbrev left_at : Bool → ℕ → ℕ → ℕ → List ℕ
left_at ended left place state = cond ended [] (frames_of (messages_from left place state))

pub document_some : (place state : ℕ) → 0 < length (frames_of (document_messages place state))
unfolding document_messages
document_some place state = frame_some (opened place (first_draft place state)) (edits edit_count place (first_draft place state) ++ hovered place ∷ [])

pub document_given : (ended : Bool) (left place state after : ℕ) (frames piece : List ℕ) → ended ≡ false → 0 < left
    → after ≡ (last_draft place state).state → frames ≡ frames_of (document_messages place state) → piece ≡ frames
    → (0 < length piece) × (left_at ended left place state ≡ piece ++ left_at ended (left - 1) (place + 1) after)
document_given ended left place state after frames piece going some is written given =
    rw (given, written, going, is) (document_some place state, document_taken place left state some)

pub exit_given : (ended : Bool) (left place state : ℕ) (frames piece : List ℕ) → ended ≡ false → left ≡ 0
    → frames ≡ frames_of (exits ∷ []) → piece ≡ frames
    → (0 < length piece) × (left_at ended left place state ≡ piece ++ [])
unfolding messages_from
exit_given ended left place state frames piece going none written given =
    rw (given, written, going, none) (frame_some exits [], sym (append-nil (frames_of (exits ∷ []))))

-- all texts were fed
pub texts_done : (count place state : ℕ) (fed all : List ℕ) → count ≤ place → fed ++ texts_from (count - place) place state ≡ all → fed ≡ all
unfolding texts_from
texts_done count place state fed all past so_far =
    let none : count - place ≡ 0 = omega arith in
    sym (append-nil fed) ∙ ap (λ (n : ℕ). fed ++ texts_from n place state) (sym none) ∙ so_far
