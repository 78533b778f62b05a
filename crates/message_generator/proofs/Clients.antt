-- All messages of a client: they are read, end by `exit`, and ask about each document once.
use Rattle.std.proofs.Common.{◌≡◌, ◌+◌, ◌<◌, ◌≤◌, ℕ, zero, suc, false, List, [], ◌∷◌, ◌++◌, refl, arith}
use Rattle.lsp_frame.specs.declared.message.Message.{Message}
use Rattle.lsp_frame.specs.declared.message.Message.TheVariants.{Notification, Request, Response}
use Rattle.message_generator.specs.Drafts.{IsPlainLine, edit_count, edited_times, first_draft, first_line, last_draft}
use Rattle.message_generator.specs.Messages.{changed, document_messages, edits, hovered}
use Rattle.message_generator.specs.Stream.{AreReadable, EndByExit, is_exit, messages_from, request_count}
use Rattle.message_generator.specs.declared.draft.Draft.{Draft}
use Rattle.message_generator.proofs.Lines.{edited_times_plain, first_plain, plain_within}
use Rattle.message_generator.proofs.Readable.{changed_readable, exits_readable, hovered_readable, opened_readable}

readable-append : (first second : List Message) → AreReadable first → AreReadable second → AreReadable (first ++ second)
readable-append [] second one two = two
readable-append (message ∷ first) second one two = (one.0, readable-append first second one.1 two)

edits_readable : (count place : ℕ) (draft : Draft) → count ≤ 10 → place < 65536 → IsPlainLine 16 draft.line → AreReadable (edits count place draft)
unfolding edits
edits_readable zero place draft few within plain = tt
edits_readable (suc count) place draft few within plain =
    readable-append (edits count place draft) (changed place (count + 2) (edited_times count draft) ∷ [])
    (edits_readable count place draft (omega arith) within plain) (
      changed_readable place (count + 2) (edited_times count draft) within (omega arith)
          (plain_within (16 + count) 26 (edited_times count draft).line (omega arith) (edited_times_plain count 16 draft plain)),
      tt,
    )

document_readable : (place state : ℕ) → place < 65536 → AreReadable (document_messages place state)
unfolding document_messages
document_readable place state within =
    let draft = first_draft place state in
    let plain : IsPlainLine 16 (first_line place) = first_plain place within in (
      opened_readable place draft within (plain_within 16 26 (first_line place) (omega arith) plain),
      readable-append (edits edit_count place draft) (hovered place ∷ []) (edits_readable edit_count place draft (omega arith) within plain) (hovered_readable place within, tt),
    )

pub messages_readable : (left place state : ℕ) → place + left < 65536 → AreReadable (messages_from left place state)
unfolding messages_from
messages_readable zero place state within = (exits_readable, tt)
messages_readable (suc left) place state within =
    readable-append (document_messages place state) (messages_from left (place + 1) (last_draft place state).state)
    (document_readable place state (omega arith)) (messages_readable left (place + 1) (last_draft place state).state (omega arith))

-- ---- the end

abbrev NoneExits : List Message → Type 0
NoneExits [] = Unit {0}
NoneExits (message ∷ messages) = (is_exit message ≡ false) × NoneExits messages

none-append : (first second : List Message) → NoneExits first → NoneExits second → NoneExits (first ++ second)
none-append [] second one two = two
none-append (message ∷ first) second one two = (one.0, none-append first second one.1 two)

end-append : (first second : List Message) → NoneExits first → EndByExit second → EndByExit (first ++ second)
end-append [] second none end = end
end-append (message ∷ []) [] none end = absurd end
end-append (message ∷ []) (other ∷ second) none end = (none.0, end)
end-append (message ∷ next ∷ first) second none end = (none.0, end-append (next ∷ first) second none.1 end)

edits_go_on : (count place : ℕ) (draft : Draft) → NoneExits (edits count place draft)
unfolding edits
edits_go_on zero place draft = tt
edits_go_on (suc count) place draft = none-append (edits count place draft) (changed place (count + 2) (edited_times count draft) ∷ []) (edits_go_on count place draft) (refl, tt)

document_goes_on : (place state : ℕ) → NoneExits (document_messages place state)
unfolding document_messages
document_goes_on place state = let draft = first_draft place state in
    (refl, none-append (edits edit_count place draft) (hovered place ∷ []) (edits_go_on edit_count place draft) (refl, tt))

pub messages_end : (left place state : ℕ) → EndByExit (messages_from left place state)
unfolding messages_from
messages_end zero place state = refl
messages_end (suc left) place state =
    end-append (document_messages place state) (messages_from left (place + 1) (last_draft place state).state) (document_goes_on place state)
    (messages_end left (place + 1) (last_draft place state).state)

-- ---- the requests

count-append : (first second : List Message) → request_count (first ++ second) ≡ request_count first + request_count second
count-append [] second = omega arith
count-append (Request r ∷ first) second = omega (arith, count-append first second)
count-append (Notification n ∷ first) second = omega (arith, count-append first second)
count-append (Response r ∷ first) second = omega (arith, count-append first second)

edits_ask_nothing : (count place : ℕ) (draft : Draft) → request_count (edits count place draft) ≡ 0
unfolding edits
edits_ask_nothing zero place draft = refl
edits_ask_nothing (suc count) place draft =
    omega (arith, count-append (edits count place draft) (changed place (count + 2) (edited_times count draft) ∷ []), edits_ask_nothing count place draft)

document_asks_once : (place state : ℕ) → request_count (document_messages place state) ≡ 1
unfolding document_messages
document_asks_once place state = let draft = first_draft place state in
    omega (arith, count-append (edits edit_count place draft) (hovered place ∷ []), edits_ask_nothing edit_count place draft)

pub messages_ask : (left place state : ℕ) → request_count (messages_from left place state) ≡ left
unfolding messages_from
messages_ask zero place state = refl
messages_ask (suc left) place state =
    omega (
      arith,
      count-append (document_messages place state) (messages_from left (place + 1) (last_draft place state).state),
      document_asks_once place state,
      messages_ask left (place + 1) (last_draft place state).state,
    )
