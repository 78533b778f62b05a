-- What the messages of a stream are while it is read.
use Rattle.std.proofs.Common.{◌≡◌, ◌+◌, ◌<◌, ◌≤◌, ℕ, suc, false, List, [], ◌∷◌, ◌++◌, length, get_or, drop, refl, sym, ap, ◌∙◌, arith, length-append, length-drop, append_assoc, add-one, Some, None}
use Rattle.std.specs.Global.{Vec}
use Rattle.std.proofs.lemmas.List.{append-nil, drop_all}
use Rattle.std.proofs.Math.Seq.{drop-cons}
use Rattle.lsp_frame.specs.declared.fault.FrameFault.{FrameFault}
use Rattle.lsp_frame.specs.declared.fault.FrameFault.TheVariants.{BadFrame, BadMessage}
use Rattle.lsp_frame.specs.declared.frame.Cut.TheVariants.{NeedMore, Bad}
use Rattle.lsp_frame.specs.declared.frame.Head.TheVariants.{Open}
use Rattle.lsp_frame.specs.declared.message.Message.{Message}
use Rattle.lsp_frame.specs.declared.pieces.Reading.{Reading}
use Rattle.lsp_frame.specs.Find.{place_of}
use Rattle.lsp_frame.specs.Frames.{empty_line, cut_of, frames_from}
use Rattle.lsp_frame.specs.Reader.{Reader, fed, GivesMessage, IsBadFrame, IsBadMessage}
use Rattle.lsp_frame.specs.Pieces.{stream_of, reading_of, behind}
use Rattle.lsp_frame.proofs.Cuts.{cut_more, cut_bounds, cut_by_head, head_none, window-short}
use Rattle.lsp_frame.proofs.Streams.{frames_bad, frames_given, frames_partial}

-- what is read of the bytes that a reader holds, and those that come
abbrev pub reading_after : Reader → List ℕ → Reading
reading_after r more = reading_of (frames_from r.place (r.held ++ more))

pub given_reading : (out : List Message) (old new : Reader) (m : Message) → GivesMessage old new m → (more : List ℕ) → behind (out ++ m ∷ []) (reading_after new more) ≡ behind out (reading_after old more)
given_reading out old new m g more = rw (g.frames more, g.reads, append_assoc out (m ∷ []) ((reading_after new more).messages)) refl

pub given_counted : (old new : Reader) (m : Message) → GivesMessage old new m → new.place + length new.held ≡ old.place + length old.held
given_counted old new m g = let b = cut_bounds old.held g.start g.end g.whole in rw g.after (omega (arith, b.order, b.within, length-drop g.end old.held))

bad_not_more : Bad ≡ NeedMore → ⊥
bad_not_more e = cc

pub bad_reading : (old new : Reader) (at : ℕ) → IsBadFrame old new at → (more : List ℕ) → reading_after new more ≡ record { messages = []; fault = Some (BadFrame at) }
bad_reading old new at h more =
    let bad : cut_of (old.held ++ more) ≡ Bad = cut_more old.held more (λ e. bad_not_more (sym h.bad ∙ e)) ∙ h.bad in
    rw (h.after, frames_bad old.place (old.held ++ more) bad, bad, h.at_is) refl

pub none_reading : (old new : Reader) (at : ℕ) → IsBadMessage old new at → (more : List ℕ) → reading_after new more ≡ record { messages = []; fault = Some (BadMessage at) }
none_reading old new at h more = rw (h.after, frames_given old.place old.held h.start h.end h.whole more, h.none, h.at_is) refl

-- what was read, what the reader holds and the bytes that are left make the whole stream
pub record Follows (out : List Message) (r : Reader) (left all : List ℕ) : Type 0 where
  pub reading : behind out (reading_after r left) ≡ reading_of (frames_from 0 all)
  pub counted : r.place + length r.held + length left ≡ length all

pub fed_held : (old new : Reader) (piece : List ℕ) → old.failed ≡ false → new ≡ fed old piece → new ≡ record { place = old.place; held = old.held ++ piece; failed = false }
fed_held old new piece sound is = is ∙ (rw sound refl)

pub fed_sound : (old new : Reader) (piece : List ℕ) → old.failed ≡ false → new ≡ fed old piece → new.failed ≡ false
fed_sound old new piece sound is = ap (λ (r : Reader). r.failed) (fed_held old new piece sound is)

Follows-fed : (out : List Message) (old new : Reader) (piece left all : List ℕ) → old.failed ≡ false → new ≡ fed old piece → Follows out old (piece ++ left) all → Follows out new left all
Follows-fed out old new piece left all sound is h = rw (fed_held old new piece sound is) (record {
  reading = rw (append_assoc old.held piece left) h.reading;
  counted = omega (arith, h.counted, length-append piece left, length-append old.held piece);
})

Follows-read : (out more_out : List Message) (old new : Reader) (left all : List ℕ) → ((more : List ℕ) → behind more_out (reading_after new more) ≡ behind out (reading_after old more))
    → new.place + length new.held ≡ old.place + length old.held → Follows out old left all → Follows more_out new left all
Follows-read out more_out old new left all reading counted h = record {
  reading = reading left ∙ h.reading;
  counted = omega (arith, counted, h.counted);
}

stream_of-step : (pieces : List (Vec ℕ)) (i : ℕ) (piece : Vec ℕ) → i < length pieces → piece ≡ get_or pieces i piece → stream_of (drop i pieces) ≡ piece.items ++ stream_of (drop (i + 1) pieces)
stream_of-step pieces i piece lt is = let e : drop i pieces ≡ piece ∷ drop (i + 1) pieces = rw add-one (drop-cons pieces i piece lt ∙ ap (λ (p : Vec ℕ). p ∷ drop (suc i) pieces) (sym is)) in ap stream_of e

pub stream_of-end : (pieces : List (Vec ℕ)) (i : ℕ) → length pieces ≤ i → stream_of (drop i pieces) ≡ []
stream_of-end pieces i le = let e : drop i pieces ≡ [] = drop_all i pieces le in ap stream_of e

-- one piece fits
pub piece_fits : (out : List Message) (r : Reader) (pieces : List (Vec ℕ)) (i : ℕ) (piece : Vec ℕ) (bytes all : List ℕ) → i < length pieces → piece ≡ get_or pieces i piece → bytes ≡ piece.items
    → Follows out r (stream_of (drop i pieces)) all → r.place + length r.held + length bytes ≤ length all
piece_fits out r pieces i piece bytes all lt is same h =
    let step : length (stream_of (drop i pieces)) ≡ length piece.items + length (stream_of (drop (i + 1) pieces)) = ap length (stream_of-step pieces i piece lt is) ∙ length-append piece.items (stream_of (drop (i + 1) pieces)) in
    let len : length bytes ≡ length piece.items = ap length same in
    omega (arith, h.counted, step, len)

-- one piece is fed, and the messages that are whole are taken out
pub Follows-piece : (out more_out : List Message) (old with_piece new : Reader) (pieces : List (Vec ℕ)) (i : ℕ) (piece : Vec ℕ) (bytes all : List ℕ)
    → i < length pieces → piece ≡ get_or pieces i piece → bytes ≡ piece.items → old.failed ≡ false → with_piece ≡ fed old bytes
    → ((more : List ℕ) → behind more_out (reading_after new more) ≡ behind out (reading_after with_piece more))
    → new.place + length new.held ≡ with_piece.place + length with_piece.held
    → Follows out old (stream_of (drop i pieces)) all → Follows more_out new (stream_of (drop (i + 1) pieces)) all
Follows-piece out more_out old with_piece new pieces i piece bytes all lt is same sound fed_is reading counted h =
    let left = stream_of (drop (i + 1) pieces) in
    let step : stream_of (drop i pieces) ≡ bytes ++ left = stream_of-step pieces i piece lt is ∙ ap (λ (xs : List ℕ). xs ++ left) (sym same) in
    let before : Follows out old (bytes ++ left) all = rw (← step) h in
    Follows-read out more_out with_piece new left all reading counted (Follows-fed out old with_piece bytes left all sound fed_is before)

-- the stream ends, or a fault comes
pub Follows-end : (out : List Message) (r : Reader) (left all : List ℕ) → left ≡ [] → Follows out r left all → cut_of r.held ≡ NeedMore → record { messages = out; fault = None } ≡ reading_of (frames_from 0 all)
Follows-end out r left all none h is =
    let held : r.held ++ left ≡ r.held = ap (λ (xs : List ℕ). r.held ++ xs) none ∙ append-nil r.held in
    let nothing : reading_after r left ≡ record { messages = []; fault = None } = rw (held, frames_partial r.place r.held is, is) refl in
    (rw (nothing, append-nil out) at h.reading)

pub Follows-fault : (out : List Message) (r : Reader) (left all : List ℕ) (f : FrameFault) → ((more : List ℕ) → reading_after r more ≡ record { messages = []; fault = Some f }) → Follows out r left all
    → record { messages = out; fault = Some f } ≡ reading_of (frames_from 0 all)
Follows-fault out r left all f stops h = (rw (stops left, append-nil out) at h.reading)

no_place : place_of empty_line [] ≡ None
unfolding place_of
no_place = refl

-- nothing is a part of a frame
pub cut_nothing : cut_of [] ≡ NeedMore
cut_nothing = cut_by_head [] Open (head_none [] (ap (place_of empty_line) (window-short [] (omega arith)) ∙ no_place))
