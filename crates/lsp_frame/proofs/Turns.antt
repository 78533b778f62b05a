-- What a turn of a reader gives.
use Rattle.std.proofs.Common.{◌≡◌, ◌+◌, ◌<◌, ◌≤◌, ℕ, Bool, true, false, List, Option, None, Some, length, drop, refl, sym, ap, ◌∙◌, arith, length-drop}
use Rattle.std.specs.Prelude.{slice_range, is_none}
use Rattle.std.proofs.lemmas.Bool.{false≢true, cond-false, le-ltb}
use Rattle.lsp_frame.specs.declared.frame.Cut.{Cut}
use Rattle.lsp_frame.specs.declared.frame.Cut.TheVariants.{NeedMore, Bad, Frame}
use Rattle.lsp_frame.specs.declared.frame.Head.{Head}
use Rattle.lsp_frame.specs.declared.frame.Head.TheVariants.{Body}
use Rattle.lsp_frame.specs.declared.message.Message.{Message}
use Rattle.lsp_frame.specs.Frames.{head_of, cut_at, cut_of, LiesWithin}
use Rattle.lsp_frame.specs.Rules.{message_of}
use Rattle.lsp_frame.specs.Reader.{Reader, is_faulty, faulty_by, GivesMessage, IsBadMessage}
use Rattle.lsp_frame.proofs.Cuts.{cut_by_head, cut_bounds}
use Rattle.lsp_frame.proofs.Streams.{frames_given}

pub cut_whole : (held : List ℕ) (start end : ℕ) → Body start end ≡ head_of held → end ≤ length held → cut_of held ≡ Frame start end
cut_whole held start end is le = cut_by_head held (Body start end) (sym is) ∙ cond-false _ _ _ (le-ltb _ _ le)

pub cut_is : (held : List ℕ) (len : ℕ) (head : Head) (c : Cut) → c ≡ cut_at len head → len ≡ length held → head ≡ head_of held → c ≡ cut_of held
unfolding cut_of
cut_is held len head c is len_is head_is = is ∙ rw (len_is, head_is) refl

-- a frame lies within the bytes
pub lies_within : (bytes : List ℕ) (c : Cut) → c ≡ cut_of bytes → LiesWithin c (length bytes)
lies_within bytes NeedMore is = tt
lies_within bytes Bad is = tt
lies_within bytes (Frame start end) is = let b = cut_bounds bytes start end (sym is) in (b.order, b.within)

-- which bytes begin with a fault
pub faulty_bad : (held : List ℕ) → cut_of held ≡ Bad → is_faulty held ≡ true
unfolding is_faulty
faulty_bad held is = rw is refl

pub not_faulty : (held : List ℕ) → cut_of held ≡ NeedMore → is_faulty held ≡ false
unfolding is_faulty
not_faulty held is = rw is refl

frame_faulty : (held : List ℕ) (start end : ℕ) → cut_of held ≡ Frame start end → is_faulty held ≡ is_none (message_of (slice_range held start end))
unfolding is_faulty
frame_faulty held start end is = ap (faulty_by held) is

pub faulty_none : (held : List ℕ) (start end : ℕ) → cut_of held ≡ Frame start end → message_of (slice_range held start end) ≡ None → is_faulty held ≡ true
faulty_none held start end is none = frame_faulty held start end is ∙ ap (λ (o : Option Message). is_none o) none

no_value : (o : Option Message) → is_none o ≡ true → o ≡ None
no_value None is = refl
no_value (Some m) is = absurd (false≢true is)

pub none_faulty : (held : List ℕ) (start end : ℕ) → cut_of held ≡ Frame start end → is_faulty held ≡ true → message_of (slice_range held start end) ≡ None
none_faulty held start end is faulty = no_value (message_of (slice_range held start end)) (sym (frame_faulty held start end is) ∙ faulty)

-- a reader that waits has not failed
pub sound_by : (failed : Bool) → (failed ≡ true → ⊥) → failed ≡ false
sound_by true h = absurd (h refl)
sound_by false h = refl

pub sound_waiting : (r : Reader) → cut_of r.held ≡ NeedMore → (r.failed ≡ true → is_faulty r.held ≡ true) → r.failed ≡ false
sound_waiting r is faulty = sound_by r.failed (λ failed. false≢true (sym (not_faulty r.held is) ∙ faulty failed))

-- the message of a whole frame is given
pub gives : (old new : Reader) (start end : ℕ) (m : Message) → cut_of old.held ≡ Frame start end → message_of (slice_range old.held start end) ≡ Some m → old.failed ≡ false
    → new ≡ record { place = old.place + end; held = drop end old.held; failed = false } → GivesMessage old new m
gives old new start end m whole reads sound after = record {
  start = start;
  end = end;
  body = slice_range old.held start end;
  whole = whole;
  body_is = refl;
  reads = reads;
  after = after;
  sound = sound;
  frames = λ more. rw after (frames_given old.place old.held start end whole more);
}

-- the same of a buffer's bytes from a place on
pub gives_from : (old : Reader) (place : ℕ) (held : List ℕ) (failed : Bool) (from to : ℕ) (m : Message) → record { place = place; held = held; failed = failed } ≡ old
    → cut_of old.held ≡ Frame from to → Some m ≡ message_of (slice_range held from to) → failed ≡ false
    → GivesMessage old (record { place = place + to; held = drop to held; failed = failed }) m
gives_from old place held failed from to m is whole reads sound = gives old _ from to m whole
    (ap (λ (r : Reader). message_of (slice_range r.held from to)) (sym is) ∙ sym reads)
    (ap (λ (r : Reader). r.failed) (sym is) ∙ sound)
    (rw (← is, sound) refl)

pub gives_shorter : (old new : Reader) (m : Message) → GivesMessage old new m → length new.held < length old.held
gives_shorter old new m g =
    let b = cut_bounds old.held g.start g.end g.whole in
    let held : length new.held ≡ length (drop g.end old.held) = ap (λ (r : Reader). length r.held) g.after in
    omega (arith, b.low, b.order, b.within, held, length-drop g.end old.held)

-- the body of a whole frame is no message
pub bad_message : (old new : Reader) (start end at : ℕ) → cut_of old.held ≡ Frame start end → is_faulty old.held ≡ true → at ≡ old.place → new ≡ record old { failed = true } → IsBadMessage old new at
bad_message old new start end at whole faulty place after = record {
  start = start;
  end = end;
  whole = whole;
  none = none_faulty old.held start end whole faulty;
  at_is = place;
  after = after;
}

-- a reader that has failed stays as it is
pub stays_failed : (r : Reader) → r.failed ≡ true → r ≡ record r { failed = true }
stays_failed r failed = ap (λ (b : Bool). record r { failed = b }) failed
