-- The first piece of the bytes that a source gives frame by frame.
use Rattle.std.proofs.Common.{◌≡◌, ◌≢◌, ◌<◌, ◌≤◌, ◌-◌, ℕ, Bool, true, List, [], ◌++◌, length, take, drop, refl, sym, ap, subst, ◌∙◌, arith, append_assoc}
use Rattle.std.specs.Prelude.{Option, None, Some, Result, Ok, Err, IfOk}
use Rattle.std.specs.FinMap as map
use Rattle.std.proofs.Math.Seq.{drop-append_seam}
use Rattle.std.proofs.lemmas.List.{append-nil, nil_from_length, take_all, take-append-drop, take-append-le}
use Rattle.analysis_host.specs.Answers.{OutcomeSpec}
use Rattle.analysis_host.specs.SnapshotData.{SnapshotData}
use Rattle.analysis_host.specs.declared.ask.Ask.{Ask}
use Rattle.lsp_frame.proofs.Cuts.{cut_bounds, cut_more, need_more_bound}
use Rattle.lsp_frame.specs.Frames.{cut_of, head_of, head_at, window}
use Rattle.lsp_frame.specs.Find.{place_of}
use Rattle.lsp_frame.specs.declared.frame.Cut.{Cut}
use Rattle.lsp_frame.specs.declared.frame.Cut.TheVariants.{NeedMore, Bad, Frame}
use Rattle.inline_host.specs.Coming.{Comes, ComesAsBytes, ComesAsEnd, orders_after, source_after, source_before}
use Rattle.inline_host.specs.Framed.{FramedData, waiting as framed_waiting, IsRead, EndsBy, EndsPiece}
use Rattle.inline_host.specs.Orders.{Orders, next_answer}
use Rattle.inline_host.specs.Inline.{InlineData, waiting, IsFirstPiece, IsNextPiece, GivesBytes}
use Rattle.session_port.specs.Jobs.{Jobs}
use Rattle.session_port.specs.Events.{event_bytes as bytes_in}
use Rattle.session_port.specs.Record.{before_piece}
use Rattle.session_port.specs.declared.cause.HostError.{HostError}
use Rattle.session_port.specs.declared.event.HostEvent.{HostEvent}
use Rattle.session_port.specs.declared.event.HostEvent.TheVariants.{Bytes}

-- while more bytes are needed each read brings the bound nearer
pub read_nearer : (old new : FramedData) (more : Bool) (held : List ℕ) → IsRead old new more → more ≡ true → held ≡ old.held → NeedMore ≡ cut_of held
    → 67112960 - length new.held < 67112960 - length old.held
read_nearer old new more held read is same needs =
    let brought : IsRead old new true = subst (IsRead old new) is read in
    let bound : length held ≤ 67112959 = need_more_bound held (sym needs) in
    omega (arith, brought.0, bound, ap length same)

-- nothing is the beginning of a frame
pub cut_nothing : cut_of [] ≡ NeedMore
unfolding cut_of head_of head_at window place_of
cut_nothing = refl

-- where the next piece is empty nothing is held and nothing is left
pub comes_as_end : (out : Jobs) (orders : Orders) (source : FramedData) (end : ℕ) → out ≡ map.empty → next_answer orders ≡ None → EndsPiece source end → end ≡ 0
    → ComesAsEnd out orders source
comes_as_end out orders source end idle answered ends zero = by_cut (cut_of source.held) refl ends
  where
    none : end ≡ length source.held → source.held ≡ []
    none is = nil_from_length source.held (sym is ∙ zero)

    by_cut : (c : Cut) → cut_of source.held ≡ c → EndsBy source end c → ComesAsEnd out orders source
    by_cut NeedMore cut is = record { idle = idle; answered = answered; none = none is.0; dry = is.1 }
    by_cut Bad cut is = let differs : Bad ≡ NeedMore = sym cut ∙ ap cut_of (none is) ∙ cut_nothing in cc
    by_cut (Frame body_start body_end) cut is =
        let bounds = cut_bounds source.held body_start body_end cut in absurd (omega (arith, bounds.low, bounds.order, is, zero))

-- a piece, and then the bytes behind it
before_both : (piece behind : List ℕ) (left : Option (List ℕ)) → before_piece (piece ++ behind) left ≡ before_piece piece (before_piece behind left)
before_both piece behind None = refl
before_both piece behind (Some left) = ap Some (append_assoc piece behind left)

module _ (out : Jobs) (orders : Orders) (before source : FramedData) (piece : List ℕ) (comes : ComesAsBytes out orders before source piece) where
  held_parted : source.held ≡ piece ++ drop (length piece) source.held
  held_parted = sym (take-append-drop (length piece) source.held) ∙ ap (λ front. front ++ drop (length piece) source.held) (sym comes.is)

  waiting_parted : framed_waiting source ≡ before_piece piece (framed_waiting (source_after (Bytes piece) source))
  waiting_parted = ap (λ held. before_piece held source.left) held_parted ∙ before_both piece (drop (length piece) source.held) source.left

  all_held : length piece ≡ length source.held → piece ≡ source.held
  all_held is = comes.is ∙ take_all (length piece) source.held (omega (arith, is))

  first_of : (left : List ℕ) → source.left ≡ Some left → IsFirstPiece piece (source.held ++ left) (cut_of (source.held ++ left))
  first_of left told = by_cut (cut_of source.held) refl comes.ends
    where
      more : (c : Cut) → cut_of source.held ≡ c → c ≢ NeedMore → c ≡ cut_of (source.held ++ left)
      more c cut done = sym (cut_more source.held left (λ is. done (sym cut ∙ is)) ∙ cut)

      by_cut : (c : Cut) → cut_of source.held ≡ c → EndsBy source (length piece) c → IsFirstPiece piece (source.held ++ left) (cut_of (source.held ++ left))
      by_cut NeedMore cut is =
          let all : source.held ++ left ≡ source.held = ap (λ rest. source.held ++ rest) (is.1 left told) ∙ append-nil source.held in
          subst (IsFirstPiece piece (source.held ++ left)) (sym (ap cut_of all ∙ cut)) (all_held is.0 ∙ sym all)
      by_cut Bad cut is = subst (IsFirstPiece piece (source.held ++ left)) (more Bad cut (λ e. bad e)) (ap cut_of (all_held is) ∙ cut)
        where
          bad : Bad ≡ NeedMore → ⊥
          bad e = cc
      by_cut (Frame body_start body_end) cut is =
          let bounds = cut_bounds source.held body_start body_end cut in
          subst (IsFirstPiece piece (source.held ++ left)) (more (Frame body_start body_end) cut (λ e. frame e))
          (comes.is ∙ ap (λ end. take end source.held) is ∙ sym (take-append-le body_end source.held left bounds.within))
        where
          frame : Frame body_start body_end ≡ NeedMore → ⊥
          frame e = cc

  next_of : (left : Option (List ℕ)) → source.left ≡ left → IsNextPiece piece (before_piece source.held left)
  next_of None told = tt
  next_of (Some left) told = first_of left told

-- what comes as bytes is given as the next piece
gives_bytes : (old new : InlineData) (out : Jobs) (orders : Orders) (before source : FramedData) (piece : List ℕ) → out ≡ old.out → orders ≡ old.orders
    → before.held ≡ old.held → before.left ≡ old.left → framed_waiting source ≡ framed_waiting before → drop (length piece) source.held ≡ new.held
    → source.left ≡ new.left → new.orders ≡ orders → ComesAsBytes out orders before source piece → GivesBytes old new piece
gives_bytes old new out orders before source piece same_out same_orders same_held same_left same_waiting new_held new_left new_orders comes =
    let at_old : framed_waiting source ≡ waiting old = same_waiting ∙ (λ i. before_piece (same_held i) (same_left i)) in
    let at_new : framed_waiting (source_after (Bytes piece) source) ≡ waiting new = λ i. before_piece (new_held i) (new_left i) in record {
      idle = sym same_out ∙ comes.idle;
      answered = ap next_answer (sym same_orders) ∙ comes.answered;
      orders = new_orders ∙ same_orders;
      some = comes.some;
      parted = sym at_old ∙ waiting_parted out orders before source piece comes ∙ ap (before_piece piece) at_new;
      next = subst (IsNextPiece piece) at_old (next_of out orders before source piece comes source.left refl);
      unread = λ shown. sym new_left ∙ ap (λ s. s.left) (comes.unread (λ needs. shown (ap cut_of (sym same_held) ∙ needs))) ∙ same_left;
    }

pub event_bytes : (answer : SnapshotData → Ask → OutcomeSpec) (event : HostEvent) (piece : List ℕ) (old new : InlineData) (out : Jobs) (orders : Orders) (before source : FramedData)
    → event ≡ Bytes piece → out ≡ old.out → orders ≡ old.orders → before.held ≡ old.held → before.left ≡ old.left → framed_waiting source ≡ framed_waiting before
    → (source_after event source).held ≡ new.held → (source_after event source).left ≡ new.left → new.orders ≡ orders_after event orders
    → Comes answer out orders before source event → GivesBytes old new piece
event_bytes answer event piece old new out orders before source is same_out same_orders same_held same_left same_waiting new_held new_left new_orders comes =
    gives_bytes old new out orders before source piece same_out same_orders same_held same_left same_waiting (ap (λ e. (source_after e source).held) (sym is) ∙ new_held) new_left
    (new_orders ∙ ap (λ e. orders_after e orders) is) (subst (Comes answer out orders before source) is comes)

-- the same of what a call answers, given the source after it
pub result_bytes : (answer : SnapshotData → Ask → OutcomeSpec) (result : Result HostEvent HostError) (old new : InlineData) (out : Jobs) (orders : Orders)
    (before after : FramedData) → out ≡ old.out → orders ≡ old.orders → before.held ≡ old.held → before.left ≡ old.left → after.held ≡ new.held → after.left ≡ new.left
    → IfOk result (λ event. framed_waiting (source_before event after) ≡ framed_waiting before) → IfOk result (λ event. new.orders ≡ orders_after event orders)
    → IfOk result (λ event. Comes answer out orders before (source_before event after) event)
    → IfOk result (λ event. (piece : List ℕ) → event ≡ Bytes piece → GivesBytes old new piece)
result_bytes answer (Err e) old new out orders before after same_out same_orders same_held same_left new_held new_left same_waiting new_orders comes = tt
result_bytes answer (Ok event) old new out orders before after same_out same_orders same_held same_left new_held new_left same_waiting new_orders comes =
    λ piece is. event_bytes answer event piece old new out orders before (source_before event after) is same_out same_orders same_held same_left same_waiting
    (drop-append_seam (bytes_in event) after.held ∙ new_held) new_left new_orders comes
