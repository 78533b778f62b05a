-- What is kept of events with one event more.
use Rattle.std.proofs.Common.{is_some, cond, Bool, Option, Some, None, subst, ◌≡◌, ℕ, ◌+◌, List, [], ◌∷◌, ◌++◌, ◌&&◌, length, true, false, refl, ap, ◌∙◌, sym, append_assoc, arith}
use Rattle.std.proofs.lemmas.List.{append-nil, length-append}
use Rattle.record_codec.specs.Front.{and_left, and_right, and_both}
use Rattle.record_codec.specs.Lists.{items_fit, spell_marked}
use Rattle.event_codec.specs.Events.{host_event_codec}
use Rattle.session_record.specs.Record.{magic, first_unfit}
use Rattle.session_record.specs.Start.{start_codec}
use Rattle.session_record.proofs.Unfit.{none_unfit}
use Rattle.session_record.specs.Keeping.{spell_open, IsCause, IsKept, IsKeptBy}
use Rattle.session_port.specs.declared.event.HostEvent.{HostEvent}
use Rattle.session_record.specs.declared.fault.RecordFault.{RecordFault}
use Rattle.session_record.specs.declared.fault.RecordFault.TheVariants.{Unrecordable, BadRecord, NoMemory}
use Rattle.session_record.specs.declared.recording.Recording.{Recording}
use Rattle.session_record.specs.declared.start.StartConfig.{StartConfig}

-- the last byte ends the events
pub open_ended : (events : List HostEvent) → spell_open events ++ 0 ∷ [] ≡ spell_marked host_event_codec events
open_ended [] = refl
open_ended (e ∷ events) =
    ap (λ (t : List ℕ). 1 ∷ t)
    (append_assoc (host_event_codec.spelling e) (spell_open events) (0 ∷ [])
    ∙ ap (λ (t : List ℕ). host_event_codec.spelling e ++ t) (open_ended events))

pub open_more : (events : List HostEvent) (x : HostEvent)
    → spell_open (events ++ x ∷ []) ≡ spell_open events ++ 1 ∷ host_event_codec.spelling x
open_more [] x = ap (λ (t : List ℕ). 1 ∷ t) (append-nil (host_event_codec.spelling x))
open_more (e ∷ events) x =
    ap (λ (t : List ℕ). 1 ∷ t)
    (ap (λ (t : List ℕ). host_event_codec.spelling e ++ t) (open_more events x)
    ∙ sym (append_assoc (host_event_codec.spelling e) (spell_open events) (1 ∷ host_event_codec.spelling x)))

and_true : (a : Bool) → (a && true) ≡ a
and_true true = refl
and_true false = refl

pub fit_more : (events : List HostEvent) (x : HostEvent) → items_fit host_event_codec events ≡ true
    → items_fit host_event_codec (events ++ x ∷ []) ≡ host_event_codec.fits x
fit_more [] x fits = and_true (host_event_codec.fits x)
fit_more (e ∷ events) x fits =
    rw (and_left (host_event_codec.fits e) (items_fit host_event_codec events) fits)
    (fit_more events x (and_right (host_event_codec.fits e) (items_fit host_event_codec events) fits))

-- the first of them that has no spelling is the new one
pub unfit_more : (events : List HostEvent) (x : HostEvent) → items_fit host_event_codec events ≡ true
    → host_event_codec.fits x ≡ false → first_unfit (events ++ x ∷ []) ≡ length events
unfit_more [] x fits unfit = rw unfit refl
unfit_more (e ∷ events) x fits unfit =
    let others =
    unfit_more events x (and_right (host_event_codec.fits e) (items_fit host_event_codec events) fits) unfit in
    rw (and_left (host_event_codec.fits e) (items_fit host_event_codec events) fits) (omega (arith, others))

and_false : (a b c : Bool) → (b ≡ false → c ≡ false) → (a && b) ≡ false → (a && c) ≡ false
and_false true b c h f = h f
and_false false b c h f = refl

cond_same : (a b : Bool) (m n : ℕ) → (b ≡ false → m ≡ n) → (a && b) ≡ false → cond a (m + 1) 0 ≡ cond a (n + 1) 0
cond_same true b m n h f = ap (λ (k : ℕ). k + 1) (h f)
cond_same false b m n h f = refl

-- where one of them has no spelling already, a new one changes nothing
pub still_unfit : (events : List HostEvent) (x : HostEvent) → items_fit host_event_codec events ≡ false
    → items_fit host_event_codec (events ++ x ∷ []) ≡ false
still_unfit [] x unfit = absurd cc
still_unfit (e ∷ events) x unfit =
    and_false (host_event_codec.fits e) (items_fit host_event_codec events) (items_fit host_event_codec (events ++ x ∷ [])) (still_unfit events x) unfit

pub same_unfit : (events : List HostEvent) (x : HostEvent) → items_fit host_event_codec events ≡ false
    → first_unfit (events ++ x ∷ []) ≡ first_unfit events
same_unfit [] x unfit = absurd cc
same_unfit (e ∷ events) x unfit =
    cond_same (host_event_codec.fits e) (items_fit host_event_codec events) (first_unfit (events ++ x ∷ [])) (first_unfit events) (same_unfit events x) unfit

pub cause_stays : (events : List HostEvent) (x : HostEvent) (fault : RecordFault) → IsCause events fault → IsCause (events ++ x ∷ []) fault
cause_stays events x (Unrecordable place) k = (still_unfit events x k.0, k.1 ∙ sym (same_unfit events x k.0))
cause_stays events x BadRecord k = k
cause_stays events x NoMemory k = k

module _ (begin : StartConfig) (events : List HostEvent) (x : HostEvent) where
  faulted_by : (k k' : Recording) (fault : Option RecordFault) → is_some fault ≡ true
      → IsKeptBy begin events k fault → IsKeptBy begin (events ++ x ∷ []) k' fault
  faulted_by k k' None some kept = absurd cc
  faulted_by k k' (Some fault) some kept = cause_stays events x fault kept

  -- a cause stays the cause
  pub still_kept : (k k' : Recording) → is_some k.fault ≡ true → k'.fault ≡ k.fault → IsKept begin events k → IsKept begin (events ++ x ∷ []) k'
  still_kept k k' some same kept =
      subst (λ (o : Option RecordFault). IsKeptBy begin (events ++ x ∷ []) k' o) (sym same) (faulted_by k k' k.fault some kept)

  grown_by : (k k' : Recording) (fault : Option RecordFault) → is_some fault ≡ false → k'.begins_well ≡ k.begins_well → k'.count ≡ k.count + 1
      → host_event_codec.fits x ≡ true → k'.bytes.items ≡ k.bytes.items ++ 1 ∷ host_event_codec.spelling x
      → IsKeptBy begin events k fault → IsKeptBy begin (events ++ x ∷ []) k' fault
  grown_by k k' (Some fault) none well count fits text kept = absurd cc
  grown_by k k' None none well count fits text kept =
      let front = magic ++ start_codec.spelling begin in (
        fit_more events x kept.0 ∙ fits,
        (
          count ∙ ap (λ (n : ℕ). n + 1) kept.1.0 ∙ sym (length-append events (x ∷ [])),
          (
            well ∙ kept.1.1.0,
            λ w. text ∙ ap (λ (t : List ℕ). t ++ 1 ∷ host_event_codec.spelling x) (kept.1.1.1 (sym well ∙ w))
                ∙ append_assoc front (spell_open events) (1 ∷ host_event_codec.spelling x)
                ∙ ap (λ (t : List ℕ). front ++ t) (sym (open_more events x)),
          ),
        ),
      )

  -- an event that has a spelling is kept
  pub kept_more : (k k' : Recording) → is_some k.fault ≡ false → k'.fault ≡ k.fault → k'.begins_well ≡ k.begins_well → k'.count ≡ k.count + 1
      → host_event_codec.fits x ≡ true → k'.bytes.items ≡ k.bytes.items ++ 1 ∷ host_event_codec.spelling x
      → IsKept begin events k → IsKept begin (events ++ x ∷ []) k'
  kept_more k k' none same well count fits text kept =
      subst (λ (o : Option RecordFault). IsKeptBy begin (events ++ x ∷ []) k' o) (sym same) (grown_by k k' k.fault none well count fits text kept)

  caused_by : (k : Recording) (fault : Option RecordFault) → is_some fault ≡ false → host_event_codec.fits x ≡ false
      → IsKeptBy begin events k fault → IsCause (events ++ x ∷ []) (Unrecordable k.count)
  caused_by k (Some fault) none unfit kept = absurd cc
  caused_by k None none unfit kept = (fit_more events x kept.0 ∙ unfit, kept.1.0 ∙ sym (unfit_more events x kept.0 unfit))

  -- one that has none is the cause
  pub kept_no_more : (k k' : Recording) → is_some k.fault ≡ false → host_event_codec.fits x ≡ false → k'.fault ≡ Some (Unrecordable k.count)
      → IsKept begin events k → IsKept begin (events ++ x ∷ []) k'
  kept_no_more k k' none unfit cause kept =
      subst (λ (o : Option RecordFault). IsKeptBy begin (events ++ x ∷ []) k' o) (sym cause) (caused_by k k.fault none unfit kept)

module _ (begin : StartConfig) (events : List HostEvent) (k : Recording) where
  by_fault : (fault : Option RecordFault) → fault ≡ None → IsKeptBy begin events k fault → IsKeptBy begin events k None
  by_fault None none kept = kept
  by_fault (Some fault) none kept = absurd cc

  pub closes_badly : k.fault ≡ None → k.begins_well ≡ false → IsKept begin events k
      → ((start_codec.fits begin && items_fit host_event_codec events) ≡ false) × (k.count ≡ first_unfit events)
  closes_badly none badly kept =
      let all = by_fault k.fault none kept in (
        ap (λ (b : Bool). b && items_fit host_event_codec events) (sym all.1.1.0 ∙ badly),
        all.1.0 ∙ sym (none_unfit events all.0),
      )

  pub closes_well : (new : List ℕ) → k.fault ≡ None → k.begins_well ≡ true → new ≡ k.bytes.items ++ 0 ∷ [] → IsKept begin events k
      → ((start_codec.fits begin && items_fit host_event_codec events) ≡ true)
      × (new ≡ magic ++ (start_codec.spelling begin ++ spell_marked host_event_codec events))
  closes_well new none well text kept =
      let all = by_fault k.fault none kept in
      let begun = start_codec.spelling begin in (
        and_both (start_codec.fits begin) (items_fit host_event_codec events) (sym all.1.1.0 ∙ well) all.0,
        text ∙ ap (λ (t : List ℕ). t ++ 0 ∷ []) (all.1.1.1 well)
            ∙ append_assoc (magic ++ begun) (spell_open events) (0 ∷ [])
            ∙ ap (λ (t : List ℕ). (magic ++ begun) ++ t) (open_ended events)
            ∙ append_assoc magic begun (spell_marked host_event_codec events),
      )
