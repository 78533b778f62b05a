-- Calls one after another, and what follows from them.
use Rattle.std.proofs.Common.{◌≡◌, ℕ, Bool, false, List, [], ◌∷◌, ◌++◌, length, drop, refl, sym, ap, subst, ◌∙◌, append_assoc, append-nil}
use Rattle.std.specs.Prelude.{Option, None, Some}
use Rattle.std.proofs.Math.Seq.{drop-append_seam}
use Rattle.session_port.specs.Events.{event_bytes}
use Rattle.session_port.specs.Record.{HostCall, gave, took, added, after_event, after_order, before_piece}
use Rattle.session_port.specs.declared.command.Command.{Command}
use Rattle.session_port.specs.declared.event.HostEvent.{HostEvent}
use Rattle.inline_host.specs.Inline.{InlineData, waiting}
use Rattle.inline_host.specs.Orders.{after_commands}
use Rattle.ordered_host.specs.InOrder.{AreInOrder, Follows, IsNext, IsOrdered, Standing, after_calls, after_gave, after_took, beginning, bytes_given, whole_of}
use Rattle.ordered_host.proofs.Giving.{Gave, standing_at}

pub given-append : (first second : List HostCall) → bytes_given (first ++ second) ≡ bytes_given first ++ bytes_given second
given-append [] second = refl
given-append (gave event ∷ first) second =
    ap (λ (bytes : List ℕ). event_bytes event ++ bytes) (given-append first second) ∙ sym (append_assoc (event_bytes event) (bytes_given first) (bytes_given second))
given-append (took commands ∷ first) second = given-append first second

pub after-append : (first second : List HostCall) (s : Standing) → after_calls (first ++ second) s ≡ after_calls second (after_calls first s)
after-append [] second s = refl
after-append (gave event ∷ first) second s = after-append first second (after_gave event s)
after-append (took commands ∷ first) second s = after-append first second (after_took commands s)

order-gave : (calls : List HostCall) (s : Standing) (event : HostEvent) → AreInOrder s calls → IsNext (after_calls calls s) event → AreInOrder s (calls ++ gave event ∷ [])
order-gave [] s event all next = (next, tt)
order-gave (gave first ∷ calls) s event all next = (all.0, order-gave calls (after_gave first s) event all.1 next)
order-gave (took commands ∷ calls) s event all next = order-gave calls (after_took commands s) event all next

order-took : (calls : List HostCall) (s : Standing) (commands : List Command) → AreInOrder s calls → AreInOrder s (calls ++ took commands ∷ [])
order-took [] s commands all = tt
order-took (gave first ∷ calls) s commands all = (all.0, order-took calls (after_gave first s) commands all.1)
order-took (took more ∷ calls) s commands all = order-took calls (after_took more s) commands all

some-calls : (xs ys : List HostCall) → Some xs ≡ Some ys → xs ≡ ys
some-calls xs ys e = cc

no-calls : (call : HostCall) (now : Option (List HostCall)) (calls : List HostCall) → now ≡ added None call → now ≡ Some calls → ⊥
no-calls call now calls is told = cc

-- one event more
gave-bytes : (calls : List HostCall) (event : HostEvent) (later : List ℕ)
    → bytes_given calls ++ (event_bytes event ++ later) ≡ bytes_given (calls ++ gave event ∷ []) ++ later
gave-bytes calls event later =
    sym (append_assoc (bytes_given calls) (event_bytes event) later)
    ∙ ap (λ (bytes : List ℕ). bytes ++ later) (ap (λ (more : List ℕ). bytes_given calls ++ more) (sym (append-nil (event_bytes event))) ∙ sym (given-append calls (gave event ∷ [])))

took-bytes : (calls : List HostCall) (commands : List Command) → bytes_given calls ≡ bytes_given (calls ++ took commands ∷ [])
took-bytes calls commands = sym (given-append calls (took commands ∷ []) ∙ append-nil (bytes_given calls))

module _ (failed : Bool) (going : failed ≡ false) (old new : InlineData) (event : HostEvent) (gives : Gave old new event)
    (out : new.out ≡ after_event event old.out) (told : new.calls ≡ added old.calls (gave event)) where
  left-after : (later : List ℕ) → drop (length (event_bytes event)) (event_bytes event ++ later) ≡ later
  left-after later = drop-append_seam (event_bytes event) later

  stands-gave : (later : List ℕ)
      → after_gave event (standing_at old (event_bytes event ++ later)) ≡ standing_at new later
  stands-gave later = rw (out, gives.orders, left-after later) refl

  gave-follows : (calls : List HostCall) (later : List ℕ) → waiting new ≡ Some later → waiting old ≡ Some (event_bytes event ++ later)
      → Follows (record { host = old; failed = failed }) calls (event_bytes event ++ later)
      → Follows (record { host = new; failed = failed }) (calls ++ gave event ∷ []) later
  gave-follows calls later now was f =
      let start = beginning (bytes_given calls ++ (event_bytes event ++ later)) in
      let stood : after_calls calls start ≡ standing_at old (event_bytes event ++ later) = f.stands going in
      let next : IsNext (after_calls calls start) event =
      subst (λ (s : Standing). IsNext s event) (sym stood) (gives.next (event_bytes event ++ later) later was now) in
      record {
        in_order = subst (λ (bytes : List ℕ). AreInOrder (beginning bytes) (calls ++ gave event ∷ [])) (gave-bytes calls event later)
            (order-gave calls start event f.in_order next);
        stands = λ same. ap (λ (bytes : List ℕ). after_calls (calls ++ gave event ∷ []) (beginning bytes)) (sym (gave-bytes calls event later))
            ∙ after-append calls (gave event ∷ []) start ∙ ap (after_gave event) stood ∙ stands-gave later;
      }

  follows-gave : (kept : Option (List HostCall)) → old.calls ≡ kept
      → ((calls : List HostCall) (left : List ℕ) → old.calls ≡ Some calls → waiting old ≡ Some left → Follows (record { host = old; failed = failed }) calls left)
      → (calls : List HostCall) (left : List ℕ) → new.calls ≡ Some calls → waiting new ≡ Some left → Follows (record { host = new; failed = failed }) calls left
  follows-gave None was follows calls left is now = absurd (no-calls (gave event) new.calls calls (told ∙ ap (λ (o : Option (List HostCall)). added o (gave event)) was) is)
  follows-gave (Some before) was follows calls left is now =
      let same : before ++ gave event ∷ [] ≡ calls =
      some-calls (before ++ gave event ∷ []) calls (sym (told ∙ ap (λ (o : Option (List HostCall)). added o (gave event)) was) ∙ is) in
      let waited : waiting old ≡ Some (event_bytes event ++ left) = gives.parted ∙ ap (before_piece (event_bytes event)) now in
      subst (λ (cs : List HostCall). Follows (record { host = new; failed = failed }) cs left) same
      (gave-follows before left now waited (follows before (event_bytes event ++ left) was waited))

  pub ordered-gave : new.poisoned ≡ false → IsOrdered (record { host = old; failed = failed }) → IsOrdered (record { host = new; failed = failed })
  ordered-gave usable ordered = record { usable = λ same. usable; follows = follows-gave old.calls refl ordered.follows }

before-both : (first second : List ℕ) (left : Option (List ℕ)) → before_piece (first ++ second) left ≡ before_piece first (before_piece second left)
before-both first second None = refl
before-both first second (Some left) = ap Some (append_assoc first second left)

-- what was given and what waits stay the same together
pub whole-gave : (kept now : Option (List HostCall)) (event : HostEvent) (was is : Option (List ℕ)) → now ≡ added kept (gave event)
    → was ≡ before_piece (event_bytes event) is → whole_of now is ≡ whole_of kept was
whole-gave None now event was is told parted = ap (λ (o : Option (List HostCall)). whole_of o is) told
whole-gave (Some calls) now event was is told parted =
    ap (λ (o : Option (List HostCall)). whole_of o is) told
    ∙ ap (λ (bytes : List ℕ). before_piece bytes is) (given-append calls (gave event ∷ []) ∙ ap (λ (more : List ℕ). bytes_given calls ++ more) (append-nil (event_bytes event)))
    ∙ before-both (bytes_given calls) (event_bytes event) is ∙ ap (before_piece (bytes_given calls)) (sym parted)

pub whole-took : (kept now : Option (List HostCall)) (commands : List Command) (was is : Option (List ℕ)) → now ≡ added kept (took commands)
    → is ≡ was → whole_of now is ≡ whole_of kept was
whole-took None now commands was is told same = ap (λ (o : Option (List HostCall)). whole_of o is) told
whole-took (Some calls) now commands was is told same =
    ap (λ (o : Option (List HostCall)). whole_of o is) told ∙ ap (λ (bytes : List ℕ). before_piece bytes is) (sym (took-bytes calls commands)) ∙ ap (before_piece (bytes_given calls)) same

-- ---- commands that were taken

module _ (failed : Bool) (going : failed ≡ false) (old new : InlineData) (commands : List Command) (same_left : waiting new ≡ waiting old)
    (out : new.out ≡ after_order commands old.out) (orders : new.orders ≡ after_commands commands old.orders)
    (told : new.calls ≡ added old.calls (took commands)) where
  took-follows : (calls : List HostCall) (left : List ℕ) → Follows (record { host = old; failed = failed }) calls left
      → Follows (record { host = new; failed = failed }) (calls ++ took commands ∷ []) left
  took-follows calls left f =
      let start = beginning (bytes_given calls ++ left) in
      let stood : after_calls calls start ≡ standing_at old left = f.stands going in
      let stands_now : after_took commands (standing_at old left) ≡ standing_at new left = rw (out, orders) refl in
      record {
        in_order = subst (λ (bytes : List ℕ). AreInOrder (beginning (bytes ++ left)) (calls ++ took commands ∷ [])) (took-bytes calls commands)
            (order-took calls start commands f.in_order);
        stands = λ same. ap (λ (bytes : List ℕ). after_calls (calls ++ took commands ∷ []) (beginning (bytes ++ left))) (sym (took-bytes calls commands))
            ∙ after-append calls (took commands ∷ []) start ∙ ap (after_took commands) stood ∙ stands_now;
      }

  follows-took : (kept : Option (List HostCall)) → old.calls ≡ kept
      → ((calls : List HostCall) (left : List ℕ) → old.calls ≡ Some calls → waiting old ≡ Some left → Follows (record { host = old; failed = failed }) calls left)
      → (calls : List HostCall) (left : List ℕ) → new.calls ≡ Some calls → waiting new ≡ Some left → Follows (record { host = new; failed = failed }) calls left
  follows-took None was follows calls left is now = absurd (no-calls (took commands) new.calls calls (told ∙ ap (λ (o : Option (List HostCall)). added o (took commands)) was) is)
  follows-took (Some before) was follows calls left is now =
      let same : before ++ took commands ∷ [] ≡ calls =
      some-calls (before ++ took commands ∷ []) calls (sym (told ∙ ap (λ (o : Option (List HostCall)). added o (took commands)) was) ∙ is) in
      subst (λ (cs : List HostCall). Follows (record { host = new; failed = failed }) cs left) same
      (took-follows before left (follows before left was (sym same_left ∙ now)))

  pub ordered-took : new.poisoned ≡ false → IsOrdered (record { host = old; failed = failed }) → IsOrdered (record { host = new; failed = failed })
  ordered-took usable ordered = record { usable = λ same. usable; follows = follows-took old.calls refl ordered.follows }
