-- Tickets that are above all that are pending.
use Rattle.std.proofs.Common.{◌≡◌, ◌+◌, ◌<◌, ◌≤◌, ℕ, Option, None, Some, refl, sym, ap, subst, ◌∙◌, arith}
use Rattle.std.specs.Ordering.{nat_cmp}
use Rattle.std.specs.Cmp.{nat_cmp_total}
use Rattle.std.specs.FinMap as map
use Rattle.lsp_frame.specs.declared.incoming.Registered.{Registered}
use Rattle.lsp_frame.specs.declared.incoming.Registered.TheVariants.{New, AlreadyPending}
use Rattle.lsp_frame.specs.declared.message.RequestId.{RequestId}
use Rattle.lsp_frame.specs.Pending.{Pending, IsAbove, Registers, id_of, ticket_of, none_pending, registered, closed}
use Rattle.lsp_frame.proofs.InStep.{some_not, either, waited, waits-completed, closed-is}

pub none_above : (n : ℕ) (p : Pending) → p ≡ none_pending → IsAbove n p
unfolding none_pending
none_above n p is = record { below = λ ticket id waits. some_not id (sym (map.get-empty nat_cmp ticket) ∙ ap (id_of ticket) (sym is) ∙ waits) }

pub later_above : (n m : ℕ) (p : Pending) → n ≤ m → IsAbove n p → IsAbove m p
later_above n m p le h = record { below = λ ticket id waits. let lt = h.below ticket id waits in omega (arith, le, lt) }

-- those up to a number were given, and the next number is above them
pub counted_above : (n m : ℕ) (p q : Pending) → m ≡ n + 1 → q ≡ p → IsAbove (n + 1) p → IsAbove m q
counted_above n m p q is same h = rw (is, same) h

registered_above : (n m : ℕ) (id : RequestId) (p : Pending) → n < m → IsAbove m p → IsAbove m (registered n id p)
registered_above n m id p lt h = record {
  below = λ ticket other waits. either nat_cmp_total map.nat_cmp-IsAntisymmetric ticket n
      (λ same. omega (arith, same, lt))
      (λ apart. h.below ticket other (waited n id p ticket other apart waits));
}

-- what registering leaves
pub registering_above : (n m : ℕ) (id : RequestId) (p q : Pending) (r : Registered) → n < m → Registers n id p q r → IsAbove m p → IsAbove m q
registering_above n m id p q New lt registers h = rw registers.1 (registered_above n m id p lt h)
registering_above n m id p q (AlreadyPending other) lt registers h = rw registers.1 h

-- what closing leaves
pub closed_above : (n : ℕ) (id : RequestId) (p q : Pending) → q ≡ closed id p → IsAbove n p → IsAbove n q
closed_above n id p q is h = rw is (by (ticket_of id p) refl)
  where
    by : (o : Option ℕ) → ticket_of id p ≡ o → IsAbove n (closed id p)
    by None none = subst (IsAbove n) (sym (closed-is id p None none)) h
    by (Some ticket) found = subst (IsAbove n) (sym (closed-is id p (Some ticket) found)) (record { below = λ t i waits. h.below t i (waits-completed ticket t i p waits).before })
