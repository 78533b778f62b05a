-- The timer that is kept is the newest, if none was given since it was set.
use Rattle.std.proofs.Common.{◌≡◌, ℕ, ◌≤◌, List, [], ◌∷◌, ◌++◌, length, length-append, Option, None, Some, refl, sym, ap, subst, ◌∙◌, ◌↔◌, append-nil, arith}
use Rattle.std.specs.Prelude.{option_to_list}
use Rattle.host_orders.specs.declared.due_reply.DueReply.{DueReply}
use Rattle.host_orders.specs.declared.due_reply.DueReply.TheVariants.{Loader, Deferred, Timer}
use Rattle.host_orders.specs.HostOrders.{next, after_next}
use Rattle.host_orders.specs.Runs.{Act, kept_after, given, tickets_in, HasNoTimer, IsNewestTimer}
use Rattle.host_orders.specs.Runs.Act.{SetsLoader, Defers, SetsTimer, Gives}
use Rattle.host_orders.proofs.Given.{of_three, before_timer}

inside : (x y : ℕ) → Some x ≡ Some y → x ≡ y
inside x y e = cc

module _ {D : Type 0} where
  tickets_in-append : (xs ys : List (DueReply D)) → tickets_in (xs ++ ys) ≡ tickets_in xs ++ tickets_in ys
  tickets_in-append [] ys = refl
  tickets_in-append (Loader version ∷ xs) ys = tickets_in-append xs ys
  tickets_in-append (Deferred tasks ∷ xs) ys = tickets_in-append xs ys
  tickets_in-append (Timer ticket ∷ xs) ys = ap (λ l. ticket ∷ l) (tickets_in-append xs ys)

  waited_on : (loaders : List ℕ) (deferred : List D) (timer : Option ℕ) (ticket : ℕ) → (after_next (of_three loaders deferred timer)).timer ≡ Some ticket
      → (timer ≡ Some ticket) × (tickets_in (option_to_list (next (of_three loaders deferred timer))) ≡ [])
  waited_on (version ∷ rest) deferred timer ticket is = (is, refl)
  waited_on [] (task ∷ rest) timer ticket is = (is, refl)
  waited_on [] [] (Some other) ticket is = absurd cc
  waited_on [] [] None ticket is = absurd cc

  waits_on : (loaders : List ℕ) (deferred : List D) (timer : Option ℕ) (ticket : ℕ)
      → length (tickets_in (option_to_list (next (of_three loaders deferred timer)))) ≡ 0 → timer ≡ Some ticket
      → (after_next (of_three loaders deferred timer)).timer ≡ Some ticket
  waits_on (version ∷ rest) deferred timer ticket none is = is
  waits_on [] (task ∷ rest) timer ticket none is = is
  waits_on [] [] (Some other) ticket none is = absurd (omega (arith, none))
  waits_on [] [] None ticket none is = is

  newest_is : (ticket : ℕ) (run : List (Act D)) → (kept_after run).timer ≡ Some ticket → IsNewestTimer ticket run
  newest_is ticket [] is = absurd cc
  newest_is ticket (SetsLoader version ∷ before) is =
      let k = newest_is ticket before is in
      record {
        since = SetsLoader version ∷ k.since;
        before = k.before;
        split = ap (λ run. SetsLoader version ∷ run) k.split;
        newest = k.newest;
        waits = k.waits;
      }
  newest_is ticket (Defers task ∷ before) is =
      let k = newest_is ticket before is in
      record { since = Defers task ∷ k.since; before = k.before; split = ap (λ run. Defers task ∷ run) k.split; newest = k.newest; waits = k.waits }
  newest_is ticket (SetsTimer other ∷ before) is =
      record { since = []; before = before; split = λ i. SetsTimer (inside other ticket is i) ∷ before; newest = tt; waits = refl }
  newest_is ticket (Gives ∷ before) is =
      let o = kept_after before in
      let parts = waited_on o.loaders o.deferred o.timer ticket is in
      let k = newest_is ticket before parts.0 in
      record {
        since = Gives ∷ k.since;
        before = k.before;
        split = ap (λ run. Gives ∷ run) k.split;
        newest = k.newest;
        waits = tickets_in-append (given before) (option_to_list (next o))
            ∙ ap (λ l. tickets_in (given before) ++ l) parts.1
            ∙ append-nil (tickets_in (given before))
            ∙ k.waits;
      }

  -- a longer run gave no fewer timers
  longer : (since before : List (Act D)) → length (tickets_in (given before)) ≤ length (tickets_in (given (since ++ before)))
  longer [] before = omega arith
  longer (SetsLoader version ∷ since) before = longer since before
  longer (Defers task ∷ since) before = longer since before
  longer (SetsTimer ticket ∷ since) before = longer since before
  longer (Gives ∷ since) before =
      let run = since ++ before in
      let more = option_to_list (next (kept_after run)) in
      omega (arith, longer since before, ap length (tickets_in-append (given run) more), length-append (tickets_in (given run)) (tickets_in more))

  waits_since : (ticket : ℕ) (since before : List (Act D)) → HasNoTimer since
      → length (tickets_in (given (since ++ SetsTimer ticket ∷ before))) ≡ length (tickets_in (given before))
      → (kept_after (since ++ SetsTimer ticket ∷ before)).timer ≡ Some ticket
  waits_since ticket [] before newest same = refl
  waits_since ticket (SetsLoader version ∷ since) before newest same = waits_since ticket since before newest same
  waits_since ticket (Defers task ∷ since) before newest same = waits_since ticket since before newest same
  waits_since ticket (SetsTimer other ∷ since) before newest same = absurd newest
  waits_since ticket (Gives ∷ since) before newest same =
      let run = since ++ SetsTimer ticket ∷ before in
      let o = kept_after run in
      let more = option_to_list (next o) in
      let joined = ap length (tickets_in-append (given run) more) in
      let split = length-append (tickets_in (given run)) (tickets_in more) in
      let low = longer since (SetsTimer ticket ∷ before) in
      let kept : length (tickets_in (given run)) ≡ length (tickets_in (given before)) = omega (arith, same, joined, split, low) in
      let none : length (tickets_in more) ≡ 0 = omega (arith, same, joined, split, low) in
      waits_on o.loaders o.deferred o.timer ticket none (waits_since ticket since before newest kept)

  pub newest_timer : (run : List (Act D)) (ticket : ℕ) → ((kept_after run).timer ≡ Some ticket) ↔ IsNewestTimer ticket run
  newest_timer run ticket = (
    λ is. newest_is ticket run is,
    λ k. subst (λ run. (kept_after run).timer ≡ Some ticket) (sym k.split)
        (waits_since ticket k.since k.before k.newest (ap length (sym (ap (λ run. tickets_in (given run)) k.split) ∙ k.waits))),
  )

  pub newest_given : (run : List (Act D)) (ticket : ℕ) → next (kept_after run) ≡ Some (Timer ticket) → IsNewestTimer ticket run
  newest_given run ticket is =
      let o = kept_after run in newest_is ticket run (before_timer o.loaders o.deferred o.timer ticket is).2
