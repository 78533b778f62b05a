-- Numbers that were given.
use Rattle.std.proofs.Common.{◌≡◌, ◌≢◌, ◌<◌, ◌≤◌, ◌+◌, ℕ, Option, None, Some, refl, sym, ap, ◌∙◌, arith}
use Rattle.std.specs.Ordering.{nat_cmp}
use Rattle.std.specs.Cmp.{nat_cmp_total}
use Rattle.std.specs.FinMap as map
use Rattle.lsp_frame.specs.declared.message.RequestId.{RequestId}
use Rattle.lsp_frame.proofs.InStep.{either, some_not, get-insert_other, get-remove_same, get-remove_other}
use Rattle.lsp_frame.specs.Outgoing.{Outgoing, AreGiven, number_limit, none_waiting, registered, number_of, without, completed}

-- a number is the one that changed, or another
at : {P : Type 0} (number other : ℕ) → (number ≡ other → P) → (number ≢ other → P) → P
at number other equal apart = either nat_cmp_total map.nat_cmp-IsAntisymmetric number other equal apart

module _ {K : Type 0} where
  pub none_given : (given : ℕ) → given ≤ number_limit → AreGiven {K = K} (none_waiting given)
  none_given given le = record {
    below = λ number then waits. some_not then (sym (map.get-empty nat_cmp number) ∙ waits);
    within = le;
  }

  pub registered_given : (then : K) (o : Outgoing K) → o.given < number_limit → AreGiven o → AreGiven (registered then o)
  registered_given then o lt h = record {
    below = λ number other waits. at number o.given
        (λ same. omega (arith, same))
        (λ apart. let below = h.below number other (sym (get-insert_other nat_cmp_total map.nat_cmp-IsAntisymmetric o.waiting o.given then number apart) ∙ waits) in omega (arith, below));
    within = omega (arith, lt);
  }

  pub without_given : (number : Option ℕ) (o : Outgoing K) → AreGiven o → AreGiven (without number o)
  without_given None o h = h
  without_given (Some number) o h = record {
    below = λ one then waits. at one number
        (λ same. some_not then (sym (get-remove_same nat_cmp_total map.nat_cmp-IsAntisymmetric o.waiting number) ∙ sym (ap (map.get (map.remove o.waiting number)) same) ∙ waits))
        (λ apart. h.below one then (sym (get-remove_other nat_cmp_total map.nat_cmp-IsAntisymmetric o.waiting number one apart) ∙ waits));
    within = h.within;
  }

  pub completed_given : (id : RequestId) (o : Outgoing K) → AreGiven o → AreGiven (completed id o)
  completed_given id o h = without_given (number_of id) o h

  pub next_fresh : (o : Outgoing K) → AreGiven o → map.get o.waiting o.given ≡ None
  next_fresh o h = by (map.get o.waiting o.given) refl
    where
      by : (found : Option K) → map.get o.waiting o.given ≡ found → map.get o.waiting o.given ≡ None
      by None is = is
      by (Some then) is = absurd (let lt = h.below o.given then is in omega (arith, lt))

  -- the same of the two parts that are kept
  module _ (given : ℕ) (waiting new : map.FinMap nat_cmp K) (kept : AreGiven {K = K} (record { given = given; waiting = waiting })) where
    pub registered-kept : (then : K) → given < number_limit → new ≡ map.insert waiting given then → AreGiven {K = K} (record { given = given + 1; waiting = new })
    registered-kept then lt is = rw is (registered_given then (record { given = given; waiting = waiting }) lt kept)

    pub removed-kept : (number : ℕ) → new ≡ map.remove waiting number → AreGiven {K = K} (record { given = given; waiting = new })
    removed-kept number is = rw is (without_given (Some number) (record { given = given; waiting = waiting }) kept)
