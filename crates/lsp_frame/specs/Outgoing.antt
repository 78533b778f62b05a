-- The requests of the server's own that wait for an answer: how many numbers were given, and what is to follow each that waits.
use Rattle.std.specs.Prelude.{◌≡◌, ◌<◌, ◌≤◌, ◌+◌, ℕ, pos, negsuc, Option, None, Some, option_and_then, refl}
use Rattle.std.specs.Coded.{Coded, code_by, coded_ℕ, coded×}
use Rattle.std.specs.Ordering.{nat_cmp}
use Rattle.std.specs.FinMap as map
use Rattle.lsp_frame.specs.declared.message.RequestId.{RequestId}
use Rattle.lsp_frame.specs.declared.message.RequestId.TheVariants.{Number, Text}

pub record Outgoing (K : Type 0) : Type 0 where
  -- how many numbers were given: 0, 1, 2 and so on
  pub given : ℕ
  -- what is to follow the answer to each request that waits, by its number
  pub waiting : map.FinMap nat_cmp K

-- how many numbers there are
abbrev pub number_limit : ℕ
number_limit = 2147483648

-- each number that waits was given, and no more were given than there are
pub record AreGiven {K : Type 0} (o : Outgoing K) : Type 0 where
  pub below : (number : ℕ) (then : K) → map.get o.waiting number ≡ Some then → number < o.given
  pub within : o.given ≤ number_limit

-- so many numbers were given, and none waits
abbrev pub none_waiting : {K : Type 0} → ℕ → Outgoing K
none_waiting given = record { given = given; waiting = map.empty }

-- the next number is given, and waits
abbrev pub registered : {K : Type 0} → K → Outgoing K → Outgoing K
registered then o = record { given = o.given + 1; waiting = map.insert o.waiting o.given then }

-- the number that an id is; a text is none of ours
abbrev pub number_of : RequestId → Option ℕ
number_of (Number (pos n)) = Some n
number_of (Number (negsuc n)) = None
number_of (Text s) = None

-- what is to follow the answer to this id, where it waits
abbrev pub waiting_at : {K : Type 0} → RequestId → Outgoing K → Option K
waiting_at id o = option_and_then (map.get o.waiting) (number_of id)

-- the number waits no more
abbrev pub without : {K : Type 0} → Option ℕ → Outgoing K → Outgoing K
without None o = o
without (Some number) o = record o { waiting = map.remove o.waiting number }

-- the request of this id is answered
abbrev pub completed : {K : Type 0} → RequestId → Outgoing K → Outgoing K
completed id o = without (number_of id) o

-- how the logic stores them
abbrev pub outgoing_code : {K : Type 0} → Coded K → Coded (Outgoing K)
outgoing_code {K} code =
    code_by (ℕ × map.FinMap nat_cmp K) (coded× coded_ℕ (map.code coded_ℕ code)) (λ o. (o.given, o.waiting)) (λ p. record { given = p.0; waiting = p.1 }) (λ _. refl)
