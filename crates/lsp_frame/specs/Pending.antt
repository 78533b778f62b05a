-- The requests that wait for an answer: a finite map from tickets of ours to ids of the client. No two have one id.
use Rattle.std.specs.Prelude.{◌≡◌, ◌<◌, ◌⊎◌, ℕ, ℤ, List, Bool, false, Option, None, Some, is_some, refl}
use Rattle.std.specs.Coded.{Coded, code_by, coded_ℕ, coded_ℤ, coded_list, coded⊎}
use Rattle.std.specs.List.{find}
use Rattle.std.specs.Ordering.{nat_cmp, eq_by_cmp}
use Rattle.std.specs.FinMap as map
use Rattle.lsp_frame.specs.declared.incoming.Registered.{Registered}
use Rattle.lsp_frame.specs.declared.incoming.Registered.TheVariants.{New, AlreadyPending}
use Rattle.lsp_frame.specs.declared.message.RequestId.{RequestId}
use Rattle.std.proofs.Common.{inl, inr}
use Rattle.lsp_frame.specs.declared.message.RequestId.TheVariants.{Number, Text}
use Rattle.lsp_frame.specs.Ids.{id_cmp}

-- the id of each ticket that is pending
abbrev pub Pending : Type 0
Pending = map.FinMap nat_cmp RequestId

-- nothing is pending
unfoldable pub none_pending : Pending
none_pending = map.empty

-- the id of a ticket
abbrev pub id_of : ℕ → Pending → Option RequestId
id_of ticket p = map.get p ticket

-- whether what is there is this id
abbrev pub is_id : RequestId → Option RequestId → Bool
is_id id None = false
is_id id (Some other) = eq_by_cmp id_cmp id other

-- the ticket whose id it is
unfoldable pub ticket_of : RequestId → Pending → Option ℕ
ticket_of id p = find (λ ticket. is_id id (id_of ticket p)) (map.keys p)

-- whether a request of this id waits
abbrev pub is_pending : RequestId → Pending → Bool
is_pending id p = is_some (ticket_of id p)

-- a request comes, under this ticket
unfoldable pub registered : ℕ → RequestId → Pending → Pending
registered ticket id p = map.insert p ticket id

-- the request of a ticket is closed
unfoldable pub completed : ℕ → Pending → Pending
completed ticket p = map.remove p ticket

-- the request of an id is closed, where it is pending
abbrev pub closed_at : Option ℕ → Pending → Pending
closed_at None p = p
closed_at (Some ticket) p = completed ticket p

unfoldable pub closed : RequestId → Pending → Pending
closed id p = closed_at (ticket_of id p) p

-- no two tickets have one id
pub record AreDistinct (p : Pending) : Type 0 where
  pub same : (one other : ℕ) (id : RequestId) → id_of one p ≡ Some id → id_of other p ≡ Some id → one ≡ other

-- the ticket is above all that are pending
pub record IsAbove (ticket : ℕ) (p : Pending) : Type 0 where
  pub below : (other : ℕ) (id : RequestId) → id_of other p ≡ Some id → other < ticket

-- a request is registered where its id is not pending; else nothing changes, and the ticket is told under which it is
abbrev pub Registers : ℕ → RequestId → Pending → Pending → Registered → Type 0
Registers ticket id old new New = (ticket_of id old ≡ None) × (new ≡ registered ticket id old)
Registers ticket id old new (AlreadyPending other) = (ticket_of id old ≡ Some other) × (new ≡ old)

-- how the logic stores an id, and the pending requests
abbrev split : RequestId → ℤ ⊎ List ℕ
split (Number a) = inl a
split (Text s) = inr s

abbrev join : ℤ ⊎ List ℕ → RequestId
join (inl a) = Number a
join (inr s) = Text s

pub join-split : (id : RequestId) → join (split id) ≡ id
join-split (Number a) = refl
join-split (Text s) = refl

abbrev pub id_code : Coded RequestId
id_code = code_by (ℤ ⊎ List ℕ) (coded⊎ coded_ℤ (coded_list coded_ℕ)) split join join-split

abbrev pub pending_code : Coded Pending
pending_code = map.code coded_ℕ id_code
