-- Two trees as the requests that are pending.
use Rattle.std.proofs.Common.{◌≡◌, ℕ, List, [], Bool, true, false, cond, Option, None, Some, refl, sym, ap, subst, ◌∙◌, Ordering}
use Rattle.std.specs.Map.{lookup}
use Rattle.std.specs.Ordering.{nat_cmp, eq_by_cmp}
use Rattle.std.specs.Cmp.{IsTotalOrder, Equal-is, nat_cmp_total}
use Rattle.std.specs.BTreeMap.{is_at}
use Rattle.std.specs.FinMap as map
use Rattle.plain.proofs.Mapped.{get-view, view-update}
use Rattle.lsp_frame.specs.declared.message.RequestId.{RequestId}
use Rattle.lsp_frame.specs.Ids.{id_cmp, id_cmp_total, id_cmp-IsAntisymmetric}
use Rattle.lsp_frame.specs.Indexed.{Index, InStep}
use Rattle.lsp_frame.specs.Pending.{Pending, AreDistinct, IsAbove, none_pending, id_of, ticket_of, registered, completed, closed}
use Rattle.lsp_frame.proofs.InStep.{InStep-distinct, index-finds, none-InStep, inserted-InStep, removed-InStep, free_above, closed-is}

module _ {K V : Type 0} {R : K → K → Ordering} (total : IsTotalOrder R) (same : map.IsAntisymmetric R) where
  -- a tree that answers as the old one does but at one key
  abbrev pub AnswersBut : List (K × V) → List (K × V) → K → Option V → Type 0
  AnswersBut new old k w = (q : K) → lookup (is_at (R q)) new ≡ cond (is_at (R k) q) w (lookup (is_at (R q)) old)

  told_by : (m : map.FinMap R V) (k : K) (w : Option V) → map.get m k ≡ w → (q : K) (b : Bool) → eq_by_cmp R q k ≡ b → map.get m q ≡ cond b w (map.get m q)
  told_by m k w is q true e = ap (map.get m) (same q k ((Equal-is (R q k)).0 e)) ∙ is
  told_by m k w is q false e = refl

  -- what is at a key, put there, changes nothing
  pub view-same : (new old : List (K × V)) (k : K) (w : Option V) → lookup (is_at (R k)) old ≡ w → AnswersBut new old k w → map.from_entries {R = R} new ≡ map.from_entries {R = R} old
  view-same new old k w is updates = view-update total same new old (map.from_entries old) k w
      (λ q. told_by (map.from_entries old) k w (get-view total old k ∙ is) q (eq_by_cmp R q k) refl) updates

  pub view-inserted : (new old : List (K × V)) (k : K) (v : V) → AnswersBut new old k (Some v) → map.from_entries {R = R} new ≡ map.insert (map.from_entries old) k v
  view-inserted new old k v updates = view-update total same new old _ k (Some v) (map.get-insert total _ k v) updates

  pub view-removed : (new old : List (K × V)) (k : K) → AnswersBut new old k None → map.from_entries {R = R} new ≡ map.remove (map.from_entries old) k
  view-removed new old k updates = view-update total same new old _ k None (map.get-remove total _ k) updates

  -- the second of two changes at a key stays
  twice : (b : Bool) (v w x y z : Option V) → x ≡ cond b w y → y ≡ cond b v z → x ≡ cond b w z
  twice true v w x y z p q = p
  twice false v w x y z p q = p ∙ q

  pub AnswersBut-twice : (new mid old : List (K × V)) (k : K) (v w : Option V) → AnswersBut new mid k w → AnswersBut mid old k v → AnswersBut new old k w
  AnswersBut-twice new mid old k v w p q = λ x. twice (is_at (R k) x) v w _ _ _ (p x) (q x)

abbrev pub Ids : Type 0
Ids = List (ℕ × RequestId)

abbrev pub Tickets : Type 0
Tickets = List (RequestId × ℕ)

abbrev same_tickets : map.IsAntisymmetric nat_cmp
same_tickets = map.nat_cmp-IsAntisymmetric

-- the requests of a tree, and the tickets of the other
abbrev pub pending_of : Ids → Pending
pending_of ids = map.from_entries ids

abbrev pub index_of : Tickets → Index
index_of tickets = map.from_entries tickets

pub none-view : (ids : Ids) → ids ≡ [] → pending_of ids ≡ none_pending
unfolding none_pending
none-view ids none = rw none refl

pub none-kept : (ids : Ids) (tickets : Tickets) → ids ≡ [] → tickets ≡ [] → InStep (pending_of ids) (index_of tickets)
none-kept ids tickets none nothing = rw (none, nothing) none-InStep

module _ (ids : Ids) (p : Pending) (is : pending_of ids ≡ p) where
  pub id_of-view : (ticket : ℕ) → lookup (is_at (nat_cmp ticket)) ids ≡ id_of ticket p
  id_of-view ticket = sym (get-view nat_cmp_total ids ticket) ∙ ap (id_of ticket) is

  -- a ticket above all is in no tree
  pub free-view : (ticket : ℕ) → IsAbove ticket p → lookup (is_at (nat_cmp ticket)) ids ≡ None
  free-view ticket above = id_of-view ticket ∙ free_above ticket p above

  module _ (new_ids : Ids) (ticket : ℕ) where
    pub registered-view : (id : RequestId) → AnswersBut nat_cmp_total same_tickets new_ids ids ticket (Some id) → pending_of new_ids ≡ registered ticket id p
    unfolding registered
    registered-view id by_ticket = rw (← is) (view-inserted nat_cmp_total same_tickets new_ids ids ticket id by_ticket)

    pub completed-view : AnswersBut nat_cmp_total same_tickets new_ids ids ticket None → pending_of new_ids ≡ completed ticket p
    unfolding completed
    completed-view by_ticket = rw (← is) (view-removed nat_cmp_total same_tickets new_ids ids ticket by_ticket)

  module _ (tickets : Tickets) (kept : InStep (pending_of ids) (index_of tickets)) where
    pub ticket_of-view : (id : RequestId) → lookup (is_at (id_cmp id)) tickets ≡ ticket_of id p
    ticket_of-view id = sym (get-view id_cmp_total tickets id) ∙ index-finds (pending_of ids) (index_of tickets) id kept ∙ ap (ticket_of id) is

    pub distinct-view : AreDistinct p
    distinct-view = subst AreDistinct is (InStep-distinct (pending_of ids) (index_of tickets) kept)

    -- a ticket and an id were put into the trees
    module _ (new_ids : Ids) (new_tickets : Tickets) (ticket : ℕ) (id : RequestId) where
      pub entered-kept : AnswersBut nat_cmp_total same_tickets new_ids ids ticket (Some id) → AnswersBut id_cmp_total id_cmp-IsAntisymmetric new_tickets tickets id (Some ticket)
          → IsAbove ticket p → ticket_of id p ≡ None → InStep (pending_of new_ids) (index_of new_tickets)
      entered-kept by_ticket by_id above new =
          rw (view-inserted nat_cmp_total same_tickets new_ids ids ticket id by_ticket, view-inserted id_cmp_total id_cmp-IsAntisymmetric new_tickets tickets id ticket by_id)
          (inserted-InStep ticket id (pending_of ids) (index_of tickets) (ap (id_of ticket) is ∙ free_above ticket p above) (ap (ticket_of id) is ∙ new) kept)

      -- and taken out of them
      pub left-kept : AnswersBut nat_cmp_total same_tickets new_ids ids ticket None → AnswersBut id_cmp_total id_cmp-IsAntisymmetric new_tickets tickets id None
          → id_of ticket p ≡ Some id → InStep (pending_of new_ids) (index_of new_tickets)
      left-kept by_ticket by_id has =
          rw (view-removed nat_cmp_total same_tickets new_ids ids ticket by_ticket, view-removed id_cmp_total id_cmp-IsAntisymmetric new_tickets tickets id by_id)
          (removed-InStep ticket id (pending_of ids) (index_of tickets) (ap (id_of ticket) is ∙ has) kept)

-- a tree that answers as before
pub ids-as_before : (ids new_ids : Ids) (ticket : ℕ) → lookup (is_at (nat_cmp ticket)) ids ≡ None → AnswersBut nat_cmp_total same_tickets new_ids ids ticket None → pending_of new_ids ≡ pending_of ids
ids-as_before ids new_ids ticket none updates = view-same nat_cmp_total same_tickets new_ids ids ticket None none updates

-- where nothing is found, nothing is closed
pub closed-none : (id : RequestId) (p : Pending) → ticket_of id p ≡ None → closed id p ≡ p
closed-none id p none = closed-is id p None none
