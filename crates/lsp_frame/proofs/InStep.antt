-- The ids that are pending are distinct, and the tickets of the ids are in step with them.
use Rattle.std.proofs.Common.{◌≡◌, ◌≢◌, ◌↔◌, ◌||◌, ℕ, Bool, true, false, List, [], ◌∷◌, Option, None, Some, Ordering, refl, sym, ap, subst, ◌∙◌, arith}
use Rattle.std.specs.Prelude.{is_some}
use Rattle.std.specs.List.{find, list_any}
use Rattle.std.specs.Ordering.{nat_cmp, eq_by_cmp}
use Rattle.std.specs.Cmp.{IsTotalOrder, Equal-is, eq_by_cmp_equiv, nat_cmp_total}
use Rattle.std.specs.FinMap as map
use Rattle.std.proofs.lemmas.Bool.{false≢true, cond-true, cond-false}
use Rattle.lsp_frame.specs.declared.message.RequestId.{RequestId}
use Rattle.lsp_frame.specs.Ids.{id_cmp, id_cmp_total, id_cmp-IsAntisymmetric}
use Rattle.lsp_frame.specs.Indexed.{Index, InStep}
use Rattle.lsp_frame.specs.Pending.{Pending, AreDistinct, IsAbove, none_pending, id_of, is_id, ticket_of, is_pending, registered, completed, closed, closed_at}

pub some_not : {A P : Type 0} (x : A) → None ≡ Some x → P
some_not x e = absurd cc

some_same : {A : Type 0} (x y : A) → Some x ≡ Some y → x ≡ y
some_same x y e = cc

module _ {K : Type 0} {R : K → K → Ordering} (total : IsTotalOrder R) (same : map.IsAntisymmetric R) where
  -- a key is the one that was changed, or another
  pub either : {P : Type 0} (q k : K) → (q ≡ k → P) → (q ≢ k → P) → P
  either {P} q k equal other = by (eq_by_cmp R q k) refl
    where
      by : (b : Bool) → eq_by_cmp R q k ≡ b → P
      by true e = equal (same q k ((Equal-is (R q k)).0 e))
      by false e = other (λ is. false≢true (sym e ∙ ap (eq_by_cmp R q) (sym is) ∙ (eq_by_cmp_equiv total).refl q))

  other_by : (b : Bool) (q k : K) → eq_by_cmp R q k ≡ b → q ≢ k → eq_by_cmp R q k ≡ false
  other_by true q k e other = absurd (other (same q k ((Equal-is (R q k)).0 e)))
  other_by false q k e other = e

  module _ {V : Type 0} (m : map.FinMap R V) (k : K) where
    pub get-insert_same : (v : V) → map.get (map.insert m k v) k ≡ Some v
    get-insert_same v = map.get-insert total m k v k ∙ cond-true _ _ _ ((eq_by_cmp_equiv total).refl k)

    pub get-insert_other : (v : V) (q : K) → q ≢ k → map.get (map.insert m k v) q ≡ map.get m q
    get-insert_other v q other = map.get-insert total m k v q ∙ cond-false _ _ _ (other_by (eq_by_cmp R q k) q k refl other)

    pub get-remove_same : map.get (map.remove m k) k ≡ None
    get-remove_same = map.get-remove total m k k ∙ cond-true _ _ _ ((eq_by_cmp_equiv total).refl k)

    pub get-remove_other : (q : K) → q ≢ k → map.get (map.remove m k) q ≡ map.get m q
    get-remove_other q other = map.get-remove total m k q ∙ cond-false _ _ _ (other_by (eq_by_cmp R q k) q k refl other)

    -- what is put and taken again leaves nothing
    pub remove-insert : (v : V) → map.get m k ≡ None → map.remove (map.insert m k v) k ≡ m
    remove-insert v none = map.same_map total same _ _ (λ q. either q k
        (λ is. ap (map.get (map.remove (map.insert m k v) k)) is ∙ map.get-remove total (map.insert m k v) k k ∙ cond-true _ _ _ ((eq_by_cmp_equiv total).refl k) ∙ sym (ap (map.get m) is ∙ none))
        (λ other. map.get-remove total (map.insert m k v) k q ∙ cond-false _ _ _ (other_by (eq_by_cmp R q k) q k refl other) ∙ get-insert_other v q other))

    pub remove-none : map.get m k ≡ None → map.remove m k ≡ m
    remove-none none = map.same_map total same _ _ (λ q. either q k
        (λ is. ap (map.get (map.remove m k)) is ∙ get-remove_same ∙ sym (ap (map.get m) is ∙ none))
        (λ other. get-remove_other q other))

abbrev ids_same : map.IsAntisymmetric nat_cmp
ids_same = map.nat_cmp-IsAntisymmetric

-- the first element that passes
find-passes : (test : ℕ → Bool) (ks : List ℕ) (t : ℕ) → find test ks ≡ Some t → test t ≡ true
find-passes test [] t e = some_not t e
find-passes test (k ∷ ks) t e = by (test k) refl (find-passes test ks t)
  where
    by : (b : Bool) → test k ≡ b → (find test ks ≡ Some t → test t ≡ true) → test t ≡ true
    by true is later = ap test (sym (some_same k t (sym (cond-true (test k) (Some k) (find test ks) is) ∙ e))) ∙ is
    by false is later = later (sym (cond-false (test k) (Some k) (find test ks) is) ∙ e)

either_of : (b c : Bool) → b ≡ false → b || c ≡ true → c ≡ true
either_of true c is e = absurd (false≢true (sym is))
either_of false c is e = e

record Found (test : ℕ → Bool) (ks : List ℕ) : Type 0 where
  at : ℕ
  is : find test ks ≡ Some at

find-found : (test : ℕ → Bool) (ks : List ℕ) (t : ℕ) → list_any (eq_by_cmp nat_cmp t) ks ≡ true → test t ≡ true → Found test ks
find-found test [] t any passes = absurd (false≢true any)
find-found test (k ∷ ks) t any passes = by (test k) refl (λ more. find-found test ks t more passes)
  where
    by : (b : Bool) → test k ≡ b → (list_any (eq_by_cmp nat_cmp t) ks ≡ true → Found test ks) → Found test (k ∷ ks)
    by true is more = record { at = k; is = cond-true (test k) (Some k) (find test ks) is }
    by false is more =
        let apart : eq_by_cmp nat_cmp t k ≡ false = other_by nat_cmp_total ids_same (eq_by_cmp nat_cmp t k) t k refl (λ same. false≢true (sym is ∙ ap test (sym same) ∙ passes)) in
        let later = more (either_of (eq_by_cmp nat_cmp t k) (list_any (eq_by_cmp nat_cmp t) ks) apart any) in
        record { at = later.at; is = cond-false (test k) (Some k) (find test ks) is ∙ later.is }

is_id-is : (id : RequestId) (o : Option RequestId) → is_id id o ≡ true → o ≡ Some id
is_id-is id None e = absurd (false≢true e)
is_id-is id (Some other) e = ap Some (sym (id_cmp-IsAntisymmetric id other ((Equal-is (id_cmp id other)).0 e)))

is_id-same : (id : RequestId) → is_id id (Some id) ≡ true
is_id-same id = (eq_by_cmp_equiv id_cmp_total).refl id

-- the ticket that is found has the id
pub ticket_of-is : (ticket : ℕ) (id : RequestId) (p : Pending) → ticket_of id p ≡ Some ticket → id_of ticket p ≡ Some id
unfolding ticket_of
ticket_of-is ticket id p e = is_id-is id (id_of ticket p) (find-passes (λ t. is_id id (id_of t p)) (map.keys p) ticket e)

ticket_of-found : (ticket : ℕ) (id : RequestId) (p : Pending) → id_of ticket p ≡ Some id → (other : ℕ) × (ticket_of id p ≡ Some other)
unfolding ticket_of
ticket_of-found ticket id p is =
    let found = find-found (λ t. is_id id (id_of t p)) (map.keys p) ticket (sym (map.contains_key-keys p ticket) ∙ ap is_some is) (ap (is_id id) is ∙ is_id-same id) in
    (found.at, found.is)

pub is_pending-found : (ticket : ℕ) (id : RequestId) (p : Pending) → id_of ticket p ≡ Some id → is_pending id p ≡ true
is_pending-found ticket id p is = let found = ticket_of-found ticket id p is in ap is_some found.1

-- where the ids are distinct, it is the only one
pub ticket_of-only : (ticket : ℕ) (id : RequestId) (p : Pending) → AreDistinct p → id_of ticket p ≡ Some id → ticket_of id p ≡ Some ticket
ticket_of-only ticket id p h is =
    let found = ticket_of-found ticket id p is in
    found.1 ∙ ap Some (h.same found.0 ticket id (ticket_of-is found.0 id p found.1) is)

pub found-only : (ticket : ℕ) (id : RequestId) (p : Pending) → AreDistinct p → (id_of ticket p ≡ Some id) ↔ (ticket_of id p ≡ Some ticket)
found-only ticket id p h = (λ is. ticket_of-only ticket id p h is, λ is. ticket_of-is ticket id p is)

-- no ticket has an id that is not pending
pub unheld : (ticket : ℕ) (id : RequestId) (p : Pending) → ticket_of id p ≡ None → id_of ticket p ≡ Some id → ⊥
unheld ticket id p none is = let found = ticket_of-found ticket id p is in some_not found.0 (sym none ∙ found.1)

-- a ticket above all is free
pub free_above : (ticket : ℕ) (p : Pending) → IsAbove ticket p → id_of ticket p ≡ None
free_above ticket p above = by (id_of ticket p) refl
  where
    by : (o : Option RequestId) → id_of ticket p ≡ o → o ≡ None
    by None is = refl
    by (Some id) is = let lt = above.below ticket id is in absurd (omega (arith, lt))

-- what comes and goes leaves the ids distinct
pub none-distinct : AreDistinct none_pending
unfolding none_pending
none-distinct = record { same = λ one other id p q. some_not id (sym (map.get-empty nat_cmp one) ∙ p) }

-- what waits after a request came waited before, or is that request
pub waited : (ticket : ℕ) (id : RequestId) (p : Pending) (t : ℕ) (i : RequestId) → t ≢ ticket → id_of t (registered ticket id p) ≡ Some i → id_of t p ≡ Some i
unfolding registered
waited ticket id p t i other is = sym (get-insert_other nat_cmp_total ids_same p ticket id t other) ∙ is

pub id_of-registered : (ticket : ℕ) (id : RequestId) (p : Pending) → id_of ticket (registered ticket id p) ≡ Some id
unfolding registered
id_of-registered ticket id p = get-insert_same nat_cmp_total ids_same p ticket id

pub registered-distinct : (ticket : ℕ) (id : RequestId) (p : Pending) → ticket_of id p ≡ None → AreDistinct p → AreDistinct (registered ticket id p)
registered-distinct ticket id p new h = record {
  same = λ one other i a b. either nat_cmp_total ids_same one ticket
      (λ first. either nat_cmp_total ids_same other ticket
      (λ second. first ∙ sym second)
      (λ apart. absurd (unheld other id p new (waited ticket id p other id apart (b ∙ ap Some (its one i first a))))))
      (λ apart. either nat_cmp_total ids_same other ticket
      (λ second. absurd (unheld one id p new (waited ticket id p one id apart (a ∙ ap Some (its other i second b)))))
      (λ elsewhere. h.same one other i (waited ticket id p one i apart a) (waited ticket id p other i elsewhere b)));
}
  where
    its : (t : ℕ) (i : RequestId) → t ≡ ticket → id_of t (registered ticket id p) ≡ Some i → i ≡ id
    its t i same is = some_same i id (sym is ∙ ap (λ u. id_of u (registered ticket id p)) same ∙ id_of-registered ticket id p)

-- what waits after one was closed
pub record Waits (ticket t : ℕ) (i : RequestId) (p : Pending) : Type 0 where
  pub other : t ≢ ticket
  pub before : id_of t p ≡ Some i

pub id_of-completed : (ticket : ℕ) (p : Pending) → id_of ticket (completed ticket p) ≡ None
unfolding completed
id_of-completed ticket p = get-remove_same nat_cmp_total ids_same p ticket

pub id_of-completed_other : (ticket t : ℕ) (p : Pending) → t ≢ ticket → id_of t (completed ticket p) ≡ id_of t p
unfolding completed
id_of-completed_other ticket t p other = get-remove_other nat_cmp_total ids_same p ticket t other

pub waits-completed : (ticket t : ℕ) (i : RequestId) (p : Pending) → id_of t (completed ticket p) ≡ Some i → Waits ticket t i p
waits-completed ticket t i p is = either nat_cmp_total ids_same t ticket
    (λ same. some_not i (sym (id_of-completed ticket p) ∙ ap (λ u. id_of u (completed ticket p)) (sym same) ∙ is))
    (λ other. record { other = other; before = sym (id_of-completed_other ticket t p other) ∙ is })

pub completed-distinct : (ticket : ℕ) (p : Pending) → AreDistinct p → AreDistinct (completed ticket p)
completed-distinct ticket p h = record { same = λ one other i a b. h.same one other i (waits-completed ticket one i p a).before (waits-completed ticket other i p b).before }

pub closed-is : (id : RequestId) (p : Pending) (o : Option ℕ) → ticket_of id p ≡ o → closed id p ≡ closed_at o p
unfolding closed
closed-is id p o is = ap (λ found. closed_at found p) is

pub closed-distinct : (id : RequestId) (p : Pending) → AreDistinct p → AreDistinct (closed id p)
closed-distinct id p h = by (ticket_of id p) refl
  where
    by : (o : Option ℕ) → ticket_of id p ≡ o → AreDistinct (closed id p)
    by None is = subst AreDistinct (sym (closed-is id p None is)) h
    by (Some ticket) is = subst AreDistinct (sym (closed-is id p (Some ticket) is)) (completed-distinct ticket p h)

-- to close by the ticket is to close by its id
pub completed-closed : (ticket : ℕ) (id : RequestId) (p : Pending) → AreDistinct p → id_of ticket p ≡ Some id → completed ticket p ≡ closed id p
completed-closed ticket id p h is = sym (closed-is id p (Some ticket) (ticket_of-only ticket id p h is))

-- a request that comes and is closed leaves nothing
pub closed-registered : (ticket : ℕ) (id : RequestId) (p : Pending) → id_of ticket p ≡ None → ticket_of id p ≡ None → AreDistinct p → closed id (registered ticket id p) ≡ p
unfolding registered completed
closed-registered ticket id p free new h =
    sym (completed-closed ticket id (registered ticket id p) (registered-distinct ticket id p new h) (id_of-registered ticket id p))
    ∙ remove-insert nat_cmp_total ids_same p ticket id free

-- tickets and ids in step
pub InStep-distinct : (p : Pending) (index : Index) → InStep p index → AreDistinct p
InStep-distinct p index h = record { same = λ one other id a b. some_same one other (sym ((h.both one id).0 a) ∙ (h.both other id).0 b) }

-- the index finds the ticket
pub index-finds : (p : Pending) (index : Index) (id : RequestId) → InStep p index → map.get index id ≡ ticket_of id p
index-finds p index id h = by (map.get index id) refl
  where
    none : (o : Option ℕ) → map.get index id ≡ None → ticket_of id p ≡ o → None ≡ o
    none None is found = refl
    none (Some t) is found = some_not t (sym is ∙ (h.both t id).0 (ticket_of-is t id p found))

    by : (o : Option ℕ) → map.get index id ≡ o → o ≡ ticket_of id p
    by None is = none (ticket_of id p) is refl
    by (Some t) is = sym (ticket_of-only t id p (InStep-distinct p index h) ((h.both t id).1 is))

abbrev Both : Pending → Index → ℕ → RequestId → Type 0
Both p index ticket id = (id_of ticket p ≡ Some id) ↔ (map.get index id ≡ Some ticket)

neither : (p : Pending) (index : Index) (ticket : ℕ) (id : RequestId) → (id_of ticket p ≡ Some id → ⊥) → (map.get index id ≡ Some ticket → ⊥) → Both p index ticket id
neither p index ticket id left right = (λ e. absurd (left e), λ e. absurd (right e))

as_before : (p q : Pending) (index jndex : Index) (ticket : ℕ) (id : RequestId) → id_of ticket q ≡ id_of ticket p → map.get jndex id ≡ map.get index id → Both p index ticket id → Both q jndex ticket id
as_before p q index jndex ticket id ids tickets both = (λ e. tickets ∙ both.0 (sym ids ∙ e), λ e. ids ∙ both.1 (sym tickets ∙ e))

by_keys : (p q : Pending) (index jndex : Index) (ticket : ℕ) (id : RequestId) → InStep p index → ((t : ℕ) → t ≢ ticket → id_of t q ≡ id_of t p) → ((i : RequestId) → i ≢ id → map.get jndex i ≡ map.get index i)
    → Both q jndex ticket id → ((i : RequestId) → i ≢ id → Both q jndex ticket i) → ((t : ℕ) → t ≢ ticket → Both q jndex t id) → InStep q jndex
by_keys p q index jndex ticket id h ids tickets here above beside = record { both = both }
  where
    both : (t : ℕ) (i : RequestId) → Both q jndex t i
    both t i = either nat_cmp_total ids_same t ticket
        (λ at. either id_cmp_total id_cmp-IsAntisymmetric i id (λ is. rw (at, is) here) (λ other. rw at (above i other)))
        (λ off. either id_cmp_total id_cmp-IsAntisymmetric i id (λ is. rw is (beside t off)) (λ other. as_before p q index jndex t i (ids t off) (tickets i other) (h.both t i)))

pub none-InStep : InStep map.empty map.empty
none-InStep = record {
  both = λ ticket id. (λ e. some_not id (sym (map.get-empty nat_cmp ticket) ∙ e), λ e. some_not ticket (sym (map.get-empty id_cmp id) ∙ e));
}

pub inserted-InStep : (ticket : ℕ) (id : RequestId) (p : Pending) (index : Index) → id_of ticket p ≡ None → ticket_of id p ≡ None → InStep p index → InStep (map.insert p ticket id) (map.insert index id ticket)
inserted-InStep ticket id p index free new h =
    let q = map.insert p ticket id in
    let jndex = map.insert index id ticket in
    let ids = get-insert_same nat_cmp_total ids_same p ticket id in
    let tickets = get-insert_same id_cmp_total id_cmp-IsAntisymmetric index id ticket in
    by_keys p q index jndex ticket id h (get-insert_other nat_cmp_total ids_same p ticket id) (get-insert_other id_cmp_total id_cmp-IsAntisymmetric index id ticket)
    (λ _. tickets, λ _. ids)
    (λ i other. neither q jndex ticket i
    (λ e. other (sym (some_same id i (sym ids ∙ e))))
    (λ e. some_not i (sym free ∙ (h.both ticket i).1 (sym (get-insert_other id_cmp_total id_cmp-IsAntisymmetric index id ticket i other) ∙ e))))
    (λ t off. neither q jndex t id
    (λ e. unheld t id p new (sym (get-insert_other nat_cmp_total ids_same p ticket id t off) ∙ e))
    (λ e. off (sym (some_same ticket t (sym tickets ∙ e)))))

pub removed-InStep : (ticket : ℕ) (id : RequestId) (p : Pending) (index : Index) → id_of ticket p ≡ Some id → InStep p index → InStep (map.remove p ticket) (map.remove index id)
removed-InStep ticket id p index is h =
    let q = map.remove p ticket in
    let jndex = map.remove index id in
    let has : map.get index id ≡ Some ticket = (h.both ticket id).0 is in
    let ids = get-remove_same nat_cmp_total ids_same p ticket in
    let tickets = get-remove_same id_cmp_total id_cmp-IsAntisymmetric index id in
    by_keys p q index jndex ticket id h (get-remove_other nat_cmp_total ids_same p ticket) (get-remove_other id_cmp_total id_cmp-IsAntisymmetric index id)
    (neither q jndex ticket id (λ e. some_not id (sym ids ∙ e)) (λ e. some_not ticket (sym tickets ∙ e)))
    (λ i other. neither q jndex ticket i
    (λ e. some_not i (sym ids ∙ e))
    (λ e. other (some_same i id (sym ((h.both ticket i).1 (sym (get-remove_other id_cmp_total id_cmp-IsAntisymmetric index id i other) ∙ e)) ∙ is))))
    (λ t off. neither q jndex t id
    (λ e. off (some_same t ticket (sym ((h.both t id).0 (sym (get-remove_other nat_cmp_total ids_same p ticket t off) ∙ e)) ∙ has)))
    (λ e. some_not t (sym tickets ∙ e)))
