-- What responses answer waits no more, and no request is answered twice by them.
use Rattle.std.proofs.Common.{◌≡◌, ℕ, ◌+◌, List, [], ◌∷◌, ◌++◌, length, Bool, true, false, refl, sym, ap, ◌∙◌, subst, arith, inl, inr}
use Rattle.std.specs.Prelude.{◌⊎◌, Option, None, Some, is_some}
use Rattle.std.specs.Option.{option_to_list}
use Rattle.lsp_frame.specs.Pending.{Pending, id_of, is_pending, registered, completed, closed, closed_at, ticket_of}
use Rattle.lsp_frame.specs.declared.message.Request.{Request}
use Rattle.lsp_frame.specs.declared.message.RequestId.{RequestId}
use Rattle.lsp_frame.specs.declared.message.Response.{Response}
use Rattle.lsp_frame.proofs.InStep.{ticket_of-is, waited, id_of-registered, id_of-completed, id_of-completed_other, waits-completed, closed-is}
use Rattle.desk.specs.Folds.{AreAnswers, after_request, closed_by, closed_with, pending_after}
use Rattle.desk_laws.specs.Answering.{answered_with, answered_in, answered_request, answered_at, AllDiffer, IsAmong, IsThere}
use Rattle.desk_laws.proofs.Keyed.{by_key, get-insert_other}
use Rattle.desk_laws.proofs.Orders.{by_number_total, by_number_same}

none-some : {X P : Type 0} (x : X) → None ≡ Some x → P
none-some x e = absurd cc

-- ---- lists of tickets

pub among-cases : (xs ys : List ℕ) (t : ℕ) → IsAmong (xs ++ ys) t → IsAmong xs t ⊎ IsAmong ys t
among-cases [] ys t h = inr h
among-cases (x ∷ xs) ys t (inl is) = inl (inl is)
among-cases (x ∷ xs) ys t (inr h) = under (among-cases xs ys t h)
  where
    under : IsAmong xs t ⊎ IsAmong ys t → IsAmong (x ∷ xs) t ⊎ IsAmong ys t
    under (inl h) = inl (inr h)
    under (inr h) = inr h

pub differ-append : (xs ys : List ℕ) → AllDiffer xs → AllDiffer ys → ((t : ℕ) → IsAmong xs t → IsAmong ys t → ⊥) → AllDiffer (xs ++ ys)
differ-append [] ys a b apart = b
differ-append (x ∷ xs) ys a b apart = (λ h. neither (among-cases xs ys x h), differ-append xs ys a.1 b (λ t h k. apart t (inr h) k))
  where
    neither : IsAmong xs x ⊎ IsAmong ys x → ⊥
    neither (inl h) = a.0 h
    neither (inr h) = apart x (inl refl) h

-- ---- one list of messages

-- what messages answer waited before and does not wait any more, and what waits after them waited before
pub record Closes (answered : List ℕ) (before after : Pending) : Type 0 where
  differ : AllDiffer answered
  were : (t : ℕ) → IsAmong answered t → IsThere t before
  gone : (t : ℕ) → IsAmong answered t → id_of t after ≡ None
  pub kept : (t : ℕ) (id : RequestId) → id_of t after ≡ Some id → id_of t before ≡ Some id
  pub lost : (t : ℕ) → IsThere t before → IsThere t after ⊎ IsAmong answered t

closes-none : (p : Pending) → Closes [] p p
closes-none p = record { differ = tt; were = λ t h. absurd h; gone = λ t h. absurd h; kept = λ t id is. is; lost = λ t w. inl w }

-- what waits nowhere any more
stays-gone : (t : ℕ) (before after : Pending) (o : Option RequestId) → id_of t after ≡ o
    → ((id : RequestId) → id_of t after ≡ Some id → id_of t before ≡ Some id) → id_of t before ≡ None → id_of t after ≡ None
stays-gone t before after None is kept none = is
stays-gone t before after (Some id) is kept none = none-some id (sym none ∙ kept id is)

closes-one : (ticket : ℕ) (id : RequestId) (rest : List ℕ) (p after : Pending) → id_of ticket p ≡ Some id → Closes rest (completed ticket p) after
    → Closes (ticket ∷ rest) p after
closes-one ticket id rest p after there c = record {
  differ = (λ h. let w = c.were ticket h in none-some w.0 (sym (id_of-completed ticket p) ∙ w.1), c.differ);
  were = were;
  gone = gone;
  kept = λ t i is. (waits-completed ticket t i p (c.kept t i is)).before;
  lost = λ t w. by_key by_number_total by_number_same t ticket
      (λ same. inr (inl same)) (λ other. later t (c.lost t (w.0, id_of-completed_other ticket t p other ∙ w.1)));
}
  where
    later : (t : ℕ) → IsThere t after ⊎ IsAmong rest t → IsThere t after ⊎ IsAmong (ticket ∷ rest) t
    later t (inl w) = inl w
    later t (inr h) = inr (inr h)

    were : (t : ℕ) → IsAmong (ticket ∷ rest) t → IsThere t p
    were t (inl is) = (id, ap (λ u. id_of u p) is ∙ there)
    were t (inr h) = let w = c.were t h in (w.0, (waits-completed ticket t w.0 p w.1).before)

    gone : (t : ℕ) → IsAmong (ticket ∷ rest) t → id_of t after ≡ None
    gone t (inl is) = stays-gone t (completed ticket p) after (id_of t after) refl (λ i k. c.kept t i k)
        (ap (λ u. id_of u (completed ticket p)) is ∙ id_of-completed ticket p)
    gone t (inr h) = c.gone t h

closes-with : (id : RequestId) (o : Option ℕ) (rest : Pending → List ℕ) (after : Pending → Pending) (p : Pending) → ticket_of id p ≡ o
    → ((q : Pending) → Closes (rest q) q (after q))
    → Closes (option_to_list o ++ rest (closed_at o p)) p (after (closed_at o p))
closes-with id None rest after p is on = on p
closes-with id (Some ticket) rest after p is on = closes-one ticket id (rest (completed ticket p)) p (after (completed ticket p)) (ticket_of-is ticket id p is)
    (on (completed ticket p))

closes-id : (o : Option RequestId) (rest : Pending → List ℕ) (after : Pending → Pending) (p : Pending) → ((q : Pending) → Closes (rest q) q (after q))
    → Closes (answered_with o p ++ rest (closed_with o p)) p (after (closed_with o p))
closes-id None rest after p on = on p
closes-id (Some id) rest after p on =
    subst (λ q. Closes (option_to_list (ticket_of id p) ++ rest q) p (after q)) (sym (closed-is id p (ticket_of id p) refl))
    (closes-with id (ticket_of id p) rest after p refl on)

pub closes : (responses : List Response) (p : Pending) → Closes (answered_in responses p) p (closed_by responses p)
closes [] p = closes-none p
closes (response ∷ responses) p = closes-id response.id (answered_in responses) (closed_by responses) p (closes responses)

-- ---- one turn

-- the request that the turn of this number reads, if it reads one
abbrev pub IsNew : Option Request → ℕ → ℕ → Type 0
IsNew None ticket t = ⊥
IsNew (Some r) ticket t = t ≡ ticket

-- the same of a turn, which may read one more request
pub record Turns (request : Option Request) (ticket : ℕ) (answered : List ℕ) (before after : Pending) : Type 0 where
  pub differ : AllDiffer answered
  pub were : (t : ℕ) → IsAmong answered t → IsThere t before ⊎ IsNew request ticket t
  pub gone : (t : ℕ) → IsAmong answered t → id_of t after ≡ None
  pub kept : (t : ℕ) → IsThere t after → IsThere t before ⊎ IsNew request ticket t
  pub lost : (t : ℕ) → IsThere t before → IsThere t after ⊎ IsAmong answered t

there-before : (ticket : ℕ) (id : RequestId) (p : Pending) (t : ℕ) → IsThere t (registered ticket id p) → IsThere t p ⊎ (t ≡ ticket)
there-before ticket id p t w = by_key by_number_total by_number_same t ticket
    (λ same. inr same) (λ other. inl (w.0, waited ticket id p t w.0 other w.1))

-- what waits still waits beside a request that comes
there-beside : (ticket : ℕ) (id : RequestId) (p : Pending) (t : ℕ) → IsThere t p → IsThere t (registered ticket id p)
unfolding registered
there-beside ticket id p t w = by_key by_number_total by_number_same t ticket
    (λ same. (id, ap (λ u. id_of u (registered ticket id p)) same ∙ id_of-registered ticket id p))
    (λ other. (w.0, get-insert_other by_number_total by_number_same p ticket id t other ∙ w.1))

turns-request : (r : Request) (ticket : ℕ) (id : RequestId) (responses : List Response) (p : Pending) (b : Bool)
    → Turns (Some r) ticket (answered_request b ticket id responses p) p (after_request b ticket id responses p)
turns-request r ticket id responses p true = record { differ = tt; were = λ t h. absurd h; gone = λ t h. absurd h; kept = λ t w. inl w; lost = λ t w. inl w }
turns-request r ticket id responses p false =
    let c = closes responses (registered ticket id p) in
    record {
      differ = c.differ;
      were = λ t h. there-before ticket id p t (c.were t h);
      gone = c.gone;
      kept = λ t w. there-before ticket id p t (w.0, c.kept t w.0 w.1);
      lost = λ t w. c.lost t (there-beside ticket id p t w);
    }

pub turn-closes : (ticket : ℕ) (request : Option Request) (responses : List Response) (p : Pending)
    → Turns request ticket (answered_at ticket request responses p) p (pending_after ticket request responses p)
turn-closes ticket None responses p =
    let c = closes responses p in
    record { differ = c.differ; were = λ t h. inl (c.were t h); gone = c.gone; kept = λ t w. inl (w.0, c.kept t w.0 w.1); lost = c.lost }
turn-closes ticket (Some r) responses p = turns-request r ticket r.id responses p (is_pending r.id p)

-- where each response answers, so many requests are answered as there are responses
with-one : (id : RequestId) (p : Pending) (o : Option ℕ) (rest : List ℕ) (n : ℕ) → ticket_of id p ≡ o → is_pending id p ≡ true → length rest ≡ n
    → length (option_to_list o ++ rest) ≡ n + 1
with-one id p None rest n is waits same = none-true (sym (ap is_some is) ∙ waits)
  where
    none-true : {P : Type 0} → false ≡ true → P
    none-true e = absurd cc
with-one id p (Some ticket) rest n is waits same = omega (arith, same)

pub answers-each : (responses : List Response) (p : Pending) → AreAnswers responses p → length (answered_in responses p) ≡ length responses
answers-each [] p h = refl
answers-each (response ∷ responses) p (id, is, waits, rest) =
    ap (λ o. length (answered_with o p ++ answered_in responses (closed_with o p))) is
    ∙ with-one id p (ticket_of id p) (answered_in responses (closed id p)) (length responses) refl waits (answers-each responses (closed id p) rest)
    ∙ omega arith
