-- Which requests responses answer, each by its ticket, the number of the turn that read it.
use Rattle.std.specs.Prelude.{◌≡◌, ◌⊎◌, ℕ, List, [], ◌∷◌, ◌++◌, Bool, true, false, Option, None, Some}
use Rattle.std.specs.Option.{option_to_list}
use Rattle.lsp_frame.specs.Pending.{Pending, id_of, is_pending, registered, ticket_of}
use Rattle.lsp_frame.specs.declared.message.Request.{Request}
use Rattle.lsp_frame.specs.declared.message.RequestId.{RequestId}
use Rattle.lsp_frame.specs.declared.message.Response.{Response}
use Rattle.desk.specs.Folds.{closed_with}

-- the request that a response answers: the pending one of its id
abbrev pub answered_with : Option RequestId → Pending → List ℕ
answered_with None pending = []
answered_with (Some id) pending = option_to_list (ticket_of id pending)

-- those that responses answer, one after another
abbrev pub answered_in : List Response → Pending → List ℕ
answered_in [] pending = []
answered_in (response ∷ responses) pending =
    answered_with response.id pending ++ answered_in responses (closed_with response.id pending)

-- a request whose id is pending is refused, and that answers no other; else it waits first, under the turn's number
abbrev pub answered_request : Bool → ℕ → RequestId → List Response → Pending → List ℕ
answered_request true ticket id responses pending = []
answered_request false ticket id responses pending = answered_in responses (registered ticket id pending)

-- those that the turn of this number answers, which read this request, if any
abbrev pub answered_at : ℕ → Option Request → List Response → Pending → List ℕ
answered_at ticket None responses pending = answered_in responses pending
answered_at ticket (Some r) responses pending = answered_request (is_pending r.id pending) ticket r.id responses pending

abbrev pub IsAmong : List ℕ → ℕ → Type 0
IsAmong [] ticket = ⊥
IsAmong (first ∷ tickets) ticket = (ticket ≡ first) ⊎ IsAmong tickets ticket

-- none comes twice
abbrev pub AllDiffer : List ℕ → Type 0
AllDiffer [] = Unit {0}
AllDiffer (ticket ∷ tickets) = (IsAmong tickets ticket → ⊥) × AllDiffer tickets

-- the request of a ticket waits
abbrev pub IsThere : ℕ → Pending → Type 0
IsThere ticket pending = (id : RequestId) × (id_of ticket pending ≡ Some id)
