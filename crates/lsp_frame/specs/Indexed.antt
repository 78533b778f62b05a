-- What is kept beside the ids of the tickets: the tickets of the ids.
use Rattle.std.specs.Prelude.{◌≡◌, ◌↔◌, ℕ, Some}
use Rattle.std.specs.FinMap as map
use Rattle.lsp_frame.specs.declared.message.RequestId.{RequestId}
use Rattle.lsp_frame.specs.Ids.{id_cmp}
use Rattle.lsp_frame.specs.Pending.{Pending, id_of}

-- the ticket of each id
abbrev pub Index : Type 0
Index = map.FinMap id_cmp ℕ

-- each ticket has the id that has it
pub record InStep (p : Pending) (index : Index) : Type 0 where
  pub both : (ticket : ℕ) (id : RequestId) → (id_of ticket p ≡ Some id) ↔ (map.get index id ≡ Some ticket)
