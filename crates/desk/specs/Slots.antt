-- Which parts of a request are still to be reported.
use Rattle.std.specs.Prelude.{ℕ, List, [], ◌∷◌, Option, None, Some}
use Rattle.lsp_frame.specs.Pending.{id_of}
use Rattle.lsp_frame.specs.declared.message.RequestId.{RequestId}
use Rattle.desk.specs.Desk.{Desk}

-- a request that waits has part 0 alone, and one that was answered has none left
abbrev pub parts_left : Option RequestId → List ℕ
parts_left None = []
parts_left (Some id) = 0 ∷ []

-- the parts of the request with this ticket that have not been reported. It is a result that reports a part, and the
-- result of the one part of a request is its response too: so that part is unreported as long as the request waits
abbrev pub unreported : ℕ → Desk → List ℕ
unreported ticket desk = parts_left (id_of ticket desk.pending)
