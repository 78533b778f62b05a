-- What the open documents end as where a `&mut` to one is returned.
use Rattle.std.specs.Prelude.{◌≡◌, ℕ, List, Option, OnSome}
use Rattle.std.specs.Borrow.{LendsSo, Fml, MutBor}
use Rattle.std.specs.FinMap as map
use Rattle.docs_vfs.specs.Documents.{Documents}
use Rattle.docs_vfs.specs.declared.mem_docs.DocumentData.{DocumentData}
use Rattle.docs_vfs.specs.contracts.mem_docs.MemDocs.{the_row as docs_row}
use Rattle.docs_vfs.specs.contracts.mem_docs.DocumentData.{the_row as document_row}

-- once the borrow r ends, the document at the path is the last one written through r, and the flag stays; at `None` all does
abbrev pub lends_document : MutBor Documents → List ℕ → Option (MutBor DocumentData) → Fml
lends_document m path r =
    LendsSo docs_row document_row m r (λ n w. OnSome r (n ≡ record m.now { docs = map.insert m.now.docs path w })) (λ n. n ≡ m.now)
