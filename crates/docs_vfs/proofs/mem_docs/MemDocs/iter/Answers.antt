use Rattle.std.proofs.Common.{sym, ap, ◌∙◌}
use Rattle.std.proofs.lemmas.List.{map-id}
use Rattle.std.specs.FinMap as map
use Rattle.docs_vfs.specs.Documents.{Documents}
use Rattle.docs_vfs.proofs.mem_docs.MemDocs.iter.Goals as goal

pub returns-clause-rest : goal.returns-clause-rest
returns-clause-rest c = sym (map-id _) ∙ c.keys.ensures.rest ∙ ap (λ (d : Documents). map.keys d.docs) c.self.view_is
