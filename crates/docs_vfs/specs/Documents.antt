-- The open documents, and whether some came or went since this was last asked.
use Rattle.std.specs.Prelude.{Bool}
use Rattle.std.specs.FinMap as map
use Rattle.docs_vfs.specs.Paths.{path_cmp}
use Rattle.docs_vfs.specs.declared.mem_docs.DocumentData.{DocumentData}

pub record Documents : Type 0 where
  pub docs : map.FinMap path_cmp DocumentData
  pub changed : Bool
