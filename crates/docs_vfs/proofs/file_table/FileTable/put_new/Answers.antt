use Rattle.std.proofs.Common.{◌≡◌, sym, ap, ◌∙◌, None}
use Rattle.std.specs.FinMap as map
use Rattle.docs_vfs.specs.Files.{Files, next_file, is_full}
use Rattle.docs_vfs.proofs.TableLemmas.{put_made, put_numbered, row_here}
use Rattle.docs_vfs.proofs.file_table.FileTable.put_new.Goals as goal

pub invariant_of-self-2 : goal.invariant_of-self-2
invariant_of-self-2 c =
    let t : Files = record { first = c.self.inside.first; paths = c.self.inside.paths; rows = c.self.inside.rows; before = c.self.inside.before } in
    let path = c.args.path.now in
    let none : map.get t.rows path ≡ None = ap (λ (v : Files). map.get v.rows path) c.self.view_is ∙ c.requires in
    let next = c.in_ok-file.ensures.ok.0 ∙ ap next_file (sym c.self.view_is) in
    let room = ap is_full c.self.view_is ∙ c.in_ok-file.ensures.ok.1 in
    let made = c.in_ok-put_next.ensures.ok in
    put_numbered t _ path c.args.kept c.self.invariant (put_made t path c.args.kept c.in_ok-file.file _ _ _ c.self.invariant none next room made.0 made.1 made.2)

pub returns-clause-row : goal.returns-clause-row
returns-clause-row c = row_here c.self.inside.rows _ _ _ c.in_ok-put_next.ensures.ok.1
