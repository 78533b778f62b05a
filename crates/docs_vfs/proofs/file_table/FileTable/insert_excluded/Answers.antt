use Rattle.std.proofs.Common.{Ok, sym, ap, subst, ◌∙◌, arith}
use Rattle.docs_vfs.specs.Files.{Files, mark_in, put_in}
use Rattle.docs_vfs.specs.declared.file_kinds.RowState.TheVariants.{Excluded}
use Rattle.docs_vfs.specs.FileLaws.{IsNumbered}
use Rattle.docs_vfs.proofs.TableLemmas.{lent, stays_same, mark_made, mark_numbered, mark_first}
use Rattle.docs_vfs.proofs.file_table.FileTable.insert_excluded.Goals.{in-None+in_ok-put_new-in-None, in-Some+in_ok-mark_row-in-Some}
use Rattle.docs_vfs.proofs.file_table.FileTable.insert_excluded.Goals as goal

pub invariant_of-self-in-Continue-branch-2 : goal.invariant_of-self-in-Continue-branch-2
invariant_of-self-in-Continue-branch-2 c =
    let t : Files = record { first = c.self.inside.first; paths = c.self.inside.paths; rows = c.self.inside.rows; before = c.self.inside.before } in
    let put = lent c.get_mut.result c.in-Some.row c.in-Some.is (c.get_mut.follows.holds c.mark_row.new.row) in
    mark_numbered t _ c.args.path c.self.invariant
    (mark_made t c.args.path c.in-Some.row.now c.mark_row.new.row _ c.mark_row.new.before (sym c.in-Some.ensures.value) c.in_ok-mark_row-in-Some.ensures.ok put)

pub invariant_of-self-in_err-mark_row-in-Some : goal.invariant_of-self-in_err-mark_row-in-Some
invariant_of-self-in_err-mark_row-in-Some c =
    let t : Files = record { first = c.self.inside.first; paths = c.self.inside.paths; rows = c.self.inside.rows; before = c.self.inside.before } in
    let put = lent c.get_mut.result c.in-Some.row c.in-Some.is (c.get_mut.follows.holds c.mark_row.new.row) in
    let failed = c.in_err-mark_row-in-Some.ensures.err in
    subst IsNumbered (sym (stays_same t c.args.path c.in-Some.row.now c.mark_row.new.row _ c.mark_row.new.before (sym c.in-Some.ensures.value) failed.0 failed.1 put)) c.self.invariant

pub returns-in_err-mark_row-in-Some : goal.returns-in_err-mark_row-in-Some
returns-in_err-mark_row-in-Some c =
    let t : Files = record { first = c.self.inside.first; paths = c.self.inside.paths; rows = c.self.inside.rows; before = c.self.inside.before } in
    let put = lent c.get_mut.result c.in-Some.row c.in-Some.is (c.get_mut.follows.holds c.mark_row.new.row) in
    let failed = c.in_err-mark_row-in-Some.ensures.err in
    let same = stays_same t c.args.path c.in-Some.row.now c.mark_row.new.row _ c.mark_row.new.before (sym c.in-Some.ensures.value) failed.0 failed.1 put ∙ c.self.view_is in
    grind (arith, same)

pub returns : goal.returns
returns c =
    let t : Files = record { first = c.self.inside.first; paths = c.self.inside.paths; rows = c.self.inside.rows; before = c.self.inside.before } in
    elim c.match-get_mut.branch [
      | in-None+in_ok-put_new-in-None w ↦
          ap (λ v. mark_in v c.args.path) (sym c.self.view_is)
          ∙ mark_first t c.args.path (sym w.in-None.ensures.value)
          ∙ ap (λ m. put_in (record t { rows = m }) c.args.path Excluded) (sym c.get_mut.follows.holds-at-none)
          ∙ w.in_ok-put_new-in-None.ensures.put
          ∙ ap Ok (sym w.self-is)
      | in-Some+in_ok-mark_row-in-Some w ↦
          let put = lent c.get_mut.result w.in-Some.row w.in-Some.is (c.get_mut.follows.holds w.mark_row.new.row) in
          ap (λ v. mark_in v c.args.path) (sym c.self.view_is)
          ∙ mark_made t c.args.path w.in-Some.row.now w.mark_row.new.row _ w.mark_row.new.before (sym w.in-Some.ensures.value) w.in_ok-mark_row-in-Some.ensures.ok put
          ∙ ap Ok (sym w.self-is)
    ]
