use Rattle.std.proofs.Common.{sym, ap, subst, ◌∙◌, arith}
use Rattle.docs_vfs.specs.Files.{Files, add_in}
use Rattle.docs_vfs.specs.FileLaws.{IsNumbered}
use Rattle.docs_vfs.proofs.TableLemmas.{lent, stays_same, add_made, add_numbered, id_here}
use Rattle.docs_vfs.proofs.file_table.FileTable.add_shared.Goals as goal

pub invariant_of-self-in_err-add_row-in-Some : goal.invariant_of-self-in_err-add_row-in-Some
invariant_of-self-in_err-add_row-in-Some c =
    let t : Files = record { first = c.self.inside.first; paths = c.self.inside.paths; rows = c.self.inside.rows; before = c.self.inside.before } in
    let put = lent c.get_mut.result c.in-Some.row c.in-Some.is (c.get_mut.follows.holds c.add_row.new.row) in
    let failed = c.in_err-add_row-in-Some.ensures.err in
    subst IsNumbered (sym (stays_same t c.args.path.now c.in-Some.row.now c.add_row.new.row _ c.add_row.new.before (sym c.in-Some.ensures.value) failed.0 failed.1 put)) c.self.invariant

pub returns-in_err-add_row-in-Some-clause-set : goal.returns-in_err-add_row-in-Some-clause-set
returns-in_err-add_row-in-Some-clause-set c =
    let t : Files = record { first = c.self.inside.first; paths = c.self.inside.paths; rows = c.self.inside.rows; before = c.self.inside.before } in
    let put = lent c.get_mut.result c.in-Some.row c.in-Some.is (c.get_mut.follows.holds c.add_row.new.row) in
    let failed = c.in_err-add_row-in-Some.ensures.err in
    let same = stays_same t c.args.path.now c.in-Some.row.now c.add_row.new.row _ c.add_row.new.before (sym c.in-Some.ensures.value) failed.0 failed.1 put ∙ c.self.view_is in
    grind (arith, same)

pub invariant_of-self-in-Some : goal.invariant_of-self-in-Some
invariant_of-self-in-Some c =
    let t : Files = record { first = c.self.inside.first; paths = c.self.inside.paths; rows = c.self.inside.rows; before = c.self.inside.before } in
    let put = lent c.get_mut.result c.in-Some.row c.in-Some.is (c.get_mut.follows.holds c.add_row.new.row) in
    add_numbered t _ c.args.path.now c.args.contents c.in_ok-add_row-in-Some.field-0.changed c.self.invariant
    (add_made t c.args.path.now c.args.contents c.in-Some.row.now c.add_row.new.row _ c.add_row.new.before _ (sym c.in-Some.ensures.value) c.in_ok-add_row-in-Some.ensures.row put)

pub returns-in_ok-add_row-in-Some-clause-set : goal.returns-in_ok-add_row-in-Some-clause-set
returns-in_ok-add_row-in-Some-clause-set c =
    let t : Files = record { first = c.self.inside.first; paths = c.self.inside.paths; rows = c.self.inside.rows; before = c.self.inside.before } in
    let put = lent c.get_mut.result c.in-Some.row c.in-Some.is (c.get_mut.follows.holds c.add_row.new.row) in
    ap (λ v. add_in v c.args.path.now c.args.contents) (sym c.self.view_is)
    ∙ add_made t c.args.path.now c.args.contents c.in-Some.row.now c.add_row.new.row _ c.add_row.new.before _ (sym c.in-Some.ensures.value) c.in_ok-add_row-in-Some.ensures.row put

pub returns-in_ok-add_row-in-Some-clause-after : goal.returns-in_ok-add_row-in-Some-clause-after
returns-in_ok-add_row-in-Some-clause-after c =
    let put = lent c.get_mut.result c.in-Some.row c.in-Some.is (c.get_mut.follows.holds c.add_row.new.row) in
    c.in_ok-add_row-in-Some.ensures.after ∙ sym (id_here _ _ c.args.path.now c.add_row.new.row put)
