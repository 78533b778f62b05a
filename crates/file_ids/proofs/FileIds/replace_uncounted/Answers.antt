use Rattle.std.proofs.Common.{◌≡◌, List, ℕ, sym, ap, ◌∙◌}
use Rattle.std.specs.Cmp.Lexicographic.{nat_list_cmp_total}
use Rattle.std.specs.FinMap as map
use Rattle.std.specs.FinMap.Entries.{find}
use Rattle.shared_map.specs.AsMap.{set_in_map}
use Rattle.shared_map.proofs.AsMap.{get-view, set-view}
use Rattle.docs_vfs.specs.Paths.{path_cmp}
use Rattle.file_ids.specs.Numbers.{file_of}
use Rattle.file_ids.proofs.Inverse.{renumbered, free_number}
use Rattle.file_ids.proofs.FileIds.replace_uncounted.Goals as goal

pub invariant_of-self-2 : goal.invariant_of-self-2
invariant_of-self-2 g c =
    let files = c.self.inside.files in
    let seen : (q : List ℕ) → map.get c.args.self.now q ≡ find path_cmp q files = λ q. ap (λ m. map.get m q) (sym c.self.view_is) ∙ get-view nat_list_cmp_total files q in
    let free = free_number c.args.entry c.args.path c.args.self.now files c.requires.free seen in
    let old : c.number.result ≡ file_of (find path_cmp c.args.path files) = c.number.ensures ∙ ap file_of (sym c.requires.old ∙ seen c.args.path) in
    rw c.in_ok-put.ensures.ok (rw c.take-files.ensures.value (rw c.in_ok-renumber.ensures (rw c.take-paths.ensures.value (rw old (rw c.number-2.ensures (
    renumbered files c.self.inside.paths c.args.path c.args.entry c.self.invariant c.len.ensures.order c.len-2.ensures.order free
    ))))))

pub returns-clause-ok : goal.returns-clause-ok
returns-clause-ok g c =
    rw c.in_ok-put.ensures.ok (rw c.take-files.ensures.value (
    set-view nat_list_cmp_total (map.slice_cmp-IsAntisymmetric map.nat_cmp-IsAntisymmetric) c.args.path c.args.entry c.self.inside.files c.len.ensures.order
    ∙ ap (λ m. set_in_map m c.args.path c.args.entry) c.self.view_is
    ))
