use Rattle.std.proofs.Common.{sym, subst, rules}
use Rattle.docs_vfs.proofs.Climbs.{Climbs, climb_begins, climb_finds, climb_goes_on, climb_ends}
use Rattle.docs_vfs.proofs.source_roots.root_above.Goals as goal

pub folders-init : goal.folders-init
folders-init c = (
  subst (Climbs c.args.roots.now c.args.path.now) (sym c.as_str-folder.ensures.value)
      (climb_begins c.args.roots.now c.args.path.now c.args.index.now c.as_str-folder.ensures.path c.requires),
  search rules,
)

pub returns-in-Some : goal.returns-in-Some
returns-in-Some c =
    climb_finds c.args.roots.now c.args.path.now c.args.index.now c.as_str-folder.ensures.path c.requires c.folders.folder.now c.in-Some.at c.folders.invariant.0
    (sym c.in-Some.ensures)

pub folder_above-requires : goal.folder_above-requires
folder_above-requires c = c.folders.invariant.0.ancestor.folder_is

pub folders-preserved : goal.folders-preserved
folders-preserved c = (
  climb_goes_on c.args.roots.now c.args.path.now c.args.index.now c.as_str-folder.ensures.path c.requires c.folders.folder.now c.in-Some-folder_above.above.now
      c.folders.invariant.0 (sym c.in_default.ensures) c.in-Some-folder_above.ensures.0,
  search rules,
)

pub returns-in-None : goal.returns-in-None
returns-in-None c =
    climb_ends c.args.roots.now c.args.path.now c.args.index.now c.as_str-folder.ensures.path c.requires c.folders.folder.now c.folders.invariant.0
    (sym c.in_default.ensures) c.in-None.ensures
