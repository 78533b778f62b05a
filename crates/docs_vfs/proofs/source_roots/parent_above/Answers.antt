use Rattle.std.proofs.Common.{◌==◌, rules, sym, subst, ap, ◌∙◌}
use Rattle.std.specs.Prelude.{not}
use Rattle.std.specs.List.{find}
use Rattle.docs_vfs.specs.Paths.{is_path}
use Rattle.docs_vfs.proofs.Rises.{Rises, rise_begins, rise_finds, rise_goes_on, rise_ends}
use Rattle.docs_vfs.proofs.source_roots.parent_above.Goals as goal

pub folders-init : goal.folders-init
folders-init c = (
  (λ roots x. subst (Rises c.args.at roots c.args.include.now) (sym c.as_str-folder.ensures.value)
      (rise_begins c.args.at roots c.args.include.now c.args.index.now c.as_str-folder.ensures.path x)),
  ap is_path c.as_str-folder.ensures.value ∙ c.as_str-folder.ensures.path,
  search rules,
)

pub returns-in-Some-other_place : goal.returns-in-Some-other_place
returns-in-Some-other_place c = λ roots x.
    rise_finds c.args.at roots c.args.include.now c.args.index.now c.as_str-folder.ensures.path x c.folders.folder.now c.in-Some.above.now c.in-Some-other_place.place
    (c.folders.invariant.0 roots x) c.in-Some.ensures.0 c.in-Some.ensures.1
    (ap (find (λ place. not (place == c.args.at))) (sym c.get.ensures) ∙ sym c.in-Some-other_place.ensures)

pub folders-preserved : goal.folders-preserved
folders-preserved c = (
  (λ roots x. rise_goes_on c.args.at roots c.args.include.now c.args.index.now c.as_str-folder.ensures.path x c.folders.folder.now c.in-Some.above.now
      (c.folders.invariant.0 roots x) c.in-Some.ensures.0
      (ap (find (λ place. not (place == c.args.at))) (sym c.get.ensures) ∙ sym c.in_default-other_place.ensures)),
  c.in-Some.ensures.0.folder_is,
  search rules,
)

pub returns : goal.returns
returns c = λ roots x.
    rise_ends c.args.at roots c.args.include.now c.args.index.now c.as_str-folder.ensures.path x c.folders.folder.now (c.folders.invariant.0 roots x) c.in_default.ensures
