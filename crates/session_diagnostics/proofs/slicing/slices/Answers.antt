use Rattle.std.proofs.Common.{rules, ◌≡◌, ◌<◌, ◌-◌, ℕ, Bool, true, false, List, [], ◌∷◌, ◌++◌, take, drop, sym, ap, ◌∙◌, append_assoc}
use Rattle.docs_vfs.specs.declared.file_kinds.FileId.{FileId}
use Rattle.session_model.specs.Diagnosing.{first_length, slices}
use Rattle.session_diagnostics.proofs.Cutting.{slices_before}
use Rattle.session_diagnostics.proofs.slicing.slices.Goals as goal

pub loop-others-preserved : goal.loop-others-preserved
loop-others-preserved c =
    let others : ℕ = c.loop-others.others in
    let files : List FileId = c.loop-others.remaining.now in
    let n : ℕ = first_length others files in
    let positive : 0 < others = search rules in
    let some : (files ≡ []) → ⊥ = λ none. (let clash : true ≡ false = search rules in cc) in
    let added : c.push.new.self ≡ c.loop-others.list ++ take n files ∷ [] = search rules in
    let rest : c.cut.result.1.now ≡ drop n files = search rules in
    ap (λ (list : List (List FileId)). list ++ slices (others - 1) c.cut.result.1.now) added
    ∙ ap (λ (later : List FileId). (c.loop-others.list ++ take n files ∷ []) ++ slices (others - 1) later) rest
    ∙ append_assoc c.loop-others.list (take n files ∷ []) (slices (others - 1) (drop n files))
    ∙ ap (λ (lists : List (List FileId)). c.loop-others.list ++ lists) (sym (slices_before others files positive some))
    ∙ c.loop-others.invariant
