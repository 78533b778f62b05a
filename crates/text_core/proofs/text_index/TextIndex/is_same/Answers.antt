use Rattle.std.proofs.Common.{◌≡◌, ◌-◌, length, ap, sym, ◌∙◌, arith}
use Rattle.std.proofs.lemmas.Grind.{common_steps}
use Rattle.plain.specs.Told.{text_told}
use Rattle.text_core.proofs.EndLemmas.{ends-same, same-ends}
use Rattle.text_core.proofs.MovedLemmas.{between}
use Rattle.text_core.proofs.text_index.TextIndex.is_same.Goals as goal

pub returns : goal.returns
returns c =
    let front = c.args.ends.front in
    let back = c.args.ends.back in
    let size : c.len.result ≡ length c.args.self.now = grind (arith, common_steps) in
    let bytes : c.as_bytes.result.now ≡ c.args.self.now = grind (arith, common_steps) in
    let old : between front (c.len.result - back) c.as_bytes.result.now ≡ between front (length c.args.self.now - back) c.args.self.now =
    ap (λ n. between front (n - back) c.as_bytes.result.now) size ∙ ap (between front (length c.args.self.now - back)) bytes in
    let told = text_told (between front (c.len.result - back) c.as_bytes.result.now) (between front (length c.args.text.now - back) c.args.text.now) in (
      λ yes. ends-same c.args.self.now c.args.text.now c.args.ends c.requires (sym (told.0 (sym c.eq.ensures ∙ yes)) ∙ old),
      λ same. c.eq.ensures ∙ told.1 (old ∙ sym (same-ends c.args.self.now c.args.text.now c.args.ends same)),
    )
