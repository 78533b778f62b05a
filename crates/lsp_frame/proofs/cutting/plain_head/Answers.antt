use Rattle.std.proofs.Common.{◌≡◌, ◌+◌, ◌++◌, Some, take, codes, arith, ap, ◌∙◌}
use Rattle.std.proofs.lemmas.Bool.Decides.{Decides-eqb}
use Rattle.std.proofs.lemmas.List.{length-take-le}
use Rattle.std.proofs.lemmas.Slice.Eq.{strip_prefix_is}
use Rattle.lsp_frame.specs.declared.frame.Head.TheVariants.{Body}
use Rattle.lsp_frame.proofs.Plain.{WriteSize, head_plain-at}
use Rattle.lsp_frame.proofs.cutting.plain_head.Goals as goal

pub returns : goal.returns
returns c =
    let bytes = c.args.bytes.now in
    let rest = c.in_ok-rest.rest.now in
    let count = c.front_digits-count.result.0 in
    let front = c.front_digits-count.ensures in
    let begins : bytes ≡ codes "Content-Length: " ++ rest = strip_prefix_is Decides-eqb bytes (codes "Content-Length: ") (Some c.in_ok-rest.rest) c.in_ok-rest.ensures.cases in
    let digits : WriteSize (take count rest) = record {
      some = omega (arith, length-take-le count rest front.within);
      ten = omega (arith, length-take-le count rest front.within);
      all = front.all;
      limit = omega (arith, front.value);
    } in
    ap (λ n. Body (16 + count + 4) (16 + count + 4 + n)) front.value ∙ head_plain-at bytes rest count begins front.within digits c.if-not-begins_empty_line.ensures
