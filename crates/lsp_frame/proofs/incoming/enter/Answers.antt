use Rattle.std.specs.Cmp.{nat_cmp_total}
use Rattle.std.specs.FinMap as map
use Rattle.lsp_frame.proofs.Rows.{AnswersBut-twice, ids-as_before}
use Rattle.lsp_frame.proofs.incoming.enter.Goals as goal

pub returns-in-Err-clause-same_ids : goal.returns-in-Err-clause-same_ids
returns-in-Err-clause-same_ids c =
    let twice = AnswersBut-twice nat_cmp_total map.nat_cmp-IsAntisymmetric _ _ _ c.args.ticket _ _ c.remove.ensures.updates.0 c.in_ok-put_id.ensures.ok.0 in
    ids-as_before _ _ c.args.ticket c.requires twice
