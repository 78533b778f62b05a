use Rattle.std.proofs.Common.{string_bytes, sym, ◌∙◌}
use Rattle.docs_vfs.proofs.Walks.{pop_reaches, down_reaches}
use Rattle.docs_vfs.proofs.relative.take_segment.Goals as goal

pub returns-then-eq : goal.returns-then-eq
returns-then-eq c =
    pop_reaches c.args.empty (string_bytes c.args.text.now) c.args.segment.now (string_bytes c.pop_segment.new.text) c.pop_segment.result c.requires
    (sym c.is_staying.ensures ∙ c.if-is_staying.false) (sym c.eq.ensures ∙ c.if-eq.true) c.pop_segment.ensures.some c.pop_segment.ensures.cut

pub returns : goal.returns
returns c =
    down_reaches c.args.empty (string_bytes c.args.text.now) c.args.segment.now (string_bytes c.push_segment.new.text) c.requires
    (sym c.is_staying.ensures ∙ c.if-is_staying.false) (sym c.eq.ensures ∙ c.if-eq.false) (sym c.is_name_text.ensures ∙ c.if-not-is_name_text.false) c.in_ok-push_segment.ensures
