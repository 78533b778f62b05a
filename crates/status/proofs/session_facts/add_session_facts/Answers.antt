use Rattle.std.proofs.Common.{ap, ◌∙◌}
use Rattle.status.specs.Drafts.{add_all}
use Rattle.status.specs.Facts.{fact_if, line_if}
use Rattle.status.specs.Texts.{reload_text, rebuild_text, build_text, discover_text, load_text}
use Rattle.status.specs.declared.health.Health.TheVariants.{Warning, Error}
use Rattle.status.proofs.Chains.{four_added}
use Rattle.status.proofs.session_facts.add_session_facts.Goals as goal

pub returns : goal.returns
returns c =
    let input = c.args.input.now in
    let first = four_added (fact_if input.reload_needed Warning reload_text) (fact_if input.build_deps_changed Warning rebuild_text)
    (fact_if input.build_error Warning build_text) (line_if input.config_errors) c.args.draft.now c.warn_if.new.draft c.warn_if-2.new.draft c.warn_if-3.new.draft
    c.add_line.new.draft c.in_ok-warn_if.ensures c.in_ok-warn_if-2.ensures c.in_ok-warn_if-3.ensures c.in_ok-add_line.ensures in
    c.in_ok-add_load_error.ensures
    ∙ ap (add_all (fact_if input.workspace_error Error (load_text c.args.linked.now)))
    (c.in_ok-warn_if-4.ensures ∙ ap (add_all (fact_if input.no_projects Warning discover_text))
    (c.in_ok-add_line-2.ensures ∙ ap (add_all (line_if input.check_error)) first))
