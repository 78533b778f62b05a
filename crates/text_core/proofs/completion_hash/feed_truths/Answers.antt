use Rattle.text_core.specs.Hashed.{flag}
use Rattle.text_core.proofs.HashLemmas.{feeds_then}
use Rattle.text_core.proofs.completion_hash.feed_truths.Goals as goal

pub returns : goal.returns
returns c =
    let r = c.args.relevance.now in
    let two = feeds_then c.args.hasher.now c.feed_flag.new.hasher c.feed_flag-2.new.hasher (flag r.exact_name_match) (flag r.is_local) c.feed_flag.ensures c.feed_flag-2.ensures in
    let three = feeds_then c.args.hasher.now c.feed_flag-2.new.hasher c.feed_flag-3.new.hasher _ (flag r.is_name_already_imported) two c.feed_flag-3.ensures in
    let four = feeds_then c.args.hasher.now c.feed_flag-3.new.hasher c.feed_flag-4.new.hasher _ (flag r.requires_import) three c.feed_flag-4.ensures in
    feeds_then c.args.hasher.now c.feed_flag-4.new.hasher c.feed_flag-5.new.hasher _ (flag r.is_private_editable) four c.feed_flag-5.ensures
