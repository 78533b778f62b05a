use Rattle.std.proofs.Common.{◌∷◌, [], subst}
use Rattle.text_core.specs.Hashed.{truth_bytes, type_match, postfix_match, optional, trait_bytes, function_bytes}
use Rattle.text_core.proofs.HashLemmas.{Feeds, feeds_then}
use Rattle.text_core.proofs.completion_hash.feed_relevance.Goals as goal

pub returns : goal.returns
returns c =
    let r = c.args.relevance.now in
    let start = c.args.hasher.now in
    let two : Feeds c.feed_truths.new.hasher c.feed_byte.new.hasher (type_match r.type_match ∷ []) =
    subst (λ n. Feeds c.feed_truths.new.hasher c.feed_byte.new.hasher (n ∷ [])) c.type_match.ensures c.feed_byte.ensures in
    let four : Feeds c.feed_trait.new.hasher c.feed_byte-2.new.hasher (postfix_match r.postfix_match ∷ []) =
    subst (λ n. Feeds c.feed_trait.new.hasher c.feed_byte-2.new.hasher (n ∷ [])) c.postfix_match.ensures c.feed_byte-2.ensures in
    let to_type = feeds_then start c.feed_truths.new.hasher c.feed_byte.new.hasher (truth_bytes r) (type_match r.type_match ∷ []) c.feed_truths.ensures two in
    let to_trait = feeds_then start c.feed_byte.new.hasher c.feed_trait.new.hasher _ (optional trait_bytes r.trait_) to_type c.feed_trait.ensures in
    let to_postfix = feeds_then start c.feed_trait.new.hasher c.feed_byte-2.new.hasher _ (postfix_match r.postfix_match ∷ []) to_trait four in
    feeds_then start c.feed_byte-2.new.hasher c.feed_function.new.hasher _ (optional function_bytes r.function) to_postfix c.feed_function.ensures
