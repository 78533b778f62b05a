use Rattle.std.proofs.Common.{◌≡◌, ◌≤◌, length, subst, rules, of_calls}
use Rattle.std.specs.Prelude.{nat_le, true, false}
use Rattle.std.specs.List.Sorted.{IsPartitionedBy, IsPartitionPoint}
use Rattle.std.proofs.lemmas.Fn.{always_returns_same}
use Rattle.text_core.proofs.MovedLemmas.{divided}
use Rattle.text_core.proofs.starts.starts_up_to.Goals as goal

pub returns-clause-splits : goal.returns-clause-splits
returns-clause-splits c = λ low high same early late.
    let finds : IsPartitionedBy (λ start. nat_le start c.args.place) c.args.starts.now
    → IsPartitionPoint (λ start. nat_le start c.args.place ≡ true) (λ start. nat_le start c.args.place ≡ false) c.args.starts.now c.partition_point.result
    = c.partition_point.ensures.partitioned (λ start. nat_le start c.args.place) (always_returns_same _ _ _ (λ a r f k. search (rules, of_calls))) in
    divided low high c.args.place c.partition_point.result early late
    (subst (λ l. c.partition_point.result ≤ length l) same c.partition_point.ensures.bound)
    (subst (λ l. IsPartitionedBy (λ start. nat_le start c.args.place) l → IsPartitionPoint (λ start. nat_le start c.args.place ≡ true) (λ start. nat_le start c.args.place ≡ false) l c.partition_point.result) same finds)
