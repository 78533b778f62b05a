use Rattle.plain.proofs.Stable.{sorted_in_order, permuted, stable, is_in_order}
use Rattle.plain.proofs.laws.lists_have_a_stable_order.Goals as goal

pub returns : goal.returns
returns g c = record {
  in_order = λ lt order xs. sorted_in_order lt order xs;
  items = λ lt xs. permuted lt xs;
  stable = λ lt order xs z. stable lt order z xs;
  only = λ lt order xs ys. is_in_order lt order xs ys;
}
