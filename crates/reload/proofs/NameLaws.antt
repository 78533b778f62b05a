-- Texts that are alike are an equivalence.
use Rattle.std.proofs.Common.{map}
use Rattle.std.specs.Cmp.{IsEquivalence}
use Rattle.std.specs.Cmp.Lexicographic.{nat_list_eq_equiv}
use Rattle.reload.specs.Names.{underscored, is_alike}

pub alike_equiv : IsEquivalence is_alike
alike_equiv =
    let same = nat_list_eq_equiv in record {
      refl = λ x. same.refl (map underscored x);
      symm = λ x y. same.symm (map underscored x) (map underscored y);
      congr = λ x y z. same.congr (map underscored x) (map underscored y) (map underscored z);
    }
