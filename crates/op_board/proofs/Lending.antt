-- What holds of a value that is lent, where there is one, and what follows where a call succeeds.
use Rattle.std.proofs.Common.{◌≡◌, Result, Ok, Err, OnOk, sym, ap, subst}
use Rattle.std.specs.Prelude.{Option, Some, None, IsSome, OnSome, is_some}
use Rattle.std.specs.Option.{option_copied_mut}
use Rattle.std.specs.Borrow.{MutBor}

pub where_some : {V : Type 0} (r : Option (MutBor V)) (o : Option V) (P : Type 0) → option_copied_mut r ≡ o → (IsSome o → P) → OnSome r P
where_some None o P is h = tt
where_some (Some x) o P is h = h (sym (ap is_some is))

pub on_some : {V P : Type 0} (r : Option (MutBor V)) (x : MutBor V) → r ≡ Some x → OnSome r P → P
on_some {P = P} r x is h = subst (λ r. OnSome r P) is h

pub on_ok : {T E P Q : Type 0} (r : Result T E) → (P → Q) → OnOk r P → OnOk r Q
on_ok (Ok x) f p = f p
on_ok (Err e) f p = tt
