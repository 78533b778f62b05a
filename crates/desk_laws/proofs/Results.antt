-- Parts of a machine that may be refused, one after another.
use Rattle.std.proofs.Common.{ℕ, ◌+◌, ◌-◌, ◌^◌, Bool, true, false}
use Rattle.std.specs.Prelude.{Result, Ok, Err, IfOk, IfErr, if◌then◌else◌, ltb}
use Rattle.session_port.specs.TurnState.{TurnState, and_then, next_number, put_back, lifted}
use Rattle.session_port.specs.declared.fault.Counter.{Counter}

-- a part whose answers all have P goes on to a part whose answers all have Q
pub IfOk-and_then : {X Y E : Type 0} (r : Result X E) (f : X → Result Y E) (P : X → Type 0) (Q : Y → Type 0) → IfOk r P → ((x : X) → P x → IfOk (f x) Q)
    → IfOk (and_then r f) Q
IfOk-and_then (Ok x) f P Q p q = q x p
IfOk-and_then (Err e) f P Q p q = tt

pub IfOk-weaker : {X E : Type 0} (r : Result X E) (P Q : X → Type 0) → IfOk r P → ((x : X) → P x → Q x) → IfOk r Q
IfOk-weaker (Ok x) P Q p q = q x p
IfOk-weaker (Err e) P Q p q = tt

pub IfOk-if : {X E : Type 0} (b : Bool) (r s : Result X E) (Q : X → Type 0) → IfOk r Q → IfOk s Q → IfOk (if b then r else s) Q
IfOk-if true r s Q p q = p
IfOk-if false r s Q p q = q

next-cases : {Y : Type 0} (b : Bool) (n : ℕ) (counter : Counter) (f : ℕ → Result Y Counter) (Q : Y → Type 0) → IfOk (f n) Q
    → IfOk (and_then (if b then Ok n else Err counter) f) Q
next-cases true n counter f Q q = q
next-cases false n counter f Q q = tt

-- the next number is one more, where there is one
pub IfOk-next : {Y : Type 0} (n : ℕ) (counter : Counter) (f : ℕ → Result Y Counter) (Q : Y → Type 0) → IfOk (f (n + 1)) Q
    → IfOk (and_then (next_number n counter) f) Q
IfOk-next n counter f Q q = next-cases (ltb n (2 ^ 64 - 1)) (n + 1) counter f Q q

within-cases : {S P : Type 0} (put : P → S → S) (state : S) (r : Result (TurnState P) Counter) (Q : TurnState S → Type 0)
    → IfOk r (λ v. Q (record { state = put v.state state; out = v.out })) → IfOk (put_back put state r) Q
within-cases put state (Ok v) Q q = q
within-cases put state (Err counter) Q q = tt

-- a step of one part of the state, and what is so of it there
pub IfOk-within : {S P : Type 0} (get : S → P) (put : P → S → S) (step : TurnState P → Result (TurnState P) Counter) (w : TurnState S) (Q : TurnState S → Type 0)
    → IfOk (step (record { state = get w.state; out = w.out })) (λ v. Q (record { state = put v.state w.state; out = v.out })) → IfOk (lifted get put step w) Q
unfolding lifted
IfOk-within get put step w Q q = within-cases put w.state (step (record { state = get w.state; out = w.out })) Q q

refused-cases : {S P : Type 0} (put : P → S → S) (state : S) (r : Result (TurnState P) Counter) (Q : Counter → Type 0) → IfErr r Q
    → IfErr (put_back put state r) Q
refused-cases put state (Ok v) Q q = tt
refused-cases put state (Err counter) Q q = q

-- it is refused where the part's is
pub IfErr-within : {S P : Type 0} (get : S → P) (put : P → S → S) (step : TurnState P → Result (TurnState P) Counter) (w : TurnState S) (Q : Counter → Type 0)
    → IfErr (step (record { state = get w.state; out = w.out })) Q → IfErr (lifted get put step w) Q
unfolding lifted
IfErr-within get put step w Q q = refused-cases put w.state (step (record { state = get w.state; out = w.out })) Q q
