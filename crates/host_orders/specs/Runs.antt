-- Runs of the calls: what was ordered and what was given, told by the calls alone. A run has its last act first.
use Rattle.std.specs.Prelude.{◌≡◌, ℕ, List, [], ◌∷◌, ◌++◌, Some, slice_get, option_to_list}
use Rattle.host_orders.specs.declared.due_reply.DueReply.{DueReply}
use Rattle.host_orders.specs.declared.due_reply.DueReply.TheVariants.{Loader, Deferred, Timer}
use Rattle.host_orders.specs.HostOrders.{HostOrders, none_kept, set_loader, defer, set_timer, next, after_next}

pub data Act (D : Type 0) : Type 0 where
  SetsLoader : ℕ → Act D
  Defers : D → Act D
  SetsTimer : ℕ → Act D
  -- what is next is given
  Gives : Act D

-- what an act leaves
abbrev pub step : {D : Type 0} → Act D → HostOrders D → HostOrders D
step (SetsLoader version) o = set_loader version o
step (Defers task) o = defer task o
step (SetsTimer ticket) o = set_timer ticket o
step Gives o = after_next o

abbrev pub kept_after : {D : Type 0} → List (Act D) → HostOrders D
kept_after [] = none_kept
kept_after (act ∷ before) = step act (kept_after before)

-- what was given, in order
abbrev pub given : {D : Type 0} → List (Act D) → List (DueReply D)
given [] = []
given (Gives ∷ before) = given before ++ option_to_list (next (kept_after before))
given (act ∷ before) = given before

abbrev pub versions_in : {D : Type 0} → List (DueReply D) → List ℕ
versions_in [] = []
versions_in (Loader version ∷ rest) = version ∷ versions_in rest
versions_in (Deferred tasks ∷ rest) = versions_in rest
versions_in (Timer ticket ∷ rest) = versions_in rest

abbrev pub tasks_in : {D : Type 0} → List (DueReply D) → List D
tasks_in [] = []
tasks_in (Loader version ∷ rest) = tasks_in rest
tasks_in (Deferred tasks ∷ rest) = tasks ++ tasks_in rest
tasks_in (Timer ticket ∷ rest) = tasks_in rest

abbrev pub tickets_in : {D : Type 0} → List (DueReply D) → List ℕ
tickets_in [] = []
tickets_in (Loader version ∷ rest) = tickets_in rest
tickets_in (Deferred tasks ∷ rest) = tickets_in rest
tickets_in (Timer ticket ∷ rest) = ticket ∷ tickets_in rest

-- the versions that were set, in order
abbrev pub versions_set : {D : Type 0} → List (Act D) → List ℕ
versions_set [] = []
versions_set (SetsLoader version ∷ before) = versions_set before ++ version ∷ []
versions_set (act ∷ before) = versions_set before

-- the tasks that were deferred, in order
abbrev pub tasks_deferred : {D : Type 0} → List (Act D) → List D
tasks_deferred [] = []
tasks_deferred (Defers task ∷ before) = tasks_deferred before ++ task ∷ []
tasks_deferred (act ∷ before) = tasks_deferred before

abbrev pub HasNoTimer : {D : Type 0} → List (Act D) → Type 0
HasNoTimer [] = Unit {0}
HasNoTimer (SetsTimer ticket ∷ before) = ⊥
HasNoTimer (act ∷ before) = HasNoTimer before

-- the timer is the newest of the run, and no timer was given since it was set
pub record IsNewestTimer {D : Type 0} (ticket : ℕ) (run : List (Act D)) : Type 0 where
  pub since : List (Act D)
  pub before : List (Act D)
  pub split : run ≡ since ++ SetsTimer ticket ∷ before
  pub newest : HasNoTimer since
  pub waits : tickets_in (given run) ≡ tickets_in (given before)

-- what is given is the oldest of the versions that are kept, all of the tasks, or the timer
abbrev pub IsDue : {D : Type 0} → DueReply D → HostOrders D → Type 0
IsDue (Loader version) o = slice_get o.loaders 0 ≡ Some version
IsDue (Deferred tasks) o = o.deferred ≡ tasks
IsDue (Timer ticket) o = o.timer ≡ Some ticket
