-- What was given and what is kept are what was ordered.
use Rattle.std.proofs.Common.{◌≡◌, ℕ, List, [], ◌∷◌, ◌++◌, Option, None, Some, refl, sym, ap, ◌∙◌, append_assoc, append-nil}
use Rattle.std.specs.Prelude.{option_to_list}
use Rattle.host_orders.specs.declared.due_reply.DueReply.{DueReply}
use Rattle.host_orders.specs.declared.due_reply.DueReply.TheVariants.{Loader, Deferred, Timer}
use Rattle.host_orders.specs.HostOrders.{HostOrders, next, after_next}
use Rattle.host_orders.specs.Runs.{Act, kept_after, given, versions_in, tasks_in, versions_set, tasks_deferred}
use Rattle.host_orders.specs.Runs.Act.{SetsLoader, Defers, SetsTimer, Gives}

module _ {D : Type 0} where
  abbrev pub of_three : List ℕ → List D → Option ℕ → HostOrders D
  of_three loaders deferred timer = record { loaders = loaders; deferred = deferred; timer = timer }

  versions_in-append : (xs ys : List (DueReply D)) → versions_in (xs ++ ys) ≡ versions_in xs ++ versions_in ys
  versions_in-append [] ys = refl
  versions_in-append (Loader version ∷ xs) ys = ap (λ l. version ∷ l) (versions_in-append xs ys)
  versions_in-append (Deferred tasks ∷ xs) ys = versions_in-append xs ys
  versions_in-append (Timer ticket ∷ xs) ys = versions_in-append xs ys

  tasks_in-append : (xs ys : List (DueReply D)) → tasks_in (xs ++ ys) ≡ tasks_in xs ++ tasks_in ys
  tasks_in-append [] ys = refl
  tasks_in-append (Loader version ∷ xs) ys = tasks_in-append xs ys
  tasks_in-append (Deferred tasks ∷ xs) ys =
      ap (λ l. tasks ++ l) (tasks_in-append xs ys) ∙ sym (append_assoc tasks (tasks_in xs) (tasks_in ys))
  tasks_in-append (Timer ticket ∷ xs) ys = tasks_in-append xs ys

  -- what is next, and what stays
  next_versions : (loaders : List ℕ) (deferred : List D) (timer : Option ℕ)
      → versions_in (option_to_list (next (of_three loaders deferred timer))) ++ (after_next (of_three loaders deferred timer)).loaders ≡ loaders
  next_versions (version ∷ rest) deferred timer = refl
  next_versions [] (task ∷ rest) timer = refl
  next_versions [] [] (Some ticket) = refl
  next_versions [] [] None = refl

  next_tasks : (loaders : List ℕ) (deferred : List D) (timer : Option ℕ)
      → tasks_in (option_to_list (next (of_three loaders deferred timer))) ++ (after_next (of_three loaders deferred timer)).deferred ≡ deferred
  next_tasks (version ∷ rest) deferred timer = refl
  next_tasks [] (task ∷ rest) timer = append-nil ((task ∷ rest) ++ []) ∙ append-nil (task ∷ rest)
  next_tasks [] [] (Some ticket) = refl
  next_tasks [] [] None = refl

  pub versions_once : (run : List (Act D)) → versions_in (given run) ++ (kept_after run).loaders ≡ versions_set run
  versions_once [] = refl
  versions_once (SetsLoader version ∷ before) =
      sym (append_assoc (versions_in (given before)) (kept_after before).loaders (version ∷ [])) ∙ ap (λ l. l ++ version ∷ []) (versions_once before)
  versions_once (Defers task ∷ before) = versions_once before
  versions_once (SetsTimer ticket ∷ before) = versions_once before
  versions_once (Gives ∷ before) =
      let o = kept_after before in
      ap (λ l. l ++ (after_next o).loaders) (versions_in-append (given before) (option_to_list (next o)))
      ∙ append_assoc (versions_in (given before)) (versions_in (option_to_list (next o))) (after_next o).loaders
      ∙ ap (λ l. versions_in (given before) ++ l) (next_versions o.loaders o.deferred o.timer)
      ∙ versions_once before

  pub tasks_once : (run : List (Act D)) → tasks_in (given run) ++ (kept_after run).deferred ≡ tasks_deferred run
  tasks_once [] = refl
  tasks_once (SetsLoader version ∷ before) = tasks_once before
  tasks_once (Defers task ∷ before) =
      sym (append_assoc (tasks_in (given before)) (kept_after before).deferred (task ∷ [])) ∙ ap (λ l. l ++ task ∷ []) (tasks_once before)
  tasks_once (SetsTimer ticket ∷ before) = tasks_once before
  tasks_once (Gives ∷ before) =
      let o = kept_after before in
      ap (λ l. l ++ (after_next o).deferred) (tasks_in-append (given before) (option_to_list (next o)))
      ∙ append_assoc (tasks_in (given before)) (tasks_in (option_to_list (next o))) (after_next o).deferred
      ∙ ap (λ l. tasks_in (given before) ++ l) (next_tasks o.loaders o.deferred o.timer)
      ∙ tasks_once before

  -- all versions were given where none is kept, and all tasks
  pub all_versions : (run : List (Act D)) → (kept_after run).loaders ≡ [] → versions_in (given run) ≡ versions_set run
  all_versions run none = sym (ap (λ l. versions_in (given run) ++ l) none ∙ append-nil (versions_in (given run))) ∙ versions_once run

  pub all_tasks : (run : List (Act D)) → (kept_after run).deferred ≡ [] → tasks_in (given run) ≡ tasks_deferred run
  all_tasks run none = sym (ap (λ l. tasks_in (given run) ++ l) none ∙ append-nil (tasks_in (given run))) ∙ tasks_once run

  -- what is next, by its kind
  pub before_tasks : (loaders : List ℕ) (deferred : List D) (timer : Option ℕ) (tasks : List D)
      → next (of_three loaders deferred timer) ≡ Some (Deferred tasks) → loaders ≡ []
  before_tasks (version ∷ rest) deferred timer tasks is = absurd cc
  before_tasks [] deferred timer tasks is = refl

  pub before_timer : (loaders : List ℕ) (deferred : List D) (timer : Option ℕ) (ticket : ℕ)
      → next (of_three loaders deferred timer) ≡ Some (Timer ticket) → (loaders ≡ []) × (deferred ≡ []) × (timer ≡ Some ticket)
  before_timer (version ∷ rest) deferred timer ticket is = absurd cc
  before_timer [] (task ∷ rest) timer ticket is = absurd cc
  before_timer [] [] (Some other) ticket is = (refl, refl, cc)
  before_timer [] [] None ticket is = absurd cc

  pub before_none : (loaders : List ℕ) (deferred : List D) (timer : Option ℕ)
      → next (of_three loaders deferred timer) ≡ None → (loaders ≡ []) × (deferred ≡ []) × (timer ≡ None)
  before_none (version ∷ rest) deferred timer is = absurd cc
  before_none [] (task ∷ rest) timer is = absurd cc
  before_none [] [] (Some ticket) is = absurd cc
  before_none [] [] None is = (refl, refl, refl)
