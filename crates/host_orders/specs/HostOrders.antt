-- What a host keeps of a turn's orders until it gives their answers.
use Rattle.std.specs.Prelude.{ℕ, List, [], ◌∷◌, ◌++◌, drop, slice_get, Option, None, Some, option_map}
use Rattle.std.specs.Option.{option_or}
use Rattle.host_orders.specs.declared.due_reply.DueReply.{DueReply}
use Rattle.host_orders.specs.declared.due_reply.DueReply.TheVariants.{Loader, Deferred, Timer}

pub record HostOrders (D : Type 0) : Type 0 where
  -- the versions of the settings of a loader
  pub loaders : List ℕ
  pub deferred : List D
  -- the ticket of the newest timer
  pub timer : Option ℕ

abbrev pub none_kept : {D : Type 0} → HostOrders D
none_kept = record { loaders = []; deferred = []; timer = None }

abbrev pub set_loader : {D : Type 0} → ℕ → HostOrders D → HostOrders D
set_loader version o = record o { loaders = o.loaders ++ version ∷ [] }

abbrev pub defer : {D : Type 0} → D → HostOrders D → HostOrders D
defer task o = record o { deferred = o.deferred ++ task ∷ [] }

-- the newer timer replaces the older
abbrev pub set_timer : {D : Type 0} → ℕ → HostOrders D → HostOrders D
set_timer ticket o = record o { timer = Some ticket }

-- all items, where there are any
abbrev pub batch : {X : Type 0} → List X → Option (List X)
batch [] = None
batch (x ∷ rest) = Some (x ∷ rest)

-- the oldest settings of a loader, else all tasks, else the timer
abbrev pub next : {D : Type 0} → HostOrders D → Option (DueReply D)
next o =
    option_or (option_map Loader (slice_get o.loaders 0))
    (option_or (option_map Deferred (batch o.deferred))
    (option_map Timer o.timer))

abbrev pub without : {D : Type 0} → Option (DueReply D) → HostOrders D → HostOrders D
without None o = o
without (Some (Loader version)) o = record o { loaders = drop 1 o.loaders }
without (Some (Deferred tasks)) o = record o { deferred = [] }
without (Some (Timer ticket)) o = record o { timer = None }

-- what is next is kept no more
abbrev pub after_next : {D : Type 0} → HostOrders D → HostOrders D
after_next o = without (next o) o
