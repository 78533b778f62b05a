-- Facts of a record that have one proof at most.
use Rattle.std.proofs.Common.{◌≡◌, ℕ, List, true, Result, Ok, Err, IfOk, IfErr}
use Rattle.std.specs.Coded.{Coded-set, coded_ℕ, coded_list, coded_bool, ×_prop, Unit-prop}
use mathlib.Core.HLevel.{⊥_prop}
use Rattle.session_port.specs.declared.event.HostEvent.{HostEvent}
use Rattle.session_record.specs.Record.{recorded, can_be_recorded, Refuses}
use Rattle.session_record.specs.declared.start.StartConfig.{StartConfig}
use Rattle.session_record.specs.declared.fault.RecordFault.{RecordFault}
use Rattle.session_record.specs.declared.fault.RecordFault.TheVariants.{Unrecordable, BadRecord, NoMemory}

module _ (begin : StartConfig) (events : List HostEvent) where
  pub ok_prop : {V E : Type 0} (items : V → List ℕ) (r : Result V E)
      → IsProp (IfOk r (λ v. (can_be_recorded begin events ≡ true) × (items v ≡ recorded begin events)))
  ok_prop items (Ok v) = ×_prop (Coded-set coded_bool _ _) (Coded-set (coded_list coded_ℕ) _ _)
  ok_prop items (Err e) = Unit-prop

  refuses_prop : (e : RecordFault) → IsProp (Refuses begin events e)
  refuses_prop (Unrecordable place) = ×_prop (Coded-set coded_bool _ _) (Coded-set coded_ℕ _ _)
  refuses_prop BadRecord = ⊥_prop
  refuses_prop NoMemory = Unit-prop

  pub err_prop : {V : Type 0} (r : Result V RecordFault) → IsProp (IfErr r (Refuses begin events))
  err_prop (Ok v) = Unit-prop
  err_prop (Err e) = refuses_prop e
