use Rattle.std.proofs.Common.{◌≡◌, is_err}
use Rattle.std.specs.List.{list_any}
use Rattle.ipmi_fru.specs.Prelude.{has_record_fault, items_left}
use Rattle.ipmi_fru.proofs.fault.has_record_fault.Given as goal

-- There is no fault before the remaining items.
abbrev pub invariant-records : goal.invariant-records
invariant-records l = has_record_fault l.fn.inventory ≡ list_any is_err (items_left l.item-iterator)
