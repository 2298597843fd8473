use Rattle.std.proofs.Common.{◌≡◌, ◌++◌, List, None}
use Rattle.json.specs.Json.{Json}
use Rattle.ipmi_fru.specs.Prelude.{items_left}
use Rattle.ipmi_json.specs.Members.{TellsItems}
use Rattle.ipmi_json.specs.Multirecords.{AreObjects, fault_among, records_among}
use Rattle.ipmi_json.proofs.multirecords.tell_objects.Given as goal

-- The objects so far, followed by those of the remaining items, are all objects.
abbrev pub invariant-records : goal.invariant-records
invariant-records g l =
    (done : List Json)
    × ((more : List Json) → AreObjects (records_among (items_left l.item-iterator)) more → AreObjects (records_among (items_left l.fn.records)) (done ++ more))
    × TellsItems g.M.Members.told done l.fn.out l.out
    × (fault_among l.end (items_left l.item-iterator) ≡ fault_among None (items_left l.fn.records))
