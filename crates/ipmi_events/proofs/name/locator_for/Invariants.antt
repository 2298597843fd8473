use Rattle.std.proofs.Common.{◌≡◌, length}
use Rattle.ipmi_events.specs.Name.{locator_for}
use Rattle.ipmi_events.specs.Sensors.{records_in}
use Rattle.ipmi_events.proofs.name.locator_for.Given as goal

-- The first locator of all records is the first locator of the rest.
abbrev pub invariant-records : goal.invariant-records
invariant-records l = locator_for l.id (records_in l.rest) ≡ locator_for l.id (records_in l.records)

abbrev pub decreases-records : goal.decreases-records
decreases-records l = length l.rest
