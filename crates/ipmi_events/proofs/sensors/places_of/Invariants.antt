use Rattle.std.proofs.Common.{◌-◌, length}
use Rattle.ipmi_events.proofs.IndexLemmas.{IsIndexTo}
use Rattle.ipmi_events.proofs.sensors.places_of.Given as goal

abbrev pub invariant-records : goal.invariant-records
invariant-records l = IsIndexTo l.place l.records l.places

abbrev pub decreases-records : goal.decreases-records
decreases-records l = length l.records - l.place
