use Rattle.std.proofs.Common.{◌-◌, length}
use Rattle.ipmi_capture.proofs.MarkLemmas.{NamesTo}
use Rattle.ipmi_capture.proofs.named.Named.of.Given as goal

abbrev pub invariant-records : goal.invariant-records
invariant-records l = NamesTo l.place l.image.sdr l.named.sensors.items l.named.devices.items

abbrev pub decreases-records : goal.decreases-records
decreases-records l = length l.image.sdr - l.place
