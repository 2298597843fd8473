use Rattle.std.proofs.Common.{◌≡◌, ◌++◌, drop, map}
use Rattle.ipmi_image.specs.Prelude.{sensor_of, reading_fields, lines_text}
use Rattle.ipmi_image.proofs.rewrite.Text.push_readings.Given as goal

-- The text so far, followed by the lines of the remaining readings, is the whole text.
abbrev pub invariant-sensors : goal.invariant-sensors
invariant-sensors l =
    l.self.bytes.items ++ lines_text (map reading_fields (map sensor_of (drop l.sensor-index l.sensors))) ≡ l.fn.self.bytes.items ++ lines_text (map reading_fields (map sensor_of l.sensors))
