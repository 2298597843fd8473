-- The standing of a record's sensor: whether it is in trouble, by its reading.
use Rattle.std.specs.Prelude.{Bool, true, false, List, Option, None, Some, Result, Ok, Err}
use Rattle.ipmi_records.specs.Prelude.{known, sensor_of, shown_of, sdr_view_of}
use Rattle.ipmi_records.specs.declared.column.KnownReading.{KnownReading}
use Rattle.ipmi_records.specs.declared.column.Shown.{Shown}
use Rattle.ipmi_records.specs.declared.sdr.SdrView.{SdrView}
use Rattle.ipmi_records.specs.declared.sdr.SdrFault.{SdrFault}
use Rattle.ipmi_records.specs.declared.sensor.Sensor.{Sensor}
use Rattle.ipmi_events.specs.Worst.{sensor_severity}
use Rattle.ipmi_events.specs.declared.severity.Severity.{Severity}
use Rattle.ipmi_sensors.specs.Sensors.{Found}
use Rattle.ipmi_image.specs.declared.lack.Lack.{Lack}
use Rattle.ipmi_program.specs.WithLacks.{captured}
use Rattle.ipmi_check.specs.declared.standing.Standing.{Standing}

-- what has no severity is taken as sound
abbrev pub by_severity : Option Severity → Standing
by_severity (Some Severity.Critical) = Standing.Critical
by_severity (Some Severity.Warning) = Standing.Warning
by_severity (Some Severity.Nominal) = Standing.Sound
by_severity None = Standing.Sound

abbrev pub of_sensor : Sensor → KnownReading → Shown → Standing
of_sensor sensor reading Shown.OtherOwner = Standing.Elsewhere
of_sensor sensor reading Shown.NotCaptured = Standing.Unknown
of_sensor sensor reading Shown.NoReading = Standing.Silent
of_sensor sensor reading (Shown.Value value) = by_severity (sensor_severity sensor (Shown.Value value))

-- a record that is not one of a sensor can't be judged
abbrev pub of_record : Option Sensor → KnownReading → Standing
of_record None reading = Standing.Unknown
of_record (Some sensor) reading = of_sensor sensor reading (shown_of sensor reading)

-- nor can one with a fault
abbrev pub of_view : List Lack → Result SdrView SdrFault → KnownReading → Standing
of_view lacks (Err fault) reading = Standing.Unknown
of_view lacks (Ok view) reading = of_record (sensor_of view) (captured lacks view reading)

-- in an image that lacks these items; a live controller lacks none
abbrev pub standing_of : List Lack → Found → Standing
standing_of lacks found = of_view lacks (sdr_view_of found.bytes) (known found.reading)

-- whether the second is the first
abbrev pub is_in : Standing → Standing → Bool
is_in Standing.Sound Standing.Sound = true
is_in Standing.Warning Standing.Warning = true
is_in Standing.Critical Standing.Critical = true
is_in Standing.Silent Standing.Silent = true
is_in Standing.Elsewhere Standing.Elsewhere = true
is_in Standing.Unknown Standing.Unknown = true
is_in wanted standing = false
