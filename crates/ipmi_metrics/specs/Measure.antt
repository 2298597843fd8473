-- What a sensor measures, by the units of its readings (IPMI v2.0, tables 43-1 and 43-15).
use Rattle.std.specs.Prelude.{ℕ, ◌%◌, ◌==◌, Bool, true, false, if◌then◌else◌}
use Rattle.ipmi_text.specs.declared.units.Units.{Units}
use Rattle.ipmi_records.specs.Prelude.{analog_format, units_in}
use Rattle.ipmi_records.specs.declared.sdr.SdrView.{SdrView}
use Rattle.ipmi_metrics.specs.declared.measure.Measure.{Measure}

-- the base unit
abbrev pub by_base_unit : ℕ → Measure
by_base_unit base =
    if base == 1 then Measure.Temperature
    else if base == 4 then Measure.Voltage
    else if base == 5 then Measure.Current
    else if base == 6 then Measure.Power
    else if base == 18 then Measure.FanSpeed
    else Measure.Other

-- bits 5:0 of sensor units 1 join something to the base unit: a rate, a modifier or a percentage
abbrev pub by_units : Units → Measure
by_units units = if units.units1 % 64 == 0 then by_base_unit units.base else Measure.Other

-- only a full record has readings with units, unless its analog format is 3
abbrev pub measure_of : SdrView → Measure
measure_of (SdrView.Full bytes) = if analog_format bytes == 3 then Measure.Other else by_units (units_in bytes)
measure_of view = Measure.Other

-- whether the second is the first
abbrev pub is_measure : Measure → Measure → Bool
is_measure Measure.Temperature Measure.Temperature = true
is_measure Measure.FanSpeed Measure.FanSpeed = true
is_measure Measure.Voltage Measure.Voltage = true
is_measure Measure.Current Measure.Current = true
is_measure Measure.Power Measure.Power = true
is_measure Measure.Other Measure.Other = true
is_measure wanted measure = false
