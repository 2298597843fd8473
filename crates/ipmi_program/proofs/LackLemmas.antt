-- Readings that are not lacking.
use Rattle.std.proofs.Common.{◌≡◌, refl}
use Rattle.ipmi_records.specs.declared.column.KnownReading.{KnownReading}
use Rattle.ipmi_program.specs.WithLacks.{OthersStay}

pub as_it_is : OthersStay
as_it_is lacks view KnownReading.Absent not_lacking = rw not_lacking refl
as_it_is lacks view KnownReading.NotCaptured not_lacking = refl
as_it_is lacks view (KnownReading.Present reading) not_lacking = refl
