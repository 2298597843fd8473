-- The statements of the laws of sensors' lines and blocks.
use Rattle.std.specs.Prelude.{◌≡◌, ℕ, List}
use Rattle.ipmi_events.specs.Below.{KnownReading, SdrView}
use Rattle.ipmi_events.specs.SensorBlocks.{IsSensorBlock}
use Rattle.ipmi_events.specs.SensorLines.{IsSensorLine}

-- a record has at most one line of its sensor for a reading
abbrev pub SensorLineIsUnique : Type 0
SensorLineIsUnique = (view : SdrView) (reading : KnownReading) (text other : List ℕ)
    → IsSensorLine view reading text → IsSensorLine view reading other → text ≡ other

-- and at most one block for an id and a reading
abbrev pub SensorBlockIsUnique : Type 0
SensorBlockIsUnique =
    (id : ℕ) (view : SdrView) (reading : KnownReading) (text other : List ℕ)
    → IsSensorBlock id view reading text → IsSensorBlock id view reading other → text ≡ other

-- a record has a line of its sensor
abbrev pub SensorLineExists : Type 0
SensorLineExists =
    (view : SdrView) (reading : KnownReading) → (text : List ℕ) × IsSensorLine view reading text

-- and a block of its sensor
abbrev pub SensorBlockExists : Type 0
SensorBlockExists = (id : ℕ) (view : SdrView) (reading : KnownReading)
    → (text : List ℕ) × IsSensorBlock id view reading text
