-- The statements of the laws of lines and blocks, for laws that build on them.
use Rattle.std.specs.Prelude.{◌≡◌, ℕ, List}
use Rattle.ipmi_records.specs.Below.{AreBytes}
use Rattle.ipmi_records.specs.declared.column.KnownReading.{KnownReading}
use Rattle.ipmi_records.specs.declared.sdr.SdrView.{SdrView}
use Rattle.ipmi_records.specs.declared.sel.SelView.{SelView}
use Rattle.ipmi_records.specs.declared.threshold.Threshold.{Threshold}
use Rattle.ipmi_records.specs.Columns.{IsReadingColumn}
use Rattle.ipmi_records.specs.SdrText.{AreThresholdTexts, IsExtendedLine, IsSdrBlock, IsSdrLine}
use Rattle.ipmi_records.specs.Sel.{entry_bytes}
use Rattle.ipmi_records.specs.SelText.{IsSelBlock, IsSelLine}

-- a record has at most one reading column for a reading
abbrev pub ReadingColumnIsUnique : Type 0
ReadingColumnIsUnique = (view : SdrView) (reading : KnownReading) (text other : List ℕ)
    → IsReadingColumn view reading text → IsReadingColumn view reading other → text ≡ other

-- a record has at most one text of threshold lines
abbrev pub ThresholdTextIsUnique : Type 0
ThresholdTextIsUnique =
    (bytes : List ℕ) (thresholds : List Threshold) (text other : List ℕ)
    → AreThresholdTexts bytes thresholds text → AreThresholdTexts bytes thresholds other
    → text ≡ other

-- a record has a reading column for each reading
abbrev pub ReadingColumnExists : Type 0
ReadingColumnExists = (view : SdrView) (reading : KnownReading)
    → (text : List ℕ) × IsReadingColumn view reading text

-- a record's thresholds have lines
abbrev pub ThresholdTextExists : Type 0
ThresholdTextExists = (bytes : List ℕ) (thresholds : List Threshold)
    → (text : List ℕ) × AreThresholdTexts bytes thresholds text

-- a record has at most one line for a reading
abbrev pub SdrLineIsUnique : Type 0
SdrLineIsUnique = (view : SdrView) (reading : KnownReading) (text other : List ℕ)
    → IsSdrLine view reading text → IsSdrLine view reading other → text ≡ other

-- and at most one block for an id and a reading
abbrev pub SdrBlockIsUnique : Type 0
SdrBlockIsUnique =
    (id : ℕ) (view : SdrView) (reading : KnownReading) (text other : List ℕ)
    → IsSdrBlock id view reading text → IsSdrBlock id view reading other → text ≡ other

-- a record has a line and a block
abbrev pub SdrLineExists : Type 0
SdrLineExists =
    (view : SdrView) (reading : KnownReading) → (text : List ℕ) × IsSdrLine view reading text

abbrev pub SdrBlockExists : Type 0
SdrBlockExists = (id : ℕ) (view : SdrView) (reading : KnownReading)
    → (text : List ℕ) × IsSdrBlock id view reading text

-- a record has at most one extended line for a reading
abbrev pub ExtendedLineIsUnique : Type 0
ExtendedLineIsUnique =
    (view : SdrView) (reading : KnownReading) (text other : List ℕ)
    → IsExtendedLine view reading text → IsExtendedLine view reading other → text ≡ other

-- an entry has at most one line for an id
abbrev pub SelLineIsUnique : Type 0
SelLineIsUnique = (id : ℕ) (view : SelView) (text other : List ℕ) → AreBytes (entry_bytes view)
    → IsSelLine id view text → IsSelLine id view other → text ≡ other

-- and at most one block
abbrev pub SelBlockIsUnique : Type 0
SelBlockIsUnique = (id : ℕ) (view : SelView) (text other : List ℕ) → AreBytes (entry_bytes view)
    → IsSelBlock id view text → IsSelBlock id view other → text ≡ other
