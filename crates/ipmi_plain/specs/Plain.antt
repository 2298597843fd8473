-- The texts in codes, and those in words.
use Rattle.std.specs.Prelude.{◌≡◌, ℕ, ◌++◌, Bool, true, false, is_some, Option, None, Some, List, [], codes, decimal}
use Rattle.ipmi_fru.specs.Fault.{has_fault}
use Rattle.ipmi_fru.specs.Header.{header_fault}
use Rattle.ipmi_fru.specs.Line.{elsewhere_line, IsFruLine}
use Rattle.ipmi_fru.specs.Print.{IsFruText}
use Rattle.ipmi_records.specs.Info.{IsInfoBlock}
use Rattle.ipmi_records.specs.SdrText.{fault_line, IsExtendedLine, IsSdrBlock, IsSdrLine}
use Rattle.ipmi_records.specs.SelText.{IsSelBlock, IsSelLine}
use Rattle.ipmi_records.specs.declared.column.KnownReading.{KnownReading}
use Rattle.ipmi_records.specs.declared.sdr.SdrView.{SdrView}
use Rattle.ipmi_records.specs.declared.sel.SelView.{SelView}
use Rattle.ipmi_events.specs.EventLines.{IsEventInWords}
use Rattle.ipmi_events.specs.SensorBlocks.{IsSensorBlock}
use Rattle.ipmi_events.specs.SensorLines.{IsSensorLine}
use Rattle.ipmi_image.specs.Rewritten.{record_line_of}
use Rattle.ipmi_selection.specs.declared.detail.Detail.{Detail}
use Rattle.ipmi_commands.specs.Format.{Texts}

-- ---- in codes

abbrev pub IsRecordInCodes : Detail → ℕ → SdrView → KnownReading → List ℕ → Type 0
IsRecordInCodes Detail.Line id view reading text = IsSdrLine view reading text
IsRecordInCodes Detail.Long id view reading text = IsExtendedLine view reading text
IsRecordInCodes Detail.Block id view reading text = IsSdrBlock id view reading text

abbrev pub IsEntryInCodes : Detail → ℕ → SelView → List ℕ → Type 0
IsEntryInCodes Detail.Block id view text = IsSelBlock id view text
IsEntryInCodes detail id view text = IsSelLine id view text

abbrev pub IsInventoryText : Option (List ℕ) → List ℕ → Type 0
IsInventoryText None text = text ≡ codes "not present\n"
IsInventoryText (Some bytes) text = IsFruText bytes text

-- the name of a device in parentheses, after a space; nothing if there is no name
abbrev pub in_parentheses : Option (List ℕ) → List ℕ
in_parentheses None = []
in_parentheses (Some name) = codes " (" ++ (name ++ codes ")")

-- a line with the device and its name, its inventory, and an empty line
pub record IsInventoryPiece (id : ℕ) (name inventory : Option (List ℕ)) (text : List ℕ) : Type 0 where
  pub part : List ℕ
  pub is_part : IsInventoryText inventory part
  pub text_is : text ≡ codes "FRU " ++
      (decimal id ++ (in_parentheses name ++ (codes "\n" ++ (part ++ codes "\n"))))

-- events have no names
abbrev pub plain_texts : Texts
plain_texts = record {
  IsRecord = IsRecordInCodes;
  IsFault = λ id fault bytes text. text ≡ fault_line id fault;
  IsHex = λ row text. text ≡ record_line_of row;
  IsEntry = λ detail id view sensors text. IsEntryInCodes detail id view text;
  IsInfo = λ shelf info text. IsInfoBlock info text;
  IsDevice = λ detail id name inventory text. IsInventoryPiece id name inventory text;
  IsElsewhere = λ name text. text ≡ codes "FRU (" ++ (name ++ codes "): elsewhere, not read\n\n");
  names_fault = λ detail bytes. has_fault bytes;
  has_names = λ detail. false;
}

-- ---- in words, of which only those are other texts that tell more

abbrev pub IsRecordInWords : Detail → ℕ → SdrView → KnownReading → List ℕ → Type 0
IsRecordInWords Detail.Line id view reading text = IsSensorLine view reading text
IsRecordInWords Detail.Long id view reading text = IsExtendedLine view reading text
IsRecordInWords Detail.Block id view reading text = IsSensorBlock id view reading text

abbrev pub IsEntryInWords : Detail → ℕ → SelView → Option (List (List ℕ)) → List ℕ → Type 0
IsEntryInWords Detail.Block id view sensors text = IsSelBlock id view text
IsEntryInWords detail id view None text = IsSelLine id view text
IsEntryInWords detail id view (Some sensors) text = IsEventInWords id view sensors text

-- one line, or all of the inventory
abbrev pub IsDeviceInWords : Detail → ℕ → Option (List ℕ) → Option (List ℕ) → List ℕ → Type 0
IsDeviceInWords Detail.Block id name inventory text = IsInventoryPiece id name inventory text
IsDeviceInWords detail id name inventory text = IsFruLine id name inventory text

-- the line names only a fault of the header
abbrev pub names_fault_in_words : Detail → List ℕ → Bool
names_fault_in_words Detail.Block bytes = has_fault bytes
names_fault_in_words detail bytes = is_some (header_fault bytes)

-- the block of an entry has no names
abbrev pub has_names_in_words : Detail → Bool
has_names_in_words Detail.Block = false
has_names_in_words detail = true

abbrev pub descriptive_texts : Texts
descriptive_texts = record {
  IsRecord = IsRecordInWords;
  IsFault = plain_texts.IsFault;
  IsHex = plain_texts.IsHex;
  IsEntry = IsEntryInWords;
  IsInfo = plain_texts.IsInfo;
  IsDevice = IsDeviceInWords;
  IsElsewhere = λ name text. text ≡ elsewhere_line name;
  names_fault = names_fault_in_words;
  has_names = has_names_in_words;
}
