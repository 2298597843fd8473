-- The texts that a command prints for a row, an inventory and an info, in any form of output.
use Rattle.std.specs.Prelude.{◌≡◌, ℕ, ◌==◌, not, Bool, true, false, is_err, Option, Some, None, Result, Ok, Err, List, []}
use Rattle.ipmi_commands.specs.Below.{known, Reading, Row, Store, inventory_of, reading_of, SdrFault, SdrView, Shelf, printed_name, sel_view_of}
use Rattle.ipmi_records.specs.Sdr as sdr
use Rattle.ipmi_selection.specs.declared.detail.Detail.{Detail}
use Rattle.ipmi_commands.specs.declared.job.EntryText.{EntryText}
use Rattle.ipmi_commands.specs.declared.job.Form.{Form}
use Rattle.ipmi_commands.specs.Format.{IsTextOfRecord, Texts}
use Rattle.ipmi_commands.specs.Output.{piece_of, Output}
use Rattle.ipmi_selection.specs.Selection.{is_name, Selected, selects, selects_entry}

-- ---- selection

-- the text if it is selected, otherwise nothing
abbrev pub IfChosen : Bool → (List ℕ → Type 0) → List ℕ → Type 0
IfChosen true IsText text = IsText text
IfChosen false IsText text = text ≡ []

-- ---- records

abbrev pub reading_by : Store → Option (ℕ × ℕ) → Option Reading
reading_by store None = None
reading_by store (Some key) = reading_of key.0 key.1 store

-- the store's reading that belongs to a record
abbrev pub reading_for : Store → SdrView → Option Reading
reading_for store view = reading_by store (sdr.reading_of view)

-- the text of a record with its reading, or of its fault
abbrev pub IsRecordText : Texts → Detail → Store → Row → Result SdrView SdrFault → List ℕ → Type 0
IsRecordText x detail store row (Ok view) text = IsTextOfRecord x detail row.id view (known (reading_for store view)) text
IsRecordText x detail store row (Err fault) text = x.IsFault row.id fault row.bytes text

-- the text of a record that is selected, nothing for any other
abbrev pub IsListed : Texts → Detail → Selected → Store → Row → List ℕ → Type 0
IsListed x detail selection store row text =
    IfChosen (selects selection row)
    (λ t. IsRecordText x detail store row (sdr.sdr_view_of row.bytes) t) text

-- the block of a record with this name; nothing for a record without it, or with a fault
abbrev pub IsBlockOfName : Texts → List ℕ → Store → ℕ → Result SdrView SdrFault → List ℕ → Type 0
IsBlockOfName x name store id (Ok view) text =
    IfChosen (is_name name (sdr.name_of view))
    (λ t. IsTextOfRecord x Detail.Block id view (known (reading_for store view)) t) text
IsBlockOfName x name store id (Err fault) text = text ≡ []

-- the text of an entry that is selected, nothing for any other
abbrev pub IsListedEntry : Texts → EntryText → Row → List ℕ → Type 0
IsListedEntry x entries row text =
    IfChosen (selects_entry entries.selection row)
    (λ t. x.IsEntry entries.selection.detail row.id (sel_view_of row.bytes) entries.sensors t) text

-- ---- devices

-- the device of a locator with this name; nothing for device 0, which was already printed; a device that is reached
-- elsewhere is only named, not read
abbrev pub IsDevicePiece : Texts → Store → List ℕ → Option ℕ → List ℕ → Type 0
IsDevicePiece x store name None text = x.IsElsewhere name text
IsDevicePiece x store name (Some id) text =
    IfChosen (not (id == 0))
    (λ t. x.IsDevice Detail.Line id (Some name) (inventory_of id store) t) text

-- the device of a FRU device locator; nothing for any other record
abbrev pub IsLocatorPiece : Texts → Store → Result SdrView SdrFault → List ℕ → Type 0
IsLocatorPiece x store (Ok (SdrView.Fru bytes)) text =
    IsDevicePiece x store (printed_name (SdrView.Fru bytes)) (sdr.fru_of (SdrView.Fru bytes)) text
IsLocatorPiece x store _ text = text ≡ []

-- ---- what is printed as one text

-- a row in a form; a device and its name; the bytes of a shelf's info
pub data Subject : Type 0 where
  OfRow : Form → Row → Subject
  OfInventory : Detail → ℕ → Option (List ℕ) → Subject
  OfInfo : Shelf → List ℕ → Subject

-- the text of a row, nothing for a row that is left out
abbrev pub IsRowText : Texts → Store → Form → Row → List ℕ → Type 0
IsRowText x store Form.Hex row text = x.IsHex row text
IsRowText x store Form.Bytes row text = text ≡ row.bytes
IsRowText x store (Form.Record detail selection) row text = IsListed x detail selection store row text
IsRowText x store (Form.Block name) row text =
    IsBlockOfName x name store row.id (sdr.sdr_view_of row.bytes) text
IsRowText x store Form.Device row text = IsLocatorPiece x store (sdr.sdr_view_of row.bytes) text
IsRowText x store (Form.Entry entries) row text = IsListedEntry x entries row text
IsRowText x store Form.Skipped row text = text ≡ []

-- the text of a subject, with the readings and inventories of the store
abbrev pub IsTextOver : Texts → Store → Subject → List ℕ → Type 0
IsTextOver x store (OfRow form row) text = IsRowText x store form row text
IsTextOver x store (OfInventory detail id name) text = x.IsDevice detail id name (inventory_of id store) text
IsTextOver x store (OfInfo shelf info) text = x.IsInfo shelf info text

-- ---- what is counted

-- a device is missing, or its text names a fault of its inventory
abbrev pub is_faulty_device : Texts → Detail → Option (List ℕ) → Bool
is_faulty_device x detail None = true
is_faulty_device x detail (Some bytes) = x.names_fault detail bytes

-- a device that is reached elsewhere has no fault
abbrev pub is_faulty_there : Texts → Store → Option ℕ → Bool
is_faulty_there x store None = false
is_faulty_there x store (Some id) = is_faulty_device x Detail.Line (inventory_of id store)

abbrev pub is_faulty_locator : Texts → Store → Result SdrView SdrFault → Bool
is_faulty_locator x store (Ok view) = is_faulty_there x store (sdr.fru_of view)
is_faulty_locator x store (Err fault) = false

abbrev pub is_faulty_row : Texts → Store → Form → Row → Bool
is_faulty_row x store (Form.Record detail selection) row = is_err (sdr.sdr_view_of row.bytes)
is_faulty_row x store Form.Device row = is_faulty_locator x store (sdr.sdr_view_of row.bytes)
is_faulty_row x store form row = false

-- the item that is printed for the subject has a fault
abbrev pub is_faulty : Texts → Store → Subject → Bool
is_faulty x store (OfRow form row) = is_faulty_row x store form row
is_faulty x store (OfInventory detail id name) = is_faulty_device x detail (inventory_of id store)
is_faulty x store (OfInfo shelf info) = false

-- a text of the subject, and what is counted for it
pub record IsPieceOver (x : Texts) (store : Store) (subject : Subject) (piece : Output) : Type 0 where
  pub is_text : IsTextOver x store subject piece.bytes
  pub counted : piece ≡ piece_of piece.bytes (is_faulty x store subject)
