-- Requests for a reading, an info or an inventory, and their results: for the contracts of private
-- functions.
use Rattle.std.specs.Prelude.{◌≡◌, ℕ, ◌+◌, ◌≤◌, ◌==◌, if◌then◌else◌, Bool, true, false, [], IsTrue, MatchBool, Option, None, Some, Result, Ok, Err, List, Vec}
use Rattle.std.specs.declared.alloc.Global.{Global}
use Rattle.ipmi_commands.specs.Below.{fru_of, FruEnded, KeepsReservations, LastFruCallSays, printed_name, ReadsInventory, ReadsRetryingParts, Row, sdr_view_of, SdrFault, SdrView, Store, Shelf, Seen, Failure}
use Rattle.ipmi_commands.specs.declared.limits.Tries.{Tries}
use Rattle.ipmi_selection.specs.declared.detail.Detail.{Detail}
use Rattle.ipmi_commands.specs.declared.job.Form.{Form}
use Rattle.ipmi_commands.specs.Format.{Texts}
use Rattle.ipmi_commands.specs.declared.piece.Piece.{Piece}
use Rattle.ipmi_commands.specs.declared.piece.RowText.{RowText}
use Rattle.ipmi_commands.specs.declared.read_error.ReadError.{ReadError}
use Rattle.ipmi_commands.specs.Allowed.{AtEnd, Cause, cause_of, EndsFor}
use Rattle.ipmi_commands.specs.Calls.{calls_for_points}
use Rattle.ipmi_commands.specs.Meanwhile.{KeepsAt}
use Rattle.ipmi_commands.specs.Plan.{locator_points, ReadPoint}
use Rattle.ipmi_commands.specs.Run.{LacksValue, NoneIsTrue, ShowsInventory}
use Rattle.ipmi_commands.specs.Output.{Output, piece_of}
use Rattle.ipmi_commands.specs.Texts.{IsDevicePiece, is_faulty_there, IsPieceOver, OfRow}
use Rattle.ipmi_commands.specs.Traced.{IsStopAmong}

-- ---- found, or not

-- what holds over an honest controller after requests at these points that end with this cause
pub record AsksAt (points : List ReadPoint) (tries : Tries) (s s' : Seen) (cause : Cause) : Type 0 where
  pub ends : EndsFor tries (IsTrue s.plain) s s' cause
  pub calls : KeepsAt points s s' → s'.calls ≤ s.calls + calls_for_points tries s.store points
  pub keeps : IsTrue s.plain → KeepsReservations s s'

-- the value is found, as the store has it now, and the run continues; if an inventory changed while it
-- was read, any value
pub record FindsIt (Is : Store → Type 0) (points : List ReadPoint) (tries : Tries)
    (s s' : Seen) : Type 0 where
  pub asks : AsksAt points tries s s' AtEnd
  pub is : KeepsAt points s s' → Is s'.store

-- the failure of a run that ends for this reason
abbrev pub failure_of : ReadError → Failure
failure_of (ReadError.Ended ended) = Failure.Ended ended
failure_of (ReadError.Inventory id ended) = Failure.Inventory id ended
failure_of ReadError.Memory = Failure.OutOfMemory

abbrev pub cause_of_unread : ReadError → Cause
cause_of_unread unread = cause_of (Err (failure_of unread))

-- the value is not found; the run ends with this cause
pub record FindsNone (points : List ReadPoint) (tries : Tries) (s s' : Seen) (cause : Cause) : Type 0 where
  pub asks : AsksAt points tries s s' cause
  pub there : IsStopAmong points cause

-- the result of requests at these points: the value is found, or not
abbrev pub Finds : {T : Type 0} → (Store → T → Type 0) → List ReadPoint → Tries → Seen → Seen
    → Result T ReadError → Type 0
Finds Is points tries s s' (Ok found) = FindsIt (λ store. Is store found) points tries s s'
Finds Is points tries s s' (Err unread) = FindsNone points tries s s' (cause_of_unread unread)

abbrev pub shown : Piece → Output
shown piece = piece_of piece.text.items piece.has_fault

-- the bytes of a record's text; `line` is the contents of the line buffer
abbrev pub bytes_of : List ℕ → RowText → List ℕ
bytes_of line RowText.Line = line
bytes_of line (RowText.Own piece) = piece.text.items

abbrev pub row_has_fault : RowText → Bool
row_has_fault RowText.Line = false
row_has_fault (RowText.Own piece) = piece.has_fault

abbrev pub row_piece : List ℕ → RowText → Output
row_piece line text = piece_of (bytes_of line text) (row_has_fault text)

-- a text of a locator's device, and what is counted for it
pub record IsCountedDevice (x : Texts) (store : Store) (name : List ℕ) (id : Option ℕ) (piece : Output) : Type 0 where
  pub is_text : IsDevicePiece x store name id piece.bytes
  pub counted : piece ≡ piece_of piece.bytes (is_faulty_there x store id)

-- the result for the device of a record with these bytes, whatever its ids
abbrev pub FindsLocator : Texts → List ℕ → Tries → Seen → Seen → Result Piece ReadError → Type 0
FindsLocator x bytes tries s s' result = (id next : ℕ) → Finds (λ store piece.
    IsPieceOver x store (OfRow Form.Device (record { id = id; next = next; bytes = bytes })) (shown piece))
    (locator_points (sdr_view_of bytes)) tries s s' result

-- reading an inventory, over an honest controller, with so many tries for each part of it or for the whole
abbrev pub ReadsFor : Bool → (Seen → Type 0) → ℕ → ℕ → Seen → Seen → Result (List ℕ) FruEnded → Type 0
ReadsFor true IsState id tries s s' result = ReadsRetryingParts IsState id tries s s' result
ReadsFor false IsState id tries s s' result = ReadsInventory id tries s s' result

-- the controller has no such inventory
abbrev pub is_absent : FruEnded → Bool
is_absent (FruEnded.Refused code) = code.0 == 0xCB
is_absent _ = false

-- the result for an inventory that was not read: there is none, or the run ends
abbrev pub unread_inventory : ℕ → FruEnded → Result (Option (Vec ℕ Global)) ReadError
unread_inventory id ended = if is_absent ended then Ok None else Err (ReadError.Inventory id ended)

-- the text of a shelf's info, if the store has one; otherwise none
abbrev pub IsInfoText : Texts → Shelf → Option (List ℕ) → Option (List ℕ) → Type 0
IsInfoText x shelf None None = Unit {0}
IsInfoText x shelf (Some info) (Some text) = x.IsInfo shelf info text
IsInfoText x shelf _ _ = ⊥

-- ---- over any controller: the last call agrees with why nothing was found

-- an inventory was not read, or out of memory
abbrev pub LacksInventory : ReadError → Seen → Type 0
LacksInventory (ReadError.Inventory id ended) seen = LastFruCallSays ended seen
LacksInventory ReadError.Memory seen = Unit {0}
LacksInventory _ seen = ⊥

-- the text of a record in this form is missing
abbrev pub PieceErrorIsTrue : Form → ReadError → Seen → Type 0
PieceErrorIsTrue (Form.Record detail selection) unread seen = LacksValue unread seen
PieceErrorIsTrue (Form.Block name) unread seen = LacksValue unread seen
PieceErrorIsTrue Form.Device unread seen = LacksInventory unread seen
PieceErrorIsTrue _ unread seen = unread ≡ ReadError.Memory

-- the text for a device of this name that a locator names: that it is elsewhere; nothing for device 0, which was already printed; or the
-- text of some inventory, or of none if the last call says that there is none
abbrev pub ShowsDevice : Texts → List ℕ → Option ℕ → Seen → Output → Type 0
ShowsDevice x name None seen text = x.IsElsewhere name text.bytes × (text ≡ piece_of text.bytes false)
ShowsDevice x name (Some id) seen text =
    MatchBool (id == 0) (text ≡ piece_of [] false) (ShowsInventory x Detail.Line id (Some name) seen text)

-- the same for a record; nothing if it is no FRU device locator
abbrev pub ShowsLocator : Texts → Result SdrView SdrFault → Seen → Output → Type 0
ShowsLocator x (Ok (SdrView.Fru bytes)) seen text =
    ShowsDevice x (printed_name (SdrView.Fru bytes)) (fru_of (SdrView.Fru bytes)) seen text
ShowsLocator x _ seen text = text ≡ piece_of [] false

-- the same for a row in a listing of devices; in a listing of bytes, those of the record; nothing is said of other forms
abbrev pub ShowsRow : Texts → Form → Row → Seen → Output → Type 0
ShowsRow x Form.Bytes row seen text = text.bytes ≡ row.bytes
ShowsRow x Form.Device row seen text = ShowsLocator x (sdr_view_of row.bytes) seen text
ShowsRow x form row seen text = Unit {0}

-- an info was read, or the last call says that there is none or why it was not read
abbrev pub InfoSays : {T : Type 0} → Result (Option T) ReadError → Seen → Type 0
InfoSays (Ok found) seen = NoneIsTrue found seen
InfoSays (Err unread) seen = LacksValue unread seen
