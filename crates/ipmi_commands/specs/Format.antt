-- What contracts say of a form of output: which texts it has for each thing that a command prints.
use Rattle.std.specs.Prelude.{◌≡◌, ℕ, ◌<◌, length, Bool, false, Option, Some, List, []}
use Rattle.ipmi_commands.specs.Below.{AreBytes, entry_bytes, KnownReading, Row, SdrFault, SdrView, SelView, Shelf}
use Rattle.ipmi_commands.specs.declared.format.Table.{Table}
use Rattle.ipmi_selection.specs.declared.detail.Detail.{Detail}

-- the texts of:
-- a sensor data record, by its id, with what is known of its sensor's reading;
-- a record with a fault, by its id, the fault and its bytes;
-- a record in hex;
-- an entry of the event log, by its id, with the sensor data records that name its sensor, if they were read;
-- the info of a shelf;
-- a device, by its id, with its name and its inventory, if there are any;
-- a device of this name that is reached elsewhere.
-- And whether the text of a device names a fault of its inventory, and whether entries and devices have names.
pub record Texts : Type 1 where
  pub IsRecord : Detail → ℕ → SdrView → KnownReading → List ℕ → Type 0
  pub IsFault : ℕ → SdrFault → List ℕ → List ℕ → Type 0
  pub IsHex : Row → List ℕ → Type 0
  pub IsEntry : Detail → ℕ → SelView → Option (List (List ℕ)) → List ℕ → Type 0
  pub IsInfo : Shelf → List ℕ → List ℕ → Type 0
  pub IsDevice : Detail → ℕ → Option (List ℕ) → Option (List ℕ) → List ℕ → Type 0
  pub IsElsewhere : List ℕ → List ℕ → Type 0
  pub names_fault : Detail → List ℕ → Bool
  pub has_names : Detail → Bool

-- a text of a record is not empty
abbrev pub IsTextOfRecord : Texts → Detail → ℕ → SdrView → KnownReading → List ℕ → Type 0
IsTextOfRecord x detail id view reading text = x.IsRecord detail id view reading text × (0 < length text)

-- each thing has at most one text, if the numbers in it are bytes
pub record TextsAreOne (x : Texts) : Type 0 where
  pub record_is : (detail : Detail) (id : ℕ) (view : SdrView) (reading : KnownReading) (a b : List ℕ)
      → x.IsRecord detail id view reading a → x.IsRecord detail id view reading b → a ≡ b
  pub fault_is : (id : ℕ) (fault : SdrFault) (bytes a b : List ℕ)
      → x.IsFault id fault bytes a → x.IsFault id fault bytes b → a ≡ b
  pub hex_is : (row : Row) (a b : List ℕ) → x.IsHex row a → x.IsHex row b → a ≡ b
  pub entry_is : (detail : Detail) (id : ℕ) (view : SelView) (sensors : Option (List (List ℕ))) (a b : List ℕ)
      → AreBytes (entry_bytes view) → x.IsEntry detail id view sensors a → x.IsEntry detail id view sensors b → a ≡ b
  pub info_is : (shelf : Shelf) (info a b : List ℕ) → AreBytes info → x.IsInfo shelf info a → x.IsInfo shelf info b → a ≡ b
  pub device_is : (detail : Detail) (id : ℕ) (name inventory : Option (List ℕ)) (a b : List ℕ)
      → x.IsDevice detail id name inventory a → x.IsDevice detail id name inventory b → a ≡ b
  pub elsewhere_is : (name a b : List ℕ) → x.IsElsewhere name a → x.IsElsewhere name b → a ≡ b

-- each thing has a text
pub record TextsExist (x : Texts) : Type 0 where
  pub has_record : (detail : Detail) (id : ℕ) (view : SdrView) (reading : KnownReading)
      → (text : List ℕ) × IsTextOfRecord x detail id view reading text
  pub has_fault : (id : ℕ) (fault : SdrFault) (bytes : List ℕ) → (text : List ℕ) × x.IsFault id fault bytes text
  pub has_hex : (row : Row) → (text : List ℕ) × x.IsHex row text
  pub has_entry : (detail : Detail) (id : ℕ) (view : SelView) (sensors : Option (List (List ℕ)))
      → (text : List ℕ) × x.IsEntry detail id view sensors text
  pub has_info : (shelf : Shelf) (info : List ℕ) → (text : List ℕ) × x.IsInfo shelf info text
  pub has_device : (detail : Detail) (id : ℕ) (name inventory : Option (List ℕ))
      → ((bytes : List ℕ) → inventory ≡ Some bytes → AreBytes bytes)
      → (text : List ℕ) × x.IsDevice detail id name inventory text
  pub has_elsewhere : (name : List ℕ) → (text : List ℕ) × x.IsElsewhere name text

-- what comes before and after the texts of runs: a text that names what is printed, and at the end of each run one with its exit status,
-- why it ended, its message if there is one, and how many texts it printed
pub record Frame : Type 1 where
  pub has_header : Bool
  pub IsHeader : Table → List ℕ → Type 0
  pub has_end : Bool
  pub IsEnd : ℕ → List ℕ → Option (List ℕ) → ℕ → List ℕ → Type 0

-- neither
abbrev pub no_frame : Frame
no_frame = record {
  has_header = false;
  IsHeader = λ table text. text ≡ [];
  has_end = false;
  IsEnd = λ status reason message count text. text ≡ [];
}
