-- What a capture saved: a store, and the items that it lacks. The text of both in version 3.
use Rattle.std.specs.Prelude.{◌≡◌, ℕ, ◌+◌, ◌==◌, nat_eq, ◌&&◌, not, Bool, true, false, if◌then◌else◌, Option, Some, None, is_some, option_map, option_and_then, Result, Ok, Err, List, [], ◌∷◌, ◌++◌, codes, bytes_eq, drop, find, length, map}
use Rattle.std.specs.List.{list_any, starts_with}
use Rattle.ipmi_image.specs.Below.{Busy, class_of, Code, info_of, inventory_of, look, Refusal, rows_of, Sdr, Seen, Sel, Shelf, Store}
use Rattle.ipmi_image.specs.declared.image.ImageFault.{ImageFault}
use Rattle.ipmi_image.specs.declared.lack.Item.{Item}
use Rattle.ipmi_image.specs.declared.lack.Lack.{Lack}
use Rattle.ipmi_image.specs.declared.snapshot_controller.SnapshotController.{SnapshotController}
use Rattle.ipmi_image.specs.declared.version.Version.{Version}
use Rattle.ipmi_image.specs.Image.{store_after, store_of_pieces}
use Rattle.ipmi_image.specs.Line.{number_in, shelf_in}
use Rattle.ipmi_image.specs.Responder.{seen_as}
use Rattle.ipmi_image.specs.Rewritten.{hex_of, image_text_of, lines_text}
use Rattle.ipmi_image.specs.Text.{pieces}

pub record Saved : Type 0 where
  pub store : Store
  pub lacks : List Lack

-- ---- a line `lacks`

-- a number in two hex digits, in four, or in one
abbrev pub byte_in : List ℕ → Option ℕ
byte_in digits = if length digits == 2 then number_in 1 digits else None

abbrev pub word_in : List ℕ → Option ℕ
word_in digits = if length digits == 4 then number_in 2 digits else None

abbrev pub digit_in : List ℕ → Option ℕ
digit_in digit = if length digit == 1 then number_in 1 (48 ∷ digit) else None

-- an item that one field names
abbrev pub item_in : List ℕ → List ℕ → Option Item
item_in kind id =
    elim (shelf_in kind) [
      | Some shelf ↦ option_map (λ n. Item.Record shelf n) (word_in id)
      | None ↦
          if bytes_eq kind (codes "info") then option_map (λ shelf. Item.Info shelf) (shelf_in id)
          else if bytes_eq kind (codes "size") then option_map (λ n. Item.Size n) (byte_in id)
          else if bytes_eq kind (codes "fru") then option_map (λ n. Item.Inventory n) (byte_in id)
          else None
    ]

abbrev pub reading_in_fields : List ℕ → List ℕ → Option Item
reading_in_fields lun number =
    option_and_then (λ l. option_map (λ n. Item.Reading l n) (byte_in number)) (digit_in lun)

-- the item, with the code in two hex digits
abbrev pub lack_with : Option Item → List ℕ → Option Lack
lack_with item code =
    option_and_then (λ i. option_map (λ c. record { item = i; code = record { 0 = c } }) (byte_in code)) item

abbrev pub lack_of_reading : List (List ℕ) → Option Lack
lack_of_reading (lun ∷ number ∷ code ∷ []) = lack_with (reading_in_fields lun number) code
lack_of_reading fields = None

abbrev pub lack_of_one : List ℕ → List (List ℕ) → Option Lack
lack_of_one kind (id ∷ code ∷ []) = lack_with (item_in kind id) code
lack_of_one kind fields = None

-- `lacks sdr ID CODE`, `lacks sel ID CODE`, `lacks info sdr CODE`, `lacks info sel CODE`, `lacks size ID CODE`,
-- `lacks fru ID CODE`, `lacks reading LUN NUM CODE`: the fields after the first word
abbrev pub lack_of_fields : List (List ℕ) → Option Lack
lack_of_fields (kind ∷ fields) =
    if bytes_eq kind (codes "reading") then lack_of_reading fields else lack_of_one kind fields
lack_of_fields [] = None

abbrev pub is_lack_line : List ℕ → Bool
is_lack_line text = starts_with nat_eq text (codes "lacks ")

abbrev pub lack_of : List ℕ → Option Lack
lack_of text = lack_of_fields (pieces 32 (drop 6 text))

-- ---- all lines

-- what the lines `lacks` before all others say, and the pieces after them; the last piece of a text is not a whole line
unfoldable pub lacks_then : List Lack → List (List ℕ) → Result (List Lack × List (List ℕ)) ImageFault
lacks_then before (text ∷ (following ∷ rest)) =
    if not (is_lack_line text) then Ok (before, text ∷ (following ∷ rest))
    else elim (lack_of text) [
      | Some lack ↦ lacks_then (before ++ lack ∷ []) (following ∷ rest)
      | None ↦ Err (ImageFault.Line (length before + 2))
    ]
lacks_then before rest = Ok (before, rest)

-- the line that a fault names, 0 if it names none
abbrev pub fault_line : ImageFault → ℕ
fault_line ImageFault.Memory = 0
fault_line ImageFault.Header = 0
fault_line (ImageFault.Line at) = at
fault_line (ImageFault.Hex at) = at
fault_line (ImageFault.Id at) = at
fault_line (ImageFault.Twice at) = at
fault_line (ImageFault.Length at) = at
fault_line (ImageFault.FirstId at) = at
fault_line ImageFault.NoEnd = 0
fault_line (ImageFault.AfterEnd at) = at
fault_line (ImageFault.TooMany at) = at

-- the same fault, this many lines later
abbrev pub later : ℕ → ImageFault → ImageFault
later n ImageFault.Memory = ImageFault.Memory
later n ImageFault.Header = ImageFault.Header
later n (ImageFault.Line at) = ImageFault.Line (at + n)
later n (ImageFault.Hex at) = ImageFault.Hex (at + n)
later n (ImageFault.Id at) = ImageFault.Id (at + n)
later n (ImageFault.Twice at) = ImageFault.Twice (at + n)
later n (ImageFault.Length at) = ImageFault.Length (at + n)
later n (ImageFault.FirstId at) = ImageFault.FirstId (at + n)
later n ImageFault.NoEnd = ImageFault.NoEnd
later n (ImageFault.AfterEnd at) = ImageFault.AfterEnd (at + n)
later n (ImageFault.TooMany at) = ImageFault.TooMany (at + n)

abbrev pub saved_with : List Lack → Result Store ImageFault → Result Saved ImageFault
saved_with lacks (Ok store) = Ok (record { store = store; lacks = lacks })
saved_with lacks (Err fault) = Err (later (length lacks) fault)

-- after the lines `lacks`, the lines are those of version 2
abbrev pub saved_after : Result (List Lack × List (List ℕ)) ImageFault → Result Saved ImageFault
saved_after (Ok head) = saved_with head.0 (store_after Version.Two [] head.1)
saved_after (Err fault) = Err fault

abbrev pub is_third : List ℕ → Bool
is_third first = bytes_eq first (codes "ipmi-image 3")

abbrev pub saved_of_pieces : List (List ℕ) → Result Saved ImageFault
saved_of_pieces (first ∷ (following ∷ rest)) =
    if is_third first then saved_after (lacks_then [] (following ∷ rest))
    else saved_with [] (store_of_pieces (first ∷ (following ∷ rest)))
saved_of_pieces rest = Err ImageFault.Header

-- what an image's bytes of version 1, 2 or 3 hold and lack, or their first fault
abbrev pub saved_of_image : List ℕ → Result Saved ImageFault
saved_of_image bytes = saved_of_pieces (pieces 10 bytes)

-- ---- the text

abbrev pub shelf_word : Shelf → List ℕ
shelf_word Sdr = codes "sdr"
shelf_word Sel = codes "sel"

-- the fields of an item; a LUN has a single digit
abbrev pub item_fields : Item → List (List ℕ)
item_fields (Item.Record shelf id) = shelf_word shelf ∷ hex_of 2 id ∷ []
item_fields (Item.Info shelf) = codes "info" ∷ shelf_word shelf ∷ []
item_fields (Item.Reading lun number) = codes "reading" ∷ drop 1 (hex_of 1 lun) ∷ hex_of 1 number ∷ []
item_fields (Item.Size id) = codes "size" ∷ hex_of 1 id ∷ []
item_fields (Item.Inventory id) = codes "fru" ∷ hex_of 1 id ∷ []

abbrev pub lack_fields : Lack → List (List ℕ)
lack_fields lack = codes "lacks" ∷ (item_fields lack.item ++ hex_of 1 lack.code.0 ∷ [])

-- the text of version 2 if nothing is lacking; otherwise that of version 3, where the lines `lacks` come first
abbrev pub saved_text_of : Saved → List ℕ
saved_text_of saved =
    if length saved.lacks == 0 then image_text_of saved.store
    else lines_text ((codes "ipmi-image" ∷ codes "3" ∷ []) ∷ map lack_fields saved.lacks)
    ++ drop 13 (image_text_of saved.store)

-- ---- a controller over it

abbrev pub same_shelf : Shelf → Shelf → Bool
same_shelf Sdr Sdr = true
same_shelf Sel Sel = true
same_shelf a b = false

-- the image has the item
abbrev pub has_item : Item → Store → Bool
has_item (Item.Record shelf id) store = is_some (look (rows_of shelf store) id)
has_item (Item.Info shelf) store = is_some (info_of shelf store)
has_item (Item.Inventory id) store = is_some (inventory_of id store)
has_item asked store = false

-- Without the first item the second may be lacking. After a record any other may be; an inventory is not read without its size; a
-- lacking reading is only noted.
abbrev pub hides : Item → Item → Bool
hides (Item.Record s i) (Item.Record shelf id) = same_shelf s shelf
hides (Item.Info s) (Item.Info shelf) = same_shelf s shelf
hides (Item.Size i) (Item.Inventory id) = i == id
hides (Item.Inventory i) (Item.Inventory id) = i == id
hides lacked asked = false

-- the codes that a request may end with for an item that is there: of a refusal, and of a busy controller
abbrev pub may_refuse : Code → Bool
may_refuse code = elim (class_of code.0) [ Busy ↦ true | Refusal ↦ not (code.0 == 0) | _ ↦ false ]

abbrev pub refuses : Item → Lack → Bool
refuses asked lack = hides lack.item asked && may_refuse lack.code

-- sensor data records that are lacking may name the FRU device
abbrev pub may_name : Item → Lack → Bool
may_name (Item.Inventory id) lack = refuses (Item.Record Sdr 0) lack
may_name asked lack = false

-- why an item that the image does not have may be lacking
abbrev pub lack_for : Item → List Lack → Option Lack
lack_for asked lacks = elim (find (refuses asked) lacks) [ Some lack ↦ Some lack | None ↦ find (may_name asked) lacks ]

-- the code for a request for it
abbrev pub code_for : Item → List Lack → Option Code
code_for asked lacks = option_map (λ lack. lack.code) (lack_for asked lacks)

-- a record or an inventory was not read whole
abbrev pub hides_part : Lack → Bool
hides_part lack = elim lack.item [ Item.Record shelf id ↦ true | Item.Inventory id ↦ true | _ ↦ false ]

-- a record of the shelf was not read whole
abbrev pub hides_record : Shelf → Lack → Bool
hides_record shelf lack = elim lack.item [ Item.Record lacked id ↦ same_shelf lacked shelf | _ ↦ false ]

abbrev pub with_records : Shelf → Saved → Option Store
with_records shelf saved = if list_any (hides_record shelf) saved.lacks then None else Some saved.store

abbrev pub is_partial : List Lack → Bool
is_partial lacks = list_any hides_part lacks

-- it is honest; it is plain if nothing is lacking
abbrev pub snapshot_seen : SnapshotController → Seen
snapshot_seen c = seen_as (length c.lacks.items == 0) c.responder

abbrev pub snapshot_lacks : SnapshotController → List Lack
snapshot_lacks c = c.lacks.items

-- the number of the last reservation, 0 if it gave none
abbrev pub snapshot_last_number : SnapshotController → ℕ
snapshot_last_number c = c.responder.given

-- what a call other than that for a reservation does not change
pub record KeepsSnapshot (old new : SnapshotController) : Type 0 where
  pub store : (snapshot_seen new).store ≡ (snapshot_seen old).store
  pub sdr_reservation : (snapshot_seen new).sdr_reservation ≡ (snapshot_seen old).sdr_reservation
  pub sel_reservation : (snapshot_seen new).sel_reservation ≡ (snapshot_seen old).sel_reservation
  pub lacks : new.lacks.items ≡ old.lacks.items
  pub last_number : snapshot_last_number new ≡ snapshot_last_number old

-- the code for an item that the image does not have
abbrev pub refusal : Item → Store → List Lack → Option Code
refusal asked store lacks = if has_item asked store then None else code_for asked lacks

-- the same, or the answer of the image
abbrev pub snapshot_answer : {V : Type 0} → Item → SnapshotController → Result V Code → Result V Code
snapshot_answer asked c plain = elim (refusal asked c.responder.image c.lacks.items) [ Some code ↦ Err code | None ↦ plain ]
