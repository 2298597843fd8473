-- The object of an inventory (Platform Management FRU Information Storage Definition v1.0). It always has the same keys, and a
-- value never changes its type, except to null.
use Rattle.std.specs.Prelude.{◌≡◌, ℕ, Option, Some, None, option_map, Result, List, [], ◌∷◌, ◌++◌, length, codes}
use Rattle.json.specs.Json.{null, string}
use Rattle.ipmi_text.specs.FieldText.{binary_text}
use Rattle.ipmi_fru.specs.Prelude.{Area, HasItems, IsFound, MultiRecord, header_fault}
use Rattle.ipmi_fru.specs.declared.area.AreaFault.{AreaFault}
use Rattle.ipmi_fru.specs.declared.area.AreaKind.{AreaKind}
use Rattle.ipmi_fru.specs.declared.header.FruFault.{FruFault}
use Rattle.ipmi_fru.specs.declared.multirecord.MultiFault.{MultiFault}
use Rattle.ipmi_json.specs.declared.object.Label.{Label}
use Rattle.ipmi_json.specs.Areas.{AreAreaMembers}
use Rattle.ipmi_json.specs.Multirecords.{AreRecordMembers}
use Rattle.ipmi_json.specs.Object.{integer_or_null, IsLineOfSome, Pair, text_if_any, text_or_null}

-- the words for faults of the header
abbrev pub header_fault_word : FruFault → List ℕ
header_fault_word FruFault.Short = codes "header_short"
header_fault_word FruFault.HeaderVersion = codes "header_version"
header_fault_word FruFault.HeaderSum = codes "header_checksum"

-- a device: its id if it is this controller's, its name if it has a locator with one, its state, and the fault of its inventory's header
abbrev pub device_members : Option ℕ → Option (List ℕ) → List ℕ → Option (List ℕ) → List Pair
device_members id name state fault =
    (codes "object", string (codes "fru"))
    ∷ (codes "fru_device_id", integer_or_null id)
    ∷ (codes "name", text_if_any name)
    ∷ (codes "state", string state)
    ∷ (codes "fault", text_or_null fault)
    ∷ []

-- the members if nothing can be read
abbrev pub no_content : List Pair
no_content =
    (codes "chassis", null)
    ∷ (codes "chassis_fault", null)
    ∷ (codes "board", null)
    ∷ (codes "board_fault", null)
    ∷ (codes "product", null)
    ∷ (codes "product_fault", null)
    ∷ (codes "records", null)
    ∷ (codes "records_fault", null)
    ∷ []

-- the members for the area of a kind
pub record AreFoundMembers (kind : AreaKind) (key fault_key bytes : List ℕ)
    (ms : List Pair) : Type 0 where
  pub found : Option (Result Area AreaFault)
  pub is_found : IsFound kind bytes found
  pub are_members : AreAreaMembers key fault_key found ms

-- the areas and the records
pub record AreContentMembers (bytes : List ℕ) (ms : List Pair) : Type 0 where
  pub chassis : List Pair
  pub board : List Pair
  pub product : List Pair
  pub items : List (Result MultiRecord MultiFault)
  pub records : List Pair
  pub are_chassis : AreFoundMembers AreaKind.Chassis (codes "chassis") (codes "chassis_fault") bytes chassis
  pub are_board : AreFoundMembers AreaKind.Board (codes "board") (codes "board_fault") bytes board
  pub are_product : AreFoundMembers AreaKind.Product (codes "product") (codes "product_fault") bytes product
  pub are_items : HasItems bytes items
  pub are_records : AreRecordMembers items records
  pub are : ms ≡ ((chassis ++ board) ++ product) ++ records

-- the size and the bytes of an inventory
abbrev pub bytes_members : Option (List ℕ) → List Pair
bytes_members bytes =
    (codes "size", integer_or_null (option_map length bytes))
    ∷ (codes "raw", text_or_null (option_map binary_text bytes))
    ∷ []

-- a device whose inventory has no areas or records that can be read
abbrev pub bare_members : Option ℕ → Option (List ℕ) → List ℕ → Option (List ℕ) → Option (List ℕ)
    → List Pair
bare_members id name state fault bytes =
    (device_members id name state fault ++ no_content) ++ bytes_members bytes

-- a device whose inventory has no fault in its header
pub record AreReadMembers (id : ℕ) (name : Option (List ℕ)) (bytes : List ℕ) (ms : List Pair) : Type 0 where
  pub content : List Pair
  pub are_content : AreContentMembers bytes content
  pub are : ms ≡ (device_members (Some id) name (codes "read") None ++ content) ++ bytes_members (Some bytes)

abbrev pub AreMembersByFault : Option FruFault → ℕ → Option (List ℕ) → List ℕ → List Pair → Type 0
AreMembersByFault None id name bytes ms = AreReadMembers id name bytes ms
AreMembersByFault (Some f) id name bytes ms =
    ms ≡ bare_members (Some id) name (codes "faulty") (Some (header_fault_word f)) (Some bytes)

-- a device: it is not present, the header of its inventory has a fault, or it can be read
abbrev pub AreFruMembers : ℕ → Option (List ℕ) → Option (List ℕ) → List Pair → Type 0
AreFruMembers id name None ms = ms ≡ bare_members (Some id) name (codes "not_present") None None
AreFruMembers id name (Some bytes) ms = AreMembersByFault (header_fault bytes) id name bytes ms

-- the line of a device
abbrev pub IsFruLine : ℕ → Option (List ℕ) → Option (List ℕ) → List Label → List ℕ → Type 0
IsFruLine id name inventory labels text =
    IsLineOfSome (AreFruMembers id name inventory) labels text

-- a device that is not reached through the controller itself
abbrev pub elsewhere_members : Option (List ℕ) → List Pair
elsewhere_members name = bare_members None name (codes "elsewhere") None None
