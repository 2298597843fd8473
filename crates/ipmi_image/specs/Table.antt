-- Items in their order, found by keys.
use Rattle.std.specs.Prelude.{◌≡◌, ℕ, suc, ◌+◌, ◌*◌, ◌/◌, ◌%◌, ◌<◌, ◌==◌, nat_eq, if◌then◌else◌, Option, Some, None, option_map, List, [], ◌∷◌, length, get_or, map}
use Rattle.std.specs.List.{IsDistinct}
use Rattle.ipmi_image.specs.Below.{Inventory}
use Rattle.ipmi_image.specs.declared.stored.StoredInventory.{StoredInventory}

-- the index of the first item with this key
abbrev pub place_of : {T : Type 0} → (T → ℕ) → ℕ → List T → Option ℕ
place_of key k [] = None
place_of key k (item ∷ items) =
    if key item == k then Some 0 else option_map suc (place_of key k items)

-- `places` has the index of each item's key, no key occurs twice, and each key is below FFFFh
pub record IsIndex {T : Type 0} (key : T → ℕ) (items : List T)
    (places : ℕ → Option ℕ) : Type 0 where
  pub found : (q : ℕ) → places q ≡ place_of key q items
  pub distinct : IsDistinct nat_eq (map key items)
  pub below : (q place : ℕ) → place_of key q items ≡ Some place → q < 65535

-- the place that pages have for a key: by its high byte the page, by its low one the place there, where FFFFh is none
abbrev pub kept_place : ℕ → Option ℕ
kept_place place = if place == 65535 then None else Some place

abbrev pub page_of : List (List ℕ) → ℕ → List ℕ
page_of pages key = get_or pages (key / 256) []

abbrev pub place_in : List (List ℕ) → ℕ → Option ℕ
place_in pages key = kept_place (get_or (page_of pages key) (key % 256) 65535)

-- there is a page for the key
abbrev pub HasRoom : ℕ → List (List ℕ) → Type 0
HasRoom key pages = (key / 256 < length pages) × (key % 256 < length (page_of pages key))

-- a sensor's LUN in the high byte, its number in the low one
abbrev pub sensor_key : ℕ → ℕ → ℕ
sensor_key lun number = lun * 256 + number

abbrev pub kept_inventory : StoredInventory → Inventory
kept_inventory inventory = record { id = inventory.id; bytes = inventory.bytes.items }
