-- Finding readings, inventories and marks.
use Rattle.std.proofs.Common.{◌≡◌, ℕ, zero, suc, ◌+◌, ◌<◌, ◌≤◌, true, cond, ◌&&◌, nat_eq, None, Some, List, [], ◌∷◌, ◌++◌, length, get_or, refl, arith, All}
use Rattle.std.specs.List.{list_any}
use Rattle.std.specs.Option.{option_or}
use Rattle.std.proofs.lemmas.Bool.Decides.{nat_tests}
use Rattle.ipmi_capture.specs.Below.{Inventory, inventory_in, IsInventory, reading_in, SensorReading}
use Rattle.ipmi_capture.specs.Named.{sensor_place}

-- ---- readings

-- the place of the sensor of a reading
abbrev pub place_of : SensorReading → ℕ
place_of sensor = sensor_place (sensor.lun, sensor.number)

-- all readings are before this place
abbrev pub ReadBelow : ℕ → List SensorReading → Type 0
ReadBelow place [] = Unit {0}
ReadBelow place (sensor ∷ sensors) = (place_of sensor < place) × ReadBelow place sensors

pub not_read : (place lun number : ℕ) (sensors : List SensorReading) → ReadBelow place sensors
    → place ≤ sensor_place (lun, number) → reading_in sensors lun number ≡ None
not_read place lun number [] below at = refl
not_read place lun number (x ∷ xs) below at = grind (arith, nat_tests, not_read place lun number xs below.1 at, below.0)

pub read_more : (place : ℕ) (sensors : List SensorReading) → ReadBelow place sensors
    → ReadBelow (place + 1) sensors
read_more place [] below = tt
read_more place (x ∷ xs) below = (omega (arith, below.0), read_more place xs below.1)

pub read_next : (place : ℕ) (sensors : List SensorReading) (new : SensorReading)
    → place_of new ≡ place → ReadBelow place sensors → ReadBelow (place + 1) (sensors ++ new ∷ [])
read_next place [] new is below = (omega (arith, is), tt)
read_next place (x ∷ xs) new is below = (omega (arith, below.0), read_next place xs new is below.1)

-- the last reading is found if no other is
pub reading_in-snoc : (sensors : List SensorReading) (new : SensorReading) (lun number : ℕ)
    → reading_in (sensors ++ new ∷ []) lun number
    ≡ option_or (reading_in sensors lun number)
    (cond (nat_eq new.lun lun && nat_eq new.number number) (Some new.reading) None)
reading_in-snoc [] new lun number = grind arith
reading_in-snoc (x ∷ xs) new lun number = grind (arith, reading_in-snoc xs new lun number)

-- ---- inventories

abbrev pub KeptBelow : ℕ → List Inventory → Type 0
KeptBelow id [] = Unit {0}
KeptBelow id (inventory ∷ inventories) = (inventory.id < id) × KeptBelow id inventories

pub not_kept : (id : ℕ) (inventories : List Inventory) → KeptBelow id inventories
    → inventory_in inventories id ≡ None
not_kept id [] below = refl
not_kept id (x ∷ xs) below = grind (arith, nat_tests, not_kept id xs below.1, below.0)

pub kept_more : (id : ℕ) (inventories : List Inventory) → KeptBelow id inventories
    → KeptBelow (id + 1) inventories
kept_more id [] below = tt
kept_more id (x ∷ xs) below = (omega (arith, below.0), kept_more id xs below.1)

pub kept_next : (id : ℕ) (inventories : List Inventory) (bytes : List ℕ) → KeptBelow id inventories
    → KeptBelow (id + 1) (inventories ++ record { id = id; bytes = bytes } ∷ [])
kept_next id [] bytes below = (omega arith, tt)
kept_next id (x ∷ xs) bytes below = (omega (arith, below.0), kept_next id xs bytes below.1)

pub inventory_in-snoc : (inventories : List Inventory) (new : Inventory) (id : ℕ)
    → inventory_in (inventories ++ new ∷ []) id
    ≡ option_or (inventory_in inventories id) (cond (nat_eq new.id id) (Some new.bytes) None)
inventory_in-snoc [] new id = grind arith
inventory_in-snoc (x ∷ xs) new id = grind (arith, inventory_in-snoc xs new id)

-- FFh is no device
pub no_device : (inventories : List Inventory) → All IsInventory inventories
    → inventory_in inventories 255 ≡ None
no_device [] all = refl
no_device (x ∷ xs) all =
    let first = (all 0 x (omega arith)).id in
    grind (arith, nat_tests, first, no_device xs (λ k d lt. all (suc k) d (omega (arith, lt))))

-- ---- marks

-- each of these places is marked
pub is_marked : (places : List ℕ) (k d : ℕ) → k < length places
    → list_any (nat_eq (get_or places k d)) places ≡ true
is_marked [] k d lt = absurd (omega (arith, lt))
is_marked (x ∷ xs) zero d lt = grind (arith, nat_tests)
is_marked (x ∷ xs) (suc k) d lt = grind (arith, nat_tests, is_marked xs k d (omega (arith, lt)))
