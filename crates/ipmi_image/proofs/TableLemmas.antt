-- Items found by their keys.
use Rattle.std.proofs.Common.{◌≡◌, ℕ, zero, suc, ◌<◌, ◌≤◌, Bool, true, false, cond, nat_eq, ◌&&◌, Option, None, Some, IfSome, List, [], ◌∷◌, ◌++◌, length, length-append, drop, get_or, set, map, refl, sym, ap, subst, ◌∙◌, option_map, arith, option_and_then, is_some, slice_get, All, not, unwrap_or, true≢false}
use Rattle.std.specs.Option.{option_or}
use Rattle.std.specs.List.{list_any, IsDistinct}
use Rattle.std.proofs.lemmas.Option.{none-some}
use Rattle.std.proofs.lemmas.Cmp.{nat_eq_equiv}
use Rattle.std.proofs.lemmas.List.{length-map, map-append}
use Rattle.std.proofs.lemmas.Map.Keys.{IsDistinct-push, IsDistinct-tail, apart_from_distinct}
use Rattle.std.proofs.lemmas.Map.Steps.{length-le_from_distinct_below}
use Rattle.std.proofs.lemmas.Bool.Decides.{nat_tests}
use Rattle.std.proofs.Math.ListN.{get_or-map}
use Rattle.std.proofs.Math.Seq.{map-set_same}
use Rattle.ipmi_image.specs.Below.{Row, first_row, row_with_id, IsSensorReading, inventory_in, reading_in, has_id}
use Rattle.ipmi_image.specs.Prelude.{SavedRow, StoredInventory, StoredSensor, id_of, place_of, IsIndex, sensor_key, kept_inventory, chained, first_id, with_bytes, sensor_of}

-- the last item is found if no earlier item has the key
pub place_of_snoc : {T : Type 0} (key : T → ℕ) (q : ℕ) (items : List T) (item : T)
    → place_of key q (items ++ item ∷ [])
    ≡ option_or (place_of key q items) (cond (nat_eq (key item) q) (Some (length items)) None)
place_of_snoc key q [] item = grind arith
place_of_snoc key q (x ∷ xs) item = grind (arith, place_of_snoc key q xs item)

pub list_any_keys : {T : Type 0} (key : T → ℕ) (q : ℕ) (items : List T)
    → list_any (nat_eq q) (map key items) ≡ is_some (place_of key q items)
list_any_keys key q [] = refl
list_any_keys key q (x ∷ xs) = grind (arith, nat_tests, list_any_keys key q xs)

-- the place is within the list
pub place_below : {T : Type 0} (key : T → ℕ) (q : ℕ) (items : List T)
    → IfSome (place_of key q items) (λ place. place < length items)
place_below key q [] = tt
place_below key q (x ∷ xs) = grind (arith, place_below key q xs)

-- the item there has the key
pub key_place_of : {T : Type 0} (key : T → ℕ) (q : ℕ) (items : List T) (d : T)
    → IfSome (place_of key q items) (λ place. key (get_or items place d) ≡ q)
key_place_of key q [] d = tt
key_place_of key q (x ∷ xs) d = grind (arith, nat_tests, key_place_of key q xs d)

-- if no two keys are equal, an item with the key is found at its place
pub place_of_at : {T : Type 0} (key : T → ℕ) (q : ℕ) (items : List T) (place : ℕ) (d : T)
    → IsDistinct nat_eq (map key items) → place < length items → key (get_or items place d) ≡ q
    → place_of key q items ≡ Some place
place_of_at key q [] place d distinct lt is = absurd (omega (arith, lt))
place_of_at key q (x ∷ xs) zero d distinct lt is = grind (arith, nat_tests)
place_of_at key q (x ∷ xs) (suc place) d distinct lt is =
    let below : suc place < length (map key (x ∷ xs)) = let len = length-map xs key in omega (arith, lt, len) in
    let apart : nat_eq (key x) (get_or (map key xs) place (key d)) ≡ false = apart_from_distinct nat_eq (map key (x ∷ xs)) 0 (suc place) (key d) distinct (omega arith) below in
    rw (ap (nat_eq (key x)) (sym is ∙ sym (get_or-map key xs place d)) ∙ apart, place_of_at key q xs place d (IsDistinct-tail nat_eq (key x) (map key xs) distinct) (omega (arith, lt)) is) refl

-- ---- rows

pub has_id_chained : (rows : List SavedRow) (id : ℕ)
    → has_id (chained rows) id ≡ is_some (place_of id_of id rows)
has_id_chained [] id = refl
has_id_chained (row ∷ rows) id = grind (arith, nat_tests, has_id_chained rows id)

pub is_empty_chained : (rows : List SavedRow)
    → is_some (first_row (chained rows)) ≡ not (nat_eq (length rows) 0)
is_empty_chained [] = refl
is_empty_chained (row ∷ rows) = grind (arith, nat_tests)

-- a row before these
abbrev pub row_before : List SavedRow → SavedRow → Row
row_before following row = record { id = row.id; next = unwrap_or row.next (first_id id_of following); bytes = row.bytes }

-- the row at a place, with the next id that it has there
abbrev pub row_at : List SavedRow → ℕ → Option Row
row_at rows place = option_map (row_before (drop (suc place) rows)) (slice_get rows place)

pub row_with_id_chained : (rows : List SavedRow) (id : ℕ)
    → row_with_id id (chained rows) ≡ option_and_then (row_at rows) (place_of id_of id rows)
row_with_id_chained [] id = refl
row_with_id_chained (row ∷ rows) id = by (nat_eq row.id id) (place_of id_of id rows) (row_with_id_chained rows id)
  where
    by : (b : Bool) (o : Option ℕ) → row_with_id id (chained rows) ≡ option_and_then (row_at rows) o
        → cond b (Some (row_before rows row)) (row_with_id id (chained rows))
        ≡ option_and_then (row_at (row ∷ rows)) (cond b (Some 0) (option_map suc o))
    by true o e = refl
    by false None e = e
    by false (Some p) e = e

-- ---- inventories

pub inventory_in_place : (items : List StoredInventory) (id : ℕ)
    → inventory_in (map kept_inventory items) id
    ≡ option_map (λ (i : StoredInventory). i.bytes.items)
    (option_and_then (slice_get items) (place_of (λ (i : StoredInventory). i.id) id items))
inventory_in_place [] id = refl
inventory_in_place (x ∷ xs) id = grind (arith, inventory_in_place xs id)

-- these bytes are appended to the inventory at the place
pub with_bytes_set : (items : List StoredInventory) (id place : ℕ) (bytes : List ℕ)
    (item d : StoredInventory) → place_of (λ (i : StoredInventory). i.id) id items ≡ Some place
    → kept_inventory item
    ≡ record { id = (get_or items place d).id; bytes = (get_or items place d).bytes.items ++ bytes }
    → with_bytes id bytes (map kept_inventory items) ≡ map kept_inventory (set items place item)
with_bytes_set [] id place bytes item d at is = absurd (none-some place at)
with_bytes_set (x ∷ xs) id zero bytes item d at is = grind arith
with_bytes_set (x ∷ xs) id (suc place) bytes item d at is = grind (arith, with_bytes_set xs id place bytes item d)

pub with_bytes_new : (items : List StoredInventory) (id : ℕ) (bytes : List ℕ)
    → place_of (λ (i : StoredInventory). i.id) id items ≡ None
    → with_bytes id bytes (map kept_inventory items)
    ≡ map kept_inventory items ++ record { id = id; bytes = bytes } ∷ []
with_bytes_new [] id bytes at = refl
with_bytes_new (x ∷ xs) id bytes at = grind (arith, with_bytes_new xs id bytes)

-- ---- sensors

and-sensor_key : (lun number lun' number' : ℕ) → number < 256 → number' < 256
    → (nat_eq lun lun' && nat_eq number number')
    ≡ nat_eq (sensor_key lun number) (sensor_key lun' number')
and-sensor_key lun number lun' number' lt lt' = grind (arith, nat_tests)

module _ (lun number : ℕ) (lt : number < 256) where
  pub reading_in_place : (items : List StoredSensor) → All IsSensorReading (map sensor_of items)
      → reading_in (map sensor_of items) lun number
      ≡ option_map (λ (s : StoredSensor). s.reading)
      (option_and_then (slice_get items)
      (place_of (λ (s : StoredSensor). sensor_key s.lun s.number) (sensor_key lun number) items))
  reading_in_place [] all = refl
  reading_in_place (x ∷ xs) all =
      rw (and-sensor_key x.lun x.number lun number (all 0 (sensor_of x) (omega arith)).number lt)
      (grind (arith, reading_in_place xs (λ k d below. all (suc k) d (omega (arith, below)))))

  pub is_some_reading_in : (items : List StoredSensor) → All IsSensorReading (map sensor_of items)
      → is_some (reading_in (map sensor_of items) lun number)
      ≡ is_some (place_of (λ (s : StoredSensor). sensor_key s.lun s.number) (sensor_key lun number)
      items)
  is_some_reading_in [] all = refl
  is_some_reading_in (x ∷ xs) all =
      rw (and-sensor_key x.lun x.number lun number (all 0 (sensor_of x) (omega arith)).number lt)
      (grind (arith, is_some_reading_in xs (λ k d below. all (suc k) d (omega (arith, below)))))

-- ---- an index of the items

-- at the start: no items
pub index_new : {T : Type 0} (key : T → ℕ) (places : ℕ → Option ℕ) → ((q : ℕ) → places q ≡ None)
    → IsIndex key [] places
unfolding IsDistinct
index_new key places none = record { found = none; distinct = tt; below = λ q place is. absurd (none-some place is) }

-- there are at most FFFFh different keys below FFFFh
pub index_len : {T : Type 0} (key : T → ℕ) (items : List T) (places : ℕ → Option ℕ)
    → IsIndex key items places → length items ≤ 65535
index_len key items places index =
    rw length-map at (length-le_from_distinct_below (map key items) 65535 index.distinct (λ q m. grind (arith, index.below q, list_any_keys key q items)))

-- an item with a new key is appended, and its place is added to the index
pub index_push : {T : Type 0} (key : T → ℕ) (items : List T) (item : T) (old new : ℕ → Option ℕ)
    → IsIndex key items old → key item < 65535 → place_of key (key item) items ≡ None
    → ((q : ℕ) → new q ≡ cond (nat_eq (key item) q) (Some (length items)) (old q))
    → IsIndex key (items ++ item ∷ []) new
index_push key items item old new index lt absent puts = record {
  found = λ q. grind (arith, nat_tests, puts q, index.found q, place_of_snoc key q items item);
  distinct = rw map-append (IsDistinct-push nat_eq_equiv (map key items) (key item) index.distinct (list_any_keys key (key item) items ∙ ap is_some absent));
  below = λ q place is. grind (arith, nat_tests, index.below q place, place_of_snoc key q items item);
}

-- if a key has no place, no item has it
pub absent_key : {T : Type 0} (key : T → ℕ) (items : List T) (k : ℕ) (places : ℕ → Option ℕ)
    (found : Option ℕ) → IsIndex key items places → found ≡ places k → is_some found ≡ false
    → place_of key k items ≡ None
absent_key key items k places None index is none = sym (index.found k) ∙ sym is
absent_key key items k places (Some place) index is none = absurd (true≢false none)

-- there is room for the place of a new key
pub index_room : {T : Type 0} (key : T → ℕ) (items : List T) (item : T) (places : ℕ → Option ℕ)
    → IsIndex key items places → key item < 65535 → place_of key (key item) items ≡ None
    → length items < 65535
index_room key items item places index lt absent =
    let few = index_len key (items ++ item ∷ []) (λ q. cond (nat_eq (key item) q) (Some (length items)) (places q)) (index_push key items item places _ index lt absent (λ q. refl)) in
    let len = length-append items (item ∷ []) in
    omega (arith, few, len)

-- an absent place is not found
pub not_found : {o : Option ℕ} → o ≡ None → is_some o ≡ true → ⊥
not_found none found = true≢false (sym found ∙ ap is_some none)

-- an item that replaces another with the same key is found at its place
place_of_set : {T : Type 0} (key : T → ℕ) (q : ℕ) (items : List T) (place : ℕ) (item d : T)
    → key item ≡ key (get_or items place d)
    → place_of key q (set items place item) ≡ place_of key q items
place_of_set key q [] place item d is = refl
place_of_set key q (x ∷ xs) zero item d is = rw is refl
place_of_set key q (x ∷ xs) (suc place) item d is = rw (place_of_set key q xs place item d is) refl

pub index_set : {T : Type 0} (key : T → ℕ) (items : List T) (places : ℕ → Option ℕ) (place : ℕ)
    (item d : T) → IsIndex key items places → key item ≡ key (get_or items place d)
    → IsIndex key (set items place item) places
index_set key items places place item d index is = record {
  found = λ q. index.found q ∙ sym (place_of_set key q items place item d is);
  distinct = subst (IsDistinct nat_eq) (sym (map-set_same key items place item d is)) index.distinct;
  below = λ q at found. index.below q at (sym (place_of_set key q items place item d is) ∙ found);
}
