-- The marks of the sensors and devices that the first records of an image name.
use Rattle.std.proofs.Common.{◌≡◌, ℕ, zero, suc, ◌+◌, ◌<◌, ◌≤◌, Bool, true, false, ◌||◌, nat_eq, Option, None, Some, List, [], ◌∷◌, ◌++◌, length, get_or, set, map, take, refl, ap, ◌∙◌, arith, All, IfSome, option_map, slice_get, filter_map, append-nil, replicate, take_all, add-one}
use Rattle.std.specs.List.{cons_option, list_any}
use Rattle.std.specs.Option.{option_to_list}
use Rattle.std.proofs.lemmas.Bool.Decides.{nat_tests}
use Rattle.std.proofs.lemmas.List.{map-append}
use Rattle.std.proofs.lemmas.List.Elements.{All-append, All-cons, All-nil}
use Rattle.ipmi_capture.specs.Below.{Row, sdr_view_of}
use Rattle.ipmi_capture.specs.Capture.{device_named, devices_of, sensor_named, sensors_of}
use Rattle.ipmi_capture.specs.Named.{AreMarks, IsSensorKey, marked, Names, sensor_place}

-- ---- one more mark

list_any-snoc : (p q : ℕ) (places : List ℕ)
    → list_any (nat_eq p) (places ++ q ∷ []) ≡ (list_any (nat_eq p) places || nat_eq p q)
list_any-snoc p q [] = grind arith
list_any-snoc p q (x ∷ xs) = grind (arith, list_any-snoc p q xs)

mark_at : (marks : List Bool) (p q : ℕ) → p < length marks
    → get_or (set marks p true) q false ≡ (get_or marks q false || nat_eq q p)
mark_at [] p q lt = absurd (omega (arith, lt))
mark_at (x ∷ xs) zero zero lt = grind (arith, nat_tests)
mark_at (x ∷ xs) zero (suc q) lt = grind (arith, nat_tests)
mark_at (x ∷ xs) (suc p) zero lt = grind (arith, nat_tests)
mark_at (x ∷ xs) (suc p) (suc q) lt = grind (arith, nat_tests, mark_at xs p q (omega (arith, lt)))

marks_more : (marks : List Bool) (places : List ℕ) (o : Option ℕ) → AreMarks marks places
    → IfSome o (λ p. p < length marks) → AreMarks (marked marks o) (places ++ option_to_list o)
marks_more marks places None are fits = λ q. rw (append-nil places) (are q)
marks_more marks places (Some p) are fits = λ q. mark_at marks p q fits ∙ rw (are q, list_any-snoc q p places) refl

-- ---- one more record

named_next : {X : Type 0} (h : Row → Option X) (rows : List Row) (place : ℕ) (row : Row)
    → slice_get rows place ≡ Some row
    → filter_map h (take (suc place) rows)
    ≡ filter_map h (take place rows) ++ option_to_list (h row)
named_next {X = X} h [] place row at = absurd (grind (arith, at))
named_next {X = X} h (x ∷ xs) zero row at = same x row (grind (arith, at))
  where
    one : (o : Option X) → cons_option o [] ≡ option_to_list o
    one None = refl
    one (Some y) = refl

    same : (a b : Row) → a ≡ b → filter_map h (a ∷ []) ≡ option_to_list (h b)
    same a b is = rw is (one (h b))
named_next {X = X} h (x ∷ xs) (suc place) row at = by (h x) (named_next h xs place row at)
  where
    by : (o : Option X) → filter_map h (take (suc place) xs) ≡ filter_map h (take place xs) ++ option_to_list (h row)
        → cons_option o (filter_map h (take (suc place) xs)) ≡ cons_option o (filter_map h (take place xs)) ++ option_to_list (h row)
    by None e = e
    by (Some y) e = ap (λ (l : List X). y ∷ l) e

named_more : {X : Type 0} (h : Row → Option X) (rows : List Row) (place : ℕ) (row : Row)
    → slice_get rows place ≡ Some row
    → filter_map h (take (place + 1) rows)
    ≡ filter_map h (take place rows) ++ option_to_list (h row)
named_more h rows place row at = rw (add-one place) (named_next h rows place row at)

all_more : {X : Type 0} (P : X → Type 0) (xs : List X) (o : Option X) → All P xs → IfSome o P
    → All P (xs ++ option_to_list o)
all_more P xs None all is = rw (append-nil xs) all
all_more P xs (Some x) all is = All-append P xs (x ∷ []) all (All-cons P x [] is (All-nil P))

places_more : (keys : List (ℕ × ℕ)) (o : Option (ℕ × ℕ))
    → map sensor_place (keys ++ option_to_list o)
    ≡ map sensor_place keys ++ option_to_list (option_map sensor_place o)
places_more keys None = map-append sensor_place keys []
places_more keys (Some key) = map-append sensor_place keys (key ∷ [])

-- the marks are those of the sensors and devices that the records before the place name
pub record NamesTo (place : ℕ) (rows : List Row) (sensors devices : List Bool) : Type 0 where
  pub within : place ≤ length rows
  pub names : Names (take place rows) sensors devices

slice_below : (rows : List Row) (place : ℕ) (row : Row) → slice_get rows place ≡ Some row
    → place < length rows
slice_below [] place row at = absurd (grind (arith, at))
slice_below (x ∷ xs) zero row at = omega arith
slice_below (x ∷ xs) (suc place) row at = omega (arith, slice_below xs place row at)

fits_marks : (n : ℕ) (o : Option (ℕ × ℕ)) → IfSome o IsSensorKey → n ≡ 1024
    → IfSome (option_map sensor_place o) (λ p. p < n)
fits_marks n None is long = tt
fits_marks n (Some key) is long = omega (arith, is.lun, is.number, long)

fits_devices : (n : ℕ) (o : Option ℕ) → IfSome o (λ id. id < 256) → n ≡ 256
    → IfSome o (λ p. p < n)
fits_devices n None is long = tt
fits_devices n (Some id) is long = omega (arith, is, long)

pub names_below : (rows : List Row) (place : ℕ) (row : Row) → slice_get rows place ≡ Some row
    → place < length rows
names_below rows place row at = slice_below rows place row at

pub names_more : {place : ℕ} {rows : List Row} {sensors devices : List Bool} {bytes : List ℕ}
    → NamesTo place rows sensors devices → (row : Row) → slice_get rows place ≡ Some row
    → bytes ≡ row.bytes
    → IfSome (sensor_named (sdr_view_of bytes)) IsSensorKey
    → IfSome (device_named (sdr_view_of bytes)) (λ id. id < 256)
    → length sensors ≡ 1024 → length devices ≡ 256
    → NamesTo (place + 1) rows
    (marked sensors (option_map sensor_place (sensor_named (sdr_view_of bytes))))
    (marked devices (device_named (sdr_view_of bytes)))
names_more {place = place} {rows = rows} {sensors = sensors} {devices = devices} {bytes = bytes} names row at is key id long long' =
    let sensor = sensor_named (sdr_view_of bytes) in
    let device = device_named (sdr_view_of bytes) in
    let keys_are : sensors_of (take (place + 1) rows) ≡ sensors_of (take place rows) ++ option_to_list sensor = rw is (named_more (λ r. sensor_named (sdr_view_of r.bytes)) rows place row at) in
    let ids_are : devices_of (take (place + 1) rows) ≡ devices_of (take place rows) ++ option_to_list device = rw is (named_more (λ r. device_named (sdr_view_of r.bytes)) rows place row at) in
    record {
      within = omega (arith, slice_below rows place row at);
      names = record {
        sensors_are = rw (keys_are, places_more (sensors_of (take place rows)) sensor) (marks_more sensors _ (option_map sensor_place sensor) names.names.sensors_are (fits_marks (length sensors) sensor key long));
        keys = rw keys_are (all_more IsSensorKey _ sensor names.names.keys key);
        devices_are = rw ids_are (marks_more devices _ device names.names.devices_are (fits_devices (length devices) device id long'));
        ids = rw ids_are (all_more (λ (i : ℕ). i < 256) _ device names.names.ids id);
      };
    }

-- at the start: no marks
pub no_marks : (n : ℕ) → AreMarks (replicate n false) []
no_marks n = λ place. none n place
  where
    none : (n place : ℕ) → get_or (replicate n false) place false ≡ false
    none zero place = refl
    none (suc n) zero = refl
    none (suc n) (suc place) = none n place

-- at the start: no names
pub names_none : (rows : List Row) (sensors devices : ℕ)
    → NamesTo 0 rows (replicate sensors false) (replicate devices false)
names_none rows sensors devices = record {
  within = omega arith;
  names = record {
    sensors_are = no_marks sensors;
    keys = All-nil IsSensorKey;
    devices_are = no_marks devices;
    ids = All-nil (λ id. id < 256);
  };
}

-- at the end: all names
pub names_all : {place : ℕ} {rows : List Row} {sensors devices : List Bool}
    → NamesTo place rows sensors devices → slice_get rows place ≡ None → Names rows sensors devices
names_all {place = place} {rows = rows} names none = rw (take_all place rows (past rows place none)) at names.names
  where
    past : (rows : List Row) (place : ℕ) → slice_get rows place ≡ None → length rows ≤ place
    past [] place none = omega arith
    past (x ∷ xs) zero none = absurd (grind (arith, none))
    past (x ∷ xs) (suc place) none = omega (arith, past xs place none)

-- the row with these bytes
pub row_there : (o : Option Row) (bytes : List ℕ) → Some bytes ≡ option_map (λ (row : Row). row.bytes) o
    → (row : Row) × (o ≡ Some row) × (bytes ≡ row.bytes)
row_there None bytes is = absurd (grind (arith, is))
row_there (Some row) bytes is = (row, refl, grind (arith, is))

pub none_there : (o : Option Row) → None ≡ option_map (λ (row : Row). row.bytes) o → o ≡ None
none_there None is = refl
none_there (Some row) is = absurd (grind (arith, is))
