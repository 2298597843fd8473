-- The index of the sensors' records.
use Rattle.std.proofs.Common.{◌≡◌, ◌∙◌, ℕ, ◌+◌, ◌<◌, ◌≤◌, ◌==◌, ◌&&◌, Bool, true, false, if◌then◌else◌, Option, None, Some, List, [], ◌∷◌, ◌++◌, length, drop, filter_map, refl, sym, ap, arith, append_assoc, append-nil}
use Rattle.std.specs.List.{cons_option, find}
use Rattle.std.specs.Option.{option_or}
use Rattle.std.proofs.lemmas.Bool.Decides.{nat_tests}
use Rattle.std.proofs.lemmas.List.{drop-drop, length-drop}
use Rattle.std.proofs.lemmas.List.Elements.{filter_map-append}
use Rattle.std.proofs.lemmas.List.Folds.{find-append}
use Rattle.std.proofs.Math.Seq.{drop-length}
use Rattle.ipmi_records.specs.declared.sdr.SdrView.{SdrView}
use Rattle.ipmi_events.specs.Sensors.{first_record, IsIndex, is_of_sensor, IsPlaceOf, names, noted, place_in, records_in, row_of, sensor_for, view_at, view_of}
use Rattle.ipmi_events.proofs.RecordLemmas.{last_record, len_of_first, next_record}

-- the index is that of the records before the place
pub record IsIndexTo (place : ℕ) (bytes : List ℕ) (pages : List (List ℕ)) : Type 0 where
  pub records : List (List ℕ)
  pub within : place ≤ length bytes
  pub split : records_in bytes ≡ records ++ records_in (drop place bytes)
  pub index : IsIndex bytes records pages

at_end : (bytes : List ℕ) → view_at bytes (length bytes) ≡ None
at_end bytes = let e : drop (length bytes) bytes ≡ [] = drop-length bytes in rw e refl

-- ---- one more record

place_more : (bytes : List ℕ) (owner lun number place old : ℕ) (known here : Option SdrView)
    → view_at bytes place ≡ here → IsPlaceOf bytes old known
    → IsPlaceOf bytes (noted (names owner lun number here) place (length bytes) old)
    (option_or known (find (is_of_sensor owner lun number) (cons_option here [])))
place_more bytes owner lun number place old (Some view) here at is = kept (names owner lun number here && (old == length bytes)) (taken (names owner lun number here))
  where
    other : old ≡ length bytes → ⊥
    other e = absurd (grind (arith, at_end bytes, is, ap (view_at bytes) e))

    taken : (named : Bool) → (named && (old == length bytes)) ≡ false
    taken true = grind (arith, nat_tests, other)
    taken false = refl

    kept : (b : Bool) → b ≡ false → view_at bytes (if b then place else old) ≡ Some view
    kept true e = absurd (grind (arith, e))
    kept false e = is
place_more bytes owner lun number place old None None at is = is
place_more bytes owner lun number place old None (Some view) at is = by (is_of_sensor owner lun number view) (old == length bytes) (grind (arith, nat_tests, is))
  where
    by : (named empty : Bool) → empty ≡ true → IsPlaceOf bytes (if named && empty then place else old)
        (if named then Some view else None)
    by true true e = at
    by true false e = absurd (grind (arith, e))
    by false empty e = is

sensor_for_more : (owner lun number : ℕ) (records : List (List ℕ)) (bytes : List ℕ)
    → sensor_for owner lun number (records ++ bytes ∷ [])
    ≡ option_or (sensor_for owner lun number records) (find (is_of_sensor owner lun number) (cons_option (view_of bytes) []))
sensor_for_more owner lun number records bytes =
    ap (find (is_of_sensor owner lun number)) (filter_map-append view_of records (bytes ∷ []))
    ∙ find-append (is_of_sensor owner lun number) (filter_map view_of records) (filter_map view_of (bytes ∷ []))

pub index_more : (place : ℕ) (bytes first : List ℕ) (pages more : List (List ℕ))
    → IsIndexTo place bytes pages → first_record (drop place bytes) ≡ Some first
    → ((owner lun number : ℕ) → owner < 256 → number < 256
    → place_in more (row_of owner lun) number (length bytes)
    ≡ noted (names owner lun number (view_of first)) place (length bytes) (place_in pages (row_of owner lun) number (length bytes)))
    → IsIndexTo (place + length first) bytes more
index_more place bytes first pages more old is more_is = record {
  records = old.records ++ first ∷ [];
  within = omega (arith, old.within, (len_of_first (drop place bytes) first is).1, length-drop place bytes);
  split = old.split ∙ rw (next_record (drop place bytes) first is, drop-drop (length first) place bytes) (sym (append_assoc old.records (first ∷ []) (records_in (drop (place + length first) bytes))));
  index = λ owner lun number o n. rw (more_is owner lun number o n, sensor_for_more owner lun number old.records first)
      (place_more bytes owner lun number place (place_in pages (row_of owner lun) number (length bytes)) (sensor_for owner lun number old.records) (view_of first) (rw is refl) (old.index owner lun number o n));
}

-- at the end: all records
pub index_all : (place : ℕ) (bytes : List ℕ) (pages : List (List ℕ)) → IsIndexTo place bytes pages
    → first_record (drop place bytes) ≡ None → IsIndex bytes (records_in bytes) pages
index_all place bytes pages all none =
    let e : records_in bytes ≡ all.records = all.split ∙ rw (last_record (drop place bytes) none) (append-nil all.records) in
    rw e all.index
