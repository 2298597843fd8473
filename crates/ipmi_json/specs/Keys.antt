-- The keys of the objects. A label has another key, or the object would have a key twice.
use Rattle.std.specs.Prelude.{◌≡◌, ℕ, Bool, true, List, [], ◌∷◌, bytes_eq, codes}
use Rattle.std.specs.List.{list_all, list_any}
use Rattle.ipmi_json.specs.declared.object.Label.{Label}
use Rattle.ipmi_json.specs.Object.{IsLineOfSome, Pair}

-- the keys of all objects; those of objects inside them are left out, as no label is added there
abbrev pub object_keys : List (List ℕ)
object_keys =
    codes "object" ∷
    codes "record_id" ∷
    codes "record_type" ∷
    codes "kind" ∷
    codes "fault" ∷
    codes "name" ∷
    codes "owner_id" ∷
    codes "owner_lun" ∷
    codes "sensor_number" ∷
    codes "entity_id" ∷
    codes "entity_name" ∷
    codes "entity_instance" ∷
    codes "sensor_type" ∷
    codes "sensor_type_name" ∷
    codes "event_type" ∷
    codes "reading" ∷
    codes "unit" ∷
    codes "reading_raw" ∷
    codes "states" ∷
    codes "state_words" ∷
    codes "status" ∷
    codes "status_words" ∷
    codes "upper_non_recoverable" ∷
    codes "upper_critical" ∷
    codes "upper_non_critical" ∷
    codes "lower_non_recoverable" ∷
    codes "lower_critical" ∷
    codes "lower_non_critical" ∷
    codes "device_access_address" ∷
    codes "device_slave_address" ∷
    codes "fru_device_id" ∷
    codes "is_logical" ∷
    codes "access_lun" ∷
    codes "raw" ∷
    codes "next_record_id" ∷
    codes "timestamp" ∷
    codes "timestamp_raw" ∷
    codes "generator_id" ∷
    codes "event_revision" ∷
    codes "sensor_name" ∷
    codes "event" ∷
    codes "event_words" ∷
    codes "direction" ∷
    codes "severity" ∷
    codes "severity_reason" ∷
    codes "event_data" ∷
    codes "event_details" ∷
    codes "manufacturer_id" ∷
    codes "oem_data" ∷
    codes "state" ∷
    codes "chassis" ∷
    codes "chassis_fault" ∷
    codes "board" ∷
    codes "board_fault" ∷
    codes "product" ∷
    codes "product_fault" ∷
    codes "records" ∷
    codes "records_fault" ∷
    codes "size" ∷
    codes "version" ∷
    codes "record_count" ∷
    codes "free_space" ∷
    codes "last_addition" ∷
    codes "last_addition_raw" ∷
    codes "last_erase" ∷
    codes "last_erase_raw" ∷
    codes "overflow" ∷
    codes "operation_support" ∷
    codes "reason" ∷
    codes "message" ∷
    codes "count" ∷ []

abbrev pub is_object_key : List ℕ → Bool
is_object_key key = list_any (λ own. bytes_eq own key) object_keys

-- each key of the members is among them
abbrev pub HaveObjectKeys : List Pair → Type 0
HaveObjectKeys ms = list_all (λ (m : Pair). is_object_key m.0) ms ≡ true

-- the line of an object with such keys, then the labels
abbrev pub IsLineOfObjectKeys : List Label → List ℕ → Type 0
IsLineOfObjectKeys labels text = IsLineOfSome HaveObjectKeys labels text
