-- The objects of infos, and the object at the end of a listing.
use Rattle.std.specs.Prelude.{◌≡◌, ℕ, Option, List, [], ◌∷◌, codes}
use Rattle.json.specs.Json.{boolean, string}
use Rattle.ipmi_records.specs.Prelude.{byte_at, has_bit, number_at}
use Rattle.ipmi_json.specs.declared.object.Label.{Label}
use Rattle.ipmi_json.specs.Object.{integer, IsLineOfSome, Pair, text_or_null}
use Rattle.ipmi_json.specs.Time.{IsIsoTimeOf}

-- ---- infos

-- The answer of Get SDR Repository Info or Get SEL Info (IPMI v2.0, sections 33.9 and 31.2), after the completion code: 14 bytes
-- with the same layout. Bytes 6 to 9 are the time of the most recent addition, 10 to 13 that of the most recent erase. Bit 7 of
-- byte 14 means that a record was lost because there was no space.
abbrev pub info_members : List ℕ → Option (List ℕ) → Option (List ℕ) → List ℕ → List Pair
info_members name addition erase bytes =
    (codes "object", string name)
    ∷ (codes "version", integer (byte_at 1 bytes))
    ∷ (codes "record_count", integer (number_at 2 2 bytes))
    ∷ (codes "free_space", integer (number_at 4 2 bytes))
    ∷ (codes "last_addition", text_or_null addition)
    ∷ (codes "last_addition_raw", integer (number_at 6 4 bytes))
    ∷ (codes "last_erase", text_or_null erase)
    ∷ (codes "last_erase_raw", integer (number_at 10 4 bytes))
    ∷ (codes "overflow", boolean (has_bit 7 (byte_at 14 bytes)))
    ∷ (codes "operation_support", integer (byte_at 14 bytes))
    ∷ []

pub record AreInfoMembers (name bytes : List ℕ) (ms : List Pair) : Type 0 where
  pub addition : Option (List ℕ)
  pub erase : Option (List ℕ)
  pub is_addition : IsIsoTimeOf (number_at 6 4 bytes) addition
  pub is_erase : IsIsoTimeOf (number_at 10 4 bytes) erase
  pub are : ms ≡ info_members name addition erase bytes

-- the line of an info, with the name of its object
abbrev pub IsInfoLine : List ℕ → List ℕ → List Label → List ℕ → Type 0
IsInfoLine name bytes labels text = IsLineOfSome (AreInfoMembers name bytes) labels text

-- ---- the end

-- the end of a run: its status, why it ended, its message if there is one, and the number of objects before
abbrev pub end_members : ℕ → List ℕ → Option (List ℕ) → ℕ → List Pair
end_members status reason message count =
    (codes "object", string (codes "end"))
    ∷ (codes "status", integer status)
    ∷ (codes "reason", string reason)
    ∷ (codes "message", text_or_null message)
    ∷ (codes "count", integer count)
    ∷ []
