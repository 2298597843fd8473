-- Adding an item to an image that is being built keeps it the store of an image.
use Rattle.std.proofs.Common.{◌≡◌, ℕ, suc, zero, ◌<◌, ◌≤◌, None, Some, Option, IsSome, List, [], ◌∷◌, ◌++◌, length, map, refl, ap, subst, arith, option_map, slice_get, unwrap_or}
use Rattle.std.proofs.lemmas.Bool.Decides.{nat_tests}
use Rattle.std.proofs.lemmas.Bool.{false≢true}
use Rattle.ipmi_image.specs.Below.{AreBytes, Row, inventory_in}
use Rattle.ipmi_image.specs.Prelude.{SavedRow, StoredInventory, chained, HaveNext, kept_inventory, place_of, saved_row, inventory_fault, AreInventories}
use Rattle.ipmi_image.proofs.StoreLemmas.{AreInventories-more}
use Rattle.ipmi_image.proofs.TableLemmas.{with_bytes_new, inventory_in_place}

pub HaveNext-snoc : (rows : List SavedRow) (row : Row) → HaveNext rows
    → HaveNext (rows ++ saved_row row ∷ [])
HaveNext-snoc [] row have = (refl, tt)
HaveNext-snoc (r ∷ rows) row have = (have.0, HaveNext-snoc rows row have.1)

-- appending a row does not change rows that have next ids
pub chained-snoc : (rows : List SavedRow) (row : Row) → HaveNext rows
    → chained (rows ++ saved_row row ∷ []) ≡ chained rows ++ row ∷ []
chained-snoc [] row have = refl
chained-snoc (r ∷ rows) row have =
    rw (chained-snoc rows row have.1) (ap (λ next. record { id = r.id; next = next; bytes = r.bytes } ∷ (chained rows ++ row ∷ [])) (same r.next have.0 _ _))
  where
    same : (next : Option ℕ) → IsSome next → (a b : ℕ) → unwrap_or next a ≡ unwrap_or next b
    same (Some next) some a b = refl
    same None some a b = absurd (false≢true some)

-- the bytes at a place
pub bytes-chained : (rows : List SavedRow) (place : ℕ)
    → option_map (λ (row : Row). row.bytes) (slice_get (chained rows) place)
    ≡ option_map (λ (row : SavedRow). row.bytes) (slice_get rows place)
bytes-chained [] place = refl
bytes-chained (r ∷ rows) zero = refl
bytes-chained (r ∷ rows) (suc place) = bytes-chained rows place

-- an inventory of a new device
pub AreInventories-new : (items : List StoredInventory) (id : ℕ) (bytes : List ℕ) → id < 255
    → length bytes ≤ 65535 → AreBytes bytes
    → place_of (λ (i : StoredInventory). i.id) id items ≡ None
    → AreInventories (map kept_inventory items)
    → AreInventories (map kept_inventory items ++ record { id = id; bytes = bytes } ∷ [])
AreInventories-new items id bytes below fits are absent old =
    let none : inventory_in (map kept_inventory items) id ≡ None = rw (inventory_in_place items id, absent) refl in
    let fine : inventory_fault id (inventory_in (map kept_inventory items) id) bytes ≡ None = rw none (grind (arith, nat_tests)) in
    subst AreInventories (with_bytes_new items id bytes absent) (AreInventories-more (map kept_inventory items) id bytes fine (omega (arith, below)) are old)
