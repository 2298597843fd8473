-- How each item that a builder adds changes its store.
use Rattle.std.specs.Prelude.{ℕ, Bool, not, Option, None, Some, IsSome, is_some, if◌then◌else◌, List, [], ◌∷◌, ◌++◌}
use Rattle.ipmi_image.specs.Below.{Reading, Row, Shelf, Sdr, Sel, Store, IsStore}
use Rattle.ipmi_image.specs.declared.contents.Contents.{Contents}
use Rattle.ipmi_image.specs.Image.{row_fault}
use Rattle.ipmi_image.specs.Line.{SavedRow}
use Rattle.ipmi_image.specs.Rewritten.{IsSaved}
use Rattle.ipmi_image.specs.Stored.{store_of}

-- a store without any items
abbrev pub empty_store : Store
empty_store = record {
  sdr = [];
  sel = [];
  inventories = [];
  readings = [];
  sdr_info = None;
  sel_info = None;
}

-- ---- records

-- the store with these rows on the shelf
abbrev pub with_rows : Shelf → List Row → Store → Store
with_rows Sdr rows store = record store { sdr = rows }
with_rows Sel rows store = record store { sel = rows }

-- a row as a line that states its next id
abbrev pub saved_row : Row → SavedRow
saved_row row = record { id = row.id; next = Some row.next; bytes = row.bytes }

-- a line for the row is allowed after the lines of these rows
abbrev pub may_follow : Shelf → List Row → Row → Bool
may_follow shelf rows row = not (is_some (row_fault shelf rows (saved_row row)))

-- the rows, followed by this one if it is allowed
abbrev pub rows_and : Bool → List Row → Row → List Row
rows_and may rows row = if may then rows ++ row ∷ [] else rows

-- ---- other items

abbrev pub with_inventory : ℕ → List ℕ → Store → Store
with_inventory id bytes store =
    record store { inventories = store.inventories ++ record { id = id; bytes = bytes } ∷ [] }

abbrev pub with_reading : ℕ → ℕ → Reading → Store → Store
with_reading lun number reading store =
    record store {
      readings = store.readings ++ record { lun = lun; number = number; reading = reading } ∷ [];
    }

abbrev pub with_info : Shelf → Option (List ℕ) → Store → Store
with_info Sdr info store = record store { sdr_info = info }
with_info Sel info store = record store { sel_info = info }

-- ---- the invariant of a builder

-- each row's line states its next id
abbrev pub HaveNext : List SavedRow → Type 0
HaveNext [] = Unit {0}
HaveNext (row ∷ rows) = IsSome row.next × HaveNext rows

-- contents whose store is that of an image
pub record IsBuilt (contents : Contents) : Type 0 where
  pub store : IsStore (store_of contents)
  pub saved : IsSaved (store_of contents)
  pub sdr_next : HaveNext contents.sdr
  pub sel_next : HaveNext contents.sel
