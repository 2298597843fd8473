-- The state of a cursor that contracts see.
use Rattle.std.specs.Prelude.{ℕ, Bool, Option, None, Some}
use Rattle.std.specs.Ordering.{nat_cmp}
use Rattle.std.specs.FinSet as set
use Rattle.ipmi_bus.specs.Types.{First, Id, Place, Shelf}

-- its shelf, place, part size in bytes, tries, whether it reads ahead, the ids of the records
-- returned, and the reservation that it holds
pub record CursorState : Type 0 where
  pub shelf : Shelf
  pub place : Place
  pub part : ℕ
  pub tries : ℕ
  pub ahead : Bool
  pub ids : set.FinSet nat_cmp
  pub reservation : Option ℕ

-- where a cursor starts
abbrev pub start_of : Option ℕ → Place
start_of None = First
start_of (Some id) = Id id
