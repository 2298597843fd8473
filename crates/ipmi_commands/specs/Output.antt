-- What was printed, and how many items that are.
use Rattle.std.specs.Prelude.{◌≡◌, ◌+◌, ℕ, Bool, true, if◌then◌else◌, List, [], ◌∷◌, ◌++◌}
use Rattle.ipmi_commands.specs.Below.{TakesPart}

-- bytes, the number of items with a text among them, and how many of these items have a fault
pub record Output : Type 0 where
  pub bytes : List ℕ
  pub pieces : ℕ
  pub faults : ℕ

abbrev pub no_output : Output
no_output = record { bytes = []; pieces = 0; faults = 0 }

abbrev pub and_then : Output → Output → Output
and_then first rest = record {
  bytes = first.bytes ++ rest.bytes;
  pieces = first.pieces + rest.pieces;
  faults = first.faults + rest.faults;
}

-- an item without a text, as a row that is not chosen, does not count
abbrev pub count_if : Bool → List ℕ → ℕ
count_if counts [] = 0
count_if counts (byte ∷ text) = if counts then 1 else 0

-- an item with this text
abbrev pub piece_of : List ℕ → Bool → Output
piece_of text has_fault =
    record { bytes = text; pieces = count_if true text; faults = count_if has_fault text }

-- a prefix of an item's bytes was printed, possibly none or all of them; the item does not count
pub record IsCut (old new piece : Output) : Type 0 where
  pub part : TakesPart old.bytes new.bytes piece.bytes
  pub pieces : new.pieces ≡ old.pieces
  pub faults : new.faults ≡ old.faults

-- bytes were printed, whatever was counted
abbrev pub OnBytes : List ℕ → List ℕ → (Output → Output → Type 0) → Type 0
OnBytes old new Holds = (pieces faults : ℕ)
    × Holds (record { bytes = old; pieces = 0; faults = 0 }) (record { bytes = new; pieces = pieces; faults = faults })
