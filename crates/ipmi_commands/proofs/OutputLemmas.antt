-- The laws of one output after another.
use Rattle.std.proofs.Common.{◌≡◌, Bool, true, ℕ, ◌+◌, List, [], ◌++◌, refl, arith, append_assoc, append-nil}
use Rattle.ipmi_commands.specs.Output.{and_then, count_if, no_output, Output, piece_of}

pub then_assoc : (a b c : Output) → and_then (and_then a b) c ≡ and_then a (and_then b c)
then_assoc a b c = rw (append_assoc a.bytes b.bytes c.bytes, plus_assoc a.pieces b.pieces c.pieces, plus_assoc a.faults b.faults c.faults) refl
  where
    plus_assoc : (x y z : ℕ) → (x + y) + z ≡ x + (y + z)
    plus_assoc x y z = omega arith

pub then_nothing : (a : Output) → and_then a no_output ≡ a
then_nothing a = rw (append-nil a.bytes, plus_zero a.pieces, plus_zero a.faults) refl
  where
    plus_zero : (x : ℕ) → x + 0 ≡ x
    plus_zero x = omega arith

pub nothing_then : (a : Output) → and_then no_output a ≡ a
nothing_then a = rw (zero_plus a.pieces, zero_plus a.faults) refl
  where
    zero_plus : (x : ℕ) → 0 + x ≡ x
    zero_plus x = omega arith

-- an item without a text counts as nothing
pub nothing_in : (text : List ℕ) (has_fault : Bool) → text ≡ [] → piece_of text has_fault ≡ no_output
nothing_in text has_fault is = rw is refl

-- an item was printed and counted
pub counted_more : (old new text : List ℕ) (pieces pieces' faults faults' : ℕ) (has_fault : Bool) → new ≡ old ++ text
    → pieces' ≡ pieces + count_if true text → faults' ≡ faults + count_if has_fault text
    → record { bytes = new; pieces = pieces'; faults = faults' }
    ≡ and_then (record { bytes = old; pieces = pieces; faults = faults }) (piece_of text has_fault)
counted_more old new text pieces pieces' faults faults' has_fault is more_pieces more_faults = rw (is, more_pieces, more_faults) refl
