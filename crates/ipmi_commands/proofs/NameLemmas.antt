-- A record with the name was found if and only if something was written.
use Rattle.std.proofs.Common.{◌≡◌, ℕ, ◌+◌, ◌<◌, ◌≤◌, ◌==◌, ◌||◌, not, Bool, true, false, Result, Ok, Err, List, [], ◌∷◌, ◌++◌, length, refl, ap, ◌∙◌, arith, length-append}
use Rattle.ipmi_commands.specs.Below.{known, Failure, Place, Row, SdrFault, Seen, SdrView, sdr_view_of, Store, Done, place_after}
use Rattle.ipmi_commands.specs.Prelude.{AreTexts, end_of, ending_of, Form, IfChosen, IsTextOfRecord, IsBlockOfName, IsPieceOver, IsTextWhile, OfRow, Printed, reading_for, row_items, rows_end, some_has_name, Subject, view_has_name}
use Rattle.ipmi_selection.specs.declared.detail.Detail.{Detail}
use Rattle.ipmi_commands.specs.Output.{and_then, count_if, Output, piece_of}
use Rattle.ipmi_commands.proofs.OutputLemmas.{then_nothing}
use Rattle.ipmi_commands.specs.Traced.{IsFound}
use Rattle.ipmi_commands.specs.Format.{Texts}

-- ---- whether anything was written

abbrev pub Wrote : Bool → Output → Output → Type 0
Wrote true old new = length old.bytes < length new.bytes
Wrote false old new = new ≡ old

pub wrote_more : (wrote : Bool) (old new more : Output) (text : List ℕ) (has_fault : Bool) → Wrote wrote old new
    → more ≡ and_then new (piece_of text has_fault) → Wrote (wrote || not (length text == 0)) old more
wrote_more true old new more [] has_fault has is = omega (arith, has, ap (λ (o : Output). length o.bytes) (is ∙ then_nothing new))
wrote_more false old new more [] has_fault has is = is ∙ then_nothing new ∙ has
wrote_more wrote old new more (b ∷ text) has_fault has is = grind (arith, ap (λ (o : Output). length o.bytes) is ∙ length-append new.bytes (b ∷ text), wrote_length wrote old new has)
  where
    wrote_length : (wrote : Bool) (old new : Output) → Wrote wrote old new → length old.bytes ≤ length new.bytes
    wrote_length true old new has = omega (arith, has)
    wrote_length false old new has = omega (arith, ap (λ (o : Output). length o.bytes) has)

-- the text is not empty, or it is
abbrev HasText : Bool → List ℕ → Type 0
HasText true text = 0 < length text
HasText false text = text ≡ []

-- ---- texts of records with a name

wrote_both : (a b : Bool) (first rest : List ℕ) → HasText a first → HasText b rest
    → HasText (a || b) (first ++ rest)
wrote_both true b first rest x y = omega (arith, length-append first rest, x)
wrote_both false true first rest x y = omega (arith, length-append first rest, y)
wrote_both false false first rest x y = rw (x, y) refl

module _ (x : Texts) (name : List ℕ) (store : Store) where
  chosen_wrote : (b : Bool) (id : ℕ) (view : SdrView) (text : List ℕ)
      → IfChosen b (λ t. IsTextOfRecord x Detail.Block id view (known (reading_for store view)) t) text → HasText b text
  chosen_wrote true id view text is = is.1
  chosen_wrote false id view text is = is

  row_wrote : (id : ℕ) (view : Result SdrView SdrFault) (text : List ℕ)
      → IsBlockOfName x name store id view text → HasText (view_has_name name view) text
  row_wrote id (Ok view) text is = chosen_wrote _ id view text is
  row_wrote id (Err fault) text is = is

-- the number of items with a text is not 0, or it is
abbrev pub HasItems : Bool → ℕ → Type 0
HasItems true n = 0 < n
HasItems false n = n ≡ 0

counted_text : (b : Bool) (text : List ℕ) → HasText b text → HasItems b (count_if true text)
counted_text true [] has = absurd (omega (arith, has))
counted_text true (byte ∷ text) has = omega arith
counted_text false [] has = refl
counted_text false (byte ∷ text) has = cc has

both_counted : (a b : Bool) (m n : ℕ) → HasItems a m → HasItems b n → HasItems (a || b) (m + n)
both_counted true b m n x y = omega (arith, x)
both_counted false true m n x y = omega (arith, y)
both_counted false false m n x y = omega (arith, x, y)

-- something is counted if a row has the name
pub name_counted : (x : Texts) → (name : List ℕ) (store : Store) (start : Place) (rows : List Row) (text : Output)
    → AreTexts (IsPieceOver x store) (row_items (Form.Block name) start rows) text
    → HasItems (some_has_name name rows) text.pieces
name_counted x name store start [] text are = ap (λ (o : Output). o.pieces) are
name_counted x name store start (row ∷ rows) text are =
    let has = view_has_name name (sdr_view_of row.bytes) in
    let wrote = row_wrote x name store row.id (sdr_view_of row.bytes) are.first.bytes are.is_first.is_text in
    let one : HasItems has are.first.pieces = rw (ap (λ (o : Output). o.pieces) are.is_first.counted) (counted_text has are.first.bytes wrote) in
    rw are.joined (both_counted has (some_has_name name rows) are.first.pieces are.rest.pieces one
    (name_counted x name store (place_after row.next) rows are.rest are.is_rest))

-- each text is over some store
abbrev AreOverStores : (x : Texts) → (Subject → Output → Type 0) → Type 0
AreOverStores x IsText = (subject : Subject) (text : Output) → IsText subject text → (store : Store) × IsPieceOver x store subject text

module _ (x : Texts) (IsText : Subject → Output → Type 0) (over : AreOverStores x IsText) where
  -- something is printed if a row has the name
  name_wrote : (name : List ℕ) (start : Place) (rows : List Row) (text : Output)
      → AreTexts IsText (row_items (Form.Block name) start rows) text
      → HasText (some_has_name name rows) text.bytes
  name_wrote name start [] text are = ap (λ (o : Output). o.bytes) are
  name_wrote name start (row ∷ rows) text are =
      let of_row = over (OfRow (Form.Block name) row) are.first are.is_first in
      rw are.joined (wrote_both _ _ are.first.bytes are.rest.bytes (row_wrote x name of_row.0 row.id (sdr_view_of row.bytes) are.first.bytes of_row.1.is_text)
      (name_wrote name (place_after row.next) rows are.rest are.is_rest))

  -- whether something was written decides the end of the listing
  end_by : (form : Form) (wrote : Bool) (count : ℕ) (start : Place) (rows : List Row) (old new : Output)
      → Printed IsText (row_items form start rows) old new → Wrote wrote old new
      → ending_of (end_of form wrote count) ≡ rows_end form rows Done
  end_by (Form.Block name) wrote count start rows old new printed has =
      grind (arith, length-append, ap (λ (o : Output). length o.bytes) printed.new_is, name_wrote name start rows printed.text printed.are)
  end_by _ wrote count start rows old new printed has = refl

pub end_of-wrote : (x : Texts) → (form : Form) (wrote : Bool) (count : ℕ) (store : Store) (start : Place)
    (rows : List Row) (old new : Output)
    → Printed (IsPieceOver x store) (row_items form start rows) old new → Wrote wrote old new
    → ending_of (end_of form wrote count) ≡ rows_end form rows Done
end_of-wrote x form wrote count store start rows old new printed has =
    end_by x (IsPieceOver x store) (λ subject text is. (store, is)) form wrote count start rows old new printed has

-- ---- while the store changes

while_over : (x : Texts) → (s s' : Seen) → AreOverStores x (IsTextWhile x s s')
while_over x s s' subject text is = (is.store, is.is)

pub while_found : (x : Texts) → (form : Form) (s s' : Seen) (start : Place) (rows : List Row) (old new : Output)
    → Printed (IsTextWhile x s s') (row_items form start rows) old new → IsFound form old new
    → Ok tt ≡ rows_end form rows Done
while_found x (Form.Block name) s s' start rows old new printed found =
    end_by x (IsTextWhile x s s') (while_over x s s') (Form.Block name) true 0 start rows old new printed found
while_found x _ s s' start rows old new printed found = refl

pub while_none : (x : Texts) → (name : List ℕ) (s s' : Seen) (start : Place) (rows : List Row) (old new : Output)
    → Printed (IsTextWhile x s s') (row_items (Form.Block name) start rows) old new → new ≡ old
    → Err (Failure.NoName name) ≡ rows_end (Form.Block name) rows Done
while_none x name s s' start rows old new printed none =
    end_by x (IsTextWhile x s s') (while_over x s s') (Form.Block name) false 0 start rows old new printed none
