-- The blocks of found sensors, printed one after another.
use Rattle.std.proofs.Common.{◌≡◌, ℕ, ◌+◌, ◌<◌, Bool, true, cond, Ok, Err, Result, List, [], ◌∷◌, ◌++◌, length, take, drop, get_or, refl, sym, ap, subst, ◌∙◌, ◌==◌, arith, false, take-append-drop}
use Rattle.std.specs.Borrow.{Bor}
use Rattle.std.specs.List.{Contains}
use Rattle.std.proofs.lemmas.Bool.Decides.{nat_tests}
use Rattle.std.proofs.lemmas.List.{at_drop_more, take_more}
use Rattle.std.proofs.lemmas.List.Folds.{list_any_at}
use Rattle.ipmi_records.specs.Sdr.{name_of}
use Rattle.ipmi_records.specs.Columns.{known}
use Rattle.ipmi_records.specs.Sdr.{sdr_view_of}
use Rattle.ipmi_records.specs.declared.sdr.SdrFault.{SdrFault}
use Rattle.ipmi_records.specs.declared.sdr.SdrView.{SdrView}
use Rattle.ipmi_bus.specs.Shelf.{Row}
use Rattle.ipmi_bus.specs.Store.{Store}
use Rattle.ipmi_bus.specs.Walk.{Done, place_after}
use Rattle.ipmi_bus.specs.declared.step.Place.{Place}
use Rattle.ipmi_output.specs.declared.failure.Failure.{Failure}
use Rattle.ipmi_commands.specs.Output.{and_then, no_output, Output, piece_of}
use Rattle.ipmi_commands.specs.Prelude.{AreTexts, IfChosen, IsTextOfRecord, IsBlockOfName, IsPieceOver, reading_for, row_items, rows_end, some_has_name, WritesPiece}
use Rattle.ipmi_commands.specs.declared.job.Form.{Form}
use Rattle.ipmi_selection.specs.Selection.{has_one_of, is_name}
use Rattle.ipmi_selection.specs.declared.detail.Detail.{Detail}
use Rattle.ipmi_sensors.specs.Sensors.{AreBlocks, BlocksAreOfListing, Found, found_among, found_row, IsBlockOfFound, IsPieceOfFound, reading_in, PrintsBlocks, PrintsFirst, PrintsFound}
use Rattle.ipmi_commands.proofs.NameLemmas.{HasItems, name_counted}
use Rattle.ipmi_commands.proofs.OutputLemmas.{nothing_then, then_assoc, then_nothing}
use Rattle.ipmi_commands.specs.Format.{Texts}
use Rattle.ipmi_sensors.specs.declared.sensors.Sought.{Sought}

module _ (x : Texts) (name : List ℕ) where
  blocks_more : (done : List Found) (found : Found) (text piece : Output) → AreBlocks x name done text
      → IsPieceOfFound x name found piece → AreBlocks x name (done ++ found ∷ []) (and_then text piece)
  blocks_more [] found text piece are is = record {
    first = piece;
    rest = no_output;
    is_first = is;
    is_rest = refl;
    joined = ap (λ (o : Output). and_then o piece) are ∙ nothing_then piece ∙ sym (then_nothing piece);
  }
  blocks_more (one ∷ done) found text piece are is = record {
    first = are.first;
    rest = and_then are.rest piece;
    is_first = are.is_first;
    is_rest = blocks_more done found are.rest piece are.is_rest is;
    joined = ap (λ (o : Output). and_then o piece) are.joined ∙ then_assoc are.first are.rest piece;
  }

  -- the blocks of the first k of all, and the next one
  module _ (all items : List Found) (same : items ≡ all) (k : ℕ) (there : k < length items) (next : Found)
      (next_is : next ≡ get_or items k next) {old now : Output}
      (printed : PrintsBlocks x name (take k all) old now) where
    there_all : k < length all
    there_all = subst (λ (l : List Found). k < length l) same there

    next_all : get_or all k next ≡ next
    next_all = sym (subst (λ (l : List Found). next ≡ get_or l k next) same next_is)

    abbrev pub first_blocks : PrintsFirst x name all old now
    first_blocks = record { done = take k all; rest = drop k all; are = sym (take-append-drop k all); printed = printed }

    module _ (text : List ℕ) (is_text : IsBlockOfFound x name next (sdr_view_of next.bytes) text) where
      is_piece : IsPieceOfFound x name next (piece_of text false)
      is_piece = record { is_text = is_text; counted = refl }

      -- the next block was not written
      pub block_cut : (new : Output) (failure : Failure)
          → WritesPiece (piece_of text false) now new (Err failure) → PrintsFound x name all old new (Err failure)
      block_cut new Failure.WriteFault writes = record {
        whole = now;
        first = first_blocks;
        next = next;
        later = drop (k + 1) all;
        rest_is = at_drop_more (λ (l : List Found). l) all k next there_all ∙ ap (λ (x' : Found). x' ∷ drop (k + 1) all) next_all;
        block = piece_of text false;
        is_block = is_piece;
        some = writes.0;
        part = writes.1;
      }
      block_cut new _ writes = absurd writes

      -- it was written
      pub block_more : {new : Output} → new ≡ and_then now (piece_of text false) → PrintsBlocks x name (take (k + 1) all) old new
      block_more is =
          let more : take (k + 1) all ≡ take k all ++ next ∷ [] =
          take_more all k next there_all ∙ ap (λ (x' : Found). take k all ++ x' ∷ []) next_all in
          rw more (record {
            text = and_then printed.text (piece_of text false);
            are = blocks_more (take k all) next printed.text (piece_of text false) printed.are is_piece;
            new_is = is ∙ ap (λ (o : Output). and_then o (piece_of text false)) printed.new_is ∙ then_assoc old printed.text (piece_of text false);
          })

-- ---- the blocks of what is found along a walk

module _ (x : Texts) (names : Bor (List (List ℕ))) (name : List ℕ) (among : Contains names.now name) (store : Store) where
  -- the text of a row that is found
  found_text : (id : ℕ) (bytes : List ℕ) (view : Result SdrView SdrFault) (text : List ℕ)
      → IsBlockOfFound x name (record { id = id; bytes = bytes; reading = reading_in store view }) view text
      → IsBlockOfName x name store id view text
  found_text id bytes (Ok view) text is = is
  found_text id bytes (Err fault) text is = is

  -- a row that is not found has no text
  no_text : (id : ℕ) (view : Result SdrView SdrFault) → has_one_of names.now view ≡ false
      → IsBlockOfName x name store id view []
  no_text id (Ok view) none = not_chosen (is_name name (name_of view)) refl
    where
      not_chosen : (b : Bool) → is_name name (name_of view) ≡ b
          → IfChosen b (λ t. IsTextOfRecord x Detail.Block id view (known (reading_for store view)) t) []
      not_chosen false is = refl
      not_chosen true is =
          let one = list_any_at (λ n. is_name n (name_of view)) names.now among.0 name among.1 (ap (λ (n : List ℕ). is_name n (name_of view)) among.2 ∙ is) in
          cc (one, none)
  no_text id (Err fault) none = refl

  -- one row, and the rest
  row_texts : (start : Place) (row : Row) (walk : List Row)
      → ((text : Output) → AreBlocks x name (found_among (Sought.Named names) store walk) text
      → AreTexts (IsPieceOver x store) (row_items (Form.Block name) (place_after row.next) walk) text)
      → (one : Bool) → has_one_of names.now (sdr_view_of row.bytes) ≡ one → (text : Output)
      → AreBlocks x name (cond one (found_row store row ∷ []) [] ++ found_among (Sought.Named names) store walk) text
      → AreTexts (IsPieceOver x store) (row_items (Form.Block name) start (row ∷ walk)) text
  row_texts start row walk more true is text are = record {
    first = are.first;
    rest = are.rest;
    is_first = record { is_text = found_text row.id row.bytes (sdr_view_of row.bytes) are.first.bytes are.is_first.is_text; counted = are.is_first.counted };
    is_rest = more are.rest are.is_rest;
    joined = are.joined;
  }
  row_texts start row walk more false is text are = record {
    first = no_output;
    rest = text;
    is_first = record { is_text = no_text row.id (sdr_view_of row.bytes) is; counted = refl };
    is_rest = more text are;
    joined = sym (nothing_then text);
  }

  texts_of_blocks : (start : Place) (walk : List Row) (text : Output) → AreBlocks x name (found_among (Sought.Named names) store walk) text
      → AreTexts (IsPieceOver x store) (row_items (Form.Block name) start walk) text
  texts_of_blocks start [] text are = are
  texts_of_blocks start (row ∷ walk) text are =
      row_texts start row walk (λ rest. texts_of_blocks (place_after row.next) walk rest) (has_one_of names.now (sdr_view_of row.bytes)) refl text are

-- whether anything was counted decides the end
end_by_count : (name : List ℕ) (walk : List Row) (old new text : Output) → new ≡ and_then old text
    → HasItems (some_has_name name walk) text.pieces
    → cond (new.pieces == old.pieces) (Err (Failure.NoName name)) (Ok tt) ≡ rows_end (Form.Block name) walk Done
end_by_count name walk old new text is has = grind (arith, nat_tests, ap (λ (o : Output). o.pieces) is)

pub blocks_of_listing : (x : Texts) → BlocksAreOfListing x
blocks_of_listing x names name store start walk old new among printed =
    let texts = texts_of_blocks x names name among store start walk printed.text printed.are in (
      record { text = printed.text; are = texts; new_is = printed.new_is },
      end_by_count name walk old new printed.text printed.new_is (name_counted x name store start walk printed.text texts),
    )
