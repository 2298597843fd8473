-- Each item has a text.
use Rattle.std.proofs.Common.{◌≡◌, ℕ, suc, Bool, true, false, cond, nat_eq, Option, None, Some, Result, Ok, Err, List, [], ◌∷◌, All, refl, arith}
use Rattle.ipmi_bus.specs.Store.{Inventory, IsInventory, inventory_in}
use Rattle.ipmi_commands.specs.Below.{known, AreBytes, fru_of, Row, Store, IsStore, inventory_of, SdrFault, SdrView, printed_name, sdr_view_of, sel_view_of}
use Rattle.ipmi_commands.specs.Prelude.{Form, IfChosen, IsBlockOfName, IsDevicePiece, IsLocatorPiece, IsRecordText, IsRowText, IsTextOver, is_faulty, ItemsHaveAText, OfInfo, OfInventory, OfRow, reading_for, Subject, Texts, TextsExist}
use Rattle.ipmi_selection.specs.Selection.{selects, selects_entry}
use Rattle.ipmi_selection.specs.declared.detail.Detail.{Detail}
use Rattle.ipmi_commands.specs.Output.{no_output, piece_of}

-- there is such a text
abbrev HasText : (List ℕ → Type 0) → Type 0
HasText IsText = (text : List ℕ) × IsText text

has_chosen : (chosen : Bool) (IsText : List ℕ → Type 0) → HasText IsText
    → HasText (IfChosen chosen IsText)
has_chosen true IsText has = has
has_chosen false IsText has = ([], refl)

-- the inventories of a store consist of bytes
inventory_bytes : (inventories : List Inventory) (id : ℕ) (bytes : List ℕ)
    → All IsInventory inventories → inventory_in inventories id ≡ Some bytes → AreBytes bytes
inventory_bytes [] id bytes all is = cc is
inventory_bytes (x ∷ xs) id bytes all is =
    by (nat_eq x.id id) (inventory_bytes xs id bytes (λ k d lt. all (suc k) d (omega (arith, lt)))) is
  where
    by : (b : Bool) → (inventory_in xs id ≡ Some bytes → AreBytes bytes)
        → cond b (Some x.bytes) (inventory_in xs id) ≡ Some bytes → AreBytes bytes
    by true rest is = let same : x.bytes ≡ bytes = cc is in rw (← same) (all 0 x (omega arith)).bytes
    by false rest is = rest is

module _ {x : Texts} (exist : TextsExist x) where
  has_record : (detail : Detail) (store : Store) (row : Row) (view : Result SdrView SdrFault)
      → HasText (IsRecordText x detail store row view)
  has_record detail store row (Ok view) = exist.has_record detail row.id view (known (reading_for store view))
  has_record detail store row (Err fault) = exist.has_fault row.id fault row.bytes

  has_block_of_name : (name : List ℕ) (store : Store) (id : ℕ) (view : Result SdrView SdrFault)
      → HasText (IsBlockOfName x name store id view)
  has_block_of_name name store id (Ok view) = has_chosen _ _ (exist.has_record Detail.Block id view (known (reading_for store view)))
  has_block_of_name name store id (Err fault) = ([], refl)

  has_inventory : (detail : Detail) (store : Store) (id : ℕ) (name : Option (List ℕ)) → IsStore store
      → HasText (x.IsDevice detail id name (inventory_of id store))
  has_inventory detail store id name ok =
      exist.has_device detail id name (inventory_of id store) (λ bytes is. inventory_bytes store.inventories id bytes ok.inventories is)

  has_device : (store : Store) (name : List ℕ) (id : Option ℕ) → IsStore store
      → HasText (IsDevicePiece x store name id)
  has_device store name None ok = exist.has_elsewhere name
  has_device store name (Some id) ok = has_chosen _ _ (has_inventory Detail.Line store id (Some name) ok)

  has_locator : (store : Store) (view : Result SdrView SdrFault) → IsStore store → HasText (IsLocatorPiece x store view)
  has_locator store (Ok (SdrView.Fru bytes)) ok =
      has_device store (printed_name (SdrView.Fru bytes)) (fru_of (SdrView.Fru bytes)) ok
  has_locator store _ ok = ([], refl)

  has_row : (form : Form) (store : Store) (row : Row) → IsStore store → HasText (IsRowText x store form row)
  has_row Form.Hex store row ok = exist.has_hex row
  has_row Form.Bytes store row ok = (_, refl)
  has_row (Form.Record detail selection) store row ok = has_chosen (selects selection row) _ (has_record detail store row (sdr_view_of row.bytes))
  has_row (Form.Block name) store row ok = has_block_of_name name store row.id (sdr_view_of row.bytes)
  has_row Form.Device store row ok = has_locator store (sdr_view_of row.bytes) ok
  has_row (Form.Entry entries) store row ok = has_chosen (selects_entry entries.selection row) _
      (exist.has_entry entries.selection.detail row.id (sel_view_of row.bytes) entries.sensors)
  has_row Form.Skipped store row ok = (_, refl)

  has_item : (store : Store) (subject : Subject) → IsStore store → HasText (IsTextOver x store subject)
  has_item store (OfRow form row) ok = has_row form store row ok
  has_item store (OfInventory detail id name) ok = has_inventory detail store id name ok
  has_item store (OfInfo shelf bytes) ok = exist.has_info shelf bytes

  pub has_texts : ItemsHaveAText x
  has_texts store [] ok = (no_output, refl)
  has_texts store (item ∷ items) ok =
      let first = has_item store item.subject ok in
      let rest = has_texts store items ok in (
        _,
        record {
          first = piece_of first.0 (is_faulty x store item.subject);
          rest = rest.0;
          is_first = record { is_text = first.1; counted = refl };
          is_rest = rest.1;
          joined = refl;
        },
      )
