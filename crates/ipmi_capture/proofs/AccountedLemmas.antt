-- What a capture lacks over any controller, phase by phase.
use Rattle.std.proofs.Common.{◌≡◌, Bool, false, IsTrue, Option, None, Some, List, get_or, inl, inr, refl, sym, ap, subst, ◌∙◌, arith}
use Rattle.std.specs.List.{Any, list_all}
use Rattle.std.proofs.lemmas.List.Folds.{list_all_at}
use Rattle.ipmi_capture.specs.Accounted.{AtSome, BothEndOrTurn, EndIsListed, EndsOrTurns, HasEnded, IsAccountedFor, IsInventoryAccounted, IsListedOrAbsent, IsReadingAccounted, IsShelfRead}
use Rattle.ipmi_capture.specs.Below.{Cycle, Ended, GaveUp, info_of, Malformed, Missing, reading_in, Refused, Row, rows_of, Sdr, Seen, Sel, SensorReading, Shelf, Stalled, Store, with_info, with_rows}
use Rattle.ipmi_capture.specs.Capture.{devices_of, sensors_of}
use Rattle.ipmi_capture.specs.Left.{LacksInfo, LacksReading, leaves_whole}
use Rattle.ipmi_capture.specs.Named.{Names}
use Rattle.ipmi_capture.specs.Phases.{AreInventoriesAccounted, AreReadingsAccounted}
use Rattle.ipmi_capture.specs.declared.left.Left.{Left}
use Rattle.ipmi_capture.proofs.CaptureLemmas.{named_inventories, named_readings}
use Rattle.ipmi_capture.proofs.ReadLemmas.{any_more, listed_more}
use Rattle.ipmi_capture.proofs.WhileLemmas.{Begins, begins_then}

module _ (S : Seen → Type 0) (left left' : List Left) (more : Begins left left') where
  shelf_begun : (shelf : Shelf) (rows : List Row) → IsShelfRead S shelf left rows → IsShelfRead S shelf left' rows
  shelf_begun shelf rows read = record { ended = read.ended; has = read.has; listed = by read.ended read.listed }
    where
      by : (o : Option Ended) → EndIsListed shelf left o → EndIsListed shelf left' o
      by None listed = tt
      by (Some ended) listed =
          subst (Any (λ l. l ≡ Left.Records shelf ended)) (sym more.1) (any_more (λ l. l ≡ Left.Records shelf ended) left more.0 listed)

  value_begun : {V : Type 0} (Lacks : Left → Type 0) (value : Option V) → IsListedOrAbsent S Lacks left value
      → IsListedOrAbsent S Lacks left' value
  value_begun Lacks value is =
      subst (λ (l : List Left). IsListedOrAbsent S Lacks l value) (sym more.1) (listed_more S Lacks left more.0 value is)

-- all phases; later ones keep what was put into the image
pub all_accounted : (S : Seen → Type 0) {l2 l3 l4 l5 l6 : List Left} (l1 : List Left) (i1 i2 i3 i4 i5 i6 : Store) (sensors devices : List Bool)
    → i2 ≡ with_rows Sdr (rows_of Sdr i2) i1 → i3 ≡ with_info Sel (info_of Sel i3) i2
    → i4 ≡ with_rows Sel (rows_of Sel i4) i3 → i5 ≡ record i4 { readings = i5.readings }
    → i6 ≡ record i5 { inventories = i6.inventories } → Names i4.sdr sensors devices
    → Begins l1 l2 → Begins l2 l3 → Begins l3 l4 → Begins l4 l5 → Begins l5 l6
    → IsListedOrAbsent S (LacksInfo Sdr) l1 (info_of Sdr i1) → IsShelfRead S Sdr l2 (rows_of Sdr i2)
    → IsListedOrAbsent S (LacksInfo Sel) l3 (info_of Sel i3) → IsShelfRead S Sel l4 (rows_of Sel i4)
    → AreReadingsAccounted S sensors l5 i5 → AreInventoriesAccounted S devices l6 i6 → IsAccountedFor S l6 i6
all_accounted S {l2} {l3} {l4} {l5} {l6} l1 i1 i2 i3 i4 i5 i6 sensors devices e2 e3 e4 e5 e6 names g2 g3 g4 g5 g6 a b c d e f =
    let sdr_four : i6.sdr ≡ i4.sdr = ap (λ (x : Store). x.sdr) e6 ∙ ap (λ (x : Store). x.sdr) e5 in
    let sdr_two : i6.sdr ≡ i2.sdr = sdr_four ∙ ap (λ (x : Store). x.sdr) e4 ∙ ap (λ (x : Store). x.sdr) e3 in
    let sel_four : i6.sel ≡ i4.sel = ap (λ (x : Store). x.sel) e6 ∙ ap (λ (x : Store). x.sel) e5 in
    let sel_info : i6.sel_info ≡ i3.sel_info = ap (λ (x : Store). x.sel_info) e6 ∙ ap (λ (x : Store). x.sel_info) e5 ∙ ap (λ (x : Store). x.sel_info) e4 in
    let sdr_info : i6.sdr_info ≡ i1.sdr_info = ap (λ (x : Store). x.sdr_info) e6 ∙ ap (λ (x : Store). x.sdr_info) e5 ∙ ap (λ (x : Store). x.sdr_info) e4
    ∙ ap (λ (x : Store). x.sdr_info) e3 ∙ ap (λ (x : Store). x.sdr_info) e2 in
    let readings : i5.readings ≡ i6.readings = sym (ap (λ (x : Store). x.readings) e6) in
    let named : Names i6.sdr sensors devices = rw sdr_four names in
    let g46 = begins_then l4 l5 l6 g5 g6 in
    let g36 = begins_then l3 l4 l6 g4 g46 in
    let g26 = begins_then l2 l3 l6 g3 g36 in
    let g16 = begins_then l1 l2 l6 g2 g26 in
    record {
      sdr = subst (λ (l : List Row). IsShelfRead S Sdr l6 l) (sym sdr_two) (shelf_begun S l2 l6 g26 Sdr (rows_of Sdr i2) b);
      sel = subst (λ (l : List Row). IsShelfRead S Sel l6 l) (sym sel_four) (shelf_begun S l4 l6 g46 Sel (rows_of Sel i4) d);
      sdr_info = subst (λ (o : _). IsListedOrAbsent S (LacksInfo Sdr) l6 o) (sym sdr_info) (value_begun S l1 l6 g16 (LacksInfo Sdr) (info_of Sdr i1) a);
      sel_info = subst (λ (o : _). IsListedOrAbsent S (LacksInfo Sel) l6 o) (sym sel_info) (value_begun S l3 l6 g36 (LacksInfo Sel) (info_of Sel i3) c);
      readings = named_readings (IsReadingAccounted S l6 i6) sensors (sensors_of i6.sdr) named.keys named.sensors_are
          (λ key is mark. subst (λ (l : List SensorReading). IsListedOrAbsent S (LacksReading key.0 key.1) l6 (reading_in l key.0 key.1)) readings
          (value_begun S l5 l6 g6 (LacksReading key.0 key.1) (reading_in i5.readings key.0 key.1) (e key is mark)));
      inventories = named_inventories (IsInventoryAccounted S l6 i6) devices (devices_of i6.sdr) named.ids named.devices_are
          (λ id below mark small. f id below mark) (λ small. absurd (omega (arith, small)));
    }

-- ---- a whole image

module _ (S : Seen → Type 0) (left : List Left) (image : Store) (whole : IsTrue (list_all leaves_whole left)) where
  -- an item that is listed leaves the image whole
  listed_whole : (l : Left) → Any (λ x. x ≡ l) left → leaves_whole l ≡ false → ⊥
  listed_whole l any is =
      let at : leaves_whole (get_or left any.0 any.1) ≡ false = ap leaves_whole (any.3 ∙ any.4) ∙ is in
      let all : list_all leaves_whole left ≡ false = list_all_at leaves_whole left any.0 any.1 any.2 at in
      absurd (grind (arith, all, whole))

  shelf_ends : (shelf : Shelf) → IsShelfRead S shelf left (rows_of shelf image) → EndsOrTurns S left image shelf
  shelf_ends shelf read = by read.ended read.has read.listed
    where
      by : (o : Option Ended) → AtSome S (HasEnded shelf (rows_of shelf image) o) → EndIsListed shelf left o → EndsOrTurns S left image shelf
      by None has listed = inl (has.0, has.1, has.2)
      by (Some (Cycle n)) has listed = inr (n, has.2.0, listed)
      by (Some (Missing n)) has listed = absurd (listed_whole (Left.Records shelf (Missing n)) listed refl)
      by (Some (GaveUp n)) has listed = absurd (listed_whole (Left.Records shelf (GaveUp n)) listed refl)
      by (Some (Refused n code)) has listed = absurd (listed_whole (Left.Records shelf (Refused n code)) listed refl)
      by (Some (Stalled n)) has listed = absurd (listed_whole (Left.Records shelf (Stalled n)) listed refl)
      by (Some (Malformed n)) has listed = absurd (listed_whole (Left.Records shelf (Malformed n)) listed refl)

  pub both_end : IsAccountedFor S left image → BothEndOrTurn S left image
  both_end all Sdr = shelf_ends Sdr all.sdr
  both_end all Sel = shelf_ends Sel all.sel
