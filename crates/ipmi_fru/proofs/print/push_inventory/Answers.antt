use Rattle.std.proofs.Common.{◌∙◌, Option, Result, List, ℕ, ◌++◌, append_assoc, refl}
use Rattle.std.proofs.lemmas.Result.{on_ok_weaker}
use Rattle.ipmi_text.specs.Appended.{Appends}
use Rattle.ipmi_fru.specs.Prelude.{Area, AreaFault, AreaKind, AreItemTexts, Board, Chassis, HasItems, IsFound, IsTextFound, IsTextOfArea, IsTextOfAreas, MultiFault, MultiRecord, Product}
use Rattle.ipmi_fru.proofs.print.push_inventory.Goals as goal

area_appended : (kind : AreaKind) (bytes old new : List ℕ) (found : Option (Result Area AreaFault))
    → IsFound kind bytes found → Appends (IsTextFound kind found) old new
    → Appends (IsTextOfArea kind bytes) old new
area_appended kind bytes old new found is_found h = record {
  part = h.part;
  is_text = record { found = found; is_found = is_found; is_text = h.is_text };
  text_is = h.text_is;
}

areas_appended : (bytes old chassis board product new : List ℕ)
    (items : List (Result MultiRecord MultiFault)) → Appends (IsTextOfArea Chassis bytes) old chassis
    → Appends (IsTextOfArea Board bytes) chassis board
    → Appends (IsTextOfArea Product bytes) board product → HasItems bytes items
    → Appends (AreItemTexts items) product new → Appends (IsTextOfAreas bytes) old new
areas_appended bytes old chassis board product new items c b p are_items r = record {
  part = c.part ++ (b.part ++ (p.part ++ r.part));
  is_text = record {
    chassis = c.part;
    board = b.part;
    product = p.part;
    records = r.part;
    is_chassis = c.is_text;
    is_board = b.is_text;
    is_product = p.is_text;
    is_records = record { items = items; are_items = are_items; are_texts = r.is_text };
    text_is = refl;
  };
  text_is = r.text_is ∙ rw (p.text_is, b.text_is, c.text_is) (simp append_assoc);
}

pub returns : goal.returns
returns c =
    let bytes = c.args.inventory.now in
    let chassis = area_appended Chassis bytes _ _ _ c.chassis.ensures c.in_ok-push_found.ensures in
    let board = area_appended Board bytes _ _ _ c.board.ensures c.in_ok-push_found-2.ensures in
    let product = area_appended Product bytes _ _ _ c.product.ensures c.in_ok-push_found-3.ensures in
    on_ok_weaker c.push_records.result (areas_appended bytes _ _ _ _ _ _ chassis board product c.records.ensures) c.push_records.ensures
