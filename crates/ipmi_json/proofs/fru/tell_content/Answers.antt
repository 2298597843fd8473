use Rattle.std.proofs.Common.{refl}
use Rattle.std.proofs.lemmas.Result.{on_ok_weaker}
use Rattle.ipmi_json.proofs.MemberLemmas.{joined, told_some}
use Rattle.ipmi_json.proofs.fru.tell_content.Goals as goal

pub returns : goal.returns
returns g c =
    let a = c.in_ok-tell_area.ensures in
    let b = c.in_ok-tell_area-2.ensures in
    let p = c.in_ok-tell_area-3.ensures in
    on_ok_weaker c.tell_records.result
    (λ r. told_some (joined (joined (joined a.tells b.tells) p.tells) r.tells) (record {
      chassis = a.ms;
      board = b.ms;
      product = p.ms;
      items = _;
      records = r.ms;
      are_chassis = record { found = _; is_found = c.chassis.ensures; are_members = a.are };
      are_board = record { found = _; is_found = c.board.ensures; are_members = b.are };
      are_product = record { found = _; is_found = c.product.ensures; are_members = p.are };
      are_items = c.records.ensures;
      are_records = r.are;
      are = refl;
    })) c.tell_records.ensures
