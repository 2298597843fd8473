use Rattle.ipmi_fru.proofs.LineLemmas.{present}
use Rattle.ipmi_fru.proofs.line.present_line.Goals as goal

pub returns : goal.returns
returns c = record {
  product = c.product-found.result;
  board = c.board-board.result;
  is_product = c.product-found.ensures;
  is_board = c.board-board.ensures;
  text_is = present c.args.id c.args.name.now c.in_ok-identity.identity _ _ _ _ _ c.in_ok-identity.ensures (rw c.deref.ensures at c.or_dash-product.ensures) (rw c.deref-2.ensures at c.or_dash-part_number.ensures) (rw c.deref-3.ensures at c.or_dash-serial.ensures) (rw c.in_ok-line.ensures.bytes at c.in_ok-write.ensures.bytes);
}
