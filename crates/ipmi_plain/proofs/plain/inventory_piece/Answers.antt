use Rattle.std.proofs.Common.{◌≡◌, ◌∙◌, Option, List, [], ◌++◌, ℕ, append_assoc, codes, decimal}
use Rattle.ipmi_text.specs.Appended.{Appends}
use Rattle.ipmi_plain.specs.Plain.{IsInventoryPiece, IsInventoryText, in_parentheses}
use Rattle.ipmi_plain.proofs.plain.inventory_piece.Goals as goal

piece_made : (id : ℕ) (name inventory : Option (List ℕ)) (empty numbered named begun told text : List ℕ)
    → empty ≡ [] → numbered ≡ empty ++ (codes "FRU " ++ decimal id)
    → named ≡ numbered ++ in_parentheses name → begun ≡ named ++ codes "\n"
    → Appends (IsInventoryText inventory) begun told → text ≡ told ++ codes "\n"
    → IsInventoryPiece id name inventory text
piece_made id name inventory empty numbered named begun told text empty_is numbered_is named_is begun_is h text_is = record {
  part = h.part;
  is_part = h.is_text;
  text_is = text_is ∙ rw (h.text_is, begun_is, named_is, numbered_is, empty_is) (simp append_assoc);
}

pub returns : goal.returns
returns c = piece_made c.args.id _ _ _ _ _ _ _ _ c.in_ok-text.ensures.bytes c.in_ok-write.ensures.bytes c.in_ok-push_in_parentheses.ensures c.in_ok-push_str.ensures.bytes c.in_ok-push_inventory.ensures c.in_ok-push_str-2.ensures.bytes
