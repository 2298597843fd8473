-- The line of a present device, and that a device has exactly one line.
use Rattle.std.proofs.Common.{◌∙◌, ◌≡◌, ◌++◌, ℕ, Option, None, Some, List, ap, codes, decimal, refl, string_bytes, sym}
use Rattle.ipmi_text.specs.Bytes.{AreBytes}
use Rattle.ipmi_text.specs.Laws.{DecimalExists, DecimalIsUnique, MinutesTextExists, MinutesTextIsUnique}
use Rattle.ipmi_fru.specs.Prelude.{Board, FruFault, IdentityTexts, IsFruLine, IsLineByFault, Product, header_fault, or_dash, present_line, texts_of}
use Rattle.ipmi_fru.specs.declared.line.Identity.{Identity}
use Rattle.ipmi_fru.proofs.ExistenceLemmas.{area_text}
use Rattle.ipmi_fru.proofs.TextLemmas.{one_found}

-- ---- a present device

-- the text that was written is the line with the identity that was found
pub present : (id : ℕ) (name : List ℕ) (identity : Identity) (found : IdentityTexts) (product part_number serial text : List ℕ)
    → texts_of identity ≡ found → product ≡ or_dash (string_bytes identity.name)
    → part_number ≡ or_dash (string_bytes identity.part_number)
    → serial ≡ or_dash (string_bytes identity.serial)
    → text ≡ decimal id ++ (codes " | " ++ (name ++ (codes " | present | " ++ (product ++ (codes " | " ++ (part_number ++ (codes " | " ++ (serial ++ codes "\n"))))))))
    → text ≡ present_line id name found
present id name identity found product part_number serial text found_is product_is part_number_is serial_is text_is =
    text_is ∙ rw (product_is, part_number_is, serial_is) (ap (present_line id name) found_is)

-- ---- at most one line

module _ (one_text : DecimalIsUnique) (one_minutes_text : MinutesTextIsUnique) where
  one_by_fault : (fault : Option FruFault) (id : ℕ) (name bytes text other : List ℕ)
      → IsLineByFault fault id name bytes text → IsLineByFault fault id name bytes other
      → text ≡ other
  one_by_fault (Some fault) id name bytes text other h k = h ∙ sym k
  one_by_fault None id name bytes text other h k =
      h.text_is ∙ rw (one_found one_text one_minutes_text Product bytes h.product k.product h.is_product k.is_product, one_found one_text one_minutes_text Board bytes h.board k.board h.is_board k.is_board) (sym k.text_is)

  pub one_line : (id : ℕ) (name inventory : Option (List ℕ)) (text other : List ℕ)
      → IsFruLine id name inventory text → IsFruLine id name inventory other → text ≡ other
  one_line id name None text other h k = h ∙ sym k
  one_line id name (Some bytes) text other h k = one_by_fault (header_fault bytes) id _ bytes text other h k

-- ---- at least one line

module _ (decimal : DecimalExists) (minutes_text : MinutesTextExists) where
  line_by_fault : (fault : Option FruFault) (id : ℕ) (name bytes : List ℕ) → AreBytes bytes
      → (text : List ℕ) × IsLineByFault fault id name bytes text
  line_by_fault (Some fault) id name bytes are = (_, refl)
  line_by_fault None id name bytes are =
      let product = area_text decimal minutes_text Product bytes are in
      let board = area_text decimal minutes_text Board bytes are in
      (_, record { product = product.1.found; board = board.1.found; is_product = product.1.is_found; is_board = board.1.is_found; text_is = refl })

  pub line : (id : ℕ) (name : Option (List ℕ)) (bytes : List ℕ) → AreBytes bytes
      → (text : List ℕ) × IsFruLine id name (Some bytes) text
  line id name bytes are = line_by_fault (header_fault bytes) id _ bytes are
