-- Appending columns to a line.
use Rattle.std.proofs.Common.{◌≡◌, ◌∙◌, ℕ, ℤ, Option, Some, List, ◌++◌, append_assoc, subst, refl}
use Rattle.ipmi_records.specs.Below.{Appends, IsDecimalOf, reading_value, after_space}
use Rattle.ipmi_records.specs.Prelude.{IsRawText, IsValueText, unit_text_in, factors_in}

-- a number and its unit
pub quantity_appended : (bytes unit old number new : List ℕ) (raw : ℕ) (value : ℤ)
    → Some value ≡ reading_value (factors_in bytes) raw → Appends (IsDecimalOf value) old number
    → unit ≡ unit_text_in bytes → new ≡ number ++ after_space unit
    → Appends (IsRawText bytes raw) old new
quantity_appended bytes unit old number new raw value value_is h unit_is text_is =
    let part = h.part ++ after_space (unit_text_in bytes) in
    record {
      part = part;
      is_text = subst (λ (v : Option ℤ). IsValueText v (unit_text_in bytes) raw part) value_is (record { number = h.part; is_decimal = h.is_text; text_is = refl });
      text_is = text_is ∙ rw (unit_is, h.text_is) (append_assoc old h.part (after_space (unit_text_in bytes)));
    }
