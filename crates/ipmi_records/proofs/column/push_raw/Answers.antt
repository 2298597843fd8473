use Rattle.std.proofs.Common.{◌≡◌, ℤ, Option, None, List, ◌++◌, ℕ, ap, refl, subst}
use Rattle.std.proofs.lemmas.Result.{on_ok_weaker}
use Rattle.ipmi_records.specs.Below.{Appends, Units, reading_value, unit_text_of}
use Rattle.ipmi_records.specs.Prelude.{IsRawText, IsValueText, factors_in, raw_byte_text, unit_text_in}
use Rattle.ipmi_records.proofs.ColumnLemmas.{quantity_appended}
use Rattle.ipmi_records.proofs.column.push_raw.Goals as goal

raw_appended : (bytes old new : List ℕ) (raw : ℕ) → None ≡ reading_value (factors_in bytes) raw
    → new ≡ old ++ raw_byte_text raw → Appends (IsRawText bytes raw) old new
raw_appended bytes old new raw value_is text_is =
    let part = raw_byte_text raw in
    record {
      part = part;
      is_text = subst (λ (v : Option ℤ). IsValueText v (unit_text_in bytes) raw part) value_is refl;
      text_is = text_is;
    }

pub returns-in_default : goal.returns-in_default
returns-in_default c =
    let value_is = rw c.factors.ensures at c.in_default.ensures in
    on_ok_weaker c.push_raw_byte.result (λ h. raw_appended c.args.full.now _ _ c.args.raw value_is h) c.push_raw_byte.ensures

pub returns : goal.returns
returns c =
    let value_is = rw c.factors.ensures at c.in-Some.ensures in
    on_ok_weaker c.push_units.result (λ h. quantity_appended c.args.full.now _ _ _ _ c.args.raw _ value_is c.in_ok-push_fixed.ensures (ap (λ (u : Units). unit_text_of u.units1 u.base u.modifier) c.units.ensures) h) c.push_units.ensures
