use Rattle.std.proofs.Common.{◌≡◌, ◌∙◌, ℕ, List, [], ◌++◌, append_assoc, codes, true}
use Rattle.ipmi_records.specs.Below.{Appends}
use Rattle.ipmi_records.specs.Prelude.{IsRawText, Threshold, is_readable, threshold_in, threshold_name}
use Rattle.ipmi_records.specs.SdrText.{IsThresholdLine}
use Rattle.ipmi_records.proofs.sdr_blocks.threshold_text.Goals as goal

threshold_line_made : (bytes name empty named valued text : List ℕ) (threshold : Threshold) (raw : ℕ)
    → empty ≡ [] → name ≡ threshold_name threshold → raw ≡ threshold_in threshold bytes
    → named ≡ empty ++ (name ++ codes ": ") → Appends (IsRawText bytes raw) named valued
    → text ≡ valued ++ codes "\n" → IsThresholdLine bytes threshold text
threshold_line_made bytes name empty named valued text threshold raw empty_is name_is raw_is named_is h text_is = record {
  value = h.part;
  is_value = rw raw_is at h.is_text;
  text_is = text_is ∙ rw (h.text_is, named_is, empty_is, name_is) (simp append_assoc);
}

pub returns : goal.returns
returns c =
    let readable : is_readable c.args.threshold c.args.full.now ≡ true = cc in
    rw readable (threshold_line_made c.args.full.now _ _ _ _ _ _ _ c.in_ok-text.ensures.bytes c.threshold_name-name.ensures c.threshold.ensures c.in_ok-write.ensures.bytes c.in_ok-push_raw.ensures c.in_ok-push_str.ensures.bytes)
