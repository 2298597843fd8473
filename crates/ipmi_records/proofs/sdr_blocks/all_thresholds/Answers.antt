use Rattle.std.proofs.Common.{◌∙◌, ℕ, List, [], ◌∷◌, ◌++◌, append-nil, drop, refl, string_bytes, subst, sym}
use Rattle.ipmi_records.specs.Prelude.{AreThresholdTexts, IsThresholdText, Threshold, all_thresholds, is_readable}
use Rattle.ipmi_records.proofs.sdr_blocks.all_thresholds.Goals as goal

one_more : (bytes : List ℕ) (threshold : Threshold) (thresholds : List Threshold)
    (line more : List ℕ) → IsThresholdText (is_readable threshold bytes) bytes threshold line
    → AreThresholdTexts bytes thresholds more
    → AreThresholdTexts bytes (threshold ∷ thresholds) (line ++ more)
one_more bytes threshold thresholds line more is_line are_more = (line, more, (is_line, (are_more, refl)))

pub returns : goal.returns
returns c =
    let bytes = c.args.full.now in
    let f = one_more bytes Threshold.LowerNonCritical [] (string_bytes c.in_ok-f.f) [] c.in_ok-f.ensures refl in
    let e = one_more bytes Threshold.LowerCritical (drop 5 all_thresholds) (string_bytes c.in_ok-e.e) _ c.in_ok-e.ensures f in
    let d = one_more bytes Threshold.LowerNonRecoverable (drop 4 all_thresholds) (string_bytes c.in_ok-d.d) _ c.in_ok-d.ensures e in
    let from_c = one_more bytes Threshold.UpperNonCritical (drop 3 all_thresholds) (string_bytes c.in_ok-c.c) _ c.in_ok-c.ensures d in
    let b = one_more bytes Threshold.UpperCritical (drop 2 all_thresholds) (string_bytes c.in_ok-b.b) _ c.in_ok-b.ensures from_c in
    let a = one_more bytes Threshold.UpperNonRecoverable (drop 1 all_thresholds) (string_bytes c.in_ok-a.a) _ c.in_ok-a.ensures b in
    subst (AreThresholdTexts bytes all_thresholds) (simp append-nil refl ∙ sym (rw c.in_ok-text.ensures.bytes at c.in_ok-write.ensures.bytes)) a
