use Rattle.std.proofs.Common.{◌≡◌, ◌∙◌, ◌%◌, ℕ, List, ◌++◌, append_assoc, codes, decimal, refl, slice_index}
use Rattle.std.proofs.lemmas.Result.{on_ok_weaker}
use Rattle.ipmi_text.specs.Appended.{Appends}
use Rattle.ipmi_fru.specs.Prelude.{DcKind, IsDcText, IsVoltsAt, before_high, before_low, current_text, dc_start, standby_text}
use Rattle.ipmi_fru.proofs.record_text.push_dc.Goals as goal

dc_line_appended : (kind : DcKind) (bytes start standby low_words high_words : List ℕ) (number : ℕ)
    (old begun nominal to_low low to_high high after new : List ℕ)
    → start ≡ dc_start kind → number ≡ slice_index bytes 0 % 16
    → standby ≡ standby_text kind (slice_index bytes 0) → low_words ≡ before_low kind
    → high_words ≡ before_high kind
    → begun ≡ old ++ (start ++ (decimal number ++ (standby ++ codes ": nominal ")))
    → Appends (IsVoltsAt 1 bytes) begun nominal → to_low ≡ nominal ++ low_words
    → Appends (IsVoltsAt 3 bytes) to_low low → to_high ≡ low ++ high_words
    → Appends (IsVoltsAt 5 bytes) to_high high → after ≡ high ++ codes " V, "
    → new ≡ after ++ current_text bytes → Appends (IsDcText kind bytes) old new
dc_line_appended kind bytes start standby low_words high_words number old begun nominal to_low low to_high high after new start_is number_is standby_is low_words_are high_words_are begun_is n to_low_is l to_high_is h after_is new_is = record {
  part = dc_start kind
      ++ (decimal (slice_index bytes 0 % 16) ++ (standby_text kind (slice_index bytes 0)
      ++ (codes ": nominal " ++ (n.part
      ++ (before_low kind ++ (l.part
      ++ (before_high kind ++ (h.part ++ (codes " V, " ++ current_text bytes)))))))));
  is_text = record { nominal = n.part; low = l.part; high = h.part; nominal_is = n.is_text; low_is = l.is_text; high_is = h.is_text; text_is = refl };
  text_is = new_is ∙ rw (after_is, h.text_is, to_high_is, l.text_is, to_low_is, n.text_is, begun_is, start_is, number_is, standby_is, low_words_are, high_words_are) (simp append_assoc);
}

pub returns : goal.returns
returns c = on_ok_weaker c.push_current.result (λ new. dc_line_appended c.args.kind c.args.bytes.now _ _ _ _ _ _ _ _ _ _ _ _ _ _ c.words_of.ensures.start c.number_of-number.ensures c.standby_text-standby.ensures c.words_of.ensures.low c.words_of.ensures.high c.in_ok-write.ensures.bytes c.in_ok-push_volts.ensures c.in_ok-push_str.ensures.bytes c.in_ok-push_volts-2.ensures c.in_ok-push_str-2.ensures.bytes c.in_ok-push_volts-3.ensures c.in_ok-push_str-3.ensures.bytes new) c.push_current.ensures
