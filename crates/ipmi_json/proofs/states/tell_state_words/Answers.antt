use Rattle.std.proofs.Common.{◌≡◌, ◌∙◌, ap, refl, sym}
use Rattle.json.specs.Json.{null}
use Rattle.ipmi_text.specs.declared.reading.Reading.{Reading}
use Rattle.ipmi_records.specs.declared.column.Shown.{Shown}
use Rattle.ipmi_records.specs.declared.sensor.Sensor.{Sensor}
use Rattle.ipmi_json.specs.Sdr.{state_words_shown, texts_of_states}
use Rattle.ipmi_json.proofs.states.tell_state_words.Goals as goal

no_words : (sensor : Sensor) (shown : Shown) → ((reading : Reading) → shown ≡ Shown.Value reading → ⊥)
    → state_words_shown sensor shown ≡ null
no_words sensor (Shown.Value reading) none = absurd (none reading refl)
no_words sensor Shown.OtherOwner none = refl
no_words sensor Shown.NotCaptured none = refl
no_words sensor Shown.NoReading none = refl

pub returns-in_default : goal.returns-in_default
returns-in_default g c = rw (no_words c.args.sensor.now c.args.shown c.in_default.not-Value) c.put.ensures

pub returns : goal.returns
returns g c =
    let discrete = sym c.has_thresholds.ensures ∙ c.if-has_thresholds.false in
    let words = c.in_ok-texts.ensures ∙ ap (texts_of_states c.args.sensor.now) c.states_in.ensures in
    rw (c.in-Value.is, discrete) (rw (c.as_slice.ensures.value, words) at c.put-2.ensures)

pub returns-then-has_thresholds : goal.returns-then-has_thresholds
returns-then-has_thresholds g c =
    rw (c.in-Value.is, sym c.has_thresholds.ensures ∙ c.if-has_thresholds.true) c.put-then-has_thresholds.ensures
