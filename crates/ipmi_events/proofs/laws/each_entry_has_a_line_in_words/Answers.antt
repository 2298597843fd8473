use Rattle.ipmi_events.proofs.DetailsLawLemmas.{details}
use Rattle.ipmi_events.proofs.LineLawLemmas.{event_in_words}
use Rattle.ipmi_events.proofs.laws.each_entry_has_a_line_in_words.Goals as goal

pub returns : goal.returns
returns c =
    let said = details c.each_value_has_a_decimal.ensures in
    record { details = said; line = event_in_words c.each_time_has_a_text.ensures.utc c.each_entry_has_texts.ensures.line said }
