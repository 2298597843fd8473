use Rattle.ipmi_events.proofs.LineLawLemmas.{one_event_in_words}
use Rattle.ipmi_events.proofs.laws.one_event_in_words.Goals as goal

pub returns : goal.returns
returns c = one_event_in_words c.one_utc_text.ensures c.one_sel_line.ensures c.one_text_of_details.ensures
