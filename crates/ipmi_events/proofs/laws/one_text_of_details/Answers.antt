use Rattle.ipmi_events.proofs.DetailsLawLemmas.{one_text_of_details}
use Rattle.ipmi_events.proofs.laws.one_text_of_details.Goals as goal

pub returns : goal.returns
returns c = one_text_of_details c.one_decimal_of_a_value.ensures
