use Rattle.ipmi_text.proofs.ExistenceLemmas.{minutes_text_exists, utc_text_exists}
use Rattle.ipmi_text.proofs.laws.each_time_has_a_text.Goals as goal

pub returns : goal.returns
returns c = record { utc = utc_text_exists; minutes = minutes_text_exists }
