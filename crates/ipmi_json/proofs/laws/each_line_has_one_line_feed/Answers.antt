use Rattle.ipmi_json.proofs.KeyLemmas.{each_line}
use Rattle.ipmi_json.proofs.LineFeedLemmas.{one_line_feed}
use Rattle.ipmi_json.proofs.laws.each_line_has_one_line_feed.Goals as goal

pub returns : goal.returns
returns c = each_line _ (λ ms labels text keys h. one_line_feed _ text h)
