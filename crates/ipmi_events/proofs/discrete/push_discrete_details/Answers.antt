use Rattle.std.proofs.Common.{false}
use Rattle.ipmi_events.proofs.PartsLemmas.{pushed_both}
use Rattle.ipmi_events.proofs.discrete.push_discrete_details.Goals as goal

pub returns : goal.returns
returns c =
    pushed_both false _ _ _ _ _ _ c.in_ok-said.ensures.said c.in_ok-said.ensures.text c.in_ok-push_byte.ensures.text
