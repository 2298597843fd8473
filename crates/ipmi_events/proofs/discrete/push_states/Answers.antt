use Rattle.std.proofs.Common.{refl}
use Rattle.ipmi_events.proofs.PartsLemmas.{pushed_both}
use Rattle.ipmi_events.proofs.discrete.push_states.Goals as goal

pub returns-clause-text : goal.returns-clause-text
returns-clause-text c =
    rw (c.of.ensures, c.of-2.ensures) at (pushed_both c.args.before _ _ _ _ _ _ (rw c.in_ok-has_previous.ensures.said refl) c.in_ok-has_previous.ensures.text c.in_ok-has_severity.ensures.text)
