use Rattle.ipmi_plain.proofs.RunLemmas.{over_image}
use Rattle.ipmi_plain.specs.Plain.{plain_texts}
use Rattle.ipmi_plain.proofs.runs.execute_over.Goals as goal

pub returns-clause-runs : goal.returns-clause-runs
returns-clause-runs g c = over_image plain_texts _ c.args.limits.tries _ _ _ _ _ c.execute-ended.result
    c.new-ctl.ensures.plain.honest c.new-ctl.ensures.plain.said c.new-ctl.ensures.store c.execute-ended.ensures.runs
