use Rattle.ipmi_check.proofs.TextLemmas.{counts_made}
use Rattle.ipmi_check.proofs.text.push_counts.Goals as goal

pub returns : goal.returns
returns c =
    counts_made c.args.lacks.now c.args.verdict c.args.found.now _ _ _ _ _ _ _ _ c.in_ok-push_warnings.ensures c.count_in.ensures c.in_ok-push_count.ensures
    c.count_in-2.ensures c.in_ok-push_count-2.ensures c.count_in-3.ensures c.in_ok-push_count-3.ensures
