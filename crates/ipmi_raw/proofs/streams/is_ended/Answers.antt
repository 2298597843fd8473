use Rattle.std.proofs.Common.{codes}
use Rattle.ipmi_raw.proofs.WordLemmas.{differ}
use Rattle.ipmi_raw.proofs.StreamLemmas.{ends_or_not, ended_or_not}
use Rattle.ipmi_raw.proofs.streams.is_ended.Goals as goal

pub returns-else-eq : goal.returns-else-eq
returns-else-eq c =
    rw c.in-Ipmitool.is
    (ended_or_not c.args.text.now c.ends_with.result
    (differ c.args.text.now (codes ". \n") c.eq.result c.eq.ensures c.if-eq.false)
    (ends_or_not c.args.text.now (codes "\n. \n") c.ends_with.result c.ends_with.ensures.value))

pub returns-in-FreeIpmi : goal.returns-in-FreeIpmi
returns-in-FreeIpmi c =
    rw c.in-FreeIpmi.is
    (ends_or_not c.args.text.now (codes "\n") c.ends_with-in-FreeIpmi.result c.ends_with-in-FreeIpmi.ensures.value)
