use Rattle.ipmi_raw.proofs.PipedLemmas.{lost_after, opened_so, ready_after}
use Rattle.ipmi_raw.proofs.piped.opened.Goals as goal

pub returns-in-Ok-begin-clause-ready : goal.returns-in-Ok-begin-clause-ready
returns-in-Ok-begin-clause-ready g c =
    ready_after g.O.Open.opens g.O.Replies.Read.remaining c.args.tool c.args.unit c.begin.new.reply.items
    c.args.opener.now c.open.new.self _ c.begin.new.streams
    (opened_so g.O.Open.opens c.args.unit c.args.opener.now c.open.new.self _ _ _ _ c.in-Ok.ensures c.new-replies.ensures.reader c.new-replies.ensures.given
    c.new-requests.ensures.writer c.new-requests.ensures.taken)
    c.args.streams c.in_default.not-Some c.in-Ok-begin.ensures.over

pub returns-in-Err-clause-ready : goal.returns-in-Err-clause-ready
returns-in-Err-clause-ready g c =
    lost_after g.O.Open.opens g.O.Replies.Read.remaining c.args.tool c.args.unit c.begin.new.reply.items
    c.args.opener.now c.open.new.self _ c.begin.new.streams
    (opened_so g.O.Open.opens c.args.unit c.args.opener.now c.open.new.self _ _ _ _ c.in-Ok.ensures c.new-replies.ensures.reader c.new-replies.ensures.given
    c.new-requests.ensures.writer c.new-requests.ensures.taken)
    c.args.streams c.in-Err.field-0 c.in_default.not-Some c.in-Err.ensures.over
