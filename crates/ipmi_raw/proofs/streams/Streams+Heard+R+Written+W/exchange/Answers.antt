use Rattle.std.proofs.Common.{subst, sym}
use Rattle.ipmi_output.specs.Writer.{taken_of}
use Rattle.ipmi_raw.specs.Streams.{HandsOver}
use Rattle.ipmi_raw.proofs.StreamLemmas.{hands_and_reads}
use Rattle.ipmi_raw.proofs.streams.Streams+Heard+R+Written+W.exchange.Goals as goal

pub returns-clause-sent : goal.returns-clause-sent
returns-clause-sent g c =
    subst (λ came. HandsOver came c.args.request.now (taken_of c.args.self.now.requests) (taken_of c.send-sent.new.requests))
    (sym c.and.ensures)
    (hands_and_reads c.read_reply-read.result c.send-sent.result c.args.request.now (taken_of c.args.self.now.requests)
    (taken_of c.send-sent.new.requests) c.send-sent.ensures)
