use Rattle.std.proofs.Common.{◌∙◌}
use Rattle.ipmi_output.specs.Writer.{taken_of}
use Rattle.ipmi_raw.proofs.StreamLemmas.{hands_all}
use Rattle.ipmi_raw.proofs.streams.send.Goals as goal

pub returns-in-Ok : goal.returns-in-Ok
returns-in-Ok g c =
    hands_all c.or.result c.args.request.now (taken_of c.args.requests.now) (taken_of c.flush_writer.new.self)
    (c.flush_writer.ensures.taken ∙ c.in-Ok.ensures.ok.0)
