use Rattle.std.proofs.Common.{rules}
use Rattle.ipmi_output.proofs.message_sink.WrittenMessageSink.offer.Goals as goal

pub returns-clause-received : goal.returns-clause-received
returns-clause-received g c = search rules
