use Rattle.std.proofs.Common.{◌≡◌, length}
use Rattle.ipmi_command_tests.proofs.MessageLemmas.{IsReadTo}
use Rattle.ipmi_command_tests.proofs.raw.message.read_bytes.Given as goal

abbrev pub invariant-loop : goal.invariant-loop
invariant-loop l = (length l.bytes.items ≡ l.counter) × IsReadTo l.tool l.before l.end l.text l.bytes.items l.rest
