-- There is no further part after the name.
use Rattle.std.proofs.Common.{append-nil}
use Rattle.ipmi_output.specs.Failure.{escaped_name}
use Rattle.ipmi_output.proofs.message.write_unreadable.Goals as goal

pub returns : goal.returns
returns g c = rw (append-nil (escaped_name c.args.name.now)) at c.write_message.ensures
