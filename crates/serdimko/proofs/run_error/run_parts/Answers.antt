use Rattle.std.proofs.Common.{rules}
use Rattle.serdimko.proofs.run_error.run_parts.Goals as goal

pub returns : goal.returns
returns c = search rules
