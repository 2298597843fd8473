use Rattle.std.proofs.Common.{rules}
use Rattle.serdimko.proofs.run_error.RunError.is_recoverable.Goals as goal

pub returns-in-Some-Failed : goal.returns-in-Some-Failed
returns-in-Some-Failed c = search rules
