use Rattle.std.proofs.Common.{rules}
use Rattle.serdimko.proofs.run_error.RunError.status.Goals as goal

pub returns-in-Faulty : goal.returns-in-Faulty
returns-in-Faulty c = search rules
