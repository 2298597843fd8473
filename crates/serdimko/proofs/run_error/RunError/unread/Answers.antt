use Rattle.std.proofs.Common.{rules}
use Rattle.serdimko.proofs.run_error.RunError.unread.Goals as goal

pub returns-in-Memory : goal.returns-in-Memory
returns-in-Memory c = search rules
