use Rattle.std.proofs.Common.{rules}
use Rattle.serdimko.proofs.images.file_of.Goals as goal

pub returns : goal.returns
returns c = search rules
