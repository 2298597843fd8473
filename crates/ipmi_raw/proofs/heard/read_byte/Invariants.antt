-- Nothing has been read yet.
use Rattle.std.proofs.Common.{[]}
use Rattle.std.specs.Io.KnownBytes.{Consumes}
use Rattle.ipmi_raw.proofs.heard.read_byte.Given as goal

abbrev pub invariant-loop : goal.invariant-loop
invariant-loop g l = Consumes (g.R.Read.remaining l.fn.reader) (g.R.Read.remaining l.reader) []
