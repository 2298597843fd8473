-- The output of a run, by the bytes that a sink took and the summary.
use Rattle.std.specs.Prelude.{ℕ, List}
use Rattle.ipmi_commands.specs.declared.summary.Summary.{Summary}
use Rattle.ipmi_commands.specs.Output.{Output}

abbrev pub pieces_of : Summary → ℕ
pieces_of summary = summary.counts.pieces

abbrev pub faults_of : Summary → ℕ
faults_of summary = summary.counts.faults

abbrev pub printed : List ℕ → Summary → Output
printed bytes summary =
    record { bytes = bytes; pieces = pieces_of summary; faults = faults_of summary }
