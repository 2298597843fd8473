-- The writer of a sink, what the sink has taken, and whether a flush was a fault.
use Rattle.std.specs.Prelude.{ℕ, List, [], ◌++◌, Result, Ok, Err, unwrap_or}
use Rattle.std.specs.declared.io.traits.Write.{Ghosts}
use Rattle.ipmi_output.specs.declared.sink.Written.{Written}

-- `out.get_ref()`
abbrev pub writer_of : {W : Type 0} {write : Ghosts W} → Written W write → W
writer_of out = out.writer

-- what the writer held at first, if that is known, and then the bytes taken from each call, in order
abbrev pub taken_of : {W : Type 0} {write : Ghosts W} → Written W write → List ℕ
taken_of {write = write} out = unwrap_or (write.contents out.begun.value) [] ++ out.history.taken

abbrev pub flush_faults : {T E : Type 0} → Result T E → ℕ
flush_faults (Ok done) = 0
flush_faults (Err fault) = 1
