-- The output of the program, and the state that runs change.
use Rattle.std.specs.Prelude.{ℕ, Bool, List, Option}
use Rattle.std.specs.declared.alloc.Global.{Global}
use Rattle.std.specs.Io.Buffered.{writer_buffer, writer_inner}
use Rattle.std.specs.declared.io.buffered.BufWriter.{BufWriter}
use Rattle.std.specs.declared.io.traits.Write.{Ghosts}
use Rattle.ipmi_bus.specs.Seen.{Seen}
use Rattle.ipmi_output.specs.Writer.{taken_of, writer_of}
use Rattle.ipmi_output.specs.declared.sink.Written.{Written}
use Rattle.serdimko.specs.declared.closable.Closable.{Closable}

-- whether a write noted that its reader has closed it
abbrev pub is_closed : {W : Type 0} {write : Ghosts (BufWriter (Closable W) Global)}
    → Written (BufWriter (Closable W) Global) write → Bool
is_closed out = (writer_inner (writer_of out)).is_closed

-- the bytes that the output took, those of them that are still in its buffer, how often it failed, and whether it was closed
pub record Out : Type 0 where
  pub taken : List ℕ
  pub held : List ℕ
  pub faults : ℕ
  pub closed : Bool

abbrev pub out_of : {W : Type 0} {write : Ghosts (BufWriter (Closable W) Global)}
    → Written (BufWriter (Closable W) Global) write → Out
out_of out = record {
  taken = taken_of out;
  held = writer_buffer (writer_of out);
  faults = out.history.faults;
  closed = is_closed out;
}

-- a controller as contracts see it, the last words of its tool if the connection was lost, and the output
pub record State : Type 0 where
  pub seen : Seen
  pub lost : Option (List ℕ)
  pub out : Out

abbrev pub state : Seen → Option (List ℕ) → Out → State
state seen lost out = record { seen = seen; lost = lost; out = out }
