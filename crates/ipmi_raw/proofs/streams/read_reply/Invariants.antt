-- The text has all bytes read so far, and they do not contain the end of a reply.
use Rattle.std.proofs.Common.{◌≡◌, ◌++◌, length}
use Rattle.std.specs.Io.KnownBytes.{Consumes}
use Rattle.ipmi_raw.specs.Heard.{given_of, reader_of}
use Rattle.ipmi_raw.specs.Streams.{IsEnded, IsNotEndedWithin}
use Rattle.ipmi_raw.proofs.streams.read_reply.Given as goal

abbrev pub invariant-loop : goal.invariant-loop
invariant-loop g l =
    (length l.reply.items ≡ l.counter) × (given_of l.reader ≡ given_of l.fn.reader ++ l.reply.items)
    × Consumes (g.R.Read.remaining (reader_of l.fn.reader)) (g.R.Read.remaining (reader_of l.reader)) l.reply.items
    × IsNotEndedWithin l.tool l.reply.items × (¬ IsEnded l.tool l.reply.items)
