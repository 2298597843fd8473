use Rattle.std.proofs.Common.{◌≡◌, ◌-◌, ℕ, List, length, take, drop, arith, sym, take_all}
use Rattle.std.proofs.lemmas.List.{length-drop}
use Rattle.ipmi_events.proofs.IndexLemmas.{index_all, index_more}
use Rattle.ipmi_events.proofs.sensors.places_of.Goals as goal

-- the slice from a place to the end
from_place : (place : ℕ) (bytes : List ℕ) → take (length bytes - place) (drop place bytes) ≡ drop place bytes
from_place place bytes = take_all (length bytes - place) (drop place bytes) (omega (arith, length-drop place bytes))

pub records-preserved : goal.records-preserved
records-preserved c =
    let is = rw (from_place c.records.place c.args.records.now) at c.in-Some.ensures in
    index_more c.records.place c.args.records.now c.in-Some.bytes.now c.records.places c.note_record.new.places c.records.invariant (sym is) c.in_ok-note_record.ensures

pub returns : goal.returns
returns c =
    let is = rw (from_place c.records.place c.args.records.now) at c.in_default.ensures in
    index_all c.records.place c.args.records.now c.records.places c.records.invariant (sym is)
