-- Where each part of an inventory has tries: the endings of a run that give up no inventory.
use Rattle.std.proofs.Common.{◌≡◌, false, ℕ, Bool, Option, Result, Err, List, arith}
use Rattle.ipmi_commands.specs.Below.{Count, Ending, Failure, FruEnded, Place, Seen}
use Rattle.ipmi_commands.specs.Named.{end_after, listed_end, walk_of}
use Rattle.ipmi_commands.specs.declared.named.RecordsEnd.{RecordsEnd}
use Rattle.ipmi_commands.specs.Run.{EndsInfo}
use Rattle.ipmi_commands.specs.Output.{Output}
use Rattle.ipmi_commands.specs.Prelude.{Change, end_of, ending_of, EndsListing, EndsNamed, EntryText, entries_job, Form, keeping_last, MayEnd, NameLookup, RetriesParts, RunsNamedInPages, Tries, WritesPiece}
use Rattle.ipmi_selection.specs.Selection.{SelectedEntries}
use Rattle.ipmi_commands.specs.Format.{Texts}

module _ (tries : Tries) (S : Seen → Type 0) (seen : Seen) where
  -- a listing in a form other than that of devices
  pub listing_spares : (form : Form) (ending : Ending) → (form ≡ Form.Device → ⊥)
      → EndsListing form seen ending → RetriesParts tries S seen ending
  listing_spares form (Err (Failure.Inventory id FruEnded.GaveUp)) other ends = absurd (other ends.0)
  listing_spares form ending other ends = grind arith

  pub bytes_spare : (ending : Ending) → EndsListing Form.Bytes seen ending → RetriesParts tries S seen ending
  bytes_spare ending ends = listing_spares Form.Bytes ending (λ is. cc is) ends

  pub entries_spare : (entries : EntryText) (ending : Ending) → EndsListing (Form.Entry entries) seen ending
      → RetriesParts tries S seen ending
  entries_spare entries ending ends = listing_spares (Form.Entry entries) ending (λ is. cc is) ends

  -- entries with names
  pub events_spare : (detail : SelectedEntries) (count : Count) (from : Option ℕ) (ending : Ending)
      → EndsNamed (NameLookup.Events detail count from) seen ending → RetriesParts tries S seen ending
  events_spare detail count from (Err (Failure.Inventory id FruEnded.GaveUp)) ends = absurd (cc ends.0)
  events_spare detail count from ending ends = grind arith

  -- the end of a listing itself
  pub end_spares : {T : Type 0} (form : Form) (wrote : Bool) (value : T) → RetriesParts tries S seen (ending_of (end_of form wrote value))
  end_spares (Form.Block name) false value = tt
  end_spares form wrote value = grind arith

  -- an info
  pub info_spares : (ending : Ending) → EndsInfo seen ending → RetriesParts tries S seen ending
  info_spares (Err (Failure.Inventory id FruEnded.GaveUp)) ends = absurd ends
  info_spares ending ends = grind arith

  -- a text that was written
  pub written_spares : (text old new : Output) (ending : Ending) → WritesPiece text old new ending → RetriesParts tries S seen ending
  written_spares text old new (Err (Failure.Inventory id FruEnded.GaveUp)) writes = absurd writes
  written_spares text old new ending writes = grind arith

  -- the walk of the records that have names, which failed
  pub walk_spares : (listed : Result Place Failure) (failure : Failure) → EndsListing Form.Bytes seen (ending_of listed)
      → walk_of listed ≡ Err failure → RetriesParts tries S seen (Err failure)
  walk_spares (Err (Failure.Inventory id ended)) failure ends is = absurd (cc ends.0)
  walk_spares listed failure ends is = grind arith

  -- and the ends that are told of it
  pub after_spares : (walked : RecordsEnd) → RetriesParts tries S seen (end_after walked)
  after_spares RecordsEnd.Whole = tt
  after_spares (RecordsEnd.Cycle n) = tt
  after_spares (RecordsEnd.Missing n) = tt

  pub listed_spares : (walked : RecordsEnd) → RetriesParts tries S seen (listed_end walked)
  listed_spares RecordsEnd.Whole = tt
  listed_spares (RecordsEnd.Cycle n) = tt
  listed_spares (RecordsEnd.Missing n) = tt

-- entries, of which the last ones are kept
pub job_spares : (x : Texts) → (tries : Tries) (S : Seen → Type 0) (entries : EntryText) (count : Count) (from : Option ℕ) (c : Change) (ending : Ending)
    → MayEnd x (keeping_last (entries_job entries count from)) c ending → RetriesParts tries S c.seen' ending
job_spares x tries S entries Count.All from c ending ends = entries_spare tries S c.seen' entries ending ends
job_spares x tries S entries (Count.First n) from c ending ends = entries_spare tries S c.seen' entries ending ends
job_spares x tries S entries (Count.Last n) from c ending ends = entries_spare tries S c.seen' entries ending ends
job_spares x tries S entries (Count.Tail n) from c ending ends = entries_spare tries S c.seen' entries ending ends

-- entries with names in pages
pub pages_spare : (x : Texts) → {detail : SelectedEntries} {from : Option ℕ} {sizes : List ℕ} {c : Change} {ending : Ending} (tries : Tries) (S : Seen → Type 0)
    → RunsNamedInPages x detail from tries sizes c ending → RetriesParts tries S c.seen' ending
pages_spare x {detail = detail} {from = from} {c = c} {ending = ending} tries S runs = events_spare tries S c.seen' detail Count.All from ending runs.ends
