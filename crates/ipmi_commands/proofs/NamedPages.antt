-- All entries in pages, after the walk that reads the names of their sensors.
use Rattle.std.proofs.Common.{inl, ℕ, ◌+◌, ◌*◌, ◌≤◌, IsTrue, Option, None, Some, Ok, Err, List, [], ◌∷◌, refl, sym, arith}
use Rattle.ipmi_commands.specs.Below.{Count, Ending, Failure, FoundIsRow, IsHonest, Place, records_in, Seen, start_of, TailIsWalk}
use Rattle.ipmi_commands.specs.Named.{ending_then, ReadsRecords}
use Rattle.ipmi_commands.specs.declared.named.RecordsEnd.{RecordsEnd}
use Rattle.ipmi_commands.specs.Prelude.{IsPieceOver, ArePages, bytes_of_rows, cause_of, change, ending_of, EndsListing, named_entries, entries_with, Form, listing, listing_plan, most_on_walk, NameLookup, pages_made, RunsNamedInPages}
use Rattle.ipmi_selection.specs.Selection.{SelectedEntries}
use Rattle.ipmi_commands.specs.Output.{no_output, Output}
use Rattle.ipmi_commands.specs.declared.limits.Tries.{Tries}
use Rattle.ipmi_commands.proofs.CountLemmas.{between, ends_since}
use Rattle.ipmi_commands.proofs.NamedLemmas.{entries_end, failed_ends, failed_for, read_records, RecordsAreFound, stop_by, then_allowed, then_ends, then_for, walked_at_end, walked_end}
use Rattle.ipmi_commands.proofs.PageLemmas.{page_without_memory}
use Rattle.ipmi_commands.proofs.PagesLaw.{OneListing, pages_are_one}
use Rattle.ipmi_commands.specs.Format.{Texts}

-- there is no memory for the table of the sensors, as if there were none for the first page
pub no_pages : (x : Texts) → (form : Form) (start : Place) (tries : Tries) (sizes : List ℕ) (s : Seen) (text : Output)
    → IsHonest s → ArePages x form tries start sizes (change s s text text) (Err Failure.OutOfMemory)
no_pages x form start tries [] s text h =
    (Err Failure.OutOfMemory, refl, page_without_memory x form start tries None s text h)
no_pages x form start tries (size ∷ sizes) s text h =
    inl (Failure.OutOfMemory, refl, page_without_memory x form start tries (Some size) s text h)

module _ (x : Texts) (tries : Tries) (s s' : Seen) (kept : Output) (detail : SelectedEntries) (from : Option ℕ)
    (sizes : List ℕ) where
  -- the walk of the records ended the run before an entry was asked for
  pub pages_failed : (text : Output) (failure : Failure)
      → ReadsRecords x tries (change s s' no_output kept) (Err failure)
      → RunsNamedInPages x detail from tries sizes (change s s' text text) (Err failure)
  pages_failed text failure reads = record {
    calls = omega (arith, reads.calls);
    ends = failed_ends x tries s s' kept (NameLookup.Events detail Count.All from) reads.calls (NameLookup.Events detail Count.All from) reads.listed failure (sym reads.is) reads.ends;
    why = λ h. failed_for x tries s s' kept (NameLookup.Events detail Count.All from) reads.calls (IsTrue s.plain) reads.listed failure (sym reads.is) (reads.page h).ends;
    pages = λ h. record { now = s'; kept = kept; walked = Err failure; reads = reads; pages = (refl, refl, refl) };
    prints = λ h same records end w ends_ walk end' w' ends' open_.
        let along = (reads.page h).along same records end w ends_ in
        let plan = listing_plan (listing (entries_with detail (bytes_of_rows records)) (start_of from) None) walk end' in (
          stop_by (IsPieceOver x s.store) (IsPieceOver x s.store) records end plan kept text reads.listed failure (sym reads.is) (cause_of (ending_of reads.listed)) refl along.leaves,
          omega (arith, along.calls),
        );
  }

  -- the pages came after the walk of the records
  pub named_pages : FoundIsRow → RecordsAreFound → TailIsWalk → (walked : RecordsEnd)
      → ReadsRecords x tries (change s s' no_output kept) (Ok walked)
      → (s'' : Seen) (old new : Output) (ending : Ending)
      → s''.calls ≤ s'.calls + pages_made sizes * most_on_walk (entries_with detail (records_in kept.bytes)) tries
      → EndsListing (entries_with detail (records_in kept.bytes)) s'' ending
      → (IsHonest s' → ArePages x (entries_with detail (records_in kept.bytes)) tries (start_of from) sizes (change s' s'' old new) ending)
      → RunsNamedInPages x detail from tries sizes (change s s'' old new) (ending_then ending walked)
  named_pages look_row split tail walked reads s'' old new ending calls ends pages =
      let form = entries_with detail (records_in kept.bytes) in
      let at_end = walked_at_end reads.listed walked (sym reads.is) in
      let one : IsHonest s' → OneListing x form (start_of from) tries sizes (change s' s'' old new) ending = λ h. pages_are_one x tail form tries (start_of from) sizes s' s'' old new ending tt h (pages h) in
      record {
        calls = omega (arith, reads.calls, calls);
        ends = then_ends detail Count.All from s'' ending walked (entries_end detail (named_entries detail (records_in kept.bytes)) Count.All from s'' ending ends);
        why = λ h.
            let ends_ = rw at_end at (reads.page h).ends in
            rw (then_for ending walked) (ends_since ends_ ends_.stays.plain (one ends_.stays.honest).ends);
        pages = λ h. record { now = s'; kept = kept; walked = Ok walked; reads = reads; pages = (ending, refl, pages (reads.page h).ends.stays.honest) };
        prints = λ h same.
            let page = reads.page h in
            let ends_ = rw at_end at page.ends in
            let later = one ends_.stays.honest in
            let since = between s s' s'' ends_.stays later.ends.stays same in
            let printed = rw (ends_.stays.store.stays since.0) at (later.along since.1) in
            λ records end w ends__.
            let along = page.along since.0 records end w ends__ in
            let all = rw at_end at along.leaves in
            let on = rw (read_records look_row split (IsPieceOver x s.store) (λ row text is. is.is_text) s.store records kept h.store w.of_shelf all.0) at printed in
            λ walk end' w' ends' open_.
            let both = on walk end' w' ends' open_ in
            let plan = listing_plan (listing (entries_with detail (bytes_of_rows records)) (start_of from) None) walk end' in (
              then_allowed (IsPieceOver x s.store) records end plan old new ending walked (walked_end records end reads.listed walked (sym reads.is) all.1) both.0,
              omega (arith, both.1, along.calls),
            );
      }
