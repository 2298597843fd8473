use Rattle.std.proofs.Common.{Ok, Err, refl, ap, subst, arith, ◌∙◌}
use Rattle.ipmi_commands.specs.Below.{records_in}
use Rattle.ipmi_commands.specs.Prelude.{EndsListing, named_entries, Form, Listing}
use Rattle.ipmi_commands.proofs.AskLemmas.{passed}
use Rattle.ipmi_commands.proofs.NamedLemmas.{some_is}
use Rattle.ipmi_commands.proofs.NamedPages.{named_pages, no_pages, pages_failed}
use Rattle.ipmi_commands.proofs.named.list_named_pages.Goals as goal

pub returns-in_err-walked-clause-runs : goal.returns-in_err-walked-clause-runs
returns-in_err-walked-clause-runs g c =
    rw (passed _ _ c.from_residual.ensures.1) (pages_failed (g.F.Format.texts c.args.format.now) c.args.limits.tries _ _ _ c.args.selection _ _ _ _
    (rw (c.new-records.ensures.taken, c.new.ensures.items, c.new-counted.ensures) at c.in_err-walked.ensures.reads))

pub returns-in_err-of-clause-runs : goal.returns-in_err-of-clause-runs
returns-in_err-of-clause-runs g c =
    rw (passed _ _ c.from_residual-in_err-of.ensures.1) (named_pages (g.F.Format.texts c.args.format.now) c.args.limits.tries _ _ _ c.args.selection _ _ c.what_is_found_is_a_row.ensures c.records_are_found_again.ensures c.the_tail_is_a_walk.ensures _
    (rw (c.new-records.ensures.taken, c.new.ensures.items, c.new-counted.ensures) at c.in_ok-walked.ensures.reads) _ _ _ (Err _) (omega arith) tt (λ h. no_pages (g.F.Format.texts c.args.format.now) _ _ _ _ _ _ h))

pub returns-in_err-list_pages-clause-runs : goal.returns-in_err-list_pages-clause-runs
returns-in_err-list_pages-clause-runs g c =
    let kept = some_is _ _ (c.into_inner.ensures.bytes (λ w. refl)) in
    let pages = c.in_err-list_pages.ensures in
    let form_is = ap (λ (l : Listing). l.form) c.new-listing.ensures.value ∙ ap Form.Entry (c.named-entries.ensures ∙ ap (named_entries c.args.selection) (c.in_ok-of.ensures ∙ ap records_in kept)) in
    rw (passed _ _ c.from_residual-in_err-list_pages.ensures.1) (named_pages (g.F.Format.texts c.args.format.now) c.args.limits.tries _ _ _ c.args.selection _ _ c.what_is_found_is_a_row.ensures c.records_are_found_again.ensures c.the_tail_is_a_walk.ensures _
    (rw (c.new-records.ensures.taken, c.new.ensures.items, c.new-counted.ensures) at c.in_ok-walked.ensures.reads) _ _ _ (Err _)
    (rw c.new-listing.ensures.value at pages.calls) (subst (λ (f : Form). EndsListing f (g.C.Controller.seen c.list_pages.new.ctl) (Err c.in_err-list_pages.field-0.0)) form_is pages.ends) (rw (c.new-listing.ensures.value, c.named-entries.ensures, c.in_ok-of.ensures, kept) at pages.honest))

pub returns-clause-runs : goal.returns-clause-runs
returns-clause-runs g c =
    let kept = some_is _ _ (c.into_inner.ensures.bytes (λ w. refl)) in
    let pages = c.in_ok-list_pages.ensures in
    rw c.end.ensures (named_pages (g.F.Format.texts c.args.format.now) c.args.limits.tries _ _ _ c.args.selection _ _ c.what_is_found_is_a_row.ensures c.records_are_found_again.ensures c.the_tail_is_a_walk.ensures _
    (rw (c.new-records.ensures.taken, c.new.ensures.items, c.new-counted.ensures) at c.in_ok-walked.ensures.reads) _ _ _ (Ok _)
    (rw c.new-listing.ensures.value at pages.calls) tt (rw (c.new-listing.ensures.value, c.named-entries.ensures, c.in_ok-of.ensures, kept) at pages.honest))
