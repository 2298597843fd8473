use Rattle.std.proofs.Common.{◌≡◌, inl, inr, refl, rules, ◌+◌, ◌++◌, List, ℕ, Bool, cond, Err, Ok, ◌∙◌, ap, sym, arith}
use Rattle.ipmi_commands.specs.Below.{Failure, row_of_record, IsStateOf}
use Rattle.ipmi_commands.specs.Prelude.{IsPieceOver, printed}
use Rattle.ipmi_commands.proofs.AskLemmas.{end_ends, reaches_end, step_ends_listing, unread_ends, unread_reaches}
use Rattle.ipmi_commands.proofs.CallLemmas.{at_limit, len-next_ids}
use Rattle.ipmi_commands.proofs.ItemLemmas.{none_printed}
use Rattle.ipmi_commands.proofs.LimitLemmas.{counts_as, number_of, within_nil}
use Rattle.ipmi_commands.proofs.ListingLemmas.{listing_cut, listing_done, listing_ended, listing_full, listing_more, listing_none}
use Rattle.ipmi_commands.proofs.OutputLemmas.{counted_more}
use Rattle.ipmi_commands.proofs.TraceLemmas.{traced_none}
use Rattle.ipmi_commands.proofs.WholeLemmas.{writes_more, writes_none, writes_whole}
use Rattle.ipmi_commands.proofs.PartLemmas.{end_spares}
use Rattle.ipmi_commands.proofs.listing.list_records.Goals as goal

pub returns-then-is_reached-clause-lists : goal.returns-then-is_reached-clause-lists
returns-then-is_reached-clause-lists g c = rw c.end.ensures (listing_full (g.F.Format.texts c.args.format.now) c.records.invariant.2 (sym c.is_reached.ensures ∙ c.if-is_reached.true))

pub returns-in-Ok-None-clause-lists : goal.returns-in-Ok-None-clause-lists
returns-in-Ok-None-clause-lists g c =
    rw c.end-in-Ok-None.ensures (listing_done (g.F.Format.texts c.args.format.now) c.records.invariant.2 (sym c.is_reached.ensures ∙ c.if-is_reached.false)
    (rw (c.in-Ok-None.is ∙ ap Ok c.in-Ok-None.field-0-is) at c.step.follows.holds-at-none))

pub returns-in-Err-clause-ends : goal.returns-in-Err-clause-ends
returns-in-Err-clause-ends g c =
    step_ends_listing c.args.form.now c.in-Err.ended c.records.invariant.2.shelf (rw c.in-Err.is at c.step.follows.holds-at-none)

pub returns-in-Err-row_text-clause-ends : goal.returns-in-Err-row_text-clause-ends
returns-in-Err-row_text-clause-ends g c =
    rw c.from-in-Err-row_text.ensures (unread_ends c.args.form.now c.in-Err-row_text.unread _ c.in-Err-row_text.ensures.says)

pub returns-in-Err-clause-lists : goal.returns-in-Err-clause-lists
returns-in-Err-clause-lists g c =
    listing_ended (g.F.Format.texts c.args.format.now) c.records.invariant.2 (sym c.is_reached.ensures ∙ c.if-is_reached.false) c.in-Err.ended
    (rw c.in-Err.is at c.step.follows.holds-at-none)

pub returns-in-Err-row_text-clause-lists : goal.returns-in-Err-row_text-clause-lists
returns-in-Err-row_text-clause-lists g c =
    let step = rw (c.in-Ok-Some.is ∙ ap Ok c.in-Ok-Some.field-0-is) at c.step.follows.holds-at-none in
    rw c.from-in-Err-row_text.ensures (listing_none (g.F.Format.texts c.args.format.now) c.records.invariant.2 (sym c.is_reached.ensures ∙ c.if-is_reached.false) step c.row_text.ensures.calls
    c.in-Err-row_text.unread c.in-Err-row_text.ensures.honest)

pub returns-in-Err-write_all-clause-lists : goal.returns-in-Err-write_all-clause-lists
returns-in-Err-write_all-clause-lists g c =
    let step = rw (c.in-Ok-Some.is ∙ ap Ok c.in-Ok-Some.field-0-is) at c.step.follows.holds-at-none in
    listing_cut (g.F.Format.texts c.args.format.now) c.records.invariant.2 (sym c.is_reached.ensures ∙ c.if-is_reached.false) step c.row_text.ensures.calls
    _ _ c.in-Ok.ensures.honest _ (rw c.bytes-bytes.ensures at c.in-Err-write_all.ensures.some)
    (record { part = rw c.bytes-bytes.ensures at c.in-Err-write_all.ensures.err.0; pieces = refl; faults = refl })

pub records-smaller : goal.records-smaller
records-smaller g c =
    let step = rw (c.in-Ok-Some.is ∙ ap Ok c.in-Ok-Some.field-0-is) at c.step.follows.holds-at-none in
    omega (arith, len-next_ids c.records.cursor c.step.follows.lender-at-none (row_of_record c.in-Ok-Some.record) step.leaves.1, step.leaves.1.at_most)

pub records-preserved : goal.records-preserved
records-preserved g c =
    let step = rw (c.in-Ok-Some.is ∙ ap Ok c.in-Ok-Some.field-0-is) at c.step.follows.holds-at-none in
    let wrote = c.in-Ok-write_all.ensures.ok in
    let one : c.from.result ≡ counts_as c.args.form.now (row_of_record c.in-Ok-Some.record) = c.from.ensures ∙ number_of c.counts.result ∙ ap (λ (b : Bool). cond b 1 0) c.counts.ensures in (
      wrote.1 ∙ c.records.invariant.0,
      omega (arith, c.records.invariant.1, c.requires.part, c.records.invariant.2.called.keeps.part_falls, step.asked, c.row_text.ensures.asked),
      rw (one, c.is_empty.ensures, c.bytes-bytes.ensures) (listing_more (g.F.Format.texts c.args.format.now) c.records.invariant.2 (sym c.is_reached.ensures ∙ c.if-is_reached.false) step c.row_text.ensures.calls
          _ _ c.in-Ok.ensures.honest _ (counted_more _ _ _ _ _ _ _ _ (wrote.0 ∙ ap (λ (l : List ℕ). g.O.Sink.taken c.records.out ++ l) c.bytes-bytes.ensures)
          (rw c.bytes-bytes.ensures at c.add.ensures.pieces) (rw (c.bytes-bytes.ensures, c.has_fault.ensures) at c.add.ensures.faults))),
      rw one (writes_more (g.F.Format.texts c.args.format.now) c.args.form.now c.records.count _ _ _ _ (row_of_record c.in-Ok-Some.record) _ _ c.records.invariant.3 (search rules) c.in-Ok.ensures.shows c.bytes-bytes.ensures wrote.0),
    )

pub returns-then-is_reached-clause-ends : goal.returns-then-is_reached-clause-ends
returns-then-is_reached-clause-ends g c = rw c.end.ensures (end_ends c.args.form.now c.records.wrote c.records.count _)

pub returns-in-Ok-None-clause-ends : goal.returns-in-Ok-None-clause-ends
returns-in-Ok-None-clause-ends g c = rw c.end-in-Ok-None.ensures (end_ends c.args.form.now c.records.wrote c.records.count _)

pub records-init : goal.records-init
records-init g c = (
  refl,
  search rules,
  record {
    shelf = search rules;
    tries_are = search rules;
    size = 0;
    called = search rules;
    fewer = omega arith;
    within = search rules;
    has_written = search rules;
    went = λ h. record {
      ends = search rules;
      holds = search rules;
      along = λ same start walk end k on. record {
        along = record {
          stands = let here : k ≡ k + 0 = omega arith in rw here at on.stands;
          calls = omega arith;
          within = within_nil c.args.form.now c.args.most;
          count_is = refl;
        };
        are_printed = none_printed (IsPieceOver (g.F.Format.texts c.args.format.now) (g.C.Controller.seen c.args.ctl.now).store) _ _ refl;
      };
      tracing = traced_none (g.F.Format.texts c.args.format.now) c.args.form.now c.args.most c.args.cursor.now (g.C.Controller.seen c.args.ctl.now) (printed (g.O.Sink.taken c.args.out.now) c.args.summary.now) h;
    };
  },
  writes_none c.args.form.now (g.O.Sink.taken c.args.out.now),
)

pub returns-then-is_reached-clause-reaches : goal.returns-then-is_reached-clause-reaches
returns-then-is_reached-clause-reaches g c =
    rw c.end.ensures (reaches_end c.args.form.now c.records.wrote c.records.count c.args.most c.records.cursor (inl (at_limit c.args.most c.records.count (sym c.is_reached.ensures ∙ c.if-is_reached.true))))

pub returns-in-Ok-None-clause-reaches : goal.returns-in-Ok-None-clause-reaches
returns-in-Ok-None-clause-reaches g c =
    let step = rw (c.in-Ok-None.is ∙ ap Ok c.in-Ok-None.field-0-is) at c.step.follows.holds-at-none in
    rw c.end-in-Ok-None.ensures (reaches_end c.args.form.now c.records.wrote c.records.count c.args.most c.step.follows.lender-at-none (inr step.leaves.1.place))

pub returns-in-Err-row_text-clause-reaches : goal.returns-in-Err-row_text-clause-reaches
returns-in-Err-row_text-clause-reaches g c = rw c.from-in-Err-row_text.ensures (unread_reaches c.in-Err-row_text.unread c.args.most c.step.follows.lender-at-none)

pub returns-in-Err-clause-reaches : goal.returns-in-Err-clause-reaches
returns-in-Err-clause-reaches g c = tt

pub returns-then-is_reached-clause-whole : goal.returns-then-is_reached-clause-whole
returns-then-is_reached-clause-whole g c = writes_whole c.args.form.now c.records.count _ _ _ c.records.invariant.2.called c.records.invariant.2.fewer c.records.invariant.3

pub returns-in-Ok-None-clause-whole : goal.returns-in-Ok-None-clause-whole
returns-in-Ok-None-clause-whole g c = writes_whole c.args.form.now c.records.count _ _ _ c.records.invariant.2.called c.records.invariant.2.fewer c.records.invariant.3

pub returns-in-Err-clause-whole : goal.returns-in-Err-clause-whole
returns-in-Err-clause-whole g c = writes_whole c.args.form.now c.records.count _ _ (Err (Failure.Ended c.in-Err.ended)) c.records.invariant.2.called c.records.invariant.2.fewer c.records.invariant.3

pub returns-in-Err-row_text-clause-whole : goal.returns-in-Err-row_text-clause-whole
returns-in-Err-row_text-clause-whole g c = writes_whole c.args.form.now c.records.count _ _ (Err c.from-in-Err-row_text.result) c.records.invariant.2.called c.records.invariant.2.fewer c.records.invariant.3

pub returns-then-is_reached-clause-parts : goal.returns-then-is_reached-clause-parts
returns-then-is_reached-clause-parts g c = λ h. rw c.end.ensures (end_spares c.args.limits.tries (IsStateOf g.C.Controller.seen) _ c.args.form.now c.records.wrote c.records.count)

pub returns-in-Ok-None-clause-parts : goal.returns-in-Ok-None-clause-parts
returns-in-Ok-None-clause-parts g c = λ h. rw c.end-in-Ok-None.ensures (end_spares c.args.limits.tries (IsStateOf g.C.Controller.seen) _ c.args.form.now c.records.wrote c.records.count)

pub returns-in-Err-row_text-clause-parts : goal.returns-in-Err-row_text-clause-parts
returns-in-Err-row_text-clause-parts g c = λ h.
    let step = rw (c.in-Ok-Some.is ∙ ap Ok c.in-Ok-Some.field-0-is) at c.step.follows.holds-at-none in
    let before = (c.records.invariant.2.went h).ends.stays.honest in
    rw c.from-in-Err-row_text.ensures (c.in-Err-row_text.ensures.parts (step.honest before).stays.honest)
