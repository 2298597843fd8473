use Rattle.std.proofs.Common.{rules, Ok, ◌∙◌, ap, arith, refl}
use Rattle.ipmi_commands.specs.Below.{row_of_record}
use Rattle.ipmi_commands.specs.Output.{no_output}
use Rattle.ipmi_commands.specs.Prelude.{for_inventory, Form}
use Rattle.ipmi_commands.proofs.AskLemmas.{step_ends_listing}
use Rattle.ipmi_commands.proofs.CallLemmas.{len-next_ids}
use Rattle.ipmi_commands.proofs.KeptLemmas.{keeping_begun, keeping_more, keeps_done, keeps_ended, keeps_lost, kept_few}
use Rattle.ipmi_commands.proofs.kept.keep_after.Goals as goal

pub entries-init : goal.entries-init
entries-init g c = (search rules, refl, rw c.requires.none (omega arith), λ tries text are. keeping_begun (g.F.Format.texts c.args._format.now) _ _ tries _ _ text _ c.requires.none c.requires.shelf are c.requires.room)

pub returns-in-Ok-None-clause-asked : goal.returns-in-Ok-None-clause-asked
returns-in-Ok-None-clause-asked g c =
    let step = rw (c.in-Ok-None.is ∙ ap Ok c.in-Ok-None.field-0-is) at c.step.follows.holds-at-none in
    omega (arith, c.entries.invariant.0, (c.entries.invariant.3 (for_inventory c.args.cursor.now.tries) no_output refl).listed.called.keeps.part_falls, step.asked)

pub returns-in-Ok-None-clause-keeps : goal.returns-in-Ok-None-clause-keeps
returns-in-Ok-None-clause-keeps g c = λ tries text are.
    keeps_done (g.F.Format.texts c.args._format.now) (c.entries.invariant.3 tries text are) (rw (c.in-Ok-None.is ∙ ap Ok c.in-Ok-None.field-0-is) at c.step.follows.holds-at-none)

pub returns-in-Err-clause-asked : goal.returns-in-Err-clause-asked
returns-in-Err-clause-asked g c =
    let step = rw c.in-Err.is at c.step.follows.holds-at-none in
    omega (arith, c.entries.invariant.0, (c.entries.invariant.3 (for_inventory c.args.cursor.now.tries) no_output refl).listed.called.keeps.part_falls, step.asked)

pub returns-in-Err-clause-ends : goal.returns-in-Err-clause-ends
returns-in-Err-clause-ends g c =
    step_ends_listing Form.Skipped c.in-Err.ended (c.entries.invariant.3 (for_inventory c.args.cursor.now.tries) no_output refl).listed.shelf (rw c.in-Err.is at c.step.follows.holds-at-none)

pub returns-in-Err-clause-keeps : goal.returns-in-Err-clause-keeps
returns-in-Err-clause-keeps g c = λ tries text are.
    keeps_ended (g.F.Format.texts c.args._format.now) (c.entries.invariant.3 tries text are) c.in-Err.ended (rw c.in-Err.is at c.step.follows.holds-at-none)

pub keep-requires-clause-whole : goal.keep-requires-clause-whole
keep-requires-clause-whole g c = rw c.in-Ok-Some.field-0-is at (rw (c.entries.invariant.3 (for_inventory c.args.cursor.now.tries) no_output refl).listed.shelf at c.in-Ok-Some.ensures.whole)

pub returns-in-Err-keep-clause-asked : goal.returns-in-Err-keep-clause-asked
returns-in-Err-keep-clause-asked g c =
    let step = rw (c.in-Ok-Some.is ∙ ap Ok c.in-Ok-Some.field-0-is) at c.step.follows.holds-at-none in
    omega (arith, c.entries.invariant.0, (c.entries.invariant.3 (for_inventory c.args.cursor.now.tries) no_output refl).listed.called.keeps.part_falls, step.asked)

pub returns-in-Err-keep-clause-keeps : goal.returns-in-Err-keep-clause-keeps
returns-in-Err-keep-clause-keeps g c = λ tries text are.
    let step = rw (c.in-Ok-Some.is ∙ ap Ok c.in-Ok-Some.field-0-is) at c.step.follows.holds-at-none in
    keeps_lost (g.F.Format.texts c.args._format.now) (c.entries.invariant.3 tries text are) step _

pub entries-smaller : goal.entries-smaller
entries-smaller g c =
    let step = rw (c.in-Ok-Some.is ∙ ap Ok c.in-Ok-Some.field-0-is) at c.step.follows.holds-at-none in
    omega (arith, len-next_ids c.entries.cursor c.step.follows.lender-at-none (row_of_record c.in-Ok-Some.record) step.leaves.1, step.leaves.1.at_most)

pub entries-preserved : goal.entries-preserved
entries-preserved g c =
    let step = rw (c.in-Ok-Some.is ∙ ap Ok c.in-Ok-Some.field-0-is) at c.step.follows.holds-at-none in
    let most = c.entries.invariant.1 in
    let pushed = rw most at c.in-Ok.ensures.ok in (
      omega (arith, c.entries.invariant.0, (c.entries.invariant.3 (for_inventory c.args.cursor.now.tries) no_output refl).listed.called.keeps.part_falls, step.asked),
      c.keep.ensures.most ∙ most,
      rw pushed (kept_few c.args.selection.now _ c.entries.kept.entries.items (row_of_record c.in-Ok-Some.record) c.entries.invariant.2),
      λ tries text are. keeping_more (g.F.Format.texts c.args._format.now) (c.entries.invariant.3 tries text are) step _ pushed,
    )
