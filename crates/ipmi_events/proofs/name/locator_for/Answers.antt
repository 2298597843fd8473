use Rattle.std.proofs.Common.{◌∙◌}
use Rattle.ipmi_events.proofs.NameLemmas.{locator_for-none, locator_is_first, locator_is_later}
use Rattle.ipmi_events.proofs.name.locator_for.Goals as goal

pub returns-in-Some-locator_in : goal.returns-in-Some-locator_in
returns-in-Some-locator_in c =
    locator_is_first c.args.id c.records.rest.now c.in-Some.bytes.now c.in-Some.after.now c.in-Some.ensures.0 c.in-Some-locator_in.locator c.in-Some-locator_in.ensures
    ∙ c.records.invariant

pub records-preserved : goal.records-preserved
records-preserved c =
    locator_is_later c.args.id c.records.rest.now c.in-Some.bytes.now c.in-Some.after.now c.in-Some.ensures.0 c.in_default-locator_in.ensures
    ∙ c.records.invariant

pub returns : goal.returns
returns c = locator_for-none c.args.id c.records.rest.now c.in_default.ensures ∙ c.records.invariant
