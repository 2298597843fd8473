use Rattle.std.proofs.Common.{◌++◌, refl, [], append_assoc, append-nil}
use Rattle.ipmi_fru.proofs.record_text.push_records.Goals as goal

pub records-preserved : goal.records-preserved
records-preserved c more texts =
    let item = c.in_ok-push_item.ensures in
    rw (item.text_is, append_assoc) (c.records.invariant (item.part ++ more) (rw c.in-Some.ensures.steps (item.part, more, (item.is_text, (texts, refl)))))

pub returns : goal.returns
returns c = rw append-nil at (c.records.invariant [] (rw c.in-None.ensures.steps.0 refl))
