use Rattle.std.proofs.Common.{◌∙◌, [], ◌∷◌, ◌++◌, ap, append-nil, refl, sym}
use Rattle.ipmi_fru.specs.Prelude.{items_left, record_of}
use Rattle.ipmi_json.specs.Multirecords.{fault_among}
use Rattle.ipmi_json.proofs.MemberLemmas.{items_joined}
use Rattle.ipmi_json.proofs.MultirecordLemmas.{object_step}
use Rattle.ipmi_json.proofs.multirecords.tell_objects.Goals as goal

pub records-preserved-in-Continue-1 : goal.records-preserved-in-Continue-1
records-preserved-in-Continue-1 g c =
    let now = c.records.invariant in
    let v = c.in_ok-tell_item-in-Ok.ensures in
    let j = v.are.value in
    let steps = rw c.in-Ok.is at c.in-Some.ensures.steps in (
      now.0 ++ j ∷ [],
      object_step (items_left c.args.records) (items_left c.records.item-iterator) (items_left c.next.new.self) (record_of c.in-Ok.view) now.0 j steps v.are.is_value now.1,
      items_joined now.2 (rw v.are.are at v.tells),
      sym (ap (λ items. fault_among c.records.end items) steps) ∙ now.3,
    )

pub returns-clause-objects : goal.returns-clause-objects
returns-clause-objects g c =
    let now = c.records.invariant in
    record { items = now.0; are = rw append-nil at (now.1 [] (rw c.in-None.ensures.steps.0 refl)); tells = now.2 }
