use Rattle.std.proofs.Common.{◌≡◌, ℕ, ◌==◌, Bool, true, false, Option, List, ◌++◌, ap, arith, rules}
use Rattle.std.proofs.lemmas.Bool.Decides.{nat_tests}
use Rattle.std.proofs.lemmas.Result.{on_ok_weaker}
use Rattle.ipmi_text.specs.Appended.{Appends}
use Rattle.ipmi_events.specs.declared.event_data.EventData.{EventData}
use Rattle.ipmi_events.specs.Details.{AreDetails, IsDetails}
use Rattle.ipmi_events.specs.Discrete.{discrete_details}
use Rattle.ipmi_events.specs.EventData.{data_of}
use Rattle.ipmi_events.proofs.details.push_details.Goals as goal

discrete_appended : (event : List ℕ) (full : Option (List ℕ)) (told : EventData) (old new : List ℕ)
    → told ≡ data_of event → (told.event_type ≡ 1 → ⊥) → new ≡ old ++ discrete_details told
    → Appends (IsDetails event full) old new
discrete_appended event full told old new told_is other new_is =
    let same : told.event_type ≡ (data_of event).event_type = ap (λ (t : EventData). t.event_type) told_is in
    record {
      part = discrete_details told;
      is_text = by ((data_of event).event_type == 1) (grind (arith, nat_tests, other, same));
      text_is = new_is;
    }
  where
    by : (threshold : Bool) → threshold ≡ false
        → AreDetails threshold (data_of event) full (discrete_details told)
    by true e = absurd (grind (arith, e))
    by false e = ap discrete_details told_is

pub returns-then-data-eq-THRESHOLD_EVENT_TYPE : goal.returns-then-data-eq-THRESHOLD_EVENT_TYPE
returns-then-data-eq-THRESHOLD_EVENT_TYPE c = search rules

pub returns-else-data-eq-THRESHOLD_EVENT_TYPE : goal.returns-else-data-eq-THRESHOLD_EVENT_TYPE
returns-else-data-eq-THRESHOLD_EVENT_TYPE c = on_ok_weaker c.push_discrete_details.result
    (discrete_appended c.args.event.now _ _ _ _ c.data_of-data.ensures c.if-data-eq-THRESHOLD_EVENT_TYPE.false) c.push_discrete_details.ensures
