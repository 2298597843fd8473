-- The labels of a sensor, part by part.
use Rattle.std.proofs.Common.{◌≡◌, ◌∙◌, ℕ, List, [], ◌++◌, append_assoc, codes, decimal}
use Rattle.ipmi_records.specs.Prelude.{printed_name}
use Rattle.ipmi_records.specs.declared.sdr.SdrView.{SdrView}
use Rattle.ipmi_records.specs.declared.sensor.Sensor.{Sensor}
use Rattle.ipmi_metrics.specs.Labels.{escaped, name_labels, place_labels, type_label}

pub names_made : (id : ℕ) (view : SdrView) (none begun numbered before name text : List ℕ) → none ≡ []
    → begun ≡ none ++ codes "id=\"" → numbered ≡ begun ++ decimal id → before ≡ numbered ++ codes "\",name=\""
    → name ≡ before ++ escaped (printed_name view) → text ≡ name ++ codes "\""
    → text ≡ name_labels id view
names_made id view none begun numbered before name text none_is begun_is numbered_is before_is name_is text_is =
    text_is ∙ rw (name_is, before_is, numbered_is, begun_is, none_is) (simp append_assoc)

pub place_made : (sensor : Sensor) (old entity instance lun number quote text : List ℕ)
    → entity ≡ old ++ (codes ",entity_id=\"" ++ decimal sensor.entity.id)
    → instance ≡ entity ++ (codes "\",entity_instance=\"" ++ decimal sensor.entity.instance)
    → lun ≡ instance ++ (codes "\",lun=\"" ++ decimal sensor.lun)
    → number ≡ lun ++ (codes "\",number=\"" ++ decimal sensor.number)
    → quote ≡ number ++ codes "\"" → text ≡ quote ++ type_label sensor
    → text ≡ old ++ place_labels sensor
place_made sensor old entity instance lun number quote text entity_is instance_is lun_is number_is quote_is text_is =
    text_is ∙ rw (quote_is, number_is, lun_is, instance_is, entity_is) (simp append_assoc)
