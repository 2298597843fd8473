-- What is told of multirecords: how deep it is nested, and the loop over records.
use Rattle.std.proofs.Common.{◌≡◌, List, [], ◌∷◌, ◌++◌, Result, Ok, append_assoc, arith, refl}
use Rattle.json.specs.Json.{Json}
use Rattle.ipmi_fru.specs.Prelude.{MultiRecord, form_of}
use Rattle.ipmi_fru.specs.declared.multirecord.MultiFault.{MultiFault}
use Rattle.ipmi_fru.specs.declared.record_text.DcKind.{DcKind}
use Rattle.ipmi_fru.specs.declared.record_text.RecordForm.{RecordForm}
use Rattle.ipmi_json.specs.Multirecords.{AreFormMembers, AreObjects, IsRecordObject, record_type_name, records_among}
use Rattle.ipmi_json.specs.Object.{AreWithin, Pair}
use Rattle.ipmi_json.specs.Record.{raw_members}
use Rattle.ipmi_json.proofs.AreaLemmas.{depth-text_or_null}
use Rattle.ipmi_json.proofs.ObjectLemmas.{within_joined}

within_form : (form : RecordForm) (r : MultiRecord) (ms : List Pair) → AreFormMembers form r ms → AreWithin 1 ms
within_form (RecordForm.Dc DcKind.Output) r ms h =
    rw (h.are, h.are_ranges.are) (let name = depth-text_or_null (record_type_name r.kind) in omega (arith, name))
within_form (RecordForm.Dc DcKind.Load) r ms h =
    rw (h.are, h.are_ranges.are) (let name = depth-text_or_null (record_type_name r.kind) in omega (arith, name))
within_form RecordForm.Access r ms h = rw h (let name = depth-text_or_null (record_type_name r.kind) in omega (arith, name))
within_form RecordForm.Other r ms h = rw h (let name = depth-text_or_null (record_type_name r.kind) in omega (arith, name))

pub within_record : (r : MultiRecord) (told : List Pair) → AreFormMembers (form_of r) r told
    → AreWithin 1 (told ++ raw_members r.bytes)
within_record r told h = within_joined 1 told (raw_members r.bytes) (within_form (form_of r) r told h) (omega arith)

pub object_step : (all now next : List (Result MultiRecord MultiFault)) (r : MultiRecord) (done : List Json)
    (j : Json) → now ≡ Ok r ∷ next → IsRecordObject r j
    → ((more : List Json) → AreObjects (records_among now) more → AreObjects (records_among all) (done ++ more))
    → (more : List Json) → AreObjects (records_among next) more
    → AreObjects (records_among all) ((done ++ j ∷ []) ++ more)
object_step all now next r done j steps is so_far more are =
    rw append_assoc (so_far (j ∷ more) (rw steps (j, more, (is, (are, refl)))))
