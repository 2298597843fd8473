-- The keys of each object are object keys.
use Rattle.std.proofs.Common.{◌∙◌, ◌++◌, ℕ, Option, None, Some, List, refl}
use Rattle.std.proofs.lemmas.List.Folds.{list_all-append}
use Rattle.ipmi_records.specs.declared.column.KnownReading.{KnownReading}
use Rattle.ipmi_fru.specs.Prelude.{header_fault}
use Rattle.ipmi_fru.specs.declared.header.FruFault.{FruFault}
use Rattle.ipmi_records.specs.Prelude.{entry_bytes, name_of, record_bytes}
use Rattle.ipmi_records.specs.declared.sdr.SdrView.{SdrView}
use Rattle.ipmi_records.specs.declared.sel.SelView.{SelView}
use Rattle.ipmi_json.specs.declared.object.Label.{Label}
use Rattle.ipmi_json.specs.Fru.{AreContentMembers, AreFruMembers, AreMembersByFault, bytes_members, elsewhere_members}
use Rattle.ipmi_json.specs.Info.{end_members}
use Rattle.ipmi_json.specs.Keys.{HaveObjectKeys, IsLineOfObjectKeys, is_object_key}
use Rattle.ipmi_json.specs.Laws.{ForEachLine}
use Rattle.ipmi_json.specs.Object.{IsLineOf, Pair}
use Rattle.ipmi_json.specs.Record.{raw_members}
use Rattle.ipmi_json.specs.Sdr.{AreTold, IsSdrLine, fault_members, name_members}
use Rattle.ipmi_json.specs.Sdr as sdr
use Rattle.ipmi_json.specs.Sel.{IsSelLine}
use Rattle.ipmi_json.specs.Sel as sel

keys-append : (ms more : List Pair) → HaveObjectKeys ms → HaveObjectKeys more → HaveObjectKeys (ms ++ more)
keys-append ms more h k = list_all-append (λ (m : Pair). is_object_key m.0) ms more ∙ rw (h, k) refl

-- ---- records

name_keys : (name : Option (List ℕ)) → HaveObjectKeys (name_members name)
name_keys None = refl
name_keys (Some name) = refl

record_keys : (view : SdrView) (reading : KnownReading) (ms : List Pair) → AreTold view reading ms → HaveObjectKeys ms
record_keys (SdrView.Full bytes) reading ms h = rw (h.are, h.are_value.are, h.are_thresholds.are) refl
record_keys (SdrView.Compact bytes) reading ms h = rw (h.are, h.are_value.are) refl
record_keys (SdrView.EventOnly bytes) reading ms h = rw h refl
record_keys (SdrView.Generic bytes) reading ms h = rw h refl
record_keys (SdrView.Fru bytes) reading ms h = rw h refl
record_keys (SdrView.Controller bytes) reading ms h = rw h refl
record_keys (SdrView.Other bytes) reading ms h = rw h refl

-- ---- entries

entry_keys : (view : SelView) (records : Option (List (List ℕ))) (ms : List Pair) → sel.AreTold view records ms
    → HaveObjectKeys ms
entry_keys (SelView.Event bytes) records ms h = rw (h.are, h.are_details.1.1) refl
entry_keys (SelView.OemTimed bytes) records ms h = rw h.are refl
entry_keys (SelView.OemPlain bytes) records ms h = rw h refl
entry_keys (SelView.Other bytes) records ms h = rw h refl

-- ---- inventories

content_keys : (bytes : List ℕ) (ms : List Pair) → AreContentMembers bytes ms → HaveObjectKeys ms
content_keys bytes ms h =
    rw (h.are, h.are_chassis.are_members.are, h.are_board.are_members.are, h.are_product.are_members.are, h.are_records.are) refl

keys_by_fault : (fault : Option FruFault) (id : ℕ) (name : Option (List ℕ)) (bytes : List ℕ) (ms : List Pair)
    → AreMembersByFault fault id name bytes ms → HaveObjectKeys ms
keys_by_fault None id name bytes ms h =
    rw h.are (keys-append h.content (bytes_members (Some bytes)) (content_keys bytes h.content h.are_content) refl)
keys_by_fault (Some fault) id name bytes ms h = rw h refl

device_keys : (id : ℕ) (name inventory : Option (List ℕ)) (ms : List Pair)
    → AreFruMembers id name inventory ms → HaveObjectKeys ms
device_keys id name None ms h = rw h refl
device_keys id name (Some bytes) ms h = keys_by_fault (header_fault bytes) id name bytes ms h

-- ---- each line

module _ (Holds : List Label → List ℕ → Type 0)
    (of_object : (ms : List Pair) (labels : List Label) (text : List ℕ) → HaveObjectKeys ms
    → IsLineOf ms labels text → Holds labels text) where
  of_record : (id : ℕ) (view : SdrView) (reading : KnownReading) (labels : List Label)
      (text : List ℕ) → IsSdrLine id view reading labels text → Holds labels text
  of_record id view reading labels text h =
      let told = h.are.told in
      let name = name_members (name_of view) in
      let raw = raw_members (record_bytes view) in
      of_object h.ms labels text
      (rw h.are.are (keys-append (name ++ told) raw (keys-append name told (name_keys (name_of view)) (record_keys view reading told h.are.are_told)) refl)) h.is_line

  of_entry : (id : ℕ) (view : SelView) (records : Option (List (List ℕ))) (labels : List Label)
      (text : List ℕ) → IsSelLine id view records labels text → Holds labels text
  of_entry id view records labels text h =
      let told = h.are.told in
      of_object h.ms labels text
      (rw h.are.are (keys-append told (raw_members (entry_bytes view)) (entry_keys view records told h.are.are_told) refl)) h.is_line

  -- what holds for the line of each object with such keys holds for each line
  pub each_line : ForEachLine Holds
  each_line = record {
    sdr_record = of_record;
    sdr_fault = λ id fault bytes labels text h. of_object (fault_members id fault bytes) labels text refl h;
    sdr_raw = λ id next bytes labels text h. of_object (sdr.bytes_members id next bytes) labels text refl h;
    entry = of_entry;
    info = λ name bytes labels text h. of_object h.ms labels text (rw h.are.are refl) h.is_line;
    device = λ id name inventory labels text h. of_object h.ms labels text (device_keys id name inventory h.ms h.are) h.is_line;
    elsewhere = λ name labels text h. of_object (elsewhere_members name) labels text refl h;
    end = λ status reason message count labels text h. of_object (end_members status reason message count) labels text refl h;
  }

pub keys_known : ForEachLine IsLineOfObjectKeys
keys_known = each_line IsLineOfObjectKeys (λ ms labels text keys h. record { ms = ms; are = keys; is_line = h })
