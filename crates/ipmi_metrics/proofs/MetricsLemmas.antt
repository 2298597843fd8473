-- The metrics, part by part.
use Rattle.std.proofs.Common.{◌≡◌, ◌∙◌, ℕ, Bool, List, ◌++◌, append_assoc, codes, Option, []}
use Rattle.ipmi_text.specs.Texts.{AreTexts}
use Rattle.ipmi_records.specs.Prelude.{info_in}
use Rattle.ipmi_records.specs.declared.info.Info.{Info}
use Rattle.ipmi_sensors.specs.Sensors.{Found}
use Rattle.ipmi_metrics.specs.Families.{families}
use Rattle.ipmi_metrics.specs.Metrics.{end_of, faults_part, gauge, IsFamily, IsMetricsText, log_gauges, log_part, up_part}
use Rattle.ipmi_metrics.specs.declared.text.Dialect.{Dialect}

pub log_made : (info : List ℕ) (read : Info) (old first text : List ℕ) (entries free : ℕ) → read ≡ info_in info
    → entries ≡ read.record_count → free ≡ read.free_space
    → first ≡ old ++ gauge (codes "ipmi_sel_entries") (codes "Entries of the event log.") [] entries
    → text ≡ first ++ gauge (codes "ipmi_sel_free_space_bytes") (codes "Bytes that are free in the event log; 65535 is that or more.") [] free
    → text ≡ old ++ log_gauges info
log_made info read old first text entries free read_is entries_is free_is first_is text_is =
    text_is ∙ rw (first_is, free_is, entries_is, read_is) (simp append_assoc)

pub metrics_made : (found : List Found) (info : Option (List ℕ)) (is_up : Bool) (dialect : Dialect) (sensors faults log up text : List ℕ)
    → AreTexts (IsFamily found) families sensors → faults ≡ sensors ++ faults_part found → log ≡ faults ++ log_part info
    → up ≡ log ++ up_part is_up → text ≡ up ++ end_of dialect → IsMetricsText found info is_up dialect text
metrics_made found info is_up dialect sensors faults log up text are faults_is log_is up_is text_is = record {
  sensors = sensors;
  are_families = are;
  text_is = text_is ∙ rw (up_is, log_is, faults_is) (simp append_assoc);
}
