-- The metrics of the sensors that one walk found, of the event log, and of the search itself.
use Rattle.std.specs.Prelude.{◌≡◌, ℕ, Bool, if◌then◌else◌, is_err, Option, None, Some, Result, Ok, Err, List, [], ◌++◌, codes, count_by, decimal}
use Rattle.ipmi_records.specs.Prelude.{info_in, known, sdr_view_of}
use Rattle.ipmi_records.specs.declared.column.KnownReading.{KnownReading}
use Rattle.ipmi_records.specs.declared.sdr.SdrFault.{SdrFault}
use Rattle.ipmi_records.specs.declared.sdr.SdrView.{SdrView}
use Rattle.ipmi_sensors.specs.Sensors.{Found}
use Rattle.ipmi_metrics.specs.Families.{families, head, with_head}
use Rattle.ipmi_metrics.specs.Samples.{AreSamplesOfView}
use Rattle.ipmi_text.specs.Texts.{AreTexts}
use Rattle.ipmi_metrics.specs.declared.families.Family.{Family}
use Rattle.ipmi_metrics.specs.declared.text.Dialect.{Dialect}

-- ---- the families of sensors

-- a record with a fault has no samples
abbrev pub AreSamplesIn : Family → ℕ → Result SdrView SdrFault → KnownReading → List ℕ → Type 0
AreSamplesIn family id (Err fault) reading text = text ≡ []
AreSamplesIn family id (Ok view) reading text = AreSamplesOfView family id view reading text

-- A reading that an image lacks is none.
abbrev pub AreSamples : Family → Found → List ℕ → Type 0
AreSamples family found text = AreSamplesIn family found.id (sdr_view_of found.bytes) (known found.reading) text

-- the samples of all that were found, together
pub record IsFamily (found : List Found) (family : Family) (text : List ℕ) : Type 0 where
  pub samples : List ℕ
  pub are_samples : AreTexts (AreSamples family) found samples
  pub text_is : text ≡ with_head family samples

-- ---- families with one sample

unfoldable pub gauge : List ℕ → List ℕ → List ℕ → ℕ → List ℕ
gauge name help labels value =
    head name help ++ (name ++ (labels ++ (codes " " ++ (decimal value ++ codes "\n"))))

abbrev pub is_faulty : Found → Bool
is_faulty found = is_err (sdr_view_of found.bytes)

-- how many records are left out because of a fault
abbrev pub faults_part : List Found → List ℕ
faults_part found =
    gauge (codes "ipmi_sdr_faulty_records") (codes "Sensor data records with a fault, of which nothing else is said.") []
    (count_by is_faulty found)

-- the entries of the log and its free space
abbrev pub log_gauges : List ℕ → List ℕ
log_gauges info =
    gauge (codes "ipmi_sel_entries") (codes "Entries of the event log.") [] (info_in info).record_count
    ++ gauge (codes "ipmi_sel_free_space_bytes") (codes "Bytes that are free in the event log; 65535 is that or more.") []
    (info_in info).free_space

-- nothing is said of a log whose info was not read
abbrev pub log_part : Option (List ℕ) → List ℕ
log_part None = []
log_part (Some info) = log_gauges info

abbrev pub up_part : Bool → List ℕ
up_part is_up =
    gauge (codes "ipmi_up") (codes "1 if all sensors could be asked, else 0.") (codes "{collector=\"ipmi\"}")
    (if is_up then 1 else 0)

-- ---- all of it

abbrev pub end_of : Dialect → List ℕ
end_of Dialect.Prometheus = []
end_of Dialect.OpenMetrics = codes "# EOF\n"

-- No two families have the same name, and each is listed once.
pub record IsMetricsText (found : List Found) (info : Option (List ℕ)) (is_up : Bool) (dialect : Dialect) (text : List ℕ) : Type 0 where
  pub sensors : List ℕ
  pub are_families : AreTexts (IsFamily found) families sensors
  pub text_is : text ≡ sensors ++ (faults_part found ++ (log_part info ++ (up_part is_up ++ end_of dialect)))
