-- What a check prints: a line with the verdict, and a line for each sensor in trouble.
use Rattle.std.specs.Prelude.{◌≡◌, ℕ, ◌==◌, not, is_some, Option, None, Some, Result, Ok, Err, List, [], ◌∷◌, ◌++◌, codes, count_by, decimal, if◌then◌else◌, map, nat_lt}
use Rattle.std.specs.List.{find}
use Rattle.ipmi_text.specs.Hex.{hex_word}
use Rattle.ipmi_text.specs.Texts.{AreTexts}
use Rattle.ipmi_records.specs.Prelude.{has_thresholds, known, printed_name, sensor_of, shown_of, sdr_view_of}
use Rattle.ipmi_records.specs.declared.column.KnownReading.{KnownReading}
use Rattle.ipmi_records.specs.declared.sdr.SdrView.{SdrView}
use Rattle.ipmi_records.specs.declared.sdr.SdrFault.{SdrFault}
use Rattle.ipmi_records.specs.declared.sensor.Sensor.{Sensor}
use Rattle.ipmi_events.specs.Shown.{IsReadingInWords}
use Rattle.ipmi_events.specs.Status.{status_in_words}
use Rattle.ipmi_sensors.specs.Sensors.{Found}
use Rattle.ipmi_check.specs.Name.{name_or_id}
use Rattle.ipmi_check.specs.Performance.{IsDataPart}
use Rattle.ipmi_check.specs.Standing.{is_in, standing_of}
use Rattle.ipmi_image.specs.declared.lack.Lack.{Lack}
use Rattle.ipmi_check.specs.Verdict.{has, verdict_of, verdict_words}
use Rattle.ipmi_check.specs.declared.performance.Detail.{Detail}
use Rattle.ipmi_check.specs.declared.standing.Standing.{Standing}
use Rattle.ipmi_check.specs.declared.verdict.Verdict.{Verdict}

-- ---- one sensor

-- a comma and the status of a sensor with thresholds, such as `ucr`
abbrev pub status_of_sensor : Option Sensor → KnownReading → List ℕ
status_of_sensor None reading = []
status_of_sensor (Some sensor) reading =
    if has_thresholds sensor then codes ", " ++ status_in_words sensor (shown_of sensor reading) else []

abbrev pub status_part : SdrView → KnownReading → List ℕ
status_part view reading = status_of_sensor (sensor_of view) reading

-- the name, and in parentheses the reading column of `sensor`, with the status of a sensor with thresholds
pub record IsTroubleOf (id : ℕ) (view : SdrView) (reading : KnownReading) (text : List ℕ) : Type 0 where
  pub column : List ℕ
  pub is_column : IsReadingInWords view reading column
  pub text_is : text ≡ name_or_id id (printed_name view) ++ (codes " (" ++ (column ++ (status_part view reading ++ codes ")")))

abbrev pub IsTroubleIn : ℕ → Result SdrView SdrFault → KnownReading → List ℕ → Type 0
IsTroubleIn id (Ok view) reading text = IsTroubleOf id view reading text
IsTroubleIn id (Err fault) reading text = text ≡ []

abbrev pub IsTrouble : Found → List ℕ → Type 0
IsTrouble found text = IsTroubleIn found.id (sdr_view_of found.bytes) (known found.reading) text

-- ---- the lines after the first

pub record IsTroubled (label : List ℕ) (found : Found) (text : List ℕ) : Type 0 where
  pub trouble : List ℕ
  pub is_trouble : IsTrouble found trouble
  pub text_is : text ≡ label ++ (trouble ++ codes "\n")

-- a line for a sensor in trouble, and for a record that can't be judged
abbrev pub IsLine : Standing → Found → List ℕ → Type 0
IsLine Standing.Critical found text = IsTroubled (codes "critical: ") found text
IsLine Standing.Warning found text = IsTroubled (codes "warning: ") found text
IsLine Standing.Unknown found text =
    text ≡ codes "unknown: record " ++ (hex_word found.id ++ codes " can't be judged\n")
IsLine standing found text = text ≡ []

abbrev pub AreLines : List Lack → List Found → List ℕ → Type 0
AreLines lacks found text = AreTexts (λ one line. IsLine (standing_of lacks one) one line) found text

-- ---- the first line

abbrev pub count_in : List Lack → Standing → List Found → ℕ
count_in lacks wanted found = count_by (λ one. is_in wanted (standing_of lacks one)) found

-- those that can be judged
abbrev pub count_sensors : List Lack → List Found → ℕ
count_sensors lacks found = count_by (λ one. not (is_in Standing.Unknown (standing_of lacks one))) found

abbrev pub IsFirst : Option Found → List ℕ → Type 0
IsFirst None text = text ≡ []
IsFirst (Some found) text = IsTrouble found text

-- `..` means that there are others
abbrev pub after_first : ℕ → List ℕ
after_first count = if nat_lt 1 count then codes ", .." else []

abbrev pub sensor_word : ℕ → List ℕ
sensor_word count = if count == 1 then codes "sensor" else codes "sensors"

abbrev pub share : ℕ → ℕ → List ℕ
share count sensors =
    decimal count ++ (codes " of " ++ (decimal sensors ++ (codes " " ++ (sensor_word sensors ++ codes ": "))))

-- how many have this standing, out of how many, and the trouble of the first
pub record IsWorst (lacks : List Lack) (wanted : Standing) (found : List Found) (text : List ℕ) : Type 0 where
  pub first : List ℕ
  pub is_first : IsFirst (find (λ one. is_in wanted (standing_of lacks one)) found) first
  pub text_is : text ≡ share (count_in lacks wanted found) (count_sensors lacks found)
      ++ (first ++ after_first (count_in lacks wanted found))

-- why nothing is known of these
abbrev pub why_unknown : List Lack → List Found → Option (List ℕ) → List ℕ
why_unknown lacks found (Some why) = why
why_unknown lacks [] None = codes "there is no sensor to check"
why_unknown lacks (one ∷ more) None =
    if has lacks Standing.Unknown (one ∷ more) then codes "a record can't be judged" else codes "no sensor has a reading"

abbrev pub IsLead : List Lack → Verdict → List Found → Option (List ℕ) → List ℕ → Type 0
IsLead lacks Verdict.Critical found why text = IsWorst lacks Standing.Critical found text
IsLead lacks Verdict.Warning found why text = IsWorst lacks Standing.Warning found text
IsLead lacks Verdict.Ok found why text =
    text ≡ decimal (count_sensors lacks found) ++ (codes " " ++ sensor_word (count_sensors lacks found))
IsLead lacks Verdict.Unknown found why text = text ≡ why_unknown lacks found why

abbrev pub labelled : List ℕ → ℕ → List ℕ
labelled label count = if count == 0 then [] else codes "; " ++ (label ++ (codes ": " ++ decimal count))

abbrev pub warnings_beside : List Lack → Verdict → List Found → List ℕ
warnings_beside lacks Verdict.Warning found = []
warnings_beside lacks verdict found = labelled (codes "warnings") (count_in lacks Standing.Warning found)

-- how many have each standing that the verdict does not name, if any do
abbrev pub counts_beside : List Lack → Verdict → List Found → List ℕ
counts_beside lacks verdict found =
    warnings_beside lacks verdict found ++ (labelled (codes "not judged") (count_in lacks Standing.Unknown found)
    ++ (labelled (codes "without a reading") (count_in lacks Standing.Silent found)
    ++ labelled (codes "of other owners") (count_in lacks Standing.Elsewhere found)))

-- why the search failed, if a critical sensor was found before
abbrev pub why_after : Verdict → Option (List ℕ) → List ℕ
why_after Verdict.Critical (Some why) = codes "; " ++ why
why_after verdict why = []

abbrev pub verdict_part : Verdict → List ℕ
verdict_part verdict = codes "IPMI " ++ (verdict_words verdict ++ codes " - ")

-- without its line feed
pub record IsHeadline (lacks : List Lack) (verdict : Verdict) (found : List Found) (why : Option (List ℕ)) (text : List ℕ) : Type 0 where
  pub lead : List ℕ
  pub is_lead : IsLead lacks verdict found why lead
  pub text_is : text ≡ verdict_part verdict ++ (lead ++ (counts_beside lacks verdict found ++ why_after verdict why))

-- ---- both

-- a bar would end the text of a plugin
abbrev pub without_bar : ℕ → ℕ
without_bar byte = if byte == 0x7c then 0x2f else byte

-- a text with a slash for each bar
pub record WithoutBars (IsText : List ℕ → Type 0) (text : List ℕ) : Type 0 where
  pub with_bars : List ℕ
  pub is_text : IsText with_bars
  pub text_is : text ≡ map without_bar with_bars

-- `why`: why the search failed, if it did. Only performance data have a bar.
pub record IsCheckText (lacks : List Lack) (found : List Found) (why : Option (List ℕ)) (detail : Detail) (text : List ℕ) : Type 0 where
  pub headline : List ℕ
  pub data_part : List ℕ
  pub lines : List ℕ
  pub is_headline : WithoutBars (IsHeadline lacks (verdict_of lacks found (is_some why)) found why) headline
  pub is_data : IsDataPart found detail data_part
  pub are_lines : WithoutBars (AreLines lacks found) lines
  pub text_is : text ≡ headline ++ (data_part ++ (codes "\n" ++ lines))

-- if memory ran out
abbrev pub short_text : Verdict → List ℕ
short_text Verdict.Critical = codes "IPMI CRITICAL - out of memory\n"
short_text verdict = codes "IPMI UNKNOWN - out of memory\n"
