-- What a check says of all sensors.
use Rattle.std.specs.Prelude.{ℕ, ◌||◌, Bool, not, List, codes, if◌then◌else◌}
use Rattle.std.specs.List.{list_any}
use Rattle.ipmi_sensors.specs.Sensors.{Found}
use Rattle.ipmi_image.specs.declared.lack.Lack.{Lack}
use Rattle.ipmi_check.specs.Standing.{is_in, standing_of}
use Rattle.ipmi_check.specs.declared.standing.Standing.{Standing}
use Rattle.ipmi_check.specs.declared.verdict.Verdict.{Verdict}

-- the exit statuses of plugins of monitoring systems
abbrev pub status_of : Verdict → ℕ
status_of Verdict.Ok = 0
status_of Verdict.Warning = 1
status_of Verdict.Critical = 2
status_of Verdict.Unknown = 3

abbrev pub verdict_words : Verdict → List ℕ
verdict_words Verdict.Ok = codes "OK"
verdict_words Verdict.Warning = codes "WARNING"
verdict_words Verdict.Critical = codes "CRITICAL"
verdict_words Verdict.Unknown = codes "UNKNOWN"

abbrev pub has : List Lack → Standing → List Found → Bool
has lacks wanted found = list_any (λ one. is_in wanted (standing_of lacks one)) found

-- none of them has a reading
abbrev pub has_none : List Lack → List Found → Bool
has_none lacks found = not (has lacks Standing.Sound found || has lacks Standing.Warning found)

-- Critical if a sensor that was read is critical, even if the search failed later. Otherwise unknown if it failed, found what can't be
-- judged, or found no sensor with a reading. Otherwise the worst that was found.
abbrev pub verdict_of : List Lack → List Found → Bool → Verdict
verdict_of lacks found failed =
    if has lacks Standing.Critical found then Verdict.Critical
    else (if failed || (has_none lacks found || has lacks Standing.Unknown found) then Verdict.Unknown
    else (if has lacks Standing.Warning found then Verdict.Warning else Verdict.Ok))
