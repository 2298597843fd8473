-- The status of a sensor, which says whether the reading is too low or too high (the project's
-- own).
use Rattle.std.specs.Prelude.{ℕ, List, [], ◌∷◌, codes, Option, Some, None, if◌then◌else◌}
use Rattle.std.specs.List.{find}
use Rattle.ipmi_events.specs.Below.{Sensor, Shown, Threshold, has_bit, has_thresholds, threshold_bit}

-- the short name of a threshold: upper or lower, and non-recoverable, critical or non-critical
abbrev pub threshold_code : Threshold → List ℕ
threshold_code Threshold.UpperNonRecoverable = codes "unr"
threshold_code Threshold.UpperCritical = codes "ucr"
threshold_code Threshold.UpperNonCritical = codes "unc"
threshold_code Threshold.LowerNonRecoverable = codes "lnr"
threshold_code Threshold.LowerCritical = codes "lcr"
threshold_code Threshold.LowerNonCritical = codes "lnc"

abbrev pub from_worst : List Threshold
from_worst =
    Threshold.UpperNonRecoverable ∷ Threshold.LowerNonRecoverable
    ∷ Threshold.UpperCritical ∷ Threshold.LowerCritical
    ∷ Threshold.UpperNonCritical ∷ Threshold.LowerNonCritical ∷ []

-- the first of several thresholds that the reading has passed: the threshold's bit is set
abbrev pub first_passed : List Threshold → ℕ → Option Threshold
first_passed thresholds bits =
    find (λ threshold. has_bit (threshold_bit threshold) bits) thresholds

abbrev pub passed_status : Option Threshold → List ℕ
passed_status None = codes "ok"
passed_status (Some threshold) = threshold_code threshold

abbrev pub status_in_words : Sensor → Shown → List ℕ
status_in_words sensor Shown.OtherOwner = codes "na"
status_in_words sensor Shown.NotCaptured = codes "ns"
status_in_words sensor Shown.NoReading = codes "ns"
status_in_words sensor (Shown.Value reading) =
    if has_thresholds sensor then passed_status (first_passed from_worst reading.status)
    else codes "ok"
