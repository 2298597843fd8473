-- The texts of points in time, all in UTC.
use Rattle.std.specs.Prelude.{◌≡◌, ℕ, ◌+◌, ◌<◌, ◌≤◌, ◌/◌, ◌%◌, List, ◌++◌, pos, codes, decimal}
use Rattle.jiff.specs.Words.{date_text, epoch_day}
use Rattle.jiff.specs.declared.civil.Date.{Date}
use Rattle.ipmi_text.specs.TwoDigits.{two_digits}
use Rattle.ipmi_text.specs.declared.times.Meaning.{Meaning}
use Rattle.ipmi_text.specs.declared.times.Meaning.TheVariants.{Unspecified, SinceStart, At}

-- HH:MM of a minute of the day
abbrev pub minute_text : ℕ → List ℕ
minute_text minute = two_digits (minute / 60) ++ (codes ":" ++ two_digits (minute % 60))

-- HH:MM:SS of a second of the day
abbrev pub second_text : ℕ → List ℕ
second_text second = minute_text (second / 60) ++ (codes ":" ++ two_digits (second % 60))

-- the text is jiff's date of a day (counted from 1970-01-01), a space and a time of day
pub record IsMoment (day : ℕ) (time text : List ℕ) : Type 0 where
  pub date : Date
  pub day_is : epoch_day date ≡ pos day
  pub text_is : text ≡ date_text date ++ (codes " " ++ time)

-- the text of the meaning of a time stamp
abbrev pub meaning_text : Meaning → List ℕ
meaning_text Unspecified = codes "unspecified"
meaning_text (SinceStart seconds) = codes "+" ++ (decimal seconds ++ codes " s")
meaning_text (At moment) = moment.characters

-- a time stamp in seconds (IPMI v2.0, section 37): FFFFFFFFh is unspecified, those up to 20000000h count
-- from the start of the controller's clock, and all others from 1970-01-01 00:00:00
pub record IsUtcTextOf (seconds : ℕ) (text : List ℕ) : Type 0 where
  pub unspecified : seconds ≡ 0xffff_ffff → text ≡ codes "unspecified"
  pub since_start : seconds ≤ 0x2000_0000 → text ≡ codes "+" ++ (decimal seconds ++ codes " s")
  pub moment : 0x2000_0000 < seconds → seconds < 0xffff_ffff
      → IsMoment (seconds / 86_400) (second_text (seconds % 86_400)) text

-- a time stamp in minutes since 1996-01-01 00:00; 0 is unspecified (Platform Management FRU
-- Information Storage Definition v1.0, section 11). The number of that day is 9496: 26 years of 365
-- days, and 6 leap days
pub record IsMinutesTextOf (minutes : ℕ) (text : List ℕ) : Type 0 where
  pub unspecified : minutes ≡ 0 → text ≡ codes "unspecified"
  pub moment : 0 < minutes → IsMoment (9496 + minutes / 1440)
      (minute_text (minutes % 1440)) text
