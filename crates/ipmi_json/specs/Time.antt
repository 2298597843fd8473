-- Times in the format of ISO 8601, all in UTC.
use Rattle.std.specs.Prelude.{◌≡◌, ℕ, ◌+◌, ◌<◌, ◌≤◌, ◌/◌, ◌%◌, ◌⊎◌, Option, None, Some, List, ◌++◌, codes}
use Rattle.ipmi_text.specs.Times.{IsMoment, minute_text, second_text}

-- a date, `T`, a time of day, and `end`: the rest of the time of day and `Z`
pub record IsIsoMoment (day : ℕ) (time end text : List ℕ) : Type 0 where
  pub date : List ℕ
  pub is_moment : IsMoment day time (date ++ (codes " " ++ time))
  pub text_is : text ≡ date ++ (codes "T" ++ (time ++ end))

-- there is a text, and `Holds` is true of it
abbrev pub IfIso : Option (List ℕ) → (List ℕ → Type 0) → Type 0
IfIso None Holds = ⊥
IfIso (Some text) Holds = Holds text

-- a time stamp in seconds (IPMI v2.0, section 37): only those above 20000000h and below FFFFFFFFh are a time
pub record IsIsoTimeOf (seconds : ℕ) (text : Option (List ℕ)) : Type 0 where
  pub none : (seconds ≤ 0x2000_0000) ⊎ (seconds ≡ 0xffff_ffff) → text ≡ None
  pub moment : 0x2000_0000 < seconds → seconds < 0xffff_ffff
      → IfIso text (IsIsoMoment (seconds / 86_400) (second_text (seconds % 86_400)) (codes "Z"))

-- a time stamp in minutes from 1996-01-01 00:00; 0 is not a time (Platform Management FRU Information Storage Definition v1.0,
-- section 11)
pub record IsIsoMinuteOf (minutes : ℕ) (text : Option (List ℕ)) : Type 0 where
  pub none : minutes ≡ 0 → text ≡ None
  pub moment : 0 < minutes → IfIso text
      (IsIsoMoment (9496 + minutes / 1440) (minute_text (minutes % 1440)) (codes ":00Z"))
