-- Texts of points in time.
use Rattle.std.proofs.Common.{◌≡◌, ◌∙◌, ℕ, List, [], ◌∷◌, ◌++◌, ◌+◌, ◌*◌, ◌/◌, ◌%◌, codes, take, ◌≤◌, ◌≤ℤ◌, ℤ, pos, negsuc, unsigned_abs, sym, arith, inl, inr, refl, rules}
use Rattle.std.proofs.lemmas.Bool.{cases_lt}
use Rattle.std.proofs.lemmas.Int.{by_lt_z}
use Rattle.jiff.specs.Words.{date_text, epoch_day}
use Rattle.jiff.specs.declared.civil.Date.{Date}
use Rattle.jiff.proofs.Family.{epoch_day-lt, epoch_day_injective}
use Rattle.jiff.proofs.OnLiterals.{jiff_on_literals}
use Rattle.jiff.proofs.SpanFacts.{signed_arith}
use Rattle.ipmi_text.specs.Times.{IsMinutesTextOf, IsMoment, IsUtcTextOf, minute_text, second_text}
use Rattle.ipmi_text.specs.TwoDigits.{two_digits}

-- a day number and a time of day have one text
one_moment : (day : ℕ) (time text other : List ℕ) → IsMoment day time text → IsMoment day time other
    → text ≡ other
one_moment day time text other h k =
    let same = epoch_day_injective h.date k.date (h.day_is ∙ sym k.day_is) in
    h.text_is ∙ rw (same.0, same.1, same.2) (sym k.text_is)

pub one_utc_text : (seconds : ℕ) (text other : List ℕ) → seconds ≤ 0xffff_ffff
    → IsUtcTextOf seconds text → IsUtcTextOf seconds other → text ≡ other
one_utc_text seconds text other bound h k = elim (cases_lt 0x2000_0000 seconds) [
  | inr early ↦ h.since_start early ∙ sym (k.since_start early)
  | inl late ↦ elim (cases_lt seconds 0xffff_ffff) [
    | inl below ↦ one_moment _ _ text other (h.moment late below) (k.moment late below)
    | inr last ↦ let all_ones : seconds ≡ 0xffff_ffff = omega arith in h.unspecified all_ones ∙ sym (k.unspecified all_ones)
  ]
]

pub one_minutes_text : (minutes : ℕ) (text other : List ℕ) → IsMinutesTextOf minutes text
    → IsMinutesTextOf minutes other → text ≡ other
one_minutes_text minutes text other h k = elim (cases_lt 0 minutes) [
  | inl some ↦ one_moment _ _ text other (h.moment some) (k.moment some)
  | inr none ↦ let zero_minutes : minutes ≡ 0 = omega arith in h.unspecified zero_minutes ∙ sym (k.unspecified zero_minutes)
]

first_day : (date : Date) × (epoch_day date ≡ pos 0) × (date.year ≡ pos 1970)
unfolding jiff_on_literals
first_day = (record { year = pos 1970; month = 1; day = 1; year_in = search rules; month_in = search rules; day_in = search rules }, refl, refl)

at_least : (year : ℤ) → pos 1970 ≤ℤ year → year ≡ pos (unsigned_abs year)
at_least (pos n) le = refl
at_least (negsuc n) le = absurd (omega (arith, signed_arith))

-- the year of a day from 1970-01-01 on is no negative number
pub year_is : (date : Date) (day : ℕ) → epoch_day date ≡ pos day → date.year ≡ pos (unsigned_abs date.year)
year_is date day e = at_least date.year
    (by_lt_z date.year (pos 1970)
    (λ lt. absurd (omega (arith, signed_arith, e, first_day.1, epoch_day-lt date first_day.0 (inl (rw first_day.2 lt)))))
    (λ ge. ge))

-- its date in digits
pub date_digits : (date : Date) → date.year ≡ pos (unsigned_abs date.year)
    → date_text date ≡ two_digits (unsigned_abs date.year / 100) ++ (two_digits (unsigned_abs date.year % 100)
    ++ 45 ∷ (two_digits date.month ++ 45 ∷ two_digits date.day))
date_digits date e = rw e refl

-- without its seconds, a moment is that of the minute
pub first_characters : (date : Date) (second : ℕ) → date.year ≡ pos (unsigned_abs date.year)
    → take 16 (date_text date ++ (codes " " ++ second_text second)) ≡ date_text date ++ (codes " " ++ minute_text (second / 60))
first_characters date second e = rw (date_digits date e) refl

-- minutes from 1996-01-01 on, in days and minutes from 1970-01-01 on
pub day_of_minute : (minutes : ℕ) → (820_454_400 + 60 * minutes) / 86_400 ≡ 9496 + minutes / 1440
day_of_minute minutes = omega arith

pub minute_of_minute : (minutes : ℕ) → (820_454_400 + 60 * minutes) % 86_400 / 60 ≡ minutes % 1440
minute_of_minute minutes = omega arith
