-- Each value has a decimal, and each time stamp a text.
use Rattle.std.proofs.Common.{rules, ◌≡◌, ◌≢◌, ◌∙◌, ℕ, zero, suc, ◌+◌, ◌/◌, ◌%◌, ◌^◌, ◌<◌, ◌≤◌, ℤ, pos, ◌+ℤ◌, ◌<ℤ◌, List, [], ◌∷◌, ◌++◌, length, slice_index, codes, refl, arith, inl, inr, length-append, pow-suc, unsigned_abs, decimal}
use Rattle.std.specs.Str.Parse.{digits_value}
use Rattle.std.proofs.Math.ListN.{get_or-append}
use Rattle.std.proofs.lemmas.Bool.{cases_lt}
use Rattle.std.proofs.lemmas.Bool.Decides.{nat_tests}
use Rattle.std.proofs.lemmas.Int.Digits.{digits_value_push, digits_push}
use Rattle.jiff.specs.Words.{date_text, days_in_month, epoch_day}
use Rattle.jiff.specs.declared.civil.Date.{Date}
use Rattle.jiff.proofs.Family.{days_from_civil-day, days_from_civil-max, days_from_civil-next_month, days_from_civil-next_year}
use Rattle.jiff.proofs.OnLiterals.{jiff_on_literals}
use Rattle.jiff.proofs.SpanFacts.{signed_arith}
use Rattle.ipmi_text.specs.Decimal.{AppendsFraction, IsDecimalOf, IsWhole, after_point, sign_of}
use Rattle.ipmi_text.specs.Times.{IsMinutesTextOf, IsMoment, IsUtcTextOf, minute_text, second_text}
use Rattle.ipmi_text.proofs.DivisionLemmas.{HasWritten, all_written, digit_value-digit, one_more_written}

-- ---- decimals

-- the whole digits of a number
record HasDigits (n : ℕ) : Type 0 where
  digits : List ℕ
  is_whole : IsWhole digits
  value_is : digits_value 10 digits ≡ n

only_zero : (ds : List ℕ) → slice_index ds 0 ≡ 48 → length ds ≡ 1 → digits_value 10 ds ≡ 0
only_zero [] e one = refl
only_zero (d ∷ []) e one = rw e refl
only_zero (d ∷ (f ∷ ds)) e one = absurd (omega arith)

whole_digits : (k n : ℕ) → n < k → HasDigits n
whole_digits zero n lt = absurd (omega arith)
whole_digits (suc k) n lt = elim (cases_lt n 10) [
  | inl small ↦
      let value = digit_value-digit n small in
      record {
        digits = (48 + n) ∷ [];
        is_whole = record { numeral = (omega arith, (omega arith, tt)); first = λ e. refl };
        value_is = omega arith;
      }
  | inr large ↦
      let more = whole_digits k (n / 10) (omega arith) in
      let ds = more.digits in
      let value = digit_value-digit (n % 10) (omega arith) in
      let long = length-append ds ((48 + n % 10) ∷ []) in
      record {
        digits = ds ++ (48 + n % 10) ∷ [];
        is_whole = record {
          numeral = (omega arith, digits_push 10 ds (48 + n % 10) more.is_whole.numeral.1 (omega arith));
          first = λ e. let first = rw (get_or-append ds ((48 + n % 10) ∷ []) 0 0 more.is_whole.numeral.0) at e in
              absurd (omega (arith, large, more.value_is, only_zero ds first (more.is_whole.first first)));
        };
        value_is = digits_value_push 10 ds (48 + n % 10) ∙ rw (value, more.value_is) (omega arith);
      }
]

-- the rest of a fraction can be written
rest_written : (k n : ℕ) (text : List ℕ) (place rest : ℕ) → HasWritten n [] text place rest
    → place ≡ 10 ^ k → n ≢ 0 → (new : List ℕ) × AppendsFraction n [] new
rest_written k n text place zero h is some = (text, all_written n [] text place 0 h refl some)
rest_written zero n text place (suc rest) h is some = let below = h.below in absurd (omega arith)
rest_written (suc k) n text place (suc rest) h is some =
    let power = pow-suc 10 k in
    rest_written k n (text ++ (48 + suc rest / (place / 10)) ∷ []) (place / 10)
    (suc rest % (place / 10))
    (one_more_written n [] text _ place (suc rest) h (λ none. omega arith) refl)
    (omega arith) some

fraction : (n : ℕ) → n < 10 ^ 16 → (new : List ℕ) × AppendsFraction n [] new
fraction zero lt = ([], record { digits = []; is_fraction = search rules; value_is = refl; text_is = refl })
fraction (suc n) lt =
    rest_written 16 (suc n) (46 ∷ []) (10 ^ 16) (suc n) (record {
      digits = [];
      text_is = refl;
      all_digits = tt;
      short = omega arith;
      place_is = refl;
      below = lt;
      sum = omega arith;
      last = λ none. absurd (omega arith);
    }) refl (λ none. omega arith)

pub decimal_exists : (value : ℤ) → (text : List ℕ) × IsDecimalOf value text
decimal_exists value =
    let size = unsigned_abs value in
    let whole = whole_digits (suc (size / 10 ^ 16)) (size / 10 ^ 16) (omega arith) in
    let part = (fraction (size % 10 ^ 16) (omega arith)).1 in (
      sign_of value ++ (whole.digits ++ after_point part.digits),
      record {
        whole = whole.digits;
        fraction = part.digits;
        is_whole = whole.is_whole;
        is_fraction = part.is_fraction;
        text_is = refl;
        size_is = rw (whole.value_is, part.value_is) (omega arith);
      },
    )

-- ---- times

some_days : (year : ℤ) (month : ℕ) → (1 ≤ days_in_month year month)
    × (month ≡ 12 → days_in_month year month ≡ 31)
some_days year month = (grind (arith, nat_tests), grind (arith, nat_tests))

-- the next day after a date, unless it is the last date
next_date : (d : Date) → epoch_day d <ℤ pos 100000
    → (next : Date) × (epoch_day next ≡ epoch_day d +ℤ pos 1)
next_date d lt = elim (cases_lt d.day (days_in_month d.year d.month)) [
  | inl within ↦ (
    record {
      year = d.year;
      month = d.month;
      day = d.day + 1;
      year_in = d.year_in;
      month_in = d.month_in;
      day_in = (omega arith, omega arith);
    },
    omega (arith, signed_arith, days_from_civil-day d.year d.month d.day (d.day + 1) d.day_in.0 (omega arith)),
  )
  | inr past ↦
      let last : d.day ≡ days_in_month d.year d.month = omega (arith, d.day_in.1) in
      elim (cases_lt d.month 12) [
        | inl within ↦ (
          record {
            year = d.year;
            month = d.month + 1;
            day = 1;
            year_in = d.year_in;
            month_in = (omega arith, omega arith);
            day_in = (omega arith, (some_days d.year (d.month + 1)).0);
          },
          days_from_civil-next_month d.year d.month d.day d.month_in.0 last,
        )
        | inr late ↦
            let december : d.month ≡ 12 = omega (arith, d.month_in.1) in
            let end : d.day ≡ 31 = last ∙ (some_days d.year d.month).1 december in
            let apart : d.year ≢ pos 9999 = λ e. let least = rw (e, december, end) at lt in omega (arith, signed_arith, days_from_civil-max) in
            let year_in = d.year_in in (
              record {
                year = d.year +ℤ pos 1;
                month = 1;
                day = 1;
                year_in = (omega (arith, signed_arith), omega (arith, signed_arith));
                month_in = search rules;
                day_in = (omega arith, (some_days (d.year +ℤ pos 1) 1).0);
              },
              rw (december, end) (days_from_civil-next_year d.year (d.year +ℤ pos 1) (omega (arith, signed_arith)) refl),
            )
      ]
]

date_of : (n : ℕ) → n ≤ 100000 → (d : Date) × (epoch_day d ≡ pos n)
unfolding jiff_on_literals
date_of zero le = (record { year = pos 1970; month = 1; day = 1; year_in = search rules; month_in = search rules; day_in = search rules }, refl)
date_of (suc n) le =
    let before = date_of n (omega arith) in
    let next = next_date before.0 (rw before.1 (omega (arith, signed_arith))) in
    (next.0, next.1 ∙ rw before.1 (omega (arith, signed_arith)))

moment : (day : ℕ) (time : List ℕ) → day ≤ 100000 → (text : List ℕ) × IsMoment day time text
moment day time le = let date = date_of day le in (date_text date.0 ++ (codes " " ++ time), record { date = date.0; day_is = date.1; text_is = refl })

pub utc_text_exists : (seconds : ℕ) → (text : List ℕ) × IsUtcTextOf seconds text
utc_text_exists seconds = elim (cases_lt 0x2000_0000 seconds) [
  | inr early ↦ (
    codes "+" ++ (decimal seconds ++ codes " s"),
    record { unspecified = λ e. absurd (omega arith); since_start = λ le. refl; moment = λ late below. absurd (omega arith) },
  )
  | inl late ↦ elim (cases_lt seconds 0xffff_ffff) [
    | inl below ↦
        let at = moment (seconds / 86_400) (second_text (seconds % 86_400)) (omega arith) in
        (at.0, record { unspecified = λ e. absurd (omega arith); since_start = λ early. absurd (omega arith); moment = λ a b. at.1 })
    | inr past ↦ (
      codes "unspecified",
      record { unspecified = λ e. refl; since_start = λ early. absurd (omega arith); moment = λ a below. absurd (omega arith) },
    )
  ]
]

pub minutes_text_exists : (minutes : ℕ) → minutes ≤ 0xff_ffff
    → (text : List ℕ) × IsMinutesTextOf minutes text
minutes_text_exists minutes le = elim (cases_lt 0 minutes) [
  | inl some ↦
      let at = moment (9496 + minutes / 1440) (minute_text (minutes % 1440)) (omega arith) in
      (at.0, record { unspecified = λ e. absurd (omega arith); moment = λ a. at.1 })
  | inr none ↦ (codes "unspecified", record { unspecified = λ e. refl; moment = λ a. absurd (omega arith) })
]
