-- A sign between a reading and a threshold is true of the two numbers.
use Rattle.std.proofs.Common.{◌≡◌, Bool, true, false, if◌then◌else◌, List, ℕ, codes, arith}
use Rattle.std.specs.Cmp.{int_ranks}
use Rattle.std.specs.Ordering.{MatchOrdering}
use Rattle.std.specs.declared.cmp.Ordering.{Ordering}
use Rattle.std.specs.declared.cmp.Ordering.TheVariants.{Less, Equal, Greater}
use Rattle.ipmi_events.specs.Laws.{SignsAreTrue}
use Rattle.ipmi_events.specs.Threshold.{is_going_high, order_of, printed_number, sign}

-- the comparison of an event that is deasserted or not, and going high or not
abbrev said : Ordering → Bool → Bool → List ℕ
said order deasserted high = if deasserted then codes ", " else sign order high

less : (order : Ordering) (deasserted high : Bool) (P Q R : Type 0) → MatchOrdering order P Q R
    → said order deasserted high ≡ codes " < " → P
less Less false false P Q R ranks is = ranks
less _ _ _ P Q R ranks is = grind arith

equal : (order : Ordering) (deasserted high : Bool) (P Q R : Type 0) → MatchOrdering order P Q R
    → said order deasserted high ≡ codes " = " → Q
equal Equal false high P Q R ranks is = ranks
equal _ _ _ P Q R ranks is = grind arith

greater : (order : Ordering) (deasserted high : Bool) (P Q R : Type 0)
    → MatchOrdering order P Q R → said order deasserted high ≡ codes " > " → R
greater Greater false true P Q R ranks is = ranks
greater _ _ _ P Q R ranks is = grind arith

pub signs_are_true : SignsAreTrue
signs_are_true full event =
    let ranks = int_ranks (printed_number full event.second) (printed_number full event.third) in
    let high = is_going_high event in
    record {
      less = less (order_of full event) event.is_deasserted high _ _ _ ranks;
      equal = equal (order_of full event) event.is_deasserted high _ _ _ ranks;
      greater = greater (order_of full event) event.is_deasserted high _ _ _ ranks;
    }
