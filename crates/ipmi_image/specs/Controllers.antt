-- The state of the controllers over an image that contracts see, and the effect of a mood on a
-- call.
use Rattle.std.specs.Prelude.{◌≡◌, ◌⊎◌, ℕ, ◌<◌, ◌==◌, nat_lt, max, if◌then◌else◌, Bool, true, false, not, None, Some, Result, Ok, Err, List, [], ◌∷◌}
use Rattle.std.specs.Vec.Iter.{into_iter_items}
use Rattle.ipmi_image.specs.Below.{Code, Refusal, Shelf, Sdr, Sel, class_of, Seen, IsCall, IsQuiet, IsChange, MayLoseReservation, PartFailsWith}
use Rattle.ipmi_image.specs.declared.controller.ImageController.{ImageController}
use Rattle.ipmi_image.specs.declared.responder.Responder.{Responder}
use Rattle.ipmi_image.specs.declared.scripted.Mood.{Mood}
use Rattle.ipmi_image.specs.declared.scripted.Scripted.{Scripted}
use Rattle.ipmi_image.specs.declared.scripted.Turn.{Turn}
use Rattle.ipmi_image.specs.Responder.{with_appended, with_image, with_reservation, seen_as}

-- a controller over an image is honest, and plain
abbrev pub seen_of : ImageController → Seen
seen_of c = seen_as true c.responder

-- a scripted controller is honest, and not plain
abbrev pub script_seen : Scripted → Seen
script_seen s = seen_as false s.responder

-- the number of the last reservation that a controller gave, 0 if it gave none
abbrev pub last_number : ImageController → ℕ
last_number c = c.responder.given

abbrev pub script_last_number : Scripted → ℕ
script_last_number s = s.responder.given

-- the moods not used up yet, starting with that of the next call
abbrev pub moods_left : Scripted → List Mood
moods_left s = into_iter_items s.moods

-- what a mood has counted for a call for `asked` bytes: nothing yet, or the failed call
abbrev pub TurnCounts : ℕ → Turn → Seen → Seen → Type 0
TurnCounts asked (Turn.Answers most) old new =
    (0 < most) × (new.calls ≡ old.calls) × (new.most_asked ≡ old.most_asked)
TurnCounts asked (Turn.Failed code) old new =
    IsCall asked old new × (new.last_failure ≡ Some code.0)

-- the effect of a mood on a call for `asked` bytes, which reads ahead or does not: the call is still to
-- be answered, with at most `most` bytes, or it failed
abbrev pub TurnGives : ℕ → Bool → Turn → Seen → Seen → Type 0
TurnGives asked ahead (Turn.Answers most) old new = IsQuiet old new
TurnGives asked ahead (Turn.Failed code) old new =
    PartFailsWith ahead (1 < asked) ⊥ (class_of code.0) code.0 old new

-- before the answer, the controller may change its store and cancel its reservations
pub record Turns (asked : ℕ) (ahead : Bool) (turn : Turn) (old new : Seen) : Type 0 where
  pub change : IsChange old new
  pub gives : TurnGives asked ahead turn old new
  pub sdr : MayLoseReservation Sdr old new
  pub sel : MayLoseReservation Sel old new

-- ---- the effect of each mood on a call

-- after a refusal no caller repeats the request or continues; 00h is not a failure
abbrev pub is_refusal : ℕ → Bool
is_refusal code = elim (class_of code) [ Refusal ↦ not (code == 0) | _ ↦ false ]

-- the effect of a mood on a call for `asked` bytes
abbrev pub mood_turn : ℕ → Mood → Turn
mood_turn asked (Mood.Grant most) = Turn.Answers (max most 1)
mood_turn asked Mood.Cancel = Turn.Failed (record { 0 = 0xC5 })
mood_turn asked Mood.Busy = Turn.Failed (record { 0 = 0xC0 })
mood_turn asked Mood.TooLong =
    if nat_lt 1 asked then Turn.Failed (record { 0 = 0xCA }) else Turn.Answers 254
mood_turn asked (Mood.Refuse code) =
    if is_refusal code.0 then Turn.Failed code else Turn.Answers 254
mood_turn asked (Mood.Change image) = Turn.Answers 254
mood_turn asked (Mood.Append image) = Turn.Answers 254

-- the image and its reservations as a mood leaves them, before the call is counted
abbrev pub after_mood : Mood → Responder → Responder
after_mood Mood.Cancel r = record r { sdr_reservation = None; sel_reservation = None }
after_mood (Mood.Change image) r =
    record (with_image image r) { sdr_reservation = None; sel_reservation = None }
after_mood (Mood.Append image) r = with_appended image r
after_mood other r = r

-- the image is unchanged, or no reservation is current
abbrev pub KeepsImageOrForgets : Responder → Responder → Type 0
KeepsImageOrForgets old new =
    ((new.image ≡ old.image) × (new.earlier ≡ old.earlier))
    ⊎ ((new.sdr_reservation ≡ None) × (new.sel_reservation ≡ None))

-- `Append` is the only mood that may keep a reservation over another image
abbrev pub MayKeepReservations : Mood → Responder → Type 0
MayKeepReservations (Mood.Append image) r = Unit {0}
MayKeepReservations mood r = KeepsImageOrForgets r (after_mood mood r)

abbrev pub OnlyAppendKeepsReservations : Type 0
OnlyAppendKeepsReservations = (mood : Mood) (r : Responder) → MayKeepReservations mood r

-- if no mood is left, the controller answers like an `ImageController`
abbrev pub next_mood : List Mood → Mood
next_mood [] = Mood.Grant 254
next_mood (next ∷ moods) = next

-- ---- the answers of a scripted controller, and its state after the next mood

abbrev pub seen_after_mood : Scripted → Seen
seen_after_mood s = seen_as false (after_mood (next_mood (moods_left s)) s.responder)

-- the answer to a call for `asked` bytes: that of an `ImageController`, with at most as many bytes
-- as the next mood allows, or the code with which the call fails
abbrev pub script_answer : {V : Type 0} → ℕ → Scripted → (ℕ → Result V Code) → Result V Code
script_answer asked s plain =
    elim (mood_turn asked (next_mood (moods_left s))) [
      | Turn.Answers most ↦ plain most
      | Turn.Failed code ↦ Err code
    ]

-- except for its counts and for `near`, the controller is as the next mood left it
abbrev pub StaysAfterMood : Scripted → Scripted → Type 0
StaysAfterMood old new = new.responder ≡
    record (after_mood (next_mood (moods_left old)) old.responder) {
      near = new.responder.near;
      tally = new.responder.tally;
    }

-- the same, with the new reservation
abbrev pub ReservesAfterMood : Shelf → Result ℕ Code → Scripted → Scripted → Type 0
ReservesAfterMood shelf (Ok number) old new = new.responder ≡
    record (with_reservation shelf number (after_mood (next_mood (moods_left old)) old.responder)) {
      near = new.responder.near;
      tally = new.responder.tally;
    }
ReservesAfterMood shelf (Err code) old new = StaysAfterMood old new
