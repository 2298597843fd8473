-- Joining states one by one.
use Rattle.std.proofs.Common.{◌≡◌, ◌∙◌, ℕ, ◌+◌, ◌==◌, List, [], ◌∷◌, ◌++◌, true, false, append_assoc, append-nil, arith, codes, cond, filter, length, refl, sym}
use Rattle.std.specs.List.{flat_map, join_by, range_with_len}
use Rattle.std.proofs.lemmas.Grind.{flat_map-append}
use Rattle.std.proofs.lemmas.List.{map-id}
use Rattle.std.proofs.lemmas.List.FromFn.{filter_of_map_range_with_len_more}
use Rattle.ipmi_events.specs.Below.{Sensor, has_bit}
use Rattle.ipmi_events.specs.States.{joined_states, or_no_state, set_states, state_words, states_in_words}

-- the states below `count` that are set
abbrev pub set_below : ℕ → ℕ → List ℕ
set_below count states = filter (λ state. has_bit state states) (range_with_len 0 count)

pub set_more : (count states : ℕ)
    → set_below (count + 1) states ≡ set_below count states ++ cond (has_bit count states) (count ∷ []) []
set_more count states =
    rw (map-id (range_with_len 0 count), map-id (range_with_len 0 (count + 1))) at (filter_of_map_range_with_len_more {X = ℕ} (λ state. has_bit state states) (λ state. state) 0 count count (omega arith))

-- the separator after these parts, before the next one
abbrev pub separator_after : List ℕ → List ℕ → List ℕ
separator_after separator [] = []
separator_after separator (part ∷ parts) = separator

after_more : (separator parts : List ℕ) (part : ℕ)
    → separator ≡ separator_after separator (parts ++ part ∷ [])
after_more separator [] part = refl
after_more separator (first ∷ parts) part = refl

one_more : (f : ℕ → List ℕ) (separator parts : List ℕ) (part : ℕ)
    → join_by f separator (parts ++ part ∷ []) ≡ join_by f separator parts ++ (separator_after separator parts ++ f part)
one_more f separator [] part = append-nil (f part)
one_more f separator (first ∷ parts) part =
    rw (flat_map-append (λ y. separator ++ f y) parts (part ∷ []), append-nil (separator ++ f part)) (sym (append_assoc (f first) (flat_map (λ y. separator ++ f y) parts) (separator ++ f part)))

-- a state that is set is appended
pub state_joined : (sensor : Sensor) (states count : ℕ) (old text new separator : List ℕ)
    → has_bit count states ≡ true
    → separator ≡ separator_after (codes ", ") (set_below count states)
    → text ≡ old ++ joined_states sensor (set_below count states)
    → new ≡ text ++ (separator ++ state_words sensor.event_type sensor.sensor_type count)
    → (codes ", " ≡ separator_after (codes ", ") (set_below (count + 1) states))
    × (new ≡ old ++ joined_states sensor (set_below (count + 1) states))
state_joined sensor states count old text new separator is_set separator_is text_is new_is =
    let more : set_below (count + 1) states ≡ set_below count states ++ count ∷ [] = rw is_set at (set_more count states) in (
      rw more (after_more (codes ", ") (set_below count states) count),
      new_is ∙ rw (text_is, separator_is, more, one_more (state_words sensor.event_type sensor.sensor_type) (codes ", ") (set_below count states) count) (append_assoc old (joined_states sensor (set_below count states)) _),
    )

-- a state that is not set changes nothing
pub state_passed : (states count : ℕ) → has_bit count states ≡ false
    → set_below (count + 1) states ≡ set_below count states
state_passed states count is_not = (rw is_not at (set_more count states)) ∙ append-nil (set_below count states)

none_set : (separator parts : List ℕ) → separator ≡ separator_after (codes ", ") parts
    → (length separator == 0) ≡ true → parts ≡ []
none_set separator [] separator_is is_empty = refl
none_set separator (part ∷ parts) separator_is is_empty = absurd (cc (rw separator_is at is_empty))

some_set : (sensor : Sensor) (separator parts : List ℕ)
    → separator ≡ separator_after (codes ", ") parts → (length separator == 0) ≡ false
    → joined_states sensor parts ≡ or_no_state sensor parts
some_set sensor separator [] separator_is is_empty = absurd (cc (rw separator_is at is_empty))
some_set sensor separator (part ∷ parts) separator_is is_empty = refl

-- if the separator is empty at the end, no state is set
pub none_told : (sensor : Sensor) (states count : ℕ) (old text separator : List ℕ) → count ≡ 15
    → separator ≡ separator_after (codes ", ") (set_below count states)
    → text ≡ old ++ joined_states sensor (set_below count states)
    → (length separator == 0) ≡ true → text ++ codes "no state" ≡ old ++ states_in_words sensor states
none_told sensor states count old text separator all separator_is text_is is_empty =
    let none = none_set separator (set_below count states) separator_is is_empty in
    let none_is : set_states states ≡ [] = rw all at none in
    rw (text_is, none, append-nil old, none_is) refl

-- otherwise the text has all states that are set
pub all_told : (sensor : Sensor) (states count : ℕ) (old text separator : List ℕ) → count ≡ 15
    → separator ≡ separator_after (codes ", ") (set_below count states)
    → text ≡ old ++ joined_states sensor (set_below count states)
    → (length separator == 0) ≡ false → text ≡ old ++ states_in_words sensor states
all_told sensor states count old text separator all separator_is text_is is_empty =
    text_is ∙ rw (some_set sensor separator (set_below count states) separator_is is_empty, all) refl
