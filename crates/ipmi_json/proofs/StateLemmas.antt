-- The texts of states, one by one.
use Rattle.std.proofs.Common.{◌≡◌, ◌∙◌, ℕ, ◌+◌, List, [], ◌∷◌, ◌++◌, true, false, arith, cond, map, sym}
use Rattle.std.specs.List.{range_with_len}
use Rattle.std.proofs.lemmas.List.{map-append, map-id}
use Rattle.std.proofs.lemmas.List.FromFn.{filter_of_map_range_with_len_more}
use Rattle.ipmi_records.specs.Prelude.{has_bit}
use Rattle.ipmi_records.specs.declared.sensor.Sensor.{Sensor}
use Rattle.ipmi_events.specs.States.{state_words}
use Rattle.ipmi_events.proofs.StateLemmas.{set_below, state_passed}

-- the texts of the states below `count` that are set
abbrev pub texts_below : Sensor → ℕ → ℕ → List (List ℕ)
texts_below sensor count states =
    map (state_words sensor.event_type sensor.sensor_type) (set_below count states)

set_more : (count states : ℕ)
    → set_below (count + 1) states ≡ set_below count states ++ cond (has_bit count states) (count ∷ []) []
set_more count states =
    rw (map-id (range_with_len 0 count), map-id (range_with_len 0 (count + 1))) at (filter_of_map_range_with_len_more {X = ℕ} (λ state. has_bit state states) (λ state. state) 0 count count (omega arith))

pub text_added : (sensor : Sensor) (states count : ℕ) (old new : List (List ℕ)) (text : List ℕ)
    → has_bit count states ≡ true → old ≡ texts_below sensor count states
    → text ≡ state_words sensor.event_type sensor.sensor_type count → new ≡ old ++ text ∷ []
    → new ≡ texts_below sensor (count + 1) states
text_added sensor states count old new text is_set old_is text_is new_is =
    let more : set_below (count + 1) states ≡ set_below count states ++ count ∷ [] = rw is_set at (set_more count states) in
    new_is ∙ rw (old_is, text_is, more) (sym (map-append (state_words sensor.event_type sensor.sensor_type) (set_below count states) (count ∷ [])))

pub text_passed : (sensor : Sensor) (states count : ℕ) (old : List (List ℕ))
    → has_bit count states ≡ false → old ≡ texts_below sensor count states
    → old ≡ texts_below sensor (count + 1) states
text_passed sensor states count old is_not old_is = rw (state_passed states count is_not) old_is
