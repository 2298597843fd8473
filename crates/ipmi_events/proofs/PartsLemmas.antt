-- Appending lists of parts to a text.
use Rattle.std.proofs.Common.{◌≡◌, ℕ, ◌+◌, ◌<◌, Bool, true, false, ◌||◌, List, [], ◌∷◌, ◌++◌, append_assoc, ap, refl, length, get_or, drop, map}
use Rattle.std.proofs.lemmas.List.{drop_more}
use Rattle.ipmi_events.specs.declared.event_data.EventData.{EventData}
use Rattle.ipmi_events.specs.declared.event_data.Byte.{Byte}
use Rattle.ipmi_events.specs.declared.extensions.Field.{Field}
use Rattle.ipmi_events.specs.Discrete.{or_raw}
use Rattle.ipmi_events.specs.Extensions.{field_parts, fields_text, said_by}
use Rattle.ipmi_events.specs.Parts.{comma, has_parts, parts_text}

pub parts_text-append : (before : Bool) (parts more : List (List ℕ))
    → parts_text before (parts ++ more)
    ≡ parts_text before parts ++ parts_text (before || has_parts parts) more
parts_text-append true [] more = refl
parts_text-append false [] more = refl
parts_text-append true (part ∷ parts) more =
    rw (parts_text-append true parts more, append_assoc (comma true), append_assoc part) refl
parts_text-append false (part ∷ parts) more =
    rw (parts_text-append true parts more, append_assoc part) refl

pub has_parts_append : (parts more : List (List ℕ))
    → has_parts (parts ++ more) ≡ (has_parts parts || has_parts more)
has_parts_append [] more = refl
has_parts_append (part ∷ parts) more = refl

-- the parts of two lists are appended one after the other
pub pushed_both : (before said : Bool) (parts more : List (List ℕ)) (text middle after : List ℕ)
    → said ≡ (before || has_parts parts) → middle ≡ text ++ parts_text before parts
    → after ≡ middle ++ parts_text said more
    → after ≡ text ++ parts_text before (parts ++ more)
pushed_both before said parts more text middle after said_is middle_is after_is =
    rw (after_is, middle_is, said_is, append_assoc text, parts_text-append before parts more) refl

-- the first of the remaining parts are appended
pub pushed_parts : (before said : Bool) (parts more : List (List ℕ)) (text all : List ℕ)
    → text ++ parts_text (before || said) (parts ++ more) ≡ all
    → (text ++ parts_text (before || said) parts)
    ++ parts_text (before || (said || has_parts parts)) more ≡ all
pushed_parts true said parts more text all h =
    rw (append_assoc text, ← parts_text-append true parts more) h
pushed_parts false said parts more text all h =
    rw (append_assoc text) (rw (parts_text-append said parts more) at h)

pub said_parts : (said : Bool) (parts more : List (List ℕ)) (all : Bool)
    → (said || has_parts (parts ++ more)) ≡ all → ((said || has_parts parts) || has_parts more) ≡ all
said_parts true parts more all h = h
said_parts false [] more all h = h
said_parts false (part ∷ parts) more all h = h

-- the text of the fields from an index: that of the first, then that of the others
pub fields_text-drop : (fields : List Field) (i : ℕ) (d : Field) (event : EventData) (byte : ℕ)
    → i < length fields → fields_text (map said_by (drop i fields)) event byte
    ≡ field_parts (said_by (get_or fields i d)) event byte ++ fields_text (map said_by (drop (i + 1) fields)) event byte
unfolding fields_text
fields_text-drop fields i d event byte below = ap (λ rest. fields_text (map said_by rest) event byte) (drop_more fields i d below)

pub has_parts_or_raw : (byte : Byte) (value : ℕ) (parts : List (List ℕ))
    → has_parts (or_raw byte value parts) ≡ true
has_parts_or_raw byte value [] = refl
has_parts_or_raw byte value (part ∷ parts) = refl
