-- The words of events (IPMI v2.0, section 42.1 and table 42-2).
use Rattle.std.specs.Prelude.{ℕ, ◌%◌, ◌==◌, List, [], ◌∷◌, ◌++◌, codes, Option, None, slice_get, unwrap_or, if◌then◌else◌, false}
use Rattle.std.specs.Fmt.{digit_glyph}
use Rattle.ipmi_text.specs.Hex.{hex_byte}

-- the words of an event by its offset, starting at 0; only threshold events (type 01h) have words
-- here
abbrev pub event_name : ℕ → ℕ → Option (List ℕ)
event_name event offset =
    if event == 1
    then slice_get
    (codes "Lower Non-critical going low" ∷
    codes "Lower Non-critical going high" ∷
    codes "Lower Critical going low" ∷
    codes "Lower Critical going high" ∷
    codes "Lower Non-recoverable going low" ∷
    codes "Lower Non-recoverable going high" ∷
    codes "Upper Non-critical going low" ∷
    codes "Upper Non-critical going high" ∷
    codes "Upper Critical going low" ∷
    codes "Upper Critical going high" ∷
    codes "Upper Non-recoverable going low" ∷
    codes "Upper Non-recoverable going high" ∷ []) offset
    else None

-- the words, or else `event 0xTT offset 0xO`; the offset is bits 3:0 of the event's first data byte
abbrev pub event_text_of : ℕ → ℕ → List ℕ
event_text_of event data1 =
    unwrap_or (event_name event (data1 % 16))
    (codes "event 0x" ++ hex_byte event ++ codes " offset 0x"
    ++ digit_glyph false (data1 % 16) ∷ [])
