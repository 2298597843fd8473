-- The names of chassis types (Platform Management FRU Information Storage Definition v1.0, section 10).
use Rattle.std.specs.Prelude.{ℕ, List, [], ◌∷◌, codes}
use Rattle.ipmi_text.specs.Names.{name_from_one, name_or_code}

-- the names, starting at type 01h
abbrev pub chassis_types : List (List ℕ)
chassis_types =
    codes "Other" ∷
    codes "Unknown" ∷
    codes "Desktop" ∷
    codes "Low Profile Desktop" ∷
    codes "Pizza Box" ∷
    codes "Mini Tower" ∷
    codes "Tower" ∷
    codes "Portable" ∷
    codes "Laptop" ∷
    codes "Notebook" ∷
    codes "Hand Held" ∷
    codes "Docking Station" ∷
    codes "All in One" ∷
    codes "Sub Notebook" ∷
    codes "Space-saving" ∷
    codes "Lunch Box" ∷
    codes "Main Server Chassis" ∷
    codes "Expansion Chassis" ∷
    codes "SubChassis" ∷
    codes "Bus Expansion Chassis" ∷
    codes "Peripheral Chassis" ∷
    codes "RAID Chassis" ∷
    codes "Rack Mount Chassis" ∷ []

-- the name of a type, or else `type 0xNN`
abbrev pub chassis_text_of : ℕ → List ℕ
chassis_text_of code = name_or_code (name_from_one chassis_types code) (codes "type") code
