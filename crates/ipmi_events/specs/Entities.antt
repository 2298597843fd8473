-- The names of entities (IPMI v2.0, table 43-13).
use Rattle.std.specs.Prelude.{ℕ, List, [], ◌∷◌, ◌++◌, codes, decimal, Option, unwrap_or}
use Rattle.ipmi_text.specs.Hex.{hex_byte}
use Rattle.ipmi_records.specs.declared.entity.Entity.{Entity}
use Rattle.ipmi_events.specs.Table.{reserved, words_at}

-- The names, starting at entity id 00h, some of them shortened. 40h to 42h repeat 37h, 03h and 07h
-- (for DCMI). There are no names from 43h: ids to 8Fh are reserved, to AFh chassis-specific, to CFh
-- board-set-specific, to FFh OEM.
abbrev pub entities : List (List ℕ)
entities =
    codes "unspecified" ∷
    codes "other" ∷
    codes "unknown" ∷
    codes "processor" ∷
    codes "disk or disk bay" ∷
    codes "peripheral bay" ∷
    codes "system management module" ∷
    codes "system board" ∷
    codes "memory module" ∷
    codes "processor module" ∷
    codes "power supply" ∷
    codes "add-in card" ∷
    codes "front panel board" ∷
    codes "back panel board" ∷
    codes "power system board" ∷
    codes "drive backplane" ∷
    codes "system internal expansion board" ∷
    codes "other system board" ∷
    codes "processor board" ∷
    codes "power unit" ∷
    codes "power module" ∷
    codes "power management / power distribution board" ∷
    codes "chassis back panel board" ∷
    codes "system chassis" ∷
    codes "sub-chassis" ∷
    codes "other chassis board" ∷
    codes "disk drive bay" ∷
    codes "peripheral bay" ∷
    codes "device bay" ∷
    codes "fan" ∷
    codes "cooling unit" ∷
    codes "cable" ∷
    codes "memory device" ∷
    codes "system management software" ∷
    codes "system firmware" ∷
    codes "operating system" ∷
    codes "system bus" ∷
    codes "group" ∷
    codes "remote management device" ∷
    codes "external environment" ∷
    codes "battery" ∷
    codes "processing blade" ∷
    codes "connectivity switch" ∷
    codes "processor/memory module" ∷
    codes "I/O module" ∷
    codes "processor/I/O module" ∷
    codes "management controller firmware" ∷
    codes "IPMI channel" ∷
    codes "PCI bus" ∷
    codes "PCI Express bus" ∷
    codes "SCSI bus" ∷
    codes "SATA/SAS bus" ∷
    codes "processor/front-side bus" ∷
    codes "real time clock" ∷
    reserved ∷
    codes "air inlet" ∷
    reserved ∷
    reserved ∷
    reserved ∷
    reserved ∷
    reserved ∷
    reserved ∷
    reserved ∷
    reserved ∷
    codes "air inlet" ∷
    codes "processor" ∷
    codes "system board" ∷ []

abbrev pub entity_name : ℕ → Option (List ℕ)
entity_name id = words_at entities id

-- the name of an entity, or else `entity 0xNN`
abbrev pub entity_words : ℕ → List ℕ
entity_words id = unwrap_or (entity_name id) (codes "entity 0x" ++ hex_byte id)

-- an entity: its name, and its instance
abbrev pub entity_in_words : Entity → List ℕ
entity_in_words entity = entity_words entity.id ++ (codes " " ++ decimal entity.instance)
