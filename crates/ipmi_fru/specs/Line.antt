-- The line of a FRU device (the project's own).
use Rattle.std.specs.Prelude.{◌≡◌, ℕ, ◌==◌, ◌&&◌, Bool, if◌then◌else◌, Option, Some, None, unwrap_or, Result, Ok, List, [], ◌∷◌, ◌++◌, length, codes, decimal, string_bytes}
use Rattle.ipmi_text.specs.FieldText.{fru_text_of}
use Rattle.ipmi_fru.specs.declared.header.FruFault.{FruFault}
use Rattle.ipmi_fru.specs.declared.area.AreaFault.{AreaFault}
use Rattle.ipmi_fru.specs.declared.area.AreaKind.TheVariants.{Board, Product}
use Rattle.ipmi_fru.specs.declared.line.Identity.{Identity}
use Rattle.ipmi_fru.specs.Header.{header_fault}
use Rattle.ipmi_fru.specs.Field.{AreaField}
use Rattle.ipmi_fru.specs.Area.{Area, IsFound, field_at, part_number_index, product_name_index, serial_number_index}
use Rattle.ipmi_fru.specs.Print.{language_of}

-- ---- what a line shows of an inventory

-- the name, the part number and the serial number of a product
pub record IdentityTexts : Type 0 where
  pub name : List ℕ
  pub part_number : List ℕ
  pub serial : List ℕ

abbrev pub texts_of : Identity → IdentityTexts
texts_of identity = record {
  name = string_bytes identity.name;
  part_number = string_bytes identity.part_number;
  serial = string_bytes identity.serial;
}

abbrev pub text_of : ℕ → Option AreaField → List ℕ
text_of language None = []
text_of language (Some field) = fru_text_of field.code language field.bytes

-- the texts of an area; empty if there is no area, no such field, or a fault
abbrev pub identity_in : Option (Result Area AreaFault) → IdentityTexts
identity_in (Some (Ok area)) = record {
  name = text_of (language_of area.kind area.bytes) (field_at (product_name_index area.kind) area.fields);
  part_number = text_of (language_of area.kind area.bytes) (field_at (part_number_index area.kind) area.fields);
  serial = text_of (language_of area.kind area.bytes) (field_at (serial_number_index area.kind) area.fields);
}
identity_in _ = record { name = []; part_number = []; serial = [] }

abbrev pub is_blank : IdentityTexts → Bool
is_blank texts = length texts.name == 0 && (length texts.part_number == 0 && length texts.serial == 0)

-- the texts of the product area, or of the board area if all of those are empty; never some of each
abbrev pub product_or_board : IdentityTexts → IdentityTexts → IdentityTexts
product_or_board product board = if is_blank product then board else product

abbrev pub or_dash : List ℕ → List ℕ
or_dash [] = codes "-"
or_dash (character ∷ text) = character ∷ text

-- ---- the line

-- the line of a device without a readable inventory
abbrev pub bare_line : ℕ → List ℕ → List ℕ → List ℕ
bare_line id name state =
    decimal id ++ (codes " | " ++ (name ++ (codes " | " ++ (state ++ codes " | - | - | -\n"))))

-- the line of a device that is reached by another controller, which is not asked
abbrev pub elsewhere_line : List ℕ → List ℕ
elsewhere_line name = codes "- | " ++ (or_dash name ++ codes " | elsewhere | - | - | -\n")

abbrev pub present_line : ℕ → List ℕ → IdentityTexts → List ℕ
present_line id name texts =
    decimal id ++ (codes " | " ++ (name ++ (codes " | present | "
    ++ (or_dash texts.name ++ (codes " | "
    ++ (or_dash texts.part_number ++ (codes " | "
    ++ (or_dash texts.serial ++ codes "\n"))))))))

pub record IsPresentLine (id : ℕ) (name bytes text : List ℕ) : Type 0 where
  pub product : Option (Result Area AreaFault)
  pub board : Option (Result Area AreaFault)
  pub is_product : IsFound Product bytes product
  pub is_board : IsFound Board bytes board
  pub text_is : text ≡ present_line id name (product_or_board (identity_in product) (identity_in board))

abbrev pub IsLineByFault : Option FruFault → ℕ → List ℕ → List ℕ → List ℕ → Type 0
IsLineByFault None id name bytes text = IsPresentLine id name bytes text
IsLineByFault (Some fault) id name bytes text = text ≡ bare_line id name (codes "faulty")

-- the line of a device that is not present, whose header has a fault, or that is present
abbrev pub IsFruLine : ℕ → Option (List ℕ) → Option (List ℕ) → List ℕ → Type 0
IsFruLine id name None text =
    text ≡ bare_line id (or_dash (unwrap_or name [])) (codes "not present")
IsFruLine id name (Some bytes) text =
    IsLineByFault (header_fault bytes) id (or_dash (unwrap_or name [])) bytes text
