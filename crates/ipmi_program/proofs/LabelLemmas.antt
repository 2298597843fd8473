-- Labels and their keys.
use Rattle.std.proofs.Common.{◌≡◌, ℕ, List, [], ◌∷◌, arith, map, refl}
use Rattle.std.specs.List.{list_any}
use Rattle.std.specs.Prelude.{bytes_eq}
use Rattle.ipmi_json.specs.declared.object.Label.{Label}
use Rattle.ipmi_program.specs.Labels.{key_value}

pub any_has_key : (key : List ℕ) (labels : List Label)
    → list_any (λ label. bytes_eq label.key key) (map key_value labels) ≡ list_any (λ label. bytes_eq label.key.now key) labels
any_has_key key [] = refl
any_has_key key (label ∷ labels) = grind (arith, any_has_key key labels)
