-- The statements of the laws of metrics.
use Rattle.std.specs.Prelude.{◌≡◌, ℕ, Bool, Option, List, [], ◌∷◌, ◌++◌, codes, map}
use Rattle.std.specs.List.{IsDistinct}
use Rattle.std.specs.Str.{bytes_eq}
use Rattle.ipmi_sensors.specs.Sensors.{Found}
use Rattle.ipmi_metrics.specs.Families.{families, family_name}
use Rattle.ipmi_metrics.specs.Metrics.{IsMetricsText}
use Rattle.ipmi_metrics.specs.declared.text.Dialect.{Dialect}

-- the names of all families, in the order in which they are printed
abbrev pub all_names : List (List ℕ)
all_names =
    map family_name families ++ (codes "ipmi_sdr_faulty_records" ∷ codes "ipmi_sel_entries"
    ∷ codes "ipmi_sel_free_space_bytes" ∷ codes "ipmi_up" ∷ [])

abbrev pub NamesAreDistinct : Type 0
NamesAreDistinct = IsDistinct bytes_eq all_names

abbrev pub MetricsTextIsUnique : Type 0
MetricsTextIsUnique = (found : List Found) (info : Option (List ℕ)) (is_up : Bool) (dialect : Dialect) (text other : List ℕ)
    → IsMetricsText found info is_up dialect text → IsMetricsText found info is_up dialect other → text ≡ other
