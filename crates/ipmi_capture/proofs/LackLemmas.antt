-- What an image notes of the items that were left out.
use Rattle.std.proofs.Common.{◌≡◌, ◌∷◌, [], List, filter_map, not, refl}
use Rattle.std.specs.List.{list_all}
use Rattle.ipmi_image.specs.Snapshot.{is_partial}
use Rattle.ipmi_capture.specs.Below.{Cycle, GaveUp, Malformed, Missing, Refused, Stalled}
use Rattle.ipmi_capture.specs.Lacks.{lack_of}
use Rattle.ipmi_capture.specs.Left.{leaves_whole}
use Rattle.ipmi_capture.specs.declared.left.Left.{Left}

-- an image is partial if it is not whole
pub partial_or_whole : (left : List Left) → is_partial (filter_map lack_of left) ≡ not (list_all leaves_whole left)
partial_or_whole [] = refl
partial_or_whole (l ∷ left) = by l (partial_or_whole left)
  where
    by : (l : Left) → is_partial (filter_map lack_of left) ≡ not (list_all leaves_whole left)
        → is_partial (filter_map lack_of (l ∷ left)) ≡ not (list_all leaves_whole (l ∷ left))
    by (Left.Records shelf (Cycle n)) more = more
    by (Left.Records shelf (Missing n)) more = refl
    by (Left.Records shelf (GaveUp n)) more = refl
    by (Left.Records shelf (Refused n code)) more = refl
    by (Left.Records shelf (Stalled n)) more = refl
    by (Left.Records shelf (Malformed n)) more = refl
    by (Left.Info shelf unread) more = more
    by (Left.Reading lun number unread) more = more
    by (Left.Size id code) more = more
    by (Left.Empty id) more = more
    by (Left.CutOff id) more = refl
    by (Left.Inventory id ended) more = refl
