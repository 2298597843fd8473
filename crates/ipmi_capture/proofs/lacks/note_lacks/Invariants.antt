use Rattle.std.proofs.Common.{◌≡◌, ◌++◌, drop, filter_map}
use Rattle.ipmi_capture.specs.Lacks.{lack_of}
use Rattle.ipmi_capture.proofs.lacks.note_lacks.Given as goal

-- What is noted so far, followed by the notes of the remaining items, is all that is noted.
abbrev pub invariant-left : goal.invariant-left
invariant-left l =
    l.lacks.items ++ filter_map lack_of (drop l.left-index l.left) ≡ l.fn.lacks.items ++ filter_map lack_of l.left
