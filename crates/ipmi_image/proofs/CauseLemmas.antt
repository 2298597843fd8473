-- Each fault of an image has a cause.
use Rattle.std.proofs.Common.{◌≡◌, ℕ, ◌+◌, ◌-◌, Bool, true, false, cond, not, Option, Some, None, is_some, Result, Ok, Err, IfErr, IfSome, List, [], ◌∷◌, ◌++◌, length, length-append, append_assoc, nat_lt, ◌==◌, refl, sym, ap, ◌∙◌, arith, codes, bytes_eq, slice_get, unwrap_or}
use Rattle.std.proofs.lemmas.Option.{unwrap_or-slice_get}
use Rattle.std.proofs.Math.Seq.{get_or-append_seam}
use Rattle.ipmi_image.specs.Below.{Sdr, Sel, Shelf, Store, has_id, inventory_of, info_of, reading_of, rows_of}
use Rattle.ipmi_image.specs.Prelude.{a_reading, a_row, an_info, an_inventory, at_line, begins_with_another, cause_of, end_line, ends_here, fault_in, first_fault, ImageFault, info_line, inventory_line, is_end, is_no_id, is_no_record, Line, line_at, line_judged, line_of, line_of_fields, LineCause, LineFault, numbered_cause, pieces, read_cause, reading_line, row_line, SavedRow, store_after, store_of_image, store_of_lines, store_of_pieces, the_end, Version, version_in, with_three, with_two}
use Rattle.ipmi_image.proofs.ReadLemmas.{after_line, line_judged-err, line_judged-found, unless_fault}

-- ---- a line that cannot be read

abbrev IsInvalid : LineFault → Type 0
IsInvalid (LineFault.Line cause) = Unit {0}
IsInvalid (LineFault.Hex cause) = Unit {0}
IsInvalid fault = ⊥

row_line-invalid : (version : Version) (shelf : Shelf) (a b c : List ℕ)
    → IfErr (row_line version shelf a b c) IsInvalid
row_line-invalid version shelf a b c = grind arith

inventory_line-invalid : (a b : List ℕ) → IfErr (inventory_line a b) IsInvalid
inventory_line-invalid a b = grind arith

reading_line-invalid : (a b c : List ℕ) → IfErr (reading_line a b c) IsInvalid
reading_line-invalid a b c = grind arith

info_line-invalid : (a b : List ℕ) → IfErr (info_line a b) IsInvalid
info_line-invalid a b = grind arith

with_two-invalid : (cause : LineCause) (line : List ℕ → List ℕ → Result Line LineFault)
    → ((a b : List ℕ) → IfErr (line a b) IsInvalid) → (fields : List (List ℕ))
    → IfErr (with_two cause line fields) IsInvalid
with_two-invalid cause line h (a ∷ b ∷ []) = h a b
with_two-invalid cause line h _ = tt

with_three-invalid : (cause : LineCause) (line : List ℕ → List ℕ → List ℕ → Result Line LineFault)
    → ((a b c : List ℕ) → IfErr (line a b c) IsInvalid) → (fields : List (List ℕ))
    → IfErr (with_three cause line fields) IsInvalid
with_three-invalid cause line h (a ∷ b ∷ c ∷ []) = h a b c
with_three-invalid cause line h _ = tt

end_line-invalid : (fields : List (List ℕ)) → IfErr (end_line fields) IsInvalid
end_line-invalid [] = tt
end_line-invalid (field ∷ fields) = tt

line_of_fields-invalid : (version : Version) (fields : List (List ℕ))
    → IfErr (line_of_fields version fields) IsInvalid
line_of_fields-invalid version [] = tt
line_of_fields-invalid version (word ∷ fields) =
    by (bytes_eq word (codes "sdr")) (bytes_eq word (codes "sel")) (bytes_eq word (codes "fru"))
    (bytes_eq word (codes "reading")) (bytes_eq word (codes "info")) (bytes_eq word (codes "end"))
  where
    by : (a b c d e f : Bool) → IfErr (cond a (with_three LineCause.RowFields (row_line version Sdr) fields)
        (cond b (with_three LineCause.RowFields (row_line version Sel) fields)
        (cond c (with_two LineCause.InventoryFields inventory_line fields)
        (cond d (with_three LineCause.ReadingFields reading_line fields)
        (cond e (with_two LineCause.InfoFields info_line fields) (cond f (end_line fields) (Err (LineFault.Line LineCause.FirstWord)))))))) IsInvalid
    by true b c d e f = with_three-invalid LineCause.RowFields (row_line version Sdr) (row_line-invalid version Sdr) fields
    by false true c d e f = with_three-invalid LineCause.RowFields (row_line version Sel) (row_line-invalid version Sel) fields
    by false false true d e f = with_two-invalid LineCause.InventoryFields inventory_line inventory_line-invalid fields
    by false false false true e f = with_three-invalid LineCause.ReadingFields reading_line reading_line-invalid fields
    by false false false false true f = with_two-invalid LineCause.InfoFields info_line info_line-invalid fields
    by false false false false false true = end_line-invalid fields
    by false false false false false false = tt

line_of-invalid : (version : Version) (text : List ℕ) → IfErr (line_of version text) IsInvalid
unfolding line_of
line_of-invalid version text = line_of_fields-invalid version (pieces 32 text)

-- ---- a line that can be read

-- the line has a cause for this fault, or the fault has one whatever its line is
abbrev is_known : ImageFault → List ℕ → Result Line LineFault → Bool
is_known ImageFault.Memory text read = false
is_known (ImageFault.FirstId n) text read = true
is_known (ImageFault.TooMany n) text read = true
is_known fault text read = is_some (read_cause fault text read)

-- what a line that was read is after earlier lines
abbrev judged : Store → Result Line LineFault → Result Line LineFault
judged store (Ok line) = unless_fault (fault_in store line) line
judged store (Err fault) = Err fault

judged_is : (version : Version) (before : List Line) (text : List ℕ)
    → line_judged version before text ≡ judged (store_of_lines before) (line_of version text)
judged_is version before text = by (line_of version text) refl
  where
    by : (r : Result Line LineFault) → line_of version text ≡ r
        → line_judged version before text ≡ judged (store_of_lines before) r
    by (Err fault) is = line_judged-err version before text fault is
    by (Ok line) is = line_judged-found version before text line (fault_in (store_of_lines before) line) is refl

module _ (n : ℕ) (text : List ℕ) where
  abbrev IsKnown : Line → LineFault → Type 0
  IsKnown line fault = is_known (at_line n fault) text (Ok line) ≡ true

  row_known : (shelf : Shelf) (row : SavedRow) (a b c d : Bool)
      → IfSome (first_fault ((a, LineFault.Id) ∷ (b, LineFault.Twice) ∷ (c, LineFault.Length) ∷ (d, LineFault.FirstId) ∷ [])) (IsKnown (a_row shelf row))
  row_known shelf row true b c d = refl
  row_known shelf row false true c d = refl
  row_known Sdr row false false true d = refl
  row_known Sel row false false true d = refl
  row_known shelf row false false false true = refl
  row_known shelf row false false false false = tt

  inventory_known : (id : ℕ) (bytes : List ℕ) (a b : Bool)
      → IfSome (first_fault ((a, LineFault.Id) ∷ (b, LineFault.TooMany) ∷ [])) (IsKnown (an_inventory id bytes))
  inventory_known id bytes true b = refl
  inventory_known id bytes false true = refl
  inventory_known id bytes false false = tt

  reading_known : (lun number : ℕ) (bytes : List ℕ) (a b c : Bool)
      → IfSome (first_fault ((a, LineFault.Id) ∷ (b, LineFault.Twice) ∷ (c, LineFault.Length) ∷ [])) (IsKnown (a_reading lun number bytes))
  reading_known lun number bytes true b c = refl
  reading_known lun number bytes false true c = refl
  reading_known lun number bytes false false true = refl
  reading_known lun number bytes false false false = tt

  info_known : (shelf : Shelf) (bytes : List ℕ) (a b : Bool)
      → IfSome (first_fault ((a, LineFault.Twice) ∷ (b, LineFault.Length) ∷ [])) (IsKnown (an_info shelf bytes))
  info_known shelf bytes true b = refl
  info_known shelf bytes false true = refl
  info_known shelf bytes false false = tt

  fault_known : (store : Store) (line : Line) → IfSome (fault_in store line) (IsKnown line)
  fault_known store (a_row shelf row) =
      let rows = rows_of shelf store in
      row_known shelf row (is_no_id rows row.id) (has_id rows row.id) (is_no_record shelf row.bytes) (begins_with_another rows row)
  fault_known store (an_inventory id bytes) =
      inventory_known id bytes (id == 255) (nat_lt 65535 (length (unwrap_or (inventory_of id store) []) + length bytes))
  fault_known store (a_reading lun number bytes) =
      reading_known lun number bytes (nat_lt 3 lun) (is_some (reading_of lun number store)) (not (length bytes == 4))
  fault_known store (an_info shelf bytes) =
      info_known shelf bytes (is_some (info_of shelf store)) (not (length bytes == 14))
  fault_known store the_end = tt

  judged_known : (store : Store) (read : Result Line LineFault) → IfErr read IsInvalid
      → IfErr (judged store read) (λ fault. is_known (at_line n fault) text read ≡ true)
  judged_known store (Err (LineFault.Line cause)) is = refl
  judged_known store (Err (LineFault.Hex cause)) is = refl
  judged_known store (Err LineFault.Memory) is = absurd is
  judged_known store (Err LineFault.Id) is = absurd is
  judged_known store (Err LineFault.Twice) is = absurd is
  judged_known store (Err LineFault.Length) is = absurd is
  judged_known store (Err LineFault.FirstId) is = absurd is
  judged_known store (Err LineFault.TooMany) is = absurd is
  judged_known store (Ok line) is = by (fault_in store line) (fault_known store line)
    where
      by : (f : Option LineFault) → IfSome f (IsKnown line)
          → IfErr (unless_fault f line) (λ fault. is_known (at_line n fault) text (Ok line) ≡ true)
      by None known = tt
      by (Some fault) known = known

-- ---- the image

module _ (bytes : List ℕ) (version : Version) (first : version_in (line_at bytes 1) ≡ Some version) where
  numbered_known : (fault : ImageFault) (n : ℕ)
      → is_some (read_cause fault (line_at bytes n) (line_of version (line_at bytes n))) ≡ true
      → is_some (numbered_cause bytes fault n) ≡ true
  numbered_known fault n known = grind (arith, first, known)

  line_known : (fault : LineFault) (n : ℕ)
      → is_known (at_line n fault) (line_at bytes n) (line_of version (line_at bytes n)) ≡ true
      → is_some (cause_of bytes (at_line n fault)) ≡ true
  line_known LineFault.Memory n known = known
  line_known (LineFault.Line cause) n known = numbered_known (ImageFault.Line n) n known
  line_known (LineFault.Hex cause) n known = numbered_known (ImageFault.Hex n) n known
  line_known LineFault.Id n known = numbered_known (ImageFault.Id n) n known
  line_known LineFault.Twice n known = numbered_known (ImageFault.Twice n) n known
  line_known LineFault.Length n known = numbered_known (ImageFault.Length n) n known
  line_known LineFault.FirstId n known = refl
  line_known LineFault.TooMany n known = refl

  abbrev HasCause : ImageFault → Type 0
  HasCause fault = is_some (cause_of bytes fault) ≡ true

  line_is : (done : List (List ℕ)) (text : List ℕ) (rest : List (List ℕ)) (n : ℕ)
      → pieces 10 bytes ≡ done ++ text ∷ rest → length done + 1 ≡ n → line_at bytes n ≡ text
  line_is done text rest n cut len =
      let at : n - 1 ≡ length done = omega (arith, len) in
      unwrap_or-slice_get (pieces 10 bytes) (n - 1) [] ∙ rw (cut, at) (get_or-append_seam done text rest [])

  known_after : (done : List (List ℕ)) (before : List Line) (texts : List (List ℕ))
      → pieces 10 bytes ≡ done ++ texts → length done ≡ length before + 1
      → IfErr (store_after version before texts) HasCause
  unfolding store_after
  known_after done before (text ∷ (following ∷ rest)) cut len =
      by (λ line. known_after (done ++ text ∷ []) (before ++ line ∷ []) (following ∷ rest) (cut ∙ sym (append_assoc done (text ∷ []) (following ∷ rest)))
      (let a = length-append done (text ∷ []) in let b = length-append before (line ∷ []) in omega (arith, a, b, len)))
      (line_judged version before text)
      (rw (judged_is version before text) (judged_known (length before + 2) text (store_of_lines before) (line_of version text) (line_of-invalid version text)))
    where
      last : (line : Line)
          → IfErr (store_after version (before ++ line ∷ []) (following ∷ rest)) HasCause
          → (end here : Bool)
          → IfErr (cond (not end) (store_after version (before ++ line ∷ []) (following ∷ rest))
          (cond here (Ok (store_of_lines before)) (Err (ImageFault.AfterEnd (length before + 3)))))
          HasCause
      last line more false here = more
      last line more true true = tt
      last line more true false = refl

      by : ((line : Line) → IfErr (store_after version (before ++ line ∷ []) (following ∷ rest)) HasCause)
          → (r : Result Line LineFault)
          → IfErr r (λ fault. is_known (at_line (length before + 2) fault) text (line_of version text) ≡ true)
          → IfErr (after_line version before (following ∷ rest) r) HasCause
      by more (Err fault) known = line_known fault (length before + 2) (rw (line_is done text (following ∷ rest) (length before + 2) cut (omega (arith, len))) known)
      by more (Ok line) known = last line (more line) (is_end line) (ends_here (following ∷ rest))
  known_after done before _ cut len = refl

pub image_has_cause : (bytes : List ℕ)
    → IfErr (store_of_image bytes) (λ fault. is_some (cause_of bytes fault) ≡ true)
image_has_cause bytes = by (pieces 10 bytes) refl
  where
    of_version : (first : List ℕ) (rest : List (List ℕ)) → pieces 10 bytes ≡ first ∷ rest
        → (v : Option Version) → version_in first ≡ v
        → IfErr (elim v [ Some version ↦ store_after version [] rest | None ↦ Err ImageFault.Header ])
        (λ fault. is_some (cause_of bytes fault) ≡ true)
    of_version first rest cut None is = refl
    of_version first rest cut (Some version) is =
        known_after bytes version (ap version_in (ap (λ l. unwrap_or (slice_get l 0) []) cut) ∙ is) (first ∷ []) [] rest cut refl

    by : (l : List (List ℕ)) → pieces 10 bytes ≡ l → IfErr (store_of_pieces l) (λ fault. is_some (cause_of bytes fault) ≡ true)
    by (first ∷ (following ∷ rest)) cut = of_version first (following ∷ rest) cut (version_in first) refl
    by _ cut = refl
