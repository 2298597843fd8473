-- A row is what the crate `csv` writes, so its reader reads it.
use Rattle.std.proofs.Common.{◌≡◌, ◌∙◌, ◌==◌, ◌||◌, ◌++◌, ◌∷◌, [], ℕ, Bool, true, false, if◌then◌else◌, List, ap, append_assoc, codes, flat_map, refl, sym}
use Rattle.std.specs.List.{list_any}
use Rattle.std.proofs.lemmas.Bool.{eqb-true}
use Rattle.csv.specs.Writing.{default_writer, escaped, field_text, fields_text, is_blank, needs_byte, row_text}
use Rattle.csv.proofs.RoundTrip.{read-write-many}
use Rattle.ipmi_csv.specs.Cells.{csv_cell, csv_row, doubled, needs_quotes, next_cell}
use Rattle.ipmi_csv.specs.Laws.{RowsReadBack}
use Rattle.ipmi_command_line.specs.declared.request.Separator.{Separator}

or-same : (a b c d : Bool) → (a || b || (c || d) || false || false) ≡ (a || (b || (c || d)))
or-same true b c d = refl
or-same false true c d = refl
or-same false false true d = refl
or-same false false false true = refl
or-same false false false false = refl

needs_same : (b : ℕ) → needs_byte default_writer b ≡ needs_quotes Separator.Comma b
needs_same b = or-same (b == 44) (b == 34) (b == 13) (b == 10)

any_same : (text : List ℕ)
    → list_any (needs_byte default_writer) text ≡ list_any (needs_quotes Separator.Comma) text
any_same [] = refl
any_same (b ∷ rest) = rw (needs_same b, any_same rest) refl

doubled_same : (test : Bool) (b : ℕ) (more : List ℕ) → (test ≡ true → b ≡ 34)
    → (if test then 34 ∷ b ∷ more else b ∷ more) ≡ (if test then 34 ∷ 34 ∷ [] else b ∷ []) ++ more
doubled_same true b more is = ap (λ byte. 34 ∷ byte ∷ more) (is refl)
doubled_same false b more is = refl

escaped_same : (text : List ℕ) → escaped default_writer text ≡ flat_map doubled text
unfolding escaped
escaped_same [] = refl
escaped_same (b ∷ rest) =
    doubled_same (b == 34) b (escaped default_writer rest) (eqb-true b 34)
    ∙ ap (λ more. doubled b ++ more) (escaped_same rest)

cell_same : (text : List ℕ) → field_text default_writer text ≡ csv_cell Separator.Comma text
cell_same text = rw (any_same text, escaped_same text) refl

fields_same : (texts : List (List ℕ)) → fields_text default_writer texts ≡ flat_map (next_cell Separator.Comma) texts
unfolding fields_text
fields_same [] = refl
fields_same (text ∷ texts) = rw (cell_same text, fields_same texts) refl

row_same : (first next : List ℕ) (texts : List (List ℕ))
    → csv_row Separator.Comma (first ∷ next ∷ texts) ≡ row_text default_writer (first ∷ next ∷ texts)
unfolding is_blank
row_same first next texts =
    rw (cell_same first, fields_same (next ∷ texts))
    (sym (append_assoc (csv_cell Separator.Comma first) (flat_map (next_cell Separator.Comma) (next ∷ texts)) (codes "\n")))

pub rows_read : RowsReadBack
rows_read first next texts after = rw (row_same first next texts) (read-write-many first next texts after)
