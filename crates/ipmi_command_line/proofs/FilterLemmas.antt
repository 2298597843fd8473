-- The parts of a text, lent or as texts.
use Rattle.std.proofs.Common.{◌≡◌, ◌∙◌, ◌==◌, ◌&&◌, ap, refl, sym, true, false, Bool, Bor, cond, List, [], ◌∷◌, Option, Some, None}
use Rattle.std.specs.List.{cons_option, filter_map, list_all, slice_split}
use Rattle.clap.specs.Words.{Text}
use Rattle.ipmi_command_line.specs.Commands.{texts}
use Rattle.ipmi_command_line.specs.Filters.{id_range, ids_of, is_id_range}
use Rattle.ipmi_command_line.specs.declared.filters.IdRange.{IdRange}

pub all_of_texts : (passes : Text → Bool) (parts : List (Bor Text)) → list_all (λ part. passes part.now) parts ≡ list_all passes (texts parts)
all_of_texts passes [] = refl
all_of_texts passes (part ∷ parts) = ap (λ b. passes part.now && b) (all_of_texts passes parts)

pub those_of_texts : {A : Type 0} (read : Text → Option A) (parts : List (Bor Text))
    → filter_map (λ part. read part.now) parts ≡ filter_map read (texts parts)
those_of_texts read [] = refl
those_of_texts read (part ∷ parts) = ap (cons_option (read part.now)) (those_of_texts read parts)

chosen : (text : Text) (b : Bool) → list_all is_id_range (slice_split (λ b. b == 44) text) ≡ b
    → ids_of text ≡ cond b (Some (filter_map id_range (slice_split (λ b. b == 44) text))) None
chosen text b is = rw is refl

pub no_ids : (text : Text) (parts : List (Bor Text)) → texts parts ≡ slice_split (λ b. b == 44) text
    → list_all (λ part. is_id_range part.now) parts ≡ false → None ≡ ids_of text
no_ids text parts are none = sym (chosen text false (sym (all_of_texts is_id_range parts ∙ ap (list_all is_id_range) are) ∙ none))

pub some_ids : (text : Text) (parts : List (Bor Text)) (ranges : List IdRange) → texts parts ≡ slice_split (λ b. b == 44) text
    → list_all (λ part. is_id_range part.now) parts ≡ true
    → ranges ≡ filter_map (λ part. id_range part.now) parts → Some ranges ≡ ids_of text
some_ids text parts ranges are all is =
    ap (λ (r : List IdRange). Some r) (is ∙ those_of_texts id_range parts ∙ ap (filter_map id_range) are)
    ∙ sym (chosen text true (sym (all_of_texts is_id_range parts ∙ ap (list_all is_id_range) are) ∙ all))
