-- The characters of a column.
use Rattle.std.proofs.Common.{◌≡◌, ℕ, List, if◌then◌else◌, refl}
use Rattle.std.proofs.lemmas.List.Recursion.{is_sum_by}
use Rattle.std.specs.Fmt.{char_count, is_char_start}
use Rattle.std.specs.List.{count_by}

pub char_count_is : (bs : List ℕ) → char_count bs ≡ count_by is_char_start bs
unfolding char_count
char_count_is = is_sum_by char_count (λ b. if is_char_start b then 1 else 0) refl (λ b bs. refl)
