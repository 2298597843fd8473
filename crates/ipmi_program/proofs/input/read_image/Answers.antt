-- If the bytes of the reader are known, all were read, as there were at most as many as allowed.
use Rattle.std.proofs.Common.{◌≡◌, ◌∙◌, ℕ, ◌<◌, Option, None, Some, IfSome, List, [], ◌++◌, length, take, ap, arith, option_map, take_all, length-take}
use Rattle.ipmi_program.proofs.input.read_image.Goals as goal

whole : (n : ℕ) (o : Option (List ℕ)) (bytes : List ℕ) → length bytes < n
    → IfSome (option_map (take n) o) (λ read. bytes ≡ [] ++ read) → IfSome o (λ all. bytes ≡ all)
whole n None bytes short is = tt
whole n (Some all) bytes short is = is ∙ take_all n all (omega (arith, ap length is, length-take n all, short))

pub returns-clause-all : goal.returns-clause-all
returns-clause-all g c =
    let read = c.read_to_end.new.buf in
    let short : length read.items < 67108865 = omega (arith, c.if-len-gt-MOST_BYTES.false, c.len.ensures, read.ok.0) in
    rw c.shrink_to_fit.ensures.items (whole 67108865 (g.R.Read.remaining c.args.reader) read.items short
    (rw (c.take.ensures.limit, c.take.ensures.inner, c.new-bytes.ensures.items) at c.in_ok-read_to_end.ensures.bytes))
