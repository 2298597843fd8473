use Rattle.std.proofs.Common.{◌∙◌, ◌^◌, ◌≡◌, arith, pos, refl, slice_index_or, to_z, of_z, to_z-of_z}
use Rattle.std.specs.Int.{w128}
use Rattle.std.proofs.lemmas.Int.{fits_signed_from_abs, ints}
use Rattle.ipmi_text.proofs.ReadingLemmas.{unsigned_abs-ten_to}
use Rattle.ipmi_text.proofs.TableLemmas.{entry_at}
use Rattle.ipmi_text.proofs.factors.ten_to.Goals as goal

pub returns : goal.returns
returns c =
    rw (entry_at (λ exponent. pos (10 ^ exponent)) _ (pos 0) 31 c.args.exponent refl c.requires)
    (to_z-of_z (fits_signed_from_abs w128 (pos (10 ^ c.args.exponent))
    (omega (arith, unsigned_abs-ten_to (pos c.args.exponent) (omega (arith, ints)) (omega (arith, ints, c.requires))))))
