use Rattle.std.proofs.Common.{◌<◌, arith}
use Rattle.std.proofs.lemmas.List.Elements.{All-from_get_or}
use Rattle.ipmi_image.proofs.builder.are_bytes.Goals as goal

pub returns : goal.returns
returns c = All-from_get_or (λ b. b < 256) _ 0 (λ k lt. omega (arith, c.type_inv._bytes k))
