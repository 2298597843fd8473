use Rattle.std.proofs.Common.{◌∙◌, ℕ, List, Option, true, subst, sym}
use Rattle.serdimko.specs.Images.{PrintsFile}
use Rattle.serdimko.specs.Out.{out_of}
use Rattle.serdimko.proofs.images.print_image.Goals as goal

pub returns-then-is_headed : goal.returns-then-is_headed
returns-then-is_headed g c = rw (sym c.is_headed.ensures ∙ c.if-is_headed.true) (
    subst (λ (file : Option (List ℕ)). PrintsFile true c.args.settings.now c.args.query file c.args.is_only_input
    (out_of c.args.out.now) (out_of c.print_headed.new.out) (g.E.MessageSink.received c.args.err.now)
    (g.E.MessageSink.received c.print_headed.new.err) c.print_headed.result) c.file_of-file.ensures c.print_headed.ensures)

pub returns : goal.returns
returns g c = rw (sym c.is_headed.ensures ∙ c.if-is_headed.false) (rw c.file_of-file.ensures at c.print_named.ensures)
