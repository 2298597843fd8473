use Rattle.std.proofs.Common.{Bool, List, None, Some, ℕ, refl, subst, true}
use Rattle.serdimko.specs.Out.{out_of}
use Rattle.serdimko.specs.RunError.{Tells}
use Rattle.serdimko.proofs.images.print_images.Goals as goal

pub returns-in-None : goal.returns-in-None
returns-in-None g c = (
  out_of c.print_first.new.out,
  None,
  rw c.in-None.is at c.print_first.ensures,
  c.print_each_image.ensures,
)

pub returns-in-Some : goal.returns-in-Some
returns-in-Some g c = (
  out_of c.print_first.new.out,
  Some c.in-Some.error,
  rw c.in-Some.is at c.print_first.ensures,
  (
    refl,
    subst (λ (name : List ℕ). Tells name true (Some c.in-Some.error) (g.E.MessageSink.received c.args.err.now) (g.E.MessageSink.received c.tell.new.err) c.tell.result) c.report.ensures.name
        (subst (λ (only : Bool). Tells c.report.result.name.now only (Some c.in-Some.error) (g.E.MessageSink.received c.args.err.now) (g.E.MessageSink.received c.tell.new.err) c.tell.result) c.report.ensures.input c.tell.ensures),
  ),
)
