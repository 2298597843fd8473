-- So far each image before this one was printed.
use Rattle.serdimko.specs.Images.{PrintsOne}
use Rattle.serdimko.specs.Out.{out_of}
use Rattle.serdimko.proofs.EachLemmas.{PrintedTo}
use Rattle.serdimko.proofs.images.print_each_image.Given as goal

abbrev pub invariant-loop-image : goal.invariant-loop-image
invariant-loop-image g l =
    PrintedTo (PrintsOne l.settings l.query l.is_only_input) l.images (out_of l.fn.out) (g.E.MessageSink.received l.fn.err)
    l.image-index (out_of l.out) (g.E.MessageSink.received l.err) l.outcome
