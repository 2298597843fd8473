use Rattle.std.proofs.Common.{◌∙◌, arith, refl, sym}
use Rattle.serdimko.specs.Images.{PrintsOne}
use Rattle.serdimko.specs.Out.{out_of}
use Rattle.serdimko.proofs.EachLemmas.{not_is_false, not_is_true, printed_all, printed_last, printed_none, printed_one}
use Rattle.serdimko.proofs.ImagesLemmas.{each_image, only_input}
use Rattle.serdimko.proofs.images.print_each_image.Goals as goal

pub returns-then-is_empty : goal.returns-then-is_empty
returns-then-is_empty g c =
    only_input c.args.settings.now c.args.query c.args.images.now _ _ _ _ _ (sym c.is_empty.ensures ∙ c.if-is_empty.true) c.print_image.ensures

pub loop-image-init : goal.loop-image-init
loop-image-init g c =
    rw c.of-outcome.ensures (
    printed_none (PrintsOne c.args.settings.now c.args.query _) c.args.images.now (out_of c.args.out.now) (g.E.MessageSink.received c.args.err.now))

pub returns-then-not-one : goal.returns-then-not-one
returns-then-not-one g c =
    each_image c.args.settings.now c.args.query c.args.images.now _ _ _ _ _ (sym c.is_empty.ensures ∙ c.if-is_empty.false) (rw c.and-outcome.ensures (
    printed_last (PrintsOne c.args.settings.now c.args.query _) c.args.images.now (out_of c.args.out.now) (g.E.MessageSink.received c.args.err.now)
    c.loop-image.image-index (out_of c.loop-image.out) (out_of c.print_image-one.new.out) (g.E.MessageSink.received c.loop-image.err)
    (g.E.MessageSink.received c.print_image-one.new.err) c.loop-image.outcome c.image-item.result c.print_image-one.result c.print_image-one.result.is_output_open
    c.loop-image.invariant (omega (arith, c.loop-image-test.true)) c.image-item.is (c.print_image-one.ensures, refl)
    (not_is_true _ c.if-not-one.true)))

pub loop-image-preserved : goal.loop-image-preserved
loop-image-preserved g c =
    rw c.and-outcome.ensures (
    printed_one (PrintsOne c.args.settings.now c.args.query _) c.args.images.now (out_of c.args.out.now) (g.E.MessageSink.received c.args.err.now)
    c.loop-image.image-index (out_of c.loop-image.out) (out_of c.print_image-one.new.out) (g.E.MessageSink.received c.loop-image.err)
    (g.E.MessageSink.received c.print_image-one.new.err) c.loop-image.outcome c.image-item.result c.print_image-one.result c.print_image-one.result.is_output_open
    c.loop-image.invariant (omega (arith, c.loop-image-test.true)) c.image-item.is (c.print_image-one.ensures, refl)
    (not_is_false _ c.if-not-one.false))

pub returns : goal.returns
returns g c =
    each_image c.args.settings.now c.args.query c.args.images.now _ _ _ _ _ (sym c.is_empty.ensures ∙ c.if-is_empty.false)
    (printed_all (PrintsOne c.args.settings.now c.args.query _) c.args.images.now (out_of c.args.out.now) (g.E.MessageSink.received c.args.err.now)
    c.loop-image.image-index (out_of c.loop-image.out) (g.E.MessageSink.received c.loop-image.err) c.loop-image.outcome c.loop-image.invariant
    (omega (arith, c.loop-image-test.false, c.loop-image.auto.image-index-end)))
