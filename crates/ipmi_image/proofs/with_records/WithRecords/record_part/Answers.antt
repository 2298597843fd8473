use Rattle.std.proofs.Common.{length, refl}
use Rattle.ipmi_image.proofs.WithLemmas.{record_answers}
use Rattle.ipmi_image.proofs.with_records.WithRecords.record_part.Goals as goal

pub returns-clause-honest : goal.returns-clause-honest
returns-clause-honest g c = λ honest.
    record_answers c.args.self.now.records c.part.new.self (g.C.Controller.seen c.args.self.now.machine) c.args.reservation c.args.id c.args.offset
    (length c.args.into.now) c.part.result c.part.new.into c.part.ensures.same c.if-not-is_reserved.ensures c.part.ensures.exact honest
    (c.part.ensures.answers (record { said = refl; store = c.is_store.ensures }))
