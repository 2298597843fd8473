use Rattle.std.proofs.Common.{◌≡◌, arith}
use Rattle.ipmi_bus.specs.Prelude.{start_of}
use Rattle.ipmi_bus.proofs.WalkLemmas.{stands_at_start}
use Rattle.ipmi_bus.proofs.cursor.Cursor.start.Goals as goal

pub returns-clause-stands : goal.returns-clause-stands
returns-clause-stands c =
    let place : c.match-from.result ≡ start_of c.args.from = grind arith in λ rows walk. stands_at_start rows (start_of c.args.from) walk _ place c.in_ok-new.ensures
