use Rattle.std.proofs.Common.{Err, Ok, arith}
use Rattle.ipmi_commands.proofs.CountLemmas.{between, ends_since}
use Rattle.ipmi_commands.proofs.LastLemmas.{last_grown, last_grown_none, last_prints, last_prints_none, passed_ends}
use Rattle.ipmi_commands.proofs.last.list_last.Goals as goal

pub returns-in-Ok-clause-runs : goal.returns-in-Ok-clause-runs
returns-in-Ok-clause-runs g c =
    let counts = rw c.in-Ok.is at c.count_entries.ensures.honest in
    record {
      calls = omega (arith, c.count_entries.ensures.calls, c.list_after.ensures.calls);
      ends = c.list_after.ensures.ends;
      why = λ h.
          let first = (counts h).ends in
          ends_since first first.stays.plain (c.list_after.ensures.honest first.stays.honest).ends;
      prints = λ h same.
          let first = counts h in
          let lists = rw (c.saturating_sub-passed.ensures, c.from.ensures) at (c.list_after.ensures.honest first.ends.stays.honest) in
          let since = between _ _ _ first.ends.stays lists.ends.stays same in
          last_prints (g.F.Format.texts c.args.format.now) c.args.entries c.args.wanted c.args.from _ c.requires.some _ _ _ _ _ _ c.in-Ok.count _ c.in-Ok.count-test.1 first.ends.stays since.0 since.1 first lists;
      grows = λ h.
          let first = counts h in
          let lists = rw (c.saturating_sub-passed.ensures, c.from.ensures) at (c.list_after.ensures.honest first.ends.stays.honest) in
          last_grown (g.F.Format.texts c.args.format.now) c.args.entries c.args.wanted c.args.from _ c.requires.some _ _ _ _ _ _ c.in-Ok.count _ first.ends.stays lists.ends.stays first lists;
      traces = λ h. tt;
    }

pub returns-clause-runs : goal.returns-clause-runs
returns-clause-runs g c =
    let counts = rw c.in-Err.is at c.count_entries.ensures.honest in
    record {
      calls = omega (arith, c.count_entries.ensures.calls);
      ends = passed_ends c.args.entries _ (Err c.in-Err.failure) (rw c.in-Err.is at c.count_entries.ensures.ends);
      why = λ h. (counts h).ends;
      prints = λ h same. last_prints_none (g.F.Format.texts c.args.format.now) c.args.entries c.args.wanted c.args.from _ c.requires.some _ _ _ _ (Err c.in-Err.failure) tt same (counts h);
      grows = λ h. last_grown_none (g.F.Format.texts c.args.format.now) c.args.entries c.args.wanted c.args.from _ c.requires.some _ _ _ _ (Err c.in-Err.failure) tt (counts h);
      traces = λ h. tt;
    }

pub returns-in-Ok-eq0-clause-runs : goal.returns-in-Ok-eq0-clause-runs
returns-in-Ok-eq0-clause-runs g c =
    let counts = c.in-Ok-eq0.ensures.honest in
    record {
      calls = omega (arith, c.count_entries.ensures.calls);
      ends = tt;
      why = λ h. (counts h).ends;
      prints = λ h same. last_prints_none (g.F.Format.texts c.args.format.now) c.args.entries c.args.wanted c.args.from _ c.requires.some _ _ _ _ (Ok c.in-Ok-eq0.field-0) c.in-Ok-eq0.field-0-test same (counts h);
      grows = λ h. last_grown_none (g.F.Format.texts c.args.format.now) c.args.entries c.args.wanted c.args.from _ c.requires.some _ _ _ _ (Ok c.in-Ok-eq0.field-0) c.in-Ok-eq0.field-0-test (counts h);
      traces = λ h. tt;
    }
