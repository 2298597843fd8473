use Rattle.std.proofs.Common.{sym}
use Rattle.ipmi_commands.proofs.AskLemmas.{passed}
use Rattle.ipmi_commands.proofs.TailLemmas.{start_unread, tail_elsewhere, tail_found, tail_stopped, tail_whole}
use Rattle.ipmi_commands.proofs.tail.list_tail.Goals as goal

pub returns-in_err-id-clause-runs : goal.returns-in_err-id-clause-runs
returns-in_err-id-clause-runs g c =
    rw (← c.tries.ensures, passed _ _ c.from_residual.ensures.1) (start_unread (g.F.Format.texts c.args.format.now) c.args.entries c.args.wanted _ _ _ c.tail_from.ensures.calls _ _ c.in_err-id.ensures.says c.in_err-id.ensures.honest)

pub returns-in_default-clause-runs : goal.returns-in_default-clause-runs
returns-in_default-clause-runs g c =
    let calls = rw c.tries.ensures at c.tail_from.ensures.calls in
    let found = rw (c.tries.ensures, c.in_default.is) at c.in_ok-id.ensures.honest in
    tail_whole (g.F.Format.texts c.args.format.now) c.args.entries c.args.wanted _ _ _ calls _ _ _ c.list_kept.result found c.list_kept.ensures.runs

pub returns-in_err-is_tail-clause-runs : goal.returns-in_err-is_tail-clause-runs
returns-in_err-is_tail-clause-runs g c =
    let calls = rw c.tries.ensures at c.tail_from.ensures.calls in
    let found = rw (c.tries.ensures, c.in-Some.is) at c.in_ok-id.ensures.honest in
    let keeps = rw c.new-kept.ensures.most at c.keep_entries-walked.ensures.honest in
    rw (passed _ _ c.from_residual-in_err-is_tail.ensures.1)
    (tail_stopped (g.F.Format.texts c.args.format.now) c.args.entries c.args.wanted _ _ _ calls c.in-Some.id found _ _ c.keep_entries-walked.result c.keep_entries-walked.ensures.calls keeps
    _ (sym c.in_err-is_tail.ensures) c.keep_entries-walked.ensures.ends _)

pub returns-then-branch-clause-runs : goal.returns-then-branch-clause-runs
returns-then-branch-clause-runs g c =
    let calls = rw c.tries.ensures at c.tail_from.ensures.calls in
    let found = rw (c.tries.ensures, c.in-Some.is) at c.in_ok-id.ensures.honest in
    let keeps = rw c.new-kept.ensures.most at c.keep_entries-walked.ensures.honest in
    tail_found (g.F.Format.texts c.args.format.now) c.args.entries c.args.wanted _ _ _ calls c.in-Some.id found _ _ c.keep_entries-walked.result c.keep_entries-walked.ensures.calls keeps
    (rw c.if-branch.true at (sym c.in_ok-is_tail.ensures)) _ _ c.print_entries.result c.print_entries.ensures.prints c.print_entries.ensures.ends

pub returns-clause-runs : goal.returns-clause-runs
returns-clause-runs g c =
    let calls = rw c.tries.ensures at c.tail_from.ensures.calls in
    let found = rw (c.tries.ensures, c.in-Some.is) at c.in_ok-id.ensures.honest in
    let keeps = rw c.new-kept.ensures.most at c.keep_entries-walked.ensures.honest in
    tail_elsewhere (g.F.Format.texts c.args.format.now) c.args.entries c.args.wanted _ _ _ calls c.in-Some.id found _ _ c.keep_entries-walked.result c.keep_entries-walked.ensures.calls keeps
    (rw c.if-branch.false at (sym c.in_ok-is_tail.ensures)) _ _ _ c.list_kept-2.result c.list_kept-2.ensures.runs
