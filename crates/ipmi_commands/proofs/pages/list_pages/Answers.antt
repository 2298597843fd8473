use Rattle.std.proofs.Common.{arith}
use Rattle.ipmi_commands.specs.Prelude.{most_on_walk}
use Rattle.ipmi_commands.proofs.PageLemmas.{page_leads, last_leads, calls_after_page}
use Rattle.ipmi_commands.proofs.AskLemmas.{passed}
use Rattle.ipmi_commands.proofs.pages.list_pages.Goals as goal

pub returns-in-Err-clause-calls : goal.returns-in-Err-clause-calls
returns-in-Err-clause-calls g c =
    let kept = c.pages.invariant in
    let page = c.list_page.ensures in
    let after = calls_after_page c.args.sizes.now c.pages.size-index (most_on_walk c.args.form.now c.args.limits.tries) _ _ (g.C.Controller.seen c.list_page.new.ctl) c.pages-test.true page.calls page.none kept.3 in
    omega (arith, after)

pub returns-in-Err-clause-honest : goal.returns-in-Err-clause-honest
returns-in-Err-clause-honest g c = λ h.
    let kept = c.pages.invariant in
    last_leads (g.F.Format.texts c.args.format.now) c.args.form.now c.args.limits.tries c.args.sizes.now c.pages.size-index c.args.start c.pages.place _ _ _ _ _ _ c.pages-test.true (kept.4 h).1
    c.in-Err.failure (rw c.in-Err.is at c.list_page.ensures.honest (kept.4 h).0)

pub pages-preserved : goal.pages-preserved
pages-preserved g c =
    let kept = c.pages.invariant in
    let page = c.list_page.ensures in (
      omega (arith, rw c.in-Ok.is at page.faults, kept.0),
      omega (arith, page.asked, kept.1),
      rw c.in-Ok.is at page.place,
      calls_after_page c.args.sizes.now c.pages.size-index (most_on_walk c.args.form.now c.args.limits.tries) _ _ (g.C.Controller.seen c.list_page.new.ctl) c.pages-test.true page.calls page.none kept.3,
      λ h.
          let done = rw c.in-Ok.is at page.honest (kept.4 h).0 in (
            done.ends.stays.honest,
            page_leads (g.F.Format.texts c.args.format.now) c.args.form.now c.args.limits.tries c.args.sizes.now c.pages.size-index c.args.start c.pages.place _ _ _ _ _ _ c.pages-test.true (kept.4 h).1 c.in-Ok.next done,
          ),
    )

pub returns-in-Err-clause-parts : goal.returns-in-Err-clause-parts
returns-in-Err-clause-parts g c = λ h. rw c.in-Err.is at c.list_page.ensures.parts (c.pages.invariant.4 h).0

pub returns-in_err-list_page-clause-parts : goal.returns-in_err-list_page-clause-parts
returns-in_err-list_page-clause-parts g c = λ h. rw (passed _ _ c.from_residual.ensures.1) (c.in_err-list_page.ensures.parts (c.pages.invariant.4 h).0)
