use Rattle.std.proofs.Common.{rules}
use Rattle.ipmi_capture.proofs.AccountedLemmas.{both_end}
use Rattle.ipmi_capture.proofs.CaptureLemmas.{whole_capture}
use Rattle.ipmi_capture.proofs.capturing.capture.Goals as goal

pub returns-clause-all : goal.returns-clause-all
returns-clause-all g c = λ h same nothing.
    let is_image = c.finish.ensures.store in
    rw c.finish.ensures.is (whole_capture _ nothing _ _ (c.in_ok-capture_into.ensures.honest h same (rw c.finish.ensures.is at is_image)))

pub returns-clause-meanwhile : goal.returns-clause-meanwhile
returns-clause-meanwhile g c = λ h.
    let is_image = c.finish.ensures.store in
    rw c.finish.ensures.is (c.in_ok-capture_into.ensures.meanwhile h (rw c.finish.ensures.is at is_image))

pub returns-clause-whole : goal.returns-clause-whole
returns-clause-whole g c = search rules

pub returns-clause-counts : goal.returns-clause-counts
returns-clause-counts g c = search rules

pub returns-clause-ends : goal.returns-clause-ends
returns-clause-ends g c = λ whole.
    rw c.finish.ensures.is (both_end _ _ _ (rw (returns-clause-whole g c) at whole) c.in_ok-capture_into.ensures.accounted)
