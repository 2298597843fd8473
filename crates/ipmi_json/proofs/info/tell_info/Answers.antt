use Rattle.std.proofs.Common.{refl}
use Rattle.std.proofs.lemmas.Result.{on_ok_weaker}
use Rattle.ipmi_json.proofs.MemberLemmas.{joined, told_some}
use Rattle.ipmi_json.proofs.info.tell_info.Goals as goal

pub returns : goal.returns
returns g c =
    let info = c.read-info.ensures in
    let version = rw (c.from.ensures, info) at c.in_ok-put-2.ensures in
    let count = rw (c.from-count.ensures, info) at c.in_ok-put-3.ensures in
    let space = rw (c.from-2.ensures, info) at c.in_ok-put-4.ensures in
    let counts = joined (joined (joined c.in_ok-put.ensures version) count) space in
    let addition = rw c.text_or_null.ensures at c.in_ok-put-5.ensures in
    let added = joined (joined counts addition) (rw (c.from-3.ensures, info) at c.in_ok-put-6.ensures) in
    let erase = rw c.text_or_null-2.ensures at c.in_ok-put-7.ensures in
    let erased = joined (joined added erase) (rw (c.from-4.ensures, info) at c.in_ok-put-8.ensures) in
    let overflow = rw info at c.in_ok-put-9.ensures in
    on_ok_weaker c.put-10.result
    (λ support. told_some (joined (joined erased overflow) (rw (c.from-5.ensures, info) at support)) (record {
      addition = _;
      erase = _;
      is_addition = rw info at c.in_ok-time_text.ensures;
      is_erase = rw info at c.in_ok-time_text-2.ensures;
      are = refl;
    })) c.put-10.ensures
