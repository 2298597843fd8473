-- The text of a check, part by part.
use Rattle.std.proofs.Common.{◌≡◌, ◌∙◌, ℕ, List, ◌++◌, append_assoc, codes, Option, refl}
use Rattle.ipmi_text.specs.Appended.{Appends}
use Rattle.ipmi_sensors.specs.Sensors.{Found}
use Rattle.std.specs.List.{find}
use Rattle.ipmi_check.specs.Standing.{is_in, standing_of}
use Rattle.ipmi_image.specs.declared.lack.Lack.{Lack}
use Rattle.ipmi_check.specs.declared.standing.Standing.{Standing}
use Rattle.ipmi_check.specs.declared.verdict.Verdict.{Verdict}
use Rattle.ipmi_check.specs.Text.{after_first, count_in, count_sensors, counts_beside, IsFirst, IsHeadline, IsLead, IsWorst, labelled, share, verdict_part, warnings_beside, why_after}

-- ---- the first line

pub worst_made : (lacks : List Lack) (wanted : Standing) (found : List Found) (old shared first text rest : List ℕ) (count sensors : ℕ)
    → count ≡ count_in lacks wanted found → sensors ≡ count_sensors lacks found → shared ≡ old ++ share count sensors
    → Appends (IsFirst (find (λ one. is_in wanted (standing_of lacks one)) found)) shared first → rest ≡ after_first count
    → text ≡ first ++ rest → Appends (IsWorst lacks wanted found) old text
worst_made lacks wanted found old shared first text rest count sensors count_is sensors_is shared_is is_first rest_is text_is = record {
  part = share count sensors ++ (is_first.part ++ rest);
  is_text = record {
    first = is_first.part;
    is_first = is_first.is_text;
    text_is = rw (rest_is, count_is, sensors_is) refl;
  };
  text_is = text_is ∙ rw (is_first.text_is, shared_is) (simp append_assoc);
}

pub counts_made : (lacks : List Lack) (verdict : Verdict) (found : List Found) (old warned judged silent text : List ℕ) (u s e : ℕ)
    → warned ≡ old ++ warnings_beside lacks verdict found
    → u ≡ count_in lacks Standing.Unknown found → judged ≡ warned ++ labelled (codes "not judged") u
    → s ≡ count_in lacks Standing.Silent found → silent ≡ judged ++ labelled (codes "without a reading") s
    → e ≡ count_in lacks Standing.Elsewhere found → text ≡ silent ++ labelled (codes "of other owners") e
    → text ≡ old ++ counts_beside lacks verdict found
counts_made lacks verdict found old warned judged silent text u s e warned_is u_is judged_is s_is silent_is e_is text_is =
    text_is ∙ rw (silent_is, judged_is, warned_is, u_is, s_is, e_is) (simp append_assoc)

pub headline_made : (lacks : List Lack) (verdict : Verdict) (found : List Found) (why : Option (List ℕ)) (old begun lead counted text : List ℕ)
    → begun ≡ old ++ verdict_part verdict → Appends (IsLead lacks verdict found why) begun lead
    → counted ≡ lead ++ counts_beside lacks verdict found → text ≡ counted ++ why_after verdict why
    → Appends (IsHeadline lacks verdict found why) old text
headline_made lacks verdict found why old begun lead counted text begun_is is_lead counted_is text_is = record {
  part = verdict_part verdict ++ (is_lead.part ++ (counts_beside lacks verdict found ++ why_after verdict why));
  is_text = record { lead = is_lead.part; is_lead = is_lead.is_text; text_is = refl };
  text_is = text_is ∙ rw (counted_is, is_lead.text_is, begun_is) (simp append_assoc);
}
