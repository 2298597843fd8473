-- What is handed to a tool's input, and the end of a reply in its output, which is read byte by byte.
use Rattle.std.proofs.Common.{arith, inl, inr, [], ◌∷◌, ◌≡◌, ◌≢◌, ◌∙◌, ap, sym, ℕ, Bool, true, false, Result, Ok, Err, nat_eq, ◌++◌, List, length, refl, codes, MatchBool}
use Rattle.std.proofs.Math.Seq.{take-length}
use Rattle.std.specs.List.{ends_with}
use Rattle.std.specs.Result.{result_and}
use Rattle.std.proofs.lemmas.Grind.{common_steps}
use Rattle.std.proofs.lemmas.Bool.Decides.{Decides-eqb}
use Rattle.std.proofs.lemmas.Slice.Eq.{ends_is}
use Rattle.ipmi_raw.specs.declared.tool.Tool.{Tool}
use Rattle.ipmi_raw.specs.declared.tool.Tool.TheVariants.{FreeIpmi, Ipmitool}
use Rattle.ipmi_raw.specs.declared.peer.Lost.{Lost}
use Rattle.ipmi_raw.specs.Streams.{HandsOver, IsEnded}

-- all of a request is handed over
pub hands_all : (came : Result (Unit {0}) Lost) (request old new : List ℕ) → new ≡ old ++ request → HandsOver came request old new
hands_all (Ok done) request old new is = is
hands_all (Err lost) request old new is = (length request, is ∙ ap (λ bytes. old ++ bytes) (sym (take-length request)))

-- a request is handed over, and perhaps no reply comes
pub hands_and_reads : (read sent : Result (Unit {0}) Lost) (request old new : List ℕ)
    → HandsOver sent request old new → HandsOver (result_and read sent) request old new
hands_and_reads (Ok done) sent request old new handed = handed
hands_and_reads (Err lost) (Ok done) request old new handed = hands_all (Err lost) request old new handed
hands_and_reads (Err lost) (Err early) request old new handed = handed

abbrev pub EndsWith : List ℕ → List ℕ → Type 0
EndsWith text end = (front : List ℕ) × (text ≡ front ++ end)

pub ends_or_not : (text end : List ℕ) (r : Bool) → r ≡ ends_with nat_eq text end → MatchBool r (EndsWith text end) (¬ EndsWith text end)
ends_or_not text end true is =
    let d = ends_is Decides-eqb text end true is in
    (_, d.0 refl)
ends_or_not text end false is = λ e.
    let d = ends_is Decides-eqb text end false is in
    let both : false ≡ true = d.1 e.0 e.1 in
    cc

pub ended_or_not : (text : List ℕ) (r : Bool) → text ≢ codes ". \n" → MatchBool r (EndsWith text (codes "\n. \n")) (¬ EndsWith text (codes "\n. \n"))
    → MatchBool r (IsEnded Ipmitool text) (¬ IsEnded Ipmitool text)
ended_or_not text true no_mark e = inr e
ended_or_not text false no_mark none = elim [ inl e ↦ no_mark e | inr e ↦ none e ]

-- an empty text has not ended
not_empty : (byte : ℕ) (front end : List ℕ) → [] ≢ front ++ byte ∷ end
not_empty byte [] end e = grind (arith, common_steps)
not_empty byte (x ∷ front) end e = grind (arith, common_steps)

pub nothing_ended : (tool : Tool) → ¬ IsEnded tool []
nothing_ended Ipmitool e = elim e [ inl same ↦ grind (arith, common_steps) | inr found ↦ not_empty 10 found.0 (codes ". \n") found.1 ]
nothing_ended FreeIpmi e = not_empty 10 e.0 [] e.1
