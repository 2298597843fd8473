-- The counts are an empty struct, and their numbers are chosen by the counts before and by the item.
use mathlib.Core.Path.{refl}
use mathlib.Core.List.{[], ◌∷◌}
use mir.Syntax.{named}
use mir.Val.{vptr, vstruct, vnil}
use base.Fml.{ftrue}
use Rattle.std.proofs.Common.{◌+◌, option_map, true, unwrap_or}
use Rattle.std.proofs.raw_atomic.Walks.{proved}
use types.Kit.{‵, raw, ◌⊛◌, ◌$◌, ◌∵◌, !, qed, move, drop, split, suffices, done}
use types.Run.{no_more, returns, enter}
use types.Part.{agg}
use types.ByLocal.{alloc_all, pass_all, free_all, look_at, sets}
use denote.Exit.{yes}
use denote.RattleType.{owns}
use denote.Ref.{shr_vals, shr_Tells}
use denote.Shadow.{pure_i}
use denote.Signature.{plain, types_at, named_lft}
use denote.Triple.Entry.{alive}
use denote.Triple.Walked.{says, stay_none_ref, Stays, walk_of, ends_at, Goes-none_ref}
use Rattle.ipmi_commands.specs.contracts.summary.More as more
use Rattle.ipmi_commands.specs.contracts.summary.Counts as counts
use Rattle.ipmi_commands.specs.contracts.summary.Counts.with as f
use Rattle.ipmi_commands.specs.Output.{count_if}
use Rattle.ipmi_commands.proofs.summary.Counts.with.Statement.{statement}
use Rattle.ipmi_commands.proofs.summary.Counts.with.Code as code

abbrev stayed : Stays f.ended.signature.params f.ended.kept
stayed = (stay_none_ref (0 ∷ []) tt (plain (λ κs. more.the_row (named_lft 3 1 tt κs) (named_lft 3 2 tt κs))) yes, tt)

pub with_spec : {M : Type 1} → statement M
with_spec 𝓤 𝓛 𝓜 𝓡 wired =
    let c = f.clauses 𝓛 𝓜.mem 𝓡.returns in let W = walk_of 𝓛 f.ended stayed c in
    proved 𝓛 f.ended stayed c 𝓜 𝓡
    (Goes-none_ref 𝓛 3 (0 ∷ []) tt (plain (λ κs. more.the_row (named_lft 3 1 tt κs) (named_lft 3 2 tt κs))) yes, tt)
    f.Key.name code.function (code.unfolded 𝓤 𝓛.H 𝓜 𝓡 wired)
    (λ κs. (shr_vals, tt))
    (λ κs. (shr_Tells (named 0) κs.0 (more.the_row (named_lft 3 1 tt κs) (named_lft 3 2 tt κs)), tt)) (λ κs qs bounds a _ are.
    let y : W.Ghost = ((κs, qs, bounds, a, (vptr a.0.ref_ptr.0 a.0.ref_ptr.1 ∷ [], tt)), tt) in
    let it = a.0.now in
    let made : counts.the_row.Denot = record {
      pieces = unwrap_or (option_map (λ c. c.now.pieces) it.0) 0 + count_if true it.1.now;
      faults = unwrap_or (option_map (λ c. c.now.faults) it.0) 0 + count_if it.2 it.1.now;
    } in
    qed 𝓛 ((raw (alive 𝓛 f.signature κs qs) ⊛ ‵ (owns (types_at f.signature.params κs) a y.0.4)) ∷ ‵ ftrue ∷ []) ∵ move ! (1 ∷ []) $ drop ! $ split ! $
    enter ! _ _ _ _ _ $ alloc_all ! (λ l. pass_all ! refl ((tt, tt), tt) $
    sets ! (agg ! (no_more !)) refl (tt, tt) $
    returns ! (look_at ! 0 refl) $ free_all ! refl $
    suffices ! _ (ends_at 𝓛 f.ended stayed c y (vstruct vnil) made (tt, tt) (tt, tt)) $ says ! (refl, refl) $
    -- [what the counts own; the tokens; the parameters]
    pure_i ! (counts.the_row.own_val made (vstruct vnil ∷ [])) ((λ vss. (tt, tt)), tt) ((tt, (refl, tt)), tt) $
    move ! (1 ∷ 2 ∷ 0 ∷ []) $ done !))
