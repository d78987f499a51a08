-- A ranking bounds the expected iterations of its loop.
use Rattle.std.proofs.Common.{subst, List}
use Rattle.heyvl_num.specs.Value.{zeroᵛ, ◌≤ᵛ◌}
use Rattle.heylo_formula.specs.Choices.{Choices}
use Rattle.heylo_formula.specs.ExtremaLaws.{FormulasAreNonnegative}
use Rattle.heylo_formula.specs.Meaning.{value}
use Rattle.heylo_formula.specs.State.{environment}
use Rattle.heylo_formula.specs.declared.values.Val.{Val}
use Rattle.heylo_formula.proofs.exported.States.{env_typed}
use Rattle.heyvl_acts.specs.Acts.{Acts, procedure_at, type_list, types_of, variables}
use Rattle.heyvl_acts.specs.Forward.{forward}
use Rattle.heyvl_acts.specs.Places.{in_order}
use Rattle.heyvl_acts.specs.Rules.{Each}
use Rattle.heyvl_acts.specs.WellTypedActs.{IsHeld}
use Rattle.run_machine.specs.Bound.{IsState}
use Rattle.vp_generator.specs.GeneratedForms.{vp}
use Rattle.vp_generator.specs.Laws.{GeneratedFormMeansActs, GeneratedFormIsFormula}
use Rattle.ranking_rule.specs.Laws.{RankingsBoundTurns}
use Rattle.heyvl_acts.specs.Upward.{upward}
use Rattle.ranking_rule.proofs.RankedBodies.{IsTurnAct, rank_fits, body_acts, upward_fit}
use Rattle.ranking_rule.proofs.Turns.{turns_bounded}

pub rankings_bound : FormulasAreNonnegative → GeneratedFormMeansActs → GeneratedFormIsFormula → RankingsBoundTurns
rankings_bound nonnegative means formula ps p n l rules ranking = turns_bounded ps p l.head l.body l.rank (body_acts ps (procedure_at ps p) n l rules) ranking from_zero (rank_fits ps (procedure_at ps p) n l rules).1.1
  where
    held : IsHeld (types_of (procedure_at ps p)) l.rank.1
    held = (rank_fits ps (procedure_at ps p) n l rules).1

    from_zero : (acts : Acts) (s : List Val) (c : Choices) → Each (IsTurnAct ps (procedure_at ps p)) (in_order acts) → IsState (procedure_at ps p) s → zeroᵛ ≤ᵛ forward (upward acts) (value l.rank.1) (environment s) c
    from_zero acts s c f st =
        let fit = upward_fit ps (procedure_at ps p) acts f in
        subst (λ v. zeroᵛ ≤ᵛ v) (means (types_of (procedure_at ps p)) (upward acts) l.rank.1 (environment s) c fit) (nonnegative (types_of (procedure_at ps p)) (vp (upward acts) l.rank.1) (environment s) c (formula (types_of (procedure_at ps p)) (upward acts) l.rank.1 fit held.0) (env_typed (type_list (variables (procedure_at ps p))) s st))
