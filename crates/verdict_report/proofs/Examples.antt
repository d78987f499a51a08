-- Texts of worked answers, computed.
use Rattle.std.proofs.Common.{◌≡◌, ℕ, [], ◌∷◌, true, false, codes, refl}
use Rattle.std.specs.Fmt.{digits}
use Rattle.std.specs.Prelude.{negsuc, pos}
use Rattle.heyvl_num.specs.Gcd.{gcd, gcd_steps}
use Rattle.heyvl_num.specs.Rational.{Rational, ratio}
use Rattle.heylo_formula.specs.declared.goals.GoalId.TheVariants as ids
use Rattle.heylo_formula.specs.declared.values.Val.TheVariants.{Num, Truth}
use Rattle.goal_answers.specs.declared.causes.Cause.TheVariants as causes
use Rattle.proc_contracts.specs.declared.reasons.WhyNot.TheVariants as why
use Rattle.verdict_report.specs.Causes.{cause_text, earlier_text, interval_text}
use Rattle.verdict_report.specs.Reports.{report_text}
use Rattle.number_texts.specs.ValueTexts.{value_text}
use Rattle.verdict_report.specs.Settings.{Names, named_by}
use Rattle.verdict_report.specs.States.{state_text}
use Rattle.verdict_report.specs.Verdicts.{about_text, node_text, rank_text, reason_text, verdict_text}
use Rattle.verdict_report.specs.declared.answers.RankVerdict.TheVariants as rank
use Rattle.verdict_report.specs.declared.answers.Verdict.TheVariants as verdict

abbrev whole : ℕ → Rational
whole n = ratio (pos n) 1

abbrev coin : Names
coin = named_by (codes "b" ∷ []) 1

abbrev loop : Names
loop = named_by (codes "init_c" ∷ codes "c" ∷ codes "cont" ∷ codes "stop" ∷ codes "c" ∷ codes "cont" ∷ []) 4

no_file : report_text [] [] [] [] ≡ codes "0 procedures\n"
unfolding digits
no_file = refl

one_variable : state_text coin (0 ∷ []) (Truth false ∷ []) ≡ codes "b = false"
one_variable = refl

-- The second binder is shown and keeps its number; the first one is 0.
second_binder : state_text loop (0 ∷ 1 ∷ []) (Num (whole 0) ∷ Num (whole 0) ∷ Truth true ∷ Truth true ∷ Num (whole 0) ∷ Truth true ∷ []) ≡ codes "init_c = 0, c = 0, cont'2 = true"
unfolding digits ratio gcd gcd_steps
second_binder = refl

numeric_binder : state_text (named_by (codes "x" ∷ codes "x" ∷ []) 1) (0 ∷ []) (Num (whole 0) ∷ Num (whole 1) ∷ []) ≡ codes "x = 0, x'1 = 1"
unfolding digits ratio gcd gcd_steps
numeric_binder = refl

no_variables : state_text (named_by [] 0) [] [] ≡ codes "any state"
no_variables = refl

fractions : (value_text (Num (ratio (negsuc 2) 6)) ≡ codes "-1/2") × (value_text (Num (ratio (pos 8) 4)) ≡ codes "2")
unfolding digits ratio gcd gcd_steps
fractions = (refl, refl)

an_interval : (interval_text true (ratio (pos 1) 2) (ratio (pos 1) 2) true ≡ codes "[1/2, 1/2]") × (interval_text false (whole 0) (whole 1) false ≡ codes "(0, 1)") × (earlier_text (named_by (codes "x" ∷ codes "y" ∷ []) 2) ((1, Num (whole 1)) ∷ []) ≡ codes " where y = 1") × (earlier_text coin [] ≡ [])
unfolding digits ratio gcd gcd_steps
an_interval = (refl, refl, refl, refl)

some_causes : (cause_text [] coin causes.Depth ≡ codes "depth") × (cause_text [] coin causes.Nodes ≡ codes "nodes") × (cause_text (codes "a\nbcd") coin (causes.Nonlinear (record { from = 4; to = 5 })) ≡ codes "nonlinear at 2:3") × (cause_text [] coin (causes.Cells 4097) ≡ codes "cells") × (cause_text [] coin (causes.Rows 2 5000) ≡ codes "rows at step 2") × (cause_text [] coin causes.Bits ≡ codes "bits")
unfolding digits
some_causes = (refl, refl, refl, refl, refl, refl)

goals : (about_text (codes "unknown") ids.Main ≡ codes "unknown (bound): ") × (about_text (codes "unknown") ids.Pre ≡ codes "unknown (pre at most 1): ") × (about_text (codes "unknown") ids.Post ≡ codes "unknown (post at most 1): ") × (about_text (codes "unknown") (ids.Invariant 2) ≡ codes "unknown (invariant of loop 2 at most 1): ")
unfolding digits
goals = (refl, refl, refl, refl)

reasons : (reason_text [] why.NoWlp ≡ codes "no @wlp") × (reason_text [] why.Quantifier ≡ codes "quantifier in post") × (reason_text (codes "abc") (why.Statement (record { from = 2; to = 3 })) ≡ codes "1:3 is no program statement")
unfolding digits
reasons = (refl, refl, refl)

nodes : (node_text [] ≡ codes "root") × (node_text (true ∷ false ∷ []) ≡ codes "hd")
nodes = (refl, refl)

verdicts : (verdict_text [] [] [] 0 verdict.Verified ≡ codes "verified") × (verdict_text [] [] [] 0 (verdict.Valid why.NoWlp) ≡ codes "valid (no @wlp)") × (verdict_text [] [] [] 0 verdict.NoBody ≡ codes "no body") × (verdict_text [] [] [] 0 (verdict.Unknown ids.Main causes.Bits) ≡ codes "unknown (bound): bits")
verdicts = (refl, refl, refl, refl)

ranks : (rank_text [] [] [] 0 1 rank.Ranked ≡ codes "ranked") × (rank_text [] [] [] 0 1 (rank.Unknown causes.Nodes) ≡ codes "unknown: nodes")
ranks = (refl, refl)
