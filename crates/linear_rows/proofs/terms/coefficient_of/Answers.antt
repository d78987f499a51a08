use Rattle.std.proofs.Common.{refl, rules, FitsSigned, ◌∙◌, get_or}
use Rattle.std.proofs.lemmas.Int.{to_z-of_z}
use mir.Syntax.{w64}
use Rattle.std.specs.Prelude.{pos}
use Rattle.linear_rows.proofs.TermWalks.{next_term, this_term, no_term}
use Rattle.linear_rows.proofs.terms.coefficient_of.Goals as goal

pub loop-v-init : goal.loop-v-init
loop-v-init c = record { grows = c.requires.normal; rest = refl }

pub loop-v-preserved : goal.loop-v-preserved
loop-v-preserved c = let h = next_term _ _ _ _ _ c.loop-v-test.true c.loop-v.invariant.grows c.if-v-x.false c.loop-v.invariant.rest in record { grows = h.0; rest = h.1 }

pub returns-then-v-x-clause-value : goal.returns-then-v-x-clause-value
returns-then-v-x-clause-value c =
    let f : FitsSigned w64 (get_or c.args.terms.now c.loop-v.v-index (0, pos 0)).1 = search rules in
    to_z-of_z w64 _ f ∙ this_term _ _ _ _ _ c.loop-v-test.true c.loop-v.invariant.grows c.if-v-x.true c.loop-v.invariant.rest

pub returns-clause-value : goal.returns-clause-value
returns-clause-value c = no_term _ _ _ _ c.loop-v-test.false c.loop-v.invariant.rest
