use Rattle.std.proofs.Common.{◌∙◌, ℕ, List, sym, ap, ap₂}
use Rattle.heyvl_acts.proofs.exported.PlainActsAre.{head_of}
use Rattle.heyvl_acts.specs.declared.typed_trees.VarInfo.{VarInfo}
use Rattle.vp_generator.specs.PrenexedGoals.{types_of_variables}
use Rattle.lower_goals.proofs.PairShapes.{are_wanted, is_bare, is_omega_pair}
use Rattle.lower_goals.specs.internal.Pairs.{wanted}
use Rattle.lower_goals.proofs.pairs.is_pair.Goals as goal

pub returns-then-not-is_bare-clause-no : goal.returns-then-not-is_bare-clause-no
returns-then-not-is_bare-clause-no c = λ e o. c.is_bare.ensures.no c.if-not-is_bare.true (is_bare c.args.procedure.now c.args.other.now (head_of c.args.one.now) c.requires.counted o)

pub returns-clause-yes : goal.returns-clause-yes
returns-clause-yes c = λ e. is_omega_pair c.args.procedure.now c.args.other.now (head_of c.args.one.now) c.requires.counted (c.is_bare.ensures.yes c.if-not-is_bare.false) (sym (ap types_of_variables c.inputs_of.ensures) ∙ (c.have_types.ensures.yes e ∙ ap₂ (λ (vs : List VarInfo) (xs : List ℕ). wanted vs xs) c.deref.ensures.value c.deref-2.ensures.value))

pub returns-clause-no : goal.returns-clause-no
returns-clause-no c = λ e o. c.have_types.ensures.no e (ap types_of_variables c.inputs_of.ensures ∙ (are_wanted c.args.procedure.now c.args.other.now (head_of c.args.one.now) c.requires.counted o ∙ sym (ap₂ (λ (vs : List VarInfo) (xs : List ℕ). wanted vs xs) c.deref.ensures.value c.deref-2.ensures.value)))
