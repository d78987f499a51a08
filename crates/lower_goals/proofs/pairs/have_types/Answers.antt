use Rattle.std.proofs.Common.{◌≡◌, ◌∙◌, ◌<◌, ℕ, Bool, true, false, not, List, [], ◌∷◌, refl, sym, ap, arith, rules, length, drop, get_or}
use Rattle.std.proofs.lemmas.List.{at_drop_more}
use Prim.Native.Nat.{zero, suc}
use denote.Enum.Bare.{same_true}
use Rattle.heylo_formula.specs.contracts.types.Ty.{the_type}
use Rattle.heyvl_acts.specs.Rules.{Each}
use Rattle.heyvl_acts.specs.declared.typed_trees.VarInfo.{VarInfo}
use Rattle.lower_goals.proofs.PairShapes.{none_left, one_less, type_at}
use Rattle.lower_goals.proofs.pairs.have_types.Goals as goal

held : (b : Bool) → false ≡ not b → b ≡ true
held true e = refl
held false e = absurd (cc)

below_of : (n : ℕ) (xs : List ℕ) (i : ℕ) → Each (λ x. x < n) xs → i < length xs → get_or xs i 0 < n
below_of n [] i h l = absurd (omega (arith, l))
below_of n (x ∷ xs) zero h l = h.0
below_of n (x ∷ xs) (suc i) h l = below_of n xs i h.1 (omega (arith, l))

pub loop-x-init : goal.loop-x-init
loop-x-init c = none_left c.args.own.now c.args.inputs.now c.args.inputs.now c.args.scope.now _ refl refl

pub loop-x-preserved : goal.loop-x-preserved
loop-x-preserved c =
    let t = same_true the_type (search rules) _ _ (held _ c.if-ne.ensures) in
    let k = type_at c.args.own.now (get_or c.args.scope.now c.loop-x.x-index 0) c.index-own-x.result (below_of (length c.args.own.now) c.args.scope.now c.loop-x.x-index c.requires.below c.loop-x-test.true) c.index-own-x.is in
    one_less c.args.own.now c.args.inputs.now c.args.scope.now c.loop-x.rest.now c.in-Some.more.now c.in-Some.input.now (drop c.loop-x.x-index c.args.scope.now) _ (get_or c.args.scope.now c.loop-x.x-index 0) c.in-Some.ensures.cases.0 (at_drop_more (λ l. l) c.args.scope.now c.loop-x.x-index 0 c.loop-x-test.true) (t ∙ (ap (λ (v : VarInfo). v.ty) (sym c.index-own-x.is) ∙ k)) c.loop-x.invariant
