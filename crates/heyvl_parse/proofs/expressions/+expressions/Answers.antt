use Rattle.heyvl_parse.proofs.Choices.{choice_is}
use Rattle.heyvl_parse.proofs.RankClimbs.{climb_ends, climb_on, climb_stops, full_climbed, leads_first, next_within, passed}
use Rattle.heyvl_parse.proofs.Fuel.{by_fuel}
use Rattle.heyvl_parse.proofs.TypedNames.{bound_by}
use Rattle.heyvl_parse.proofs.expressions.+expressions.Goals as goal
use Rattle.std.proofs.Common.{Bor, Box, Err, Global, List, Ok, arith, refl, suc}
use Rattle.heyvl_parse.specs.readers.ReadParts.{reading}
use Rattle.heyvl_parse.specs.readers.Results.{Gives}
use Rattle.heyvl_syntax.proofs.exported.PlainTreesAre.{plain_expressions}
use Rattle.heyvl_syntax.specs.Expressions.{expression}
use Rattle.heyvl_syntax.specs.declared.expressions.Expr.{Expr}
use Rattle.heyvl_syntax.specs.declared.tokens.Token.{Token}
use Rattle.std.proofs.lemmas.Grind.{common_steps}

pub full-returns-in_err-first-clause-value : goal.full-returns-in_err-first-clause-value
full-returns-in_err-first-clause-value t c = by_fuel _ _ (λ m h.
    rw full_climbed (grind (arith, common_steps, c.in_err-first.ensures.value (suc m))))

pub full-returns-clause-value : goal.full-returns-clause-value
full-returns-clause-value t c = by_fuel _ _ (λ m h.
    rw (full_climbed, c.in_ok-first.ensures.value (suc m) (omega arith), ← c.in_ok-first-2.ensures)
    (c.climbed.ensures.value m m (omega (arith, c.in_ok-first.ensures.shorter)) (omega (arith, c.in_ok-first.ensures.shorter))))

pub climbed-operators-init : goal.climbed-operators-init
climbed-operators-init t c = record {
  shorter = omega arith;
  level = omega arith;
  leads = leads_first (λ x. expression x.0.value) (λ x. x.1.now) c.args.rank (expression c.args.first.value) c.args.tokens.now;
}

pub climbed-operators-preserved : goal.climbed-operators-preserved
climbed-operators-preserved t c = record {
  shorter = omega (arith, c.operators.invariant.shorter, c.in-Some.ensures.shorter, c.in_ok-right.ensures.shorter);
  level = rw c.next_level-level.ensures (next_within c.operators.level c.args.rank c.in-Some.op c.in-Some.place c.operators.rest.now c.in-Some.behind.now c.in-Some.ensures.value);
  leads = λ result holds. c.operators.invariant.leads result (climb_on (λ r. Gives (λ x. expression x.0.value) (λ x. x.1.now) result r)
      c.operators.level c.args.rank c.in-Some.op (expression c.operators.left.value) (expression c.in_ok-right.right.value) c.in-Some.place
      c.operators.rest.now c.in-Some.behind.now c.in_ok-right.behind.now c.in-Some.ensures.value c.in-Some.ensures.shorter c.in_ok-right.ensures.shorter
      (λ m h. rw (← c.ranks.ensures.right) (c.in_ok-right.ensures.value m h))
      (rw (c.next_level-level.ensures, c.in_ok-left.ensures) at holds));
}

pub climbed-returns-in_err-right-clause-value : goal.climbed-returns-in_err-right-clause-value
climbed-returns-in_err-right-clause-value t c = λ n m a b.
    rw (passed _ _ c.from_residual.ensures)
    (c.operators.invariant.leads (Err c.in_err-right.field-0.0)
    (climb_stops c.in_err-right.field-0.0 c.operators.level c.args.rank c.in-Some.op (expression c.operators.left.value) c.in-Some.place
    c.operators.rest.now c.in-Some.behind.now c.in-Some.ensures.value c.in-Some.ensures.shorter
    (λ k h. rw (← c.ranks.ensures.right) (c.in_err-right.ensures.value k h)))
    n m a b)

pub climbed-returns-clause-value : goal.climbed-returns-clause-value
climbed-returns-clause-value t c = λ n m a b.
    c.operators.invariant.leads (Ok (c.operators.left, c.operators.rest))
    (climb_ends (λ r. Gives (λ (x : Box Expr Global × Bor (List Token)). expression x.0.value) (λ x. x.1.now) (Ok (c.operators.left, c.operators.rest)) r)
    c.operators.level c.args.rank (expression c.operators.left.value) c.operators.rest.now c.in_default.ensures.value c.operators.invariant.level refl)
    n m a b

pub operand-returns-in-Key-clause-value : goal.operand-returns-in-Key-clause-value
operand-returns-in-Key-clause-value t c = by_fuel _ _ (λ m h.
    rw (c.in_ok-token.ensures.value, c.in-Key.is, ← c.key_start.ensures)
    (c.started.ensures.value m (omega (arith, c.in_ok-token.ensures.shorter)) c.args.tokens.now (omega (arith, c.in_ok-token.ensures.shorter))))

pub operand-returns-in-Mark-clause-value : goal.operand-returns-in-Mark-clause-value
operand-returns-in-Mark-clause-value t c = by_fuel _ _ (λ m h.
    rw (c.in_ok-token.ensures.value, c.in-Mark.is, ← c.mark_start.ensures)
    (c.started-in-Mark.ensures.value m (omega (arith, c.in_ok-token.ensures.shorter)) c.args.tokens.now (omega (arith, c.in_ok-token.ensures.shorter))))

pub started-returns-in-Choice-clause-value : goal.started-returns-in-Choice-clause-value
started-returns-in-Choice-clause-value t c = λ n h all e. rw c.in-Choice.is (c.choice.ensures.value n h)

pub boxed-returns-in-None-clause-value : goal.boxed-returns-in-None-clause-value
boxed-returns-in-None-clause-value t c = by_fuel _ _ (λ m h. rw c.in-None.ensures.value (c.full.ensures.value (suc m) (omega arith)))

pub boxed-returns-in-Some-clause-value : goal.boxed-returns-in-Some-clause-value
boxed-returns-in-Some-clause-value t c = by_fuel _ _ (λ m h.
    rw c.in-Some.ensures.value (c.bound.ensures.value m (omega (arith, c.in-Some.ensures.shorter))))

pub choice-returns-in_err-rest-clause-value : goal.choice-returns-in_err-rest-clause-value
choice-returns-in_err-rest-clause-value t c = λ n h. rw (choice_is (reading n) c.args.place c.args.tokens.now) (grind (arith, common_steps, c.in_err-rest.ensures.value))

pub choice-returns-in_err-test-clause-value : goal.choice-returns-in_err-test-clause-value
choice-returns-in_err-test-clause-value t c = λ n h. rw (choice_is (reading n) c.args.place c.args.tokens.now, c.in_ok-rest.ensures.value) (grind (arith, common_steps, c.in_err-test.ensures.value n (omega (arith, c.in_ok-rest.ensures.shorter))))

pub choice-returns-in_err-yes-clause-value : goal.choice-returns-in_err-yes-clause-value
choice-returns-in_err-yes-clause-value t c = λ n h. rw (choice_is (reading n) c.args.place c.args.tokens.now, c.in_ok-rest.ensures.value, c.in_ok-test.ensures.value n (omega (arith, c.in_ok-rest.ensures.shorter))) (grind (arith, common_steps, c.in_err-yes.ensures.value n (omega (arith, c.in_ok-rest.ensures.shorter, c.in_ok-test.ensures.shorter))))

pub choice-returns-in_err-other-clause-value : goal.choice-returns-in_err-other-clause-value
choice-returns-in_err-other-clause-value t c = λ n h. rw (choice_is (reading n) c.args.place c.args.tokens.now, c.in_ok-rest.ensures.value, c.in_ok-test.ensures.value n (omega (arith, c.in_ok-rest.ensures.shorter)), c.in_ok-yes.ensures.value n (omega (arith, c.in_ok-rest.ensures.shorter, c.in_ok-test.ensures.shorter))) (grind (arith, common_steps, c.in_err-other.ensures.value n (omega (arith, c.in_ok-rest.ensures.shorter, c.in_ok-test.ensures.shorter, c.in_ok-yes.ensures.shorter))))

pub choice-returns-clause-value : goal.choice-returns-clause-value
choice-returns-clause-value t c = λ n h. rw (choice_is (reading n) c.args.place c.args.tokens.now, c.in_ok-rest.ensures.value, c.in_ok-test.ensures.value n (omega (arith, c.in_ok-rest.ensures.shorter)), c.in_ok-yes.ensures.value n (omega (arith, c.in_ok-rest.ensures.shorter, c.in_ok-test.ensures.shorter)), c.in_ok-other.ensures.value n (omega (arith, c.in_ok-rest.ensures.shorter, c.in_ok-test.ensures.shorter, c.in_ok-yes.ensures.shorter))) (rw (plain_expressions.choice c.in_ok-test.test c.in_ok-yes.yes c.in_ok-other.other c.reach.result, c.reach.ensures) refl)

pub choice-returns-clause-shorter : goal.choice-returns-clause-shorter
choice-returns-clause-shorter t c = omega (arith, c.in_ok-rest.ensures.shorter, c.in_ok-test.ensures.shorter, c.in_ok-yes.ensures.shorter, c.in_ok-other.ensures.shorter)

pub bound-returns-in_err-typed-clause-value : goal.bound-returns-in_err-typed-clause-value
bound-returns-in_err-typed-clause-value t c = λ n h. rw (bound_by (reading n) c.args.up c.args.place c.args.tokens.now) (grind (arith, common_steps, c.in_err-typed.ensures.value))

pub bound-returns-in_err-typed-2-clause-value : goal.bound-returns-in_err-typed-2-clause-value
bound-returns-in_err-typed-2-clause-value t c = λ n h. rw (bound_by (reading n) c.args.up c.args.place c.args.tokens.now, c.in_ok-typed.ensures.value) (grind (arith, common_steps, c.in_err-typed-2.ensures.value))

pub bound-returns-in_err-inner-clause-value : goal.bound-returns-in_err-inner-clause-value
bound-returns-in_err-inner-clause-value t c = λ n h. rw (bound_by (reading n) c.args.up c.args.place c.args.tokens.now, c.in_ok-typed.ensures.value, c.in_ok-typed-2.ensures.value) (grind (arith, common_steps, c.in_err-inner.ensures.value n (omega (arith, c.in_ok-typed.ensures.shorter, c.in_ok-typed-2.ensures.shorter))))

pub bound-returns-clause-value : goal.bound-returns-clause-value
bound-returns-clause-value t c = λ n h. rw (bound_by (reading n) c.args.up c.args.place c.args.tokens.now, c.in_ok-typed.ensures.value, c.in_ok-typed-2.ensures.value, c.in_ok-inner.ensures.value n (omega (arith, c.in_ok-typed.ensures.shorter, c.in_ok-typed-2.ensures.shorter)), c.in_ok-boxed.ensures) (rw (plain_expressions.bound c.args.up c.in_ok-typed-2.typed.0 c.in_ok-typed-2.typed.1 c.in_ok-inner.inner c.reach-place.result, c.reach-place.ensures, c.end_of.ensures, c.deref.ensures) refl)

pub bound-returns-clause-shorter : goal.bound-returns-clause-shorter
bound-returns-clause-shorter t c = omega (arith, c.in_ok-typed.ensures.shorter, c.in_ok-typed-2.ensures.shorter, c.in_ok-inner.ensures.shorter)

pub enclosed-returns-in_err-inner-clause-value : goal.enclosed-returns-in_err-inner-clause-value
enclosed-returns-in_err-inner-clause-value t c = λ n h. grind (arith, common_steps, c.in_err-inner.ensures.value n (omega arith))

pub enclosed-returns-in_err-place-clause-value : goal.enclosed-returns-in_err-place-clause-value
enclosed-returns-in_err-place-clause-value t c = λ n h. rw (c.in_ok-inner.ensures.value n (omega arith)) (grind (arith, common_steps, c.in_err-place.ensures.value))

pub enclosed-returns-clause-value : goal.enclosed-returns-clause-value
enclosed-returns-clause-value t c = λ n h. rw (c.in_ok-inner.ensures.value n (omega arith), c.in_ok-place.ensures.value) refl

pub enclosed-returns-clause-shorter : goal.enclosed-returns-clause-shorter
enclosed-returns-clause-shorter t c = omega (arith, c.in_ok-inner.ensures.shorter, c.in_ok-place.ensures.shorter)

pub prefixed-returns-in_err-inner-clause-value : goal.prefixed-returns-in_err-inner-clause-value
prefixed-returns-in_err-inner-clause-value t c = λ n h. grind (arith, common_steps, c.in_err-inner.ensures.value n (omega arith))

pub prefixed-returns-clause-value : goal.prefixed-returns-clause-value
prefixed-returns-clause-value t c = λ n h. rw (c.in_ok-inner.ensures.value n (omega arith)) (rw (plain_expressions.unary c.args.op c.in_ok-boxed.field-0 c.reach-place.result, c.in_ok-boxed.ensures, c.reach-place.ensures, c.end_of.ensures) refl)

pub prefixed-returns-clause-shorter : goal.prefixed-returns-clause-shorter
prefixed-returns-clause-shorter t c = omega (arith, c.in_ok-inner.ensures.shorter)

pub started-returns-in_err-inner-in-Group-clause-value : goal.started-returns-in_err-inner-in-Group-clause-value
started-returns-in_err-inner-in-Group-clause-value t c = λ n h all e. rw c.in-Group.is (grind (arith, common_steps, c.in_err-inner-in-Group.ensures.value n h))

pub started-returns-in_ok-inner-in-Group-clause-value : goal.started-returns-in_ok-inner-in-Group-clause-value
started-returns-in_ok-inner-in-Group-clause-value t c = λ n h all e. rw (c.in-Group.is, c.in_ok-inner-in-Group.ensures.value n h) (rw (plain_expressions.group c.in_ok-inner-in-Group.inner c.reach.result, c.reach.ensures) refl)

pub started-returns-in_err-inner-in-Bracket-clause-value : goal.started-returns-in_err-inner-in-Bracket-clause-value
started-returns-in_err-inner-in-Bracket-clause-value t c = λ n h all e. rw c.in-Bracket.is (grind (arith, common_steps, c.in_err-inner-in-Bracket.ensures.value n h))

pub started-returns-in_ok-inner-in-Bracket-clause-value : goal.started-returns-in_ok-inner-in-Bracket-clause-value
started-returns-in_ok-inner-in-Bracket-clause-value t c = λ n h all e. rw (c.in-Bracket.is, c.in_ok-inner-in-Bracket.ensures.value n h) (rw (plain_expressions.bracket c.in_ok-inner-in-Bracket.inner c.reach-in-Bracket.result, c.reach-in-Bracket.ensures) refl)

pub started-returns-in_err-rest-in-Embed-clause-value : goal.started-returns-in_err-rest-in-Embed-clause-value
started-returns-in_err-rest-in-Embed-clause-value t c = λ n h all e. rw c.in-Embed.is (grind (arith, common_steps, c.in_err-rest-in-Embed.ensures.value))

pub started-returns-in_err-inner-in-Embed-clause-value : goal.started-returns-in_err-inner-in-Embed-clause-value
started-returns-in_err-inner-in-Embed-clause-value t c = λ n h all e. rw (c.in-Embed.is, c.in_ok-rest-in-Embed.ensures.value) (grind (arith, common_steps, c.in_err-inner-in-Embed.ensures.value n (omega (arith, c.in_ok-rest-in-Embed.ensures.shorter))))

pub started-returns-in_ok-inner-in-Embed-clause-value : goal.started-returns-in_ok-inner-in-Embed-clause-value
started-returns-in_ok-inner-in-Embed-clause-value t c = λ n h all e. rw (c.in-Embed.is, c.in_ok-rest-in-Embed.ensures.value, c.in_ok-inner-in-Embed.ensures.value n (omega (arith, c.in_ok-rest-in-Embed.ensures.shorter))) (rw (plain_expressions.embed c.in_ok-inner-in-Embed.inner c.reach-in-Embed.result, c.reach-in-Embed.ensures) refl)

pub started-returns-in-Prefix-clause-value : goal.started-returns-in-Prefix-clause-value
started-returns-in-Prefix-clause-value t c = λ n h all e. rw c.in-Prefix.is (c.prefixed.ensures.value n h)
