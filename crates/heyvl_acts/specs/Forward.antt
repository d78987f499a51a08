-- The forward meaning of acts: the pre-expectation of a post in a state, computed from the first
-- act to the last by changing the state. The meanings of loops and calls are parameters.
--
-- A choice tree is read as in the generated form: of two operands, the first takes the left choices
-- and the second the right ones, so that they choose independently. Source: the verification
-- pre-expectation of HeyVL (Schroeer, Batz, Kaminski, Katoen, Matheja, OOPSLA 2023), read forward;
-- the choice trees are this project's own.
use Rattle.std.specs.Prelude.{ℕ, Bool, true, false, List, [], ◌∷◌, if◌then◌else◌}
use Rattle.heyvl_num.specs.Rational.{Rational}
use Rattle.heyvl_num.specs.Value.{Value, zeroᵛ, ◌+ᵛ◌, ◌*ᵛ◌}
use Rattle.heyvl_num.specs.Value.Value.{finite}
use Rattle.heyvl_num.specs.ValueOperators.{minᵛ, maxᵛ, impliesᵛ, coimpliesᵛ}
use Rattle.heyvl_places.specs.declared.checks.CheckKind.{CheckKind}
use Rattle.heylo_formula.specs.Operators.{validateᵛ, covalidateᵛ}
use Rattle.heylo_formula.specs.State.{Env, put, fit}
use Rattle.heylo_formula.specs.Choices.{Choices, here, left, right}
use Rattle.heylo_formula.specs.Formula.{Term}
use Rattle.heylo_formula.specs.Meaning.{value, holds, term_value}
use Rattle.heylo_formula.specs.declared.values.Val.TheVariants.{Truth}
use Rattle.heyvl_acts.specs.Acts.{Head, Act, Acts, Arms}
use Rattle.heyvl_acts.specs.Tosses.{toss_parts}

-- A post: a value in each state, for all choices.
abbrev pub Post : Type 0
Post = Env → Choices → Value

-- The larger value upward, the smaller one downward.
abbrev pub picked : Bool → Value → Value → Value
picked true x y = maxᵛ x y
picked false x y = minᵛ x y

-- The pre-expectation of a check, from the value of its formula and that of the post.
abbrev pub checked : CheckKind → Value → Value → Value
checked CheckKind.Assert x y = minᵛ x y
checked CheckKind.Assume x y = impliesᵛ x y
checked CheckKind.CoAssert x y = maxᵛ x y
checked CheckKind.CoAssume x y = coimpliesᵛ x y

-- The pre-expectation of a validation, from the value of the post: its covalidation if the flag is
-- true, otherwise its validation.
abbrev pub validated : Bool → Value → Value
validated true x = covalidateᵛ x
validated false x = validateᵛ x

-- The contribution of one alternative of a draw: its weight times the post in the changed state.
abbrev pub part : ℕ → Rational × Term → Post → Post
part x p k s c = finite p.0 *ᵛ k (put x (term_value p.1 s) s) c

-- The sum from the left: `total`, and the contributions of the remaining alternatives.
abbrev pub parts : ℕ → List (Rational × Term) → Post → Post → Post
parts x [] k total s c = total s c
parts x (p ∷ ps) k total s c = parts x ps k (λ r d. total r (left d) +ᵛ part x p k r (right d)) s c

-- The pre-expectation of a draw: the sum of its contributions; 0 if it has no alternatives. If `x`
-- becomes 0 or 2 with weight 1/2 each, the pre-expectation of `x` is 1.
abbrev pub drawn : ℕ → List (Rational × Term) → Post → Post
drawn x [] k s c = zeroᵛ
drawn x (p ∷ ps) k s c = parts x ps k (part x p k) s c

-- The choices of the second factors of the two products of a toss. The first factors have no
-- binders.
abbrev pub past_products : Choices → Choices
past_products c = Choices.choose (Truth false) (right (left c)) (right (right c))

-- The meaning of loops: from the head, the body, the meaning of the body, and the post.
abbrev pub OfLoops : Type 0
OfLoops = Head → Acts → (Post → Post) → Post → Post

-- The meaning of calls: from the targets, the procedure, the arguments, and the post.
abbrev pub OfCalls : Type 0
OfCalls = List ℕ → ℕ → List Term → Post → Post

abbrev mutual
  -- `meant_act l q a k s c`: the pre-expectation of the post `k` over the act `a` in the
  -- environment `s` with the choices `c`, where `l` and `q` are the meanings of loops and calls.
  pub meant_act : OfLoops → OfCalls → Act → Post → Post
  meant_act l q (Act.set x t span) k s c = k (put x (term_value t s) s) c
  meant_act l q (Act.draw x ps span) k s c = drawn x ps k s c
  meant_act l q (Act.toss x f span) k s c = drawn x (toss_parts f s) k s (past_products c)
  meant_act l q (Act.any x up ty span) k s c = k (put x (fit ty (here c)) s) (left c)
  meant_act l q (Act.reward f span) k s c = k s (left c) +ᵛ value f s Choices.stop
  meant_act l q (Act.ifs arms e span) k s c = meant_arms l q arms k (meant l q e k) s c
  meant_act l q (Act.pick up a b span) k s c =
      picked up (meant l q a k s (left c)) (meant l q b k s (right c))
  meant_act l q (Act.check kind f span) k s c =
      checked kind (value f s Choices.stop) (k s (right c))
  meant_act l q (Act.validate co span) k s c = validated co (k s c)
  meant_act l q (Act.loop h b) k s c = l h b (meant l q b) k s c
  meant_act l q (Act.call xs p es span) k s c = q xs p es k s c

  -- `meant l q acts k s c`: the pre-expectation of the post `k` over the acts `acts`. The meaning
  -- of the remaining acts is the post of the first one.
  pub meant : OfLoops → OfCalls → Acts → Post → Post
  meant l q Acts.done k s c = k s c
  meant l q (Acts.next a rest) k s c = meant_act l q a (meant l q rest k) s c

  -- The pre-expectation over the first arm whose guard holds; if no guard holds, that of
  -- `otherwise`.
  pub meant_arms : OfLoops → OfCalls → Arms → Post → Post → Post
  meant_arms l q Arms.no_arm k otherwise s c = otherwise s c
  meant_arms l q (Arms.arm g b more) k otherwise s c = if holds g s Choices.stop
      then meant l q b k s (right c) else meant_arms l q more k otherwise s (right c)

-- The meaning of loops as 0, whatever the post.
abbrev pub no_loops : OfLoops
no_loops h b body k s c = zeroᵛ

-- The meaning of calls as 0, whatever the post.
abbrev pub no_calls : OfCalls
no_calls xs p es k s c = zeroᵛ

-- The forward meaning of acts without loops and calls.
abbrev pub forward : Acts → Post → Post
forward acts = meant no_loops no_calls acts

-- The forward meaning of one act that is neither a loop nor a call.
abbrev pub forward_act : Act → Post → Post
forward_act a = meant_act no_loops no_calls a
