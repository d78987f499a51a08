-- The pre-expectation of acts as a form, generated from the last act to the first. Loops and calls
-- are encoded before and have no separate row: their form is 0 here. Source: vp of HeyVL
-- (Schroeer, Batz, Kaminski, Katoen, Matheja, OOPSLA 2023).
use Rattle.std.specs.Prelude.{ℕ, Bool, true, false, List, [], ◌∷◌}
use Rattle.heyvl_num.specs.Rational.{Rational}
use Rattle.heyvl_num.specs.Value.{zeroᵛ, oneᵛ}
use Rattle.heyvl_places.specs.declared.checks.CheckKind.{CheckKind}
use Rattle.heylo_formula.specs.Formula.{Form, Cond, Term}
use Rattle.heyvl_places.specs.declared.spans.Span.{Span}
use Rattle.heylo_formula.specs.Substitution.{subst}
use Rattle.heyvl_acts.specs.Acts.{Act, Acts, Arms}

-- The form of a pick: the larger of two forms if it goes up, otherwise the smaller.
abbrev pub pick_form : Bool → Form → Form → Form
pick_form true a b = Form.max a b
pick_form false a b = Form.min a b

-- The form of a check of `f` before `k`.
abbrev pub check_form : CheckKind → Form → Form → Form
check_form CheckKind.Assert f k = Form.min f k
check_form CheckKind.Assume f k = Form.imply f k
check_form CheckKind.CoAssert f k = Form.max f k
check_form CheckKind.CoAssume f k = Form.co_imply f k

-- The form of a covalidation before `k` if the flag is true, otherwise of a validation.
abbrev pub validate_form : Bool → Form → Form
validate_form true k = Form.co_validate k
validate_form false k = Form.validate k

-- The form of one part of a draw before `k`: the weight times `k` with the part's term for `x`.
abbrev pub part_form : ℕ → Rational × Term → Form → Form
part_form x p k = Form.scale p.0 (subst x p.1 k)

-- The form `total` plus the forms of the parts, from the left.
abbrev pub sum_of_parts : ℕ → List (Rational × Term) → Form → Form → Form
sum_of_parts x [] k total = total
sum_of_parts x (p ∷ ps) k total = sum_of_parts x ps k (Form.sum total (part_form x p k))

-- The form of a draw before `k`: the sum of the forms of its parts, from the left.
abbrev pub draw_form : ℕ → List (Rational × Term) → Form → Form
draw_form x [] k = Form.number zeroᵛ
draw_form x (p ∷ ps) k = sum_of_parts x ps k (part_form x p k)

-- The form of a toss before `k`: with w the smaller of `f` and 1, it is w times `k` with true for
-- `x`, plus 1 - w times `k` with false for `x`.
abbrev pub toss_form : ℕ → Form → Span → Form → Form
toss_form x f span k = Form.sum
    (Form.product (Form.min f (Form.number oneᵛ))
    (subst x (Term.truth (Cond.constant true)) k) span)
    (Form.product (Form.cut (Form.number oneᵛ) (Form.min f (Form.number oneᵛ)))
    (subst x (Term.truth (Cond.constant false)) k) span)

abbrev mutual
  -- `vp_act a k`: the form of the act `a` before `k`. For `reward 1` it is `k + 1`.
  pub vp_act : Act → Form → Form
  vp_act (Act.set x t span) k = subst x t k
  vp_act (Act.draw x ps span) k = draw_form x ps k
  vp_act (Act.toss x f span) k = toss_form x f span k
  vp_act (Act.any x up ty span) k = Form.bind up x x ty k
  vp_act (Act.reward f span) k = Form.sum k f
  vp_act (Act.ifs arms e span) k = vp_arms arms k (vp e k)
  vp_act (Act.pick up a b span) k = pick_form up (vp a k) (vp b k)
  vp_act (Act.check kind f span) k = check_form kind f k
  vp_act (Act.validate co span) k = validate_form co k
  vp_act (Act.loop h b) k = Form.number zeroᵛ
  vp_act (Act.call xs p es span) k = Form.number zeroᵛ

  -- `vp acts k`: the form of the acts before `k`.
  pub vp : Acts → Form → Form
  vp Acts.done k = k
  vp (Acts.next a rest) k = vp_act a (vp rest k)

  -- `vp_arms arms k otherwise`: the form of the first arm whose guard holds, before `k`; if none
  -- holds, it is `otherwise`.
  pub vp_arms : Arms → Form → Form → Form
  vp_arms Arms.no_arm k otherwise = otherwise
  vp_arms (Arms.arm g b more) k otherwise = Form.select g (vp b k) (vp_arms more k otherwise)
