-- Acts that read only variables below a number. The form that is generated from them has no others.
-- This project's own.
use Rattle.std.specs.Prelude.{◌≡◌, ℕ, ◌<◌, true, List, [], ◌∷◌}
use Rattle.heyvl_num.specs.Rational.{Rational}
use Rattle.heylo_formula.specs.Formula.{Form, Term}
use Rattle.heylo_formula.specs.Variables.{occurs_in_term, IsOver, IsOverIn}
use Rattle.heyvl_acts.specs.Acts.{Act, Acts, Arms}
use Rattle.vp_generator.specs.GeneratedForms.{vp}

-- Each variable in the term has a number below `n`.
abbrev pub TermIsOver : ℕ → Term → Type 0
TermIsOver n t = (y : ℕ) → occurs_in_term y t ≡ true → y < n

-- Each variable in the terms of the parts has a number below `n`.
abbrev pub PartsAreOver : ℕ → List (Rational × Term) → Type 0
PartsAreOver n [] = Unit {0}
PartsAreOver n (p ∷ ps) = TermIsOver n p.1 × PartsAreOver n ps

abbrev mutual
  -- The act reads only variables below `n`. It may assign any, and nothing is required of loops and
  -- calls, from which no form is generated.
  pub ActIsOver : ℕ → Act → Type 0
  ActIsOver n (Act.set x t span) = TermIsOver n t
  ActIsOver n (Act.draw x ps span) = PartsAreOver n ps
  ActIsOver n (Act.toss x f span) = IsOver n f
  ActIsOver n (Act.any x up ty span) = Unit {0}
  ActIsOver n (Act.reward f span) = IsOver n f
  ActIsOver n (Act.ifs arms e span) = ArmsAreOver n arms × ActsAreOver n e
  ActIsOver n (Act.pick up a b span) = ActsAreOver n a × ActsAreOver n b
  ActIsOver n (Act.check kind f span) = IsOver n f
  ActIsOver n (Act.validate co span) = Unit {0}
  ActIsOver n (Act.loop h b) = Unit {0}
  ActIsOver n (Act.call xs p es span) = Unit {0}

  -- The acts read only variables below `n`.
  pub ActsAreOver : ℕ → Acts → Type 0
  ActsAreOver n Acts.done = Unit {0}
  ActsAreOver n (Acts.next a rest) = ActIsOver n a × ActsAreOver n rest

  -- The arms read only variables below `n`.
  pub ArmsAreOver : ℕ → Arms → Type 0
  ArmsAreOver n Arms.no_arm = Unit {0}
  ArmsAreOver n (Arms.arm g b more) = IsOverIn n g × (ActsAreOver n b × ArmsAreOver n more)

-- The free variables of the generated form are below `n`, if those that the acts read and those of
-- the post are.
abbrev pub GeneratedFormIsOver : Type 0
GeneratedFormIsOver = (n : ℕ) (acts : Acts) (post : Form) → ActsAreOver n acts → IsOver n post
    → IsOver n (vp acts post)
