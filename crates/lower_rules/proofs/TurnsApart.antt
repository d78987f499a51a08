-- The acts of a proc with `@wlp` and one loop do not use the number of iterations.
use Rattle.std.proofs.Common.{◌≡◌, ◌<◌, ◌==◌, ℕ, refl, arith, Bool, true, false, List, [], ◌∷◌}
use Rattle.std.proofs.Math.ListN.{length}
use Rattle.heyvl_num.specs.Rational.{Rational}
use Rattle.heyvl_places.specs.declared.spans.Span.{Span}
use Rattle.heylo_formula.specs.Formula.{Form, Cond, Term}
use Rattle.heylo_formula.specs.Variables.{is_free, is_free_in, IsOver, IsOverIn}
use Rattle.heyvl_acts.specs.Acts.{Act, Acts, Arms, TypedProcedure, variables}
use Rattle.heyvl_acts.specs.Places.{in_order, inside, inside_arms}
use Rattle.heyvl_acts.specs.Rules.{Each}
use Rattle.heyvl_acts.proofs.exported.Each.{each_first, each_second}
use Rattle.ranking_rule.proofs.exported.ReadVariables.{ReadsFirst}
use Rattle.vp_generator.specs.Over.{TermIsOver, PartsAreOver}
use Rattle.lower_rules.proofs.Apart.{LacksAct, LacksTerm, LacksParts, Lacks, ArmsLack}
use Rattle.lower_goals.proofs.exported.TurnActs.{IsTurnAct, free_occurs, free_occurs_in}

pub over_lacks : (n : ℕ) (f : Form) → IsOver n f → is_free n f ≡ false
over_lacks n f o = go (is_free n f) refl
  where
    go : (b : Bool) → is_free n f ≡ b → b ≡ false
    go true e = absurd (let l = o n e in omega (arith, l))
    go false e = refl

over_lacks_in : (n : ℕ) (g : Cond) → IsOverIn n g → is_free_in n g ≡ false
over_lacks_in n g o = go (is_free_in n g) refl
  where
    go : (b : Bool) → is_free_in n g ≡ b → b ≡ false
    go true e = absurd (let l = o n e in omega (arith, l))
    go false e = refl

other_number : (x n : ℕ) → x < n → (x == n) ≡ false
other_number x n l = go (x == n) refl
  where
    go : (b : Bool) → (x == n) ≡ b → b ≡ false
    go true e = let i : x ≡ n = grind arith in absurd (omega (arith, i, l))
    go false e = refl

module _ (ps : List TypedProcedure) (p : TypedProcedure) where
  abbrev Good : Act → Type 0
  Good a = IsTurnAct ps p a

  term_lacks : (t : Term) → TermIsOver (length (variables p)) t → LacksTerm (length (variables p)) t
  term_lacks (Term.truth g) o = over_lacks_in (length (variables p)) g (λ y k. o y (free_occurs_in y g k))
  term_lacks (Term.number f) o = over_lacks (length (variables p)) f (λ y k. o y (free_occurs y f k))

  parts_lack : (qs : List (Rational × Term)) → PartsAreOver (length (variables p)) qs → LacksParts (length (variables p)) qs
  parts_lack [] o = tt
  parts_lack (q ∷ qs) o = (term_lacks q.1 o.0, parts_lack qs o.1)

  mutual
    pub acts_lack : (acts : Acts) → Each Good (in_order acts) → Lacks (length (variables p)) acts
    acts_lack Acts.done h = tt
    acts_lack (Acts.next a rest) h = (act_lacks a h.0 (each_first Good (inside a) (in_order rest) h.1), acts_lack rest (each_second Good (inside a) (in_order rest) h.1))

    act_lacks : (a : Act) → IsTurnAct ps p a → Each Good (inside a) → LacksAct (length (variables p)) a
    act_lacks (Act.set x t span) h i = (other_number x (length (variables p)) h.0.0.below, term_lacks t h.1.1)
    act_lacks (Act.draw x qs span) h i = (other_number x (length (variables p)) h.0.0.below, parts_lack qs h.1.1)
    act_lacks (Act.toss x f span) h i = (other_number x (length (variables p)) h.0.0.below, over_lacks (length (variables p)) f h.1.1)
    act_lacks (Act.any x up ty span) h i = other_number x (length (variables p)) h.0.0.below
    act_lacks (Act.reward f span) h i = absurd h.0
    act_lacks (Act.ifs arms e span) h i = (arms_lack arms e span h.1.1 (each_first Good (inside_arms arms) (in_order e) i), acts_lack e (each_second Good (inside_arms arms) (in_order e) i))
    act_lacks (Act.pick up a b span) h i = (acts_lack a (each_first Good (in_order a) (in_order b) i), acts_lack b (each_second Good (in_order a) (in_order b) i))
    act_lacks (Act.check kind f span) h i = absurd h.0
    act_lacks (Act.validate co span) h i = absurd h.0
    act_lacks (Act.loop k b) h i = absurd h.0
    act_lacks (Act.call xs q es span) h i = absurd h.0

    arms_lack : (arms : Arms) (e : Acts) (span : Span) → ReadsFirst (length (variables p)) (Act.ifs arms e span) → Each Good (inside_arms arms) → ArmsLack (length (variables p)) arms
    arms_lack Arms.no_arm e span r i = tt
    arms_lack (Arms.arm c b more) e span r i = (over_lacks_in (length (variables p)) c r.0, (acts_lack b (each_first Good (in_order b) (inside_arms more) i), arms_lack more e span r.1 (each_second Good (in_order b) (inside_arms more) i)))
