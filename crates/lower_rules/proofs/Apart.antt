-- Acts that do not use a variable have the same meaning if the variable is in the state as if it is
-- substituted in the formula after them.
use Rattle.std.proofs.Common.{◌≡◌, ◌∙◌, ◌==◌, ℕ, refl, ap, ap₂, Bool, false, cond, List, [], ◌∷◌}
use Rattle.heyvl_num.specs.Rational.{Rational}
use Rattle.heyvl_num.specs.Value.{Value, oneᵛ, ◌+ᵛ◌, ◌*ᵛ◌}
use Rattle.heyvl_num.specs.Value.Value.{finite}
use Rattle.heyvl_num.specs.ValueOperators.{minᵛ}
use Rattle.heylo_formula.specs.Binders.{has_binder}
use Rattle.heylo_formula.specs.Choices.{Choices, here, left, right}
use Rattle.heylo_formula.specs.Formula.{Form, Term}
use Rattle.heylo_formula.specs.Meaning.{value, term_value}
use Rattle.heylo_formula.specs.Operators.{finite_part}
use Rattle.heylo_formula.specs.State.{Env, put, fit}
use Rattle.heylo_formula.specs.Variables.{is_free, is_free_in}
use Rattle.heylo_formula.specs.declared.values.Val.{Val}
use Rattle.heylo_formula.specs.declared.values.Val.TheVariants.{Truth, Num}
use Rattle.heylo_formula.proofs.exported.Agreement.{unfree, unfree_in, unchosen}
use Rattle.heylo_formula.proofs.exported.States.{put_commute}
use Rattle.heyvl_acts.specs.Acts.{Act, Acts, Arms}
use Rattle.heyvl_acts.specs.Forward.{Post, picked, checked, validated, part, parts, drawn, forward, forward_act, meant_arms, no_loops, no_calls, past_products}
use Rattle.heyvl_acts.specs.Tosses.{flip_parts, toss_parts}

abbrev pub LacksTerm : ℕ → Term → Type 0
LacksTerm n (Term.truth g) = is_free_in n g ≡ false
LacksTerm n (Term.number f) = is_free n f ≡ false

abbrev pub LacksParts : ℕ → List (Rational × Term) → Type 0
LacksParts n [] = Unit {0}
LacksParts n (q ∷ qs) = LacksTerm n q.1 × LacksParts n qs

-- Acts without loops and calls that neither read the variable nor assign it.
abbrev mutual
  pub LacksAct : ℕ → Act → Type 0
  LacksAct n (Act.set x t span) = ((x == n) ≡ false) × LacksTerm n t
  LacksAct n (Act.draw x qs span) = ((x == n) ≡ false) × LacksParts n qs
  LacksAct n (Act.toss x f span) = ((x == n) ≡ false) × (is_free n f ≡ false)
  LacksAct n (Act.any x up ty span) = (x == n) ≡ false
  LacksAct n (Act.reward f span) = is_free n f ≡ false
  LacksAct n (Act.ifs arms e span) = ArmsLack n arms × Lacks n e
  LacksAct n (Act.pick up a b span) = Lacks n a × Lacks n b
  LacksAct n (Act.check kind f span) = is_free n f ≡ false
  LacksAct n (Act.validate co span) = Unit {0}
  LacksAct n (Act.loop h b) = ⊥
  LacksAct n (Act.call xs p es span) = ⊥

  pub Lacks : ℕ → Acts → Type 0
  Lacks n Acts.done = Unit {0}
  Lacks n (Acts.next a rest) = LacksAct n a × Lacks n rest

  pub ArmsLack : ℕ → Arms → Type 0
  ArmsLack n Arms.no_arm = Unit {0}
  ArmsLack n (Arms.arm g b more) = (is_free_in n g ≡ false) × (Lacks n b × ArmsLack n more)

module _ (n : ℕ) (v : Val) where
  -- The first post is evaluated with the variable in the state, the second one without it.
  abbrev Beside : Post → Post → Type 0
  Beside k j = (s : Env) (c : Choices) → k (put n v s) c ≡ j s c

  term_apart : (t : Term) (s : Env) → LacksTerm n t → term_value t (put n v s) ≡ term_value t s
  term_apart (Term.truth g) s h = ap Truth (unfree_in n g v s Choices.stop h)
  term_apart (Term.number f) s h = ap (λ u. Num (finite_part u)) (unfree n f v s Choices.stop h)

  put_apart : (k j : Post) → Beside k j → (x : ℕ) (w : Val) (s : Env) (c : Choices) → (x == n) ≡ false → k (put x w (put n v s)) c ≡ j (put x w s) c
  put_apart k j b x w s c e = ap (λ (t : Env). k t c) (put_commute x n v w s e) ∙ b (put x w s) c

  part_apart : (x : ℕ) (q : Rational × Term) (k j : Post) → (x == n) ≡ false → LacksTerm n q.1 → Beside k j → Beside (part x q k) (part x q j)
  part_apart x q k j e h b s c = ap (λ u. finite q.0 *ᵛ u) (ap (λ w. k (put x w (put n v s)) c) (term_apart q.1 s h) ∙ put_apart k j b x (term_value q.1 s) s c e)

  parts_apart : (x : ℕ) (qs : List (Rational × Term)) (k j total more : Post) → (x == n) ≡ false → LacksParts n qs → Beside k j → Beside total more → Beside (parts x qs k total) (parts x qs j more)
  parts_apart x [] k j total more e h b t s c = t s c
  parts_apart x (q ∷ qs) k j total more e h b t s c = parts_apart x qs k j (λ r d. total r (left d) +ᵛ part x q k r (right d)) (λ r d. more r (left d) +ᵛ part x q j r (right d)) e h.1 b (λ r d. ap₂ (λ a u. a +ᵛ u) (t r (left d)) (part_apart x q k j e h.0 b r (right d))) s c

  drawn_apart : (x : ℕ) (qs : List (Rational × Term)) (k j : Post) → (x == n) ≡ false → LacksParts n qs → Beside k j → Beside (drawn x qs k) (drawn x qs j)
  drawn_apart x [] k j e h b s c = refl
  drawn_apart x (q ∷ qs) k j e h b s c = parts_apart x qs k j (part x q k) (part x q j) e h.1 b (part_apart x q k j e h.0 b) s c

  either : (t u : Bool) (x y z w : Value) → t ≡ u → x ≡ z → y ≡ w → cond t x y ≡ cond u z w
  either t u x y z w e f g = ap (λ b. cond b x y) e ∙ ap₂ (λ a b. cond u a b) f g

  mutual
    act_apart : (a : Act) (k j : Post) → LacksAct n a → Beside k j → Beside (forward_act a k) (forward_act a j)
    act_apart (Act.set x t span) k j h b s c = ap (λ w. k (put x w (put n v s)) c) (term_apart t s h.1) ∙ put_apart k j b x (term_value t s) s c h.0
    act_apart (Act.draw x qs span) k j h b s c = drawn_apart x qs k j h.0 h.1 b s c
    act_apart (Act.toss x f span) k j h b s c = ap (λ w. drawn x (flip_parts w) k (put n v s) (past_products c)) (ap (λ u. finite_part (minᵛ u oneᵛ)) (unfree n f v s Choices.stop h.1)) ∙ drawn_apart x (toss_parts f s) k j h.0 ((refl, (refl, tt))) b s (past_products c)
    act_apart (Act.any x up ty span) k j h b s c = put_apart k j b x (fit ty (here c)) s (left c) h
    act_apart (Act.reward f span) k j h b s c = ap₂ (λ x y. x +ᵛ y) (b s (left c)) (unfree n f v s Choices.stop h)
    act_apart (Act.ifs arms e span) k j h b s c = arms_apart arms k j (forward e k) (forward e j) h.0 b (acts_apart e k j h.1 b) s c
    act_apart (Act.pick up x y span) k j h b s c = ap₂ (picked up) (acts_apart x k j h.0 b s (left c)) (acts_apart y k j h.1 b s (right c))
    act_apart (Act.check kind f span) k j h b s c = ap₂ (checked kind) (unfree n f v s Choices.stop h) (b s (right c))
    act_apart (Act.validate co span) k j h b s c = ap (validated co) (b s c)
    act_apart (Act.loop q x) k j h b s c = absurd h
    act_apart (Act.call xs q es span) k j h b s c = absurd h

    acts_apart : (acts : Acts) (k j : Post) → Lacks n acts → Beside k j → Beside (forward acts k) (forward acts j)
    acts_apart Acts.done k j h b s c = b s c
    acts_apart (Acts.next a rest) k j h b s c = act_apart a (forward rest k) (forward rest j) h.0 (acts_apart rest k j h.1 b) s c

    arms_apart : (arms : Arms) (k j otherwise other : Post) → ArmsLack n arms → Beside k j → Beside otherwise other → Beside (meant_arms no_loops no_calls arms k otherwise) (meant_arms no_loops no_calls arms j other)
    arms_apart Arms.no_arm k j otherwise other h b o s c = o s c
    arms_apart (Arms.arm g x more) k j otherwise other h b o s c = either _ _ _ _ _ _ (unfree_in n g v s Choices.stop h.0) (acts_apart x k j h.1.0 b s (right c)) (arms_apart more k j otherwise other h.1.1 b o s (right c))

-- Let acts not use a variable, and let the formula after them have no binders. Their meaning in a
-- state with the variable is their meaning in the state without it, if the variable is substituted
-- in the formula.
pub acts_stand_apart : (n : ℕ) (acts : Acts) (f : Form) (v : Val) (s : Env) (c : Choices) → Lacks n acts → has_binder f ≡ false → forward acts (value f) (put n v s) c ≡ forward acts (λ t d. value f (put n v t) Choices.stop) s c
acts_stand_apart n acts f v s c h plain = acts_apart n v acts (value f) (λ t d. value f (put n v t) Choices.stop) h (λ t d. unchosen f (put n v t) d plain) s c
