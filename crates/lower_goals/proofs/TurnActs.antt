-- The static rules on the acts of a proc with `@wlp` and one loop: they are well typed also if the
-- variables after the procedure's have types, and they read and bind only variables of the
-- procedure.
use Rattle.std.proofs.Common.{◌≡◌, ◌∙◌, ◌<◌, ◌≤◌, ℕ, refl, sym, ap, subst, arith, Bool, true, false, List, [], ◌∷◌}
use Rattle.std.proofs.Math.ListN.{length}
use Rattle.heyvl_num.specs.Rational.{Rational}
use Rattle.heyvl_places.specs.declared.spans.Span.{Span}
use Rattle.heylo_formula.specs.Formula.{Form, Cond, Term}
use Rattle.heylo_formula.specs.Typing.{Types, TermFits, fits, is_bool, is_finite_type, is_unsigned, is_well_typed, number_type, type_of, IsFormula}
use Rattle.heylo_formula.specs.Variables.{is_free, is_free_in, occurs, occurs_in, IsOver, IsOverIn}
use Rattle.heylo_formula.proofs.exported.Agreement.{same_types, same_truth, unused_free, unused_free_in}
use Rattle.heyvl_acts.specs.Acts.{Act, Acts, Arms, TypedProcedure, types_of, variables}
use Rattle.heyvl_acts.specs.Places.{in_order, inside, inside_arms}
use Rattle.heyvl_acts.specs.Rules.{Each, GuardsFit, IsTypedAct}
use Rattle.heyvl_acts.specs.WellTypedActs.{ActFits, ActsFit, ArmsFit, DrawFits, PartsFit}
use Rattle.heyvl_acts.proofs.exported.Each.{each_first, each_second}
use Rattle.ranking_rule.proofs.exported.ReadVariables.{ReadsFirst}
use Rattle.vp_generator.specs.Over.{TermIsOver, PartsAreOver, ActIsOver, ActsAreOver, ArmsAreOver}
use Rattle.vp_generator.specs.Scopes.{AnyIsBelow, AnysAreBelow, AnysAreBelow_in}
use Rattle.lower_goals.proofs.Calm.{IsCalm}

-- ---- Free variables

pub free_occurs : (y : ℕ) (f : Form) → is_free y f ≡ true → occurs y f ≡ true
free_occurs y f h = go (occurs y f) refl
  where
    go : (b : Bool) → occurs y f ≡ b → b ≡ true
    go true e = refl
    go false e = absurd (let k = sym h ∙ unused_free y f e in cc)

pub free_occurs_in : (y : ℕ) (g : Cond) → is_free_in y g ≡ true → occurs_in y g ≡ true
free_occurs_in y g h = go (occurs_in y g) refl
  where
    go : (b : Bool) → occurs_in y g ≡ b → b ≡ true
    go true e = refl
    go false e = absurd (let k = sym h ∙ unused_free_in y g e in cc)

-- ---- The static rules on an act

abbrev pub IsTurnAct : List TypedProcedure → TypedProcedure → Act → Type 0
IsTurnAct ps p a = IsCalm p a × (IsTypedAct ps p a × ReadsFirst (length (variables p)) a)

module _ (ps : List TypedProcedure) (p : TypedProcedure) where
  abbrev Good : Act → Type 0
  Good a = IsTurnAct ps p a

  -- ---- Types

  module _ (types : Types) (agree : (y : ℕ) → y < length (variables p) → types y ≡ types_of p y) where
    form_type : (f : Form) → IsOver (length (variables p)) f → type_of types f ≡ type_of (types_of p) f
    form_type f o = same_types f types (types_of p) (λ y k. agree y (o y k))

    pub cond_type : (g : Cond) → IsOverIn (length (variables p)) g → is_well_typed types g ≡ is_well_typed (types_of p) g
    cond_type g o = same_truth g types (types_of p) (λ y k. agree y (o y k))

    pub formula : (f : Form) → IsOver (length (variables p)) f → IsFormula (types_of p) f → IsFormula types f
    formula f o h = subst (λ t. is_unsigned t ≡ true) (sym (form_type f o)) h

    term_fits : (x : ℕ) (t : Term) → x < length (variables p) → TermIsOver (length (variables p)) t → TermFits (types_of p) (types_of p x) t → TermFits types (types x) t
    term_fits x (Term.truth g) l o h = (agree x l ∙ h.0, cond_type g (λ y k. o y (free_occurs_in y g k)) ∙ h.1)
    term_fits x (Term.number f) l o h = (ap is_bool (agree x l) ∙ h.0, subst (λ t. fits t (number_type (types x)) ≡ true) (sym (form_type f (λ y k. o y (free_occurs y f k)))) (subst (λ u. fits (type_of (types_of p) f) (number_type u) ≡ true) (sym (agree x l)) h.1))

    parts_fit : (x : ℕ) (qs : List (Rational × Term)) → x < length (variables p) → PartsAreOver (length (variables p)) qs → PartsFit (types_of p) x qs → PartsFit types x qs
    parts_fit x [] l o h = tt
    parts_fit x (q ∷ qs) l o h = ((h.0.0, term_fits x q.1 l o.0 h.0.1), parts_fit x qs l o.1 h.1)

    draw_fits : (x : ℕ) (qs : List (Rational × Term)) → x < length (variables p) → PartsAreOver (length (variables p)) qs → DrawFits (types_of p) x qs → DrawFits types x qs
    draw_fits x [] l o h = h
    draw_fits x (q ∷ qs) l o h = parts_fit x (q ∷ qs) l o h

    mutual
      pub acts_fit : (acts : Acts) → Each Good (in_order acts) → ActsFit types acts
      acts_fit Acts.done h = tt
      acts_fit (Acts.next a rest) h = (act_fits a h.0 (each_first Good (inside a) (in_order rest) h.1), acts_fit rest (each_second Good (inside a) (in_order rest) h.1))

      act_fits : (a : Act) → IsTurnAct ps p a → Each Good (inside a) → ActFits types a
      act_fits (Act.set x t span) h i = term_fits x t h.0.0.below h.1.1 h.1.0
      act_fits (Act.draw x qs span) h i = draw_fits x qs h.0.0.below h.1.1 h.1.0
      act_fits (Act.toss x f span) h i = (agree x h.0.0.below ∙ h.1.0.0, ((formula f h.1.1 h.1.0.1.0.0, h.1.0.1.0.1), ap is_finite_type (form_type f h.1.1) ∙ h.1.0.1.1.0))
      act_fits (Act.any x up ty span) h i = agree x h.0.0.below ∙ h.1.0
      act_fits (Act.reward f span) h i = absurd h.0
      act_fits (Act.ifs arms e span) h i = (arms_fit arms e span h.1.0 h.1.1 (each_first Good (inside_arms arms) (in_order e) i), acts_fit e (each_second Good (inside_arms arms) (in_order e) i))
      act_fits (Act.pick up a b span) h i = (acts_fit a (each_first Good (in_order a) (in_order b) i), acts_fit b (each_second Good (in_order a) (in_order b) i))
      act_fits (Act.check kind f span) h i = absurd h.0
      act_fits (Act.validate co span) h i = absurd h.0
      act_fits (Act.loop k b) h i = absurd h.0
      act_fits (Act.call xs q es span) h i = absurd h.0

      arms_fit : (arms : Arms) (e : Acts) (span : Span) → GuardsFit p arms → ReadsFirst (length (variables p)) (Act.ifs arms e span) → Each Good (inside_arms arms) → ArmsFit types arms
      arms_fit Arms.no_arm e span g r i = tt
      arms_fit (Arms.arm c b more) e span g r i = (cond_type c r.0 ∙ g.0, (acts_fit b (each_first Good (in_order b) (inside_arms more) i), arms_fit more e span g.1 r.1 (each_second Good (in_order b) (inside_arms more) i)))

  -- ---- Variables that are read, and variables that take any value, are below the number of the
  -- procedure's variables

  module _ (m : ℕ) (more : length (variables p) ≤ m) where
    term_over : (t : Term) → TermIsOver (length (variables p)) t → TermIsOver m t
    term_over t o y k = let l = o y k in omega (arith, l, more)

    pub form_over : (f : Form) → IsOver (length (variables p)) f → IsOver m f
    form_over f o y k = let l = o y k in omega (arith, l, more)

    pub cond_over : (g : Cond) → IsOverIn (length (variables p)) g → IsOverIn m g
    cond_over g o y k = let l = o y k in omega (arith, l, more)

    parts_over : (qs : List (Rational × Term)) → PartsAreOver (length (variables p)) qs → PartsAreOver m qs
    parts_over [] o = tt
    parts_over (q ∷ qs) o = (term_over q.1 o.0, parts_over qs o.1)

    mutual
      pub acts_over : (acts : Acts) → Each Good (in_order acts) → ActsAreOver m acts
      acts_over Acts.done h = tt
      acts_over (Acts.next a rest) h = (act_over a h.0 (each_first Good (inside a) (in_order rest) h.1), acts_over rest (each_second Good (inside a) (in_order rest) h.1))

      act_over : (a : Act) → IsTurnAct ps p a → Each Good (inside a) → ActIsOver m a
      act_over (Act.set x t span) h i = term_over t h.1.1
      act_over (Act.draw x qs span) h i = parts_over qs h.1.1
      act_over (Act.toss x f span) h i = form_over f h.1.1
      act_over (Act.any x up ty span) h i = tt
      act_over (Act.reward f span) h i = absurd h.0
      act_over (Act.ifs arms e span) h i = (arms_over arms e span h.1.1 (each_first Good (inside_arms arms) (in_order e) i), acts_over e (each_second Good (inside_arms arms) (in_order e) i))
      act_over (Act.pick up a b span) h i = (acts_over a (each_first Good (in_order a) (in_order b) i), acts_over b (each_second Good (in_order a) (in_order b) i))
      act_over (Act.check kind f span) h i = absurd h.0
      act_over (Act.validate co span) h i = absurd h.0
      act_over (Act.loop k b) h i = absurd h.0
      act_over (Act.call xs q es span) h i = absurd h.0

      arms_over : (arms : Arms) (e : Acts) (span : Span) → ReadsFirst (length (variables p)) (Act.ifs arms e span) → Each Good (inside_arms arms) → ArmsAreOver m arms
      arms_over Arms.no_arm e span r i = tt
      arms_over (Arms.arm c b more_arms) e span r i = (cond_over c r.0, (acts_over b (each_first Good (in_order b) (inside_arms more_arms) i), arms_over more_arms e span r.1 (each_second Good (in_order b) (inside_arms more_arms) i)))

    mutual
      pub acts_below : (acts : Acts) → Each Good (in_order acts) → AnysAreBelow m acts
      acts_below Acts.done h = tt
      acts_below (Acts.next a rest) h = (act_below a h.0 (each_first Good (inside a) (in_order rest) h.1), acts_below rest (each_second Good (inside a) (in_order rest) h.1))

      act_below : (a : Act) → IsTurnAct ps p a → Each Good (inside a) → AnyIsBelow m a
      act_below (Act.set x t span) h i = tt
      act_below (Act.draw x qs span) h i = tt
      act_below (Act.toss x f span) h i = tt
      act_below (Act.any x up ty span) h i = let l = h.0.0.below in omega (arith, l, more)
      act_below (Act.reward f span) h i = tt
      act_below (Act.ifs arms e span) h i = (arms_below arms (each_first Good (inside_arms arms) (in_order e) i), acts_below e (each_second Good (inside_arms arms) (in_order e) i))
      act_below (Act.pick up a b span) h i = (acts_below a (each_first Good (in_order a) (in_order b) i), acts_below b (each_second Good (in_order a) (in_order b) i))
      act_below (Act.check kind f span) h i = tt
      act_below (Act.validate co span) h i = tt
      act_below (Act.loop k b) h i = tt
      act_below (Act.call xs q es span) h i = tt

      arms_below : (arms : Arms) → Each Good (inside_arms arms) → AnysAreBelow_in m arms
      arms_below Arms.no_arm i = tt
      arms_below (Arms.arm c b more_arms) i = (acts_below b (each_first Good (in_order b) (inside_arms more_arms) i), arms_below more_arms (each_second Good (in_order b) (inside_arms more_arms) i))
