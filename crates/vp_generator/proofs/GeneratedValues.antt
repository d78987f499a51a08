-- The value of the generated form is the forward meaning of the acts, choice by choice.
use Rattle.std.proofs.Common.{◌≡◌, ℕ, refl, ap, ap₂, ◌∙◌, Bool, true, false, List, [], ◌∷◌}
use mathlib.Core.Path.{fun_ext}
use Rattle.heyvl_num.specs.Rational.{Rational, oneʳ, ◌-ʳ◌, ◌≤ʳ◌}
use Rattle.heyvl_num.specs.Value.{Value, oneᵛ, ◌+ᵛ◌, ◌*ᵛ◌, ◌≤ᵛ◌}
use Rattle.heyvl_num.specs.Value.Value.{finite, infinite}
use Rattle.heyvl_places.specs.declared.checks.CheckKind.{CheckKind}
use Rattle.heylo_formula.specs.State.{Env}
use Rattle.heylo_formula.specs.Choices.{Choices, left, right}
use Rattle.heylo_formula.specs.Formula.{Form, Cond, Term}
use Rattle.heyvl_places.specs.declared.spans.Span.{Span}
use Rattle.heylo_formula.specs.Binders.{has_binder}
use Rattle.heylo_formula.specs.Operators.{finite_part}
use Rattle.heyvl_num.specs.ValueOperators.{minᵛ, monusᵛ}
use Rattle.heyvl_num.proofs.exported.Operators.{min_below_right}
use Rattle.heyvl_acts.specs.Tosses.{toss_weight}
use Rattle.heyvl_acts.proofs.exported.Tosses.{weight_small, one_finite}
use Rattle.heylo_formula.specs.Meaning.{value}
use Rattle.heylo_formula.specs.Typing.{Types}
use Rattle.heylo_formula.proofs.exported.Agreement.{unchosen, unchosen_in, three}
use Rattle.heylo_formula.proofs.exported.Substitutions.{subst_value}
use Rattle.heyvl_acts.specs.Acts.{Act, Acts, Arms}
use Rattle.heyvl_acts.specs.Forward.{Post, picked, checked, validated, part, parts, forward, forward_act, no_loops, no_calls, meant_arms}
use Rattle.vp_generator.specs.GeneratedForms.{pick_form, check_form, validate_form, part_form, sum_of_parts, toss_form, vp, vp_act, vp_arms}
use Rattle.heyvl_acts.specs.WellTypedActs.{PartsFit, ActFits, ActsFit, ArmsFit}
use Rattle.heylo_formula.proofs.exported.Plain.{term_plain, typed_plain}

pick_value : (up : Bool) (a b : Form) (s : Env) (c : Choices) → value (pick_form up a b) s c ≡ picked up (value a s (left c)) (value b s (right c))
pick_value true a b s c = refl
pick_value false a b s c = refl

check_value : (kind : CheckKind) (a b : Form) (s : Env) (c : Choices) → value (check_form kind a b) s c ≡ checked kind (value a s (left c)) (value b s (right c))
check_value CheckKind.Assert a b s c = refl
check_value CheckKind.Assume a b s c = refl
check_value CheckKind.CoAssert a b s c = refl
check_value CheckKind.CoAssume a b s c = refl

validate_value : (co : Bool) (a : Form) (s : Env) (c : Choices) → value (validate_form co a) s c ≡ validated co (value a s c)
validate_value true a s c = refl
validate_value false a s c = refl

part_value : (types : Types) (x : ℕ) (p : Rational × Term) (ps : List (Rational × Term)) (k : Form) (s : Env) (c : Choices) → PartsFit types x (p ∷ ps) → value (part_form x p k) s c ≡ part x p (value k) s c
part_value types x p ps k s c h = ap (λ v. finite p.0 *ᵛ v) (subst_value x p.1 k s c (term_plain types (types x) p.1 h.0.1))

parts_value : (types : Types) (x : ℕ) (ps : List (Rational × Term)) (k total : Form) (before : Post) → PartsFit types x ps → ((s : Env) (c : Choices) → value total s c ≡ before s c) → (s : Env) (c : Choices) → value (sum_of_parts x ps k total) s c ≡ parts x ps (value k) before s c
parts_value types x [] k total before h e s c = e s c
parts_value types x (p ∷ ps) k total before h e s c = parts_value types x ps k (Form.sum total (part_form x p k)) _ h.1 (λ r d. ap₂ (λ u v. u +ᵛ v) (e r (left d)) (part_value types x p ps k r (right d) h)) s c

least_weight : (v : Value) → minᵛ v oneᵛ ≡ finite (finite_part (minᵛ v oneᵛ))
least_weight v = go (minᵛ v oneᵛ) (min_below_right v oneᵛ)
  where
    go : (u : Value) → u ≤ᵛ oneᵛ → u ≡ finite (finite_part u)
    go (finite x) h = refl
    go infinite h = absurd (one_finite h)

rest_weight : (w : Rational) → w ≤ʳ oneʳ → monusᵛ oneᵛ (finite w) ≡ finite (oneʳ -ʳ w)
unfolding monusᵛ oneᵛ
rest_weight w h = rw h.holds refl

plain_weight : (f : Form) (s : Env) (c : Choices) → has_binder f ≡ false → minᵛ (value f s c) oneᵛ ≡ finite (toss_weight f s)
plain_weight f s c plain = ap (λ v. minᵛ v oneᵛ) (unchosen f s c plain) ∙ least_weight (value f s Choices.stop)

toss_value : (x : ℕ) (f : Form) (span : Span) (k : Form) (s : Env) (c : Choices) → has_binder f ≡ false → value (toss_form x f span k) s c ≡ forward_act (Act.toss x f span) (value k) s c
toss_value x f span k s c plain = ap₂ (λ u v. u +ᵛ v)
    (ap₂ (λ u v. u *ᵛ v) (plain_weight f s (left (left (left c))) plain) (subst_value x (Term.truth (Cond.constant true)) k s (right (left c)) refl))
    (ap₂ (λ u v. u *ᵛ v) (ap (λ v. monusᵛ oneᵛ v) (plain_weight f s (left (right (left (right c)))) plain) ∙ rest_weight (toss_weight f s) (weight_small f s)) (subst_value x (Term.truth (Cond.constant false)) k s (right (right c)) refl))

mutual
  act_value : (types : Types) (a : Act) (k : Form) → ActFits types a → (s : Env) (c : Choices) → value (vp_act a k) s c ≡ forward_act a (value k) s c
  act_value types (Act.set x t span) k h s c = subst_value x t k s c (term_plain types (types x) t h)
  act_value types (Act.draw x [] span) k h s c = absurd h
  act_value types (Act.draw x (p ∷ ps) span) k h s c = parts_value types x ps k (part_form x p k) _ h.1 (λ r d. part_value types x p ps k r d h) s c
  act_value types (Act.toss x f span) k h s c = toss_value x f span k s c h.1.0.1
  act_value types (Act.any x up ty span) k h s c = refl
  act_value types (Act.reward f span) k h s c = ap (λ v. value k s (left c) +ᵛ v) (unchosen f s (right c) h.1)
  act_value types (Act.ifs arms e span) k h s c = arms_value types arms k (vp e k) _ h.0 (λ r d. acts_value types e k h.1 r d) s c
  act_value types (Act.pick up a b span) k h s c = pick_value up (vp a k) (vp b k) s c ∙ ap₂ (λ u v. picked up u v) (acts_value types a k h.0 s (left c)) (acts_value types b k h.1 s (right c))
  act_value types (Act.check kind f span) k h s c = check_value kind f k s c ∙ ap (λ v. checked kind v (value k s (right c))) (unchosen f s (left c) h.1)
  act_value types (Act.validate co span) k h s c = validate_value co k s c
  act_value types (Act.loop l b) k h s c = refl
  act_value types (Act.call xs p es span) k h s c = refl

  acts_value : (types : Types) (acts : Acts) (k : Form) → ActsFit types acts → (s : Env) (c : Choices) → value (vp acts k) s c ≡ forward acts (value k) s c
  acts_value types Acts.done k h s c = refl
  acts_value types (Acts.next a rest) k h s c = act_value types a (vp rest k) h.0 s c ∙ ap (λ (p : Post). forward_act a p s c) (fun_ext (λ r. fun_ext (λ d. acts_value types rest k h.1 r d)))

  arms_value : (types : Types) (arms : Arms) (k otherwise : Form) (before : Post) → ArmsFit types arms → ((s : Env) (c : Choices) → value otherwise s c ≡ before s c) → (s : Env) (c : Choices) → value (vp_arms arms k otherwise) s c ≡ meant_arms no_loops no_calls arms (value k) before s c
  arms_value types Arms.no_arm k otherwise before h e s c = e s c
  arms_value types (Arms.arm g b more) k otherwise before h e s c = three (unchosen_in g s (left c) (typed_plain types g h.0)) (acts_value types b k h.1.0 s (right c)) (arms_value types more k otherwise before h.1.1 e s (right c))

pub generated_value : (types : Types) (acts : Acts) (post : Form) (s : Env) (c : Choices) → ActsFit types acts → value (vp acts post) s c ≡ forward acts (value post) s c
generated_value types acts post s c h = acts_value types acts post h s c
