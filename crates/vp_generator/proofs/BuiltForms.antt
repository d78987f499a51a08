-- A limit that a part of a form exceeds is exceeded by the whole form.
use Rattle.std.proofs.Common.{◌≡◌, ℕ, ◌≤◌, Bool, true, false, sym, ap, ◌∙◌, refl, subst, arith, List, [], ◌∷◌, ◌++◌}
use Rattle.std.specs.Prelude.{Vec}
use Rattle.std.specs.declared.alloc.Global.{Global}
use Rattle.heyvl_num.specs.Rational.{Rational}
use Rattle.heylo_formula.specs.declared.forms.Cond as C
use Rattle.heylo_formula.specs.declared.terms.Term as T
use Rattle.heylo_formula.specs.Formula.{Form, Cond, Term}
use Rattle.heyvl_places.specs.declared.spans.Span.{Span}
use Rattle.heylo_formula.specs.Sizes.{nodes, depth}
use Rattle.heylo_formula.specs.PlainTrees.{cond_of, term_of}
use Rattle.heyvl_acts.specs.declared.acts.Act as A
use Rattle.vp_generator.specs.declared.stops.VpStop.{VpStop}
use Rattle.vp_generator.specs.declared.stops.VpStop.TheVariants.{Depth, Nodes, Memory}
use Rattle.vp_generator.specs.GeneratedForms.{pick_form, vp, vp_act, vp_arms, part_form, draw_form, sum_of_parts}
use Rattle.heylo_formula.specs.Typing.{Types}
use Rattle.heyvl_acts.specs.WellTypedActs.{ActFits, ActsFit, ArmsFit}
use Rattle.vp_generator.specs.GraphAnswers.{IsStopAt}
use Rattle.heyvl_acts.specs.PlainActs.{act_of, acts_of, arms_of, parts_of}
use Rattle.vp_generator.proofs.Growth.{grow_acts, deepen_acts, grow_over, deepen_over, grow_sum, deepen_sum}

pub stop_of_part : (most : ℕ) (f g : Form) (stop : VpStop) → nodes f ≤ nodes g → depth f ≤ depth g → IsStopAt most f stop → IsStopAt most g stop
stop_of_part most f g Depth h k i = omega (arith, k, i)
stop_of_part most f g Nodes h k i = omega (arith, h, i)
stop_of_part most f g (Memory e) h k i = tt

pub acts_end : (r : List A.Act) (a : A.Act) (k : Form) → vp (acts_of (r ++ a ∷ [])) k ≡ vp (acts_of r) (vp_act (act_of a) k)
acts_end [] a k = refl
acts_end (b ∷ r) a k = ap (λ f. vp_act (act_of b) f) (acts_end r a k)

pub acts_fit : (types : Types) (r : List A.Act) (a : A.Act) → ActsFit types (acts_of (r ++ a ∷ [])) → ActsFit types (acts_of r) × ActFits types (act_of a)
acts_fit types [] a h = (tt, h.0)
acts_fit types (b ∷ r) a h = let k = acts_fit types r a h.1 in ((h.0, k.0), k.1)

pub stop_of_acts : (most : ℕ) (types : Types) (r : List A.Act) (f : Form) (stop : VpStop) → ActsFit types (acts_of r) → IsStopAt most f stop → IsStopAt most (vp (acts_of r) f) stop
stop_of_acts most types r f stop h i = stop_of_part most f (vp (acts_of r) f) stop (grow_acts types (acts_of r) f h) (deepen_acts types (acts_of r) f h) i

pub arms_end : (r : List (C.Cond × Vec A.Act Global)) (x : C.Cond × Vec A.Act Global) (k f : Form) → vp_arms (arms_of (r ++ x ∷ [])) k f ≡ vp_arms (arms_of r) k (Form.select (cond_of x.0) (vp (acts_of x.1.items) k) f)
arms_end [] x k f = refl
arms_end (y ∷ r) x k f = ap (λ g. Form.select (cond_of y.0) (vp (acts_of y.1.items) k) g) (arms_end r x k f)

pub arms_fit : (types : Types) (r : List (C.Cond × Vec A.Act Global)) (x : C.Cond × Vec A.Act Global) → ArmsFit types (arms_of (r ++ x ∷ [])) → ArmsFit types (arms_of r) × ActsFit types (acts_of x.1.items)
arms_fit types [] x h = (tt, h.1.0)
arms_fit types (y ∷ r) x h = let k = arms_fit types r x h.1.1 in ((h.0, (h.1.0, k.0)), k.1)

pub stop_of_arms : (most : ℕ) (r : List (C.Cond × Vec A.Act Global)) (k f : Form) (stop : VpStop) → IsStopAt most f stop → IsStopAt most (vp_arms (arms_of r) k f) stop
stop_of_arms most r k f stop i = stop_of_part most f (vp_arms (arms_of r) k f) stop (grow_over (arms_of r) k f) (deepen_over (arms_of r) k f) i

pub stop_of_sum : (most : ℕ) (x : ℕ) (ps : List (Rational × Term)) (k f : Form) (stop : VpStop) → IsStopAt most f stop → IsStopAt most (sum_of_parts x ps k f) stop
stop_of_sum most x ps k f stop i = stop_of_part most f (sum_of_parts x ps k f) stop (grow_sum x ps k f) (deepen_sum x ps k f) i

pub stop_of_step : (most : ℕ) (x : ℕ) (parts rest more : List (Rational × T.Term)) (p : Rational × T.Term) (k start total : Form) (stop : VpStop) → sum_of_parts x (parts_of parts) k start ≡ sum_of_parts x (parts_of rest) k total → rest ≡ p ∷ more → IsStopAt most (Form.sum total (part_form x (p.0, term_of p.1) k)) stop → IsStopAt most (sum_of_parts x (parts_of parts) k start) stop
stop_of_step most x parts rest more p k start total stop e d h = subst (λ f. IsStopAt most f stop) (sym (e ∙ ap (λ r. sum_of_parts x (parts_of r) k total) d)) (stop_of_sum most x (parts_of more) k (Form.sum total (part_form x (p.0, term_of p.1) k)) stop h)

pub stop_of_draw : (most : ℕ) (x : ℕ) (parts more : List (Rational × T.Term)) (p : Rational × T.Term) (k : Form) (stop : VpStop) → parts ≡ p ∷ more → IsStopAt most (part_form x (p.0, term_of p.1) k) stop → IsStopAt most (draw_form x (parts_of parts) k) stop
stop_of_draw most x parts more p k stop d h = subst (λ f. IsStopAt most f stop) (sym (ap (λ r. draw_form x (parts_of r) k) d)) (stop_of_sum most x (parts_of more) k (part_form x (p.0, term_of p.1) k) stop h)

pub stop_of_act : (most : ℕ) (types : Types) (acts rest before : List A.Act) (a : A.Act) (k f : Form) (stop : VpStop) → vp (acts_of acts) k ≡ vp (acts_of rest) f → rest ≡ before ++ a ∷ [] → ActsFit types (acts_of rest) → IsStopAt most (vp_act (act_of a) f) stop → IsStopAt most (vp (acts_of acts) k) stop
stop_of_act most types acts rest before a k f stop e d b h = subst (λ g. IsStopAt most g stop) (sym (e ∙ ap (λ r. vp (acts_of r) f) d ∙ acts_end before a f)) (stop_of_acts most types before (vp_act (act_of a) f) stop (acts_fit types before a (subst (λ r. ActsFit types (acts_of r)) d b)).0 h)

pub stop_of_arm : (most : ℕ) (arms rest before : List (C.Cond × Vec A.Act Global)) (x : C.Cond × Vec A.Act Global) (k start f : Form) (stop : VpStop) → vp_arms (arms_of arms) k start ≡ vp_arms (arms_of rest) k f → rest ≡ before ++ x ∷ [] → IsStopAt most (Form.select (cond_of x.0) (vp (acts_of x.1.items) k) f) stop → IsStopAt most (vp_arms (arms_of arms) k start) stop
stop_of_arm most arms rest before x k start f stop e d h = subst (λ g. IsStopAt most g stop) (sym (e ∙ ap (λ r. vp_arms (arms_of r) k f) d ∙ arms_end before x k f)) (stop_of_arms most before k (Form.select (cond_of x.0) (vp (acts_of x.1.items) k) f) stop h)

pub stop_of_first : (most : ℕ) (up : Bool) (a b : Form) (stop : VpStop) → IsStopAt most a stop → IsStopAt most (pick_form up a b) stop
stop_of_first most true a b stop h = stop_of_part most a (Form.max a b) stop (omega arith) (omega arith) h
stop_of_first most false a b stop h = stop_of_part most a (Form.min a b) stop (omega arith) (omega arith) h

pub stop_of_second : (most : ℕ) (up : Bool) (a b : Form) (stop : VpStop) → IsStopAt most b stop → IsStopAt most (pick_form up a b) stop
stop_of_second most true a b stop h = stop_of_part most b (Form.max a b) stop (omega arith) (omega arith) h
stop_of_second most false a b stop h = stop_of_part most b (Form.min a b) stop (omega arith) (omega arith) h

pub stop_of_scale : (most : ℕ) (w : Rational) (f : Form) (stop : VpStop) → IsStopAt most f stop → IsStopAt most (Form.scale w f) stop
stop_of_scale most w f stop h = stop_of_part most f (Form.scale w f) stop (omega arith) (omega arith) h

pub stop_of_left : (most : ℕ) (f g : Form) (stop : VpStop) → IsStopAt most f stop → IsStopAt most (Form.sum f g) stop
stop_of_left most f g stop h = stop_of_part most f (Form.sum f g) stop (omega arith) (omega arith) h

pub stop_of_right : (most : ℕ) (f g : Form) (stop : VpStop) → IsStopAt most g stop → IsStopAt most (Form.sum f g) stop
stop_of_right most f g stop h = stop_of_part most g (Form.sum f g) stop (omega arith) (omega arith) h

pub stop_of_product : (most : ℕ) (f g : Form) (span : Span) (stop : VpStop) → IsStopAt most g stop → IsStopAt most (Form.product f g span) stop
stop_of_product most f g span stop h = stop_of_part most g (Form.product f g span) stop (omega arith) (omega arith) h

pub stop_of_branch : (most : ℕ) (g : Cond) (f k : Form) (stop : VpStop) → IsStopAt most f stop → IsStopAt most (Form.select g f k) stop
stop_of_branch most g f k stop h = stop_of_part most f (Form.select g f k) stop (omega arith) (omega arith) h
