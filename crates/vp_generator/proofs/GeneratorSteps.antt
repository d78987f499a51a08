-- One step of the functions that generate a form: for the last act, for the last arm, and for the
-- next part of a draw.
use Rattle.std.proofs.Common.{◌≡◌, ℕ, ◌+◌, ◌^◌, ◌≤◌, Bool, refl, length, sym, ap, ap₂, ◌∙◌, subst, arith, List, [], ◌∷◌, ◌++◌}
use Rattle.std.specs.Prelude.{Vec, Ok}
use Rattle.std.specs.declared.alloc.Global.{Global}
use Rattle.heyvl_places.specs.declared.spans.Span.{Span}
use Rattle.heylo_formula.specs.declared.forms.Cond as C
use Rattle.heylo_formula.specs.declared.terms.Term as T
use Rattle.heylo_formula.specs.Formula.{Form, Cond, Term}
use Rattle.heylo_graph.specs.Trees.{Tree}
use Rattle.heylo_graph.specs.Nodes.{Begins, Stands}
use Rattle.heylo_graph.specs.declared.nodes.Node.{Node}
use Rattle.heylo_graph.proofs.exported.LongerLists.{stands_longer}
use Rattle.heyvl_num.specs.Rational.{Rational}
use Rattle.heylo_formula.specs.PlainTrees.{cond_of, term_of}
use Rattle.heyvl_acts.specs.declared.acts.Act as A
use Rattle.heyvl_acts.specs.Acts.{Act, Acts, Arms}
use Rattle.vp_generator.specs.GeneratedForms.{vp, vp_act, vp_arms, part_form, sum_of_parts}
use Rattle.vp_generator.specs.GraphAnswers.{HasNoAny, HaveNoAny, HaveNoAnyIn, IsStopAt}
use Rattle.vp_generator.specs.declared.stops.VpStop.{VpStop}
use Rattle.vp_generator.specs.Fit.{AreFit}
use Rattle.vp_generator.specs.internal.FittingActs.{IsFit, ArmsAreFit, DrawIsFit, PartsAreFit, TossIsFit, FlagIsFit, TermIsFit}
use Rattle.vp_generator.specs.internal.GraphSteps.{IsMade, IsPlaced, IsReady}
use Rattle.heyvl_acts.specs.WellTypedActs.{ActsFit, ArmsFit, DrawFits}
use Rattle.vp_generator.proofs.GeneratedTypes.{act_type}
use Rattle.heyvl_acts.specs.PlainActs.{act_of, acts_of, arms_of, parts_of}
use Rattle.heyvl_acts.proofs.exported.PlainActsAre.{if_act, pick_act}
use Rattle.vp_generator.proofs.BuiltForms.{acts_end, acts_fit, arms_end, arms_fit, stop_of_act, stop_of_arm, stop_of_step}
use Rattle.vp_generator.proofs.GeneratedBinders.{plain_act}
use Rattle.vp_generator.proofs.GraphForms.{begins_on, begins_itself, same_form, placed_longer, ready_longer}
use Rattle.vp_generator.proofs.Weights.{weight, weight_of, weight_of_arms, last_weighs, last_arm_weighs}

pub if_here : (a : A.Act) (arms : Vec (C.Cond × Vec A.Act Global) Global) (e : Vec A.Act Global) (span : Span) (xs : List (C.Cond × Vec A.Act Global)) (ys : List A.Act) → a ≡ A.If arms e span → xs ≡ arms.items → ys ≡ e.items → act_of a ≡ Act.ifs (arms_of xs) (acts_of ys) span
if_here a arms e span xs ys h i j = ap act_of h ∙ if_act arms e span ∙ ap₂ (λ u v. Act.ifs (arms_of u) (acts_of v) span) (sym i) (sym j)

pub pick_here : (act : A.Act) (up : Bool) (a b : Vec A.Act Global) (span : Span) (xs ys : List A.Act) → act ≡ A.Pick up a b span → xs ≡ a.items → ys ≡ b.items → act_of act ≡ Act.pick up (acts_of xs) (acts_of ys) span
pick_here act up a b span xs ys h i j = ap act_of h ∙ pick_act up a b span ∙ ap₂ (λ u v. Act.pick up (acts_of u) (acts_of v) span) (sym i) (sym j)

pub none_left : {X : Type 0} (xs : List X) → length xs ≡ 0 → xs ≡ []
none_left [] h = refl
none_left (x ∷ xs) h = absurd (omega (arith, h))

-- ---- Acts

pub none_in : (r : List A.Act) (a : A.Act) → HaveNoAny (acts_of (r ++ a ∷ [])) → HaveNoAny (acts_of r) × HasNoAny (act_of a)
none_in [] a h = (tt, h.0)
none_in (b ∷ r) a h = let k = none_in r a h.1 in ((h.0, k.0), k.1)

pub last_fits : (rest before : List A.Act) (a : A.Act) (f : Form) → rest ≡ before ++ a ∷ [] → AreFit (acts_of rest) f → IsFit (act_of a) f
last_fits rest before a f d h = record { types = h.types; fit = (acts_fit h.types before a (subst (λ r. ActsFit h.types (acts_of r)) d h.fit)).1; formula = h.formula }

pub others_fit : (rest before : List A.Act) (a : A.Act) (f : Form) → rest ≡ before ++ a ∷ [] → AreFit (acts_of rest) f → AreFit (acts_of before) (vp_act (act_of a) f)
others_fit rest before a f d h = let k = acts_fit h.types before a (subst (λ r. ActsFit h.types (acts_of r)) d h.fit) in record { types = h.types; fit = k.0; formula = act_type h.types (act_of a) f k.1 h.formula }

pub rest_weighs : (rest before : List A.Act) (a : A.Act) → rest ≡ before ++ a ∷ [] → weight_of (acts_of rest) ≡ weight_of (acts_of before) + weight (act_of a)
rest_weighs rest before a d = ap (λ r. weight_of (acts_of r)) d ∙ last_weighs before a

-- The invariant of the loop over acts: the acts that are left, and the form so far.
pub record Kept (most : ℕ) (old : List Node) (post : ℕ) (acts : List A.Act) (ns : List Node) (rest : List A.Act) (i : ℕ) : Type 0 where
  pub begins : Begins old ns
  pub ready : IsReady most (AreFit (acts_of rest)) ns i
  pub calm : 2 ^ 30 ≤ most → HaveNoAny (acts_of rest)
  pub weighs : weight_of (acts_of rest) ≤ weight_of (acts_of acts)
  pub whole : (k : Form) → Stands old post (Tree.formula k) → vp (acts_of acts) k ≡ vp (acts_of rest) ready.form

pub kept_first : (most : ℕ) (old : List Node) (post : ℕ) (acts : List A.Act) → IsReady most (AreFit (acts_of acts)) old post → (2 ^ 30 ≤ most → HaveNoAny (acts_of acts)) → Kept most old post acts old acts post
kept_first most old post acts r c = record { begins = begins_itself old; ready = r; calm = c; weighs = omega arith; whole = λ k s. ap (vp (acts_of acts)) (same_form old post k r.form s r.stands) }

pub act_ready : (most : ℕ) (ns : List Node) (rest before : List A.Act) (a : A.Act) (i : ℕ) → rest ≡ before ++ a ∷ [] → IsReady most (AreFit (acts_of rest)) ns i → IsReady most (IsFit (act_of a)) ns i
act_ready most ns rest before a i d r = record { form = r.form; stands = r.stands; asked = last_fits rest before a r.form d r.asked; within = r.within; plain = r.plain }

pub act_calm : (most : ℕ) (rest before : List A.Act) (a : A.Act) → rest ≡ before ++ a ∷ [] → (2 ^ 30 ≤ most → HaveNoAny (acts_of rest)) → 2 ^ 30 ≤ most → HasNoAny (act_of a)
act_calm most rest before a d c l = (none_in before a (subst (λ r. HaveNoAny (acts_of r)) d (c l))).1

pub kept_next : (most : ℕ) (old : List Node) (post : ℕ) (acts : List A.Act) (ns ms : List Node) (rest before : List A.Act) (a : A.Act) (i j : ℕ) → (h : Kept most old post acts ns rest i) → rest ≡ before ++ a ∷ [] → Begins ns ms → IsMade most (vp_act (act_of a) h.ready.form) (Ok j) ms → Kept most old post acts ms before j
kept_next most old post acts ns ms rest before a i j h d b m =
    let f = h.ready.form in
    let t = h.ready.asked in
    let w = rest_weighs rest before a d in let v = h.weighs in
    record {
      begins = begins_on old ns ms h.begins b;
      ready = record {
        form = vp_act (act_of a) f;
        stands = m.0;
        asked = others_fit rest before a f d t;
        within = m.1;
        plain = λ l. plain_act t.types (act_of a) f (acts_fit t.types before a (subst (λ r. ActsFit t.types (acts_of r)) d t.fit)).1 (act_calm most rest before a d h.calm l) (h.ready.plain l);
      };
      calm = λ l. (none_in before a (subst (λ r. HaveNoAny (acts_of r)) d (h.calm l))).0;
      weighs = omega (arith, w, v);
      whole = λ k s. h.whole k s ∙ ap (λ r. vp (acts_of r) f) d ∙ acts_end before a f;
    }

pub kept_stop : (most : ℕ) (old : List Node) (post : ℕ) (acts : List A.Act) (ns : List Node) (rest before : List A.Act) (a : A.Act) (i : ℕ) (stop : VpStop) (k : Form) → (h : Kept most old post acts ns rest i) → rest ≡ before ++ a ∷ [] → IsStopAt most (vp_act (act_of a) h.ready.form) stop → Stands old post (Tree.formula k) → IsStopAt most (vp (acts_of acts) k) stop
kept_stop most old post acts ns rest before a i stop k h d e s = stop_of_act most h.ready.asked.types acts rest before a k h.ready.form stop (h.whole k s) d h.ready.asked.fit e

pub kept_last : (most : ℕ) (old : List Node) (post : ℕ) (acts : List A.Act) (ns : List Node) (rest : List A.Act) (i : ℕ) (k : Form) → (h : Kept most old post acts ns rest i) → rest ≡ [] → Stands old post (Tree.formula k) → IsMade most (vp (acts_of acts) k) (Ok i) ns
kept_last most old post acts ns rest i k h d s = subst (λ f. IsMade most f (Ok i) ns) (sym (h.whole k s ∙ ap (λ r. vp (acts_of r) h.ready.form) d)) (h.ready.stands, h.ready.within)

-- ---- Arms

pub none_in_arms : (r : List (C.Cond × Vec A.Act Global)) (x : C.Cond × Vec A.Act Global) → HaveNoAnyIn (arms_of (r ++ x ∷ [])) → HaveNoAnyIn (arms_of r) × HaveNoAny (acts_of x.1.items)
none_in_arms [] x h = (tt, h.0)
none_in_arms (y ∷ r) x h = let k = none_in_arms r x h.1 in ((h.0, k.0), k.1)

pub last_arm_fits : (rest before : List (C.Cond × Vec A.Act Global)) (x : C.Cond × Vec A.Act Global) (f : Form) → rest ≡ before ++ x ∷ [] → ArmsAreFit (arms_of rest) f → ArmsAreFit (arms_of before) f × AreFit (acts_of x.1.items) f
last_arm_fits rest before x f d h = let k = arms_fit h.types before x (subst (λ r. ArmsFit h.types (arms_of r)) d h.fit) in (record { types = h.types; fit = k.0; formula = h.formula }, record { types = h.types; fit = k.1; formula = h.formula })

pub other_arms_weigh : (rest before : List (C.Cond × Vec A.Act Global)) (x : C.Cond × Vec A.Act Global) → rest ≡ before ++ x ∷ [] → weight_of_arms (arms_of rest) ≡ weight_of_arms (arms_of before) + (8 + weight_of (acts_of x.1.items))
other_arms_weigh rest before x d = ap (λ r. weight_of_arms (arms_of r)) d ∙ last_arm_weighs before x

-- The invariant of the loop over arms: the arms that are left, and the form so far.
pub record KeptArms (most : ℕ) (old : List Node) (form start : ℕ) (arms : List (C.Cond × Vec A.Act Global)) (ns : List Node) (rest : List (C.Cond × Vec A.Act Global)) (i : ℕ) : Type 0 where
  pub begins : Begins old ns
  pub ready : IsReady most (ArmsAreFit (arms_of rest)) ns form
  pub chosen : IsPlaced most ns i
  pub calm : 2 ^ 30 ≤ most → HaveNoAnyIn (arms_of rest)
  pub weighs : weight_of_arms (arms_of rest) ≤ weight_of_arms (arms_of arms)
  pub whole : (k l : Form) → Stands old form (Tree.formula k) → Stands old start (Tree.formula l) → vp_arms (arms_of arms) k l ≡ vp_arms (arms_of rest) ready.form chosen.form

pub arms_first : (most : ℕ) (old : List Node) (form start : ℕ) (arms : List (C.Cond × Vec A.Act Global)) → IsReady most (ArmsAreFit (arms_of arms)) old form → IsPlaced most old start → (2 ^ 30 ≤ most → HaveNoAnyIn (arms_of arms)) → KeptArms most old form start arms old arms start
arms_first most old form start arms r p c = record { begins = begins_itself old; ready = r; chosen = p; calm = c; weighs = omega arith; whole = λ k l s u. ap₂ (vp_arms (arms_of arms)) (same_form old form k r.form s r.stands) (same_form old start l p.form u p.stands) }

pub arm_ready : (most : ℕ) (ns : List Node) (rest before : List (C.Cond × Vec A.Act Global)) (x : C.Cond × Vec A.Act Global) (i : ℕ) → rest ≡ before ++ x ∷ [] → IsReady most (ArmsAreFit (arms_of rest)) ns i → IsReady most (AreFit (acts_of x.1.items)) ns i
arm_ready most ns rest before x i d r = record { form = r.form; stands = r.stands; asked = (last_arm_fits rest before x r.form d r.asked).1; within = r.within; plain = r.plain }

pub arm_calm : (most : ℕ) (rest before : List (C.Cond × Vec A.Act Global)) (x : C.Cond × Vec A.Act Global) → rest ≡ before ++ x ∷ [] → (2 ^ 30 ≤ most → HaveNoAnyIn (arms_of rest)) → 2 ^ 30 ≤ most → HaveNoAny (acts_of x.1.items)
arm_calm most rest before x d c l = (none_in_arms before x (subst (λ r. HaveNoAnyIn (arms_of r)) d (c l))).1

pub arms_next : (most : ℕ) (old : List Node) (form start : ℕ) (arms : List (C.Cond × Vec A.Act Global)) (ns ms : List Node) (rest before : List (C.Cond × Vec A.Act Global)) (x : C.Cond × Vec A.Act Global) (i j : ℕ) → (h : KeptArms most old form start arms ns rest i) → rest ≡ before ++ x ∷ [] → Begins ns ms → IsMade most (Form.select (cond_of x.0) (vp (acts_of x.1.items) h.ready.form) h.chosen.form) (Ok j) ms → KeptArms most old form start arms ms before j
arms_next most old form start arms ns ms rest before x i j h d b m =
    let f = h.ready.form in
    let g = h.chosen.form in
    let w = other_arms_weigh rest before x d in let v = h.weighs in
    record {
      begins = begins_on old ns ms h.begins b;
      ready = record { form = f; stands = stands_longer ns ms form (Tree.formula f) b h.ready.stands; asked = (last_arm_fits rest before x f d h.ready.asked).0; within = h.ready.within; plain = h.ready.plain };
      chosen = record { form = Form.select (cond_of x.0) (vp (acts_of x.1.items) f) g; stands = m.0; within = m.1 };
      calm = λ l. (none_in_arms before x (subst (λ r. HaveNoAnyIn (arms_of r)) d (h.calm l))).0;
      weighs = omega (arith, w, v);
      whole = λ k l s u. h.whole k l s u ∙ ap (λ r. vp_arms (arms_of r) f g) d ∙ arms_end before x f g;
    }

pub arms_stop : (most : ℕ) (old : List Node) (form start : ℕ) (arms : List (C.Cond × Vec A.Act Global)) (ns : List Node) (rest before : List (C.Cond × Vec A.Act Global)) (x : C.Cond × Vec A.Act Global) (i : ℕ) (stop : VpStop) (k l : Form) → (h : KeptArms most old form start arms ns rest i) → rest ≡ before ++ x ∷ [] → IsStopAt most (Form.select (cond_of x.0) (vp (acts_of x.1.items) h.ready.form) h.chosen.form) stop → Stands old form (Tree.formula k) → Stands old start (Tree.formula l) → IsStopAt most (vp_arms (arms_of arms) k l) stop
arms_stop most old form start arms ns rest before x i stop k l h d e s u =
    let q = same_form ns form k h.ready.form (stands_longer old ns form (Tree.formula k) h.begins s) h.ready.stands in
    stop_of_arm most arms rest before x k l h.chosen.form stop (h.whole k l s u ∙ ap (λ f. vp_arms (arms_of rest) f h.chosen.form) (sym q)) d (subst (λ f. IsStopAt most (Form.select (cond_of x.0) (vp (acts_of x.1.items) f) h.chosen.form) stop) (sym q) e)

pub arms_last : (most : ℕ) (old : List Node) (form start : ℕ) (arms : List (C.Cond × Vec A.Act Global)) (ns : List Node) (rest : List (C.Cond × Vec A.Act Global)) (i : ℕ) (k l : Form) → (h : KeptArms most old form start arms ns rest i) → rest ≡ [] → Stands old form (Tree.formula k) → Stands old start (Tree.formula l) → IsMade most (vp_arms (arms_of arms) k l) (Ok i) ns
arms_last most old form start arms ns rest i k l h d s u = subst (λ f. IsMade most f (Ok i) ns) (sym (h.whole k l s u ∙ ap (λ r. vp_arms (arms_of r) h.ready.form h.chosen.form) d)) (h.chosen.stands, h.chosen.within)

-- ---- Parts of a draw

pub part_fits : (x : ℕ) (rest more : List (Rational × T.Term)) (p : Rational × T.Term) (f : Form) → rest ≡ p ∷ more → PartsAreFit x (parts_of rest) f → TermIsFit x (term_of p.1) f × PartsAreFit x (parts_of more) f
part_fits x rest more p f d h =
    let k = subst (λ r. PartsAreFit x (parts_of r) f) d h in
    (record { types = k.types; fit = k.fit.0.1; formula = k.formula }, record { types = k.types; fit = k.fit.1; formula = k.formula })

-- The invariant of the loop over parts: the parts that are left, and the sum so far.
pub record KeptParts (most : ℕ) (x : ℕ) (old : List Node) (form start : ℕ) (parts : List (Rational × T.Term)) (ns : List Node) (rest : List (Rational × T.Term)) (i : ℕ) : Type 0 where
  pub begins : Begins old ns
  pub ready : IsReady most (PartsAreFit x (parts_of rest)) ns form
  pub total : IsPlaced most ns i
  pub whole : (k l : Form) → Stands old form (Tree.formula k) → Stands old start (Tree.formula l) → sum_of_parts x (parts_of parts) k l ≡ sum_of_parts x (parts_of rest) ready.form total.form

pub parts_first : (most : ℕ) (x : ℕ) (old : List Node) (form start : ℕ) (parts : List (Rational × T.Term)) → IsReady most (PartsAreFit x (parts_of parts)) old form → IsPlaced most old start → KeptParts most x old form start parts old parts start
parts_first most x old form start parts r p = record { begins = begins_itself old; ready = r; total = p; whole = λ k l s u. ap₂ (sum_of_parts x (parts_of parts)) (same_form old form k r.form s r.stands) (same_form old start l p.form u p.stands) }

pub part_ready : (most : ℕ) (x : ℕ) (ns : List Node) (rest more : List (Rational × T.Term)) (p : Rational × T.Term) (i : ℕ) → rest ≡ p ∷ more → IsReady most (PartsAreFit x (parts_of rest)) ns i → IsReady most (TermIsFit x (term_of p.1)) ns i
part_ready most x ns rest more p i d r = record { form = r.form; stands = r.stands; asked = (part_fits x rest more p r.form d r.asked).0; within = r.within; plain = r.plain }

pub parts_next : (most : ℕ) (x : ℕ) (old : List Node) (form start : ℕ) (parts : List (Rational × T.Term)) (ns ms : List Node) (rest more : List (Rational × T.Term)) (p : Rational × T.Term) (i j : ℕ) → (h : KeptParts most x old form start parts ns rest i) → rest ≡ p ∷ more → Begins ns ms → IsMade most (Form.sum h.total.form (part_form x (p.0, term_of p.1) h.ready.form)) (Ok j) ms → KeptParts most x old form start parts ms more j
parts_next most x old form start parts ns ms rest more p i j h d b m =
    let f = h.ready.form in
    let g = h.total.form in
    record {
      begins = begins_on old ns ms h.begins b;
      ready = record { form = f; stands = stands_longer ns ms form (Tree.formula f) b h.ready.stands; asked = (part_fits x rest more p f d h.ready.asked).1; within = h.ready.within; plain = h.ready.plain };
      total = record { form = Form.sum g (part_form x (p.0, term_of p.1) f); stands = m.0; within = m.1 };
      whole = λ k l s u. h.whole k l s u ∙ ap (λ r. sum_of_parts x (parts_of r) f g) d;
    }

pub parts_stop : (most : ℕ) (x : ℕ) (old : List Node) (form start : ℕ) (parts : List (Rational × T.Term)) (ns : List Node) (rest more : List (Rational × T.Term)) (p : Rational × T.Term) (i : ℕ) (stop : VpStop) (k l : Form) → (h : KeptParts most x old form start parts ns rest i) → rest ≡ p ∷ more → IsStopAt most (Form.sum h.total.form (part_form x (p.0, term_of p.1) h.ready.form)) stop → Stands old form (Tree.formula k) → Stands old start (Tree.formula l) → IsStopAt most (sum_of_parts x (parts_of parts) k l) stop
parts_stop most x old form start parts ns rest more p i stop k l h d e s u =
    let q = same_form ns form k h.ready.form (stands_longer old ns form (Tree.formula k) h.begins s) h.ready.stands in
    stop_of_step most x parts rest more p k l h.total.form stop (h.whole k l s u ∙ ap (λ f. sum_of_parts x (parts_of rest) f h.total.form) (sym q)) d (subst (λ f. IsStopAt most (Form.sum h.total.form (part_form x (p.0, term_of p.1) f)) stop) (sym q) e)

pub parts_last : (most : ℕ) (x : ℕ) (old : List Node) (form start : ℕ) (parts : List (Rational × T.Term)) (ns : List Node) (rest : List (Rational × T.Term)) (i : ℕ) (k l : Form) → (h : KeptParts most x old form start parts ns rest i) → rest ≡ [] → Stands old form (Tree.formula k) → Stands old start (Tree.formula l) → IsMade most (sum_of_parts x (parts_of parts) k l) (Ok i) ns
parts_last most x old form start parts ns rest i k l h d s u = subst (λ f. IsMade most f (Ok i) ns) (sym (h.whole k l s u ∙ ap (λ r. sum_of_parts x (parts_of r) h.ready.form h.total.form) d)) (h.total.stands, h.total.within)

-- ---- Requirements on the parts of an act

pub if_ready : (most : ℕ) (arms : Arms) (e : Acts) (span : Span) (ns : List Node) (i : ℕ) → IsReady most (IsFit (Act.ifs arms e span)) ns i → IsReady most (ArmsAreFit arms) ns i × IsReady most (AreFit e) ns i
if_ready most arms e span ns i r =
    let b = r.asked in (
      record { form = r.form; stands = r.stands; asked = record { types = b.types; fit = b.fit.0; formula = b.formula }; within = r.within; plain = r.plain },
      record { form = r.form; stands = r.stands; asked = record { types = b.types; fit = b.fit.1; formula = b.formula }; within = r.within; plain = r.plain },
    )

pub pick_ready : (most : ℕ) (up : Bool) (a b : Acts) (span : Span) (ns : List Node) (i : ℕ) → IsReady most (IsFit (Act.pick up a b span)) ns i → IsReady most (AreFit a) ns i × IsReady most (AreFit b) ns i
pick_ready most up a b span ns i r =
    let q = r.asked in (
      record { form = r.form; stands = r.stands; asked = record { types = q.types; fit = q.fit.0; formula = q.formula }; within = r.within; plain = r.plain },
      record { form = r.form; stands = r.stands; asked = record { types = q.types; fit = q.fit.1; formula = q.formula }; within = r.within; plain = r.plain },
    )

pub toss_ready : (most x : ℕ) (f : Form) (ns : List Node) (i : ℕ) → IsReady most (TossIsFit x f) ns i → IsReady most (FlagIsFit x) ns i
toss_ready most x f ns i r = let b = r.asked in record { form = r.form; stands = r.stands; asked = record { types = b.types; fit = b.fit.0; formula = b.formula }; within = r.within; plain = r.plain }

pub flag_ready : (most x : ℕ) (b : Bool) (ns : List Node) (i : ℕ) → IsReady most (FlagIsFit x) ns i → IsReady most (TermIsFit x (Term.truth (Cond.constant b))) ns i
flag_ready most x b ns i r = let q = r.asked in record { form = r.form; stands = r.stands; asked = record { types = q.types; fit = (q.fit, refl); formula = q.formula }; within = r.within; plain = r.plain }

pub draw_ready : (most x : ℕ) (parts more : List (Rational × T.Term)) (p : Rational × T.Term) (ns : List Node) (i : ℕ) → parts ≡ p ∷ more → IsReady most (DrawIsFit x (parts_of parts)) ns i → IsReady most (TermIsFit x (term_of p.1)) ns i × IsReady most (PartsAreFit x (parts_of more)) ns i
draw_ready most x parts more p ns i d r =
    let b = r.asked in
    let f = subst (λ l. DrawFits b.types x (parts_of l)) d b.fit in (
      record { form = r.form; stands = r.stands; asked = record { types = b.types; fit = f.0.1; formula = b.formula }; within = r.within; plain = r.plain },
      record { form = r.form; stands = r.stands; asked = record { types = b.types; fit = f.1; formula = b.formula }; within = r.within; plain = r.plain },
    )
