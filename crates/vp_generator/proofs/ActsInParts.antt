-- Acts processed a few at a time, from the last ones to the first.
use Rattle.std.proofs.Common.{◌≡◌, ℕ, refl, sym, ap, ◌∙◌, subst, List, [], ◌∷◌, ◌++◌}
use Rattle.std.specs.Prelude.{Ok, Err}
use Rattle.heylo_formula.specs.Formula.{Form}
use Rattle.heylo_formula.specs.Typing.{Types}
use Rattle.heylo_graph.specs.Trees.{Tree}
use Rattle.heylo_graph.specs.Nodes.{Stands}
use Rattle.heylo_graph.specs.declared.nodes.Node.{Node}
use Rattle.heyvl_acts.specs.declared.acts.Act as A
use Rattle.heyvl_acts.specs.PlainActs.{act_of, acts_of}
use Rattle.heyvl_acts.specs.WellTypedActs.{ActsFit}
use Rattle.vp_generator.specs.Answers.{IsStop}
use Rattle.vp_generator.specs.Fit.{AreFit}
use Rattle.vp_generator.specs.GeneratedForms.{vp, vp_act}
use Rattle.vp_generator.specs.GraphAnswers.{Follows, IsAnswerIn, IsStopAt}
use Rattle.vp_generator.specs.declared.stops.VpStop.{VpStop}
use Rattle.vp_generator.proofs.BuiltForms.{stop_of_acts}
use Rattle.vp_generator.proofs.GeneratedTypes.{generated_type}
use Rattle.vp_generator.proofs.GraphForms.{stop_is}

pub acts_over : (xs ys : List A.Act) (k : Form) → vp (acts_of (xs ++ ys)) k ≡ vp (acts_of xs) (vp (acts_of ys) k)
acts_over [] ys k = refl
acts_over (x ∷ xs) ys k = ap (vp_act (act_of x)) (acts_over xs ys k)

pub fit_apart : (types : Types) (xs ys : List A.Act) → ActsFit types (acts_of (xs ++ ys)) → ActsFit types (acts_of xs) × ActsFit types (acts_of ys)
fit_apart types [] ys h = (tt, h)
fit_apart types (x ∷ xs) ys h = let k = fit_apart types xs ys h.1 in ((h.0, k.0), k.1)

-- The invariant of the loop over parts of the acts: the acts that are left, and the form so far.
pub record IsOver (acts : List A.Act) (post : Form) (ns : List Node) (rest : List A.Act) (i : ℕ) : Type 0 where
  pub form : Form
  pub stands : Stands ns i (Tree.formula form)
  pub fit : AreFit (acts_of rest) form
  pub whole : vp (acts_of acts) post ≡ vp (acts_of rest) form

pub over_none : (acts : List A.Act) (post : Form) (ns : List Node) (i : ℕ) → AreFit (acts_of acts) post → Stands ns i (Tree.formula post) → IsOver acts post ns acts i
over_none acts post ns i h s = record { form = post; stands = s; fit = h; whole = refl }

last_fit : (rest before last : List A.Act) (f : Form) → rest ≡ before ++ last → AreFit (acts_of rest) f → AreFit (acts_of last) f
last_fit rest before last f d h = record { types = h.types; fit = (fit_apart h.types before last (subst (λ r. ActsFit h.types (acts_of r)) d h.fit)).1; formula = h.formula }

before_fit : (rest before last : List A.Act) (f : Form) → rest ≡ before ++ last → AreFit (acts_of rest) f → AreFit (acts_of before) (vp (acts_of last) f)
before_fit rest before last f d h =
    let k = fit_apart h.types before last (subst (λ r. ActsFit h.types (acts_of r)) d h.fit) in
    record { types = h.types; fit = k.0; formula = generated_type h.types (acts_of last) f k.1 h.formula }

pub last_follow : (acts : List A.Act) (post : Form) (ns : List Node) (rest before last : List A.Act) (i : ℕ) → IsOver acts post ns rest i → rest ≡ before ++ last → Follows (acts_of last) ns i
last_follow acts post ns rest before last i o d = record { form = o.form; stands = o.stands; fit = last_fit rest before last o.form d o.fit }

whole_next : (acts : List A.Act) (post : Form) (ns : List Node) (rest before last : List A.Act) (i : ℕ) → (o : IsOver acts post ns rest i) → rest ≡ before ++ last → vp (acts_of acts) post ≡ vp (acts_of before) (vp (acts_of last) o.form)
whole_next acts post ns rest before last i o d = o.whole ∙ ap (λ r. vp (acts_of r) o.form) d ∙ acts_over before last o.form

pub over_next : (acts : List A.Act) (post : Form) (ns ms : List Node) (rest before last : List A.Act) (i j : ℕ) → (o : IsOver acts post ns rest i) → rest ≡ before ++ last → Stands ms j (Tree.formula (vp (acts_of last) o.form)) → IsOver acts post ms before j
over_next acts post ns ms rest before last i j o d s = record { form = vp (acts_of last) o.form; stands = s; fit = before_fit rest before last o.form d o.fit; whole = whole_next acts post ns rest before last i o d }

pub over_stop : (acts : List A.Act) (post : Form) (ns : List Node) (rest before last : List A.Act) (i : ℕ) (stop : VpStop) → (o : IsOver acts post ns rest i) → rest ≡ before ++ last → IsStopAt 200000 (vp (acts_of last) o.form) stop → IsStop (vp (acts_of acts) post) stop
over_stop acts post ns rest before last i stop o d h =
    let b = before_fit rest before last o.form d o.fit in
    stop_is (vp (acts_of acts) post) stop (subst (λ f. IsStopAt 200000 f stop) (sym (whole_next acts post ns rest before last i o d)) (stop_of_acts 200000 b.types before (vp (acts_of last) o.form) stop b.fit h))

pub over_all : (acts : List A.Act) (post : Form) (ns : List Node) (rest before last : List A.Act) (i : ℕ) → (o : IsOver acts post ns rest i) → rest ≡ before ++ last → before ≡ [] → vp (acts_of acts) post ≡ vp (acts_of last) o.form
over_all acts post ns rest before last i o d e = whole_next acts post ns rest before last i o d ∙ ap (λ r. vp (acts_of r) (vp (acts_of last) o.form)) e
