-- Nodes of a graph while a form is generated in it.
use Rattle.std.proofs.Common.{◌≡◌, ℕ, ◌^◌, ◌+◌, ◌<◌, ◌≤◌, ◌⊎◌, inl, inr, min, Bool, true, false, List, [], ◌++◌, sym, ap, subst, ◌∙◌, ap₂, refl, arith, append_assoc, append-nil, length, take}
use Rattle.std.specs.Prelude.{Option, Some, Result, Ok, Err, IfOk, OnOk, OnErr, is_err}
use Rattle.std.proofs.lemmas.List.{take_at}
use Rattle.std.proofs.lemmas.Bool.{cases_lt}
use Rattle.heyvl_num.specs.ExtendedNumbers.{value_of}
use Rattle.heyvl_num.specs.Value.{oneᵛ}
use Rattle.heyvl_num.specs.declared.extended_numbers.Ext.{Ext}
use Rattle.heylo_formula.specs.Formula.{Form, Term}
use Rattle.heylo_formula.specs.Binders.{has_binder}
use Rattle.heylo_formula.specs.Sizes.{nodes, depth, nodes_in_term}
use Rattle.heylo_formula.specs.Substitution as Replaced
use Rattle.heylo_formula.specs.Variables.{is_free}
use Rattle.heylo_formula.proofs.exported.Substitutions.{kept_subst}
use Rattle.heylo_graph.specs.Trees.{Tree}
use Rattle.heylo_graph.specs.Nodes.{Begins, IsFormula, IsNodeOf, Stands, assembled, tree_at}
use Rattle.heylo_graph.specs.declared.nodes.Node.{Node}
pub use Rattle.heylo_graph.proofs.exported.LongerLists.{same_form}
use Rattle.heylo_graph.proofs.exported.LongerLists.{stands_longer, tree_within, const_node, cut_node}
use Rattle.vp_generator.specs.Answers.{IsStop}
use Rattle.vp_generator.specs.GraphAnswers.{IsAnswerIn, IsWithin, IsStopAt}
use Rattle.vp_generator.specs.declared.stops.VpStop.{VpStop}
use Rattle.vp_generator.specs.declared.stops.VpStop.TheVariants.{Depth, Nodes, Memory}
use Rattle.vp_generator.specs.internal.FittingActs.{TermIsFit}
use Rattle.vp_generator.specs.internal.GraphSteps.{IsMade, IsPlaced, IsReady}
use Rattle.vp_generator.proofs.FreeTerms.{term_counted}

-- ---- Prefixes of lists

pub begins_itself : (ns : List Node) → Begins ns ns
begins_itself ns = record { more = []; whole = sym (append-nil ns) }

pub begins_on : (a b c : List Node) → Begins a b → Begins b c → Begins a c
begins_on a b c p q = record { more = p.more ++ q.more; whole = q.whole ∙ ap (λ l. l ++ q.more) p.whole ∙ append_assoc a p.more q.more }

pub begins_same : (old new : List Node) → new ≡ old → Begins old new
begins_same old new e = subst (Begins old) (sym e) (begins_itself old)

-- ---- In a longer list

pub formula_longer : (old new : List Node) (i : ℕ) → Begins old new → IsFormula old i → IsFormula new i
formula_longer old new i b f = record { form = f.form; stands = stands_longer old new i (Tree.formula f.form) b f.stands }

pub placed_longer : (most : ℕ) (old new : List Node) (i : ℕ) → Begins old new → IsPlaced most old i → IsPlaced most new i
placed_longer most old new i b p = record { form = p.form; stands = stands_longer old new i (Tree.formula p.form) b p.stands; within = p.within }

pub ready_longer : (most : ℕ) (Asked : Form → Type 0) (old new : List Node) (i : ℕ) → Begins old new → IsReady most Asked old i → IsReady most Asked new i
ready_longer most Asked old new i b r = record { form = r.form; stands = stands_longer old new i (Tree.formula r.form) b r.stands; asked = r.asked; within = r.within; plain = r.plain }

pub both_within : (most : ℕ) (Asked : Form → Type 0) (old new : List Node) (i j : ℕ) (f : Form) → Begins old new → IsReady most Asked old i → Stands new j (Tree.formula f) → (i < length new) × (j < length new)
both_within most Asked old new i j f b r s = (tree_within new i (Tree.formula r.form) (stands_longer old new i (Tree.formula r.form) b r.stands).tree, tree_within new j (Tree.formula f) s.tree)

-- ---- Calls that may fail

pub joined_begins : {E : Type 0} (r : Result ℕ E) (old new : List Node) → OnOk r (Begins old new) → OnErr r (new ≡ old) → Begins old new
joined_begins (Ok i) old new b e = b
joined_begins (Err x) old new b e = begins_same old new e

pub joined_stands : {E : Type 0} (r : Result ℕ E) (ns ms : List Node) (n : Node) (t : Tree) → IfOk r (λ i. (u : Tree) → assembled (tree_at ns) n ≡ Some u → Stands ms i u) → IsNodeOf ns n t → IfOk r (λ i. Stands ms i t)
joined_stands (Ok i) ns ms n t h k = h t k.gives
joined_stands (Err x) ns ms n t h k = tt

pub one_stands : (v : Ext) (ns ms : List Node) (i : ℕ) → value_of v ≡ oneᵛ → ((u : Tree) → assembled (tree_at ns) (Node.Const v) ≡ Some u → Stands ms i u) → Stands ms i (Tree.formula (Form.number oneᵛ))
one_stands v ns ms i e h = subst (λ x. Stands ms i (Tree.formula (Form.number x))) e (h _ (const_node ns v).gives)

pub rest_stands : {E : Type 0} (r : Result ℕ E) (ns gs ms : List Node) (one least : ℕ) → Begins ns gs → Stands gs one (Tree.formula (Form.number oneᵛ)) → IfOk r (λ i. (u : Tree) → assembled (tree_at gs) (Node.Cut one least) ≡ Some u → Stands ms i u) → IfOk r (λ i. (k : Form) → Stands ns least (Tree.formula k) → Stands ms i (Tree.formula (Form.cut (Form.number oneᵛ) k)))
rest_stands (Ok i) ns gs ms one least b s h = λ k u. h _ (cut_node gs one least (Form.number oneᵛ) k s (stands_longer ns gs least (Tree.formula k) b u)).gives
rest_stands (Err x) ns gs ms one least b s h = tt

pub cut_answer : (most : ℕ) (old grown cut : List Node) (f : Form) (r : Result ℕ VpStop) (len : ℕ) → is_err r ≡ true → len ≡ length old → Begins old grown → cut ≡ take len grown → IsMade most f r grown → IsAnswerIn most old f r cut
cut_answer most old grown cut f (Ok i) len e l b c m = absurd (cc)
cut_answer most old grown cut f (Err stop) len e l b c m = (c ∙ ap₂ take l b.whole ∙ take_at old b.more (length old) refl, m)

pub grown_answer : (most : ℕ) (old grown : List Node) (f : Form) (r : Result ℕ VpStop) → is_err r ≡ false → Begins old grown → IsMade most f r grown → IsAnswerIn most old f r grown
grown_answer most old grown f (Ok i) e b m = (b, m)
grown_answer most old grown f (Err stop) e b m = absurd (cc)

-- ---- Conclusions on the formula of a node

pub asked_of : (most : ℕ) (Asked : Form → Type 0) (ns : List Node) (i : ℕ) (k : Form) → IsReady most Asked ns i → Stands ns i (Tree.formula k) → Asked k
asked_of most Asked ns i k r s = subst Asked (same_form ns i r.form k r.stands s) r.asked

pub within_of : (most : ℕ) (Asked : Form → Type 0) (ns : List Node) (i : ℕ) (k : Form) → IsReady most Asked ns i → Stands ns i (Tree.formula k) → IsWithin most k
within_of most Asked ns i k r s = subst (IsWithin most) (same_form ns i r.form k r.stands s) r.within

pub ready_as : (most : ℕ) (Asked Told : Form → Type 0) (ns : List Node) (i : ℕ) → ((k : Form) → Asked k → Told k) → IsReady most Asked ns i → IsReady most Told ns i
ready_as most Asked Told ns i f r = record { form = r.form; stands = r.stands; asked = f r.form r.asked; within = r.within; plain = r.plain }

pub ready_form : (most : ℕ) (Asked : Form → Type 0) (ns : List Node) (i : ℕ) → IsReady most Asked ns i → IsFormula ns i
ready_form most Asked ns i r = record { form = r.form; stands = r.stands }

pub placed_form : (most : ℕ) (ns : List Node) (i : ℕ) → IsPlaced most ns i → IsFormula ns i
placed_form most ns i p = record { form = p.form; stands = p.stands }

pub made_placed : (most : ℕ) (f : Form) (ns : List Node) (i : ℕ) → IsMade most f (Ok i) ns → IsPlaced most ns i
made_placed most f ns i m = record { form = f; stands = m.0; within = m.1 }

pub made_form : (most : ℕ) (f : Form) (ns : List Node) (i : ℕ) → IsMade most f (Ok i) ns → IsFormula ns i
made_form most f ns i m = record { form = f; stands = m.0 }

-- ---- Counting

pub passes : (most n count : ℕ) → count ≡ min (2 ^ 63) n → most < count → most < n
passes most n count e h = omega (arith, e, h)

pub keeps : (most n count : ℕ) → most < 2 ^ 63 → count ≡ min (2 ^ 63) n → count ≤ most → n ≤ most
keeps most n count b e h = omega (arith, b, e, h)

pub few_for_fresh : (most n : ℕ) (f : Form) → IsWithin most f → (2 ^ 30 ≤ most → has_binder f ≡ false) → n ≤ most → has_binder f ≡ true → nodes f + n < 2 ^ 31
few_for_fresh most n f w p h b = go (cases_lt most (2 ^ 30))
  where
    go : (most < 2 ^ 30) ⊎ (2 ^ 30 ≤ most) → nodes f + n < 2 ^ 31
    go (inl l) = let s = w.few in omega (arith, s, h, l)
    go (inr l) = let e : true ≡ false = sym b ∙ p l in absurd (cc)

pub too_large : (most : ℕ) (x : ℕ) (t : Term) (k : Form) → TermIsFit x t k → most < nodes_in_term t → is_free x k ≡ true → most < nodes (Replaced.subst x t k)
too_large most x t k f h i = let c = term_counted x t k f i in omega (arith, c, h)

pub not_changed : (most : ℕ) (ns : List Node) (i x : ℕ) (t : Term) (k : Form) → Stands ns i (Tree.formula k) → IsWithin most k → is_free x k ≡ false → IsMade most (Replaced.subst x t k) (Ok i) ns
not_changed most ns i x t k s w h = subst (λ f. IsMade most f (Ok i) ns) (sym (kept_subst x t k h)) (s, w)

-- ---- The limit of vp

pub stop_is : (f : Form) (stop : VpStop) → IsStopAt 200000 f stop → IsStop f stop
stop_is f Depth h = h
stop_is f Nodes h = h
stop_is f (Memory e) h = tt
