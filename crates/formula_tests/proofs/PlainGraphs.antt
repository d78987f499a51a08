-- Formulas without binders in a graph that grows.
use Rattle.std.proofs.Common.{◌≡◌, ℕ, ◌<◌, true, false, List, ◌++◌, Some, length, refl, ap, ap₂, ◌∙◌, ◌||◌, append_assoc}
use Rattle.std.specs.Prelude.{Result, Ok, Err, IfOk, OnOk}
use Rattle.heyvl_num.specs.Rational.{Rational}
use Rattle.heylo_formula.specs.Formula.{Form, Cond, Term}
use Rattle.heylo_formula.specs.Binders.{has_binder, IsPlain}
use Rattle.heylo_formula.specs.Substitution.{subst}
use Rattle.heylo_formula.proofs.exported.Substitutions.{subst_binders}
use Rattle.heylo_graph.specs.Trees.{Tree}
use Rattle.heylo_graph.specs.declared.nodes.Node.{Node}
use Rattle.heylo_graph.specs.Nodes.{Begins, Stands, IsFitting, IsNodeOf, assembled, tree_at}
use Rattle.heylo_graph.proofs.exported.LongerLists.{tree_within, stands_longer, fits, scale_node, sum_node, iverson_node}
use Rattle.formula_tests.specs.PlainFormulas.{StandsPlain}

begins_both : (old mid new : List Node) → Begins old mid → Begins mid new → Begins old new
begins_both old mid new b d = record { more = b.more ++ d.more; whole = d.whole ∙ ap (λ l. l ++ d.more) b.whole ∙ append_assoc old b.more d.more }

pub ok_begins : {E : Type 0} (old mid new : List Node) (o : Result ℕ E) → Begins old mid → OnOk o (Begins mid new) → OnOk o (Begins old new)
ok_begins old mid new (Ok r) b d = begins_both old mid new b d
ok_begins old mid new (Err e) b d = tt

pub plain_within : (ns : List Node) (i : ℕ) → StandsPlain ns i → i < length ns
plain_within ns i p = tree_within ns i (Tree.formula p.form) p.stands.tree

pub plain_longer : (old new : List Node) (i : ℕ) → StandsPlain old i → Begins old new → StandsPlain new i
plain_longer old new i p b = record { form = p.form; stands = stands_longer old new i (Tree.formula p.form) b p.stands; plain = p.plain }

-- The node has no other formula.
pub no_binder : (ns : List Node) (i : ℕ) (f : Form) → StandsPlain ns i → Stands ns i (Tree.formula f) → has_binder f ≡ true → {A : Type 0} → A
no_binder ns i f p s h = absurd (let e : has_binder f ≡ false = ap has_binder (same_formula ns i f p.form s p.stands) ∙ p.plain in cc)
  where
    same_formula : (ns : List Node) (i : ℕ) (f g : Form) → Stands ns i (Tree.formula f) → Stands ns i (Tree.formula g) → f ≡ g
    same_formula ns i f g s u = let a = s.tree in let b = u.tree in cc

pub plain_put : (old new : List Node) (i r x : ℕ) (t : Term) → IsPlain t → StandsPlain old i → ((f : Form) → Stands old i (Tree.formula f) → Stands new r (Tree.formula (subst x t f))) → StandsPlain new r
plain_put old new i r x t h p s = record { form = subst x t p.form; stands = s p.form p.stands; plain = subst_binders x t p.form h ∙ p.plain }

-- ---- Nodes over formulas without binders

scaled : (ns : List Node) (w : Rational) (i : ℕ) (p : StandsPlain ns i) → IsNodeOf ns (Node.Scale w i) (Tree.formula (Form.scale w p.form))
scaled ns w i p = scale_node ns w i p.form p.stands

pub scale_fits : (ns : List Node) (w : Rational) (i : ℕ) → StandsPlain ns i → IsFitting ns (Node.Scale w i)
scale_fits ns w i p = fits ns (Node.Scale w i) (Tree.formula (Form.scale w p.form)) (scaled ns w i p)

pub ok_scale : {E : Type 0} (old new : List Node) (w : Rational) (i : ℕ) (o : Result ℕ E) → StandsPlain old i → IfOk o (λ r. (t : Tree) → assembled (tree_at old) (Node.Scale w i) ≡ Some t → Stands new r t) → IfOk o (λ r. StandsPlain new r)
ok_scale old new w i (Ok r) p h = record { form = Form.scale w p.form; stands = h (Tree.formula (Form.scale w p.form)) (scaled old w i p).gives; plain = p.plain }
ok_scale old new w i (Err e) p h = tt

summed : (ns : List Node) (i j : ℕ) (p : StandsPlain ns i) (q : StandsPlain ns j) → IsNodeOf ns (Node.Sum i j) (Tree.formula (Form.sum p.form q.form))
summed ns i j p q = sum_node ns i j p.form q.form p.stands q.stands

pub sum_fits : (ns : List Node) (i j : ℕ) → StandsPlain ns i → StandsPlain ns j → IsFitting ns (Node.Sum i j)
sum_fits ns i j p q = fits ns (Node.Sum i j) (Tree.formula (Form.sum p.form q.form)) (summed ns i j p q)

pub ok_sum : {E : Type 0} (old new : List Node) (i j : ℕ) (o : Result ℕ E) → StandsPlain old i → StandsPlain old j → IfOk o (λ r. (t : Tree) → assembled (tree_at old) (Node.Sum i j) ≡ Some t → Stands new r t) → IfOk o (λ r. StandsPlain new r)
ok_sum old new i j (Ok r) p q h = record { form = Form.sum p.form q.form; stands = h (Tree.formula (Form.sum p.form q.form)) (summed old i j p q).gives; plain = ap₂ (λ a b. a || b) p.plain q.plain }
ok_sum old new i j (Err e) p q h = tt

pub ok_iverson : {E : Type 0} (old new : List Node) (i x : ℕ) (o : Result ℕ E) → Stands old i (Tree.condition (Cond.flag x)) → IfOk o (λ r. (t : Tree) → assembled (tree_at old) (Node.Iverson i) ≡ Some t → Stands new r t) → IfOk o (λ r. StandsPlain new r)
ok_iverson old new i x (Ok r) s h = record { form = Form.iverson (Cond.flag x); stands = h (Tree.formula (Form.iverson (Cond.flag x))) (iverson_node old i (Cond.flag x) s).gives; plain = refl }
ok_iverson old new i x (Err e) s h = tt
