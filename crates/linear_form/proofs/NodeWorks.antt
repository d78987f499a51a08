-- The work of the part of each kind of node.
use Rattle.std.proofs.Common.{◌≡◌, ℕ, ◌<◌, ◌≤◌, Bool, true, false, not, List, map, Option, Some, None, ◌⊎◌, inl, inr, length, slice_get, get_or, refl, sym, ap, ap₂, subst, ◌∙◌, Global}
use Rattle.std.specs.Prelude.{if◌then◌else◌}
use Rattle.std.specs.Option.{option_map}
use Rattle.std.specs.Rc.{rc_value}
use Rattle.std.specs.declared.rc.Rc.{Rc}
use Rattle.std.proofs.lemmas.Option.{slice_get-map, slice_get_past, slice_get_read}
use Rattle.heylo_formula.specs.Formula.{Form, Cond}
use Rattle.heylo_formula.specs.Operators.{agree}
use Rattle.heylo_graph.specs.Trees.{Tree}
use Rattle.heylo_graph.specs.Nodes.{as_form, as_cond, assembled, tree_at, with, IsNodeOf}
use Rattle.heylo_graph.specs.declared.nodes.Node.{Node}
use Rattle.heylo_graph.proofs.exported.NodeParts.{form_part, cond_part}
use Rattle.linear_form.specs.Query.{Query, next}
use Rattle.linear_form.specs.Query.Query.{done}
use Rattle.linear_form.specs.Questions as q
use Rattle.linear_form.specs.Questions.{evaluate, test}
use Rattle.heylo_graph.specs.Parts.{first, second, third}
use Rattle.linear_values.specs.Lin.{Linear, variable}
use Rattle.linear_values.specs.PlainValues.{lin_of, linear_of}
use Rattle.linear_values.specs.declared.lin.Lin as L
use Rattle.linear_values.specs.Kept.{IsKeptValue}
use Rattle.linear_form.specs.internal.Outcomes as outcomes
use Rattle.linear_form.specs.internal.Outcomes.{valued, told, of_bool, IsKeptResult}
use Rattle.linear_form.specs.internal.Parts as parts
use Rattle.linear_form.specs.internal.Parts.{asked, asked_by_work, known_part, operated, IsReady, IsReadyWork}
use Rattle.linear_form.specs.internal.PlainParts.{part_of, work_of}
use Rattle.linear_form.specs.internal.GoalParts.{asked_of, AreParts, IsPartOf, IsWorkOf}
use Rattle.linear_form.specs.declared.parts.Operation.{Operation}
use Rattle.linear_form.specs.declared.parts.Part.{Part}
use Rattle.linear_form.specs.declared.parts.Work as W
use Rattle.linear_form.proofs.AssembledTrees.{next_cong, next_assoc, one_valued, two_valued, two_told, truth_valued, truth_told}
use Rattle.linear_form.proofs.KeptValues.{variable_kept, zero_kept, one_kept}

-- ---- The list of parts

pub part_read : (ns : List Node) (t : Tree) (xs : List (Rc Part Global)) (i j : ℕ) (x : Rc Part Global) (p : Part) → i ≡ j → i < length xs → x ≡ get_or xs i x → p ≡ x.value → AreParts ns (map rc_value xs) → tree_at ns j ≡ Some t → IsPartOf t p
part_read ns t xs i j x p e l g s h a =
    let k = h.each j t a in
    let m : Some x.value ≡ Some k.part = sym (slice_get-map rc_value xs i ∙ ap (option_map rc_value) (slice_get_read xs (length xs) i x refl l g)) ∙ ap (slice_get (map rc_value xs)) e ∙ k.there in
    let n : k.part ≡ p = cc in
    subst (IsPartOf t) n k.is_part

pub part_missing : (ns : List Node) (t : Tree) (xs : List (Rc Part Global)) (i j : ℕ) (p : Part) → i ≡ j → length xs ≤ i → AreParts ns (map rc_value xs) → tree_at ns j ≡ Some t → IsPartOf t p
part_missing ns t xs i j p e l h a =
    let k = h.each j t a in
    let m : None ≡ Some k.part = sym (slice_get-map rc_value xs i ∙ ap (option_map rc_value) (slice_get_past xs i l)) ∙ ap (slice_get (map rc_value xs)) e ∙ k.there in
    absurd (cc)

-- ---- Auxiliary parts

pub ready_unsure : (p : parts.Part) (w : parts.Work) → p ≡ parts.Part.part w false → IsReadyWork w → IsReady p
ready_unsure p w e h = subst IsReady (sym e) ((λ f. absurd (cc)), h)

known_ready : (p : parts.Part) (r : outcomes.Result) → p ≡ known_part r → IsKeptResult r → IsReady p
known_ready p r e h = ready_unsure p (parts.Work.known r) e h

-- ---- Over parts

-- `Works n ps w`: the work `w` is that of the node `n` over the parts `ps`.
abbrev pub Works : Node → List Part → W.Work → Type 0
Works n ps w = (ns : List Node) (t : Tree) → AreParts ns ps → IsNodeOf ns n t → IsWorkOf t w

-- `IsAt ps o p`: `p` is the part of the tree at the number `o`.
abbrev pub IsAt : List Part → Option ℕ → Part → Type 0
IsAt ps o p = (ns : List Node) (i : ℕ) (t : Tree) → AreParts ns ps → o ≡ Some i → tree_at ns i ≡ Some t → IsPartOf t p

pub at_id : (ps : List Part) (o o' : Option ℕ) (p : Part) → o ≡ o' → IsAt ps o p → IsAt ps o' p
at_id ps o o' p e h = subst (λ o. IsAt ps o p) e h

pub value_known : (p : Part) (w : W.Work) (v : Option L.Lin) → part_of p ≡ parts.Part.part (work_of w) false → work_of w ≡ parts.Work.known (outcomes.Result.number (linear_of v)) → linear_of v ≡ q.zero → part_of p ≡ known_part (outcomes.Result.number q.zero)
value_known p w v e k h = e ∙ ap (λ y. parts.Part.part y false) (k ∙ ap (λ y. parts.Work.known (outcomes.Result.number y)) h)

of_tree : (t u : Tree) (w : W.Work) → Some u ≡ Some t → IsWorkOf u w → IsWorkOf t w
of_tree t u w e h = let m : u ≡ t = cc in subst (λ t. IsWorkOf t w) m h

two_forms : (n : Node) (ps : List Part) (a b : ℕ) (p u : Part) (w : W.Work) (k : Form → Form → Tree) → ((at : ℕ → Option Tree) → assembled at n ≡ with (as_form (at a)) (λ f. with (as_form (at b)) (λ g. Some (k f g)))) → ((f g : Form) → asked_of (k f g) ≡ next (valued (evaluate f)) (λ x. next (valued (evaluate g)) (λ y. operated (Operation.Of n) x y))) → IsAt ps (Some a) p → IsAt ps (Some b) u → work_of w ≡ parts.Work.two (Operation.Of n) (part_of p) (part_of u) → Works n ps w
two_forms n ps a b p u w k i e f g j ns t h m =
    let x = form_part (tree_at ns) a _ t (sym (i (tree_at ns)) ∙ m.gives) in
    let y = form_part (tree_at ns) b _ t x.rest in
    let l = f ns a (Tree.formula x.form) h refl x.there in
    let r = g ns b (Tree.formula y.form) h refl y.there in
    of_tree t (k x.form y.form) w y.rest (record { asks = ap asked_by_work j ∙ ap₂ (λ m q. next m (λ x. next q (λ y. operated (Operation.Of n) x y))) l.asks r.asks ∙ sym (e x.form y.form); ready = subst IsReadyWork (sym j) (l.ready, r.ready) })

one_form : (n : Node) (ps : List Part) (a : ℕ) (z p : Part) (w : W.Work) (k : Form → Tree) → ((at : ℕ → Option Tree) → assembled at n ≡ with (as_form (at a)) (λ f. Some (k f))) → ((f : Form) → asked_of (k f) ≡ next (valued (evaluate f)) (λ y. operated (Operation.Of n) (outcomes.Result.number q.zero) y)) → part_of z ≡ known_part (outcomes.Result.number q.zero) → IsAt ps (Some a) p → work_of w ≡ parts.Work.two (Operation.Of n) (part_of z) (part_of p) → Works n ps w
one_form n ps a z p w k i e o f j ns t h m =
    let x = form_part (tree_at ns) a _ t (sym (i (tree_at ns)) ∙ m.gives) in
    let l = f ns a (Tree.formula x.form) h refl x.there in
    of_tree t (k x.form) w x.rest (record { asks = ap asked_by_work j ∙ ap₂ (λ m q. next m (λ x. next q (λ y. operated (Operation.Of n) x y))) (ap asked o) l.asks ∙ sym (e x.form); ready = subst IsReadyWork (sym j) (known_ready (part_of z) _ o zero_kept, l.ready) })

pub scale_node : (n : Node) (ps : List Part) (v : _) (a : ℕ) (z p : Part) (w : W.Work) → n ≡ Node.Scale v a → part_of z ≡ known_part (outcomes.Result.number q.zero) → IsAt ps (first n) p → work_of w ≡ parts.Work.two (Operation.Of n) (part_of z) (part_of p) → Works n ps w
scale_node n ps v a z p w e o f j = one_form n ps a z p w (λ f. Tree.formula (Form.scale v f)) (λ at. ap (assembled at) e) (λ f. one_valued (evaluate f) (q.scale v) ∙ ap (λ n. next (valued (evaluate f)) (λ y. operated (Operation.Of n) (outcomes.Result.number q.zero) y)) (sym e)) o (subst (λ o. IsAt ps o p) (ap first e) f) j

pub validate_node : (n : Node) (ps : List Part) (a : ℕ) (z p : Part) (w : W.Work) → n ≡ Node.Validate a → part_of z ≡ known_part (outcomes.Result.number q.zero) → IsAt ps (first n) p → work_of w ≡ parts.Work.two (Operation.Of n) (part_of z) (part_of p) → Works n ps w
validate_node n ps a z p w e o f j = one_form n ps a z p w (λ f. Tree.formula (Form.validate f)) (λ at. ap (assembled at) e) (λ f. one_valued (evaluate f) (λ x. done (q.validate x)) ∙ ap (λ n. next (valued (evaluate f)) (λ y. operated (Operation.Of n) (outcomes.Result.number q.zero) y)) (sym e)) o (subst (λ o. IsAt ps o p) (ap first e) f) j

pub co_validate_node : (n : Node) (ps : List Part) (a : ℕ) (z p : Part) (w : W.Work) → n ≡ Node.CoValidate a → part_of z ≡ known_part (outcomes.Result.number q.zero) → IsAt ps (first n) p → work_of w ≡ parts.Work.two (Operation.Of n) (part_of z) (part_of p) → Works n ps w
co_validate_node n ps a z p w e o f j = one_form n ps a z p w (λ f. Tree.formula (Form.co_validate f)) (λ at. ap (assembled at) e) (λ f. one_valued (evaluate f) q.co_validate ∙ ap (λ n. next (valued (evaluate f)) (λ y. operated (Operation.Of n) (outcomes.Result.number q.zero) y)) (sym e)) o (subst (λ o. IsAt ps o p) (ap first e) f) j

pub one_node : (n : Node) (ps : List Part) (z p : Part) (w : W.Work) → ((v : _) × (a : _) × (n ≡ Node.Scale v a)) ⊎ (((a : _) × (n ≡ Node.Validate a)) ⊎ ((a : _) × (n ≡ Node.CoValidate a))) → part_of z ≡ known_part (outcomes.Result.number q.zero) → IsAt ps (first n) p → work_of w ≡ parts.Work.two (Operation.Of n) (part_of z) (part_of p) → Works n ps w
one_node n ps z p w (inl e) o f j = scale_node n ps e.0 e.1 z p w e.2 o f j
one_node n ps z p w (inr (inl e)) o f j = validate_node n ps e.0 z p w e.1 o f j
one_node n ps z p w (inr (inr e)) o f j = co_validate_node n ps e.0 z p w e.1 o f j

pub two_node : (n : Node) (ps : List Part) (p u : Part) (w : W.Work) → IsAt ps (first n) p → IsAt ps (second n) u → work_of w ≡ parts.Work.two (Operation.Of n) (part_of p) (part_of u) → ((v : _) → n ≡ Node.Const v → ⊥) → ((x : _) → n ≡ Node.Var x → ⊥) → ((a : ℕ) → n ≡ Node.Embed a → ⊥) → ((a : ℕ) → n ≡ Node.Iverson a → ⊥) → ((a b c : ℕ) → n ≡ Node.Select a b c → ⊥) → ((a b c : ℕ) → n ≡ Node.Ite a b c → ⊥) → ((up x name ty a : _) → n ≡ Node.Bind up x name ty a → ⊥) → ((b : _) → n ≡ Node.Truth b → ⊥) → ((x : _) → n ≡ Node.Flag x → ⊥) → ((a : ℕ) → n ≡ Node.Not a → ⊥) → ((a b : ℕ) → n ≡ Node.And a b → ⊥) → ((a b : ℕ) → n ≡ Node.Or a b → ⊥) → ((a b : ℕ) → n ≡ Node.Same a b → ⊥) → ((v a : _) → n ≡ Node.Scale v a → ⊥) → ((a : ℕ) → n ≡ Node.Validate a → ⊥) → ((a : ℕ) → n ≡ Node.CoValidate a → ⊥) → Works n ps w
two_node (Node.Sum a b) ps p u w f g j h0 h1 h2 h3 h4 h5 h6 h7 h8 h9 h10 h11 h12 h13 h14 h15 = two_forms (Node.Sum a b) ps a b p u w (λ f g. Tree.formula (Form.sum f g)) (λ at. refl) (λ f g. two_valued (evaluate f) (evaluate g) q.sum) f g j
two_node (Node.Diff a b) ps p u w f g j h0 h1 h2 h3 h4 h5 h6 h7 h8 h9 h10 h11 h12 h13 h14 h15 = two_forms (Node.Diff a b) ps a b p u w (λ f g. Tree.formula (Form.difference f g)) (λ at. refl) (λ f g. two_valued (evaluate f) (evaluate g) q.difference) f g j
two_node (Node.Cut a b) ps p u w f g j h0 h1 h2 h3 h4 h5 h6 h7 h8 h9 h10 h11 h12 h13 h14 h15 = two_forms (Node.Cut a b) ps a b p u w (λ f g. Tree.formula (Form.cut f g)) (λ at. refl) (λ f g. two_valued (evaluate f) (evaluate g) q.cut) f g j
two_node (Node.Product a b span) ps p u w f g j h0 h1 h2 h3 h4 h5 h6 h7 h8 h9 h10 h11 h12 h13 h14 h15 = two_forms (Node.Product a b span) ps a b p u w (λ f g. Tree.formula (Form.product f g span)) (λ at. refl) (λ f g. two_valued (evaluate f) (evaluate g) q.product) f g j
two_node (Node.Min a b) ps p u w f g j h0 h1 h2 h3 h4 h5 h6 h7 h8 h9 h10 h11 h12 h13 h14 h15 = two_forms (Node.Min a b) ps a b p u w (λ f g. Tree.formula (Form.min f g)) (λ at. refl) (λ f g. two_valued (evaluate f) (evaluate g) q.min) f g j
two_node (Node.Max a b) ps p u w f g j h0 h1 h2 h3 h4 h5 h6 h7 h8 h9 h10 h11 h12 h13 h14 h15 = two_forms (Node.Max a b) ps a b p u w (λ f g. Tree.formula (Form.max f g)) (λ at. refl) (λ f g. two_valued (evaluate f) (evaluate g) q.max) f g j
two_node (Node.Imply a b) ps p u w f g j h0 h1 h2 h3 h4 h5 h6 h7 h8 h9 h10 h11 h12 h13 h14 h15 = two_forms (Node.Imply a b) ps a b p u w (λ f g. Tree.formula (Form.imply f g)) (λ at. refl) (λ f g. two_valued (evaluate f) (evaluate g) q.imply) f g j
two_node (Node.CoImply a b) ps p u w f g j h0 h1 h2 h3 h4 h5 h6 h7 h8 h9 h10 h11 h12 h13 h14 h15 = two_forms (Node.CoImply a b) ps a b p u w (λ f g. Tree.formula (Form.co_imply f g)) (λ at. refl) (λ f g. two_valued (evaluate f) (evaluate g) q.co_imply) f g j
two_node (Node.Le a b) ps p u w f g j h0 h1 h2 h3 h4 h5 h6 h7 h8 h9 h10 h11 h12 h13 h14 h15 = two_forms (Node.Le a b) ps a b p u w (λ f g. Tree.condition (Cond.le f g)) (λ at. refl) (λ f g. two_told (evaluate f) (evaluate g) q.at_most) f g j
two_node (Node.Lt a b) ps p u w f g j h0 h1 h2 h3 h4 h5 h6 h7 h8 h9 h10 h11 h12 h13 h14 h15 = two_forms (Node.Lt a b) ps a b p u w (λ f g. Tree.condition (Cond.lt f g)) (λ at. refl) (λ f g. two_told (evaluate f) (evaluate g) q.less) f g j
two_node (Node.EqNum a b) ps p u w f g j h0 h1 h2 h3 h4 h5 h6 h7 h8 h9 h10 h11 h12 h13 h14 h15 = two_forms (Node.EqNum a b) ps a b p u w (λ f g. Tree.condition (Cond.equal f g)) (λ at. refl) (λ f g. two_told (evaluate f) (evaluate g) q.equal) f g j
two_node (Node.Const v) ps p u w f g j h0 h1 h2 h3 h4 h5 h6 h7 h8 h9 h10 h11 h12 h13 h14 h15 = absurd (h0 v refl)
two_node (Node.Var x) ps p u w f g j h0 h1 h2 h3 h4 h5 h6 h7 h8 h9 h10 h11 h12 h13 h14 h15 = absurd (h1 x refl)
two_node (Node.Embed a) ps p u w f g j h0 h1 h2 h3 h4 h5 h6 h7 h8 h9 h10 h11 h12 h13 h14 h15 = absurd (h2 a refl)
two_node (Node.Iverson a) ps p u w f g j h0 h1 h2 h3 h4 h5 h6 h7 h8 h9 h10 h11 h12 h13 h14 h15 = absurd (h3 a refl)
two_node (Node.Select a b c) ps p u w f g j h0 h1 h2 h3 h4 h5 h6 h7 h8 h9 h10 h11 h12 h13 h14 h15 = absurd (h4 a b c refl)
two_node (Node.Ite a b c) ps p u w f g j h0 h1 h2 h3 h4 h5 h6 h7 h8 h9 h10 h11 h12 h13 h14 h15 = absurd (h5 a b c refl)
two_node (Node.Bind up x name ty a) ps p u w f g j h0 h1 h2 h3 h4 h5 h6 h7 h8 h9 h10 h11 h12 h13 h14 h15 = absurd (h6 up x name ty a refl)
two_node (Node.Truth b) ps p u w f g j h0 h1 h2 h3 h4 h5 h6 h7 h8 h9 h10 h11 h12 h13 h14 h15 = absurd (h7 b refl)
two_node (Node.Flag x) ps p u w f g j h0 h1 h2 h3 h4 h5 h6 h7 h8 h9 h10 h11 h12 h13 h14 h15 = absurd (h8 x refl)
two_node (Node.Not a) ps p u w f g j h0 h1 h2 h3 h4 h5 h6 h7 h8 h9 h10 h11 h12 h13 h14 h15 = absurd (h9 a refl)
two_node (Node.And a b) ps p u w f g j h0 h1 h2 h3 h4 h5 h6 h7 h8 h9 h10 h11 h12 h13 h14 h15 = absurd (h10 a b refl)
two_node (Node.Or a b) ps p u w f g j h0 h1 h2 h3 h4 h5 h6 h7 h8 h9 h10 h11 h12 h13 h14 h15 = absurd (h11 a b refl)
two_node (Node.Same a b) ps p u w f g j h0 h1 h2 h3 h4 h5 h6 h7 h8 h9 h10 h11 h12 h13 h14 h15 = absurd (h12 a b refl)
two_node (Node.Scale v a) ps p u w f g j h0 h1 h2 h3 h4 h5 h6 h7 h8 h9 h10 h11 h12 h13 h14 h15 = absurd (h13 v a refl)
two_node (Node.Validate a) ps p u w f g j h0 h1 h2 h3 h4 h5 h6 h7 h8 h9 h10 h11 h12 h13 h14 h15 = absurd (h14 a refl)
two_node (Node.CoValidate a) ps p u w f g j h0 h1 h2 h3 h4 h5 h6 h7 h8 h9 h10 h11 h12 h13 h14 h15 = absurd (h15 a refl)

-- ---- Leaves

pub variable_node : (n : Node) (ps : List Part) (x : ℕ) (a : L.Lin) (w : W.Work) → n ≡ Node.Var x → lin_of a ≡ variable x → work_of w ≡ parts.Work.known (outcomes.Result.number (linear_of (Some a))) → Works n ps w
variable_node n ps x a w e l k ns t h m = of_tree t (Tree.formula (Form.variable x)) w (sym (ap (assembled (tree_at ns)) e) ∙ m.gives) (go (k ∙ ap (λ b. parts.Work.known (outcomes.Result.number (Some b))) l))
  where
    go : work_of w ≡ parts.Work.known (outcomes.Result.number (Some (variable x))) → IsWorkOf (Tree.formula (Form.variable x)) w
    go k = record { asks = ap asked_by_work k; ready = subst IsReadyWork (sym k) (variable_kept x) }

truth_ready : (b : Bool) → IsReady (known_part (outcomes.Result.truth b))
truth_ready b = ((λ f. absurd (cc)), tt)

-- ---- Choices

chosen : (g : Cond) (s p r : parts.Part) (w : W.Work) (t : Tree) (k : Bool → Query outcomes.Result) → work_of w ≡ parts.Work.choice s p r → asked_of t ≡ next (told (test g)) (of_bool k) → asked s ≡ told (test g) → IsReady s → asked p ≡ k true → asked r ≡ k false → IsReady p → IsReady r → IsWorkOf t w
chosen g s p r w t k j e f z a b m n = record { asks = ap asked_by_work j ∙ ap (λ y. next y (of_bool (λ b. if b then asked p else asked r))) f ∙ next_cong (told (test g)) (of_bool (λ b. if b then asked p else asked r)) (of_bool k) same ∙ sym e; ready = subst IsReadyWork (sym j) (z, (m, n)) }
  where
    same : (x : outcomes.Result) → of_bool (λ b. if b then asked p else asked r) x ≡ of_bool k x
    same (outcomes.Result.number x) = refl
    same (outcomes.Result.truth true) = a
    same (outcomes.Result.truth false) = b
    same (outcomes.Result.ends x) = refl

picked : (n : Node) (ps : List Part) (a : ℕ) (p : Part) (w : W.Work) (k : Cond → Tree) (x y : Linear) → ((at : ℕ → Option Tree) → assembled at n ≡ with (as_cond (at a)) (λ g. Some (k g))) → ((g : Cond) → asked_of (k g) ≡ valued (next (test g) (λ b. done (if b then x else y)))) → IsKeptValue x → IsKeptValue y → IsAt ps (Some a) p → work_of w ≡ parts.Work.choice (part_of p) (known_part (outcomes.Result.number x)) (known_part (outcomes.Result.number y)) → Works n ps w
picked n ps a p w k x y i e l m f j ns t h r =
    let g = cond_part (tree_at ns) a _ t (sym (i (tree_at ns)) ∙ r.gives) in
    let s = f ns a (Tree.condition g.form) h refl g.there in
    of_tree t (k g.form) w g.rest (chosen g.form (part_of p) _ _ w (k g.form) (λ t. valued (done (if t then x else y))) j (e g.form ∙ truth_valued (test g.form) (λ t. done (if t then x else y))) s.asks s.ready refl refl (known_ready _ _ refl l) (known_ready _ _ refl m))

pub embed_node : (n : Node) (ps : List Part) (a : ℕ) (p : Part) (w : W.Work) (y : Linear) → n ≡ Node.Embed a → y ≡ q.zero → IsAt ps (first n) p → work_of w ≡ parts.Work.choice (part_of p) (known_part (outcomes.Result.number None)) (known_part (outcomes.Result.number y)) → Works n ps w
embed_node n ps a p w y e z f j = picked n ps a p w (λ g. Tree.formula (Form.embed g)) None q.zero (λ at. ap (assembled at) e) (λ g. refl) tt zero_kept (subst (λ o. IsAt ps o p) (ap first e) f) (j ∙ ap (λ y. parts.Work.choice (part_of p) (known_part (outcomes.Result.number None)) (known_part (outcomes.Result.number y))) z)

pub iverson_node : (n : Node) (ps : List Part) (a : ℕ) (p : Part) (w : W.Work) (x y : Linear) → n ≡ Node.Iverson a → x ≡ q.one → y ≡ q.zero → IsAt ps (first n) p → work_of w ≡ parts.Work.choice (part_of p) (known_part (outcomes.Result.number x)) (known_part (outcomes.Result.number y)) → Works n ps w
iverson_node n ps a p w x y e o z f j = picked n ps a p w (λ g. Tree.formula (Form.iverson g)) q.one q.zero (λ at. ap (assembled at) e) (λ g. refl) one_kept zero_kept (subst (λ o. IsAt ps o p) (ap first e) f) (j ∙ ap₂ (λ x y. parts.Work.choice (part_of p) (known_part (outcomes.Result.number x)) (known_part (outcomes.Result.number y))) o z)

pub select_node : (n : Node) (ps : List Part) (a b c : ℕ) (s p v : Part) (w : W.Work) → n ≡ Node.Select a b c → IsAt ps (first n) s → IsAt ps (second n) p → IsAt ps (third n) v → work_of w ≡ parts.Work.choice (part_of s) (part_of p) (part_of v) → Works n ps w
select_node n ps a b c s p v w e d f g j ns t h r =
    let x = cond_part (tree_at ns) a _ t (sym (ap (assembled (tree_at ns)) e) ∙ r.gives) in
    let y = form_part (tree_at ns) b _ t x.rest in
    let z = form_part (tree_at ns) c _ t y.rest in
    let k = d ns a (Tree.condition x.form) h (ap first e) x.there in
    let l = f ns b (Tree.formula y.form) h (ap second e) y.there in
    let m = g ns c (Tree.formula z.form) h (ap third e) z.there in
    of_tree t _ w z.rest (chosen x.form (part_of s) (part_of p) (part_of v) w (Tree.formula (Form.select x.form y.form z.form)) (λ t. valued (if t then evaluate y.form else evaluate z.form)) j (truth_valued (test x.form) (λ t. if t then evaluate y.form else evaluate z.form)) k.asks k.ready l.asks m.asks l.ready m.ready)

pub ite_node : (n : Node) (ps : List Part) (a b c : ℕ) (s p v : Part) (w : W.Work) → n ≡ Node.Ite a b c → IsAt ps (first n) s → IsAt ps (second n) p → IsAt ps (third n) v → work_of w ≡ parts.Work.choice (part_of s) (part_of p) (part_of v) → Works n ps w
ite_node n ps a b c s p v w e d f g j ns t h r =
    let x = cond_part (tree_at ns) a _ t (sym (ap (assembled (tree_at ns)) e) ∙ r.gives) in
    let y = cond_part (tree_at ns) b _ t x.rest in
    let z = cond_part (tree_at ns) c _ t y.rest in
    let k = d ns a (Tree.condition x.form) h (ap first e) x.there in
    let l = f ns b (Tree.condition y.form) h (ap second e) y.there in
    let m = g ns c (Tree.condition z.form) h (ap third e) z.there in
    of_tree t _ w z.rest (chosen x.form (part_of s) (part_of p) (part_of v) w (Tree.condition (Cond.ite x.form y.form z.form)) (λ t. told (if t then test y.form else test z.form)) j (truth_told (test x.form) (λ t. if t then test y.form else test z.form)) k.asks k.ready l.asks m.asks l.ready m.ready)

pub not_node : (n : Node) (ps : List Part) (a : ℕ) (s : Part) (w : W.Work) → n ≡ Node.Not a → IsAt ps (first n) s → work_of w ≡ parts.Work.choice (part_of s) (known_part (outcomes.Result.truth false)) (known_part (outcomes.Result.truth true)) → Works n ps w
not_node n ps a s w e d j ns t h r =
    let x = cond_part (tree_at ns) a _ t (sym (ap (assembled (tree_at ns)) e) ∙ r.gives) in
    let k = d ns a (Tree.condition x.form) h (ap first e) x.there in
    of_tree t _ w x.rest (chosen x.form (part_of s) _ _ w (Tree.condition (Cond.not x.form)) (λ t. told (done (not t))) j (truth_told (test x.form) (λ t. done (not t))) k.asks k.ready refl refl (truth_ready false) (truth_ready true))

pub and_node : (n : Node) (ps : List Part) (a b : ℕ) (s p v : Part) (w : W.Work) → n ≡ Node.And a b → IsAt ps (first n) s → IsAt ps (second n) p → part_of v ≡ known_part (outcomes.Result.truth false) → work_of w ≡ parts.Work.choice (part_of s) (part_of p) (part_of v) → Works n ps w
and_node n ps a b s p v w e d f g j ns t h r =
    let x = cond_part (tree_at ns) a _ t (sym (ap (assembled (tree_at ns)) e) ∙ r.gives) in
    let y = cond_part (tree_at ns) b _ t x.rest in
    let k = d ns a (Tree.condition x.form) h (ap first e) x.there in
    let l = f ns b (Tree.condition y.form) h (ap second e) y.there in
    of_tree t _ w y.rest (chosen x.form (part_of s) (part_of p) (part_of v) w (Tree.condition (Cond.and x.form y.form)) (λ t. told (if t then test y.form else done false)) j (truth_told (test x.form) (λ t. if t then test y.form else done false)) k.asks k.ready l.asks (ap asked g) l.ready (known_ready _ _ g tt))

pub or_node : (n : Node) (ps : List Part) (a b : ℕ) (s p v : Part) (w : W.Work) → n ≡ Node.Or a b → IsAt ps (first n) s → part_of p ≡ known_part (outcomes.Result.truth true) → IsAt ps (second n) v → work_of w ≡ parts.Work.choice (part_of s) (part_of p) (part_of v) → Works n ps w
or_node n ps a b s p v w e d g f j ns t h r =
    let x = cond_part (tree_at ns) a _ t (sym (ap (assembled (tree_at ns)) e) ∙ r.gives) in
    let y = cond_part (tree_at ns) b _ t x.rest in
    let k = d ns a (Tree.condition x.form) h (ap first e) x.there in
    let l = f ns b (Tree.condition y.form) h (ap second e) y.there in
    of_tree t _ w y.rest (chosen x.form (part_of s) (part_of p) (part_of v) w (Tree.condition (Cond.or x.form y.form)) (λ t. told (if t then done true else test y.form)) j (truth_told (test x.form) (λ t. if t then done true else test y.form)) k.asks k.ready (ap asked g) l.asks (known_ready _ _ g tt) l.ready)

pub same_node : (n : Node) (ps : List Part) (a b : ℕ) (s p v c : Part) (d w : W.Work) → n ≡ Node.Same a b → IsAt ps (first n) s → IsAt ps (second n) p → c ≡ p → work_of d ≡ parts.Work.choice (part_of c) (known_part (outcomes.Result.truth false)) (known_part (outcomes.Result.truth true)) → part_of v ≡ parts.Part.part (work_of d) false → work_of w ≡ parts.Work.choice (part_of s) (part_of p) (part_of v) → Works n ps w
same_node n ps a b s p v c d w e f g o i u j ns t h r =
    let x = cond_part (tree_at ns) a _ t (sym (ap (assembled (tree_at ns)) e) ∙ r.gives) in
    let y = cond_part (tree_at ns) b _ t x.rest in
    let k = f ns a (Tree.condition x.form) h (ap first e) x.there in
    let l = g ns b (Tree.condition y.form) h (ap second e) y.there in
    let z = subst (IsPartOf (Tree.condition y.form)) (sym o) l in
    let m = chosen y.form (part_of c) _ _ d (Tree.condition (Cond.not y.form)) (λ t. told (done (not t))) i (truth_told (test y.form) (λ t. done (not t))) z.asks z.ready refl refl (truth_ready false) (truth_ready true) in
    of_tree t _ w y.rest (chosen x.form (part_of s) (part_of p) (part_of v) w (Tree.condition (Cond.same x.form y.form)) (λ t. told (next (test y.form) (λ u. done (agree t u)))) j (truth_told (test x.form) (λ t. next (test y.form) (λ u. done (agree t u)))) k.asks k.ready (l.asks ∙ sym (next_assoc (test y.form) (λ u. done u) _)) (ap asked u ∙ m.asks) l.ready (ready_unsure (part_of v) _ u m.ready))

pub picked_node : (n : Node) (ps : List Part) (s p v : Part) (w : W.Work) → ((a : _) × (b : _) × (c : _) × (n ≡ Node.Select a b c)) ⊎ ((a : _) × (b : _) × (c : _) × (n ≡ Node.Ite a b c)) → IsAt ps (first n) s → IsAt ps (second n) p → IsAt ps (third n) v → work_of w ≡ parts.Work.choice (part_of s) (part_of p) (part_of v) → Works n ps w
picked_node n ps s p v w (inl e) f g h j = select_node n ps e.0 e.1 e.2 s p v w e.3 f g h j
picked_node n ps s p v w (inr e) f g h j = ite_node n ps e.0 e.1 e.2 s p v w e.3 f g h j
