-- The truths that a goal asks for are those of its free Boolean variables.
use Rattle.std.proofs.Common.{◌≡◌, ℕ, ◌<◌, List, [], ◌∷◌, ◌++◌, length, refl, sym, subst, arith, Bool, true, false, cond, ◌==◌, ◌||◌}
use Rattle.std.specs.Prelude.{Option, Some, None}
use Rattle.std.specs.List.{All}
use Rattle.std.proofs.lemmas.List.Elements.{All-head, All-tail}
use Rattle.heyvl_num.specs.Rational.{Rational}
use Rattle.heylo_formula.specs.Formula.{Form, Cond}
use Rattle.heylo_formula.specs.Typing.{Types, is_bool, types_in}
use Rattle.heylo_formula.specs.declared.types.Ty.{Ty}
use Rattle.heylo_formula.specs.Variables.{is_free, is_free_in}
use Rattle.linear_values.specs.Lin.{Lin, Terms, plus, minus, scaled, is_sized, Linear}
use Rattle.linear_form.specs.Query.{Query, Atom, Taken, next, known, known_by, unless_known, onto, once}
use Rattle.linear_form.specs.Query.Query.{done, bits, ask}
use Rattle.linear_form.specs.Questions as q
use Rattle.linear_form.specs.Questions.{Ends, sized, asked, is_below, evaluate, test, both, questions}
use Rattle.linear_form.specs.Splits.{IsSplit}
use Rattle.linear_form.specs.Paths.{Path}
use Rattle.linear_form.specs.PointLaws.{TruthsAreBooleans, TruthsHaveVariables}
use Rattle.linear_form.proofs.TypedTrees.{IsTypedAtom, IsTypedPath, typed_path}

abbrev OnAtom : (ℕ → Type 0) → Atom → Type 0
OnAtom P (Atom.truth x) = P x
OnAtom P (Atom.row a strict) = Unit {0}

abbrev OnTruths : {A : Type 0} → (ℕ → Type 0) → Query A → Type 0
OnTruths P (done a) = Unit {0}
OnTruths P bits = Unit {0}
OnTruths P (ask q y n) = OnAtom P q × OnTruths P y × OnTruths P n

on_next : (P : ℕ → Type 0) {A B : Type 0} (t : Query A) (f : A → Query B) → OnTruths P t → ((a : A) → OnTruths P (f a)) → OnTruths P (next t f)
on_next P (done a) f h k = k a
on_next P bits f h k = tt
on_next P (ask q y n) f h k = (h.0, on_next P y f h.1 k, on_next P n f h.2 k)

on_both : (P : ℕ → Type 0) {B : Type 0} (t u : Query Linear) (f : Linear → Linear → Query B) → OnTruths P t → OnTruths P u → ((x y : Linear) → OnTruths P (f x y)) → OnTruths P (both t u f)
on_both P t u f h k g = on_next P t _ h (λ x. on_next P u _ k (λ y. g x y))

on_two : (P : ℕ → Type 0) {A : Type 0} (b : Bool) (t u : Query A) → OnTruths P t → OnTruths P u → OnTruths P (cond b t u)
on_two P true t u h k = h
on_two P false t u h k = k

-- ---- The operators ask comparisons of numbers

on_sized : (P : ℕ → Type 0) (x : Linear) → OnTruths P (sized x)
on_sized P None = tt
on_sized P (Some a) = on_two P (is_sized a) (done (Some a)) bits tt tt

on_asked : (P : ℕ → Type 0) (ts : Terms) (a : Lin) (strict : Bool) → OnTruths P (asked ts a strict)
on_asked P [] a strict = tt
on_asked P (t ∷ ts) a strict = (tt, tt, tt)

on_below : (P : ℕ → Type 0) (a : Lin) (strict : Bool) → OnTruths P (is_below a strict)
on_below P a strict = on_two P (is_sized a) (asked a.terms a strict) bits (on_asked P a.terms a strict) tt

on_picked : (P : ℕ → Type 0) (a : Lin) (strict : Bool) (x y : Linear) → OnTruths P (next (is_below a strict) (λ t. done (cond t x y)))
on_picked P a strict x y = on_next P (is_below a strict) _ (on_below P a strict) (λ t. tt)

on_sum : (P : ℕ → Type 0) (x y : Linear) → OnTruths P (q.sum x y)
on_sum P (Some a) (Some b) = on_sized P (Some (plus a b))
on_sum P (Some a) None = tt
on_sum P None (Some b) = tt
on_sum P None None = tt

on_difference : (P : ℕ → Type 0) (x y : Linear) → OnTruths P (q.difference x y)
on_difference P (Some a) (Some b) = on_sized P (Some (minus a b))
on_difference P (Some a) None = tt
on_difference P None y = tt

on_cut : (P : ℕ → Type 0) (x y : Linear) → OnTruths P (q.cut x y)
on_cut P (Some a) (Some b) = on_next P (is_below (minus b a) false) _ (on_below P (minus b a) false) (λ t. on_two P t (sized (Some (minus a b))) (done q.zero) (on_sized P (Some (minus a b))) tt)
on_cut P (Some a) None = tt
on_cut P None (Some b) = tt
on_cut P None None = tt

on_scale : (P : ℕ → Type 0) (w : Rational) (x : Linear) → OnTruths P (q.scale w x)
on_scale P w (Some a) = on_sized P (Some (scaled w a))
on_scale P w None = tt

on_finite_product : (P : ℕ → Type 0) (ts us : Terms) (a b : Lin) → OnTruths P (q.finite_product ts us a b)
on_finite_product P [] us a b = on_sized P (Some (scaled a.rest b))
on_finite_product P (t ∷ ts) [] a b = on_sized P (Some (scaled b.rest a))
on_finite_product P (t ∷ ts) (u ∷ us) a b = tt

on_product : (P : ℕ → Type 0) (x y : Linear) → OnTruths P (q.product x y)
on_product P (Some a) (Some b) = on_finite_product P a.terms b.terms a b
on_product P (Some a) None = on_picked P a false q.zero None
on_product P None (Some b) = on_picked P b false q.zero None
on_product P None None = tt

on_min : (P : ℕ → Type 0) (x y : Linear) → OnTruths P (q.min x y)
on_min P (Some a) (Some b) = on_picked P (minus a b) false (Some a) (Some b)
on_min P (Some a) None = tt
on_min P None (Some b) = tt
on_min P None None = tt

on_max : (P : ℕ → Type 0) (x y : Linear) → OnTruths P (q.max x y)
on_max P (Some a) (Some b) = on_picked P (minus a b) false (Some b) (Some a)
on_max P (Some a) None = tt
on_max P None (Some b) = tt
on_max P None None = tt

on_imply : (P : ℕ → Type 0) (x y : Linear) → OnTruths P (q.imply x y)
on_imply P (Some a) (Some b) = on_picked P (minus a b) false None (Some b)
on_imply P (Some a) None = tt
on_imply P None (Some b) = tt
on_imply P None None = tt

on_co_imply : (P : ℕ → Type 0) (x y : Linear) → OnTruths P (q.co_imply x y)
on_co_imply P (Some a) (Some b) = on_picked P (minus b a) false q.zero (Some b)
on_co_imply P (Some a) None = tt
on_co_imply P None (Some b) = tt
on_co_imply P None None = tt

on_co_validate : (P : ℕ → Type 0) (x : Linear) → OnTruths P (q.co_validate x)
on_co_validate P (Some a) = on_picked P a false q.zero None
on_co_validate P None = tt

on_at_most : (P : ℕ → Type 0) (x y : Linear) → OnTruths P (q.at_most x y)
on_at_most P (Some a) (Some b) = on_below P (minus a b) false
on_at_most P (Some a) None = tt
on_at_most P None (Some b) = tt
on_at_most P None None = tt

on_less : (P : ℕ → Type 0) (x y : Linear) → OnTruths P (q.less x y)
on_less P (Some a) (Some b) = on_below P (minus a b) true
on_less P (Some a) None = tt
on_less P None y = tt

on_equal : (P : ℕ → Type 0) (x y : Linear) → OnTruths P (q.equal x y)
on_equal P x y = on_next P (q.at_most x y) _ (on_at_most P x y) (λ t. on_two P t (q.at_most y x) (done false) (on_at_most P y x) tt)

-- ---- Forms and conditions

abbrev Where : (ℕ → Bool) → (ℕ → Type 0) → Type 0
Where b P = (x : ℕ) → b x ≡ true → P x

or_first : (a b : Bool) → a ≡ true → (a || b) ≡ true
or_first true b e = refl
or_first false b e = absurd (cc)

or_second : (a b : Bool) → b ≡ true → (a || b) ≡ true
or_second true b e = refl
or_second false b e = e

first : (P : ℕ → Type 0) (b c : ℕ → Bool) → Where (λ x. b x || c x) P → Where b P
first P b c h x e = h x (or_first (b x) (c x) e)

second : (P : ℕ → Type 0) (b c : ℕ → Bool) → Where (λ x. b x || c x) P → Where c P
second P b c h x e = h x (or_second (b x) (c x) e)

same : (x : ℕ) → (x == x) ≡ true
same x = grind arith

mutual
  form_truths : (P : ℕ → Type 0) (f : Form) → Where (λ x. is_free x f) P → OnTruths P (evaluate f)
  form_truths P (Form.number v) h = on_sized P (q.number v)
  form_truths P (Form.variable x) h = tt
  form_truths P (Form.sum a b) h = on_both P (evaluate a) (evaluate b) q.sum (form_truths P a (first P (λ x. is_free x a) (λ x. is_free x b) h)) (form_truths P b (second P (λ x. is_free x a) (λ x. is_free x b) h)) (on_sum P)
  form_truths P (Form.difference a b) h = on_both P (evaluate a) (evaluate b) q.difference (form_truths P a (first P (λ x. is_free x a) (λ x. is_free x b) h)) (form_truths P b (second P (λ x. is_free x a) (λ x. is_free x b) h)) (on_difference P)
  form_truths P (Form.cut a b) h = on_both P (evaluate a) (evaluate b) q.cut (form_truths P a (first P (λ x. is_free x a) (λ x. is_free x b) h)) (form_truths P b (second P (λ x. is_free x a) (λ x. is_free x b) h)) (on_cut P)
  form_truths P (Form.product a b span) h = on_both P (evaluate a) (evaluate b) q.product (form_truths P a (first P (λ x. is_free x a) (λ x. is_free x b) h)) (form_truths P b (second P (λ x. is_free x a) (λ x. is_free x b) h)) (on_product P)
  form_truths P (Form.min a b) h = on_both P (evaluate a) (evaluate b) q.min (form_truths P a (first P (λ x. is_free x a) (λ x. is_free x b) h)) (form_truths P b (second P (λ x. is_free x a) (λ x. is_free x b) h)) (on_min P)
  form_truths P (Form.max a b) h = on_both P (evaluate a) (evaluate b) q.max (form_truths P a (first P (λ x. is_free x a) (λ x. is_free x b) h)) (form_truths P b (second P (λ x. is_free x a) (λ x. is_free x b) h)) (on_max P)
  form_truths P (Form.imply a b) h = on_both P (evaluate a) (evaluate b) q.imply (form_truths P a (first P (λ x. is_free x a) (λ x. is_free x b) h)) (form_truths P b (second P (λ x. is_free x a) (λ x. is_free x b) h)) (on_imply P)
  form_truths P (Form.co_imply a b) h = on_both P (evaluate a) (evaluate b) q.co_imply (form_truths P a (first P (λ x. is_free x a) (λ x. is_free x b) h)) (form_truths P b (second P (λ x. is_free x a) (λ x. is_free x b) h)) (on_co_imply P)
  form_truths P (Form.scale w a) h = on_next P (evaluate a) (q.scale w) (form_truths P a h) (on_scale P w)
  form_truths P (Form.validate a) h = on_next P (evaluate a) _ (form_truths P a h) (λ x. tt)
  form_truths P (Form.co_validate a) h = on_next P (evaluate a) q.co_validate (form_truths P a h) (on_co_validate P)
  form_truths P (Form.embed g) h = on_next P (test g) _ (cond_truths P g h) (λ t. tt)
  form_truths P (Form.iverson g) h = on_next P (test g) _ (cond_truths P g h) (λ t. tt)
  form_truths P (Form.select g a b) h = on_next P (test g) _ (cond_truths P g (first P (λ x. is_free_in x g) (λ x. is_free x a || is_free x b) h)) (λ t. on_two P t (evaluate a) (evaluate b) (form_truths P a (first P (λ x. is_free x a) (λ x. is_free x b) (second P (λ x. is_free_in x g) (λ x. is_free x a || is_free x b) h))) (form_truths P b (second P (λ x. is_free x a) (λ x. is_free x b) (second P (λ x. is_free_in x g) (λ x. is_free x a || is_free x b) h))))
  form_truths P (Form.bind up x name ty a) h = tt

  cond_truths : (P : ℕ → Type 0) (g : Cond) → Where (λ x. is_free_in x g) P → OnTruths P (test g)
  cond_truths P (Cond.constant b) h = tt
  cond_truths P (Cond.flag x) h = (h x (same x), tt, tt)
  cond_truths P (Cond.not g) h = on_next P (test g) _ (cond_truths P g h) (λ t. tt)
  cond_truths P (Cond.and g k) h = on_next P (test g) _ (cond_truths P g (first P (λ x. is_free_in x g) (λ x. is_free_in x k) h)) (λ t. on_two P t (test k) (done false) (cond_truths P k (second P (λ x. is_free_in x g) (λ x. is_free_in x k) h)) tt)
  cond_truths P (Cond.or g k) h = on_next P (test g) _ (cond_truths P g (first P (λ x. is_free_in x g) (λ x. is_free_in x k) h)) (λ t. on_two P t (done true) (test k) tt (cond_truths P k (second P (λ x. is_free_in x g) (λ x. is_free_in x k) h)))
  cond_truths P (Cond.same g k) h = on_next P (test g) _ (cond_truths P g (first P (λ x. is_free_in x g) (λ x. is_free_in x k) h)) (λ t. on_next P (test k) _ (cond_truths P k (second P (λ x. is_free_in x g) (λ x. is_free_in x k) h)) (λ u. tt))
  cond_truths P (Cond.le a b) h = on_both P (evaluate a) (evaluate b) q.at_most (form_truths P a (first P (λ x. is_free x a) (λ x. is_free x b) h)) (form_truths P b (second P (λ x. is_free x a) (λ x. is_free x b) h)) (on_at_most P)
  cond_truths P (Cond.lt a b) h = on_both P (evaluate a) (evaluate b) q.less (form_truths P a (first P (λ x. is_free x a) (λ x. is_free x b) h)) (form_truths P b (second P (λ x. is_free x a) (λ x. is_free x b) h)) (on_less P)
  cond_truths P (Cond.equal a b) h = on_both P (evaluate a) (evaluate b) q.equal (form_truths P a (first P (λ x. is_free x a) (λ x. is_free x b) h)) (form_truths P b (second P (λ x. is_free x a) (λ x. is_free x b) h)) (on_equal P)
  cond_truths P (Cond.ite g k l) h = on_next P (test g) _ (cond_truths P g (first P (λ x. is_free_in x g) (λ x. is_free_in x k || is_free_in x l) h)) (λ t. on_two P t (test k) (test l) (cond_truths P k (first P (λ x. is_free_in x k) (λ x. is_free_in x l) (second P (λ x. is_free_in x g) (λ x. is_free_in x k || is_free_in x l) h))) (cond_truths P l (second P (λ x. is_free_in x k) (λ x. is_free_in x l) (second P (λ x. is_free_in x g) (λ x. is_free_in x k || is_free_in x l) h))))

-- ---- The tree of a goal and its paths

on_once : (P : ℕ → Type 0) {A : Type 0} (ps : List Taken) (t : Query A) → OnTruths P t → OnTruths P (once ps t)
on_once P ps (done a) h = tt
on_once P ps bits h = tt
on_once P ps (ask (Atom.row a strict) y n) h = (tt, on_once P (onto ps (Atom.row a strict) true) y h.1, on_once P (onto ps (Atom.row a strict) false) n h.2)
on_once P ps (ask (Atom.truth x) y n) h = go (known x ps) (on_once P ps y h.1) (on_once P ps n h.2) (on_once P (onto ps (Atom.truth x) true) y h.1) (on_once P (onto ps (Atom.truth x) false) n h.2)
  where
    go : (o : Option Bool) → OnTruths P (once ps y) → OnTruths P (once ps n) → OnTruths P (once (onto ps (Atom.truth x) true) y) → OnTruths P (once (onto ps (Atom.truth x) false) n) → OnTruths P (unless_known o (once ps y) (once ps n) (ask (Atom.truth x) (once (onto ps (Atom.truth x) true) y) (once (onto ps (Atom.truth x) false) n)))
    go (Some true) a b c d = a
    go (Some false) a b c d = b
    go None a b c d = (h.0, c, d)

abbrev OnPath : (ℕ → Type 0) → List Taken → Type 0
OnPath P [] = Unit {0}
OnPath P (p ∷ ps) = OnAtom P p.atom × OnPath P ps

on_path : (P : ℕ → Type 0) {A : Type 0} (t : Query A) (ps : List Taken) → OnTruths P t → Path t ps → OnPath P ps
on_path P t _ h (Path.start _) = tt
on_path P (ask q y n) _ h (Path.yes _ _ _ ps p) = (h.0, on_path P y ps h.1 p)
on_path P (ask q y n) _ h (Path.no _ _ _ ps p) = (h.0, on_path P n ps h.2 p)

on_splits : (P : ℕ → Type 0) (types : List Ty) (ss : List Taken) → All (IsSplit types) ss → OnPath P ss
on_splits P types [] k = tt
on_splits P types (s ∷ ss) k = (subst (OnAtom P) (sym (All-head (IsSplit types) s ss k).atom) tt, on_splits P types ss (All-tail (IsSplit types) s ss k))

on_paths : (P : ℕ → Type 0) (types : List Ty) (ps ss : List Taken) → OnPath P ps → All (IsSplit types) ss → OnPath P (ps ++ ss)
on_paths P types [] ss h k = on_splits P types ss k
on_paths P types (p ∷ ps) ss h k = (h.0, on_paths P types ps ss h.1 k)

on_known : (P : ℕ → Type 0) (ps : List Taken) (x : ℕ) (b : Bool) → OnPath P ps → known x ps ≡ Some b → P x
on_known P [] x b h e = absurd (cc)
on_known P (p ∷ ps) x b h e = go p.atom h.0 e (on_known P ps x b h.1)
  where
    go : (a : Atom) → OnAtom P a → known_by x a p.held (known x ps) ≡ Some b → (known x ps ≡ Some b → P x) → P x
    go (Atom.row a strict) k e ih = ih e
    go (Atom.truth y) k e ih = step (x == y) refl e ih
      where
        step : (t : Bool) → (x == y) ≡ t → cond t (Some p.held) (known x ps) ≡ Some b → (known x ps ≡ Some b → P x) → P x
        step true i e ih = let j : y ≡ x = grind arith in subst P j k
        step false i e ih = ih e

typed_on : (types : Types) (ps : List Taken) → IsTypedPath types ps → OnPath (λ x. is_bool (types x) ≡ true) ps
typed_on types [] h = tt
typed_on types (p ∷ ps) h = (go p.atom h.0, typed_on types ps h.1)
  where
    go : (a : Atom) → IsTypedAtom types a → OnAtom (λ x. is_bool (types x) ≡ true) a
    go (Atom.truth x) k = k
    go (Atom.row a strict) k = tt

pub truths_booleans : TruthsAreBooleans
truths_booleans g ps x b w p e = on_known (λ x. is_bool (types_in g.types x) ≡ true) ps x b (typed_on (types_in g.types) ps (typed_path g ps w p)) e

pub truths_variables : TruthsHaveVariables
truths_variables g ps x b v p e = on_known (λ x. x < length g.types) ps x b (subst (OnPath (λ x. x < length g.types)) (sym p.parts) (on_paths (λ x. x < length g.types) g.types p.asked p.splits (on_path (λ x. x < length g.types) (questions g) p.asked (on_once (λ x. x < length g.types) [] _ (on_next (λ x. x < length g.types) {B = Ends} (evaluate g.stated) _ (form_truths (λ x. x < length g.types) g.stated v.stated) (λ y. on_next (λ x. x < length g.types) {B = Ends} (evaluate g.found) _ (form_truths (λ x. x < length g.types) g.found v.found) (λ z. tt)))) p.is_asked) p.are_splits)) e
