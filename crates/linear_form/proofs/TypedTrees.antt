-- A typed goal asks only about the variables that it may: linear values are over numeric variables,
-- and a truth is that of a Boolean.
use Rattle.std.proofs.Common.{◌≡◌, ℕ, List, [], ◌∷◌, ◌++◌, refl, sym, subst, Bool, true, false, cond, ◌&&◌, ◌==◌, ltb}
use Rattle.std.specs.Prelude.{Option, Some, None}
use Rattle.std.specs.List.{All}
use Rattle.std.proofs.lemmas.List.Elements.{All-head, All-tail}
use Rattle.heyvl_num.specs.Rational.{Rational, zeroʳ, leqʳ, ◌+ʳ◌, ◌*ʳ◌}
use Rattle.heyvl_num.specs.Rounding.{whole}
use Rattle.heyvl_num.specs.Value.{Value, is_zeroʳ}
use Rattle.heyvl_num.specs.Value.Value.{finite, infinite}
use Rattle.heylo_formula.specs.Formula.{Form, Cond}
use Rattle.heylo_formula.specs.Goals.{Goal}
use Rattle.heylo_formula.specs.Typing.{Types, NumberType, number_type, is_bool, is_unsigned, is_finite_type, type_of, is_well_typed, types_in}
use Rattle.heylo_formula.specs.declared.types.Ty.{Ty}
use Rattle.linear_values.specs.Lin.{Lin, Terms, constant, variable, unless_zero, more, merged, times, plus, minus, scaled, is_sized, Linear}
use Rattle.linear_rows.specs.Numbers.{minus_oneʳ}
use Rattle.linear_form.specs.Query.{Query, Atom, Taken, next, known, unless_known, onto, once}
use Rattle.linear_form.specs.Query.Query.{done, bits, ask}
use Rattle.linear_form.specs.Questions as q
use Rattle.linear_form.specs.Questions.{Ends, sized, asked, is_below, evaluate, test, both, questions}
use Rattle.linear_form.specs.Splits.{IsSplit}
use Rattle.linear_form.specs.Paths.{walk, Path, IsPath, end_at}
use Rattle.heylo_formula.specs.TypedGoals.{IsTypedGoal}
use Rattle.linear_rows.specs.VariableTypes.{is_integral, is_numeric}
use Rattle.linear_values.proofs.exported.KeptTerms.{of_two}
use Rattle.linear_form.proofs.SplitPaths.{end_same}
use Rattle.linear_form.proofs.TypedValues.{parts, only, unsigned, difference_joined, scale_joined}

-- ---- Terms

abbrev pub NumberTerms : Types → Terms → Type 0
NumberTerms types [] = Unit {0}
NumberTerms types (t ∷ ts) = (is_numeric (types t.0) ≡ true) × NumberTerms types ts

kept_numbers : (types : Types) (x : ℕ) (c : Rational) (ts : Terms) → is_numeric (types x) ≡ true → NumberTerms types ts → NumberTerms types (unless_zero x c ts)
kept_numbers types x c ts e h = of_two (NumberTerms types) (is_zeroʳ c) ts ((x, c) ∷ ts) h (e, h)

more_numbers : (types : Types) (x : ℕ) (c : Rational) (ts : Terms) → is_numeric (types x) ≡ true → NumberTerms types ts → NumberTerms types (more x c ts)
more_numbers types x c [] e h = kept_numbers types x c [] e tt
more_numbers types x c (t ∷ ts) e h = of_two (NumberTerms types) (x == t.0) (unless_zero x (t.1 +ʳ c) ts) _ (kept_numbers types x (t.1 +ʳ c) ts e h.1) (of_two (NumberTerms types) (ltb x t.0) (unless_zero x c (t ∷ ts)) (t ∷ more x c ts) (kept_numbers types x c (t ∷ ts) e h) (h.0, more_numbers types x c ts e h.1))

merged_numbers : (types : Types) (us ts : Terms) → NumberTerms types us → NumberTerms types ts → NumberTerms types (merged us ts)
merged_numbers types [] ts k h = h
merged_numbers types (u ∷ us) ts k h = merged_numbers types us (more u.0 u.1 ts) k.1 (more_numbers types u.0 u.1 ts k.0 h)

times_numbers : (types : Types) (w : Rational) (ts : Terms) → NumberTerms types ts → NumberTerms types (times w ts)
times_numbers types w [] h = tt
times_numbers types w (t ∷ ts) h = (h.0, times_numbers types w ts h.1)

plus_numbers : (types : Types) (a b : Lin) → NumberTerms types a.terms → NumberTerms types b.terms → NumberTerms types (plus a b).terms
unfolding plus
plus_numbers types a b h k = merged_numbers types b.terms a.terms k h

pub scaled_numbers : (types : Types) (w : Rational) (a : Lin) → NumberTerms types a.terms → NumberTerms types (scaled w a).terms
unfolding scaled
scaled_numbers types w a h = of_two (λ (b : Lin). NumberTerms types b.terms) (is_zeroʳ w) (constant zeroʳ) (record { terms = times w a.terms; rest = w *ʳ a.rest }) tt (times_numbers types w a.terms h)

pub minus_numbers : (types : Types) (a b : Lin) → NumberTerms types a.terms → NumberTerms types b.terms → NumberTerms types (minus a b).terms
unfolding minus
minus_numbers types a b h k = plus_numbers types a (scaled minus_oneʳ b) h (scaled_numbers types minus_oneʳ b k)

-- ---- The results and the comparisons of a tree

abbrev pub IsNumberValue : Types → Linear → Type 0
IsNumberValue types (Some a) = NumberTerms types a.terms
IsNumberValue types None = Unit {0}

abbrev pub IsTypedAtom : Types → Atom → Type 0
IsTypedAtom types (Atom.truth x) = is_bool (types x) ≡ true
IsTypedAtom types (Atom.row a strict) = NumberTerms types a.terms

abbrev IsTypedTree : Types → {A : Type 0} → (A → Type 0) → Query A → Type 0
IsTypedTree types P (done a) = P a
IsTypedTree types P bits = Unit {0}
IsTypedTree types P (ask q y n) = IsTypedAtom types q × IsTypedTree types P y × IsTypedTree types P n

abbrev Any : Bool → Type 0
Any b = Unit {0}

typed_next : (types : Types) {A B : Type 0} (t : Query A) (f : A → Query B) (P : A → Type 0) (Q : B → Type 0) → IsTypedTree types P t → ((a : A) → P a → IsTypedTree types Q (f a)) → IsTypedTree types Q (next t f)
typed_next types (done a) f P Q h k = k a h
typed_next types bits f P Q h k = tt
typed_next types (ask q y n) f P Q h k = (h.0, typed_next types y f P Q h.1 k, typed_next types n f P Q h.2 k)

typed_both : (types : Types) {B : Type 0} (t u : Query Linear) (f : Linear → Linear → Query B) (Q : B → Type 0) → IsTypedTree types (IsNumberValue types) t → IsTypedTree types (IsNumberValue types) u → ((x y : Linear) → IsNumberValue types x → IsNumberValue types y → IsTypedTree types Q (f x y)) → IsTypedTree types Q (both t u f)
typed_both types t u f Q h k g = typed_next types t _ (IsNumberValue types) Q h (λ x p. typed_next types u _ (IsNumberValue types) Q k (λ y r. g x y p r))

sized_typed : (types : Types) (x : Linear) → IsNumberValue types x → IsTypedTree types (IsNumberValue types) (sized x)
sized_typed types None h = tt
sized_typed types (Some a) h = of_two (IsTypedTree types (IsNumberValue types)) (is_sized a) (done (Some a)) bits h tt

asked_typed : (types : Types) (ts : Terms) (a : Lin) (strict : Bool) → NumberTerms types a.terms → IsTypedTree types Any (asked ts a strict)
asked_typed types [] a strict h = tt
asked_typed types (t ∷ ts) a strict h = (h, tt, tt)

below_typed : (types : Types) (a : Lin) (strict : Bool) → NumberTerms types a.terms → IsTypedTree types Any (is_below a strict)
below_typed types a strict h = of_two (IsTypedTree types Any) (is_sized a) (asked a.terms a strict) bits (asked_typed types a.terms a strict h) tt

picked_typed : (types : Types) (a : Lin) (strict : Bool) (x y : Linear) → NumberTerms types a.terms → IsNumberValue types x → IsNumberValue types y → IsTypedTree types (IsNumberValue types) (next (is_below a strict) (λ t. done (cond t x y)))
picked_typed types a strict x y m h k = typed_next types (is_below a strict) _ Any (IsNumberValue types) (below_typed types a strict m) (λ t e. of_two (IsNumberValue types) t x y h k)

sum_typed : (types : Types) (x y : Linear) → IsNumberValue types x → IsNumberValue types y → IsTypedTree types (IsNumberValue types) (q.sum x y)
sum_typed types (Some a) (Some b) h k = sized_typed types (Some (plus a b)) (plus_numbers types a b h k)
sum_typed types (Some a) None h k = tt
sum_typed types None (Some b) h k = tt
sum_typed types None None h k = tt

difference_typed : (types : Types) (x y : Linear) → IsNumberValue types x → IsNumberValue types y → IsTypedTree types (IsNumberValue types) (q.difference x y)
difference_typed types (Some a) (Some b) h k = sized_typed types (Some (minus a b)) (minus_numbers types a b h k)
difference_typed types (Some a) None h k = tt
difference_typed types None y h k = tt

cut_typed : (types : Types) (x y : Linear) → IsNumberValue types x → IsNumberValue types y → IsTypedTree types (IsNumberValue types) (q.cut x y)
cut_typed types (Some a) (Some b) h k = typed_next types (is_below (minus b a) false) _ Any (IsNumberValue types) (below_typed types (minus b a) false (minus_numbers types b a k h)) (λ t e. of_two (IsTypedTree types (IsNumberValue types)) t (sized (Some (minus a b))) (done q.zero) (sized_typed types (Some (minus a b)) (minus_numbers types a b h k)) tt)
cut_typed types (Some a) None h k = tt
cut_typed types None (Some b) h k = tt
cut_typed types None None h k = tt

scale_typed : (types : Types) (w : Rational) (x : Linear) → IsNumberValue types x → IsTypedTree types (IsNumberValue types) (q.scale w x)
scale_typed types w (Some a) h = sized_typed types (Some (scaled w a)) (scaled_numbers types w a h)
scale_typed types w None h = of_two (IsNumberValue types) (is_zeroʳ w) q.zero None tt tt

finite_product_typed : (types : Types) (ts us : Terms) (a b : Lin) → NumberTerms types a.terms → NumberTerms types b.terms → IsTypedTree types (IsNumberValue types) (q.finite_product ts us a b)
finite_product_typed types [] us a b h k = sized_typed types (Some (scaled a.rest b)) (scaled_numbers types a.rest b k)
finite_product_typed types (t ∷ ts) [] a b h k = sized_typed types (Some (scaled b.rest a)) (scaled_numbers types b.rest a h)
finite_product_typed types (t ∷ ts) (u ∷ us) a b h k = tt

product_typed : (types : Types) (x y : Linear) → IsNumberValue types x → IsNumberValue types y → IsTypedTree types (IsNumberValue types) (q.product x y)
product_typed types (Some a) (Some b) h k = finite_product_typed types a.terms b.terms a b h k
product_typed types (Some a) None h k = picked_typed types a false q.zero None h tt tt
product_typed types None (Some b) h k = picked_typed types b false q.zero None k tt tt
product_typed types None None h k = tt

min_typed : (types : Types) (x y : Linear) → IsNumberValue types x → IsNumberValue types y → IsTypedTree types (IsNumberValue types) (q.min x y)
min_typed types (Some a) (Some b) h k = picked_typed types (minus a b) false (Some a) (Some b) (minus_numbers types a b h k) h k
min_typed types (Some a) None h k = h
min_typed types None (Some b) h k = k
min_typed types None None h k = tt

max_typed : (types : Types) (x y : Linear) → IsNumberValue types x → IsNumberValue types y → IsTypedTree types (IsNumberValue types) (q.max x y)
max_typed types (Some a) (Some b) h k = picked_typed types (minus a b) false (Some b) (Some a) (minus_numbers types a b h k) k h
max_typed types (Some a) None h k = tt
max_typed types None (Some b) h k = tt
max_typed types None None h k = tt

imply_typed : (types : Types) (x y : Linear) → IsNumberValue types x → IsNumberValue types y → IsTypedTree types (IsNumberValue types) (q.imply x y)
imply_typed types (Some a) (Some b) h k = picked_typed types (minus a b) false None (Some b) (minus_numbers types a b h k) tt k
imply_typed types (Some a) None h k = tt
imply_typed types None (Some b) h k = k
imply_typed types None None h k = tt

co_imply_typed : (types : Types) (x y : Linear) → IsNumberValue types x → IsNumberValue types y → IsTypedTree types (IsNumberValue types) (q.co_imply x y)
co_imply_typed types (Some a) (Some b) h k = picked_typed types (minus b a) false q.zero (Some b) (minus_numbers types b a k h) tt k
co_imply_typed types (Some a) None h k = tt
co_imply_typed types None (Some b) h k = tt
co_imply_typed types None None h k = tt

validate_typed : (types : Types) (x : Linear) → IsNumberValue types x → IsNumberValue types (q.validate x)
validate_typed types (Some a) h = tt
validate_typed types None h = tt

co_validate_typed : (types : Types) (x : Linear) → IsNumberValue types x → IsTypedTree types (IsNumberValue types) (q.co_validate x)
co_validate_typed types (Some a) h = picked_typed types a false q.zero None h tt tt
co_validate_typed types None h = tt

at_most_typed : (types : Types) (x y : Linear) → IsNumberValue types x → IsNumberValue types y → IsTypedTree types Any (q.at_most x y)
at_most_typed types (Some a) (Some b) h k = below_typed types (minus a b) false (minus_numbers types a b h k)
at_most_typed types (Some a) None h k = tt
at_most_typed types None (Some b) h k = tt
at_most_typed types None None h k = tt

less_typed : (types : Types) (x y : Linear) → IsNumberValue types x → IsNumberValue types y → IsTypedTree types Any (q.less x y)
less_typed types (Some a) (Some b) h k = below_typed types (minus a b) true (minus_numbers types a b h k)
less_typed types (Some a) None h k = tt
less_typed types None y h k = tt

equal_typed : (types : Types) (x y : Linear) → IsNumberValue types x → IsNumberValue types y → IsTypedTree types Any (q.equal x y)
equal_typed types x y h k = typed_next types (q.at_most x y) _ Any Any (at_most_typed types x y h k) (λ t e. of_two (IsTypedTree types Any) t (q.at_most y x) (done false) (at_most_typed types y x k h) tt)

number_typed : (types : Types) (v : Value) → IsTypedTree types (IsNumberValue types) (sized (q.number v))
number_typed types (finite x) = sized_typed types (Some (constant x)) tt
number_typed types infinite = tt

-- ---- Forms and conditions

and_left : (a b : Bool) → (a && b) ≡ true → a ≡ true
and_left true b e = refl
and_left false b e = absurd (cc)

and_right : (a b : Bool) → (a && b) ≡ true → b ≡ true
and_right true b e = e
and_right false b e = absurd (cc)

number_variable : (ty : Ty) (t : NumberType) → number_type ty ≡ Some t → is_numeric ty ≡ true
number_variable Ty.Bool t e = absurd (cc)
number_variable Ty.Int t e = refl
number_variable Ty.UInt t e = refl
number_variable Ty.UReal t e = refl

compared : (o : Option NumberType) → is_finite_type o ≡ true → (j : NumberType) × (o ≡ Some j)
compared (Some j) e = (j, refl)
compared None e = absurd (cc)

mutual
  form_typed : (types : Types) (f : Form) (t : NumberType) → type_of types f ≡ Some t → IsTypedTree types (IsNumberValue types) (evaluate f)
  form_typed types (Form.number v) t e = number_typed types v
  form_typed types (Form.variable x) t e = (number_variable (types x) t e, tt)
  form_typed types (Form.sum a b) t e = let p = parts _ _ t e in typed_both types (evaluate a) (evaluate b) q.sum (IsNumberValue types) (form_typed types a p.left p.left_is) (form_typed types b p.right p.right_is) (sum_typed types)
  form_typed types (Form.product a b span) t e = let p = parts _ _ t e in typed_both types (evaluate a) (evaluate b) q.product (IsNumberValue types) (form_typed types a p.left p.left_is) (form_typed types b p.right p.right_is) (product_typed types)
  form_typed types (Form.min a b) t e = let p = parts _ _ t e in typed_both types (evaluate a) (evaluate b) q.min (IsNumberValue types) (form_typed types a p.left p.left_is) (form_typed types b p.right p.right_is) (min_typed types)
  form_typed types (Form.max a b) t e = let p = parts _ _ t e in typed_both types (evaluate a) (evaluate b) q.max (IsNumberValue types) (form_typed types a p.left p.left_is) (form_typed types b p.right p.right_is) (max_typed types)
  form_typed types (Form.difference a b) t e = let d = difference_joined _ t e in let p = parts _ _ d.0 d.1.0 in typed_both types (evaluate a) (evaluate b) q.difference (IsNumberValue types) (form_typed types a p.left p.left_is) (form_typed types b p.right p.right_is) (difference_typed types)
  form_typed types (Form.cut a b) t e = let p = parts _ _ t (only _ _ t e).1 in typed_both types (evaluate a) (evaluate b) q.cut (IsNumberValue types) (form_typed types a p.left p.left_is) (form_typed types b p.right p.right_is) (cut_typed types)
  form_typed types (Form.scale w a) t e = let d = scale_joined _ t (only (leqʳ zeroʳ w) _ t e).1 in typed_next types (evaluate a) (q.scale w) (IsNumberValue types) (IsNumberValue types) (form_typed types a d.0 d.1.0) (scale_typed types w)
  form_typed types (Form.imply a b) t e = let o = only _ _ t e in let m = unsigned (type_of types a) (and_left _ _ o.0) in let n = unsigned (type_of types b) (and_right (is_unsigned (type_of types a)) _ o.0) in typed_both types (evaluate a) (evaluate b) q.imply (IsNumberValue types) (form_typed types a m.type m.is) (form_typed types b n.type n.is) (imply_typed types)
  form_typed types (Form.co_imply a b) t e = let o = only _ _ t e in let m = unsigned (type_of types a) (and_left _ _ o.0) in let n = unsigned (type_of types b) (and_right (is_unsigned (type_of types a)) _ o.0) in typed_both types (evaluate a) (evaluate b) q.co_imply (IsNumberValue types) (form_typed types a m.type m.is) (form_typed types b n.type n.is) (co_imply_typed types)
  form_typed types (Form.validate a) t e = let m = unsigned (type_of types a) (only _ _ t e).0 in typed_next types (evaluate a) _ (IsNumberValue types) (IsNumberValue types) (form_typed types a m.type m.is) (validate_typed types)
  form_typed types (Form.co_validate a) t e = let m = unsigned (type_of types a) (only _ _ t e).0 in typed_next types (evaluate a) q.co_validate (IsNumberValue types) (IsNumberValue types) (form_typed types a m.type m.is) (co_validate_typed types)
  form_typed types (Form.embed g) t e = typed_next types (test g) _ Any (IsNumberValue types) (cond_typed types g (only _ _ t e).0) (λ t e. of_two (IsNumberValue types) t None q.zero tt tt)
  form_typed types (Form.iverson g) t e = typed_next types (test g) _ Any (IsNumberValue types) (cond_typed types g (only _ _ t e).0) (λ t e. of_two (IsNumberValue types) t q.one q.zero tt tt)
  form_typed types (Form.select g a b) t e = let o = only _ _ t e in let p = parts _ _ t o.1 in typed_next types (test g) _ Any (IsNumberValue types) (cond_typed types g o.0) (λ t e. of_two (IsTypedTree types (IsNumberValue types)) t (evaluate a) (evaluate b) (form_typed types a p.left p.left_is) (form_typed types b p.right p.right_is))
  form_typed types (Form.bind up x name ty a) t e = tt

  cond_typed : (types : Types) (g : Cond) → is_well_typed types g ≡ true → IsTypedTree types Any (test g)
  cond_typed types (Cond.constant b) e = tt
  cond_typed types (Cond.flag x) e = (e, tt, tt)
  cond_typed types (Cond.not g) e = typed_next types (test g) _ Any Any (cond_typed types g e) (λ t d. tt)
  cond_typed types (Cond.and g h) e = typed_next types (test g) _ Any Any (cond_typed types g (and_left _ _ e)) (λ t d. of_two (IsTypedTree types Any) t (test h) (done false) (cond_typed types h (and_right (is_well_typed types g) _ e)) tt)
  cond_typed types (Cond.or g h) e = typed_next types (test g) _ Any Any (cond_typed types g (and_left _ _ e)) (λ t d. of_two (IsTypedTree types Any) t (done true) (test h) tt (cond_typed types h (and_right (is_well_typed types g) _ e)))
  cond_typed types (Cond.same g h) e = typed_next types (test g) _ Any Any (cond_typed types g (and_left _ _ e)) (λ t d. typed_next types (test h) _ Any Any (cond_typed types h (and_right (is_well_typed types g) _ e)) (λ u c. tt))
  cond_typed types (Cond.le a b) e = let d = compared _ e in let p = parts _ _ d.0 d.1 in typed_both types (evaluate a) (evaluate b) q.at_most Any (form_typed types a p.left p.left_is) (form_typed types b p.right p.right_is) (at_most_typed types)
  cond_typed types (Cond.lt a b) e = let d = compared _ e in let p = parts _ _ d.0 d.1 in typed_both types (evaluate a) (evaluate b) q.less Any (form_typed types a p.left p.left_is) (form_typed types b p.right p.right_is) (less_typed types)
  cond_typed types (Cond.equal a b) e = let d = compared _ e in let p = parts _ _ d.0 d.1 in typed_both types (evaluate a) (evaluate b) q.equal Any (form_typed types a p.left p.left_is) (form_typed types b p.right p.right_is) (equal_typed types)
  cond_typed types (Cond.ite g h k) e = typed_next types (test g) _ Any Any (cond_typed types g (and_left _ _ e)) (λ t d. of_two (IsTypedTree types Any) t (test h) (test k) (cond_typed types h (and_left _ _ (and_right (is_well_typed types g) _ e))) (cond_typed types k (and_right (is_well_typed types h) _ (and_right (is_well_typed types g) _ e))))

-- ---- The tree of a goal and its paths

typed_once : (types : Types) {A : Type 0} (ps : List Taken) (t : Query A) (P : A → Type 0) → IsTypedTree types P t → IsTypedTree types P (once ps t)
typed_once types ps (done a) P h = h
typed_once types ps bits P h = tt
typed_once types ps (ask (Atom.row a strict) y n) P h = (h.0, typed_once types (onto ps (Atom.row a strict) true) y P h.1, typed_once types (onto ps (Atom.row a strict) false) n P h.2)
typed_once types ps (ask (Atom.truth x) y n) P h = go (known x ps) (typed_once types ps y P h.1) (typed_once types ps n P h.2) (typed_once types (onto ps (Atom.truth x) true) y P h.1) (typed_once types (onto ps (Atom.truth x) false) n P h.2)
  where
    go : (o : Option Bool) → IsTypedTree types P (once ps y) → IsTypedTree types P (once ps n) → IsTypedTree types P (once (onto ps (Atom.truth x) true) y) → IsTypedTree types P (once (onto ps (Atom.truth x) false) n) → IsTypedTree types P (unless_known o (once ps y) (once ps n) (ask (Atom.truth x) (once (onto ps (Atom.truth x) true) y) (once (onto ps (Atom.truth x) false) n)))
    go (Some true) a b c d = a
    go (Some false) a b c d = b
    go None a b c d = (h.0, c, d)

abbrev pub AreNumberValues : Types → Ends → Type 0
AreNumberValues types e = IsNumberValue types e.0 × IsNumberValue types e.1

goal_typed : (g : Goal) → IsTypedGoal g → IsTypedTree (types_in g.types) (AreNumberValues (types_in g.types)) (questions g)
goal_typed g w = let m = unsigned _ w.stated in let n = unsigned _ w.found in typed_once (types_in g.types) [] _ (AreNumberValues (types_in g.types)) (typed_next (types_in g.types) (evaluate g.stated) _ (IsNumberValue (types_in g.types)) (AreNumberValues (types_in g.types)) (form_typed (types_in g.types) g.stated m.type m.is) (λ x h. typed_next (types_in g.types) (evaluate g.found) _ (IsNumberValue (types_in g.types)) (AreNumberValues (types_in g.types)) (form_typed (types_in g.types) g.found n.type n.is) (λ y k. (h, k))))

abbrev pub IsTypedPath : Types → List Taken → Type 0
IsTypedPath types [] = Unit {0}
IsTypedPath types (p ∷ ps) = IsTypedAtom types p.atom × IsTypedPath types ps

path_typed : (types : Types) {A : Type 0} (t : Query A) (ps : List Taken) (P : A → Type 0) → IsTypedTree types P t → Path t ps → IsTypedPath types ps
path_typed types t _ P h (Path.start _) = tt
path_typed types (ask q y n) _ P h (Path.yes _ _ _ ps p) = (h.0, path_typed types y ps P h.1 p)
path_typed types (ask q y n) _ P h (Path.no _ _ _ ps p) = (h.0, path_typed types n ps P h.2 p)

walk_typed : (types : Types) {A : Type 0} (t : Query A) (ps : List Taken) (P : A → Type 0) → IsTypedTree types P t → Path t ps → IsTypedTree types P (walk t ps)
walk_typed types (done a) _ P h (Path.start _) = h
walk_typed types bits _ P h (Path.start _) = tt
walk_typed types (ask q y n) _ P h (Path.start _) = h
walk_typed types (ask q y n) _ P h (Path.yes _ _ _ ps p) = walk_typed types y ps P h.1 p
walk_typed types (ask q y n) _ P h (Path.no _ _ _ ps p) = walk_typed types n ps P h.2 p

typed_paths : (types : Types) (ps qs : List Taken) → IsTypedPath types ps → IsTypedPath types qs → IsTypedPath types (ps ++ qs)
typed_paths types [] qs h k = k
typed_paths types (p ∷ ps) qs h k = (h.0, typed_paths types ps qs h.1 k)

integral_numeric : (ty : Ty) → is_integral ty ≡ true → is_numeric ty ≡ true
integral_numeric Ty.Bool e = absurd (cc)
integral_numeric Ty.Int e = refl
integral_numeric Ty.UInt e = refl
integral_numeric Ty.UReal e = absurd (cc)

split_typed : (tys : List Ty) (p : Taken) → IsSplit tys p → IsTypedAtom (types_in tys) p.atom
split_typed tys p h = subst (IsTypedAtom (types_in tys)) (sym h.atom) (minus_numbers (types_in tys) (variable h.var) (constant (whole h.bound)) (integral_numeric (types_in tys h.var) h.whole_type, tt) tt)

splits_typed : (tys : List Ty) (ps : List Taken) → All (IsSplit tys) ps → IsTypedPath (types_in tys) ps
splits_typed tys [] h = tt
splits_typed tys (p ∷ ps) h = (split_typed tys p (All-head (IsSplit tys) p ps h), splits_typed tys ps (All-tail (IsSplit tys) p ps h))

pub typed_path : (g : Goal) (ps : List Taken) → IsTypedGoal g → IsPath g ps → IsTypedPath (types_in g.types) ps
typed_path g ps w p = subst (IsTypedPath (types_in g.types)) (sym p.parts) (typed_paths (types_in g.types) p.asked p.splits (path_typed (types_in g.types) (questions g) p.asked (AreNumberValues (types_in g.types)) (goal_typed g w) p.is_asked) (splits_typed g.types p.splits p.are_splits))

abbrev pub AreNumberEnds : Types → Query Ends → Type 0
AreNumberEnds types (done e) = AreNumberValues types e
AreNumberEnds types bits = Unit {0}
AreNumberEnds types (ask q y n) = Unit {0}

number_ends : (types : Types) (t : Query Ends) → IsTypedTree types (AreNumberValues types) t → AreNumberEnds types t
number_ends types (done e) h = h
number_ends types bits h = tt
number_ends types (ask q y n) h = tt

pub typed_end : (g : Goal) (ps : List Taken) → IsTypedGoal g → IsPath g ps → AreNumberEnds (types_in g.types) (end_at g ps)
typed_end g ps w p = subst (AreNumberEnds (types_in g.types)) (sym (end_same g ps p)) (number_ends (types_in g.types) (end_at g p.asked) (walk_typed (types_in g.types) (questions g) p.asked (AreNumberValues (types_in g.types)) (goal_typed g w) p.is_asked))
