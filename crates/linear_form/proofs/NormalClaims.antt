-- The claims of a path of a goal have increasing variables and no coefficient 0.
use Rattle.std.proofs.Common.{ℕ, List, [], ◌∷◌, ◌++◌, length, sym, subst, Bool, true, false, cond, ◌&&◌}
use Rattle.std.specs.Prelude.{Option, Some, None}
use Rattle.std.specs.List.{All}
use Rattle.std.proofs.lemmas.List.Elements.{All-head, All-tail}
use Prim.Native.Nat.{zero, suc}
use Rattle.heyvl_num.specs.Rational.{Rational}
use Rattle.heyvl_num.specs.Rounding.{whole}
use Rattle.heyvl_num.specs.Value.{Value, is_zeroʳ}
use Rattle.heyvl_num.specs.Value.Value.{finite, infinite}
use Rattle.heyvl_num.proofs.exported.Values.{is_zero-one}
use Rattle.heylo_formula.specs.Formula.{Form, Cond}
use Rattle.heylo_formula.specs.Goals.{Goal}
use Rattle.heylo_formula.specs.Typing.{Types, types_in}
use Rattle.heylo_formula.specs.declared.types.Ty.{Ty}
use Rattle.linear_values.specs.Lin.{Lin, Terms, constant, variable, plus, minus, scaled, is_sized, AreNormal, Linear}
use Rattle.linear_rows.specs.Numbers.{minus_oneʳ}
use Rattle.linear_form.specs.Query.{Query, Atom, Taken, next, known, unless_known, onto, once}
use Rattle.linear_form.specs.Query.Query.{done, bits, ask}
use Rattle.linear_form.specs.Questions as q
use Rattle.linear_form.specs.Questions.{Ends, sized, asked, is_below, evaluate, test, both, questions}
use Rattle.linear_form.specs.Splits.{IsSplit}
use Rattle.linear_form.specs.Paths.{walk, Path, IsPath, end_at}
use Rattle.linear_values.specs.Tightening.{Claim}
use Rattle.linear_values.specs.Nonzero.{AllNonzero}
use Rattle.linear_form.specs.PathRows.{claim, negated, answer_claims, path_claims, below_claim, listed, denial_at, is_unsigned_type, occurs_in_claims, sign_claims, claims_of}
use Rattle.linear_form.specs.internal.NormalPaths.{IsNormalAtom, IsNormalPath}
use Rattle.linear_form.specs.QuestionLaws.{EachResult}
use Rattle.linear_values.specs.Kept.{IsKeptValue}
use Rattle.linear_values.proofs.exported.KeptTerms.{of_two, plus_normal, minus_normal, scaled_normal}
use Rattle.linear_form.proofs.EachResults.{each_next}
use Rattle.linear_form.proofs.KeptValues.{form_kept}
use Rattle.linear_form.proofs.SplitPaths.{end_same}
use Rattle.linear_values.proofs.exported.Factors.{normal_nonzero}

-- ---- The results and the comparisons of a tree

abbrev IsGoodValue : Linear → Type 0
IsGoodValue (Some a) = AreNormal a.terms
IsGoodValue None = Unit {0}

abbrev IsGood : {A : Type 0} → (A → Type 0) → Query A → Type 0
IsGood P (done a) = P a
IsGood P bits = Unit {0}
IsGood P (ask q y n) = IsNormalAtom q × IsGood P y × IsGood P n

abbrev Any : Bool → Type 0
Any b = Unit {0}

good_next : {A B : Type 0} (t : Query A) (f : A → Query B) (P : A → Type 0) (Q : B → Type 0) → IsGood P t → ((a : A) → P a → IsGood Q (f a)) → IsGood Q (next t f)
good_next (done a) f P Q h k = k a h
good_next bits f P Q h k = tt
good_next (ask q y n) f P Q h k = (h.0, good_next y f P Q h.1 k, good_next n f P Q h.2 k)

good_both : {B : Type 0} (t u : Query Linear) (f : Linear → Linear → Query B) (Q : B → Type 0) → IsGood IsGoodValue t → IsGood IsGoodValue u → ((x y : Linear) → IsGoodValue x → IsGoodValue y → IsGood Q (f x y)) → IsGood Q (both t u f)
good_both t u f Q h k g = good_next t _ IsGoodValue Q h (λ x p. good_next u _ IsGoodValue Q k (λ y r. g x y p r))

sized_good : (x : Linear) → IsGoodValue x → IsGood IsGoodValue (sized x)
sized_good None h = tt
sized_good (Some a) h = of_two (IsGood IsGoodValue) (is_sized a) (done (Some a)) bits h tt

asked_good : (ts : Terms) (a : Lin) (strict : Bool) → AreNormal a.terms → IsGood Any (asked ts a strict)
asked_good [] a strict h = tt
asked_good (t ∷ ts) a strict h = (h, tt, tt)

below_good : (a : Lin) (strict : Bool) → AreNormal a.terms → IsGood Any (is_below a strict)
below_good a strict h = of_two (IsGood Any) (is_sized a) (asked a.terms a strict) bits (asked_good a.terms a strict h) tt

picked_good : (a : Lin) (strict : Bool) (x y : Linear) → AreNormal a.terms → IsGoodValue x → IsGoodValue y → IsGood IsGoodValue (next (is_below a strict) (λ t. done (cond t x y)))
picked_good a strict x y m h k = good_next (is_below a strict) _ Any IsGoodValue (below_good a strict m) (λ t e. of_two IsGoodValue t x y h k)

sum_good : (x y : Linear) → IsGoodValue x → IsGoodValue y → IsGood IsGoodValue (q.sum x y)
sum_good (Some a) (Some b) h k = sized_good (Some (plus a b)) (plus_normal a b h)
sum_good (Some a) None h k = tt
sum_good None (Some b) h k = tt
sum_good None None h k = tt

difference_good : (x y : Linear) → IsGoodValue x → IsGoodValue y → IsGood IsGoodValue (q.difference x y)
difference_good (Some a) (Some b) h k = sized_good (Some (minus a b)) (minus_normal a b h)
difference_good (Some a) None h k = tt
difference_good None y h k = tt

cut_good : (x y : Linear) → IsGoodValue x → IsGoodValue y → IsGood IsGoodValue (q.cut x y)
cut_good (Some a) (Some b) h k = good_next (is_below (minus b a) false) _ Any IsGoodValue (below_good (minus b a) false (minus_normal b a k)) (λ t e. of_two (IsGood IsGoodValue) t (sized (Some (minus a b))) (done q.zero) (sized_good (Some (minus a b)) (minus_normal a b h)) tt)
cut_good (Some a) None h k = tt
cut_good None (Some b) h k = tt
cut_good None None h k = tt

scale_good : (w : Rational) (x : Linear) → IsGoodValue x → IsGood IsGoodValue (q.scale w x)
scale_good w (Some a) h = sized_good (Some (scaled w a)) (scaled_normal w a h)
scale_good w None h = of_two IsGoodValue (is_zeroʳ w) q.zero None tt tt

finite_product_good : (ts us : Terms) (a b : Lin) → AreNormal a.terms → AreNormal b.terms → IsGood IsGoodValue (q.finite_product ts us a b)
finite_product_good [] us a b h k = sized_good (Some (scaled a.rest b)) (scaled_normal a.rest b k)
finite_product_good (t ∷ ts) [] a b h k = sized_good (Some (scaled b.rest a)) (scaled_normal b.rest a h)
finite_product_good (t ∷ ts) (u ∷ us) a b h k = tt

product_good : (x y : Linear) → IsGoodValue x → IsGoodValue y → IsGood IsGoodValue (q.product x y)
product_good (Some a) (Some b) h k = finite_product_good a.terms b.terms a b h k
product_good (Some a) None h k = picked_good a false q.zero None h tt tt
product_good None (Some b) h k = picked_good b false q.zero None k tt tt
product_good None None h k = tt

min_good : (x y : Linear) → IsGoodValue x → IsGoodValue y → IsGood IsGoodValue (q.min x y)
min_good (Some a) (Some b) h k = picked_good (minus a b) false (Some a) (Some b) (minus_normal a b h) h k
min_good (Some a) None h k = h
min_good None (Some b) h k = k
min_good None None h k = tt

max_good : (x y : Linear) → IsGoodValue x → IsGoodValue y → IsGood IsGoodValue (q.max x y)
max_good (Some a) (Some b) h k = picked_good (minus a b) false (Some b) (Some a) (minus_normal a b h) k h
max_good (Some a) None h k = tt
max_good None (Some b) h k = tt
max_good None None h k = tt

imply_good : (x y : Linear) → IsGoodValue x → IsGoodValue y → IsGood IsGoodValue (q.imply x y)
imply_good (Some a) (Some b) h k = picked_good (minus a b) false None (Some b) (minus_normal a b h) tt k
imply_good (Some a) None h k = tt
imply_good None (Some b) h k = k
imply_good None None h k = tt

co_imply_good : (x y : Linear) → IsGoodValue x → IsGoodValue y → IsGood IsGoodValue (q.co_imply x y)
co_imply_good (Some a) (Some b) h k = picked_good (minus b a) false q.zero (Some b) (minus_normal b a k) tt k
co_imply_good (Some a) None h k = tt
co_imply_good None (Some b) h k = tt
co_imply_good None None h k = tt

validate_good : (x : Linear) → IsGoodValue x → IsGoodValue (q.validate x)
validate_good (Some a) h = tt
validate_good None h = tt

co_validate_good : (x : Linear) → IsGoodValue x → IsGood IsGoodValue (q.co_validate x)
co_validate_good (Some a) h = picked_good a false q.zero None h tt tt
co_validate_good None h = tt

at_most_good : (x y : Linear) → IsGoodValue x → IsGoodValue y → IsGood Any (q.at_most x y)
at_most_good (Some a) (Some b) h k = below_good (minus a b) false (minus_normal a b h)
at_most_good (Some a) None h k = tt
at_most_good None (Some b) h k = tt
at_most_good None None h k = tt

less_good : (x y : Linear) → IsGoodValue x → IsGoodValue y → IsGood Any (q.less x y)
less_good (Some a) (Some b) h k = below_good (minus a b) true (minus_normal a b h)
less_good (Some a) None h k = tt
less_good None y h k = tt

equal_good : (x y : Linear) → IsGoodValue x → IsGoodValue y → IsGood Any (q.equal x y)
equal_good x y h k = good_next (q.at_most x y) _ Any Any (at_most_good x y h k) (λ t e. of_two (IsGood Any) t (q.at_most y x) (done false) (at_most_good y x k h) tt)

number_good : (v : Value) → IsGood IsGoodValue (sized (q.number v))
number_good (finite x) = sized_good (Some (constant x)) tt
number_good infinite = tt

mutual
  form_good : (f : Form) → IsGood IsGoodValue (evaluate f)
  form_good (Form.number v) = number_good v
  form_good (Form.variable x) = (is_zero-one, (tt, tt))
  form_good (Form.sum a b) = good_both (evaluate a) (evaluate b) q.sum IsGoodValue (form_good a) (form_good b) sum_good
  form_good (Form.difference a b) = good_both (evaluate a) (evaluate b) q.difference IsGoodValue (form_good a) (form_good b) difference_good
  form_good (Form.cut a b) = good_both (evaluate a) (evaluate b) q.cut IsGoodValue (form_good a) (form_good b) cut_good
  form_good (Form.scale w a) = good_next (evaluate a) (q.scale w) IsGoodValue IsGoodValue (form_good a) (scale_good w)
  form_good (Form.product a b span) = good_both (evaluate a) (evaluate b) q.product IsGoodValue (form_good a) (form_good b) product_good
  form_good (Form.min a b) = good_both (evaluate a) (evaluate b) q.min IsGoodValue (form_good a) (form_good b) min_good
  form_good (Form.max a b) = good_both (evaluate a) (evaluate b) q.max IsGoodValue (form_good a) (form_good b) max_good
  form_good (Form.imply a b) = good_both (evaluate a) (evaluate b) q.imply IsGoodValue (form_good a) (form_good b) imply_good
  form_good (Form.co_imply a b) = good_both (evaluate a) (evaluate b) q.co_imply IsGoodValue (form_good a) (form_good b) co_imply_good
  form_good (Form.validate a) = good_next (evaluate a) _ IsGoodValue IsGoodValue (form_good a) validate_good
  form_good (Form.co_validate a) = good_next (evaluate a) q.co_validate IsGoodValue IsGoodValue (form_good a) co_validate_good
  form_good (Form.embed g) = good_next (test g) _ Any IsGoodValue (cond_good g) (λ t e. of_two IsGoodValue t None q.zero tt tt)
  form_good (Form.iverson g) = good_next (test g) _ Any IsGoodValue (cond_good g) (λ t e. of_two IsGoodValue t q.one q.zero tt tt)
  form_good (Form.select g a b) = good_next (test g) _ Any IsGoodValue (cond_good g) (λ t e. of_two (IsGood IsGoodValue) t (evaluate a) (evaluate b) (form_good a) (form_good b))
  form_good (Form.bind up x name ty a) = tt

  cond_good : (g : Cond) → IsGood Any (test g)
  cond_good (Cond.constant b) = tt
  cond_good (Cond.flag x) = (tt, tt, tt)
  cond_good (Cond.not g) = good_next (test g) _ Any Any (cond_good g) (λ t e. tt)
  cond_good (Cond.and g h) = good_next (test g) _ Any Any (cond_good g) (λ t e. of_two (IsGood Any) t (test h) (done false) (cond_good h) tt)
  cond_good (Cond.or g h) = good_next (test g) _ Any Any (cond_good g) (λ t e. of_two (IsGood Any) t (done true) (test h) tt (cond_good h))
  cond_good (Cond.same g h) = good_next (test g) _ Any Any (cond_good g) (λ t e. good_next (test h) _ Any Any (cond_good h) (λ u d. tt))
  cond_good (Cond.le a b) = good_both (evaluate a) (evaluate b) q.at_most Any (form_good a) (form_good b) at_most_good
  cond_good (Cond.lt a b) = good_both (evaluate a) (evaluate b) q.less Any (form_good a) (form_good b) less_good
  cond_good (Cond.equal a b) = good_both (evaluate a) (evaluate b) q.equal Any (form_good a) (form_good b) equal_good
  cond_good (Cond.ite g h k) = good_next (test g) _ Any Any (cond_good g) (λ t e. of_two (IsGood Any) t (test h) (test k) (cond_good h) (cond_good k))

-- ---- The tree of a goal and its paths

good_once : {A : Type 0} (ps : List Taken) (t : Query A) (P : A → Type 0) → IsGood P t → IsGood P (once ps t)
good_once ps (done a) P h = h
good_once ps bits P h = tt
good_once ps (ask (Atom.row a strict) y n) P h = (h.0, good_once (onto ps (Atom.row a strict) true) y P h.1, good_once (onto ps (Atom.row a strict) false) n P h.2)
good_once ps (ask (Atom.truth x) y n) P h = go (known x ps) (good_once ps y P h.1) (good_once ps n P h.2) (good_once (onto ps (Atom.truth x) true) y P h.1) (good_once (onto ps (Atom.truth x) false) n P h.2)
  where
    go : (o : Option Bool) → IsGood P (once ps y) → IsGood P (once ps n) → IsGood P (once (onto ps (Atom.truth x) true) y) → IsGood P (once (onto ps (Atom.truth x) false) n) → IsGood P (unless_known o (once ps y) (once ps n) (ask (Atom.truth x) (once (onto ps (Atom.truth x) true) y) (once (onto ps (Atom.truth x) false) n)))
    go (Some true) a b c d = a
    go (Some false) a b c d = b
    go None a b c d = (tt, c, d)

abbrev AreGood : Ends → Type 0
AreGood e = IsGoodValue e.0 × IsGoodValue e.1

goal_good : (g : Goal) → IsGood AreGood (questions g)
goal_good g = good_once [] _ AreGood (good_next (evaluate g.stated) _ IsGoodValue AreGood (form_good g.stated) (λ x h. good_next (evaluate g.found) _ IsGoodValue AreGood (form_good g.found) (λ y k. (h, k))))

path_good : {A : Type 0} (t : Query A) (ps : List Taken) (P : A → Type 0) → IsGood P t → Path t ps → IsNormalPath ps
path_good t _ P h (Path.start _) = tt
path_good (ask q y n) _ P h (Path.yes _ _ _ ps p) = (h.0, path_good y ps P h.1 p)
path_good (ask q y n) _ P h (Path.no _ _ _ ps p) = (h.0, path_good n ps P h.2 p)

walk_good : {A : Type 0} (t : Query A) (ps : List Taken) (P : A → Type 0) → IsGood P t → Path t ps → IsGood P (walk t ps)
walk_good (done a) _ P h (Path.start _) = h
walk_good bits _ P h (Path.start _) = tt
walk_good (ask q y n) _ P h (Path.start _) = h
walk_good (ask q y n) _ P h (Path.yes _ _ _ ps p) = walk_good y ps P h.1 p
walk_good (ask q y n) _ P h (Path.no _ _ _ ps p) = walk_good n ps P h.2 p

normal_paths : (ps qs : List Taken) → IsNormalPath ps → IsNormalPath qs → IsNormalPath (ps ++ qs)
normal_paths [] qs h k = k
normal_paths (p ∷ ps) qs h k = (h.0, normal_paths ps qs h.1 k)

split_normal : (types : List Ty) (p : Taken) → IsSplit types p → IsNormalAtom p.atom
split_normal types p h = subst IsNormalAtom (sym h.atom) (minus_normal (variable h.var) (constant (whole h.bound)) (is_zero-one, (tt, tt)))

splits_normal : (types : List Ty) (ps : List Taken) → All (IsSplit types) ps → IsNormalPath ps
splits_normal types [] h = tt
splits_normal types (p ∷ ps) h = (split_normal types p (All-head (IsSplit types) p ps h), splits_normal types ps (All-tail (IsSplit types) p ps h))

pub answers_normal : (g : Goal) (ps : List Taken) → IsPath g ps → IsNormalPath ps
answers_normal g ps p = subst IsNormalPath (sym p.parts) (normal_paths p.asked p.splits (path_good (questions g) p.asked AreGood (goal_good g) p.is_asked) (splits_normal g.types p.splits p.are_splits))

end_good : (g : Goal) (ps : List Taken) → IsPath g ps → IsGood AreGood (end_at g ps)
end_good g ps p = subst (IsGood AreGood) (sym (end_same g ps p)) (walk_good (questions g) p.asked AreGood (goal_good g) p.is_asked)

-- ---- The claims

abbrev pub AllNormal : List Claim → Type 0
AllNormal [] = Unit {0}
AllNormal (k ∷ ks) = AreNormal k.left.terms × AllNormal ks

normal_append : (ks ls : List Claim) → AllNormal ks → AllNormal ls → AllNormal (ks ++ ls)
normal_append [] ls h m = m
normal_append (k ∷ ks) ls h m = (h.0, normal_append ks ls h.1 m)

answer_normal : (q : Atom) (held : Bool) → IsNormalAtom q → AllNormal (answer_claims q held)
answer_normal (Atom.truth x) held h = tt
answer_normal (Atom.row a strict) true h = (h, tt)
answer_normal (Atom.row a strict) false h = ((scaled_normal minus_oneʳ a h), tt)

path_normal : (ps : List Taken) → IsNormalPath ps → AllNormal (path_claims ps)
path_normal [] h = tt
path_normal (p ∷ ps) h = normal_append (answer_claims p.atom p.held) (path_claims ps) (answer_normal p.atom p.held h.0) (path_normal ps h.1)

below_normal : (x y : Linear) → IsGoodValue x → AllNormal (listed (below_claim x y))
below_normal (Some a) (Some b) h = ((minus_normal a b h), tt)
below_normal (Some a) None h = (tt, tt)
below_normal None y h = tt

denial_normal : (up : Bool) (t : Query Ends) → IsGood AreGood t → AllNormal (listed (denial_at up t))
denial_normal true (done e) h = below_normal e.0 e.1 h.0
denial_normal false (done e) h = below_normal e.1 e.0 h.1
denial_normal up bits h = tt
denial_normal up (ask q y n) h = tt

signs_normal : (types : Types) (ks : List Claim) (n : ℕ) → AllNormal (sign_claims types ks n)
signs_normal types ks zero = tt
signs_normal types ks (suc n) = normal_append (sign_claims types ks n) _ (signs_normal types ks n) (of_two AllNormal (is_unsigned_type (types n) && occurs_in_claims n ks) (claim (negated (variable n)) false ∷ []) [] ((scaled_normal minus_oneʳ (variable n) (is_zero-one, (tt, tt))), tt) tt)

pub all_normal : (g : Goal) (ps : List Taken) (denied : Bool) → IsPath g ps → AllNormal (claims_of g ps denied)
all_normal g ps denied p = normal_append before (sign_claims (types_in g.types) before (length g.types)) (normal_append (path_claims ps) (cond denied (listed (denial_at g.upper (end_at g ps))) []) (path_normal ps (answers_normal g ps p)) (of_two AllNormal denied (listed (denial_at g.upper (end_at g ps))) [] (denial_normal g.upper (end_at g ps) (end_good g ps p)) tt)) (signs_normal (types_in g.types) before (length g.types))
  where
    before : List Claim
    before = path_claims ps ++ cond denied (listed (denial_at g.upper (end_at g ps))) []

claims_nonzero : (ks : List Claim) → AllNormal ks → AllNonzero ks
claims_nonzero [] h = tt
claims_nonzero (k ∷ ks) h = (normal_nonzero k.left.terms h.0, claims_nonzero ks h.1)

pub all_nonzero : (g : Goal) (ps : List Taken) (denied : Bool) → IsPath g ps → AllNonzero (claims_of g ps denied)
all_nonzero g ps denied p = claims_nonzero (claims_of g ps denied) (all_normal g ps denied p)

-- ---- The values at an end

each_once : {A : Type 0} (ps : List Taken) (t : Query A) (P : A → Type 0) → EachResult P t → EachResult P (once ps t)
each_once ps (done a) P h = h
each_once ps bits P h = tt
each_once ps (ask (Atom.row a strict) y n) P h = (each_once (onto ps (Atom.row a strict) true) y P h.0, each_once (onto ps (Atom.row a strict) false) n P h.1)
each_once ps (ask (Atom.truth x) y n) P h = go (known x ps) (each_once ps y P h.0) (each_once ps n P h.1) (each_once (onto ps (Atom.truth x) true) y P h.0) (each_once (onto ps (Atom.truth x) false) n P h.1)
  where
    go : (o : Option Bool) → EachResult P (once ps y) → EachResult P (once ps n) → EachResult P (once (onto ps (Atom.truth x) true) y) → EachResult P (once (onto ps (Atom.truth x) false) n) → EachResult P (unless_known o (once ps y) (once ps n) (ask (Atom.truth x) (once (onto ps (Atom.truth x) true) y) (once (onto ps (Atom.truth x) false) n)))
    go (Some true) a b c d = a
    go (Some false) a b c d = b
    go None a b c d = (c, d)

each_walk : {A : Type 0} (t : Query A) (ps : List Taken) (P : A → Type 0) → EachResult P t → Path t ps → EachResult P (walk t ps)
each_walk (done a) _ P h (Path.start _) = h
each_walk bits _ P h (Path.start _) = tt
each_walk (ask q y n) _ P h (Path.start _) = h
each_walk (ask q y n) _ P h (Path.yes _ _ _ ps p) = each_walk y ps P h.0 p
each_walk (ask q y n) _ P h (Path.no _ _ _ ps p) = each_walk n ps P h.1 p

abbrev pub AreKept : Ends → Type 0
AreKept e = IsKeptValue e.0 × IsKeptValue e.1

pub ends_kept : (g : Goal) (ps : List Taken) → IsPath g ps → EachResult AreKept (end_at g ps)
ends_kept g ps p = subst (EachResult AreKept) (sym (end_same g ps p)) (each_walk (questions g) p.asked AreKept (each_once [] _ AreKept (each_next (evaluate g.stated) _ IsKeptValue AreKept (form_kept g.stated) (λ x h. each_next (evaluate g.found) _ IsKeptValue AreKept (form_kept g.found) (λ y k. (h, k))))) p.is_asked)
