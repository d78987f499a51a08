-- A path has at most as many comparisons as the two forms have nodes.
use Rattle.std.proofs.Common.{ℕ, ◌+◌, ◌<◌, ◌≤◌, List, [], ◌∷◌, length, arith, Bool, true, false, cond}
use Rattle.std.specs.Prelude.{max, Option, Some, None}
use Rattle.heyvl_num.specs.Rational.{Rational}
use Rattle.heylo_formula.specs.Formula.{Form, Cond}
use Rattle.heylo_formula.specs.Goals.{Goal}
use Rattle.heylo_formula.specs.Operators.{agree}
use Rattle.heylo_formula.specs.Sizes.{nodes, nodes_in}
use Rattle.linear_values.specs.Lin.{Lin, Terms, plus, minus, scaled, is_sized, Linear}
use Rattle.linear_form.specs.Query.{Query, Atom, Taken, next, known, unless_known, onto, once}
use Rattle.linear_form.specs.Query.Query.{done, bits, ask}
use Rattle.linear_form.specs.Questions as q
use Rattle.linear_form.specs.Questions.{Ends, sized, asked, is_below, evaluate, test, both, questions}
use Rattle.linear_form.specs.Paths.{Path}
use Rattle.linear_form.specs.PathLaws.{PathsAreShort}

-- `longest t`: the largest number of comparisons on a path of the tree `t`.
abbrev longest : {A : Type 0} → Query A → ℕ
longest (done a) = 0
longest bits = 0
longest (ask q y n) = 1 + max (longest y) (longest n)

longest_next : {A B : Type 0} (t : Query A) (f : A → Query B) (m : ℕ) → ((a : A) → longest (f a) ≤ m) → longest (next t f) ≤ longest t + m
longest_next (done a) f m h = let k = h a in omega (arith, k)
longest_next bits f m h = omega arith
longest_next (ask q y n) f m h = let i = longest_next y f m h in let j = longest_next n f m h in omega (arith, i, j)

longest_both : {B : Type 0} (t u : Query Linear) (f : Linear → Linear → Query B) (m : ℕ) → ((x y : Linear) → longest (f x y) ≤ m) → longest (both t u f) ≤ longest t + (longest u + m)
longest_both t u f m h = longest_next t _ (longest u + m) (λ x. longest_next u _ m (λ y. h x y))

longest_two : {A : Type 0} (b : Bool) (t u : Query A) (m : ℕ) → longest t ≤ m → longest u ≤ m → longest (cond b t u) ≤ m
longest_two true t u m h k = h
longest_two false t u m h k = k

none_asked : 0 ≤ 1
none_asked = omega arith

-- ---- An operator asks at most one comparison, equality at most two

sized_short : (x : Linear) → longest (sized x) ≤ 0
sized_short None = omega arith
sized_short (Some a) = longest_two (is_sized a) (done (Some a)) bits 0 (omega arith) (omega arith)

asked_short : (ts : Terms) (a : Lin) (strict : Bool) → longest (asked ts a strict) ≤ 1
asked_short [] a strict = omega arith
asked_short (t ∷ ts) a strict = omega arith

below_short : (a : Lin) (strict : Bool) → longest (is_below a strict) ≤ 1
below_short a strict = longest_two (is_sized a) (asked a.terms a strict) bits 1 (asked_short a.terms a strict) (omega arith)

then_short : {A : Type 0} (a : Lin) (strict : Bool) (f : Bool → Query A) → ((t : Bool) → longest (f t) ≤ 0) → longest (next (is_below a strict) f) ≤ 1
then_short a strict f h = let i = longest_next (is_below a strict) f 0 h in let j = below_short a strict in omega (arith, i, j)

picked_short : (a : Lin) (strict : Bool) (x y : Linear) → longest (next (is_below a strict) (λ t. done (cond t x y))) ≤ 1
picked_short a strict x y = then_short a strict _ (λ t. omega arith)

value_short : (x : Linear) → longest (sized x) ≤ 1
value_short x = let k = sized_short x in omega (arith, k)

sum_short : (x y : Linear) → longest (q.sum x y) ≤ 1
sum_short (Some a) (Some b) = value_short (Some (plus a b))
sum_short (Some a) None = none_asked
sum_short None (Some b) = none_asked
sum_short None None = none_asked

difference_short : (x y : Linear) → longest (q.difference x y) ≤ 1
difference_short (Some a) (Some b) = value_short (Some (minus a b))
difference_short (Some a) None = none_asked
difference_short None y = none_asked

cut_short : (x y : Linear) → longest (q.cut x y) ≤ 1
cut_short (Some a) (Some b) = then_short (minus b a) false _ (λ t. longest_two t (sized (Some (minus a b))) (done q.zero) 0 (sized_short (Some (minus a b))) (omega arith))
cut_short (Some a) None = none_asked
cut_short None (Some b) = none_asked
cut_short None None = none_asked

scale_short : (w : Rational) (x : Linear) → longest (q.scale w x) ≤ 1
scale_short w (Some a) = value_short (Some (scaled w a))
scale_short w None = none_asked

finite_product_short : (ts us : Terms) (a b : Lin) → longest (q.finite_product ts us a b) ≤ 1
finite_product_short [] us a b = value_short (Some (scaled a.rest b))
finite_product_short (t ∷ ts) [] a b = value_short (Some (scaled b.rest a))
finite_product_short (t ∷ ts) (u ∷ us) a b = none_asked

product_short : (x y : Linear) → longest (q.product x y) ≤ 1
product_short (Some a) (Some b) = finite_product_short a.terms b.terms a b
product_short (Some a) None = picked_short a false q.zero None
product_short None (Some b) = picked_short b false q.zero None
product_short None None = none_asked

min_short : (x y : Linear) → longest (q.min x y) ≤ 1
min_short (Some a) (Some b) = picked_short (minus a b) false (Some a) (Some b)
min_short (Some a) None = none_asked
min_short None (Some b) = none_asked
min_short None None = none_asked

max_short : (x y : Linear) → longest (q.max x y) ≤ 1
max_short (Some a) (Some b) = picked_short (minus a b) false (Some b) (Some a)
max_short (Some a) None = none_asked
max_short None (Some b) = none_asked
max_short None None = none_asked

imply_short : (x y : Linear) → longest (q.imply x y) ≤ 1
imply_short (Some a) (Some b) = picked_short (minus a b) false None (Some b)
imply_short (Some a) None = none_asked
imply_short None (Some b) = none_asked
imply_short None None = none_asked

co_imply_short : (x y : Linear) → longest (q.co_imply x y) ≤ 1
co_imply_short (Some a) (Some b) = picked_short (minus b a) false q.zero (Some b)
co_imply_short (Some a) None = none_asked
co_imply_short None (Some b) = none_asked
co_imply_short None None = none_asked

co_validate_short : (x : Linear) → longest (q.co_validate x) ≤ 1
co_validate_short (Some a) = picked_short a false q.zero None
co_validate_short None = none_asked

at_most_once : (x y : Linear) → longest (q.at_most x y) ≤ 1
at_most_once (Some a) (Some b) = below_short (minus a b) false
at_most_once (Some a) None = omega arith
at_most_once None (Some b) = omega arith
at_most_once None None = omega arith

at_most_short : (x y : Linear) → longest (q.at_most x y) ≤ 2
at_most_short x y = let k = at_most_once x y in omega (arith, k)

less_short : (x y : Linear) → longest (q.less x y) ≤ 2
less_short (Some a) (Some b) = let k = below_short (minus a b) true in omega (arith, k)
less_short (Some a) None = omega arith
less_short None y = omega arith

equal_short : (x y : Linear) → longest (q.equal x y) ≤ 2
equal_short x y = let i = longest_next (q.at_most x y) (λ t. cond t (q.at_most y x) (done false)) 1 (λ t. longest_two t (q.at_most y x) (done false) 1 (at_most_once y x) (omega arith)) in let j = at_most_once x y in omega (arith, i, j)

-- ---- A form asks fewer comparisons than it has nodes, a condition at most as many

two_parts : {B : Type 0} (t u : Query Linear) (f : Linear → Linear → Query B) (m n : ℕ) → longest t < m → longest u < n → ((x y : Linear) → longest (f x y) ≤ 1) → longest (both t u f) < 1 + (m + n)
two_parts t u f m n h k g = let i = longest_both t u f 1 g in omega (arith, h, k, i)

two_sides : {B : Type 0} (t u : Query Linear) (f : Linear → Linear → Query B) (m n : ℕ) → longest t < m → longest u < n → ((x y : Linear) → longest (f x y) ≤ 2) → longest (both t u f) ≤ 1 + (m + n)
two_sides t u f m n h k g = let i = longest_both t u f 2 g in omega (arith, h, k, i)

one_part : {A B : Type 0} (t : Query A) (f : A → Query B) (m : ℕ) → longest t < m → ((x : A) → longest (f x) ≤ 1) → longest (next t f) < 1 + m
one_part t f m h g = let i = longest_next t f 1 g in omega (arith, h, i)

of_test : {A B : Type 0} (t : Query A) (f : A → Query B) (m : ℕ) → longest t ≤ m → ((x : A) → longest (f x) ≤ 0) → longest (next t f) < 1 + m
of_test t f m h g = let i = longest_next t f 0 g in omega (arith, h, i)

then_part : {A B : Type 0} (t : Query A) (f : A → Query B) (m n : ℕ) → longest t ≤ m → ((x : A) → longest (f x) ≤ n) → longest (next t f) < 1 + (m + n)
then_part t f m n h g = let i = longest_next t f n g in omega (arith, h, i)

choice : {A : Type 0} (b : Bool) (t u : Query A) (m n : ℕ) → longest t ≤ m → longest u ≤ n → longest (cond b t u) ≤ m + n
choice b t u m n h k = longest_two b t u (m + n) (omega (arith, h)) (omega (arith, k))

none_after : (n : ℕ) → 0 ≤ n
none_after n = omega arith

no_more : (m n : ℕ) → m < n → m ≤ n
no_more m n h = omega (arith, h)

mutual
  form_short : (f : Form) → longest (evaluate f) < nodes f
  form_short (Form.number v) = let k = sized_short (q.number v) in omega (arith, k)
  form_short (Form.variable x) = omega arith
  form_short (Form.sum a b) = two_parts (evaluate a) (evaluate b) q.sum (nodes a) (nodes b) (form_short a) (form_short b) sum_short
  form_short (Form.difference a b) = two_parts (evaluate a) (evaluate b) q.difference (nodes a) (nodes b) (form_short a) (form_short b) difference_short
  form_short (Form.cut a b) = two_parts (evaluate a) (evaluate b) q.cut (nodes a) (nodes b) (form_short a) (form_short b) cut_short
  form_short (Form.product a b span) = two_parts (evaluate a) (evaluate b) q.product (nodes a) (nodes b) (form_short a) (form_short b) product_short
  form_short (Form.min a b) = two_parts (evaluate a) (evaluate b) q.min (nodes a) (nodes b) (form_short a) (form_short b) min_short
  form_short (Form.max a b) = two_parts (evaluate a) (evaluate b) q.max (nodes a) (nodes b) (form_short a) (form_short b) max_short
  form_short (Form.imply a b) = two_parts (evaluate a) (evaluate b) q.imply (nodes a) (nodes b) (form_short a) (form_short b) imply_short
  form_short (Form.co_imply a b) = two_parts (evaluate a) (evaluate b) q.co_imply (nodes a) (nodes b) (form_short a) (form_short b) co_imply_short
  form_short (Form.scale w a) = one_part (evaluate a) (q.scale w) (nodes a) (form_short a) (scale_short w)
  form_short (Form.validate a) = one_part (evaluate a) _ (nodes a) (form_short a) (λ x. none_asked)
  form_short (Form.co_validate a) = one_part (evaluate a) q.co_validate (nodes a) (form_short a) co_validate_short
  form_short (Form.embed g) = of_test (test g) _ (nodes_in g) (cond_short g) (λ t. none_after 0)
  form_short (Form.iverson g) = of_test (test g) _ (nodes_in g) (cond_short g) (λ t. none_after 0)
  form_short (Form.select g a b) = then_part (test g) _ (nodes_in g) (nodes a + nodes b) (cond_short g) (λ t. choice t (evaluate a) (evaluate b) (nodes a) (nodes b) (no_more _ _ (form_short a)) (no_more _ _ (form_short b)))
  form_short (Form.bind up x name ty a) = omega arith

  cond_short : (g : Cond) → longest (test g) ≤ nodes_in g
  cond_short (Cond.constant b) = none_asked
  cond_short (Cond.flag x) = omega arith
  cond_short (Cond.not g) = no_more _ _ (of_test (test g) _ (nodes_in g) (cond_short g) (λ t. none_after 0))
  cond_short (Cond.and g h) = no_more _ _ (then_part (test g) _ (nodes_in g) (nodes_in h) (cond_short g) (λ t. longest_two t (test h) (done false) (nodes_in h) (cond_short h) (none_after (nodes_in h))))
  cond_short (Cond.or g h) = no_more _ _ (then_part (test g) _ (nodes_in g) (nodes_in h) (cond_short g) (λ t. longest_two t (done true) (test h) (nodes_in h) (none_after (nodes_in h)) (cond_short h)))
  cond_short (Cond.same g h) = let i = longest_next (test g) (λ t. next (test h) (λ u. done (agree t u))) (longest (test h) + 0) (λ t. longest_next (test h) (λ u. done (agree t u)) 0 (λ u. omega arith)) in let j = cond_short g in let k = cond_short h in omega (arith, i, j, k)
  cond_short (Cond.le a b) = two_sides (evaluate a) (evaluate b) q.at_most (nodes a) (nodes b) (form_short a) (form_short b) at_most_short
  cond_short (Cond.lt a b) = two_sides (evaluate a) (evaluate b) q.less (nodes a) (nodes b) (form_short a) (form_short b) less_short
  cond_short (Cond.equal a b) = two_sides (evaluate a) (evaluate b) q.equal (nodes a) (nodes b) (form_short a) (form_short b) equal_short
  cond_short (Cond.ite g h k) = no_more _ _ (then_part (test g) _ (nodes_in g) (nodes_in h + nodes_in k) (cond_short g) (λ t. choice t (test h) (test k) (nodes_in h) (nodes_in k) (cond_short h) (cond_short k)))

-- ---- The tree of a goal and its paths

once_short : {A : Type 0} (ps : List Taken) (t : Query A) → longest (once ps t) ≤ longest t
once_short ps (done a) = omega arith
once_short ps bits = omega arith
once_short ps (ask (Atom.row a strict) y n) = let i = once_short (onto ps (Atom.row a strict) true) y in let j = once_short (onto ps (Atom.row a strict) false) n in omega (arith, i, j)
once_short ps (ask (Atom.truth x) y n) = go (known x ps) (once_short ps y) (once_short ps n) (once_short (onto ps (Atom.truth x) true) y) (once_short (onto ps (Atom.truth x) false) n)
  where
    go : (o : Option Bool) → longest (once ps y) ≤ longest y → longest (once ps n) ≤ longest n → longest (once (onto ps (Atom.truth x) true) y) ≤ longest y → longest (once (onto ps (Atom.truth x) false) n) ≤ longest n → longest (unless_known o (once ps y) (once ps n) (ask (Atom.truth x) (once (onto ps (Atom.truth x) true) y) (once (onto ps (Atom.truth x) false) n))) ≤ 1 + max (longest y) (longest n)
    go (Some true) h i j k = omega (arith, h)
    go (Some false) h i j k = omega (arith, i)
    go None h i j k = omega (arith, j, k)

goal_short : (g : Goal) → longest (questions g) ≤ nodes g.stated + nodes g.found
goal_short g = let h = longest_next {B = Ends} (evaluate g.stated) (λ x. next (evaluate g.found) (λ y. done (x, y))) (longest (evaluate g.found) + 0) (λ x. longest_next {B = Ends} (evaluate g.found) (λ y. done (x, y)) 0 (λ y. omega arith)) in let i = once_short {A = Ends} [] (next (evaluate g.stated) (λ x. next (evaluate g.found) (λ y. done (x, y)))) in let j = form_short g.stated in let k = form_short g.found in omega (arith, h, i, j, k)

path_short : {A : Type 0} (t : Query A) (ps : List Taken) → Path t ps → length ps ≤ longest t
path_short t _ (Path.start _) = omega arith
path_short (ask q y n) _ (Path.yes _ _ _ ps p) = let i = path_short y ps p in omega (arith, i)
path_short (ask q y n) _ (Path.no _ _ _ ps p) = let i = path_short n ps p in omega (arith, i)

pub short_paths : PathsAreShort
short_paths g ps p = let i = path_short (questions g) ps p in let j = goal_short g in omega (arith, i, j)
