-- The comparisons of a form, of a condition and of a goal: which one is needed next, after which
-- answers. Source: this project's own; the operators are those of HeyLo (Schroeer, Batz, Kaminski,
-- Katoen, Matheja, OOPSLA 2023).
--
-- The maximum of `x` and 3 asks `x - 3 <= 0`; its value is 3 if this holds, and `x` otherwise.
use Rattle.std.specs.Prelude.{[], ◌∷◌, Bool, true, false, not, Some, None, if◌then◌else◌}
use Rattle.heyvl_num.specs.Rational.{Rational, zeroʳ, oneʳ}
use Rattle.heyvl_num.specs.Value.{Value, is_zeroʳ}
use Rattle.heyvl_num.specs.Value.Value.{finite, infinite}
use Rattle.heylo_formula.specs.Formula.{Form, Cond}
use Rattle.heylo_formula.specs.Goals.{Goal}
use Rattle.heylo_formula.specs.Operators.{agree}
use Rattle.heylo_formula.specs.State.{Env}
use Rattle.linear_values.specs.Lin.{Lin, Terms, at, constant, variable, plus, minus, scaled}
use Rattle.linear_values.specs.Lin.{is_sized, Linear}
use Rattle.linear_form.specs.Query.{Query, Atom, next, once}
use Rattle.linear_rows.specs.Numbers.{is_negative}
use Rattle.linear_form.specs.Query.Query.{done, bits, ask}

-- `value_in l s`: the value of `l`, a linear value or infinity (`None`), in the state `s`.
abbrev pub value_in : Linear → Env → Value
value_in (Some a) s = finite (at a s)
value_in None s = infinite

-- The linear value 0.
abbrev pub zero : Linear
zero = Some (constant zeroʳ)

-- The linear value 1.
abbrev pub one : Linear
one = Some (constant oneʳ)

-- `sized l`: the value `l`, or an overflow if one of its numbers has more than 62 bits.
abbrev pub sized : Linear → Query Linear
sized None = done None
sized (Some a) = if is_sized a then done (Some a) else bits

-- `asked ts a strict`: is `a`, whose terms are `ts`, at most 0 or, if `strict`, below 0? Without
-- terms the answer is known.
abbrev pub asked : Terms → Lin → Bool → Query Bool
asked [] a strict = done (is_negative a.rest strict)
asked (t ∷ ts) a strict = ask (Atom.row a strict) (done true) (done false)

-- `is_below a strict`: is `a` at most 0 or, if `strict`, below 0? It is an overflow if a number of
-- `a` has more than 62 bits.
abbrev pub is_below : Lin → Bool → Query Bool
is_below a strict = if is_sized a then asked a.terms a strict else bits

-- ---- The operators, on linear values and infinity

-- `number v`: the value `v` as a linear value without terms, or infinity.
abbrev pub number : Value → Linear
number (finite x) = Some (constant x)
number infinite = None

-- `sum x y`: infinity if `x` or `y` is infinity; an overflow if a number of the sum has more than
-- 62 bits.
abbrev pub sum : Linear → Linear → Query Linear
sum (Some a) (Some b) = sized (Some (plus a b))
sum (Some a) None = done None
sum None (Some b) = done None
sum None None = done None

-- `difference x y`: `x - y`. In typed goals both are finite.
abbrev pub difference : Linear → Linear → Query Linear
difference (Some a) (Some b) = sized (Some (minus a b))
difference (Some a) None = done zero
difference None b = done None

-- `cut x y`: is `y` at most `x`? Then `x - y`, otherwise 0. In typed goals both are finite.
abbrev pub cut : Linear → Linear → Query Linear
cut (Some a) (Some b) = next (is_below (minus b a) false) (λ t. if t then sized (Some (minus a b))
    else done zero)
cut (Some a) None = done zero
cut None (Some b) = done None
cut None None = done zero

-- `scale w x`: `w` times `x`; 0 times infinity is 0.
abbrev pub scale : Rational → Linear → Query Linear
scale w (Some a) = sized (Some (scaled w a))
scale w None = done (if is_zeroʳ w then zero else None)

-- `finite_product ts us a b`: the product of `a` and `b`, whose terms are `ts` and `us`. One of
-- them is constant, unless the product is nonlinear; then the result is `bits`.
abbrev pub finite_product : Terms → Terms → Lin → Lin → Query Linear
finite_product [] us a b = sized (Some (scaled a.rest b))
finite_product (t ∷ ts) [] a b = sized (Some (scaled b.rest a))
finite_product (t ∷ ts) (u ∷ us) a b = bits

-- `infinite_product a`: infinity times `a`: is `a` at most 0? Then 0, otherwise infinity.
abbrev pub infinite_product : Lin → Query Linear
infinite_product a = next (is_below a false) (λ t. done (if t then zero else None))

-- `product x y`: the product of two finite values, of a finite value and infinity, or of infinity
-- and infinity, which is infinity.
abbrev pub product : Linear → Linear → Query Linear
product (Some a) (Some b) = finite_product a.terms b.terms a b
product (Some a) None = infinite_product a
product None (Some b) = infinite_product b
product None None = done None

-- `min x y`: is `x` at most `y`? Then `x`, otherwise `y`.
abbrev pub min : Linear → Linear → Query Linear
min (Some a) (Some b) = next (is_below (minus a b) false) (λ t. done (if t then Some a else Some b))
min (Some a) None = done (Some a)
min None (Some b) = done (Some b)
min None None = done None

-- `max x y`: is `x` at most `y`? Then `y`, otherwise `x`.
abbrev pub max : Linear → Linear → Query Linear
max (Some a) (Some b) = next (is_below (minus a b) false) (λ t. done (if t then Some b else Some a))
max (Some a) None = done None
max None (Some b) = done None
max None None = done None

-- `imply x y`: is `x` at most `y`? Then infinity, otherwise `y`.
abbrev pub imply : Linear → Linear → Query Linear
imply (Some a) (Some b) = next (is_below (minus a b) false) (λ t. done (if t then None else Some b))
imply (Some a) None = done None
imply None (Some b) = done (Some b)
imply None None = done None

-- `co_imply x y`: is `y` at most `x`? Then 0, otherwise `y`.
abbrev pub co_imply : Linear → Linear → Query Linear
co_imply (Some a) (Some b) =
    next (is_below (minus b a) false) (λ t. done (if t then zero else Some b))
co_imply (Some a) None = done None
co_imply None (Some b) = done zero
co_imply None None = done zero

-- `validate x`: infinity if `x` is infinity, otherwise 0.
abbrev pub validate : Linear → Linear
validate (Some a) = zero
validate None = None

-- `co_validate x`: is `x` at most 0? Then 0, otherwise infinity.
abbrev pub co_validate : Linear → Query Linear
co_validate (Some a) = next (is_below a false) (λ t. done (if t then zero else None))
co_validate None = done None

-- `at_most x y`: is `x` at most `y`? In typed goals both are finite.
abbrev pub at_most : Linear → Linear → Query Bool
at_most (Some a) (Some b) = is_below (minus a b) false
at_most (Some a) None = done true
at_most None (Some b) = done false
at_most None None = done true

-- `less x y`: is `x` below `y`?
abbrev pub less : Linear → Linear → Query Bool
less (Some a) (Some b) = is_below (minus a b) true
less (Some a) None = done true
less None b = done false

-- `equal x y`: is `x` at most `y`, and then `y` at most `x`?
abbrev pub equal : Linear → Linear → Query Bool
equal a b = next (at_most a b) (λ t. if t then at_most b a else done false)

-- ---- Forms and conditions, from left to right

-- `with q f`: the tree `q` for a value `x`, followed by `f x`.
abbrev pub with : {A : Type 0} → Query Linear → (Linear → Query A) → Query A
with q f = next q f

-- `both q r f`: the tree `q` for a value `x`, then `r` for a value `y`, followed by `f x y`.
abbrev pub both : {A : Type 0} → Query Linear → Query Linear → (Linear → Linear → Query A) → Query A
both q r f = next q (λ x. next r (λ y. f x y))

-- `evaluate f`: the comparisons of the form `f`, and its value after each answer. The forms of a
-- goal contain no binder, so a binder has no comparisons.
abbrev mutual
  pub evaluate : Form → Query Linear
  evaluate (Form.number v) = sized (number v)
  evaluate (Form.variable x) = done (Some (variable x))
  evaluate (Form.sum a b) = both (evaluate a) (evaluate b) sum
  evaluate (Form.difference a b) = both (evaluate a) (evaluate b) difference
  evaluate (Form.cut a b) = both (evaluate a) (evaluate b) cut
  evaluate (Form.scale w a) = with (evaluate a) (scale w)
  evaluate (Form.product a b span) = both (evaluate a) (evaluate b) product
  evaluate (Form.min a b) = both (evaluate a) (evaluate b) min
  evaluate (Form.max a b) = both (evaluate a) (evaluate b) max
  evaluate (Form.imply a b) = both (evaluate a) (evaluate b) imply
  evaluate (Form.co_imply a b) = both (evaluate a) (evaluate b) co_imply
  evaluate (Form.validate a) = with (evaluate a) (λ x. done (validate x))
  evaluate (Form.co_validate a) = with (evaluate a) co_validate
  evaluate (Form.embed g) = next (test g) (λ t. done (if t then None else zero))
  evaluate (Form.iverson g) = next (test g) (λ t. done (if t then one else zero))
  evaluate (Form.select g a b) = next (test g) (λ t. if t then evaluate a else evaluate b)
  evaluate (Form.bind up x name ty a) = bits

  -- `test g`: the comparisons of the condition `g`, and its truth after each answer.
  pub test : Cond → Query Bool
  test (Cond.constant b) = done b
  test (Cond.flag x) = ask (Atom.truth x) (done true) (done false)
  test (Cond.not g) = next (test g) (λ t. done (not t))
  test (Cond.and g h) = next (test g) (λ t. if t then test h else done false)
  test (Cond.or g h) = next (test g) (λ t. if t then done true else test h)
  test (Cond.same g h) = next (test g) (λ t. next (test h) (λ u. done (agree t u)))
  test (Cond.le a b) = both (evaluate a) (evaluate b) at_most
  test (Cond.lt a b) = both (evaluate a) (evaluate b) less
  test (Cond.equal a b) = both (evaluate a) (evaluate b) equal
  test (Cond.ite g h k) = next (test g) (λ t. if t then test h else test k)

-- The values of the stated bound and of the computed form.
abbrev pub Ends : Type 0
Ends = Linear × Linear

-- `all_questions g`: the comparisons of the stated bound of the goal `g`, followed by those of the
-- computed form. A Boolean may be asked twice.
abbrev pub all_questions : Goal → Query Ends
all_questions g = both (evaluate g.stated) (evaluate g.found) (λ x y. done (x, y))

-- `questions g`: the comparisons of the goal `g`, in which each Boolean is asked at most once.
abbrev pub questions : Goal → Query Ends
questions g = once [] (all_questions g)
