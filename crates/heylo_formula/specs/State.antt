-- States: a value for each variable. A run has a list of values. A form is evaluated in an
-- environment, in which every number has a value, since a renamed binder has a number beyond every
-- list.
use Prim.Native.Nat.{zero, suc}
use Rattle.std.specs.Prelude.{◌≡◌, ℕ, Bool, true, false, ◌==◌, ◌&&◌, List, [], ◌∷◌, get_or}
use Rattle.std.specs.Prelude.{if◌then◌else◌}
use Rattle.heyvl_num.specs.Rational.{Rational, zeroʳ, leqʳ}
use Rattle.heylo_formula.specs.declared.types.Ty.{Ty}
use Rattle.heylo_formula.specs.declared.values.Val.{Val}
use Rattle.heylo_formula.specs.declared.values.Val.TheVariants.{Truth, Num}

-- The truth value of a value; false for a number.
abbrev pub truth_of : Val → Bool
truth_of (Truth b) = b
truth_of (Num x) = false

-- The number of a value; 0 for a truth value.
abbrev pub number_of : Val → Rational
number_of (Truth b) = zeroʳ
number_of (Num x) = x

-- The value is of the type: Int contains all integers, UInt those that are nonnegative, and UReal
-- all nonnegative fractions.
abbrev pub has : Ty → Val → Bool
has Ty.Bool (Truth b) = true
has Ty.Bool (Num x) = false
has Ty.Int (Truth b) = false
has Ty.Int (Num x) = x.den == 1
has Ty.UInt (Truth b) = false
has Ty.UInt (Num x) = (x.den == 1) && leqʳ zeroʳ x
has Ty.UReal (Truth b) = false
has Ty.UReal (Num x) = leqʳ zeroʳ x

-- The default value of a type: false or 0.
abbrev pub default : Ty → Val
default Ty.Bool = Truth false
default Ty.Int = Num zeroʳ
default Ty.UInt = Num zeroʳ
default Ty.UReal = Num zeroʳ

-- The value if it is of the type, otherwise the default value of the type. As a UInt, -1 becomes 0.
abbrev pub fit : Ty → Val → Val
fit ty v = if has ty v then v else default ty

-- An environment: a value for every number of a variable.
abbrev pub Env : Type 0
Env = ℕ → Val

-- `put x v s`: the environment `s` with the value `v` for the variable `x`.
abbrev pub put : ℕ → Val → Env → Env
put x v s y = if x == y then v else s y

-- The value of the variable `x` in a list of values; false if the list is too short.
abbrev pub get : ℕ → List Val → Val
get x s = get_or s x (Truth false)

-- The environment of a list of values, with false for each variable beyond the list.
abbrev pub environment : List Val → Env
environment s x = get x s

-- The first `n` values of an environment.
abbrev pub listed : ℕ → Env → List Val
listed zero s = []
listed (suc n) s = s 0 ∷ listed n (λ y. s (suc y))

-- The values are as many as the types, and each is of its type.
abbrev pub IsTyped : List Ty → List Val → Type 0
IsTyped [] s = s ≡ []
IsTyped (ty ∷ tys) [] = ⊥
IsTyped (ty ∷ tys) (v ∷ s) = (has ty v ≡ true) × IsTyped tys s
