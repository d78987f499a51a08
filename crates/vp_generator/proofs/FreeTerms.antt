-- A term of the right type that is substituted for a free variable of a well-typed form counts with
-- all its nodes.
use Rattle.std.proofs.Common.{◌≡◌, ℕ, ◌+◌, ◌≤◌, refl, sym, ap, ◌∙◌, subst, arith, Bool, true, false, cond, ◌==◌, ◌||◌}
use Rattle.std.specs.Prelude.{Option, Some, None}
use Rattle.heylo_formula.specs.Formula.{Form, Cond, Term}
use Rattle.heylo_formula.specs.Sizes.{nodes, nodes_in, nodes_in_term}
use Rattle.heylo_formula.specs.Substitution.{as_form, as_cond, nodes_put, nodes_put_in}
use Rattle.heylo_formula.specs.Substitution as Replaced
use Rattle.heylo_formula.specs.Typing.{NumberType, Types, number_type, is_bool, joined, is_finite_type, is_unsigned, only_if, difference_type, cut_type, scale_type, retyped, type_of, is_well_typed, TermFits}
use Rattle.heylo_formula.specs.Variables.{is_free, is_free_in}
use Rattle.heylo_formula.specs.declared.types.Ty.{Ty}
use Rattle.heylo_formula.proofs.exported.Plain.{and_both}
use Rattle.heylo_formula.proofs.exported.Substitutions.{count_subst}
use Rattle.vp_generator.specs.internal.FittingActs.{TermIsFit}

-- ---- The parts of a form with a type

abbrev has_type : Option NumberType → Bool
has_type (Some t) = true
has_type None = false

joined_parts : (t u : Option NumberType) → has_type (joined t u) ≡ true → (has_type t ≡ true) × (has_type u ≡ true)
joined_parts (Some t) (Some u) h = (refl, refl)
joined_parts (Some t) None h = absurd (cc)
joined_parts None u h = absurd (cc)

difference_part : (t : Option NumberType) → has_type (difference_type t) ≡ true → has_type t ≡ true
difference_part (Some t) h = refl
difference_part None h = absurd (cc)

cut_part : (t : Option NumberType) → has_type (cut_type t) ≡ true → has_type t ≡ true
cut_part (Some t) h = refl
cut_part None h = absurd (cc)

scale_part : (t : Option NumberType) → has_type (scale_type t) ≡ true → has_type t ≡ true
scale_part (Some t) h = refl
scale_part None h = absurd (cc)

only_parts : (b : Bool) (t : Option NumberType) → has_type (only_if b t) ≡ true → (b ≡ true) × (has_type t ≡ true)
only_parts true t h = (refl, h)
only_parts false t h = absurd (cc)

unsigned_type : (t : Option NumberType) → is_unsigned t ≡ true → has_type t ≡ true
unsigned_type (Some t) h = refl
unsigned_type None h = absurd (cc)

finite_type : (t : Option NumberType) → is_finite_type t ≡ true → has_type t ≡ true
finite_type (Some t) h = refl
finite_type None h = absurd (cc)

number_kind : (ty : Ty) → has_type (number_type ty) ≡ true → is_bool ty ≡ false
number_kind Ty.Bool h = absurd (cc)
number_kind Ty.Int h = refl
number_kind Ty.UInt h = refl
number_kind Ty.UReal h = refl

-- ---- Counts

-- A term of `size` nodes counts with all of them, as a form or as a condition, by the type of its
-- variable.
record Counts (ty : Ty) (size form cond : ℕ) : Type 0 where
  pub flag : is_bool ty ≡ true → size ≤ cond
  pub number : is_bool ty ≡ false → size ≤ form

counts : (types : Types) (ty : Ty) (t : Term) → TermFits types ty t → Counts ty (nodes_in_term t) (nodes (as_form t)) (nodes_in (as_cond t))
counts types ty (Term.truth g) h = record { flag = λ e. omega arith; number = λ e. let k : true ≡ false = subst (λ u. is_bool u ≡ false) h.0 e in absurd (cc) }
counts types ty (Term.number f) h = record { flag = λ e. let k : true ≡ false = sym e ∙ h.0 in absurd (cc); number = λ e. omega arith }

at_variable : (x y m one size : ℕ) (types : Types) → (x == y) ≡ true → ((types x ≡ types y) → size ≤ m) → size ≤ cond (x == y) m one
at_variable x y m one size types i g = let p : x ≡ y = grind arith in subst (λ b. size ≤ cond b m one) (sym i) (g (ap types p))

more : (size a : ℕ) → size ≤ a → size ≤ 1 + a
more size a h = omega (arith, h)

two : (p q : Bool) (size a b : ℕ) → (p ≡ true → size ≤ a) → (q ≡ true → size ≤ b) → (p || q) ≡ true → size ≤ 1 + (a + b)
two true q size a b f g h = let e = f refl in omega (arith, e)
two false q size a b f g h = let e = g h in omega (arith, e)

three : (p q r : Bool) (size a b d : ℕ) → (p ≡ true → size ≤ a) → (q ≡ true → size ≤ b) → (r ≡ true → size ≤ d) → (p || (q || r)) ≡ true → size ≤ 1 + (a + (b + d))
three true q r size a b d f g h i = let e = f refl in omega (arith, e)
three false true r size a b d f g h i = let e = g refl in omega (arith, e)
three false false r size a b d f g h i = let e = h i in omega (arith, e)

under : (b free : Bool) (size n a : ℕ) → cond b false free ≡ true → (b ≡ false → free ≡ true → size ≤ a) → size ≤ 1 + cond b n a
under true free size n a h g = absurd (cc)
under false free size n a h g = let e = g refl h in omega (arith, e)

other : (x y : ℕ) → (x == y) ≡ false → (y == x) ≡ false
other x y h = go (y == x) refl
  where
    go : (b : Bool) → (y == x) ≡ b → b ≡ false
    go true q = let p : x ≡ y = grind arith in let k : (x == x) ≡ false = subst (λ z. (x == z) ≡ false) (sym p) h in absurd (grind arith)
    go false q = refl

retyped_counts : (x y : ℕ) (ty : Ty) (types : Types) (size m k : ℕ) → (x == y) ≡ false → Counts (types x) size m k → Counts (retyped y ty types x) size m k
retyped_counts x y ty types size m k q w = subst (λ t. Counts t size m k) (sym (ap (λ b. cond b ty (types x)) (other x y q))) w

mutual
  weighs : (f : Form) (types : Types) (x m k size : ℕ) → Counts (types x) size m k → has_type (type_of types f) ≡ true → is_free x f ≡ true → size ≤ nodes_put x m k f
  weighs (Form.number v) types x m k size w h i = absurd (cc)
  weighs (Form.variable y) types x m k size w h i = at_variable x y m 1 size types i (λ e. w.number (subst (λ t. is_bool t ≡ false) (sym e) (number_kind (types y) h)))
  weighs (Form.sum a b) types x m k size w h i = let p = joined_parts _ _ h in two (is_free x a) (is_free x b) size (nodes_put x m k a) (nodes_put x m k b) (weighs a types x m k size w p.0) (weighs b types x m k size w p.1) i
  weighs (Form.difference a b) types x m k size w h i = let p = joined_parts _ _ (difference_part _ h) in two (is_free x a) (is_free x b) size (nodes_put x m k a) (nodes_put x m k b) (weighs a types x m k size w p.0) (weighs b types x m k size w p.1) i
  weighs (Form.cut a b) types x m k size w h i = let p = joined_parts _ _ (cut_part _ h) in two (is_free x a) (is_free x b) size (nodes_put x m k a) (nodes_put x m k b) (weighs a types x m k size w p.0) (weighs b types x m k size w p.1) i
  weighs (Form.scale r a) types x m k size w h i = more _ _ (weighs a types x m k size w (scale_part _ (only_parts _ _ h).1) i)
  weighs (Form.product a b span) types x m k size w h i = let p = joined_parts _ _ h in two (is_free x a) (is_free x b) size (nodes_put x m k a) (nodes_put x m k b) (weighs a types x m k size w p.0) (weighs b types x m k size w p.1) i
  weighs (Form.min a b) types x m k size w h i = let p = joined_parts _ _ h in two (is_free x a) (is_free x b) size (nodes_put x m k a) (nodes_put x m k b) (weighs a types x m k size w p.0) (weighs b types x m k size w p.1) i
  weighs (Form.max a b) types x m k size w h i = let p = joined_parts _ _ h in two (is_free x a) (is_free x b) size (nodes_put x m k a) (nodes_put x m k b) (weighs a types x m k size w p.0) (weighs b types x m k size w p.1) i
  weighs (Form.imply a b) types x m k size w h i = let p = and_both _ _ (only_parts _ _ h).0 in two (is_free x a) (is_free x b) size (nodes_put x m k a) (nodes_put x m k b) (weighs a types x m k size w (unsigned_type _ p.0)) (weighs b types x m k size w (unsigned_type _ p.1)) i
  weighs (Form.co_imply a b) types x m k size w h i = let p = and_both _ _ (only_parts _ _ h).0 in two (is_free x a) (is_free x b) size (nodes_put x m k a) (nodes_put x m k b) (weighs a types x m k size w (unsigned_type _ p.0)) (weighs b types x m k size w (unsigned_type _ p.1)) i
  weighs (Form.validate a) types x m k size w h i = more _ _ (weighs a types x m k size w (unsigned_type _ (only_parts _ _ h).0) i)
  weighs (Form.co_validate a) types x m k size w h i = more _ _ (weighs a types x m k size w (unsigned_type _ (only_parts _ _ h).0) i)
  weighs (Form.embed g) types x m k size w h i = more _ _ (weighs_in g types x m k size w (only_parts _ _ h).0 i)
  weighs (Form.iverson g) types x m k size w h i = more _ _ (weighs_in g types x m k size w (only_parts _ _ h).0 i)
  weighs (Form.select g a b) types x m k size w h i =
      let o = only_parts _ _ h in let p = joined_parts _ _ o.1 in
      three (is_free_in x g) (is_free x a) (is_free x b) size (nodes_put_in x m k g) (nodes_put x m k a) (nodes_put x m k b) (weighs_in g types x m k size w o.0) (weighs a types x m k size w p.0) (weighs b types x m k size w p.1) i
  weighs (Form.bind up y name ty a) types x m k size w h i = under (x == y) (is_free x a) size (nodes a) (nodes_put x m k a) i (λ q j. weighs a (retyped y ty types) x m k size (retyped_counts x y ty types size m k q w) (unsigned_type _ (only_parts _ _ h).0) j)

  weighs_in : (g : Cond) (types : Types) (x m k size : ℕ) → Counts (types x) size m k → is_well_typed types g ≡ true → is_free_in x g ≡ true → size ≤ nodes_put_in x m k g
  weighs_in (Cond.constant b) types x m k size w h i = absurd (cc)
  weighs_in (Cond.flag y) types x m k size w h i = at_variable x y k 1 size types i (λ e. w.flag (subst (λ t. is_bool t ≡ true) (sym e) h))
  weighs_in (Cond.not g) types x m k size w h i = more _ _ (weighs_in g types x m k size w h i)
  weighs_in (Cond.and a b) types x m k size w h i = let p = and_both _ _ h in two (is_free_in x a) (is_free_in x b) size (nodes_put_in x m k a) (nodes_put_in x m k b) (weighs_in a types x m k size w p.0) (weighs_in b types x m k size w p.1) i
  weighs_in (Cond.or a b) types x m k size w h i = let p = and_both _ _ h in two (is_free_in x a) (is_free_in x b) size (nodes_put_in x m k a) (nodes_put_in x m k b) (weighs_in a types x m k size w p.0) (weighs_in b types x m k size w p.1) i
  weighs_in (Cond.same a b) types x m k size w h i = let p = and_both _ _ h in two (is_free_in x a) (is_free_in x b) size (nodes_put_in x m k a) (nodes_put_in x m k b) (weighs_in a types x m k size w p.0) (weighs_in b types x m k size w p.1) i
  weighs_in (Cond.le a b) types x m k size w h i = let p = joined_parts _ _ (finite_type _ h) in two (is_free x a) (is_free x b) size (nodes_put x m k a) (nodes_put x m k b) (weighs a types x m k size w p.0) (weighs b types x m k size w p.1) i
  weighs_in (Cond.lt a b) types x m k size w h i = let p = joined_parts _ _ (finite_type _ h) in two (is_free x a) (is_free x b) size (nodes_put x m k a) (nodes_put x m k b) (weighs a types x m k size w p.0) (weighs b types x m k size w p.1) i
  weighs_in (Cond.equal a b) types x m k size w h i = let p = joined_parts _ _ (finite_type _ h) in two (is_free x a) (is_free x b) size (nodes_put x m k a) (nodes_put x m k b) (weighs a types x m k size w p.0) (weighs b types x m k size w p.1) i
  weighs_in (Cond.ite g a b) types x m k size w h i =
      let o = and_both _ _ h in let p = and_both _ _ o.1 in
      three (is_free_in x g) (is_free_in x a) (is_free_in x b) size (nodes_put_in x m k g) (nodes_put_in x m k a) (nodes_put_in x m k b) (weighs_in g types x m k size w o.0) (weighs_in a types x m k size w p.0) (weighs_in b types x m k size w p.1) i

pub term_counted : (x : ℕ) (t : Term) (f : Form) → TermIsFit x t f → is_free x f ≡ true → nodes_in_term t ≤ nodes (Replaced.subst x t f)
term_counted x t f h i = subst (λ n. nodes_in_term t ≤ n) (sym (count_subst x t f)) (weighs f h.types x (nodes (as_form t)) (nodes_in (as_cond t)) (nodes_in_term t) (counts h.types (h.types x) t h.fit) (unsigned_type _ h.formula) i)
