-- For the proofs of other crates: value, type, binders, size and free variables of a shifted form.
use Rattle.std.proofs.Common.{◌≡◌, ◌≤◌, ◌<◌, ℕ, ◌+◌, ◌-◌, refl, sym, ap, ap₂, ◌∙◌, subst, arith, Bool, true, false, not, cond, ◌==◌, ◌&&◌, ◌||◌, ◌⊎◌, inl, inr, max}
use Rattle.std.specs.Prelude.{Option, Some}
use Rattle.heyvl_num.specs.Rational.{zeroʳ, leqʳ}
use Rattle.heyvl_num.specs.Value.{zeroᵛ, oneᵛ, leqᵛ, ◌+ᵛ◌, ◌*ᵛ◌}
use Rattle.heyvl_num.specs.Value.Value.{finite, infinite}
use Rattle.heyvl_num.specs.ValueOperators.{minᵛ, maxᵛ, impliesᵛ, coimpliesᵛ, monusᵛ}
use Rattle.heylo_formula.specs.Operators.{differenceᵛ, validateᵛ, covalidateᵛ, lessᵛ, equalᵛ, agree}
use Rattle.heylo_formula.specs.State.{Env, put, fit}
use Rattle.heylo_formula.specs.Choices.{Choices, here, left, right}
use Rattle.heylo_formula.specs.Formula.{Form, Cond}
use Rattle.heylo_formula.specs.Meaning.{value, holds}
use Rattle.heylo_formula.specs.Variables.{is_free, is_free_in, occurs, occurs_in, IsOver, IsOverIn}
use Rattle.heylo_formula.specs.Binders.{has_binder, has_binder_in}
use Rattle.heylo_formula.specs.Sizes.{nodes, nodes_in, depth, depth_in}
use Rattle.heylo_formula.specs.Extrema.{is_directed, is_weight, is_number}
use Rattle.heylo_formula.specs.Typing.{NumberType, Types, retyped, joined, is_finite_type, is_unsigned, only_if, difference_type, cut_type, scale_type, type_of, is_well_typed}
use Rattle.heylo_formula.specs.Shifts.{shifted, shifted_in, extent, extent_in}
use Rattle.heylo_formula.proofs.Dependence.{three, or_false, same_on}
use Rattle.heylo_formula.proofs.SubstitutionTypes.{same_types}

same_sum : (m x y : ℕ) → ((m + x) == (m + y)) ≡ (x == y)
same_sum m x y = go (x == y) refl
  where
    go : (t : Bool) → (x == y) ≡ t → ((m + x) == (m + y)) ≡ t
    go true e = grind arith
    go false e = grind arith

-- ---- Values

mutual
  pub shifted_value : (m : ℕ) (f : Form) (s : Env) (c : Choices) → value (shifted m f) s c ≡ value f (λ y. s (m + y)) c
  shifted_value m (Form.number v) s c = refl
  shifted_value m (Form.variable w) s c = refl
  shifted_value m (Form.sum a b) s c = ap₂ (λ p q. p +ᵛ q) (shifted_value m a s (left c)) (shifted_value m b s (right c))
  shifted_value m (Form.difference a b) s c = ap₂ differenceᵛ (shifted_value m a s (left c)) (shifted_value m b s (right c))
  shifted_value m (Form.cut a b) s c = ap₂ monusᵛ (shifted_value m a s (left c)) (shifted_value m b s (right c))
  shifted_value m (Form.scale w a) s c = ap (λ p. finite w *ᵛ p) (shifted_value m a s c)
  shifted_value m (Form.product a b span) s c = ap₂ (λ p q. p *ᵛ q) (shifted_value m a s (left c)) (shifted_value m b s (right c))
  shifted_value m (Form.min a b) s c = ap₂ minᵛ (shifted_value m a s (left c)) (shifted_value m b s (right c))
  shifted_value m (Form.max a b) s c = ap₂ maxᵛ (shifted_value m a s (left c)) (shifted_value m b s (right c))
  shifted_value m (Form.imply a b) s c = ap₂ impliesᵛ (shifted_value m a s (left c)) (shifted_value m b s (right c))
  shifted_value m (Form.co_imply a b) s c = ap₂ coimpliesᵛ (shifted_value m a s (left c)) (shifted_value m b s (right c))
  shifted_value m (Form.validate a) s c = ap validateᵛ (shifted_value m a s c)
  shifted_value m (Form.co_validate a) s c = ap covalidateᵛ (shifted_value m a s c)
  shifted_value m (Form.embed g) s c = ap (λ p. cond p infinite zeroᵛ) (shifted_value_in m g s c)
  shifted_value m (Form.iverson g) s c = ap (λ p. cond p oneᵛ zeroᵛ) (shifted_value_in m g s c)
  shifted_value m (Form.select g a b) s c = three (shifted_value_in m g s (left c)) (shifted_value m a s (right c)) (shifted_value m b s (right c))
  shifted_value m (Form.bind up w name ty a) s c = shifted_value m a (put (m + w) (fit ty (here c)) s) (left c) ∙ same_on a (λ y. put (m + w) (fit ty (here c)) s (m + y)) (put w (fit ty (here c)) (λ y. s (m + y))) (left c) (λ y k. ap (λ t. cond t (fit ty (here c)) (s (m + y))) (same_sum m w y))

  pub shifted_value_in : (m : ℕ) (g : Cond) (s : Env) (c : Choices) → holds (shifted_in m g) s c ≡ holds g (λ y. s (m + y)) c
  shifted_value_in m (Cond.constant b) s c = refl
  shifted_value_in m (Cond.flag w) s c = refl
  shifted_value_in m (Cond.not g) s c = ap not (shifted_value_in m g s c)
  shifted_value_in m (Cond.and g h) s c = ap₂ (λ p q. p && q) (shifted_value_in m g s (left c)) (shifted_value_in m h s (right c))
  shifted_value_in m (Cond.or g h) s c = ap₂ (λ p q. p || q) (shifted_value_in m g s (left c)) (shifted_value_in m h s (right c))
  shifted_value_in m (Cond.same g h) s c = ap₂ agree (shifted_value_in m g s (left c)) (shifted_value_in m h s (right c))
  shifted_value_in m (Cond.le a b) s c = ap₂ leqᵛ (shifted_value m a s (left c)) (shifted_value m b s (right c))
  shifted_value_in m (Cond.lt a b) s c = ap₂ lessᵛ (shifted_value m a s (left c)) (shifted_value m b s (right c))
  shifted_value_in m (Cond.equal a b) s c = ap₂ equalᵛ (shifted_value m a s (left c)) (shifted_value m b s (right c))
  shifted_value_in m (Cond.ite g h k) s c = three (shifted_value_in m g s (left c)) (shifted_value_in m h s (right c)) (shifted_value_in m k s (right c))

-- ---- Types

abbrev two : Option NumberType → Option NumberType → Option NumberType
two t u = only_if (is_unsigned t && is_unsigned u) (Some NumberType.eureal)

abbrev one : Option NumberType → Option NumberType
one t = only_if (is_unsigned t) (Some NumberType.eureal)

abbrev finite_two : Option NumberType → Option NumberType → Bool
finite_two t u = is_finite_type (joined t u)

mutual
  pub shifted_type : (m : ℕ) (f : Form) (types : Types) → type_of types (shifted m f) ≡ type_of (λ y. types (m + y)) f
  shifted_type m (Form.number v) types = refl
  shifted_type m (Form.variable w) types = refl
  shifted_type m (Form.sum a b) types = ap₂ joined (shifted_type m a types) (shifted_type m b types)
  shifted_type m (Form.difference a b) types = ap difference_type (ap₂ joined (shifted_type m a types) (shifted_type m b types))
  shifted_type m (Form.cut a b) types = ap cut_type (ap₂ joined (shifted_type m a types) (shifted_type m b types))
  shifted_type m (Form.scale w a) types = ap (λ t. only_if (leqʳ zeroʳ w) (scale_type t)) (shifted_type m a types)
  shifted_type m (Form.product a b span) types = ap₂ joined (shifted_type m a types) (shifted_type m b types)
  shifted_type m (Form.min a b) types = ap₂ joined (shifted_type m a types) (shifted_type m b types)
  shifted_type m (Form.max a b) types = ap₂ joined (shifted_type m a types) (shifted_type m b types)
  shifted_type m (Form.imply a b) types = ap₂ two (shifted_type m a types) (shifted_type m b types)
  shifted_type m (Form.co_imply a b) types = ap₂ two (shifted_type m a types) (shifted_type m b types)
  shifted_type m (Form.validate a) types = ap one (shifted_type m a types)
  shifted_type m (Form.co_validate a) types = ap one (shifted_type m a types)
  shifted_type m (Form.embed g) types = ap (λ b. only_if b (Some NumberType.eureal)) (shifted_typed m g types)
  shifted_type m (Form.iverson g) types = ap (λ b. only_if b (Some NumberType.uint)) (shifted_typed m g types)
  shifted_type m (Form.select g a b) types = ap₂ only_if (shifted_typed m g types) (ap₂ joined (shifted_type m a types) (shifted_type m b types))
  shifted_type m (Form.bind up w name ty a) types = ap one (shifted_type m a (retyped (m + w) ty types) ∙ same_types a (λ y. retyped (m + w) ty types (m + y)) (retyped w ty (λ y. types (m + y))) (λ y k. ap (λ t. cond t ty (types (m + y))) (same_sum m w y)))

  pub shifted_typed : (m : ℕ) (g : Cond) (types : Types) → is_well_typed types (shifted_in m g) ≡ is_well_typed (λ y. types (m + y)) g
  shifted_typed m (Cond.constant b) types = refl
  shifted_typed m (Cond.flag w) types = refl
  shifted_typed m (Cond.not g) types = shifted_typed m g types
  shifted_typed m (Cond.and g h) types = ap₂ (λ p q. p && q) (shifted_typed m g types) (shifted_typed m h types)
  shifted_typed m (Cond.or g h) types = ap₂ (λ p q. p && q) (shifted_typed m g types) (shifted_typed m h types)
  shifted_typed m (Cond.same g h) types = ap₂ (λ p q. p && q) (shifted_typed m g types) (shifted_typed m h types)
  shifted_typed m (Cond.le a b) types = ap₂ finite_two (shifted_type m a types) (shifted_type m b types)
  shifted_typed m (Cond.lt a b) types = ap₂ finite_two (shifted_type m a types) (shifted_type m b types)
  shifted_typed m (Cond.equal a b) types = ap₂ finite_two (shifted_type m a types) (shifted_type m b types)
  shifted_typed m (Cond.ite g h k) types = ap₂ (λ p q. p && q) (shifted_typed m g types) (ap₂ (λ p q. p && q) (shifted_typed m h types) (shifted_typed m k types))

-- ---- Binders and sizes

mutual
  pub shifted_binders : (m : ℕ) (f : Form) → has_binder (shifted m f) ≡ has_binder f
  shifted_binders m (Form.number v) = refl
  shifted_binders m (Form.variable w) = refl
  shifted_binders m (Form.sum a b) = ap₂ (λ p q. p || q) (shifted_binders m a) (shifted_binders m b)
  shifted_binders m (Form.difference a b) = ap₂ (λ p q. p || q) (shifted_binders m a) (shifted_binders m b)
  shifted_binders m (Form.cut a b) = ap₂ (λ p q. p || q) (shifted_binders m a) (shifted_binders m b)
  shifted_binders m (Form.scale w a) = (shifted_binders m a)
  shifted_binders m (Form.product a b span) = ap₂ (λ p q. p || q) (shifted_binders m a) (shifted_binders m b)
  shifted_binders m (Form.min a b) = ap₂ (λ p q. p || q) (shifted_binders m a) (shifted_binders m b)
  shifted_binders m (Form.max a b) = ap₂ (λ p q. p || q) (shifted_binders m a) (shifted_binders m b)
  shifted_binders m (Form.imply a b) = ap₂ (λ p q. p || q) (shifted_binders m a) (shifted_binders m b)
  shifted_binders m (Form.co_imply a b) = ap₂ (λ p q. p || q) (shifted_binders m a) (shifted_binders m b)
  shifted_binders m (Form.validate a) = (shifted_binders m a)
  shifted_binders m (Form.co_validate a) = (shifted_binders m a)
  shifted_binders m (Form.embed g) = (shifted_binders_in m g)
  shifted_binders m (Form.iverson g) = (shifted_binders_in m g)
  shifted_binders m (Form.select g a b) = ap₂ (λ p q. p || q) (shifted_binders_in m g) (ap₂ (λ p q. p || q) (shifted_binders m a) (shifted_binders m b))
  shifted_binders m (Form.bind up w name ty a) = refl

  pub shifted_binders_in : (m : ℕ) (g : Cond) → has_binder_in (shifted_in m g) ≡ has_binder_in g
  shifted_binders_in m (Cond.constant b) = refl
  shifted_binders_in m (Cond.flag w) = refl
  shifted_binders_in m (Cond.not g) = (shifted_binders_in m g)
  shifted_binders_in m (Cond.and g h) = ap₂ (λ p q. p || q) (shifted_binders_in m g) (shifted_binders_in m h)
  shifted_binders_in m (Cond.or g h) = ap₂ (λ p q. p || q) (shifted_binders_in m g) (shifted_binders_in m h)
  shifted_binders_in m (Cond.same g h) = ap₂ (λ p q. p || q) (shifted_binders_in m g) (shifted_binders_in m h)
  shifted_binders_in m (Cond.le a b) = ap₂ (λ p q. p || q) (shifted_binders m a) (shifted_binders m b)
  shifted_binders_in m (Cond.lt a b) = ap₂ (λ p q. p || q) (shifted_binders m a) (shifted_binders m b)
  shifted_binders_in m (Cond.equal a b) = ap₂ (λ p q. p || q) (shifted_binders m a) (shifted_binders m b)
  shifted_binders_in m (Cond.ite g h k) = ap₂ (λ p q. p || q) (shifted_binders_in m g) (ap₂ (λ p q. p || q) (shifted_binders_in m h) (shifted_binders_in m k))

mutual
  pub shifted_nodes : (m : ℕ) (f : Form) → nodes (shifted m f) ≡ nodes f
  shifted_nodes m (Form.number v) = refl
  shifted_nodes m (Form.variable w) = refl
  shifted_nodes m (Form.sum a b) = ap₂ (λ p q. 1 + (p + q)) (shifted_nodes m a) (shifted_nodes m b)
  shifted_nodes m (Form.difference a b) = ap₂ (λ p q. 1 + (p + q)) (shifted_nodes m a) (shifted_nodes m b)
  shifted_nodes m (Form.cut a b) = ap₂ (λ p q. 1 + (p + q)) (shifted_nodes m a) (shifted_nodes m b)
  shifted_nodes m (Form.scale w a) = ap (λ p. 1 + p) (shifted_nodes m a)
  shifted_nodes m (Form.product a b span) = ap₂ (λ p q. 1 + (p + q)) (shifted_nodes m a) (shifted_nodes m b)
  shifted_nodes m (Form.min a b) = ap₂ (λ p q. 1 + (p + q)) (shifted_nodes m a) (shifted_nodes m b)
  shifted_nodes m (Form.max a b) = ap₂ (λ p q. 1 + (p + q)) (shifted_nodes m a) (shifted_nodes m b)
  shifted_nodes m (Form.imply a b) = ap₂ (λ p q. 1 + (p + q)) (shifted_nodes m a) (shifted_nodes m b)
  shifted_nodes m (Form.co_imply a b) = ap₂ (λ p q. 1 + (p + q)) (shifted_nodes m a) (shifted_nodes m b)
  shifted_nodes m (Form.validate a) = ap (λ p. 1 + p) (shifted_nodes m a)
  shifted_nodes m (Form.co_validate a) = ap (λ p. 1 + p) (shifted_nodes m a)
  shifted_nodes m (Form.embed g) = ap (λ p. 1 + p) (shifted_nodes_in m g)
  shifted_nodes m (Form.iverson g) = ap (λ p. 1 + p) (shifted_nodes_in m g)
  shifted_nodes m (Form.select g a b) = ap₂ (λ p q. 1 + (p + q)) (shifted_nodes_in m g) (ap₂ (λ p q. p + q) (shifted_nodes m a) (shifted_nodes m b))
  shifted_nodes m (Form.bind up w name ty a) = ap (λ p. 1 + p) (shifted_nodes m a)

  pub shifted_nodes_in : (m : ℕ) (g : Cond) → nodes_in (shifted_in m g) ≡ nodes_in g
  shifted_nodes_in m (Cond.constant b) = refl
  shifted_nodes_in m (Cond.flag w) = refl
  shifted_nodes_in m (Cond.not g) = ap (λ p. 1 + p) (shifted_nodes_in m g)
  shifted_nodes_in m (Cond.and g h) = ap₂ (λ p q. 1 + (p + q)) (shifted_nodes_in m g) (shifted_nodes_in m h)
  shifted_nodes_in m (Cond.or g h) = ap₂ (λ p q. 1 + (p + q)) (shifted_nodes_in m g) (shifted_nodes_in m h)
  shifted_nodes_in m (Cond.same g h) = ap₂ (λ p q. 1 + (p + q)) (shifted_nodes_in m g) (shifted_nodes_in m h)
  shifted_nodes_in m (Cond.le a b) = ap₂ (λ p q. 1 + (p + q)) (shifted_nodes m a) (shifted_nodes m b)
  shifted_nodes_in m (Cond.lt a b) = ap₂ (λ p q. 1 + (p + q)) (shifted_nodes m a) (shifted_nodes m b)
  shifted_nodes_in m (Cond.equal a b) = ap₂ (λ p q. 1 + (p + q)) (shifted_nodes m a) (shifted_nodes m b)
  shifted_nodes_in m (Cond.ite g h k) = ap₂ (λ p q. 1 + (p + q)) (shifted_nodes_in m g) (ap₂ (λ p q. p + q) (shifted_nodes_in m h) (shifted_nodes_in m k))

mutual
  pub shifted_depth : (m : ℕ) (f : Form) → depth (shifted m f) ≡ depth f
  shifted_depth m (Form.number v) = refl
  shifted_depth m (Form.variable w) = refl
  shifted_depth m (Form.sum a b) = ap₂ (λ p q. 1 + max p q) (shifted_depth m a) (shifted_depth m b)
  shifted_depth m (Form.difference a b) = ap₂ (λ p q. 1 + max p q) (shifted_depth m a) (shifted_depth m b)
  shifted_depth m (Form.cut a b) = ap₂ (λ p q. 1 + max p q) (shifted_depth m a) (shifted_depth m b)
  shifted_depth m (Form.scale w a) = ap (λ p. 1 + p) (shifted_depth m a)
  shifted_depth m (Form.product a b span) = ap₂ (λ p q. 1 + max p q) (shifted_depth m a) (shifted_depth m b)
  shifted_depth m (Form.min a b) = ap₂ (λ p q. 1 + max p q) (shifted_depth m a) (shifted_depth m b)
  shifted_depth m (Form.max a b) = ap₂ (λ p q. 1 + max p q) (shifted_depth m a) (shifted_depth m b)
  shifted_depth m (Form.imply a b) = ap₂ (λ p q. 1 + max p q) (shifted_depth m a) (shifted_depth m b)
  shifted_depth m (Form.co_imply a b) = ap₂ (λ p q. 1 + max p q) (shifted_depth m a) (shifted_depth m b)
  shifted_depth m (Form.validate a) = ap (λ p. 1 + p) (shifted_depth m a)
  shifted_depth m (Form.co_validate a) = ap (λ p. 1 + p) (shifted_depth m a)
  shifted_depth m (Form.embed g) = ap (λ p. 1 + p) (shifted_depth_in m g)
  shifted_depth m (Form.iverson g) = ap (λ p. 1 + p) (shifted_depth_in m g)
  shifted_depth m (Form.select g a b) = ap₂ (λ p q. 1 + max p q) (shifted_depth_in m g) (ap₂ (λ p q. max p q) (shifted_depth m a) (shifted_depth m b))
  shifted_depth m (Form.bind up w name ty a) = ap (λ p. 1 + p) (shifted_depth m a)

  pub shifted_depth_in : (m : ℕ) (g : Cond) → depth_in (shifted_in m g) ≡ depth_in g
  shifted_depth_in m (Cond.constant b) = refl
  shifted_depth_in m (Cond.flag w) = refl
  shifted_depth_in m (Cond.not g) = ap (λ p. 1 + p) (shifted_depth_in m g)
  shifted_depth_in m (Cond.and g h) = ap₂ (λ p q. 1 + max p q) (shifted_depth_in m g) (shifted_depth_in m h)
  shifted_depth_in m (Cond.or g h) = ap₂ (λ p q. 1 + max p q) (shifted_depth_in m g) (shifted_depth_in m h)
  shifted_depth_in m (Cond.same g h) = ap₂ (λ p q. 1 + max p q) (shifted_depth_in m g) (shifted_depth_in m h)
  shifted_depth_in m (Cond.le a b) = ap₂ (λ p q. 1 + max p q) (shifted_depth m a) (shifted_depth m b)
  shifted_depth_in m (Cond.lt a b) = ap₂ (λ p q. 1 + max p q) (shifted_depth m a) (shifted_depth m b)
  shifted_depth_in m (Cond.equal a b) = ap₂ (λ p q. 1 + max p q) (shifted_depth m a) (shifted_depth m b)
  shifted_depth_in m (Cond.ite g h k) = ap₂ (λ p q. 1 + max p q) (shifted_depth_in m g) (ap₂ (λ p q. max p q) (shifted_depth_in m h) (shifted_depth_in m k))

shifted_number : (m : ℕ) (f : Form) → is_number (shifted m f) ≡ is_number f
shifted_number m (Form.number v) = refl
shifted_number m (Form.variable x) = refl
shifted_number m (Form.sum a b) = refl
shifted_number m (Form.difference a b) = refl
shifted_number m (Form.cut a b) = refl
shifted_number m (Form.scale w a) = refl
shifted_number m (Form.product a b span) = refl
shifted_number m (Form.min a b) = refl
shifted_number m (Form.max a b) = refl
shifted_number m (Form.imply a b) = refl
shifted_number m (Form.co_imply a b) = refl
shifted_number m (Form.validate a) = refl
shifted_number m (Form.co_validate a) = refl
shifted_number m (Form.embed g) = refl
shifted_number m (Form.iverson g) = refl
shifted_number m (Form.select g a b) = refl
shifted_number m (Form.bind up x name ty a) = refl

shifted_weight : (m : ℕ) (f : Form) → is_weight (shifted m f) ≡ is_weight f
shifted_weight m (Form.number v) = refl
shifted_weight m (Form.variable x) = refl
shifted_weight m (Form.sum a b) = refl
shifted_weight m (Form.difference a b) = refl
shifted_weight m (Form.cut a b) = ap₂ (λ p q. p && not q) (shifted_number m a) (shifted_binders m b)
shifted_weight m (Form.scale w a) = refl
shifted_weight m (Form.product a b span) = refl
shifted_weight m (Form.min a b) = ap₂ (λ p q. not p && q) (shifted_binders m a) (shifted_number m b)
shifted_weight m (Form.max a b) = refl
shifted_weight m (Form.imply a b) = refl
shifted_weight m (Form.co_imply a b) = refl
shifted_weight m (Form.validate a) = refl
shifted_weight m (Form.co_validate a) = refl
shifted_weight m (Form.embed g) = refl
shifted_weight m (Form.iverson g) = refl
shifted_weight m (Form.select g a b) = refl
shifted_weight m (Form.bind up x name ty a) = refl

pub shifted_directed : (up : Bool) (m : ℕ) (f : Form) → is_directed up (shifted m f) ≡ is_directed up f
shifted_directed up m (Form.number v) = refl
shifted_directed up m (Form.variable w) = refl
shifted_directed up m (Form.sum a b) = ap₂ (λ p q. p && q) (shifted_directed up m a) (shifted_directed up m b)
shifted_directed up m (Form.difference a b) = ap not (ap₂ (λ p q. p || q) (shifted_binders m a) (shifted_binders m b))
shifted_directed up m (Form.cut a b) = ap not (ap₂ (λ p q. p || q) (shifted_binders m a) (shifted_binders m b))
shifted_directed up m (Form.scale w a) = (shifted_directed up m a)
shifted_directed up m (Form.product a b span) = ap₂ (λ p q. p || q) (ap not (ap₂ (λ p q. p || q) (shifted_binders m a) (shifted_binders m b))) (ap₂ (λ p q. p && q) (shifted_weight m a) (shifted_directed up m b))
shifted_directed up m (Form.min a b) = ap₂ (λ p q. p && q) (shifted_directed up m a) (shifted_directed up m b)
shifted_directed up m (Form.max a b) = ap₂ (λ p q. p && q) (shifted_directed up m a) (shifted_directed up m b)
shifted_directed up m (Form.imply a b) = ap₂ (λ p q. not p && q) (shifted_binders m a) (ap₂ (cond up) (ap not (shifted_binders m b)) (shifted_directed up m b))
shifted_directed up m (Form.co_imply a b) = ap₂ (λ p q. not p && q) (shifted_binders m a) (ap₂ (cond up) (shifted_directed up m b) (ap not (shifted_binders m b)))
shifted_directed up m (Form.validate a) = ap₂ (cond up) (ap not (shifted_binders m a)) (shifted_directed up m a)
shifted_directed up m (Form.co_validate a) = ap₂ (cond up) (shifted_directed up m a) (ap not (shifted_binders m a))
shifted_directed up m (Form.embed g) = ap not (shifted_binders_in m g)
shifted_directed up m (Form.iverson g) = ap not (shifted_binders_in m g)
shifted_directed up m (Form.select g a b) = ap₂ (λ p q. not p && q) (shifted_binders_in m g) (ap₂ (λ p q. p && q) (shifted_directed up m a) (shifted_directed up m b))
shifted_directed up m (Form.bind d w name ty a) = ap (λ p. agree up d && p) (shifted_directed up m a)

-- ---- Free variables

mutual
  pub shifted_free : (m x : ℕ) (f : Form) → is_free (m + x) (shifted m f) ≡ is_free x f
  shifted_free m x (Form.number v) = refl
  shifted_free m x (Form.variable w) = same_sum m x w
  shifted_free m x (Form.sum a b) = ap₂ (λ p q. p || q) (shifted_free m x a) (shifted_free m x b)
  shifted_free m x (Form.difference a b) = ap₂ (λ p q. p || q) (shifted_free m x a) (shifted_free m x b)
  shifted_free m x (Form.cut a b) = ap₂ (λ p q. p || q) (shifted_free m x a) (shifted_free m x b)
  shifted_free m x (Form.scale w a) = shifted_free m x a
  shifted_free m x (Form.product a b span) = ap₂ (λ p q. p || q) (shifted_free m x a) (shifted_free m x b)
  shifted_free m x (Form.min a b) = ap₂ (λ p q. p || q) (shifted_free m x a) (shifted_free m x b)
  shifted_free m x (Form.max a b) = ap₂ (λ p q. p || q) (shifted_free m x a) (shifted_free m x b)
  shifted_free m x (Form.imply a b) = ap₂ (λ p q. p || q) (shifted_free m x a) (shifted_free m x b)
  shifted_free m x (Form.co_imply a b) = ap₂ (λ p q. p || q) (shifted_free m x a) (shifted_free m x b)
  shifted_free m x (Form.validate a) = shifted_free m x a
  shifted_free m x (Form.co_validate a) = shifted_free m x a
  shifted_free m x (Form.embed g) = shifted_free_in m x g
  shifted_free m x (Form.iverson g) = shifted_free_in m x g
  shifted_free m x (Form.select g a b) = ap₂ (λ p q. p || q) (shifted_free_in m x g) (ap₂ (λ p q. p || q) (shifted_free m x a) (shifted_free m x b))
  shifted_free m x (Form.bind up w name ty a) = ap₂ (λ p q. cond p false q) (same_sum m x w) (shifted_free m x a)

  pub shifted_free_in : (m x : ℕ) (g : Cond) → is_free_in (m + x) (shifted_in m g) ≡ is_free_in x g
  shifted_free_in m x (Cond.constant b) = refl
  shifted_free_in m x (Cond.flag w) = same_sum m x w
  shifted_free_in m x (Cond.not g) = shifted_free_in m x g
  shifted_free_in m x (Cond.and g h) = ap₂ (λ p q. p || q) (shifted_free_in m x g) (shifted_free_in m x h)
  shifted_free_in m x (Cond.or g h) = ap₂ (λ p q. p || q) (shifted_free_in m x g) (shifted_free_in m x h)
  shifted_free_in m x (Cond.same g h) = ap₂ (λ p q. p || q) (shifted_free_in m x g) (shifted_free_in m x h)
  shifted_free_in m x (Cond.le a b) = ap₂ (λ p q. p || q) (shifted_free m x a) (shifted_free m x b)
  shifted_free_in m x (Cond.lt a b) = ap₂ (λ p q. p || q) (shifted_free m x a) (shifted_free m x b)
  shifted_free_in m x (Cond.equal a b) = ap₂ (λ p q. p || q) (shifted_free m x a) (shifted_free m x b)
  shifted_free_in m x (Cond.ite g h k) = ap₂ (λ p q. p || q) (shifted_free_in m x g) (ap₂ (λ p q. p || q) (shifted_free_in m x h) (shifted_free_in m x k))

one_of : (a b : Bool) → (a || b) ≡ true → (a ≡ true) ⊎ (b ≡ true)
one_of true b h = inl refl
one_of false b h = inr h

with_one : {P : Type 0} (a b : Bool) → (a ≡ true → P) → (b ≡ true → P) → (a || b) ≡ true → P
with_one {P} a b f g h = go (one_of a b h)
  where
    go : (a ≡ true) ⊎ (b ≡ true) → P
    go (inl k) = f k
    go (inr k) = g k

not_bound : (t b : Bool) → cond t false b ≡ true → b ≡ true
not_bound true b h = absurd (cc)
not_bound false b h = h

at_least : (m x y : ℕ) → (y == (m + x)) ≡ true → m ≤ y
at_least m x y h = grind arith

mutual
  pub above_shift : (m y : ℕ) (f : Form) → is_free y (shifted m f) ≡ true → m ≤ y
  above_shift m y (Form.number v) h0 = absurd (cc)
  above_shift m y (Form.variable w) h0 = at_least m w y h0
  above_shift m y (Form.sum a b) h0 = with_one (is_free y (shifted m a)) (is_free y (shifted m b)) (above_shift m y a) (above_shift m y b) h0
  above_shift m y (Form.difference a b) h0 = with_one (is_free y (shifted m a)) (is_free y (shifted m b)) (above_shift m y a) (above_shift m y b) h0
  above_shift m y (Form.cut a b) h0 = with_one (is_free y (shifted m a)) (is_free y (shifted m b)) (above_shift m y a) (above_shift m y b) h0
  above_shift m y (Form.scale w a) h0 = above_shift m y a h0
  above_shift m y (Form.product a b span) h0 = with_one (is_free y (shifted m a)) (is_free y (shifted m b)) (above_shift m y a) (above_shift m y b) h0
  above_shift m y (Form.min a b) h0 = with_one (is_free y (shifted m a)) (is_free y (shifted m b)) (above_shift m y a) (above_shift m y b) h0
  above_shift m y (Form.max a b) h0 = with_one (is_free y (shifted m a)) (is_free y (shifted m b)) (above_shift m y a) (above_shift m y b) h0
  above_shift m y (Form.imply a b) h0 = with_one (is_free y (shifted m a)) (is_free y (shifted m b)) (above_shift m y a) (above_shift m y b) h0
  above_shift m y (Form.co_imply a b) h0 = with_one (is_free y (shifted m a)) (is_free y (shifted m b)) (above_shift m y a) (above_shift m y b) h0
  above_shift m y (Form.validate a) h0 = above_shift m y a h0
  above_shift m y (Form.co_validate a) h0 = above_shift m y a h0
  above_shift m y (Form.embed g) h0 = above_shift_in m y g h0
  above_shift m y (Form.iverson g) h0 = above_shift_in m y g h0
  above_shift m y (Form.select g a b) h0 = with_one (is_free_in y (shifted_in m g)) ((is_free y (shifted m a)) || (is_free y (shifted m b))) (above_shift_in m y g) (with_one (is_free y (shifted m a)) (is_free y (shifted m b)) (above_shift m y a) (above_shift m y b)) h0
  above_shift m y (Form.bind up w name ty a) h0 = above_shift m y a (not_bound (y == (m + w)) (is_free y (shifted m a)) h0)

  pub above_shift_in : (m y : ℕ) (g : Cond) → is_free_in y (shifted_in m g) ≡ true → m ≤ y
  above_shift_in m y (Cond.constant b) h0 = absurd (cc)
  above_shift_in m y (Cond.flag w) h0 = at_least m w y h0
  above_shift_in m y (Cond.not g) h0 = above_shift_in m y g h0
  above_shift_in m y (Cond.and g h) h0 = with_one (is_free_in y (shifted_in m g)) (is_free_in y (shifted_in m h)) (above_shift_in m y g) (above_shift_in m y h) h0
  above_shift_in m y (Cond.or g h) h0 = with_one (is_free_in y (shifted_in m g)) (is_free_in y (shifted_in m h)) (above_shift_in m y g) (above_shift_in m y h) h0
  above_shift_in m y (Cond.same g h) h0 = with_one (is_free_in y (shifted_in m g)) (is_free_in y (shifted_in m h)) (above_shift_in m y g) (above_shift_in m y h) h0
  above_shift_in m y (Cond.le a b) h0 = with_one (is_free y (shifted m a)) (is_free y (shifted m b)) (above_shift m y a) (above_shift m y b) h0
  above_shift_in m y (Cond.lt a b) h0 = with_one (is_free y (shifted m a)) (is_free y (shifted m b)) (above_shift m y a) (above_shift m y b) h0
  above_shift_in m y (Cond.equal a b) h0 = with_one (is_free y (shifted m a)) (is_free y (shifted m b)) (above_shift m y a) (above_shift m y b) h0
  above_shift_in m y (Cond.ite g h k) h0 = with_one (is_free_in y (shifted_in m g)) ((is_free_in y (shifted_in m h)) || (is_free_in y (shifted_in m k))) (above_shift_in m y g) (with_one (is_free_in y (shifted_in m h)) (is_free_in y (shifted_in m k)) (above_shift_in m y h) (above_shift_in m y k)) h0

pub shifted_over : (m n : ℕ) (f : Form) → IsOver n f → IsOver (m + n) (shifted m f)
shifted_over m n f e y h =
    let l : m ≤ y = above_shift m y f h in
    let q : y ≡ m + (y - m) = omega arith in
    let k : y - m < n = e (y - m) (sym (shifted_free m (y - m) f) ∙ subst (λ z. is_free z (shifted m f) ≡ true) q h) in
    omega arith

pub shifted_over_in : (m n : ℕ) (g : Cond) → IsOverIn n g → IsOverIn (m + n) (shifted_in m g)
shifted_over_in m n g e y h =
    let l : m ≤ y = above_shift_in m y g h in
    let q : y ≡ m + (y - m) = omega arith in
    let k : y - m < n = e (y - m) (sym (shifted_free_in m (y - m) g) ∙ subst (λ z. is_free_in z (shifted_in m g) ≡ true) q h) in
    omega arith

-- ---- The extent

left_one : (a b : Bool) → a ≡ true → (a || b) ≡ true
left_one a b h = rw h

right_one : (a b : Bool) → b ≡ true → (a || b) ≡ true
right_one true b h = refl
right_one false b h = h

self_same : (x : ℕ) → (x == x) ≡ true
self_same x = grind arith

mutual
  pub extent_within : (n : ℕ) (f : Form) → ((x : ℕ) → occurs x f ≡ true → x < n) → extent f ≤ n
  extent_within n (Form.number v) e = omega arith
  extent_within n (Form.variable w) e = let l = e w (self_same w) in omega arith
  extent_within n (Form.sum a b) e = let p = extent_within n a (λ x k. e x (left_one (occurs x a) (occurs x b) k)) in let q = extent_within n b (λ x k. e x (right_one (occurs x a) (occurs x b) k)) in omega arith
  extent_within n (Form.difference a b) e = let p = extent_within n a (λ x k. e x (left_one (occurs x a) (occurs x b) k)) in let q = extent_within n b (λ x k. e x (right_one (occurs x a) (occurs x b) k)) in omega arith
  extent_within n (Form.cut a b) e = let p = extent_within n a (λ x k. e x (left_one (occurs x a) (occurs x b) k)) in let q = extent_within n b (λ x k. e x (right_one (occurs x a) (occurs x b) k)) in omega arith
  extent_within n (Form.scale w a) e = extent_within n a e
  extent_within n (Form.product a b span) e = let p = extent_within n a (λ x k. e x (left_one (occurs x a) (occurs x b) k)) in let q = extent_within n b (λ x k. e x (right_one (occurs x a) (occurs x b) k)) in omega arith
  extent_within n (Form.min a b) e = let p = extent_within n a (λ x k. e x (left_one (occurs x a) (occurs x b) k)) in let q = extent_within n b (λ x k. e x (right_one (occurs x a) (occurs x b) k)) in omega arith
  extent_within n (Form.max a b) e = let p = extent_within n a (λ x k. e x (left_one (occurs x a) (occurs x b) k)) in let q = extent_within n b (λ x k. e x (right_one (occurs x a) (occurs x b) k)) in omega arith
  extent_within n (Form.imply a b) e = let p = extent_within n a (λ x k. e x (left_one (occurs x a) (occurs x b) k)) in let q = extent_within n b (λ x k. e x (right_one (occurs x a) (occurs x b) k)) in omega arith
  extent_within n (Form.co_imply a b) e = let p = extent_within n a (λ x k. e x (left_one (occurs x a) (occurs x b) k)) in let q = extent_within n b (λ x k. e x (right_one (occurs x a) (occurs x b) k)) in omega arith
  extent_within n (Form.validate a) e = extent_within n a e
  extent_within n (Form.co_validate a) e = extent_within n a e
  extent_within n (Form.embed g) e = extent_within_in n g e
  extent_within n (Form.iverson g) e = extent_within_in n g e
  extent_within n (Form.select g a b) e = let r = extent_within_in n g (λ x k. e x (left_one (occurs_in x g) ((occurs x a) || (occurs x b)) k)) in let p = extent_within n a (λ x k. e x (right_one (occurs_in x g) ((occurs x a) || (occurs x b)) (left_one (occurs x a) (occurs x b) k))) in let q = extent_within n b (λ x k. e x (right_one (occurs_in x g) ((occurs x a) || (occurs x b)) (right_one (occurs x a) (occurs x b) k))) in omega arith
  extent_within n (Form.bind up w name ty a) e = let l = e w (left_one (w == w) (occurs w a) (self_same w)) in let p = extent_within n a (λ x k. e x (right_one (x == w) (occurs x a) k)) in omega arith

  pub extent_within_in : (n : ℕ) (g : Cond) → ((x : ℕ) → occurs_in x g ≡ true → x < n) → extent_in g ≤ n
  extent_within_in n (Cond.constant b) e = omega arith
  extent_within_in n (Cond.flag w) e = let l = e w (self_same w) in omega arith
  extent_within_in n (Cond.not g) e = extent_within_in n g e
  extent_within_in n (Cond.and g h) e = let p = extent_within_in n g (λ x k. e x (left_one (occurs_in x g) (occurs_in x h) k)) in let q = extent_within_in n h (λ x k. e x (right_one (occurs_in x g) (occurs_in x h) k)) in omega arith
  extent_within_in n (Cond.or g h) e = let p = extent_within_in n g (λ x k. e x (left_one (occurs_in x g) (occurs_in x h) k)) in let q = extent_within_in n h (λ x k. e x (right_one (occurs_in x g) (occurs_in x h) k)) in omega arith
  extent_within_in n (Cond.same g h) e = let p = extent_within_in n g (λ x k. e x (left_one (occurs_in x g) (occurs_in x h) k)) in let q = extent_within_in n h (λ x k. e x (right_one (occurs_in x g) (occurs_in x h) k)) in omega arith
  extent_within_in n (Cond.le a b) e = let p = extent_within n a (λ x k. e x (left_one (occurs x a) (occurs x b) k)) in let q = extent_within n b (λ x k. e x (right_one (occurs x a) (occurs x b) k)) in omega arith
  extent_within_in n (Cond.lt a b) e = let p = extent_within n a (λ x k. e x (left_one (occurs x a) (occurs x b) k)) in let q = extent_within n b (λ x k. e x (right_one (occurs x a) (occurs x b) k)) in omega arith
  extent_within_in n (Cond.equal a b) e = let p = extent_within n a (λ x k. e x (left_one (occurs x a) (occurs x b) k)) in let q = extent_within n b (λ x k. e x (right_one (occurs x a) (occurs x b) k)) in omega arith
  extent_within_in n (Cond.ite g h k) e = let r = extent_within_in n g (λ x l. e x (left_one (occurs_in x g) (occurs_in x h || occurs_in x k) l)) in let p = extent_within_in n h (λ x l. e x (right_one (occurs_in x g) (occurs_in x h || occurs_in x k) (left_one (occurs_in x h) (occurs_in x k) l))) in let q = extent_within_in n k (λ x l. e x (right_one (occurs_in x g) (occurs_in x h || occurs_in x k) (right_one (occurs_in x h) (occurs_in x k) l))) in omega arith

mutual
  pub extent_over : (n : ℕ) (f : Form) → has_binder f ≡ false → ((x : ℕ) → is_free x f ≡ true → x < n) → extent f ≤ n
  extent_over n (Form.number v) h0 e = omega arith
  extent_over n (Form.variable w) h0 e = let l = e w (self_same w) in omega arith
  extent_over n (Form.sum a b) h0 e = let p = extent_over n a ((or_false (has_binder a) (has_binder b) h0).0) (λ x k. e x (left_one (is_free x a) (is_free x b) k)) in let q = extent_over n b ((or_false (has_binder a) (has_binder b) h0).1) (λ x k. e x (right_one (is_free x a) (is_free x b) k)) in omega arith
  extent_over n (Form.difference a b) h0 e = let p = extent_over n a ((or_false (has_binder a) (has_binder b) h0).0) (λ x k. e x (left_one (is_free x a) (is_free x b) k)) in let q = extent_over n b ((or_false (has_binder a) (has_binder b) h0).1) (λ x k. e x (right_one (is_free x a) (is_free x b) k)) in omega arith
  extent_over n (Form.cut a b) h0 e = let p = extent_over n a ((or_false (has_binder a) (has_binder b) h0).0) (λ x k. e x (left_one (is_free x a) (is_free x b) k)) in let q = extent_over n b ((or_false (has_binder a) (has_binder b) h0).1) (λ x k. e x (right_one (is_free x a) (is_free x b) k)) in omega arith
  extent_over n (Form.scale w a) h0 e = extent_over n a h0 e
  extent_over n (Form.product a b span) h0 e = let p = extent_over n a ((or_false (has_binder a) (has_binder b) h0).0) (λ x k. e x (left_one (is_free x a) (is_free x b) k)) in let q = extent_over n b ((or_false (has_binder a) (has_binder b) h0).1) (λ x k. e x (right_one (is_free x a) (is_free x b) k)) in omega arith
  extent_over n (Form.min a b) h0 e = let p = extent_over n a ((or_false (has_binder a) (has_binder b) h0).0) (λ x k. e x (left_one (is_free x a) (is_free x b) k)) in let q = extent_over n b ((or_false (has_binder a) (has_binder b) h0).1) (λ x k. e x (right_one (is_free x a) (is_free x b) k)) in omega arith
  extent_over n (Form.max a b) h0 e = let p = extent_over n a ((or_false (has_binder a) (has_binder b) h0).0) (λ x k. e x (left_one (is_free x a) (is_free x b) k)) in let q = extent_over n b ((or_false (has_binder a) (has_binder b) h0).1) (λ x k. e x (right_one (is_free x a) (is_free x b) k)) in omega arith
  extent_over n (Form.imply a b) h0 e = let p = extent_over n a ((or_false (has_binder a) (has_binder b) h0).0) (λ x k. e x (left_one (is_free x a) (is_free x b) k)) in let q = extent_over n b ((or_false (has_binder a) (has_binder b) h0).1) (λ x k. e x (right_one (is_free x a) (is_free x b) k)) in omega arith
  extent_over n (Form.co_imply a b) h0 e = let p = extent_over n a ((or_false (has_binder a) (has_binder b) h0).0) (λ x k. e x (left_one (is_free x a) (is_free x b) k)) in let q = extent_over n b ((or_false (has_binder a) (has_binder b) h0).1) (λ x k. e x (right_one (is_free x a) (is_free x b) k)) in omega arith
  extent_over n (Form.validate a) h0 e = extent_over n a h0 e
  extent_over n (Form.co_validate a) h0 e = extent_over n a h0 e
  extent_over n (Form.embed g) h0 e = extent_over_in n g h0 e
  extent_over n (Form.iverson g) h0 e = extent_over_in n g h0 e
  extent_over n (Form.select g a b) h0 e = let i = or_false (has_binder_in g) (has_binder a || has_binder b) h0 in let j = or_false (has_binder a) (has_binder b) i.1 in let r = extent_over_in n g i.0 (λ x k. e x (left_one (is_free_in x g) ((is_free x a) || (is_free x b)) k)) in let p = extent_over n a j.0 (λ x k. e x (right_one (is_free_in x g) ((is_free x a) || (is_free x b)) (left_one (is_free x a) (is_free x b) k))) in let q = extent_over n b j.1 (λ x k. e x (right_one (is_free_in x g) ((is_free x a) || (is_free x b)) (right_one (is_free x a) (is_free x b) k))) in omega arith
  extent_over n (Form.bind up w name ty a) h0 e = absurd (cc)

  pub extent_over_in : (n : ℕ) (g : Cond) → has_binder_in g ≡ false → ((x : ℕ) → is_free_in x g ≡ true → x < n) → extent_in g ≤ n
  extent_over_in n (Cond.constant b) h0 e = omega arith
  extent_over_in n (Cond.flag w) h0 e = let l = e w (self_same w) in omega arith
  extent_over_in n (Cond.not g) h0 e = extent_over_in n g h0 e
  extent_over_in n (Cond.and g h) h0 e = let p = extent_over_in n g ((or_false (has_binder_in g) (has_binder_in h) h0).0) (λ x k. e x (left_one (is_free_in x g) (is_free_in x h) k)) in let q = extent_over_in n h ((or_false (has_binder_in g) (has_binder_in h) h0).1) (λ x k. e x (right_one (is_free_in x g) (is_free_in x h) k)) in omega arith
  extent_over_in n (Cond.or g h) h0 e = let p = extent_over_in n g ((or_false (has_binder_in g) (has_binder_in h) h0).0) (λ x k. e x (left_one (is_free_in x g) (is_free_in x h) k)) in let q = extent_over_in n h ((or_false (has_binder_in g) (has_binder_in h) h0).1) (λ x k. e x (right_one (is_free_in x g) (is_free_in x h) k)) in omega arith
  extent_over_in n (Cond.same g h) h0 e = let p = extent_over_in n g ((or_false (has_binder_in g) (has_binder_in h) h0).0) (λ x k. e x (left_one (is_free_in x g) (is_free_in x h) k)) in let q = extent_over_in n h ((or_false (has_binder_in g) (has_binder_in h) h0).1) (λ x k. e x (right_one (is_free_in x g) (is_free_in x h) k)) in omega arith
  extent_over_in n (Cond.le a b) h0 e = let p = extent_over n a ((or_false (has_binder a) (has_binder b) h0).0) (λ x k. e x (left_one (is_free x a) (is_free x b) k)) in let q = extent_over n b ((or_false (has_binder a) (has_binder b) h0).1) (λ x k. e x (right_one (is_free x a) (is_free x b) k)) in omega arith
  extent_over_in n (Cond.lt a b) h0 e = let p = extent_over n a ((or_false (has_binder a) (has_binder b) h0).0) (λ x k. e x (left_one (is_free x a) (is_free x b) k)) in let q = extent_over n b ((or_false (has_binder a) (has_binder b) h0).1) (λ x k. e x (right_one (is_free x a) (is_free x b) k)) in omega arith
  extent_over_in n (Cond.equal a b) h0 e = let p = extent_over n a ((or_false (has_binder a) (has_binder b) h0).0) (λ x k. e x (left_one (is_free x a) (is_free x b) k)) in let q = extent_over n b ((or_false (has_binder a) (has_binder b) h0).1) (λ x k. e x (right_one (is_free x a) (is_free x b) k)) in omega arith
  extent_over_in n (Cond.ite g h k) h0 e = let i = or_false (has_binder_in g) (has_binder_in h || has_binder_in k) h0 in let j = or_false (has_binder_in h) (has_binder_in k) i.1 in let r = extent_over_in n g i.0 (λ x l. e x (left_one (is_free_in x g) (is_free_in x h || is_free_in x k) l)) in let p = extent_over_in n h j.0 (λ x l. e x (right_one (is_free_in x g) (is_free_in x h || is_free_in x k) (left_one (is_free_in x h) (is_free_in x k) l))) in let q = extent_over_in n k j.1 (λ x l. e x (right_one (is_free_in x g) (is_free_in x h || is_free_in x k) (right_one (is_free_in x h) (is_free_in x k) l))) in omega arith
