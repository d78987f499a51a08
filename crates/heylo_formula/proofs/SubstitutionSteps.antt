-- The result of a substitution in each kind of node.
use Rattle.std.proofs.Common.{◌≡◌, ℕ, ◌<◌, refl, ap, ap₂, arith, cond, ◌==◌, ◌&&◌}
use Prim.Native.Nat.{zero, suc}
use Rattle.heylo_formula.specs.Formula.{Form, Cond, Term}
use Rattle.heylo_formula.specs.Variables.{is_free, occurs_in_term}
use Rattle.heylo_formula.specs.Sizes.{nodes, nodes_in}
use Rattle.heylo_formula.specs.Substitution.{renamed, fresh, as_form, as_cond, subst_within, subst_within_in, subst, subst_in}
use Rattle.heylo_formula.proofs.RenamedValues.{same_nodes}

mutual
  steady : (n m x : ℕ) (t : Term) (f : Form) → nodes f < n → nodes f < m → subst_within n x t f ≡ subst_within m x t f
  steady zero m x t f h0 k0 = absurd (omega arith)
  steady (suc n) zero x t f h0 k0 = absurd (omega arith)
  steady (suc n) (suc m) x t (Form.number v) h0 k0 = refl
  steady (suc n) (suc m) x t (Form.variable w) h0 k0 = refl
  steady (suc n) (suc m) x t (Form.sum a b) h0 k0 = ap₂ (λ p q. Form.sum p q) (steady n m x t a (omega arith) (omega arith)) (steady n m x t b (omega arith) (omega arith))
  steady (suc n) (suc m) x t (Form.difference a b) h0 k0 = ap₂ (λ p q. Form.difference p q) (steady n m x t a (omega arith) (omega arith)) (steady n m x t b (omega arith) (omega arith))
  steady (suc n) (suc m) x t (Form.cut a b) h0 k0 = ap₂ (λ p q. Form.cut p q) (steady n m x t a (omega arith) (omega arith)) (steady n m x t b (omega arith) (omega arith))
  steady (suc n) (suc m) x t (Form.scale w a) h0 k0 = ap (λ p. Form.scale w p) (steady n m x t a (omega arith) (omega arith))
  steady (suc n) (suc m) x t (Form.product a b span) h0 k0 = ap₂ (λ p q. Form.product p q span) (steady n m x t a (omega arith) (omega arith)) (steady n m x t b (omega arith) (omega arith))
  steady (suc n) (suc m) x t (Form.min a b) h0 k0 = ap₂ (λ p q. Form.min p q) (steady n m x t a (omega arith) (omega arith)) (steady n m x t b (omega arith) (omega arith))
  steady (suc n) (suc m) x t (Form.max a b) h0 k0 = ap₂ (λ p q. Form.max p q) (steady n m x t a (omega arith) (omega arith)) (steady n m x t b (omega arith) (omega arith))
  steady (suc n) (suc m) x t (Form.imply a b) h0 k0 = ap₂ (λ p q. Form.imply p q) (steady n m x t a (omega arith) (omega arith)) (steady n m x t b (omega arith) (omega arith))
  steady (suc n) (suc m) x t (Form.co_imply a b) h0 k0 = ap₂ (λ p q. Form.co_imply p q) (steady n m x t a (omega arith) (omega arith)) (steady n m x t b (omega arith) (omega arith))
  steady (suc n) (suc m) x t (Form.validate a) h0 k0 = ap (λ p. Form.validate p) (steady n m x t a (omega arith) (omega arith))
  steady (suc n) (suc m) x t (Form.co_validate a) h0 k0 = ap (λ p. Form.co_validate p) (steady n m x t a (omega arith) (omega arith))
  steady (suc n) (suc m) x t (Form.embed g) h0 k0 = ap (λ p. Form.embed p) (steady_in n m x t g (omega arith) (omega arith))
  steady (suc n) (suc m) x t (Form.iverson g) h0 k0 = ap (λ p. Form.iverson p) (steady_in n m x t g (omega arith) (omega arith))
  steady (suc n) (suc m) x t (Form.select g a b) h0 k0 = ap₂ (λ p (q : Form × Form). Form.select p q.0 q.1) (steady_in n m x t g (omega arith) (omega arith)) (ap₂ (λ p q. (p, q)) (steady n m x t a (omega arith) (omega arith)) (steady n m x t b (omega arith) (omega arith)))
  steady (suc n) (suc m) x t (Form.bind up w name ty a) h0 k0 = ap₂ (λ p q. cond (x == w) (Form.bind up w name ty a) (cond (occurs_in_term w t && is_free x a) (Form.bind up (fresh a t) name ty p) (Form.bind up w name ty q))) (steady n m x t (renamed w (fresh a t) a) (let e = same_nodes w (fresh a t) a in omega arith) (let e = same_nodes w (fresh a t) a in omega arith)) (steady n m x t a (omega arith) (omega arith))

  steady_in : (n m x : ℕ) (t : Term) (g : Cond) → nodes_in g < n → nodes_in g < m → subst_within_in n x t g ≡ subst_within_in m x t g
  steady_in zero m x t g h0 k0 = absurd (omega arith)
  steady_in (suc n) zero x t g h0 k0 = absurd (omega arith)
  steady_in (suc n) (suc m) x t (Cond.constant b) h0 k0 = refl
  steady_in (suc n) (suc m) x t (Cond.flag w) h0 k0 = refl
  steady_in (suc n) (suc m) x t (Cond.not g) h0 k0 = ap (λ p. Cond.not p) (steady_in n m x t g (omega arith) (omega arith))
  steady_in (suc n) (suc m) x t (Cond.and g h) h0 k0 = ap₂ (λ p q. Cond.and p q) (steady_in n m x t g (omega arith) (omega arith)) (steady_in n m x t h (omega arith) (omega arith))
  steady_in (suc n) (suc m) x t (Cond.or g h) h0 k0 = ap₂ (λ p q. Cond.or p q) (steady_in n m x t g (omega arith) (omega arith)) (steady_in n m x t h (omega arith) (omega arith))
  steady_in (suc n) (suc m) x t (Cond.same g h) h0 k0 = ap₂ (λ p q. Cond.same p q) (steady_in n m x t g (omega arith) (omega arith)) (steady_in n m x t h (omega arith) (omega arith))
  steady_in (suc n) (suc m) x t (Cond.le a b) h0 k0 = ap₂ (λ p q. Cond.le p q) (steady n m x t a (omega arith) (omega arith)) (steady n m x t b (omega arith) (omega arith))
  steady_in (suc n) (suc m) x t (Cond.lt a b) h0 k0 = ap₂ (λ p q. Cond.lt p q) (steady n m x t a (omega arith) (omega arith)) (steady n m x t b (omega arith) (omega arith))
  steady_in (suc n) (suc m) x t (Cond.equal a b) h0 k0 = ap₂ (λ p q. Cond.equal p q) (steady n m x t a (omega arith) (omega arith)) (steady n m x t b (omega arith) (omega arith))
  steady_in (suc n) (suc m) x t (Cond.ite g h k) h0 k0 = ap₂ (λ p (q : Cond × Cond). Cond.ite p q.0 q.1) (steady_in n m x t g (omega arith) (omega arith)) (ap₂ (λ p q. (p, q)) (steady_in n m x t h (omega arith) (omega arith)) (steady_in n m x t k (omega arith) (omega arith)))

settle : (n x : ℕ) (t : Term) (f : Form) → nodes f < n → subst_within n x t f ≡ subst x t f
unfolding subst
settle n x t f h = steady n (suc (nodes f)) x t f h (omega arith)

settle_in : (n x : ℕ) (t : Term) (g : Cond) → nodes_in g < n → subst_within_in n x t g ≡ subst_in x t g
unfolding subst_in
settle_in n x t g h = steady_in n (suc (nodes_in g)) x t g h (omega arith)

pub subst_number : (x : ℕ) (t : Term) (v : _) → subst x t (Form.number v) ≡ Form.number v
unfolding subst
subst_number x t v = refl

pub subst_variable : (x : ℕ) (t : Term) (w : ℕ) → subst x t (Form.variable w) ≡ cond (x == w) (as_form t) (Form.variable w)
unfolding subst
subst_variable x t w = refl

pub subst_sum : (x : ℕ) (t : Term) (a : Form) (b : Form) → subst x t (Form.sum a b) ≡ Form.sum (subst x t a) (subst x t b)
unfolding subst
subst_sum x t a b = ap₂ (λ p q. Form.sum p q) (settle (nodes (Form.sum a b)) x t a (omega arith)) (settle (nodes (Form.sum a b)) x t b (omega arith))

pub subst_difference : (x : ℕ) (t : Term) (a : Form) (b : Form) → subst x t (Form.difference a b) ≡ Form.difference (subst x t a) (subst x t b)
unfolding subst
subst_difference x t a b = ap₂ (λ p q. Form.difference p q) (settle (nodes (Form.difference a b)) x t a (omega arith)) (settle (nodes (Form.difference a b)) x t b (omega arith))

pub subst_cut : (x : ℕ) (t : Term) (a : Form) (b : Form) → subst x t (Form.cut a b) ≡ Form.cut (subst x t a) (subst x t b)
unfolding subst
subst_cut x t a b = ap₂ (λ p q. Form.cut p q) (settle (nodes (Form.cut a b)) x t a (omega arith)) (settle (nodes (Form.cut a b)) x t b (omega arith))

pub subst_scale : (x : ℕ) (t : Term) (w : _) (a : Form) → subst x t (Form.scale w a) ≡ Form.scale w (subst x t a)
unfolding subst
subst_scale x t w a = ap (λ p. Form.scale w p) (settle (nodes (Form.scale w a)) x t a (omega arith))

pub subst_product : (x : ℕ) (t : Term) (a : Form) (b : Form) (span : _) → subst x t (Form.product a b span) ≡ Form.product (subst x t a) (subst x t b) span
unfolding subst
subst_product x t a b span = ap₂ (λ p q. Form.product p q span) (settle (nodes (Form.product a b span)) x t a (omega arith)) (settle (nodes (Form.product a b span)) x t b (omega arith))

pub subst_min : (x : ℕ) (t : Term) (a : Form) (b : Form) → subst x t (Form.min a b) ≡ Form.min (subst x t a) (subst x t b)
unfolding subst
subst_min x t a b = ap₂ (λ p q. Form.min p q) (settle (nodes (Form.min a b)) x t a (omega arith)) (settle (nodes (Form.min a b)) x t b (omega arith))

pub subst_max : (x : ℕ) (t : Term) (a : Form) (b : Form) → subst x t (Form.max a b) ≡ Form.max (subst x t a) (subst x t b)
unfolding subst
subst_max x t a b = ap₂ (λ p q. Form.max p q) (settle (nodes (Form.max a b)) x t a (omega arith)) (settle (nodes (Form.max a b)) x t b (omega arith))

pub subst_imply : (x : ℕ) (t : Term) (a : Form) (b : Form) → subst x t (Form.imply a b) ≡ Form.imply (subst x t a) (subst x t b)
unfolding subst
subst_imply x t a b = ap₂ (λ p q. Form.imply p q) (settle (nodes (Form.imply a b)) x t a (omega arith)) (settle (nodes (Form.imply a b)) x t b (omega arith))

pub subst_co_imply : (x : ℕ) (t : Term) (a : Form) (b : Form) → subst x t (Form.co_imply a b) ≡ Form.co_imply (subst x t a) (subst x t b)
unfolding subst
subst_co_imply x t a b = ap₂ (λ p q. Form.co_imply p q) (settle (nodes (Form.co_imply a b)) x t a (omega arith)) (settle (nodes (Form.co_imply a b)) x t b (omega arith))

pub subst_validate : (x : ℕ) (t : Term) (a : Form) → subst x t (Form.validate a) ≡ Form.validate (subst x t a)
unfolding subst
subst_validate x t a = ap (λ p. Form.validate p) (settle (nodes (Form.validate a)) x t a (omega arith))

pub subst_co_validate : (x : ℕ) (t : Term) (a : Form) → subst x t (Form.co_validate a) ≡ Form.co_validate (subst x t a)
unfolding subst
subst_co_validate x t a = ap (λ p. Form.co_validate p) (settle (nodes (Form.co_validate a)) x t a (omega arith))

pub subst_embed : (x : ℕ) (t : Term) (g : Cond) → subst x t (Form.embed g) ≡ Form.embed (subst_in x t g)
unfolding subst
subst_embed x t g = ap (λ p. Form.embed p) (settle_in (nodes (Form.embed g)) x t g (omega arith))

pub subst_iverson : (x : ℕ) (t : Term) (g : Cond) → subst x t (Form.iverson g) ≡ Form.iverson (subst_in x t g)
unfolding subst
subst_iverson x t g = ap (λ p. Form.iverson p) (settle_in (nodes (Form.iverson g)) x t g (omega arith))

pub subst_select : (x : ℕ) (t : Term) (g : Cond) (a : Form) (b : Form) → subst x t (Form.select g a b) ≡ Form.select (subst_in x t g) (subst x t a) (subst x t b)
unfolding subst
subst_select x t g a b = ap₂ (λ p (q : Form × Form). Form.select p q.0 q.1) (settle_in (nodes (Form.select g a b)) x t g (omega arith)) (ap₂ (λ p q. (p, q)) (settle (nodes (Form.select g a b)) x t a (omega arith)) (settle (nodes (Form.select g a b)) x t b (omega arith)))

pub subst_bind : (x : ℕ) (t : Term) (up : _) (w : ℕ) (name : ℕ) (ty : _) (a : Form) → subst x t (Form.bind up w name ty a) ≡ cond (x == w) (Form.bind up w name ty a) (cond (occurs_in_term w t && is_free x a) (Form.bind up (fresh a t) name ty (subst x t (renamed w (fresh a t) a))) (Form.bind up w name ty (subst x t a)))
unfolding subst
subst_bind x t up w name ty a = ap₂ (λ p q. cond (x == w) (Form.bind up w name ty a) (cond (occurs_in_term w t && is_free x a) (Form.bind up (fresh a t) name ty p) (Form.bind up w name ty q))) (settle (nodes (Form.bind up w name ty a)) x t (renamed w (fresh a t) a) (let e = same_nodes w (fresh a t) a in omega arith)) (settle (nodes (Form.bind up w name ty a)) x t a (omega arith))

pub subst_in_constant : (x : ℕ) (t : Term) (b : _) → subst_in x t (Cond.constant b) ≡ Cond.constant b
unfolding subst_in
subst_in_constant x t b = refl

pub subst_in_flag : (x : ℕ) (t : Term) (w : ℕ) → subst_in x t (Cond.flag w) ≡ cond (x == w) (as_cond t) (Cond.flag w)
unfolding subst_in
subst_in_flag x t w = refl

pub subst_in_not : (x : ℕ) (t : Term) (g : Cond) → subst_in x t (Cond.not g) ≡ Cond.not (subst_in x t g)
unfolding subst_in
subst_in_not x t g = ap (λ p. Cond.not p) (settle_in (nodes_in (Cond.not g)) x t g (omega arith))

pub subst_in_and : (x : ℕ) (t : Term) (g : Cond) (h : Cond) → subst_in x t (Cond.and g h) ≡ Cond.and (subst_in x t g) (subst_in x t h)
unfolding subst_in
subst_in_and x t g h = ap₂ (λ p q. Cond.and p q) (settle_in (nodes_in (Cond.and g h)) x t g (omega arith)) (settle_in (nodes_in (Cond.and g h)) x t h (omega arith))

pub subst_in_or : (x : ℕ) (t : Term) (g : Cond) (h : Cond) → subst_in x t (Cond.or g h) ≡ Cond.or (subst_in x t g) (subst_in x t h)
unfolding subst_in
subst_in_or x t g h = ap₂ (λ p q. Cond.or p q) (settle_in (nodes_in (Cond.or g h)) x t g (omega arith)) (settle_in (nodes_in (Cond.or g h)) x t h (omega arith))

pub subst_in_same : (x : ℕ) (t : Term) (g : Cond) (h : Cond) → subst_in x t (Cond.same g h) ≡ Cond.same (subst_in x t g) (subst_in x t h)
unfolding subst_in
subst_in_same x t g h = ap₂ (λ p q. Cond.same p q) (settle_in (nodes_in (Cond.same g h)) x t g (omega arith)) (settle_in (nodes_in (Cond.same g h)) x t h (omega arith))

pub subst_in_le : (x : ℕ) (t : Term) (a : Form) (b : Form) → subst_in x t (Cond.le a b) ≡ Cond.le (subst x t a) (subst x t b)
unfolding subst_in
subst_in_le x t a b = ap₂ (λ p q. Cond.le p q) (settle (nodes_in (Cond.le a b)) x t a (omega arith)) (settle (nodes_in (Cond.le a b)) x t b (omega arith))

pub subst_in_lt : (x : ℕ) (t : Term) (a : Form) (b : Form) → subst_in x t (Cond.lt a b) ≡ Cond.lt (subst x t a) (subst x t b)
unfolding subst_in
subst_in_lt x t a b = ap₂ (λ p q. Cond.lt p q) (settle (nodes_in (Cond.lt a b)) x t a (omega arith)) (settle (nodes_in (Cond.lt a b)) x t b (omega arith))

pub subst_in_equal : (x : ℕ) (t : Term) (a : Form) (b : Form) → subst_in x t (Cond.equal a b) ≡ Cond.equal (subst x t a) (subst x t b)
unfolding subst_in
subst_in_equal x t a b = ap₂ (λ p q. Cond.equal p q) (settle (nodes_in (Cond.equal a b)) x t a (omega arith)) (settle (nodes_in (Cond.equal a b)) x t b (omega arith))

pub subst_in_ite : (x : ℕ) (t : Term) (g : Cond) (h : Cond) (k : Cond) → subst_in x t (Cond.ite g h k) ≡ Cond.ite (subst_in x t g) (subst_in x t h) (subst_in x t k)
unfolding subst_in
subst_in_ite x t g h k = ap₂ (λ p (q : Cond × Cond). Cond.ite p q.0 q.1) (settle_in (nodes_in (Cond.ite g h k)) x t g (omega arith)) (ap₂ (λ p q. (p, q)) (settle_in (nodes_in (Cond.ite g h k)) x t h (omega arith)) (settle_in (nodes_in (Cond.ite g h k)) x t k (omega arith)))

pub ruleset substitutions = (subst_number, subst_variable, subst_sum, subst_difference, subst_cut, subst_scale, subst_product, subst_min, subst_max, subst_imply, subst_co_imply, subst_validate, subst_co_validate, subst_embed, subst_iverson, subst_select, subst_bind, subst_in_constant, subst_in_flag, subst_in_not, subst_in_and, subst_in_or, subst_in_same, subst_in_le, subst_in_lt, subst_in_equal, subst_in_ite)
