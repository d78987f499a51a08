-- Forms made of formulas and acts have the places of their products, and no other places.
use Rattle.std.proofs.Common.{ap, arith, ◌≡◌, ◌≤◌, ◌+◌, ◌==◌, ◌&&◌, ℕ, Bool, true, false, List, [], ◌∷◌, length}
use Rattle.std.specs.Prelude.{Option, Some, None, if◌then◌else◌}
use Rattle.std.specs.Option.{option_or}
use Prim.Native.Nat.{zero, suc}
use Rattle.heyvl_num.specs.Rational.{Rational}
use Rattle.heyvl_places.specs.declared.spans.Span.{Span}
use Rattle.heyvl_places.specs.declared.checks.CheckKind.{CheckKind}
use Rattle.heylo_formula.specs.BinderNames.{binders, binders_in}
use Rattle.heylo_formula.specs.Formula.{Form, Cond, Term}
use Rattle.heylo_formula.specs.Shifts.{shifted, shifted_in}
use Rattle.heylo_formula.specs.Substitution.{as_cond, as_form, fresh, renamed, renamed_in, subst, subst_within, subst_within_in}
use Rattle.heylo_formula.specs.Variables.{is_free, occurs_in_term}
use Rattle.heylo_formula.specs.Sizes.{nodes}
use Rattle.heyvl_acts.specs.Acts.{Act, Acts, Arms}
use Rattle.heyvl_acts.specs.Places.{in_order, inside, inside_arms}
use Rattle.heyvl_acts.specs.Rules.{Each}
use Rattle.heylo_formula.specs.NumericVariables.{has_variable}
use Rattle.linear_form.specs.Nonlinear.{first_product, first_product_in, product_at}
use Rattle.heyvl_acts.specs.StandingParts.{ActStands, CondStands, FormStands, GuardsStand, TermStands}
use Rattle.loop_encodings.proofs.exported.FromRules.{each_first, each_second}
use Rattle.vp_generator.specs.GeneratedForms.{check_form, draw_form, part_form, pick_form, sum_of_parts, toss_form, validate_form, vp, vp_act, vp_arms}
use Rattle.vp_generator.specs.PrenexedForms.{Numbering, renumbered, unbound, unbound_in}

if_stands : (n : ℕ) (b : Bool) (f g : Form) → FormStands n f → FormStands n g → FormStands n (if b then f else g)
if_stands n true f g h k = h
if_stands n false f g h k = k

if_stands_in : (n : ℕ) (b : Bool) (f g : Cond) → CondStands n f → CondStands n g → CondStands n (if b then f else g)
if_stands_in n true f g h k = h
if_stands_in n false f g h k = k

-- ---- With other numbers of variables

mutual
  pub shifted_stands : (n : ℕ) (m : ℕ) (f : Form) → FormStands n f → FormStands n (shifted m f)
  shifted_stands n m (Form.number v) h = tt
  shifted_stands n m (Form.variable x) h = tt
  shifted_stands n m (Form.sum a b) h = (shifted_stands n m a h.0, shifted_stands n m b h.1)
  shifted_stands n m (Form.difference a b) h = (shifted_stands n m a h.0, shifted_stands n m b h.1)
  shifted_stands n m (Form.cut a b) h = (shifted_stands n m a h.0, shifted_stands n m b h.1)
  shifted_stands n m (Form.min a b) h = (shifted_stands n m a h.0, shifted_stands n m b h.1)
  shifted_stands n m (Form.max a b) h = (shifted_stands n m a h.0, shifted_stands n m b h.1)
  shifted_stands n m (Form.imply a b) h = (shifted_stands n m a h.0, shifted_stands n m b h.1)
  shifted_stands n m (Form.co_imply a b) h = (shifted_stands n m a h.0, shifted_stands n m b h.1)
  shifted_stands n m (Form.scale w a) h = shifted_stands n m a h
  shifted_stands n m (Form.product a b span) h = (h.0, (shifted_stands n m a h.1.0, shifted_stands n m b h.1.1))
  shifted_stands n m (Form.validate a) h = shifted_stands n m a h
  shifted_stands n m (Form.co_validate a) h = shifted_stands n m a h
  shifted_stands n m (Form.embed g) h = shifted_stands_in n m g h
  shifted_stands n m (Form.iverson g) h = shifted_stands_in n m g h
  shifted_stands n m (Form.select g a b) h = (shifted_stands_in n m g h.0, (shifted_stands n m a h.1.0, shifted_stands n m b h.1.1))
  shifted_stands n m (Form.bind up w name ty a) h = shifted_stands n m a h

  pub shifted_stands_in : (n : ℕ) (m : ℕ) (g : Cond) → CondStands n g → CondStands n (shifted_in m g)
  shifted_stands_in n m (Cond.constant b) h = tt
  shifted_stands_in n m (Cond.flag x) h = tt
  shifted_stands_in n m (Cond.not g) h = shifted_stands_in n m g h
  shifted_stands_in n m (Cond.and g k) h = (shifted_stands_in n m g h.0, shifted_stands_in n m k h.1)
  shifted_stands_in n m (Cond.or g k) h = (shifted_stands_in n m g h.0, shifted_stands_in n m k h.1)
  shifted_stands_in n m (Cond.same g k) h = (shifted_stands_in n m g h.0, shifted_stands_in n m k h.1)
  shifted_stands_in n m (Cond.le a b) h = (shifted_stands n m a h.0, shifted_stands n m b h.1)
  shifted_stands_in n m (Cond.lt a b) h = (shifted_stands n m a h.0, shifted_stands n m b h.1)
  shifted_stands_in n m (Cond.equal a b) h = (shifted_stands n m a h.0, shifted_stands n m b h.1)
  shifted_stands_in n m (Cond.ite g k l) h = (shifted_stands_in n m g h.0, (shifted_stands_in n m k h.1.0, shifted_stands_in n m l h.1.1))

-- ---- With other binders

mutual
  pub renamed_stands : (n : ℕ) (y z : ℕ) (f : Form) → FormStands n f → FormStands n (renamed y z f)
  renamed_stands n y z (Form.number v) h = tt
  renamed_stands n y z (Form.variable x) h = if_stands n (y == x) (Form.variable z) (Form.variable x) tt tt
  renamed_stands n y z (Form.sum a b) h = (renamed_stands n y z a h.0, renamed_stands n y z b h.1)
  renamed_stands n y z (Form.difference a b) h = (renamed_stands n y z a h.0, renamed_stands n y z b h.1)
  renamed_stands n y z (Form.cut a b) h = (renamed_stands n y z a h.0, renamed_stands n y z b h.1)
  renamed_stands n y z (Form.min a b) h = (renamed_stands n y z a h.0, renamed_stands n y z b h.1)
  renamed_stands n y z (Form.max a b) h = (renamed_stands n y z a h.0, renamed_stands n y z b h.1)
  renamed_stands n y z (Form.imply a b) h = (renamed_stands n y z a h.0, renamed_stands n y z b h.1)
  renamed_stands n y z (Form.co_imply a b) h = (renamed_stands n y z a h.0, renamed_stands n y z b h.1)
  renamed_stands n y z (Form.scale w a) h = renamed_stands n y z a h
  renamed_stands n y z (Form.product a b span) h = (h.0, (renamed_stands n y z a h.1.0, renamed_stands n y z b h.1.1))
  renamed_stands n y z (Form.validate a) h = renamed_stands n y z a h
  renamed_stands n y z (Form.co_validate a) h = renamed_stands n y z a h
  renamed_stands n y z (Form.embed g) h = renamed_stands_in n y z g h
  renamed_stands n y z (Form.iverson g) h = renamed_stands_in n y z g h
  renamed_stands n y z (Form.select g a b) h = (renamed_stands_in n y z g h.0, (renamed_stands n y z a h.1.0, renamed_stands n y z b h.1.1))
  renamed_stands n y z (Form.bind up w name ty a) h = if_stands n (y == w) a (renamed y z a) h (renamed_stands n y z a h)

  pub renamed_stands_in : (n : ℕ) (y z : ℕ) (g : Cond) → CondStands n g → CondStands n (renamed_in y z g)
  renamed_stands_in n y z (Cond.constant b) h = tt
  renamed_stands_in n y z (Cond.flag x) h = if_stands_in n (y == x) (Cond.flag z) (Cond.flag x) tt tt
  renamed_stands_in n y z (Cond.not g) h = renamed_stands_in n y z g h
  renamed_stands_in n y z (Cond.and g k) h = (renamed_stands_in n y z g h.0, renamed_stands_in n y z k h.1)
  renamed_stands_in n y z (Cond.or g k) h = (renamed_stands_in n y z g h.0, renamed_stands_in n y z k h.1)
  renamed_stands_in n y z (Cond.same g k) h = (renamed_stands_in n y z g h.0, renamed_stands_in n y z k h.1)
  renamed_stands_in n y z (Cond.le a b) h = (renamed_stands n y z a h.0, renamed_stands n y z b h.1)
  renamed_stands_in n y z (Cond.lt a b) h = (renamed_stands n y z a h.0, renamed_stands n y z b h.1)
  renamed_stands_in n y z (Cond.equal a b) h = (renamed_stands n y z a h.0, renamed_stands n y z b h.1)
  renamed_stands_in n y z (Cond.ite g k l) h = (renamed_stands_in n y z g h.0, (renamed_stands_in n y z k h.1.0, renamed_stands_in n y z l h.1.1))

-- ---- Without binders

mutual
  pub unbound_stands : (n : ℕ) (m : Numbering) (k : ℕ) (f : Form) → FormStands n f → FormStands n (unbound m k f)
  unbound_stands n m k (Form.number v) h = tt
  unbound_stands n m k (Form.variable x) h = tt
  unbound_stands n m k (Form.sum a b) h = (unbound_stands n m k a h.0, unbound_stands n m (k + length (binders a)) b h.1)
  unbound_stands n m k (Form.difference a b) h = (unbound_stands n m k a h.0, unbound_stands n m (k + length (binders a)) b h.1)
  unbound_stands n m k (Form.cut a b) h = (unbound_stands n m k a h.0, unbound_stands n m (k + length (binders a)) b h.1)
  unbound_stands n m k (Form.min a b) h = (unbound_stands n m k a h.0, unbound_stands n m (k + length (binders a)) b h.1)
  unbound_stands n m k (Form.max a b) h = (unbound_stands n m k a h.0, unbound_stands n m (k + length (binders a)) b h.1)
  unbound_stands n m k (Form.imply a b) h = (unbound_stands n m k a h.0, unbound_stands n m (k + length (binders a)) b h.1)
  unbound_stands n m k (Form.co_imply a b) h = (unbound_stands n m k a h.0, unbound_stands n m (k + length (binders a)) b h.1)
  unbound_stands n m k (Form.scale w a) h = unbound_stands n m k a h
  unbound_stands n m k (Form.product a b span) h = (h.0, (unbound_stands n m k a h.1.0, unbound_stands n m (k + length (binders a)) b h.1.1))
  unbound_stands n m k (Form.validate a) h = unbound_stands n m k a h
  unbound_stands n m k (Form.co_validate a) h = unbound_stands n m k a h
  unbound_stands n m k (Form.embed g) h = unbound_stands_in n m k g h
  unbound_stands n m k (Form.iverson g) h = unbound_stands_in n m k g h
  unbound_stands n m k (Form.select g a b) h = (unbound_stands_in n m k g h.0, (unbound_stands n m (k + length (binders_in g)) a h.1.0, unbound_stands n m (k + length (binders_in g) + length (binders a)) b h.1.1))
  unbound_stands n m k (Form.bind up w name ty a) h = unbound_stands n (renumbered w k m) (suc k) a h

  pub unbound_stands_in : (n : ℕ) (m : Numbering) (k : ℕ) (g : Cond) → CondStands n g → CondStands n (unbound_in m k g)
  unbound_stands_in n m k (Cond.constant b) h = tt
  unbound_stands_in n m k (Cond.flag x) h = tt
  unbound_stands_in n m k (Cond.not g) h = unbound_stands_in n m k g h
  unbound_stands_in n m k (Cond.and g e) h = (unbound_stands_in n m k g h.0, unbound_stands_in n m (k + length (binders_in g)) e h.1)
  unbound_stands_in n m k (Cond.or g e) h = (unbound_stands_in n m k g h.0, unbound_stands_in n m (k + length (binders_in g)) e h.1)
  unbound_stands_in n m k (Cond.same g e) h = (unbound_stands_in n m k g h.0, unbound_stands_in n m (k + length (binders_in g)) e h.1)
  unbound_stands_in n m k (Cond.le a b) h = (unbound_stands n m k a h.0, unbound_stands n m (k + length (binders a)) b h.1)
  unbound_stands_in n m k (Cond.lt a b) h = (unbound_stands n m k a h.0, unbound_stands n m (k + length (binders a)) b h.1)
  unbound_stands_in n m k (Cond.equal a b) h = (unbound_stands n m k a h.0, unbound_stands n m (k + length (binders a)) b h.1)
  unbound_stands_in n m k (Cond.ite g e l) h = (unbound_stands_in n m k g h.0, (unbound_stands_in n m (k + length (binders_in g)) e h.1.0, unbound_stands_in n m (k + length (binders_in g) + length (binders_in e)) l h.1.1))

-- ---- With a term for a variable

mutual
  pub within_stands : (n : ℕ) (c x : ℕ) (t : Term) (f : Form) → FormStands n (as_form t) → CondStands n (as_cond t) → FormStands n f → FormStands n (subst_within c x t f)
  within_stands n zero x t f i j h = h
  within_stands n (suc c) x t (Form.number v) i j h = tt
  within_stands n (suc c) x t (Form.variable y) i j h = if_stands n (x == y) (as_form t) (Form.variable y) i tt
  within_stands n (suc c) x t (Form.sum a b) i j h = (within_stands n c x t a i j h.0, within_stands n c x t b i j h.1)
  within_stands n (suc c) x t (Form.difference a b) i j h = (within_stands n c x t a i j h.0, within_stands n c x t b i j h.1)
  within_stands n (suc c) x t (Form.cut a b) i j h = (within_stands n c x t a i j h.0, within_stands n c x t b i j h.1)
  within_stands n (suc c) x t (Form.min a b) i j h = (within_stands n c x t a i j h.0, within_stands n c x t b i j h.1)
  within_stands n (suc c) x t (Form.max a b) i j h = (within_stands n c x t a i j h.0, within_stands n c x t b i j h.1)
  within_stands n (suc c) x t (Form.imply a b) i j h = (within_stands n c x t a i j h.0, within_stands n c x t b i j h.1)
  within_stands n (suc c) x t (Form.co_imply a b) i j h = (within_stands n c x t a i j h.0, within_stands n c x t b i j h.1)
  within_stands n (suc c) x t (Form.scale w a) i j h = within_stands n c x t a i j h
  within_stands n (suc c) x t (Form.product a b span) i j h = (h.0, (within_stands n c x t a i j h.1.0, within_stands n c x t b i j h.1.1))
  within_stands n (suc c) x t (Form.validate a) i j h = within_stands n c x t a i j h
  within_stands n (suc c) x t (Form.co_validate a) i j h = within_stands n c x t a i j h
  within_stands n (suc c) x t (Form.embed g) i j h = within_stands_in n c x t g i j h
  within_stands n (suc c) x t (Form.iverson g) i j h = within_stands_in n c x t g i j h
  within_stands n (suc c) x t (Form.select g a b) i j h = (within_stands_in n c x t g i j h.0, (within_stands n c x t a i j h.1.0, within_stands n c x t b i j h.1.1))
  within_stands n (suc c) x t (Form.bind up w name ty a) i j h = if_stands n (x == w) (Form.bind up w name ty a) (if occurs_in_term w t && is_free x a then Form.bind up (fresh a t) name ty (subst_within c x t (renamed w (fresh a t) a)) else Form.bind up w name ty (subst_within c x t a)) h (if_stands n (occurs_in_term w t && is_free x a) (Form.bind up (fresh a t) name ty (subst_within c x t (renamed w (fresh a t) a))) (Form.bind up w name ty (subst_within c x t a)) (within_stands n c x t (renamed w (fresh a t) a) i j (renamed_stands n w (fresh a t) a h)) (within_stands n c x t a i j h))

  pub within_stands_in : (n : ℕ) (c x : ℕ) (t : Term) (g : Cond) → FormStands n (as_form t) → CondStands n (as_cond t) → CondStands n g → CondStands n (subst_within_in c x t g)
  within_stands_in n zero x t g i j h = h
  within_stands_in n (suc c) x t (Cond.constant b) i j h = tt
  within_stands_in n (suc c) x t (Cond.flag y) i j h = if_stands_in n (x == y) (as_cond t) (Cond.flag y) j tt
  within_stands_in n (suc c) x t (Cond.not g) i j h = within_stands_in n c x t g i j h
  within_stands_in n (suc c) x t (Cond.and g k) i j h = (within_stands_in n c x t g i j h.0, within_stands_in n c x t k i j h.1)
  within_stands_in n (suc c) x t (Cond.or g k) i j h = (within_stands_in n c x t g i j h.0, within_stands_in n c x t k i j h.1)
  within_stands_in n (suc c) x t (Cond.same g k) i j h = (within_stands_in n c x t g i j h.0, within_stands_in n c x t k i j h.1)
  within_stands_in n (suc c) x t (Cond.le a b) i j h = (within_stands n c x t a i j h.0, within_stands n c x t b i j h.1)
  within_stands_in n (suc c) x t (Cond.lt a b) i j h = (within_stands n c x t a i j h.0, within_stands n c x t b i j h.1)
  within_stands_in n (suc c) x t (Cond.equal a b) i j h = (within_stands n c x t a i j h.0, within_stands n c x t b i j h.1)
  within_stands_in n (suc c) x t (Cond.ite g k l) i j h = (within_stands_in n c x t g i j h.0, (within_stands_in n c x t k i j h.1.0, within_stands_in n c x t l i j h.1.1))

term_form : (n : ℕ) (t : Term) → TermStands n t → FormStands n (as_form t)
term_form n (Term.truth g) h = tt
term_form n (Term.number f) h = h

term_cond : (n : ℕ) (t : Term) → TermStands n t → CondStands n (as_cond t)
term_cond n (Term.truth g) h = h
term_cond n (Term.number f) h = tt

put_stands : (n x : ℕ) (t : Term) (f : Form) → TermStands n t → FormStands n f → FormStands n (subst x t f)
unfolding subst
put_stands n x t f i h = within_stands n (suc (nodes f)) x t f (term_form n t i) (term_cond n t i) h

-- ---- The generated form

sum_stands : (n x : ℕ) (ps : List (Rational × Term)) (k total : Form) → Each (λ q. TermStands n q.1) ps → FormStands n k → FormStands n total → FormStands n (sum_of_parts x ps k total)
sum_stands n x [] k total h i j = j
sum_stands n x (p ∷ ps) k total h i j = sum_stands n x ps k (Form.sum total (part_form x p k)) h.1 i (j, put_stands n x p.1 k h.0 i)

draw_stands : (n x : ℕ) (ps : List (Rational × Term)) (k : Form) → Each (λ q. TermStands n q.1) ps → FormStands n k → FormStands n (draw_form x ps k)
draw_stands n x [] k h i = tt
draw_stands n x (p ∷ ps) k h i = sum_stands n x ps k (part_form x p k) h.1 i (put_stands n x p.1 k h.0 i)

-- Both products of a flip have its place.
toss_stands : (n x : ℕ) (f : Form) (span : Span) (k : Form) → span.from ≤ n → FormStands n f → FormStands n k → FormStands n (toss_form x f span k)
toss_stands n x f span k l h i = ((l, ((h, tt), put_stands n x (Term.truth (Cond.constant true)) k tt i)), (l, ((tt, (h, tt)), put_stands n x (Term.truth (Cond.constant false)) k tt i)))

pick_stands : (n : ℕ) (up : Bool) (a b : Form) → FormStands n a → FormStands n b → FormStands n (pick_form up a b)
pick_stands n true a b h k = (h, k)
pick_stands n false a b h k = (h, k)

check_stands : (n : ℕ) (kind : CheckKind) (f k : Form) → FormStands n f → FormStands n k → FormStands n (check_form kind f k)
check_stands n CheckKind.Assert f k h i = (h, i)
check_stands n CheckKind.Assume f k h i = (h, i)
check_stands n CheckKind.CoAssert f k h i = (h, i)
check_stands n CheckKind.CoAssume f k h i = (h, i)

validate_stands : (n : ℕ) (co : Bool) (k : Form) → FormStands n k → FormStands n (validate_form co k)
validate_stands n true k h = h
validate_stands n false k h = h

mutual
  pub vp_stands : (n : ℕ) (acts : Acts) (k : Form) → Each (ActStands n) (in_order acts) → FormStands n k → FormStands n (vp acts k)
  vp_stands n Acts.done k h i = i
  vp_stands n (Acts.next a rest) k h i = vp_stands_in n a (vp rest k) h.0 (each_first (ActStands n) (inside a) (in_order rest) h.1) (vp_stands n rest k (each_second (ActStands n) (inside a) (in_order rest) h.1) i)

  vp_stands_in : (n : ℕ) (a : Act) (k : Form) → ActStands n a → Each (ActStands n) (inside a) → FormStands n k → FormStands n (vp_act a k)
  vp_stands_in n (Act.set x t span) k h j i = put_stands n x t k h.1 i
  vp_stands_in n (Act.draw x ps span) k h j i = draw_stands n x ps k h.1 i
  vp_stands_in n (Act.toss x f span) k h j i = toss_stands n x f span k h.0 h.1 i
  vp_stands_in n (Act.any x up ty span) k h j i = i
  vp_stands_in n (Act.reward f span) k h j i = (i, h.1)
  vp_stands_in n (Act.ifs arms e span) k h j i = vp_stands_arms n arms k (vp e k) h.1 (each_first (ActStands n) (inside_arms arms) (in_order e) j) i (vp_stands n e k (each_second (ActStands n) (inside_arms arms) (in_order e) j) i)
  vp_stands_in n (Act.pick up a b span) k h j i = pick_stands n up (vp a k) (vp b k) (vp_stands n a k (each_first (ActStands n) (in_order a) (in_order b) j) i) (vp_stands n b k (each_second (ActStands n) (in_order a) (in_order b) j) i)
  vp_stands_in n (Act.check kind f span) k h j i = check_stands n kind f k h.1 i
  vp_stands_in n (Act.validate co span) k h j i = validate_stands n co k i
  vp_stands_in n (Act.loop g b) k h j i = tt
  vp_stands_in n (Act.call xs q es span) k h j i = tt

  vp_stands_arms : (n : ℕ) (arms : Arms) (k otherwise : Form) → GuardsStand n arms → Each (ActStands n) (inside_arms arms) → FormStands n k → FormStands n otherwise → FormStands n (vp_arms arms k otherwise)
  vp_stands_arms n Arms.no_arm k otherwise h j i l = l
  vp_stands_arms n (Arms.arm g b more) k otherwise h j i l = (h.0, (vp_stands n b k (each_first (ActStands n) (in_order b) (inside_arms more) j) i, vp_stands_arms n more k otherwise h.1 (each_second (ActStands n) (in_order b) (inside_arms more) j) i l))

-- ---- The first nonlinear product

pub or_stands : (n : ℕ) (a b : Option Span) (s : Span) → (a ≡ Some s → s.from ≤ n) → (b ≡ Some s → s.from ≤ n) → option_or a b ≡ Some s → s.from ≤ n
or_stands n None b s f g e = g e
or_stands n (Some r) b s f g e = f e

same_span : (a b : Span) → Some a ≡ Some b → a ≡ b
same_span a b e = cc

at_stands : (n : ℕ) (both : Bool) (r s : Span) → r.from ≤ n → product_at both r ≡ Some s → s.from ≤ n
at_stands n true r s h e = let k : r.from ≡ s.from = ap (λ (x : Span). x.from) (same_span r s e) in omega (arith, k, h)
at_stands n false r s h e = absurd (cc)

mutual
  pub product_stands : (n : ℕ) (f : Form) (s : Span) → FormStands n f → first_product f ≡ Some s → s.from ≤ n
  product_stands n (Form.number v) s h e = absurd (cc)
  product_stands n (Form.variable x) s h e = absurd (cc)
  product_stands n (Form.sum a b) s h e = or_stands n (first_product a) (first_product b) s (product_stands n a s h.0) (product_stands n b s h.1) e
  product_stands n (Form.difference a b) s h e = or_stands n (first_product a) (first_product b) s (product_stands n a s h.0) (product_stands n b s h.1) e
  product_stands n (Form.cut a b) s h e = or_stands n (first_product a) (first_product b) s (product_stands n a s h.0) (product_stands n b s h.1) e
  product_stands n (Form.min a b) s h e = or_stands n (first_product a) (first_product b) s (product_stands n a s h.0) (product_stands n b s h.1) e
  product_stands n (Form.max a b) s h e = or_stands n (first_product a) (first_product b) s (product_stands n a s h.0) (product_stands n b s h.1) e
  product_stands n (Form.imply a b) s h e = or_stands n (first_product a) (first_product b) s (product_stands n a s h.0) (product_stands n b s h.1) e
  product_stands n (Form.co_imply a b) s h e = or_stands n (first_product a) (first_product b) s (product_stands n a s h.0) (product_stands n b s h.1) e
  product_stands n (Form.scale w a) s h e = product_stands n a s h e
  product_stands n (Form.product a b span) s h e = or_stands n (first_product a) (option_or (product_at (has_variable a && has_variable b) span) (first_product b)) s (product_stands n a s h.1.0) (or_stands n (product_at (has_variable a && has_variable b) span) (first_product b) s (at_stands n (has_variable a && has_variable b) span s h.0) (product_stands n b s h.1.1)) e
  product_stands n (Form.validate a) s h e = product_stands n a s h e
  product_stands n (Form.co_validate a) s h e = product_stands n a s h e
  product_stands n (Form.embed g) s h e = product_stands_in n g s h e
  product_stands n (Form.iverson g) s h e = product_stands_in n g s h e
  product_stands n (Form.select g a b) s h e = or_stands n (first_product_in g) (option_or (first_product a) (first_product b)) s (product_stands_in n g s h.0) (or_stands n (first_product a) (first_product b) s (product_stands n a s h.1.0) (product_stands n b s h.1.1)) e
  product_stands n (Form.bind up w name ty a) s h e = product_stands n a s h e

  product_stands_in : (n : ℕ) (g : Cond) (s : Span) → CondStands n g → first_product_in g ≡ Some s → s.from ≤ n
  product_stands_in n (Cond.constant b) s h e = absurd (cc)
  product_stands_in n (Cond.flag x) s h e = absurd (cc)
  product_stands_in n (Cond.not g) s h e = product_stands_in n g s h e
  product_stands_in n (Cond.and g k) s h e = or_stands n (first_product_in g) (first_product_in k) s (product_stands_in n g s h.0) (product_stands_in n k s h.1) e
  product_stands_in n (Cond.or g k) s h e = or_stands n (first_product_in g) (first_product_in k) s (product_stands_in n g s h.0) (product_stands_in n k s h.1) e
  product_stands_in n (Cond.same g k) s h e = or_stands n (first_product_in g) (first_product_in k) s (product_stands_in n g s h.0) (product_stands_in n k s h.1) e
  product_stands_in n (Cond.le a b) s h e = or_stands n (first_product a) (first_product b) s (product_stands n a s h.0) (product_stands n b s h.1) e
  product_stands_in n (Cond.lt a b) s h e = or_stands n (first_product a) (first_product b) s (product_stands n a s h.0) (product_stands n b s h.1) e
  product_stands_in n (Cond.equal a b) s h e = or_stands n (first_product a) (first_product b) s (product_stands n a s h.0) (product_stands n b s h.1) e
  product_stands_in n (Cond.ite g k l) s h e = or_stands n (first_product_in g) (option_or (first_product_in k) (first_product_in l)) s (product_stands_in n g s h.0) (or_stands n (first_product_in k) (first_product_in l) s (product_stands_in n k s h.1.0) (product_stands_in n l s h.1.1)) e
