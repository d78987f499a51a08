-- Evaluation of the operators along a path.
use Rattle.std.proofs.Common.{◌≡◌, ℕ, ◌+◌, List, [], ◌∷◌, refl, sym, subst, Bool, true, false, drop}
use Rattle.std.specs.Prelude.{Some, None, Result}
use Rattle.linear_values.specs.Lin.{Lin, Terms, is_sized, Linear}
use Rattle.linear_form.specs.Query.{Atom, Taken}
use Rattle.linear_rows.specs.Numbers.{is_negative}
use Rattle.linear_form.specs.Query.Query.{done, ask}
use Rattle.linear_form.specs.Questions as q
use Rattle.linear_values.specs.Operator.{has_no_terms}
use Rattle.linear_form.specs.internal.Run.{Evaluation, along, turned}
use Rattle.linear_form.specs.internal.Run.Evaluation.{value}
use Rattle.linear_form.specs.internal.EvaluationResults.{Gives}
use Rattle.linear_form.specs.declared.cursor.Found.{Found}
use Rattle.linear_form.specs.declared.cursor.Stop.{Stop}

pub run_sized : (ps : List Taken) (a : Lin) (i : ℕ) → is_sized a ≡ true → along ps (q.sized (Some a)) i ≡ value (Some a) i
unfolding along
run_sized ps a i e = rw e

pub run_large : (ps : List Taken) (a : Lin) (i : ℕ) → is_sized a ≡ false → along ps (q.sized (Some a)) i ≡ Evaluation.bits
unfolding along
run_large ps a i e = rw e

pub run_below_large : (ps : List Taken) (a : Lin) (strict : Bool) (i : ℕ) → is_sized a ≡ false → along ps (q.is_below a strict) i ≡ Evaluation.bits
unfolding along
run_below_large ps a strict i e = rw e

asked_known : (ts : Terms) (a : Lin) (strict : Bool) → has_no_terms ts ≡ true → q.asked ts a strict ≡ done (is_negative a.rest strict)
asked_known [] a strict e = refl
asked_known (t ∷ ts) a strict e = absurd (cc)

asked_new : (ts : Terms) (a : Lin) (strict : Bool) → has_no_terms ts ≡ false → q.asked ts a strict ≡ ask (Atom.row a strict) (done true) (done false)
asked_new [] a strict e = absurd (cc)
asked_new (t ∷ ts) a strict e = refl

pub run_below_known : (ps : List Taken) (a : Lin) (strict : Bool) (i : ℕ) → is_sized a ≡ true → has_no_terms a.terms ≡ true → along ps (q.is_below a strict) i ≡ value (is_negative a.rest strict) i
unfolding along
run_below_known ps a strict i e h = rw (e, asked_known a.terms a strict h)

pub run_below_asked : (ps : List Taken) (a : Lin) (strict : Bool) (i : ℕ) → is_sized a ≡ true → has_no_terms a.terms ≡ false → along ps (q.is_below a strict) i ≡ turned (drop i ps) (Atom.row a strict) (value true (i + 1)) (value false (i + 1))
unfolding along
run_below_asked ps a strict i e h = rw (e, asked_new a.terms a strict h)

-- ---- The first value is infinity

pub min_none : (ps : List Taken) (y : Linear) (i : ℕ) → along ps (q.min None y) i ≡ value y i
unfolding along
min_none ps (Some b) i = refl
min_none ps None i = refl

pub max_none : (ps : List Taken) (y : Linear) (i : ℕ) → along ps (q.max None y) i ≡ value None i
unfolding along
max_none ps (Some b) i = refl
max_none ps None i = refl

pub imply_none : (ps : List Taken) (y : Linear) (i : ℕ) → along ps (q.imply None y) i ≡ value y i
unfolding along
imply_none ps (Some b) i = refl
imply_none ps None i = refl

pub co_imply_none : (ps : List Taken) (y : Linear) (i : ℕ) → along ps (q.co_imply None y) i ≡ value q.zero i
unfolding along
co_imply_none ps (Some b) i = refl
co_imply_none ps None i = refl

pub finite_product_large : (ps : List Taken) (ts us : Terms) (a b : Lin) (i : ℕ) → has_no_terms ts ≡ false → has_no_terms us ≡ false → along ps (q.finite_product ts us a b) i ≡ Evaluation.bits
unfolding along
finite_product_large ps [] us a b i e f = absurd (cc)
finite_product_large ps (t ∷ ts) [] a b i e f = absurd (cc)
finite_product_large ps (t ∷ ts) (u ∷ us) a b i e f = refl

pub gives_as : (r : Result Found Stop) (o o' : Evaluation Linear) → o ≡ o' → Gives r o' → Gives r o
gives_as r o o' e h = subst (λ o. Gives r o) (sym e) h
