-- Operators on results that are not values.
use Rattle.std.proofs.Common.{◌≡◌, ℕ, List, ap, ap₂, ◌∙◌, refl, Global, Option, Some, None, cond}
use Rattle.std.specs.Prelude as M
use Rattle.std.specs.declared.rc.Rc.{Rc}
use Rattle.linear_values.specs.declared.lin.Lin.{Lin}
use Rattle.linear_values.specs.Kept.{IsKeptValue}
use Rattle.linear_values.specs.Lin.{Linear}
use Rattle.linear_values.proofs.exported.Nothing.{plus_nothing}
use Rattle.linear_values.specs.PlainValues.{linear_of}
use Rattle.linear_form.specs.Query.{Taken}
use Rattle.linear_form.specs.Query.Query.{bits, done}
use Rattle.linear_form.specs.Questions as q
use Rattle.linear_form.specs.internal.Outcomes.{Result, valued}
use Rattle.heylo_graph.specs.declared.nodes.Node.{Node}
use Rattle.linear_form.specs.internal.EvaluationResults.{Stops}
use Rattle.linear_form.specs.internal.Parts.{operated, operation, operator}
use Rattle.linear_form.specs.internal.Steps.{Comes}
use Rattle.linear_form.specs.declared.cursor.Stop.{Stop}
use Rattle.linear_form.specs.declared.operations.Came.{Came}
use Rattle.linear_form.specs.internal.PlainParts.{outcome_of}
use Rattle.linear_form.specs.internal.Run.{Evaluation, along}
use Rattle.linear_form.specs.declared.parts.Operation.{Operation}
use Rattle.linear_form.specs.declared.parts.Outcome as O
use Rattle.linear_form.proofs.Runs.{run_bits}

pub first_other : (ps : List Taken) (p : Operation) (o : O.Outcome) (s : Result) (i : ℕ) → ((x : Rc (Option Lin) Global) → o ≡ O.TheVariants.Number x → ⊥) → along ps (operated p (outcome_of o) s) i ≡ Evaluation.bits
first_other ps p (O.TheVariants.Number x) s i h = absurd (h x refl)
first_other ps p (O.TheVariants.Truth t) s i h = run_bits ps i
first_other ps p (O.TheVariants.Ends x y) s i h = run_bits ps i

pub second_other : (ps : List Taken) (p : Operation) (x : Linear) (o : O.Outcome) (i : ℕ) → ((y : Rc (Option Lin) Global) → o ≡ O.TheVariants.Number y → ⊥) → along ps (operated p (Result.number x) (outcome_of o)) i ≡ Evaluation.bits
second_other ps p x (O.TheVariants.Number y) i h = absurd (h y refl)
second_other ps p x (O.TheVariants.Truth t) i h = run_bits ps i
second_other ps p x (O.TheVariants.Ends y z) i h = run_bits ps i

pub over_values : (p p' : Operation) (o q : O.Outcome) (x y : Rc (Option Lin) Global) → p ≡ p' → o ≡ O.TheVariants.Number x → q ≡ O.TheVariants.Number y → operated p (outcome_of o) (outcome_of q) ≡ operation p' (linear_of x.value) (linear_of y.value)
over_values p p' o q x y e g h = ap (λ p. operated p (outcome_of o) (outcome_of q)) e ∙ ap₂ (λ o q. operated p' (outcome_of o) (outcome_of q)) g h

pub no_operator : (ps : List Taken) (n : Node) (x y : Linear) (i : ℕ) → ((a b : _) → n ≡ Node.Sum a b → ⊥) → ((a b : _) → n ≡ Node.Diff a b → ⊥) → ((a b : _) → n ≡ Node.Cut a b → ⊥) → ((w a : _) → n ≡ Node.Scale w a → ⊥) → ((a b span : _) → n ≡ Node.Product a b span → ⊥) → ((a b : _) → n ≡ Node.Min a b → ⊥) → ((a b : _) → n ≡ Node.Max a b → ⊥) → ((a b : _) → n ≡ Node.Imply a b → ⊥) → ((a b : _) → n ≡ Node.CoImply a b → ⊥) → ((a : _) → n ≡ Node.Validate a → ⊥) → ((a : _) → n ≡ Node.CoValidate a → ⊥) → ((a b : _) → n ≡ Node.Le a b → ⊥) → ((a b : _) → n ≡ Node.Lt a b → ⊥) → ((a b : _) → n ≡ Node.EqNum a b → ⊥) → along ps (operator n x y) i ≡ Evaluation.bits
no_operator ps (Node.Sum a b) x y i h0 h1 h2 h3 h4 h5 h6 h7 h8 h9 h10 h11 h12 h13 = absurd (h0 a b refl)
no_operator ps (Node.Diff a b) x y i h0 h1 h2 h3 h4 h5 h6 h7 h8 h9 h10 h11 h12 h13 = absurd (h1 a b refl)
no_operator ps (Node.Cut a b) x y i h0 h1 h2 h3 h4 h5 h6 h7 h8 h9 h10 h11 h12 h13 = absurd (h2 a b refl)
no_operator ps (Node.Scale w a) x y i h0 h1 h2 h3 h4 h5 h6 h7 h8 h9 h10 h11 h12 h13 = absurd (h3 w a refl)
no_operator ps (Node.Product a b span) x y i h0 h1 h2 h3 h4 h5 h6 h7 h8 h9 h10 h11 h12 h13 = absurd (h4 a b span refl)
no_operator ps (Node.Min a b) x y i h0 h1 h2 h3 h4 h5 h6 h7 h8 h9 h10 h11 h12 h13 = absurd (h5 a b refl)
no_operator ps (Node.Max a b) x y i h0 h1 h2 h3 h4 h5 h6 h7 h8 h9 h10 h11 h12 h13 = absurd (h6 a b refl)
no_operator ps (Node.Imply a b) x y i h0 h1 h2 h3 h4 h5 h6 h7 h8 h9 h10 h11 h12 h13 = absurd (h7 a b refl)
no_operator ps (Node.CoImply a b) x y i h0 h1 h2 h3 h4 h5 h6 h7 h8 h9 h10 h11 h12 h13 = absurd (h8 a b refl)
no_operator ps (Node.Validate a) x y i h0 h1 h2 h3 h4 h5 h6 h7 h8 h9 h10 h11 h12 h13 = absurd (h9 a refl)
no_operator ps (Node.CoValidate a) x y i h0 h1 h2 h3 h4 h5 h6 h7 h8 h9 h10 h11 h12 h13 = absurd (h10 a refl)
no_operator ps (Node.Le a b) x y i h0 h1 h2 h3 h4 h5 h6 h7 h8 h9 h10 h11 h12 h13 = absurd (h11 a b refl)
no_operator ps (Node.Lt a b) x y i h0 h1 h2 h3 h4 h5 h6 h7 h8 h9 h10 h11 h12 h13 = absurd (h12 a b refl)
no_operator ps (Node.EqNum a b) x y i h0 h1 h2 h3 h4 h5 h6 h7 h8 h9 h10 h11 h12 h13 = absurd (h13 a b refl)
no_operator ps (Node.Const v) x y i h0 h1 h2 h3 h4 h5 h6 h7 h8 h9 h10 h11 h12 h13 = run_bits ps i
no_operator ps (Node.Var w) x y i h0 h1 h2 h3 h4 h5 h6 h7 h8 h9 h10 h11 h12 h13 = run_bits ps i
no_operator ps (Node.Embed a) x y i h0 h1 h2 h3 h4 h5 h6 h7 h8 h9 h10 h11 h12 h13 = run_bits ps i
no_operator ps (Node.Iverson a) x y i h0 h1 h2 h3 h4 h5 h6 h7 h8 h9 h10 h11 h12 h13 = run_bits ps i
no_operator ps (Node.Select a b c) x y i h0 h1 h2 h3 h4 h5 h6 h7 h8 h9 h10 h11 h12 h13 = run_bits ps i
no_operator ps (Node.Bind up w name ty a) x y i h0 h1 h2 h3 h4 h5 h6 h7 h8 h9 h10 h11 h12 h13 = run_bits ps i
no_operator ps (Node.Truth v) x y i h0 h1 h2 h3 h4 h5 h6 h7 h8 h9 h10 h11 h12 h13 = run_bits ps i
no_operator ps (Node.Flag w) x y i h0 h1 h2 h3 h4 h5 h6 h7 h8 h9 h10 h11 h12 h13 = run_bits ps i
no_operator ps (Node.Not a) x y i h0 h1 h2 h3 h4 h5 h6 h7 h8 h9 h10 h11 h12 h13 = run_bits ps i
no_operator ps (Node.And a b) x y i h0 h1 h2 h3 h4 h5 h6 h7 h8 h9 h10 h11 h12 h13 = run_bits ps i
no_operator ps (Node.Or a b) x y i h0 h1 h2 h3 h4 h5 h6 h7 h8 h9 h10 h11 h12 h13 = run_bits ps i
no_operator ps (Node.Same a b) x y i h0 h1 h2 h3 h4 h5 h6 h7 h8 h9 h10 h11 h12 h13 = run_bits ps i
no_operator ps (Node.Ite a b c) x y i h0 h1 h2 h3 h4 h5 h6 h7 h8 h9 h10 h11 h12 h13 = run_bits ps i

pub comes_stopped : (r : M.Result Came Stop) (e : Stop) (o : Evaluation Result) → r ≡ M.Err e → Stops e o → Comes r o
comes_stopped r e o k h = rw k h

-- ---- Sums with 0

sum_nothing : (y : Linear) → IsKeptValue y → q.sum q.zero y ≡ done y
sum_nothing None h = refl
sum_nothing (Some b) h = ap (λ l. q.sized (Some l)) (plus_nothing b h) ∙ ap (λ t. cond t (done (Some b)) bits) h.sized

pub nothing_added : (n : Node) (a b : _) (x y : Linear) → n ≡ Node.Sum a b → x ≡ q.zero → IsKeptValue y → operator n x y ≡ done (Result.number y)
nothing_added n a b x y e g h = ap (λ n. operator n x y) e ∙ ap (λ x. valued (q.sum x y)) g ∙ ap valued (sum_nothing y h)
