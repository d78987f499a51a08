-- The rules of a statement whose right side has been read are the rules of its right side.
use Rattle.heyvl_acts.specs.PlainActs.{act_of}
use Rattle.heyvl_acts.specs.declared.acts.Act as A
use Rattle.heyvl_places.specs.declared.spans.Span.{Span}
use Rattle.heyvl_syntax.specs.Expressions.{Expression, expressions}
use Rattle.heyvl_syntax.specs.Statements.{RightSide, choices, right_side}
use Rattle.heyvl_syntax.specs.declared.expressions.Expr.{Expr}
use Rattle.heyvl_syntax.specs.declared.statements.Right.TheVariants as rights
use Rattle.heyvl_syntax.specs.declared.statements.Right.{Right}
use Rattle.heyvl_syntax.specs.declared.types.TypeName.{TypeName}
use Rattle.static_rules.specs.RightSides.{ValueType, any_argument_mismatches, any_output_mismatches, call_counts_wrong, call_mismatches, first_mismatches, has_over_zero, is_of_other_direction, is_quantified, join_types, join_with, literal_wrong, mismatches, right_findings, right_rules, type_of_choices, type_of_expression}
use Rattle.static_rules.specs.StatementActs.{assigned}
use Rattle.typed_right_sides.specs.declared.right_sides.Targets.{Targets}
use Rattle.typed_right_sides.specs.internal.RightSideParts.{join_all, join_more, types_of, types_of_choices}
use Rattle.typed_right_sides.specs.internal.RightSideRules.{any_mismatches, arguments_mismatch, call_rules, counts_differ, value_rules}
use Rattle.std.proofs.Common.{Bool, List, None, Option, Result, Some, Vec, [], ap, ap₂, false, length, not, refl, subst, sym, ◌++◌, ◌&&◌, ◌==◌, ◌∙◌, ◌||◌, ◌≡◌, ◌∷◌, ℕ}
use Rattle.std.proofs.Math.Bool.{or-false}
use Rattle.std.proofs.lemmas.List.{length-map}
use Rattle.std.specs.Option.{is_none}
use Rattle.std.specs.declared.alloc.Global.{Global}
use Rattle.typed_expressions.specs.Answers.{Gives}
use Rattle.typed_expressions.specs.Findings.{Finding, at}
use Rattle.typed_expressions.specs.Scopes.{Scope}
use Rattle.typed_expressions.specs.Signatures.{Called, Signature, find_call}
use Rattle.typed_expressions.specs.Table.{given}
use Rattle.typed_expressions.specs.declared.stops.ResolveStop.{ResolveStop}

-- An answer depends on the findings alone.
pub gives_same : {A B : Type 0} (v : A → B) (r : Result A ResolveStop) (xs ys : List Finding) (b : B) → ys ≡ xs → Gives v r xs b → Gives v r ys b
gives_same v r xs ys b e g = subst (λ f. Gives v r f b) (sym e) g

-- ---- Right sides other than calls

-- Rules that are not broken add no findings.
value_at : (s : Span) (u t m i c l z : Bool) → at s ((10, u || false) ∷ (11, t) ∷ (12, m) ∷ (13, i) ∷ (14, c) ∷ (15, l) ∷ (16, z) ∷ (21, false) ∷ (23, false) ∷ []) ≡ at s ((10, u) ∷ (11, t) ∷ (12, m) ∷ (13, i) ∷ (14, c) ∷ (15, l) ∷ (16, z) ∷ [])
value_at s u t m i c l z = ap (λ b. at s ((10, b) ∷ (11, t) ∷ (12, m) ∷ (13, i) ∷ (14, c) ∷ (15, l) ∷ (16, z) ∷ [])) (or-false u)

abbrev RulesOf : Bool → Called → ℕ → Scope → Targets → RightSide → List (ℕ × Bool)
RulesOf co called n sc t r = right_rules co called n sc t.unknown t.twice t.undeclarable t.input t.types.items r

join_choices : (n : ℕ) (sc : Scope) (t : Option ValueType) (ps : List (Expression × Expression)) → join_with n sc t ps ≡ join_more t (types_of_choices n sc ps)
join_choices n sc t [] = refl
join_choices n sc t (p ∷ ps) = join_choices n sc (given t (λ t. given (type_of_expression n sc p.1) (join_types t))) ps

choices_join : (n : ℕ) (sc : Scope) (ps : List (Expression × Expression)) → type_of_choices n sc ps ≡ join_all (types_of_choices n sc ps)
choices_join n sc [] = refl
choices_join n sc (p ∷ ps) = join_choices n sc (type_of_expression n sc p.1) ps

-- The type of a `choose` is the common type of its values.
pub choose_rules : (co : Bool) (called : Called) (n : ℕ) (sc : Scope) (t : Targets) (ps : List (Expression × Expression)) (s : Span) → at s (RulesOf co called n sc t (RightSide.choose ps)) ≡ at s (value_rules t (join_all (types_of_choices n sc ps)) (literal_wrong n sc (RightSide.choose ps)) (has_over_zero (RightSide.choose ps)))
choose_rules co called n sc t ps s = value_at s t.unknown t.twice (t.undeclarable || first_mismatches (type_of_choices n sc ps) t.types.items) t.input (not (length t.types.items == 1)) (literal_wrong n sc (RightSide.choose ps)) (has_over_zero (RightSide.choose ps)) ∙ ap (λ v. at s (value_rules t v (literal_wrong n sc (RightSide.choose ps)) (has_over_zero (RightSide.choose ps)))) (choices_join n sc ps)

-- ---- Calls

arguments_are : (n : ℕ) (sc : Scope) (es : List Expression) (ts : List TypeName) → any_argument_mismatches n sc es ts ≡ any_mismatches (types_of n sc es) ts
arguments_are n sc [] ts = refl
arguments_are n sc (e ∷ es) [] = refl
arguments_are n sc (e ∷ es) (t ∷ ts) = ap (λ b. mismatches (type_of_expression n sc e) t || b) (arguments_are n sc es ts)

mismatch_is : (n : ℕ) (sc : Scope) (p : Option Signature) (es : List Expression) (targets : List (Option TypeName)) → call_mismatches n sc p es targets ≡ arguments_mismatch p (types_of n sc es) targets
mismatch_is n sc None es targets = refl
mismatch_is n sc (Some p) es targets = ap (λ b. b || any_output_mismatches p.outputs targets) (arguments_are n sc es p.inputs)

counts_are : (n : ℕ) (sc : Scope) (p : Option Signature) (es : List Expression) (targets : List (Option TypeName)) → call_counts_wrong p es targets ≡ counts_differ p (types_of n sc es) targets
counts_are n sc None es targets = refl
counts_are n sc (Some p) es targets = ap (λ k. not ((k == length p.inputs) && (length targets == length p.outputs))) (sym (length-map es (type_of_expression n sc)))

call_at : (s : Span) (u t i a q : Bool) (m o : Bool) (c d : Bool) → m ≡ o → c ≡ d → at s ((10, u) ∷ (11, t) ∷ (12, m) ∷ (13, i) ∷ (14, c) ∷ (15, false) ∷ (16, false) ∷ (21, a) ∷ (23, q) ∷ []) ≡ at s ((10, u) ∷ (11, t) ∷ (12, o) ∷ (13, i) ∷ (14, d) ∷ (21, a) ∷ (23, q) ∷ [])
call_at s u t i a q m o c d e f = ap₂ (λ x y. at s ((10, u) ∷ (11, t) ∷ (12, x) ∷ (13, i) ∷ (14, y) ∷ (21, a) ∷ (23, q) ∷ [])) e f

pub calls_rules : (co : Bool) (called : Called) (n : ℕ) (sc : Scope) (t : Targets) (x : List ℕ) (es : List Expression) (s : Span) → at s (RulesOf co called n sc t (RightSide.call x es)) ≡ at s (call_rules co t (find_call called x) (types_of n sc es))
calls_rules co called n sc t x es s = call_at s (t.unknown || is_none (find_call called x)) t.twice t.input (is_of_other_direction co (find_call called x)) (is_quantified (find_call called x)) _ _ _ _ (ap (λ b. t.undeclarable || b) (mismatch_is n sc (find_call called x) es t.types.items)) (counts_are n sc (find_call called x) es t.types.items)

-- ---- Answers

-- The answer on a `choose`, from those on its parts.
pub choose_gives : (r : Result A.Act ResolveStop) (co : Bool) (called : Called) (n : ℕ) (sc : Scope) (t : Targets) (right : Right) (xs : List (Expr × Expr)) (all : Vec (Expr × Expr) Global) (s : Span) → right ≡ rights.Choose all → xs ≡ all.items → Gives act_of r (right_findings n sc (RightSide.choose (choices xs)) ++ at s (value_rules t (join_all (types_of_choices n sc (choices xs))) (literal_wrong n sc (RightSide.choose (choices xs))) (has_over_zero (RightSide.choose (choices xs))))) (assigned [] n sc t.numbers.items (RightSide.choose (choices xs)) s) → Gives act_of r (right_findings n sc (right_side right) ++ at s (RulesOf co called n sc t (right_side right))) (assigned called n sc t.numbers.items (right_side right) s)
choose_gives r co called n sc t right xs all s e i g =
    subst (λ y. Gives act_of r (right_findings n sc (right_side y) ++ at s (RulesOf co called n sc t (right_side y))) (assigned called n sc t.numbers.items (right_side y) s)) (sym e)
    (subst (λ l. Gives act_of r (right_findings n sc (RightSide.choose (choices l)) ++ at s (RulesOf co called n sc t (RightSide.choose (choices l)))) (assigned called n sc t.numbers.items (RightSide.choose (choices l)) s)) i
    (gives_same act_of r _ (right_findings n sc (RightSide.choose (choices xs)) ++ at s (RulesOf co called n sc t (RightSide.choose (choices xs)))) (assigned called n sc t.numbers.items (RightSide.choose (choices xs)) s) (ap (λ f. right_findings n sc (RightSide.choose (choices xs)) ++ f) (choose_rules co called n sc t (choices xs) s)) g))

-- The answer on a call, from those on its arguments.
pub call_gives : (r : Result A.Act ResolveStop) (co : Bool) (called : Called) (n : ℕ) (sc : Scope) (t : Targets) (right : Right) (x : List ℕ) (es : List Expr) (all : Vec Expr Global) (s : Span) → right ≡ rights.Call x all → es ≡ all.items → Gives act_of r (right_findings n sc (RightSide.call x (expressions es)) ++ at s (call_rules co t (find_call called x) (types_of n sc (expressions es)))) (assigned called n sc t.numbers.items (RightSide.call x (expressions es)) s) → Gives act_of r (right_findings n sc (right_side right) ++ at s (RulesOf co called n sc t (right_side right))) (assigned called n sc t.numbers.items (right_side right) s)
call_gives r co called n sc t right x es all s e i g =
    subst (λ y. Gives act_of r (right_findings n sc (right_side y) ++ at s (RulesOf co called n sc t (right_side y))) (assigned called n sc t.numbers.items (right_side y) s)) (sym e)
    (subst (λ l. Gives act_of r (right_findings n sc (RightSide.call x (expressions l)) ++ at s (RulesOf co called n sc t (RightSide.call x (expressions l)))) (assigned called n sc t.numbers.items (RightSide.call x (expressions l)) s)) i
    (gives_same act_of r _ (right_findings n sc (RightSide.call x (expressions es)) ++ at s (RulesOf co called n sc t (RightSide.call x (expressions es)))) (assigned called n sc t.numbers.items (RightSide.call x (expressions es)) s) (ap (λ f. right_findings n sc (RightSide.call x (expressions es)) ++ f) (calls_rules co called n sc t x (expressions es) s)) g))
