-- The numbers of variables that statements, arms and leading quantifiers declare, from an index on.
use Rattle.heyvl_syntax.specs.Expressions.{expression, expressions}
use Rattle.heyvl_syntax.specs.Statements.{arms, block, guarded, statement}
use Rattle.heyvl_syntax.specs.declared.expressions.Expr.{Expr}
use Rattle.heyvl_syntax.specs.declared.statements.Arm.{Arm}
use Rattle.heyvl_syntax.specs.declared.statements.Stmt.{Stmt}
use Rattle.static_rules.specs.Variables.{locals, locals_of_arms, locals_of_block}
use Rattle.std.proofs.Common.{List, ap, drop, get_or, length, sym, ◌+◌, ◌++◌, ◌<◌, ◌∙◌, ◌≡◌, ◌≤◌, ℕ}
use Rattle.std.proofs.lemmas.List.{at_drop_more, drop_all, length-append}
use Rattle.typed_expressions.specs.DeclaredVariables.{front_variables, fronts_variables}

abbrev pub locals_left : List Stmt → ℕ → ℕ
locals_left all k = length (locals_of_block (block (drop k all)))

abbrev pub arm_locals_left : List Arm → ℕ → ℕ
arm_locals_left all k = length (locals_of_arms (arms (drop k all)))

abbrev pub fronts_left : List Expr → ℕ → ℕ
fronts_left all k = length (fronts_variables (expressions (drop k all)))

pub next_statement : (all : List Stmt) (k : ℕ) (s : Stmt) → k < length all → s ≡ get_or all k s → locals_left all k ≡ length (locals (statement s)) + locals_left all (k + 1)
next_statement all k s lt is =
    at_drop_more (λ l. length (locals_of_block (block l))) all k s lt
    ∙ ap (λ x. length (locals (statement x) ++ locals_of_block (block (drop (k + 1) all)))) (sym is)
    ∙ length-append (locals (statement s)) (locals_of_block (block (drop (k + 1) all)))

pub no_statement : (all : List Stmt) (k : ℕ) → length all ≤ k → locals_left all k ≡ 0
no_statement all k over = ap (λ l. length (locals_of_block (block l))) (drop_all k all over)

pub next_arm : (all : List Arm) (k : ℕ) (a : Arm) → k < length all → a ≡ get_or all k a → arm_locals_left all k ≡ length (locals_of_block (guarded a).1) + arm_locals_left all (k + 1)
next_arm all k a lt is =
    at_drop_more (λ l. length (locals_of_arms (arms l))) all k a lt
    ∙ ap (λ x. length (locals_of_block (guarded x).1 ++ locals_of_arms (arms (drop (k + 1) all)))) (sym is)
    ∙ length-append (locals_of_block (guarded a).1) (locals_of_arms (arms (drop (k + 1) all)))

pub no_arm : (all : List Arm) (k : ℕ) → length all ≤ k → arm_locals_left all k ≡ 0
no_arm all k over = ap (λ l. length (locals_of_arms (arms l))) (drop_all k all over)

pub next_front : (all : List Expr) (k : ℕ) (e : Expr) → k < length all → e ≡ get_or all k e → fronts_left all k ≡ length (front_variables (expression e)) + fronts_left all (k + 1)
next_front all k e lt is =
    at_drop_more (λ l. length (fronts_variables (expressions l))) all k e lt
    ∙ ap (λ x. length (front_variables (expression x) ++ fronts_variables (expressions (drop (k + 1) all)))) (sym is)
    ∙ length-append (front_variables (expression e)) (fronts_variables (expressions (drop (k + 1) all)))
