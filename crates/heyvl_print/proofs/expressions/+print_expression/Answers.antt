use Rattle.heyvl_print.proofs.ExpressionTexts.{binary_text, bound_text, bracket_text, choice_text, embed_text, group_text, unary_text}
use Rattle.heyvl_print.proofs.expressions.+print_expression.Goals as goal
use Rattle.heyvl_syntax.proofs.exported.PlainTreesAre.{plain_expressions}
use Rattle.heyvl_syntax.specs.Expressions.{expression}

pub returns-in_ok-write-in-Group-2 : goal.returns-in_ok-write-in-Group-2
returns-in_ok-write-in-Group-2 t c =
    let a = rw c.deref.ensures at c.in_ok-print_expression-in-Group.ensures in
    rw (c.in-Group.is, plain_expressions.group) (group_text (expression c.in-Group.inner.value) c.in-Group.field-1 _ _ _ _ c.in_ok-write-in-Group.ensures a c.in_ok-write-in-Group-2.ensures)

pub returns-in_ok-write-in-Bracket-2 : goal.returns-in_ok-write-in-Bracket-2
returns-in_ok-write-in-Bracket-2 t c =
    let a = rw c.deref-in-Bracket.ensures at c.in_ok-print_expression-in-Bracket.ensures in
    rw (c.in-Bracket.is, plain_expressions.bracket) (bracket_text (expression c.in-Bracket.inner.value) c.in-Bracket.field-1 _ _ _ _ c.in_ok-write-in-Bracket.ensures a c.in_ok-write-in-Bracket-2.ensures)

pub returns-in_ok-write-in-Embed-2 : goal.returns-in_ok-write-in-Embed-2
returns-in_ok-write-in-Embed-2 t c =
    let a = rw c.deref-in-Embed.ensures at c.in_ok-print_expression-in-Embed.ensures in
    rw (c.in-Embed.is, plain_expressions.embed) (embed_text (expression c.in-Embed.inner.value) c.in-Embed.field-1 _ _ _ _ c.in_ok-write-in-Embed.ensures a c.in_ok-write-in-Embed-2.ensures)

pub returns-in_ok-print_expression-in-Unary : goal.returns-in_ok-print_expression-in-Unary
returns-in_ok-print_expression-in-Unary t c =
    let o = rw c.prefix_text.ensures at c.in_ok-write-in-Unary.ensures in
    let a = rw c.deref-in-Unary.ensures at c.in_ok-print_expression-in-Unary.ensures in
    rw (c.in-Unary.is, plain_expressions.unary) (unary_text c.in-Unary.op (expression c.in-Unary.inner.value) c.in-Unary.field-2 _ _ _ o a)

pub returns-in_ok-print_expression-in-Binary-2 : goal.returns-in_ok-print_expression-in-Binary-2
returns-in_ok-print_expression-in-Binary-2 t c =
    let a = rw c.deref-in-Binary.ensures at c.in_ok-print_expression-in-Binary.ensures in
    let o = rw c.operator_text.ensures at c.in_ok-write-in-Binary-2.ensures in
    let b = rw c.deref-in-Binary-2.ensures at c.in_ok-print_expression-in-Binary-2.ensures in
    rw (c.in-Binary.is, plain_expressions.binary) (binary_text c.in-Binary.op (expression c.in-Binary.left.value) (expression c.in-Binary.right.value) c.in-Binary.field-3 _ _ _ _ _ _ a c.in_ok-write-in-Binary.ensures o c.in_ok-write-in-Binary-3.ensures b)

pub returns-in_ok-write-in-Choice-4 : goal.returns-in_ok-write-in-Choice-4
returns-in_ok-write-in-Choice-4 t c =
    let a = rw c.deref-in-Choice.ensures at c.in_ok-print_expression-in-Choice.ensures in
    let b = rw c.deref-in-Choice-2.ensures at c.in_ok-print_expression-in-Choice-2.ensures in
    let d = rw c.deref-in-Choice-3.ensures at c.in_ok-print_expression-in-Choice-3.ensures in
    rw (c.in-Choice.is, plain_expressions.choice) (choice_text (expression c.in-Choice.test.value) (expression c.in-Choice.left.value) (expression c.in-Choice.right.value) c.in-Choice.field-3 _ _ _ _ _ _ _ _ c.in_ok-write-in-Choice.ensures a c.in_ok-write-in-Choice-2.ensures b c.in_ok-write-in-Choice-3.ensures d c.in_ok-write-in-Choice-4.ensures)

pub returns-in_ok-print_expression-in-Bound : goal.returns-in_ok-print_expression-in-Bound
returns-in_ok-print_expression-in-Bound t c =
    let q = rw c.quantifier_text.ensures at c.in_ok-write-in-Bound.ensures in
    let x = rw c.as_bytes-in-Bound.ensures at c.in_ok-write-in-Bound-3.ensures in
    let ty = rw c.type_text.ensures at c.in_ok-write-in-Bound-5.ensures in
    let a = rw c.deref-in-Bound.ensures at c.in_ok-print_expression-in-Bound.ensures in
    rw (c.in-Bound.is, plain_expressions.bound) (bound_text c.in-Bound.up c.in-Bound.name c.in-Bound.ty (expression c.in-Bound.inner.value) c.in-Bound.field-4 _ _ _ _ _ _ _ _ q c.in_ok-write-in-Bound-2.ensures x c.in_ok-write-in-Bound-4.ensures ty c.in_ok-write-in-Bound-6.ensures a)
