-- The canonical text does not depend on places.
use Rattle.heyvl_print.proofs.FilesAgain.{spells}
use Rattle.heyvl_print.specs.Canonical.{block_lines, body_lines, else_if_pieces, expression_pieces, file_lines, given_pieces, if_pieces, param_pieces, post_line, pre_line, procedure_lines, right_pieces, rule_line, rule_pieces, statement_lines, weighted_pieces}
use Rattle.heyvl_print.specs.Laws.{PrintingIsStable, TextIgnoresPlaces}
use Rattle.heyvl_print.specs.Pieces.{Piece, comma, each, feed, separated, text_of}
use Rattle.heyvl_print.specs.WithoutPlaces.{bare_arms, bare_block, bare_body, bare_expression, bare_given, bare_param, bare_part, bare_procedure, bare_right, bare_rule, bare_statement, without_places}
use Rattle.heyvl_syntax.specs.Expressions.{Expression}
use Rattle.heyvl_syntax.specs.Procedures.{Procedure}
use Rattle.heyvl_syntax.specs.Statements.{Arms, Block, LoopRule, RightSide, Statement}
use Rattle.std.proofs.Common.{List, None, Option, Some, [], ap, map, refl, sym, ◌++◌, ◌+◌, ◌∙◌, ◌∷◌, ◌≡◌, ℕ}

each_same : {A : Type 0} (f : A → List Piece) (g : A → A) → ((x : A) → f (g x) ≡ f x) → (xs : List A) → each f (map g xs) ≡ each f xs
each_same f g same [] = refl
each_same f g same (x ∷ xs) = rw (same x, each_same f g same xs) refl

separated_same : {A : Type 0} (s : List Piece) (f : A → List Piece) (g : A → A) → ((x : A) → f (g x) ≡ f x) → (xs : List A) → separated s f (map g xs) ≡ separated s f xs
separated_same s f g same [] = refl
separated_same s f g same (x ∷ xs) = rw (same x, each_same (λ y. s ++ f y) g (λ y. ap (λ z. s ++ z) (same y)) xs) refl

expression_same : (a : Expression) → expression_pieces (bare_expression a) ≡ expression_pieces a
expression_same (Expression.number n s) = refl
expression_same (Expression.truth b s) = refl
expression_same (Expression.infinity s) = refl
expression_same (Expression.name x s) = refl
expression_same (Expression.group a s) = rw (expression_same a) refl
expression_same (Expression.bracket a s) = rw (expression_same a) refl
expression_same (Expression.embed a s) = rw (expression_same a) refl
expression_same (Expression.unary op a s) = rw (expression_same a) refl
expression_same (Expression.binary op a b s) = rw (expression_same a, expression_same b) refl
expression_same (Expression.choice a b c s) = rw (expression_same a, expression_same b, expression_same c) refl
expression_same (Expression.bound up x t a s) = rw (expression_same a) refl

part_same : (p : Expression × Expression) → weighted_pieces (bare_part p) ≡ weighted_pieces p
part_same p = rw (expression_same p.0, expression_same p.1) refl

right_same : (r : RightSide) → right_pieces (bare_right r) ≡ right_pieces r
right_same (RightSide.plain a) = expression_same a
right_same (RightSide.flip a) = rw (expression_same a) refl
right_same (RightSide.unif a b) = rw (expression_same a, expression_same b) refl
right_same (RightSide.choose parts) = rw (separated_same comma weighted_pieces bare_part part_same parts) refl
right_same (RightSide.call f arguments) = rw (separated_same comma expression_pieces bare_expression expression_same arguments) refl

given_same : (r : Option RightSide) → given_pieces (bare_given r) ≡ given_pieces r
given_same None = refl
given_same (Some r) = rw (right_same r) refl

rule_same : (r : LoopRule) → rule_pieces (bare_rule r) ≡ rule_pieces r
rule_same (LoopRule.invariant i s) = rw (expression_same i) refl
rule_same (LoopRule.k_induction k i s) = rw (expression_same k, expression_same i) refl
rule_same (LoopRule.ranking e r s) = rw (expression_same e, expression_same r) refl

rule_line_same : (n : ℕ) (r : LoopRule) → rule_line n (bare_rule r) ≡ rule_line n r
rule_line_same n r = rw (rule_same r) refl

mutual
  statement_same : (n : ℕ) (x : Statement) → statement_lines n (bare_statement x) ≡ statement_lines n x
  statement_same n (Statement.var x t r s) = rw (given_same r) refl
  statement_same n (Statement.assign xs r s) = rw (right_same r) refl
  statement_same n (Statement.check kind a s) = rw (expression_same a) refl
  statement_same n (Statement.validate co s) = refl
  statement_same n (Statement.havoc co xs s) = refl
  statement_same n (Statement.reward a s) = rw (expression_same a) refl
  statement_same n (Statement.branch arms other s) = rw (if_same n arms, block_same (n + 2) other) refl
  statement_same n (Statement.pick up a b s) = rw (block_same (n + 2) a, block_same (n + 2) b) refl
  statement_same n (Statement.loop rules g b s) = rw (each_same (rule_line n) bare_rule (rule_line_same n) rules, expression_same g, block_same (n + 2) b) refl

  if_same : (n : ℕ) (arms : Arms) → if_pieces n (bare_arms arms) ≡ if_pieces n arms
  if_same n Arms.no_arm = refl
  if_same n (Arms.arm g b more) = rw (expression_same g, block_same (n + 2) b, else_if_same n more) refl

  else_if_same : (n : ℕ) (arms : Arms) → else_if_pieces n (bare_arms arms) ≡ else_if_pieces n arms
  else_if_same n Arms.no_arm = refl
  else_if_same n (Arms.arm g b more) = rw (expression_same g, block_same (n + 2) b, else_if_same n more) refl

  block_same : (n : ℕ) (b : Block) → block_lines n (bare_block b) ≡ block_lines n b
  block_same n Block.done = refl
  block_same n (Block.next x xs) = rw (statement_same n x, block_same n xs) refl

body_same : (b : Option Block) → body_lines (bare_body b) ≡ body_lines b
body_same None = refl
body_same (Some b) = rw (block_same 2 b) refl

pre_same : (a : Expression) → pre_line (bare_expression a) ≡ pre_line a
pre_same a = rw (expression_same a) refl

post_same : (a : Expression) → post_line (bare_expression a) ≡ post_line a
post_same a = rw (expression_same a) refl

procedure_same : (p : Procedure) → procedure_lines (bare_procedure p) ≡ procedure_lines p
procedure_same p =
    rw (separated_same comma param_pieces bare_param (λ x. refl) p.inputs, separated_same comma param_pieces bare_param (λ x. refl) p.outputs, each_same pre_line bare_expression pre_same p.pres, each_same post_line bare_expression post_same p.posts, body_same p.body) refl

file_same : (file : List Procedure) → file_lines (without_places file) ≡ file_lines file
file_same file = separated_same feed procedure_lines bare_procedure procedure_same file

pub ignores_places : TextIgnoresPlaces
ignores_places file other same = ap text_of (sym (file_same file) ∙ ap file_lines same ∙ file_same other)

pub stable : PrintingIsStable
stable bytes file spelled = let again = spells bytes file spelled in (again.0, again.1, sym (ignores_places file again.0 again.2))
