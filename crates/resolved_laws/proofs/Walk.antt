-- A property of each act of a procedure without findings, from the acts of each statement alone.
-- The scope there agrees with the types of the procedure's variables, and the statement's own
-- variables are among them.
use Rattle.heylo_formula.specs.Typing.{types_in}
use Rattle.heyvl_syntax.specs.Statements.{Block, RightSide, Statement}
use Rattle.heyvl_syntax.specs.Statements as text
use Rattle.heyvl_places.specs.declared.spans.Span.{Span}
use Rattle.heyvl_syntax.specs.declared.types.TypeName.{TypeName}
use Rattle.static_rules.proofs.exported.Findings.{all_kept, back_none, front_none}
use Rattle.resolved_laws.proofs.Growth.{grow_more, grown_behind}
use Rattle.resolved_laws.proofs.InOrder.{each_both, each_join, each_one}
use Rattle.resolved_laws.proofs.Locals.{Stands, agrees_up, agrees_with, declared_at, stands_back, stands_front}
use Rattle.heyvl_acts.specs.Acts.{Act, Acts, Variable, type_list}
use Rattle.typed_expressions.specs.ExpressionLaws.{Agrees}
use Rattle.heyvl_acts.specs.Places.{in_order, inside, inside_arms}
use Rattle.heyvl_acts.specs.Rules.{Each, GrowBelow}
use Rattle.resolved_laws.proofs.Flips.{of_flip}
use Rattle.typed_expressions.specs.Scopes.{Scope, numbers}
use Rattle.typed_expressions.specs.Signatures.{Called}
use Rattle.static_rules.specs.StatementActs.{arms_acts, assigned, block_acts, declared_act, first_or_zero, havocs, loops, loops_of_arms, loops_of_block, statement_acts, targets}
use Rattle.static_rules.specs.StatementRules.{arms_findings, block_binds, block_findings, arms_bind, statement_findings, var_rules}
use Rattle.typed_expressions.specs.TypedExpressions.{closed_findings}
use Rattle.typed_expressions.specs.Table.{declarable}
use Rattle.static_rules.specs.Variables.{behind, locals, locals_of_arms, locals_of_block}
use Rattle.typed_expressions.specs.DeclaredVariables.{declared}
use Rattle.typed_expressions.specs.declared.demands.Demand.{Demand}
use Rattle.static_rules.specs.declared.settings.Setting.{Setting}
use Rattle.std.proofs.Common.{Bool, List, None, Option, Some, [], arith, false, length, suc, true, ◌+◌, ◌++◌, ◌∷◌, ◌≡◌, ◌≤◌, ℕ}
use Rattle.std.proofs.lemmas.Bool.{or_parts}
use Rattle.std.specs.Option.{is_none}
use Rattle.std.specs.Prelude.{◌||◌}

-- The type of a declaration without findings is one that a variable may have.
pub var_declarable : (h : Setting) (c : Called) (n : ℕ) (sc : Scope) (x : List ℕ) (t : TypeName) (r : Option RightSide) (s : Span) → statement_findings h c false n sc (Statement.var x t r s) ≡ [] → is_none (declarable t) ≡ false
var_declarable h c n sc x t None s e = (all_kept s (var_rules h c n sc x t None) e).1.0
var_declarable h c n sc x t (Some r) s e =
    let k = all_kept s (var_rules h c n sc x t (Some r)) (back_none _ _ e) in (or_parts (is_none (declarable t)) _ k.1.1.0).0

-- Each act of the list has the property, without the acts inside it.
abbrev pub Alone : (Act → Type 0) → Acts → Type 0
Alone P Acts.done = Unit {0}
Alone P (Acts.next a rest) = P a × Alone P rest

module _ (vs : List Variable) (h : Setting) (c : Called) where
  -- The facts at a statement, where the next variable has the number `n`: the visible variables
  -- have their types in the list, the inputs have smaller numbers, and the numbers of the scope
  -- grow.
  pub record Known (n : ℕ) (sc : Scope) : Type 0 where
    pub agrees : Agrees (types_in (type_list vs)) n sc
    pub inputs : h.inputs ≤ n
    pub grows : GrowBelow 0 n (numbers sc)

  pub known_up : (n k : ℕ) (sc : Scope) → n ≤ k → Known n sc → Known k sc
  known_up n k sc g e = record { agrees = agrees_up n k sc g e.agrees; inputs = let i = e.inputs in omega (arith, i, g); grows = grow_more 0 n k (numbers sc) e.grows g }

  pub known_behind : (bound : Bool) (n : ℕ) (sc : Scope) (s : Statement) → Known n sc → Stands vs n (locals s) → statement_findings h c bound n sc s ≡ [] → Known (n + length (locals s)) (behind n sc s)
  known_behind bound n sc (Statement.var x t r s) k l e = record {
    agrees = agrees_with n (n + length (declared x t ∷ [])) sc x t (omega arith) (declared_at vs n x t [] l (var_declarable h c n sc x t r s e)) k.agrees;
    inputs = let i = k.inputs in omega (arith, i);
    grows = grown_behind h c bound n sc (Statement.var x t r s) e k.grows;
  }
  known_behind bound n sc (Statement.assign xs r s) k l e = known_up n _ sc (omega arith) k
  known_behind bound n sc (Statement.check kind a s) k l e = known_up n _ sc (omega arith) k
  known_behind bound n sc (Statement.validate co s) k l e = known_up n _ sc (omega arith) k
  known_behind bound n sc (Statement.havoc co xs s) k l e = known_up n _ sc (omega arith) k
  known_behind bound n sc (Statement.reward a s) k l e = known_up n _ sc (omega arith) k
  known_behind bound n sc (Statement.branch arms other s) k l e = known_up n _ sc (omega arith) k
  known_behind bound n sc (Statement.pick up a b s) k l e = known_up n _ sc (omega arith) k
  known_behind bound n sc (Statement.loop rules g b s) k l e = known_up n _ sc (omega arith) k

  -- The acts of each statement have the property, without the acts inside them.
  abbrev pub Locally : (Act → Type 0) → Type 0
  Locally P = (bound : Bool) (n m : ℕ) (sc : Scope) (s : Statement) → Known n sc → Stands vs n (locals s) → statement_findings h c bound n sc s ≡ [] → Alone P (statement_acts h c n m sc s)

  module _ (P : Act → Type 0) (own : Locally P) where
    nothing_inside : (n : ℕ) (sc : Scope) (xs : List ℕ) (r : RightSide) (s : Span) → Each P (inside (assigned c n sc xs r s))
    nothing_inside n sc xs (RightSide.plain e) s = tt
    nothing_inside n sc xs (RightSide.flip p) s = of_flip (λ a. Each P (inside a)) n sc (first_or_zero xs) p s tt tt
    nothing_inside n sc xs (RightSide.unif a b) s = tt
    nothing_inside n sc xs (RightSide.choose parts) s = tt
    nothing_inside n sc xs (RightSide.call p arguments) s = tt

    nothing_inside_declared : (n : ℕ) (sc : Scope) (t : TypeName) (r : Option RightSide) (s : Span) → Each P (inside (declared_act h c n sc t r s))
    nothing_inside_declared n sc t None s = tt
    nothing_inside_declared n sc t (Some r) s = nothing_inside n sc (n ∷ []) r s

    each_havoc : (sc : Scope) (co : Bool) (xs : List (List ℕ)) (s : Span) → Alone P (havocs sc co xs s) → Each P (in_order (havocs sc co xs s))
    each_havoc sc co [] s p = tt
    each_havoc sc co (x ∷ xs) s p = (p.0, each_havoc sc co xs s p.1)

    mutual
      pub each_statement : (bound : Bool) (n m : ℕ) (sc : Scope) (s : Statement) → Known n sc → Stands vs n (locals s) → statement_findings h c bound n sc s ≡ [] → Each P (in_order (statement_acts h c n m sc s))
      each_statement bound n m sc (Statement.var x t r s) k l e = each_one P _ (own bound n m sc (Statement.var x t r s) k l e).0 (nothing_inside_declared n sc t r s)
      each_statement bound n m sc (Statement.assign xs r s) k l e = each_one P _ (own bound n m sc (Statement.assign xs r s) k l e).0 (nothing_inside n sc (targets sc xs) r s)
      each_statement bound n m sc (Statement.check kind a s) k l e = each_one P _ (own bound n m sc (Statement.check kind a s) k l e).0 tt
      each_statement bound n m sc (Statement.validate co s) k l e = each_one P _ (own bound n m sc (Statement.validate co s) k l e).0 tt
      each_statement bound n m sc (Statement.havoc co xs s) k l e = each_havoc sc co xs s (own bound n m sc (Statement.havoc co xs s) k l e)
      each_statement bound n m sc (Statement.reward a s) k l e = each_one P _ (own bound n m sc (Statement.reward a s) k l e).0 tt
      each_statement bound n m sc (Statement.branch arms other s) k l e =
          each_one P _ (own bound n m sc (Statement.branch arms other s) k l e).0
          (each_both P (inside_arms (arms_acts h c n m sc arms)) _
          (each_arms (bound || block_binds other) n m sc arms k (stands_front vs n (locals_of_arms arms) _ l) (front_none _ _ e))
          (each_block bound (n + length (locals_of_arms arms)) (m + loops_of_arms arms) sc other (known_up n _ sc (omega arith) k) (stands_back vs n (locals_of_arms arms) _ l) (back_none _ _ e)))
      each_statement bound n m sc (Statement.pick up a b s) k l e =
          each_one P _ (own bound n m sc (Statement.pick up a b s) k l e).0
          (each_both P (in_order (block_acts h c n m sc a)) _
          (each_block (bound || block_binds b) n m sc a k (stands_front vs n (locals_of_block a) _ l) (front_none _ _ e))
          (each_block bound (n + length (locals_of_block a)) (m + loops_of_block a) sc b (known_up n _ sc (omega arith) k) (stands_back vs n (locals_of_block a) _ l) (back_none _ _ e)))
      each_statement bound n m sc (Statement.loop rules g b s) k l e =
          each_one P _ (own bound n m sc (Statement.loop rules g b s) k l e).0
          (each_block true n (suc m) sc b k l (back_none _ _ (front_none _ _ e)))

      pub each_block : (bound : Bool) (n m : ℕ) (sc : Scope) (b : Block) → Known n sc → Stands vs n (locals_of_block b) → block_findings h c bound n sc b ≡ [] → Each P (in_order (block_acts h c n m sc b))
      each_block bound n m sc Block.done k l e = tt
      each_block bound n m sc (Block.next s b) k l e =
          let i = front_none _ _ e in
          let l0 = stands_front vs n (locals s) _ l in
          each_join P (statement_acts h c n m sc s) _
          (each_statement (bound || block_binds b) n m sc s k l0 i)
          (each_block bound (n + length (locals s)) (m + loops s) (behind n sc s) b (known_behind (bound || block_binds b) n sc s k l0 i) (stands_back vs n (locals s) _ l) (back_none _ _ e))

      pub each_arms : (bound : Bool) (n m : ℕ) (sc : Scope) (arms : text.Arms) → Known n sc → Stands vs n (locals_of_arms arms) → arms_findings h c bound n sc arms ≡ [] → Each P (inside_arms (arms_acts h c n m sc arms))
      each_arms bound n m sc text.Arms.no_arm k l e = tt
      each_arms bound n m sc (text.Arms.arm g b more) k l e =
          let i = front_none (closed_findings Demand.Truth n sc g ++ block_findings h c (bound || arms_bind more) n sc b) _ e in
          each_both P (in_order (block_acts h c n m sc b)) _
          (each_block (bound || arms_bind more) n m sc b k (stands_front vs n (locals_of_block b) _ l) (back_none _ _ i))
          (each_arms bound (n + length (locals_of_block b)) (m + loops_of_block b) sc more (known_up n _ sc (omega arith) k) (stands_back vs n (locals_of_block b) _ l) (back_none _ _ e))
