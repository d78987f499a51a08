-- The acts of statements. `n` is the number of the next variable or binder, and `sc` the scope: the
-- visible variables with their numbers and types. Each definition is total: the act of a statement
-- with a finding is arbitrary. This project's own.
use Rattle.heylo_formula.specs.Formula.{Form, Term}
use Rattle.heylo_formula.specs.declared.types.Ty.{Ty}
use Rattle.heyvl_num.specs.Rational.{Rational, ratio}
use Rattle.heyvl_num.specs.Value.Value.{finite, infinite}
use Rattle.heyvl_syntax.specs.Expressions.{Expression}
use Rattle.heyvl_syntax.specs.Statements.{Block, LoopRule, RightSide, Statement}
use Rattle.heyvl_syntax.specs.Statements as text
use Rattle.heyvl_places.specs.declared.spans.Span.{Span}
use Rattle.heyvl_syntax.specs.declared.types.TypeName.{TypeName}
use Rattle.heyvl_acts.specs.Acts.{Act, Acts, Arms, join}
use Rattle.heyvl_acts.specs.Tosses.{flip_parts}
use Rattle.static_rules.specs.Literals.{copies, integer, is_weight_literal, weight, weight_value}
use Rattle.typed_expressions.specs.Scopes.{Scope, find, numbers}
use Rattle.typed_expressions.specs.Signatures.{Called, Signature, find_call}
use Rattle.typed_expressions.specs.Table.{declarable}
use Rattle.typed_expressions.specs.TypedExpressions.{elaborate}
use Rattle.static_rules.specs.Variables.{behind, locals, locals_of_arms, locals_of_block}
use Rattle.typed_expressions.specs.DeclaredVariables.{type_or_bool}
use Rattle.typed_expressions.specs.declared.scopes.Local.{Local}
use Rattle.static_rules.specs.declared.settings.Setting.{Setting}
use Rattle.std.specs.Prelude.{Bool, List, None, Option, Some, [], false, length, map, pos, suc}
use Rattle.std.specs.Prelude.{true, unsigned_abs, zero, ◌+ℤ◌, ◌+◌, ◌-ℤ◌, ◌∷◌, ℤ, ℕ}
use Rattle.typed_expressions.specs.Values.{condition, form, term, terms}

-- ---- Targets

-- The number of a visible variable; 0 for a name that is not visible.
abbrev pub number_or_zero : Option Local → ℕ
number_or_zero (Some l) = l.number
number_or_zero None = 0

-- The numbers of the named variables; 0 for a name that is not visible.
abbrev pub targets : Scope → List (List ℕ) → List ℕ
targets sc xs = map (λ x. number_or_zero (find sc x)) xs

-- ---- Right sides

-- An integer as a term.
abbrev pub whole_term : ℤ → Term
whole_term a = Term.number (Form.number (finite (ratio a 1)))

-- The `n` integers from `a` on, each with the weight `w`.
abbrev pub integer_parts : Rational → ℤ → ℕ → List (Rational × Term)
integer_parts w a zero = []
integer_parts w a (suc n) = (w, whole_term a) ∷ integer_parts w (a +ℤ pos 1) n

-- The integers from `a` to `b`, all with the same weight. Example: 1 to 4 have the weight 1/4 each.
abbrev pub unif_parts : Option ℤ → Option ℤ → List (Rational × Term)
unif_parts (Some a) (Some b) =
    integer_parts (ratio (pos 1) (suc (unsigned_abs (b -ℤ a)))) a (suc (unsigned_abs (b -ℤ a)))
unif_parts (Some a) None = []
unif_parts None b = []

-- The terms of the values of a `choose`, each with the value of its weight.
abbrev pub choose_parts : ℕ → Scope → List (Expression × Expression) → List (Rational × Term)
choose_parts n sc ps = map (λ p. (weight_value (weight p.0), term (elaborate n sc p.1))) ps

-- The number of the called procedure; 0 if there is none.
abbrev pub callee : Option Signature → ℕ
callee (Some p) = p.number
callee None = 0

-- The first of the numbers; 0 if there is none.
abbrev pub first_or_zero : List ℕ → ℕ
first_or_zero (x ∷ xs) = x
first_or_zero [] = 0

-- A draw if the probability is a weight literal, otherwise a flip whose probability is a formula.
abbrev pub draw_or_toss : Bool → ℕ → Rational → Form → Span → Act
draw_or_toss true x w f s = Act.draw x (flip_parts w) s
draw_or_toss false x w f s = Act.toss x f s

-- The act of a `flip`.
abbrev pub flip_act : ℕ → Scope → ℕ → Expression → Span → Act
flip_act n sc x p s = draw_or_toss (is_weight_literal (weight p)) x (weight_value (weight p))
    (form (elaborate n sc p)) s

-- The act that assigns a right side to the variables `xs`.
abbrev pub assigned : Called → ℕ → Scope → List ℕ → RightSide → Span → Act
assigned called n sc xs (RightSide.plain e) s =
    Act.set (first_or_zero xs) (term (elaborate n sc e)) s
assigned called n sc xs (RightSide.flip p) s = flip_act n sc (first_or_zero xs) p s
assigned called n sc xs (RightSide.unif a b) s =
    Act.draw (first_or_zero xs) (unif_parts (integer a) (integer b)) s
assigned called n sc xs (RightSide.choose parts) s =
    Act.draw (first_or_zero xs) (choose_parts n sc parts) s
assigned called n sc xs (RightSide.call p arguments) s =
    Act.call xs (callee (find_call called p)) (terms n sc arguments) s

-- The act that initialises the declared variable `n`: with its right side, or without one with any
-- value, chosen in the direction of the procedure.
abbrev pub declared_act : Setting → Called → ℕ → Scope → TypeName → Option RightSide → Span → Act
declared_act h called n sc t None s = Act.any n h.co (type_or_bool (declarable t)) s
declared_act h called n sc t (Some r) s = assigned called n sc (n ∷ []) r s

-- The type of a visible variable; `Bool` for a name that is not visible, and for a type that a
-- variable may not have.
abbrev pub type_of_local : Option Local → Ty
type_of_local (Some l) = type_or_bool (declarable l.ty)
type_of_local None = Ty.Bool

-- The acts that give each of the named variables any value, one after the other.
abbrev pub havocs : Scope → Bool → List (List ℕ) → Span → Acts
havocs sc co [] s = Acts.done
havocs sc co (x ∷ xs) s = Acts.next
    (Act.any (number_or_zero (find sc x)) co (type_of_local (find sc x)) s) (havocs sc co xs s)

-- ---- Rules of loops

-- The number of copies; 1 if there is none.
abbrev pub number_or_one : Option ℕ → ℕ
number_or_one (Some k) = k
number_or_one None = 1

-- The number of copies for the first invariant among the rules: 1 for `@invariant(I)`, `k` for
-- `@k_induction(k, I)`; 1 if there is no invariant.
abbrev pub copies_of : List LoopRule → ℕ
copies_of [] = 1
copies_of (LoopRule.invariant i s ∷ rs) = 1
copies_of (LoopRule.k_induction k i s ∷ rs) = number_or_one (copies k)
copies_of (LoopRule.ranking e r s ∷ rs) = copies_of rs

-- `invariant_of n sc rules`: the formula of the first invariant among `rules`, `I` of
-- `@invariant(I)` or `@k_induction(k, I)`; infinity if there is no invariant.
abbrev pub invariant_of : ℕ → Scope → List LoopRule → Form
invariant_of n sc [] = Form.number infinite
invariant_of n sc (LoopRule.invariant i s ∷ rs) = form (elaborate n sc i)
invariant_of n sc (LoopRule.k_induction k i s ∷ rs) = form (elaborate n sc i)
invariant_of n sc (LoopRule.ranking e r s ∷ rs) = invariant_of n sc rs

-- `ranking_of n sc rules`: the step and the formula of the first ranking among `rules`, if there is
-- one. With the number 0 for `x`, that of `@ranking(1/2, x)` is the step 1/2 with the variable 0.
abbrev pub ranking_of : ℕ → Scope → List LoopRule → Option (Rational × Form)
ranking_of n sc [] = None
ranking_of n sc (LoopRule.ranking e r s ∷ rs) =
    Some (weight_value (weight e), form (elaborate n sc r))
ranking_of n sc (LoopRule.invariant i s ∷ rs) = ranking_of n sc rs
ranking_of n sc (LoopRule.k_induction k i s ∷ rs) = ranking_of n sc rs

-- ---- Statements

-- The number of loops in a statement, in a block and in arms.
abbrev mutual
  pub loops : Statement → ℕ
  loops (Statement.var x t r s) = 0
  loops (Statement.assign xs r s) = 0
  loops (Statement.check kind a s) = 0
  loops (Statement.validate co s) = 0
  loops (Statement.havoc co xs s) = 0
  loops (Statement.reward a s) = 0
  loops (Statement.branch arms other s) = loops_of_arms arms + loops_of_block other
  loops (Statement.pick up a b s) = loops_of_block a + loops_of_block b
  loops (Statement.loop rules g b s) = 1 + loops_of_block b

  -- The number of loops in a block.
  pub loops_of_block : Block → ℕ
  loops_of_block Block.done = 0
  loops_of_block (Block.next s b) = loops s + loops_of_block b

  -- The number of loops in arms.
  pub loops_of_arms : text.Arms → ℕ
  loops_of_arms text.Arms.no_arm = 0
  loops_of_arms (text.Arms.arm g b more) = loops_of_block b + loops_of_arms more

-- The acts of a statement. The next variable has the number `n`, and the next loop the number `m`.
abbrev mutual
  pub statement_acts : Setting → Called → ℕ → ℕ → Scope → Statement → Acts
  statement_acts h called n m sc (Statement.var x t r s) =
      Acts.next (declared_act h called n sc t r s) Acts.done
  statement_acts h called n m sc (Statement.assign xs r s) =
      Acts.next (assigned called n sc (targets sc xs) r s) Acts.done
  statement_acts h called n m sc (Statement.check kind a s) =
      Acts.next (Act.check kind (form (elaborate n sc a)) s) Acts.done
  statement_acts h called n m sc (Statement.validate co s) = Acts.next (Act.validate co s) Acts.done
  statement_acts h called n m sc (Statement.havoc co xs s) = havocs sc co xs s
  statement_acts h called n m sc (Statement.reward a s) =
      Acts.next (Act.reward (form (elaborate n sc a)) s) Acts.done
  statement_acts h called n m sc (Statement.branch arms other s) = Acts.next
      (Act.ifs (arms_acts h called n m sc arms)
      (block_acts h called (n + length (locals_of_arms arms)) (m + loops_of_arms arms) sc other) s)
      Acts.done
  statement_acts h called n m sc (Statement.pick up a b s) = Acts.next
      (Act.pick up (block_acts h called n m sc a)
      (block_acts h called (n + length (locals_of_block a)) (m + loops_of_block a) sc b) s)
      Acts.done
  statement_acts h called n m sc (Statement.loop rules g b s) = Acts.next
      (Act.loop (record {
        number = m;
        k = copies_of rules;
        inv = invariant_of n sc rules;
        guard = condition (elaborate n sc g);
        rank = ranking_of n sc rules;
        scope = numbers sc;
        span = s;
      }) (block_acts h called n (suc m) sc b)) Acts.done

  -- The acts of a block.
  pub block_acts : Setting → Called → ℕ → ℕ → Scope → Block → Acts
  block_acts h called n m sc Block.done = Acts.done
  block_acts h called n m sc (Block.next s b) = join (statement_acts h called n m sc s)
      (block_acts h called (n + length (locals s)) (m + loops s) (behind n sc s) b)

  -- Arms with their conditions and the acts of their blocks.
  pub arms_acts : Setting → Called → ℕ → ℕ → Scope → text.Arms → Arms
  arms_acts h called n m sc text.Arms.no_arm = Arms.no_arm
  arms_acts h called n m sc (text.Arms.arm g b more) = Arms.arm (condition (elaborate n sc g))
      (block_acts h called n m sc b)
      (arms_acts h called (n + length (locals_of_block b)) (m + loops_of_block b) sc more)
