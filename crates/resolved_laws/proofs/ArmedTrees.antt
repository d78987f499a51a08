-- If each `if` of a file has an arm, each `if` of its typed tree has one.
use Rattle.heyvl_acts.proofs.exported.ArmedActs.{AreArmed, AreArmedIn, HasSomeArm, IsArmedAct, armed_join}
use Rattle.heyvl_acts.specs.Acts.{acts_in}
use Rattle.heyvl_places.specs.declared.spans.Span.{Span}
use Rattle.heyvl_syntax.specs.Procedures.{Procedure}
use Rattle.heyvl_syntax.specs.Statements as text
use Rattle.heyvl_syntax.specs.Statements.{Block, RightSide, Statement}
use Rattle.heyvl_syntax.specs.declared.types.TypeName.{TypeName}
use Rattle.resolved_laws.proofs.Flips.{of_flip}
use Rattle.static_rules.specs.ArmedFiles.{AreArmsArmed, HasArm, IsArmed, IsBlockArmed, IsBodyArmed}
use Rattle.static_rules.specs.Files.{arity, body_acts, head_scope, setting, typed}
use Rattle.static_rules.specs.StatementActs.{arms_acts, assigned, block_acts, declared_act, first_or_zero, havocs, loops, loops_of_arms, loops_of_block, statement_acts, targets}
use Rattle.static_rules.specs.Variables.{behind, locals, locals_of_arms, locals_of_block}
use Rattle.static_rules.specs.declared.settings.Setting.{Setting}
use Rattle.std.proofs.Common.{Bool, List, None, Option, Some, [], length, suc, ◌+◌, ◌∷◌, ℕ}
use Rattle.typed_expressions.specs.Scopes.{Scope}
use Rattle.typed_expressions.specs.Signatures.{Called}

module _ (h : Setting) (c : Called) where
  assigned_armed : (n : ℕ) (sc : Scope) (xs : List ℕ) (r : RightSide) (s : Span) → IsArmedAct (assigned c n sc xs r s)
  assigned_armed n sc xs (RightSide.plain e) s = tt
  assigned_armed n sc xs (RightSide.flip p) s = of_flip IsArmedAct n sc (first_or_zero xs) p s tt tt
  assigned_armed n sc xs (RightSide.unif a b) s = tt
  assigned_armed n sc xs (RightSide.choose parts) s = tt
  assigned_armed n sc xs (RightSide.call p arguments) s = tt

  declared_armed : (n : ℕ) (sc : Scope) (t : TypeName) (r : Option RightSide) (s : Span) → IsArmedAct (declared_act h c n sc t r s)
  declared_armed n sc t None s = tt
  declared_armed n sc t (Some r) s = assigned_armed n sc (n ∷ []) r s

  havocs_armed : (sc : Scope) (co : Bool) (xs : List (List ℕ)) (s : Span) → AreArmed (havocs sc co xs s)
  havocs_armed sc co [] s = tt
  havocs_armed sc co (x ∷ xs) s = (tt, havocs_armed sc co xs s)

  some_arm : (n m : ℕ) (sc : Scope) (arms : text.Arms) → HasArm arms → HasSomeArm (arms_acts h c n m sc arms)
  some_arm n m sc text.Arms.no_arm a = a
  some_arm n m sc (text.Arms.arm g b more) a = tt

  mutual
    statement_armed : (n m : ℕ) (sc : Scope) (x : Statement) → IsArmed x → AreArmed (statement_acts h c n m sc x)
    statement_armed n m sc (Statement.var x t r s) a = (declared_armed n sc t r s, tt)
    statement_armed n m sc (Statement.assign xs r s) a = (assigned_armed n sc (targets sc xs) r s, tt)
    statement_armed n m sc (Statement.check kind e s) a = (tt, tt)
    statement_armed n m sc (Statement.validate co s) a = (tt, tt)
    statement_armed n m sc (Statement.havoc co xs s) a = havocs_armed sc co xs s
    statement_armed n m sc (Statement.reward e s) a = (tt, tt)
    statement_armed n m sc (Statement.branch arms other s) a = ((some_arm n m sc arms a.0, (arms_armed n m sc arms a.1.0, block_armed (n + length (locals_of_arms arms)) (m + loops_of_arms arms) sc other a.1.1)), tt)
    statement_armed n m sc (Statement.pick up l r s) a = ((block_armed n m sc l a.0, block_armed (n + length (locals_of_block l)) (m + loops_of_block l) sc r a.1), tt)
    statement_armed n m sc (Statement.loop rules g b s) a = (block_armed n (suc m) sc b a, tt)

    block_armed : (n m : ℕ) (sc : Scope) (b : Block) → IsBlockArmed b → AreArmed (block_acts h c n m sc b)
    block_armed n m sc Block.done a = tt
    block_armed n m sc (Block.next s b) a =
        armed_join (statement_acts h c n m sc s) (block_acts h c (n + length (locals s)) (m + loops s) (behind n sc s) b) (statement_armed n m sc s a.0) (block_armed (n + length (locals s)) (m + loops s) (behind n sc s) b a.1)

    arms_armed : (n m : ℕ) (sc : Scope) (arms : text.Arms) → AreArmsArmed arms → AreArmedIn (arms_acts h c n m sc arms)
    arms_armed n m sc text.Arms.no_arm a = tt
    arms_armed n m sc (text.Arms.arm g b more) a = (block_armed n m sc b a.0, arms_armed (n + length (locals_of_block b)) (m + loops_of_block b) sc more a.1)

  body_armed : (n : ℕ) (sc : Scope) (b : Option Block) → IsBodyArmed b → AreArmed (acts_in (body_acts h c n sc b))
  body_armed n sc None a = tt
  body_armed n sc (Some b) a = block_armed n 1 sc b a

pub procedure_armed : (c : Called) (p : Procedure) → IsBodyArmed p.body → AreArmed (acts_in (typed c p).body)
procedure_armed c p a = body_armed (setting p) c (arity p) (head_scope p) p.body a
