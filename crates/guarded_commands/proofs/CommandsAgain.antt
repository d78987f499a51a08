-- The statements of commands are spelled again by printable tokens.
use Rattle.heyvl_print.specs.Printable.{ArePrintable, IsPrintable}
use Rattle.heyvl_print.specs.WithoutPlaces.{bare_block, bare_statement, no_place}
use Rattle.heyvl_places.specs.declared.spans.Span.{Span}
use Rattle.heyvl_syntax.specs.Expressions.{Expression}
use Rattle.heyvl_syntax.specs.Grammar.{IsFull, IsStmt, IsStmts}
use Rattle.heyvl_syntax.specs.Productions.{IsKey, IsMark, IsName, extent, ◌or◌, ◌then◌}
use Rattle.heyvl_syntax.specs.Statements as heyvl
use Rattle.heyvl_syntax.specs.Statements.{Block, LoopRule, RightSide, Statement}
use Rattle.heyvl_syntax.specs.declared.keys.Key.TheVariants as keys
use Rattle.heyvl_syntax.specs.declared.marks.Mark.TheVariants as marks
use Rattle.heyvl_syntax.specs.declared.tokens.Token.{Token}
use Rattle.heyvl_syntax.specs.declared.tokens.TokenKind.TheVariants as kinds
use Rattle.heyvl_syntax.specs.declared.types.TypeName.TheVariants as names
use Rattle.guarded_commands.proofs.AgainTexts.{Again, Has, back_of, braced, front_of, key, mark, name_printable, no_semis, nothing, otherwise, ◌next◌, word}
use Rattle.guarded_commands.proofs.ExpressionsAgain.{ExprAgain, group_again, kept, name_again}
use Rattle.guarded_commands.proofs.MadeWords.{invariant_printable, pick_printable}
use Rattle.guarded_commands.specs.Grammar.{IsCommand, IsCommands, IsEnclosed, IsPblock}
use Rattle.guarded_commands.specs.Programs.{BlockTree, CommandTree}
use Rattle.guarded_commands.specs.Translation.{arm, lines, pick_name, picks, picks_in, statements}
use Rattle.std.proofs.Common.{List, Some, [], ap, codes, inl, refl, true, ◌++◌, ◌+◌, ◌∷◌, ◌≡◌, ℕ}

abbrev StatementAgain : Statement → Type 0
StatementAgain s = Again bare_statement IsStmt s

abbrev BlockAgain : Block → Type 0
BlockAgain b = Again bare_block IsStmts b

abbrev pub AllAgain : List Statement → Type 0
AllAgain [] = Unit {0}
AllAgain (x ∷ xs) = Again bare_statement IsStmt x × AllAgain xs

pub all_append : (xs ys : List Statement) → AllAgain xs → AllAgain ys → AllAgain (xs ++ ys)
all_append [] ys h k = k
all_append (x ∷ xs) ys h k = (h.0, all_append xs ys h.1 k)

pub block_again : (xs : List Statement) → AllAgain xs → BlockAgain (heyvl.block_of xs)
block_again [] h = record { item = Block.done; same = refl; tokens = record { text = []; is = refl; printable = tt } }
block_again (x ∷ xs) h =
    let one = h.0 in
    let rest = block_again xs h.1 in
    let t = one.tokens next no_semis next rest.tokens in
    record { item = Block.next one.item rest.item; same = rw (one.same, rest.same) refl; tokens = t }

done_again : BlockAgain Block.done
done_again = block_again [] tt

truth_again : (s : Span) → ExprAgain (Expression.truth true s) 9
truth_again s =
    let t = key keys.TrueWord in
    record { item = Expression.truth true (extent t.text); same = refl; tokens = record { text = t.text; is = (t.is, refl); printable = t.printable } }

branch_again : (g : Expression) (a b : Block) (s : Span) → ExprAgain g 9 → BlockAgain a → BlockAgain b → StatementAgain (Statement.branch (arm g a) b s)
branch_again g a b s x y z =
    let t = (key keys.If next x.tokens next braced y.tokens next nothing) next otherwise z.item (braced z.tokens) in
    record {
      item = Statement.branch (arm x.item y.item) z.item (extent t.text);
      same = rw (x.same, y.same, z.same) refl;
      tokens = record { text = t.text; is = (t.is, refl); printable = t.printable };
    }

pick_again : (a b : Block) (s : Span) → BlockAgain a → BlockAgain b → StatementAgain (Statement.pick true a b s)
pick_again a b s y z =
    let t = key keys.If next key keys.Cup next braced y.tokens next otherwise z.item (braced z.tokens) in
    record {
      item = Statement.pick true y.item z.item (extent t.text);
      same = rw (y.same, z.same) refl;
      tokens = record { text = t.text; is = (t.is, refl); printable = t.printable };
    }

pub assign_again : (x : List ℕ) (e : Expression) (s : Span) → IsPrintable (kinds.Word x) → ExprAgain e 9 → StatementAgain (Statement.assign (x ∷ []) (RightSide.plain e) s)
assign_again x e s w h =
    let t = (word x w next nothing) next mark marks.Assign next h.tokens in
    record {
      item = Statement.assign (x ∷ []) (RightSide.plain h.item) (extent t.text);
      same = ap (λ z. Statement.assign (x ∷ []) (RightSide.plain z) no_place) h.same;
      tokens = record { text = t.text; is = (t.is, refl); printable = t.printable };
    }

reward_again : (e : Expression) (s : Span) → ExprAgain e 9 → StatementAgain (Statement.reward e s)
reward_again e s h =
    let k = key keys.Reward in
    let first : Has (IsKey keys.Reward or IsKey keys.Tick) = record { text = k.text; is = inl k.is; printable = k.printable } in
    let t = first next h.tokens in
    record {
      item = Statement.reward h.item (extent t.text);
      same = ap (λ z. Statement.reward z no_place) h.same;
      tokens = record { text = t.text; is = (t.is, refl); printable = t.printable };
    }

toss_again : (j : ℕ) (p : Expression) (s : Span) → ExprAgain p 9 → StatementAgain (Statement.var (pick_name j) names.Bool (Some (RightSide.flip p)) s)
toss_again j p s h =
    let t = key keys.Var next word (pick_name j) (pick_printable j) next mark marks.Colon next key keys.BoolWord next mark marks.Assign next key keys.Flip next mark marks.ParenLeft next h.tokens next mark marks.ParenRight in
    record {
      item = Statement.var (pick_name j) names.Bool (Some (RightSide.flip h.item)) (extent t.text);
      same = ap (λ z. Statement.var (pick_name j) names.Bool (Some (RightSide.flip z)) no_place) h.same;
      tokens = record { text = t.text; is = (t.is, refl); printable = t.printable };
    }

loop_again : (g i : Expression) (a : Block) (s r : Span) → ExprAgain g 9 → ExprAgain i 9 → BlockAgain a → StatementAgain (Statement.loop (LoopRule.invariant i r ∷ []) g a s)
loop_again g i a s r x y z =
    let rule = mark marks.AtSign next word (codes "invariant") invariant_printable next mark marks.ParenLeft next y.tokens next mark marks.ParenRight in
    let placed : Has (λ ts. (IsMark marks.AtSign then IsName (codes "invariant") then IsMark marks.ParenLeft then IsFull y.item then IsMark marks.ParenRight) ts × (extent rule.text ≡ extent ts)) =
    record { text = rule.text; is = (rule.is, refl); printable = rule.printable } in
    let t = (placed next nothing) next key keys.While next x.tokens next braced z.tokens in
    record {
      item = Statement.loop (LoopRule.invariant y.item (extent rule.text) ∷ []) x.item z.item (extent t.text);
      same = rw (x.same, y.same, z.same) refl;
      tokens = record { text = t.text; is = (t.is, refl); printable = t.printable };
    }

-- An expression in parentheses, and one before `;` or `]`.
enclosed_again : (e : Expression) (ts : List Token) → IsEnclosed e ts → ArePrintable ts → ExprAgain e 9
enclosed_again e ts h p =
    let rest = back_of (IsMark marks.ParenLeft) (IsFull e then IsMark marks.ParenRight) ts h p in
    let inner = front_of (IsFull e) (IsMark marks.ParenRight) rest.text rest.is rest.printable in
    kept e 9 inner.text inner.is inner.printable

-- The commands in braces.
inside : (b : BlockTree) (ts : List Token) → IsPblock b ts → ArePrintable ts → Has (IsCommands b)
inside b ts h p =
    let rest = back_of (IsMark marks.BraceLeft) (IsCommands b then IsMark marks.BraceRight) ts h p in
    front_of (IsCommands b) (IsMark marks.BraceRight) rest.text rest.is rest.printable

mutual
  pub command_again : (j : ℕ) (x : CommandTree) (ts : List Token) → IsCommand x ts → ArePrintable ts → AllAgain (lines j x)
  command_again j (CommandTree.skip s) ts h p = (branch_again (Expression.truth true s) Block.done Block.done s (truth_again s) done_again done_again, tt)
  command_again j (CommandTree.assign x e s) ts h p =
      let named = front_of (IsName x) (IsMark marks.Colon then IsMark marks.Assign then IsFull e then IsMark marks.Semi) ts h.0 p in
      let r1 = back_of (IsName x) (IsMark marks.Colon then IsMark marks.Assign then IsFull e then IsMark marks.Semi) ts h.0 p in
      let r2 = back_of (IsMark marks.Colon) (IsMark marks.Assign then IsFull e then IsMark marks.Semi) r1.text r1.is r1.printable in
      let r3 = back_of (IsMark marks.Assign) (IsFull e then IsMark marks.Semi) r2.text r2.is r2.printable in
      let value = front_of (IsFull e) (IsMark marks.Semi) r3.text r3.is r3.printable in
      (assign_again x e s (name_printable x named.text named.is named.printable) (kept e 9 value.text value.is value.printable), tt)
  command_again j (CommandTree.tick e s) ts h p =
      let r1 = back_of (IsKey keys.Tick) (IsEnclosed e then IsMark marks.Semi) ts h.0 p in
      let inner = front_of (IsEnclosed e) (IsMark marks.Semi) r1.text r1.is r1.printable in
      (reward_again e s (enclosed_again e inner.text inner.is inner.printable), tt)
  command_again j (CommandTree.branch g a b s) ts h p =
      let r1 = back_of (IsKey keys.If) (IsEnclosed g then IsPblock a then IsKey keys.Else then IsPblock b) ts h.0 p in
      let guard = front_of (IsEnclosed g) (IsPblock a then IsKey keys.Else then IsPblock b) r1.text r1.is r1.printable in
      let r2 = back_of (IsEnclosed g) (IsPblock a then IsKey keys.Else then IsPblock b) r1.text r1.is r1.printable in
      let left_block = front_of (IsPblock a) (IsKey keys.Else then IsPblock b) r2.text r2.is r2.printable in
      let left = inside a left_block.text left_block.is left_block.printable in
      let r3 = back_of (IsPblock a) (IsKey keys.Else then IsPblock b) r2.text r2.is r2.printable in
      let right_block = back_of (IsKey keys.Else) (IsPblock b) r3.text r3.is r3.printable in
      let right = inside b right_block.text right_block.is right_block.printable in (
        branch_again (Expression.group g s) (heyvl.block_of (statements j a)) (heyvl.block_of (statements (j + picks_in a) b)) s
            (group_again g s 9 (enclosed_again g guard.text guard.is guard.printable))
            (block_again (statements j a) (commands_again j a left.text left.is left.printable))
            (block_again (statements (j + picks_in a) b) (commands_again (j + picks_in a) b right.text right.is right.printable)),
        tt,
      )
  command_again j (CommandTree.mix q a b s) ts h p =
      let left_block = front_of (IsPblock a) (IsMark marks.BracketLeft then IsFull q then IsMark marks.BracketRight then IsPblock b) ts h.0 p in
      let left = inside a left_block.text left_block.is left_block.printable in
      let r1 = back_of (IsPblock a) (IsMark marks.BracketLeft then IsFull q then IsMark marks.BracketRight then IsPblock b) ts h.0 p in
      let r2 = back_of (IsMark marks.BracketLeft) (IsFull q then IsMark marks.BracketRight then IsPblock b) r1.text r1.is r1.printable in
      let chance = front_of (IsFull q) (IsMark marks.BracketRight then IsPblock b) r2.text r2.is r2.printable in
      let r3 = back_of (IsFull q) (IsMark marks.BracketRight then IsPblock b) r2.text r2.is r2.printable in
      let right_block = back_of (IsMark marks.BracketRight) (IsPblock b) r3.text r3.is r3.printable in
      let right = inside b right_block.text right_block.is right_block.printable in (
        toss_again j q s (kept q 9 chance.text chance.is chance.printable),
        (
          branch_again (Expression.name (pick_name j) s) (heyvl.block_of (statements (j + 1) a)) (heyvl.block_of (statements (j + 1 + picks_in a) b)) s
              (name_again (pick_name j) s 9 (pick_printable j))
              (block_again (statements (j + 1) a) (commands_again (j + 1) a left.text left.is left.printable))
              (block_again (statements (j + 1 + picks_in a) b) (commands_again (j + 1 + picks_in a) b right.text right.is right.printable)),
          tt,
        ),
      )
  command_again j (CommandTree.choice a b s) ts h p =
      let left_block = front_of (IsPblock a) (IsMark marks.BracketLeft then IsMark marks.BracketRight then IsPblock b) ts h.0 p in
      let left = inside a left_block.text left_block.is left_block.printable in
      let r1 = back_of (IsPblock a) (IsMark marks.BracketLeft then IsMark marks.BracketRight then IsPblock b) ts h.0 p in
      let r2 = back_of (IsMark marks.BracketLeft) (IsMark marks.BracketRight then IsPblock b) r1.text r1.is r1.printable in
      let right_block = back_of (IsMark marks.BracketRight) (IsPblock b) r2.text r2.is r2.printable in
      let right = inside b right_block.text right_block.is right_block.printable in (
        pick_again (heyvl.block_of (statements j a)) (heyvl.block_of (statements (j + picks_in a) b)) s
            (block_again (statements j a) (commands_again j a left.text left.is left.printable))
            (block_again (statements (j + picks_in a) b) (commands_again (j + picks_in a) b right.text right.is right.printable)),
        tt,
      )
  command_again j (CommandTree.repeat g i a s) ts h p =
      let r1 = back_of (IsKey keys.While) (IsEnclosed g then IsMark marks.BracketLeft then IsFull i then IsMark marks.BracketRight then IsPblock a) ts h.0 p in
      let guard = front_of (IsEnclosed g) (IsMark marks.BracketLeft then IsFull i then IsMark marks.BracketRight then IsPblock a) r1.text r1.is r1.printable in
      let r2 = back_of (IsEnclosed g) (IsMark marks.BracketLeft then IsFull i then IsMark marks.BracketRight then IsPblock a) r1.text r1.is r1.printable in
      let r3 = back_of (IsMark marks.BracketLeft) (IsFull i then IsMark marks.BracketRight then IsPblock a) r2.text r2.is r2.printable in
      let bound = front_of (IsFull i) (IsMark marks.BracketRight then IsPblock a) r3.text r3.is r3.printable in
      let r4 = back_of (IsFull i) (IsMark marks.BracketRight then IsPblock a) r3.text r3.is r3.printable in
      let body_block = back_of (IsMark marks.BracketRight) (IsPblock a) r4.text r4.is r4.printable in
      let body = inside a body_block.text body_block.is body_block.printable in (
        loop_again (Expression.group g s) i (heyvl.block_of (statements j a)) s s
            (group_again g s 9 (enclosed_again g guard.text guard.is guard.printable))
            (kept i 9 bound.text bound.is bound.printable)
            (block_again (statements j a) (commands_again j a body.text body.is body.printable)),
        tt,
      )

  pub commands_again : (j : ℕ) (b : BlockTree) (ts : List Token) → IsCommands b ts → ArePrintable ts → AllAgain (statements j b)
  commands_again j BlockTree.done ts h p = tt
  commands_again j (BlockTree.next x xs) ts h p =
      let one = front_of (IsCommand x) (IsCommands xs) ts h p in
      let rest = back_of (IsCommand x) (IsCommands xs) ts h p in
      all_append (lines j x) (statements (j + picks x) xs) (command_again j x one.text one.is one.printable) (commands_again (j + picks x) xs rest.text rest.is rest.printable)
