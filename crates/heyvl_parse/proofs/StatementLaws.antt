-- The laws of the reader of statements, from those of blocks.
use Rattle.heyvl_parse.proofs.BranchLaws.{IsIfParts, IsLooped, IsOther, if_laws, looped_laws, then_back}
use Rattle.heyvl_parse.proofs.KeyLaws.{validate_laws}
use Rattle.heyvl_parse.proofs.Lawful.{Both, Laws, chosen_local, either_first, either_second, laws_stop, local_refuse}
use Rattle.heyvl_parse.proofs.Local.{Local}
use Rattle.heyvl_parse.proofs.PlacedLaws.{Made, made_laws}
use Rattle.heyvl_parse.proofs.Right.{RightAt, Some_text, is_mark_true, nowhere, right_as}
use Rattle.heyvl_parse.proofs.RightLaws.{led, on_right}
use Rattle.heyvl_parse.proofs.RuleLaws.{rule_begins}
use Rattle.heyvl_parse.proofs.SimpleLaws.{Assigned, Declared, IsRewarded, assigned_laws, checked_laws, declared_laws, havocked_laws, rewarded_laws}
use Rattle.heyvl_parse.specs.declared.statements.Opening.TheVariants as openings
use Rattle.heyvl_parse.specs.declared.statements.Opening.{Opening}
use Rattle.heyvl_parse.specs.readers.Combinators.{either, is_key, is_operator, kind, no_kind, spanned, starts}
use Rattle.heyvl_parse.specs.internal.Loops.{rules}
use Rattle.heyvl_parse.specs.readers.ReadParts.{Got, is_mark}
use Rattle.heyvl_parse.specs.internal.Rights.{two}
use Rattle.heyvl_parse.specs.internal.Statements.{BlockReader, IfParts, assign_tree, assigned, by_key, check_tree, checked, declared, havoc_tree, havocked, if_parts, if_tree, is_opening, key_opening, key_validate, loop_tree, looped, opening, opens, rewarded, stmt, stmt_by, var_tree}
use Rattle.heyvl_places.specs.declared.checks.CheckKind.TheVariants as checks
use Rattle.heyvl_places.specs.declared.checks.CheckKind.{CheckKind}
use Rattle.heyvl_places.specs.declared.spans.Span.{Span}
use Rattle.heyvl_syntax.proofs.exported.Sequences.{then_assoc}
use Rattle.heyvl_syntax.specs.Expressions.{Expression}
use Rattle.heyvl_syntax.specs.Grammar.{IsBlock, IsElseIfs, IsFull, IsRule, IsStmt, check_key, havoc_key, validate_key}
use Rattle.heyvl_syntax.specs.Productions.{IsEach, IsKey, IsList, IsName, at, extent, ◌then◌}
use Rattle.heyvl_syntax.specs.Statements.{Arms, Block, LoopRule, RightSide, Statement, arms_of}
use Rattle.heyvl_syntax.specs.declared.keys.Key.TheVariants as keys
use Rattle.heyvl_syntax.specs.declared.marks.Mark.TheVariants as marks
use Rattle.heyvl_syntax.specs.declared.tokens.Token.{Token}
use Rattle.heyvl_syntax.specs.declared.tokens.TokenKind.TheVariants as kinds
use Rattle.heyvl_syntax.specs.declared.tokens.TokenKind.{TokenKind}
use Rattle.std.proofs.Common.{Bool, List, [], ap, false, inl, inr, length, refl, subst, sym, true, ◌++◌, ◌<◌, ◌∙◌, ◌∷◌, ◌≡◌, ℕ}

-- The kinds that continue some statement.
abbrev pub on_stmt : TokenKind → Bool
on_stmt = either on_right (either (is_mark marks.Comma) (either (is_mark marks.Assign) (is_key keys.Else)))

on_comma : (k : TokenKind) → on_stmt k ≡ false → is_mark marks.Comma k ≡ false
on_comma k e = either_first (is_mark marks.Comma) (either (is_mark marks.Assign) (is_key keys.Else)) k (either_second on_right (either (is_mark marks.Comma) (either (is_mark marks.Assign) (is_key keys.Else))) k e)

on_assign : (k : TokenKind) → on_stmt k ≡ false → is_mark marks.Assign k ≡ false
on_assign k e = either_first (is_mark marks.Assign) (is_key keys.Else) k (either_second (is_mark marks.Comma) (either (is_mark marks.Assign) (is_key keys.Else)) k (either_second on_right (either (is_mark marks.Comma) (either (is_mark marks.Assign) (is_key keys.Else))) k e))

on_else : (k : TokenKind) → on_stmt k ≡ false → is_key keys.Else k ≡ false
on_else k e = either_second (is_mark marks.Assign) (is_key keys.Else) k (either_second (is_mark marks.Comma) (either (is_mark marks.Assign) (is_key keys.Else)) k (either_second on_right (either (is_mark marks.Comma) (either (is_mark marks.Assign) (is_key keys.Else))) k e))

on_rights : (k : TokenKind) → on_stmt k ≡ false → on_right k ≡ false
on_rights k e = either_first on_right (either (is_mark marks.Comma) (either (is_mark marks.Assign) (is_key keys.Else))) k e

on_operator : (k : TokenKind) → on_stmt k ≡ false → is_operator k ≡ false
on_operator k e = either_first is_operator (is_mark marks.ParenLeft) k (on_rights k e)

on_var : (k : TokenKind) → on_stmt k ≡ false → either on_right (is_mark marks.Assign) k ≡ false
on_var k e = rw (on_rights k e) (on_assign k e)

module _ (n : ℕ) (block : BlockReader) (lb : Laws n IsBlock no_kind block) where
  var_laws : Laws n (Made var_tree Declared) on_stmt (spanned var_tree (declared n))
  var_laws = laws_stop on_stmt on_var (made_laws var_tree (declared_laws n))

  assign_laws : Laws n (Made assign_tree Assigned) on_stmt (spanned assign_tree (assigned n))
  assign_laws = laws_stop on_stmt on_rights (made_laws assign_tree (assigned_laws n))

  checks_laws : Laws n (Made check_tree (Both (λ k. IsKey (check_key k)) IsFull)) on_stmt (spanned check_tree (checked n))
  checks_laws = laws_stop on_stmt on_operator (made_laws check_tree (checked_laws n))

  validates_laws : Laws n (Made Statement.validate (λ b. IsKey (validate_key b))) on_stmt (spanned Statement.validate (kind (by_key key_validate)))
  validates_laws = laws_stop on_stmt (λ k e. refl) (made_laws Statement.validate (validate_laws n))

  havocs_laws : Laws n (Made havoc_tree (Both (λ b. IsKey (havoc_key b)) (IsList IsName))) on_stmt (spanned havoc_tree (havocked n))
  havocs_laws = laws_stop on_stmt on_comma (made_laws havoc_tree (havocked_laws n))

  rewards_laws : Laws n (Made Statement.reward IsRewarded) on_stmt (spanned Statement.reward (rewarded n))
  rewards_laws = laws_stop on_stmt on_operator (made_laws Statement.reward (rewarded_laws n))

  ifs_laws : Laws n (Made if_tree (λ p. IsKey keys.If then IsIfParts n block lb p)) on_stmt (spanned if_tree (if_parts n block))
  ifs_laws = laws_stop on_stmt on_else (made_laws if_tree (if_laws n block lb))

  loops_laws : Laws n (Made loop_tree (IsLooped n block lb)) on_stmt (spanned loop_tree (looped n block))
  loops_laws = laws_stop on_stmt (λ k e. refl) (made_laws loop_tree (looped_laws n block lb))

  some_stmt : Some_text IsStmt
  some_stmt = (Statement.validate true nowhere, at (kinds.Key keys.CoValidate) nowhere ∷ [], ((nowhere, refl), refl))

  into_if : (p : IfParts) (text : List Token) → (IsKey keys.If then IsIfParts n block lb p) text → IsStmt (if_tree p (extent text)) text
  into_if (IfParts.picking p) text h = (h, refl)
  into_if (IfParts.branching ([], b)) text (one, two, key, h, e) = absurd h
  into_if (IfParts.branching (a ∷ xs, b)) text h = (then_back (IsKey keys.If) (IsFull a.0 then IsBlock a.1 then IsElseIfs (arms_of xs)) (IsOther b) text h, refl)

  arm_list : Arms → List (Expression × Block)
  arm_list Arms.no_arm = []
  arm_list (Arms.arm g b more) = (g, b) ∷ arm_list more

  arms_back : (xs : Arms) → arms_of (arm_list xs) ≡ xs
  unfolding arm_list
  arms_back Arms.no_arm = refl
  arms_back (Arms.arm g b more) = ap (λ z. Arms.arm g b z) (arms_back more)

  from_branch : (arms : Arms) (other : Block) (s : Span) (text : List Token) → IsStmt (Statement.branch arms other s) text → Made if_tree (λ p. IsKey keys.If then IsIfParts n block lb p) (Statement.branch arms other s) text
  unfolding arm_list
  from_branch Arms.no_arm other s text ((one, two, h, o, e), place) = absurd h
  from_branch (Arms.arm g b more) other s text (h, place) =
      (IfParts.branching ((g, b) ∷ arm_list more, other), rw (place, arms_back more) refl, rw (arms_back more) (then_assoc (IsKey keys.If) (IsFull g then IsBlock b then IsElseIfs more) (IsOther other) text h))

  into_stmt : (o : Opening) → RightAt IsStmt (stmt_by n block o)
  into_stmt openings.Var ts = right_as _ IsStmt ts _ (λ y text (x, same, h). rw same (h, refl)) (var_laws.right ts)
  into_stmt openings.Assign ts = right_as _ IsStmt ts _ (λ y text (x, same, h). rw same (h, refl)) (assign_laws.right ts)
  into_stmt openings.Check ts = right_as _ IsStmt ts _ (λ y text (x, same, h). rw same (h, refl)) (checks_laws.right ts)
  into_stmt openings.Validate ts = right_as _ IsStmt ts _ (λ y text (x, same, h). rw same (h, refl)) (validates_laws.right ts)
  into_stmt openings.Havoc ts = right_as _ IsStmt ts _ (λ y text (x, same, h). rw same (h, refl)) (havocs_laws.right ts)
  into_stmt openings.Reward ts = right_as _ IsStmt ts _ (λ y text (x, same, h). rw same (h, refl)) (rewards_laws.right ts)
  into_stmt openings.If ts = right_as _ IsStmt ts _ (λ y text (x, same, h). rw same (into_if x text h)) (ifs_laws.right ts)
  into_stmt openings.Loop ts = right_as _ IsStmt ts _ (λ y text (x, same, h). rw same (h, refl)) (loops_laws.right ts)
  into_stmt openings.Other ts = let (x, text, h) = some_stmt in ([], text, x, refl, h)

  stmt_local : (o : Opening) → Local (stmt_by n block o)
  stmt_local openings.Var = var_laws.local
  stmt_local openings.Assign = assign_laws.local
  stmt_local openings.Check = checks_laws.local
  stmt_local openings.Validate = validates_laws.local
  stmt_local openings.Havoc = havocs_laws.local
  stmt_local openings.Reward = rewards_laws.local
  stmt_local openings.If = ifs_laws.local
  stmt_local openings.Loop = loops_laws.local
  stmt_local openings.Other = local_refuse

  at_opening : (ts : List Token) (o : Opening) → opening ts ≡ o → stmt n block ts ≡ stmt_by n block o ts
  at_opening ts o e = ap (λ z. stmt_by n block z ts) e

  check_opens : (k : CheckKind) → key_opening (check_key k) ≡ openings.Check
  check_opens checks.Assert = refl
  check_opens checks.Assume = refl
  check_opens checks.CoAssert = refl
  check_opens checks.CoAssume = refl

  validate_opens : (b : Bool) → key_opening (validate_key b) ≡ openings.Validate
  validate_opens true = refl
  validate_opens false = refl

  havoc_opens : (b : Bool) → key_opening (havoc_key b) ≡ openings.Havoc
  havoc_opens true = refl
  havoc_opens false = refl

  -- The first token of a text determines the statement.
  opening_of : (x : Statement) (text rest : List Token) → IsStmt x text → (o : Opening) × (opening (text ++ rest) ≡ o) × (opens o ≡ true) × (length (text ++ rest) < n → starts on_stmt rest ≡ false → stmt_by n block o (text ++ rest) ≡ Got x rest)
  opening_of (Statement.var x t r p) text rest (h, place) =
      let (s, back, inner, e) = led _ (kinds.Key keys.Var) text rest h in
      (openings.Var, rw e refl, refl, λ len quiet. var_laws.complete (Statement.var x t r p) text rest ((x, (t, r)), rw place refl, h) len quiet)
  opening_of (Statement.assign [] (RightSide.call f xs) p) text rest (h, place) =
      let (s, back, inner, e) = led _ (kinds.Word f) text rest h in
      (openings.Assign, rw e refl, refl, λ len quiet. assign_laws.complete (Statement.assign [] (RightSide.call f xs) p) text rest (([], RightSide.call f xs), rw place refl, h) len quiet)
  opening_of (Statement.assign [] (RightSide.plain a) p) text rest (h, place) = absurd h
  opening_of (Statement.assign [] (RightSide.flip a) p) text rest (h, place) = absurd h
  opening_of (Statement.assign [] (RightSide.unif a b) p) text rest (h, place) = absurd h
  opening_of (Statement.assign [] (RightSide.choose a) p) text rest (h, place) = absurd h
  opening_of (Statement.assign (x ∷ xs) r p) text rest ((one, two, (n1, n2, (s, hn), hm, e1), g, e), place) =
      (openings.Assign, rw (e, e1, hn) refl, refl, λ len quiet. assign_laws.complete (Statement.assign (x ∷ xs) r p) text rest ((x ∷ xs, r), rw place refl, (one, two, (n1, n2, (s, hn), hm, e1), g, e)) len quiet)
  opening_of (Statement.check kind a p) text rest (h, place) =
      let (s, back, inner, e) = led _ (kinds.Key (check_key kind)) text rest h in
      (openings.Check, rw e (check_opens kind), refl, λ len quiet. checks_laws.complete (Statement.check kind a p) text rest ((kind, a), rw place refl, h) len quiet)
  opening_of (Statement.validate co p) text rest ((s, h), place) =
      (openings.Validate, rw h (validate_opens co), refl, λ len quiet. validates_laws.complete (Statement.validate co p) text rest (co, rw place refl, (s, h)) len quiet)
  opening_of (Statement.havoc co xs p) text rest (h, place) =
      let (s, back, inner, e) = led _ (kinds.Key (havoc_key co)) text rest h in
      (openings.Havoc, rw e (havoc_opens co), refl, λ len quiet. havocs_laws.complete (Statement.havoc co xs p) text rest ((co, xs), rw place refl, h) len quiet)
  opening_of (Statement.reward a p) text rest ((one, two, inl (s, key), h, e), place) =
      (openings.Reward, rw (e, key) refl, refl, λ len quiet. rewards_laws.complete (Statement.reward a p) text rest (a, rw place refl, (one, two, inl (s, key), h, e)) len quiet)
  opening_of (Statement.reward a p) text rest ((one, two, inr (s, key), h, e), place) =
      (openings.Reward, rw (e, key) refl, refl, λ len quiet. rewards_laws.complete (Statement.reward a p) text rest (a, rw place refl, (one, two, inr (s, key), h, e)) len quiet)
  opening_of (Statement.branch arms other p) text rest h =
      let (x, same, parts) = from_branch arms other p text h in
      let (s, back, inner, e) = led _ (kinds.Key keys.If) text rest parts in
      (openings.If, rw e refl, refl, λ len quiet. ifs_laws.complete (Statement.branch arms other p) text rest (x, same, parts) len quiet)
  opening_of (Statement.pick up a b p) text rest (h, place) =
      let (s, back, inner, e) = led _ (kinds.Key keys.If) text rest h in
      (openings.If, rw e refl, refl, λ len quiet. ifs_laws.complete (Statement.pick up a b p) text rest (IfParts.picking (up, (a, b)), rw place refl, h) len quiet)
  opening_of (Statement.loop rules g b p) text rest (h, place) =
      (openings.Loop, begins rules text h, refl, λ len quiet. loops_laws.complete (Statement.loop rules g b p) text rest ((rules, (g, b)), rw place refl, h) len quiet)
    where
      begins : (rules : List LoopRule) (text : List Token) → (IsEach IsRule rules then IsKey keys.While then IsFull g then IsBlock b) text → opening (text ++ rest) ≡ openings.Loop
      begins [] text (one, two, none, h, e) = let (s, back, inner, e2) = led _ (kinds.Key keys.While) two rest h in rw (e, none, e2) refl
      begins (r ∷ rs) text (one, two, (o1, o2, hr, hs, e1), h, e) = rw (e, e1) (at_sign o1 (rule_begins r o1 hr))
        where
          at_sign : (o1 : List Token) → starts (is_mark marks.AtSign) o1 ≡ true → opening (((o1 ++ o2) ++ two) ++ rest) ≡ openings.Loop
          at_sign [] e = cc
          at_sign (t ∷ ts) e = rw (is_mark_true marks.AtSign t.kind e) refl

  pub stmt_laws : Laws n IsStmt on_stmt (stmt n block)
  stmt_laws = record {
    right = λ ts. into_stmt (opening ts) ts;
    local = chosen_local opening (stmt_by n block) (stmt n block) (λ ts. refl) (λ t r r'. refl) stmt_local;
    complete = λ x text rest h len quiet.
        let (o, class, on, read) = opening_of x text rest h in
        at_opening (text ++ rest) o class ∙ read len quiet;
  }

  pub stmt_begins : (x : Statement) (text : List Token) → IsStmt x text → starts is_opening text ≡ true
  stmt_begins x [] h = let (o, class, on, read) = opening_of x [] [] h in let never : false ≡ true = subst (λ (z : Opening). opens z ≡ true) (sym class) on in cc
  stmt_begins x (t ∷ ts) h = let (o, class, on, read) = opening_of x (t ∷ ts) [] h in rw class on
