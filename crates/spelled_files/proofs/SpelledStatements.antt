-- The acts of statements, and the products of their forms, begin within the bytes of the text; and
-- each `if` has an arm.
use Rattle.spelled_files.proofs.EachOf.{each_both, each_join}
use Rattle.spelled_files.proofs.SpelledExpressions.{ExpressionStands, condition_stands, expr, form_stands, term_stands}
use Rattle.spelled_files.proofs.SpelledParts.{ArePlaced, Gives, any, begins, each, items, items0, within, ◌before◌}
use Rattle.heylo_formula.specs.Formula.{Form}
use Rattle.heyvl_num.specs.Rational.{Rational, ratio}
use Rattle.heyvl_syntax.specs.Expressions.{Expression}
use Rattle.heyvl_syntax.specs.Grammar.{IsAssign, IsBraced, IsCall, IsElse, IsElseIfs, IsFull, IsGiven, IsIf, IsRight, IsRule, IsStmt, IsStmts, IsWeighted}
use Rattle.heyvl_syntax.specs.Procedures.{Procedure}
use Rattle.heyvl_syntax.specs.Productions.{IsKey, IsNothing, IsOptional, ◌then◌}
use Rattle.heyvl_syntax.specs.Statements as text
use Rattle.heyvl_syntax.specs.Statements.{Block, LoopRule, RightSide, Statement}
use Rattle.heyvl_syntax.specs.declared.keys.Key.TheVariants as keys
use Rattle.heyvl_places.specs.declared.spans.Span.{Span}
use Rattle.heyvl_syntax.specs.declared.tokens.Token.{Token}
use Rattle.heyvl_syntax.specs.declared.types.TypeName.{TypeName}
use Rattle.heyvl_acts.specs.Acts.{Act, Acts, Arms}
use Rattle.static_rules.specs.Files.{setting}
use Rattle.static_rules.specs.Literals.{integer, is_weight_literal, weight, weight_value}
use Rattle.heyvl_acts.specs.Places.{in_order, inside_arms}
use Rattle.heyvl_acts.specs.Rules.{Each}
use Rattle.typed_expressions.specs.Scopes.{Scope}
use Rattle.typed_expressions.specs.Signatures.{Called}
use Rattle.static_rules.specs.StatementActs.{arms_acts, assigned, block_acts, choose_parts, declared_act, draw_or_toss, first_or_zero, havocs, integer_parts, invariant_of, loops, loops_of_arms, loops_of_block, ranking_of, statement_acts, targets, unif_parts}
use Rattle.typed_expressions.specs.Values.{form, terms}
use Rattle.typed_expressions.specs.TypedExpressions.{elaborate}
use Rattle.static_rules.specs.Variables.{behind, locals, locals_of_arms, locals_of_block}
use Rattle.std.proofs.Common.{Bool, List, None, Option, Some, [], false, inl, inr, length, suc, true, zero, ℤ, pos, unsigned_abs, ◌+ℤ◌, ◌-ℤ◌, ◌+◌, ◌++◌, ◌∷◌, ◌≡◌, ◌≤◌, ◌⊎◌, ℕ}
use Rattle.heyvl_acts.specs.StandingParts.{ActStands, FormStands, GuardsStand, RankStands, TermStands}

-- ---- Acts

abbrev HasSomeArm : Arms → Type 0
HasSomeArm Arms.no_arm = ⊥
HasSomeArm (Arms.arm g b more) = Unit {0}

-- If the act is an `if`, it has an arm.
abbrev pub IsArmed : Act → Type 0
IsArmed (Act.ifs arms e span) = HasSomeArm arms
IsArmed (Act.set x t span) = Unit {0}
IsArmed (Act.draw x ps span) = Unit {0}
IsArmed (Act.toss x f span) = Unit {0}
IsArmed (Act.any x up ty span) = Unit {0}
IsArmed (Act.reward f span) = Unit {0}
IsArmed (Act.pick up a b span) = Unit {0}
IsArmed (Act.check kind f span) = Unit {0}
IsArmed (Act.validate co span) = Unit {0}
IsArmed (Act.loop h b) = Unit {0}
IsArmed (Act.call xs p es span) = Unit {0}

-- The properties of an act whose tokens begin within `n` bytes.
abbrev pub IsSpelled : ℕ → Act → Type 0
IsSpelled n a = IsArmed a × ActStands n a

-- ---- Right sides

module _ (n : ℕ) where
  integers_stand : (w : Rational) (a : ℤ) (k : ℕ) → Each (λ q. TermStands n q.1) (integer_parts w a k)
  integers_stand w a zero = tt
  integers_stand w a (suc k) = (tt, integers_stand w (a +ℤ pos 1) k)

  unif_stands : (a b : Option ℤ) → Each (λ q. TermStands n q.1) (unif_parts a b)
  unif_stands (Some a) (Some b) = integers_stand (ratio (pos 1) (suc (unsigned_abs (b -ℤ a)))) a (suc (unsigned_abs (b -ℤ a)))
  unif_stands (Some a) None = tt
  unif_stands None b = tt

  choices_stand : (k : ℕ) (sc : Scope) (ps : List (Expression × Expression)) → Each (λ p. ExpressionStands n p.1) ps → Each (λ q. TermStands n q.1) (choose_parts k sc ps)
  choices_stand k sc [] h = tt
  choices_stand k sc (p ∷ ps) h = (term_stands n (elaborate k sc p.1) (h.0 k sc), choices_stand k sc ps h.1)

  terms_stand : (k : ℕ) (sc : Scope) (es : List Expression) → Each (ExpressionStands n) es → Each (TermStands n) (terms k sc es)
  terms_stand k sc [] h = tt
  terms_stand k sc (e ∷ es) h = (term_stands n (elaborate k sc e) (h.0 k sc), terms_stand k sc es h.1)

  flip_stands : (literal : Bool) (x : ℕ) (w : Rational) (f : Form) (s : Span) → s.from ≤ n → FormStands n f → Each (IsSpelled n) (in_order (Acts.next (draw_or_toss literal x w f s) Acts.done))
  flip_stands true x w f s l h = ((tt, (l, (tt, (tt, tt)))), tt)
  flip_stands false x w f s l h = ((tt, (l, h)), tt)

  -- The acts that assign the right side to variables are within the text if the statement is.
  abbrev RightStands : RightSide → Type 0
  RightStands r = (c : Called) (k : ℕ) (sc : Scope) (xs : List ℕ) (s : Span) → s.from ≤ n → Each (IsSpelled n) (in_order (Acts.next (assigned c k sc xs r s) Acts.done))

  full : (e : Expression) → Gives n (IsFull e) (ExpressionStands n e)
  full e = expr n e 9

  weighted : (part : Expression × Expression) → Gives n (IsWeighted part) (ExpressionStands n part.1)
  weighted part = record { reads = λ ts h i. (within (any _ before any _ before full part.1) ts h i).1.1 }

  called : (f : List ℕ) (es : List Expression) → Gives n (IsCall f es) (RightStands (RightSide.call f es))
  called f es = record {
    reads = λ ts h i c k sc xs s l.
        let x = within (any _ before any _ before items0 IsFull (ExpressionStands n) full es before any _) ts h i in
        ((tt, (l, terms_stand k sc es x.1.1.0)), tt);
  }

  right : (r : RightSide) → Gives n (IsRight r) (RightStands r)
  right (RightSide.plain e) = record { reads = λ ts h i c k sc xs s l. ((tt, (l, term_stands n (elaborate k sc e) (within (full e) ts h i k sc))), tt) }
  right (RightSide.flip p) = record {
    reads = λ ts h i c k sc xs s l.
        let x = within (any _ before any _ before full p before any _) ts h i in
        flip_stands (is_weight_literal (weight p)) (first_or_zero xs) (weight_value (weight p)) (form (elaborate k sc p)) s l (form_stands n (elaborate k sc p) (x.1.1.0 k sc));
  }
  right (RightSide.unif a b) = record { reads = λ ts h i c k sc xs s l. ((tt, (l, unif_stands (integer a) (integer b))), tt) }
  right (RightSide.choose parts) = record {
    reads = λ ts h i c k sc xs s l.
        let x = within (any _ before any _ before items IsWeighted (λ p. ExpressionStands n p.1) weighted parts before any _) ts h i in
        ((tt, (l, choices_stand k sc parts x.1.1.0)), tt);
  }
  right (RightSide.call f es) = called f es

  given_right : (r : RightSide) → Gives n (IsGiven r) (RightStands r)
  given_right r = record { reads = λ ts h i. (within (any _ before right r) ts h i).1 }

  abbrev ValueStands : Option RightSide → Type 0
  ValueStands None = Unit {0}
  ValueStands (Some r) = RightStands r

  value : (r : Option RightSide) → Gives n (IsOptional IsGiven r) (ValueStands r)
  value None = any _
  value (Some r) = given_right r

  assigned_right : (xs : List (List ℕ)) (r : RightSide) → Gives n (IsAssign xs r) (RightStands r)
  assigned_right [] (RightSide.call f es) = called f es
  assigned_right [] (RightSide.plain a) = record { reads = λ ts h i. absurd i }
  assigned_right [] (RightSide.flip p) = record { reads = λ ts h i. absurd i }
  assigned_right [] (RightSide.unif a b) = record { reads = λ ts h i. absurd i }
  assigned_right [] (RightSide.choose parts) = record { reads = λ ts h i. absurd i }
  assigned_right (x ∷ xs) r = record { reads = λ ts h i. (within (any _ before given_right r) ts h i).1 }

  -- ---- Rules of loops

  abbrev RuleStands : LoopRule → Type 0
  RuleStands (LoopRule.invariant i s) = ExpressionStands n i
  RuleStands (LoopRule.k_induction k i s) = ExpressionStands n i
  RuleStands (LoopRule.ranking e r s) = ExpressionStands n r

  rule : (r : LoopRule) → Gives n (IsRule r) (RuleStands r)
  rule (LoopRule.invariant i s) = record { reads = λ ts h x. (within (any _ before any _ before any _ before full i before any _) ts h x.0).1.1.1.0 }
  rule (LoopRule.k_induction k i s) = record {
    reads = λ ts h x. (within (any _ before any _ before any _ before any _ before any _ before full i before any _) ts h x.0).1.1.1.1.1.0;
  }
  rule (LoopRule.ranking e r s) = record {
    reads = λ ts h x. (within (any _ before any _ before any _ before any _ before any _ before full r before any _) ts h x.0).1.1.1.1.1.0;
  }

  invariant_stands : (k : ℕ) (sc : Scope) (rs : List LoopRule) → Each RuleStands rs → FormStands n (invariant_of k sc rs)
  invariant_stands k sc [] h = tt
  invariant_stands k sc (LoopRule.invariant i s ∷ rs) h = form_stands n (elaborate k sc i) (h.0 k sc)
  invariant_stands k sc (LoopRule.k_induction m i s ∷ rs) h = form_stands n (elaborate k sc i) (h.0 k sc)
  invariant_stands k sc (LoopRule.ranking e r s ∷ rs) h = invariant_stands k sc rs h.1

  ranking_stands : (k : ℕ) (sc : Scope) (rs : List LoopRule) → Each RuleStands rs → RankStands n (ranking_of k sc rs)
  ranking_stands k sc [] h = tt
  ranking_stands k sc (LoopRule.ranking e r s ∷ rs) h = form_stands n (elaborate k sc r) (h.0 k sc)
  ranking_stands k sc (LoopRule.invariant i s ∷ rs) h = ranking_stands k sc rs h.1
  ranking_stands k sc (LoopRule.k_induction m i s ∷ rs) h = ranking_stands k sc rs h.1

  -- ---- Statements

  pub braced : {P : List Token → Type 0} {Q : Type 0} → Gives n P Q → Gives n (IsBraced P) Q
  braced g = record { reads = λ ts h i. (within (any _ before g before any _) ts h i).1.0 }

  pub otherwise : {P : List Token → Type 0} (Q : Block → Type 0) → Q Block.done → (b : Block) → Gives n P (Q b) → Gives n (IsElse b P) (Q b)
  otherwise {P} Q d b g = record { reads = cases }
    where
      cases : (ts : List Token) → ArePlaced n ts → (IsKey keys.Else then P) ts ⊎ ((b ≡ Block.done) × IsNothing ts) → Q b
      cases ts h (inl i) = (within (any _ before g) ts h i).1
      cases ts h (inr (e, i)) = rw e d

  module _ (q : Procedure) (c : Called) where
    declared_stands : (k : ℕ) (sc : Scope) (t : TypeName) (r : Option RightSide) (s : Span) → s.from ≤ n → ValueStands r → Each (IsSpelled n) (in_order (Acts.next (declared_act (setting q) c k sc t r s) Acts.done))
    declared_stands k sc t None s l h = ((tt, l), tt)
    declared_stands k sc t (Some r) s l h = h c k sc (k ∷ []) s l

    havocs_stand : (sc : Scope) (co : Bool) (xs : List (List ℕ)) (s : Span) → s.from ≤ n → Each (IsSpelled n) (in_order (havocs sc co xs s))
    havocs_stand sc co [] s l = tt
    havocs_stand sc co (x ∷ xs) s l = ((tt, l), havocs_stand sc co xs s l)

    abbrev StatementStands : Statement → Type 0
    StatementStands x = (k m : ℕ) (sc : Scope) → Each (IsSpelled n) (in_order (statement_acts (setting q) c k m sc x))

    abbrev BlockStands : Block → Type 0
    BlockStands b = (k m : ℕ) (sc : Scope) → Each (IsSpelled n) (in_order (block_acts (setting q) c k m sc b))

    -- The guards are within the text, and so are the acts of the blocks.
    abbrev ArmsStand : text.Arms → Type 0
    ArmsStand arms = (k m : ℕ) (sc : Scope) → GuardsStand n (arms_acts (setting q) c k m sc arms) × Each (IsSpelled n) (inside_arms (arms_acts (setting q) c k m sc arms))

    abbrev SomeArmsStand : text.Arms → Type 0
    SomeArmsStand arms = (k m : ℕ) (sc : Scope) → HasSomeArm (arms_acts (setting q) c k m sc arms) × (GuardsStand n (arms_acts (setting q) c k m sc arms) × Each (IsSpelled n) (inside_arms (arms_acts (setting q) c k m sc arms)))

    two : (xs ys : List Act) → Each (IsSpelled n) xs → Each (IsSpelled n) ys → Each (IsSpelled n) ((xs ++ ys) ++ [])
    two xs ys h k = each_both (IsSpelled n) (xs ++ ys) [] (each_both (IsSpelled n) xs ys h k) tt

    arm_stands : (g : Expression) (b : Block) (more : text.Arms) → ExpressionStands n g → BlockStands b → ArmsStand more → ArmsStand (text.Arms.arm g b more)
    arm_stands g b more guard body rest k m sc =
        let further = rest (k + length (locals_of_block b)) (m + loops_of_block b) sc in (
          (condition_stands n (elaborate k sc g) (guard k sc), further.0),
          each_both (IsSpelled n) (in_order (block_acts (setting q) c k m sc b)) (inside_arms (arms_acts (setting q) c (k + length (locals_of_block b)) (m + loops_of_block b) sc more)) (body k m sc) further.1,
        )

    branch_stands : (arms : text.Arms) (other : Block) (s : Span) → s.from ≤ n → SomeArmsStand arms → BlockStands other → StatementStands (Statement.branch arms other s)
    branch_stands arms other s l h o k m sc =
        let first = h k m sc in
        let second = o (k + length (locals_of_arms arms)) (m + loops_of_arms arms) sc in
        ((first.0, (l, first.1.0)), two (inside_arms (arms_acts (setting q) c k m sc arms)) (in_order (block_acts (setting q) c (k + length (locals_of_arms arms)) (m + loops_of_arms arms) sc other)) first.1.1 second)

    pick_stands : (up : Bool) (a b : Block) (s : Span) → s.from ≤ n → BlockStands a → BlockStands b → StatementStands (Statement.pick up a b s)
    pick_stands up a b s l h o k m sc =
        ((tt, l), two (in_order (block_acts (setting q) c k m sc a)) (in_order (block_acts (setting q) c (k + length (locals_of_block a)) (m + loops_of_block a) sc b)) (h k m sc) (o (k + length (locals_of_block a)) (m + loops_of_block a) sc))

    loop_stands : (rules : List LoopRule) (g : Expression) (b : Block) (s : Span) → s.from ≤ n → Each RuleStands rules → ExpressionStands n g → BlockStands b → StatementStands (Statement.loop rules g b s)
    loop_stands rules g b s l rs guard body k m sc = (
      (tt, (l, (invariant_stands k sc rules rs, (condition_stands n (elaborate k sc g) (guard k sc), ranking_stands k sc rules rs)))),
      each_both (IsSpelled n) (in_order (block_acts (setting q) c k (suc m) sc b)) [] (body k (suc m) sc) tt,
    )

    mutual
      statement : (x : Statement) → Gives n (IsStmt x) (StatementStands x)
      statement (Statement.var x t r s) = record {
        reads = λ ts h i k m sc. declared_stands k sc t r s (begins n ts h s i.1) (within (any _ before any _ before any _ before any _ before value r) ts h i.0).1.1.1.1;
      }
      statement (Statement.assign xs r s) = record { reads = λ ts h i k m sc. within (assigned_right xs r) ts h i.0 c k sc (targets sc xs) s (begins n ts h s i.1) }
      statement (Statement.check kind a s) = record {
        reads = λ ts h i k m sc. ((tt, (begins n ts h s i.1, form_stands n (elaborate k sc a) ((within (any _ before full a) ts h i.0).1 k sc))), tt);
      }
      statement (Statement.validate co s) = record { reads = λ ts h i k m sc. ((tt, begins n ts h s i.1), tt) }
      statement (Statement.havoc co xs s) = record { reads = λ ts h i k m sc. havocs_stand sc co xs s (begins n ts h s i.1) }
      statement (Statement.reward a s) = record {
        reads = λ ts h i k m sc. ((tt, (begins n ts h s i.1, form_stands n (elaborate k sc a) ((within (any _ before full a) ts h i.0).1 k sc))), tt);
      }
      statement (Statement.branch arms other s) = record {
        reads = λ ts h i.
            let x = within (first_arm arms before otherwise BlockStands (λ k m sc. tt) other (braced (block other))) ts h i.0 in
            branch_stands arms other s (begins n ts h s i.1) x.0 x.1;
      }
      statement (Statement.pick up a b s) = record {
        reads = λ ts h i.
            let x = within (any _ before any _ before braced (block a) before otherwise BlockStands (λ k m sc. tt) b (braced (block b))) ts h i.0 in
            pick_stands up a b s (begins n ts h s i.1) x.1.1.0 x.1.1.1;
      }
      statement (Statement.loop rules g b s) = record {
        reads = λ ts h i.
            let x = within (each IsRule RuleStands rule rules before any _ before full g before braced (block b)) ts h i.0 in
            loop_stands rules g b s (begins n ts h s i.1) x.0 x.1.1.0 x.1.1.1;
      }

      first_arm : (arms : text.Arms) → Gives n (IsIf arms) (SomeArmsStand arms)
      first_arm text.Arms.no_arm = record { reads = λ ts h i. absurd i }
      first_arm (text.Arms.arm g b rest) = record {
        reads = λ ts h i k m sc.
            let x = within (any _ before full g before braced (block b) before further_arms rest) ts h i in
            (tt, arm_stands g b rest x.1.0 x.1.1.0 x.1.1.1 k m sc);
      }

      further_arms : (arms : text.Arms) → Gives n (IsElseIfs arms) (ArmsStand arms)
      further_arms text.Arms.no_arm = record { reads = λ ts h i k m sc. (tt, tt) }
      further_arms (text.Arms.arm g b rest) = record {
        reads = λ ts h i.
            let x = within (any _ before any _ before full g before braced (block b) before further_arms rest) ts h i in
            arm_stands g b rest x.1.1.0 x.1.1.1.0 x.1.1.1.1;
      }

      pub block : (b : Block) → Gives n (IsStmts b) (BlockStands b)
      block Block.done = record { reads = λ ts h i k m sc. tt }
      block (Block.next x xs) = record {
        reads = λ ts h i k m sc.
            let y = within (statement x before any _ before block xs) ts h i in
            each_join (IsSpelled n) (statement_acts (setting q) c k m sc x) (block_acts (setting q) c (k + length (locals x)) (m + loops x) (behind k sc x) xs) (y.0 k m sc) (y.1.1 (k + length (locals x)) (m + loops x) (behind k sc x));
      }
