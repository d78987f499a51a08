-- Typed acts read only visible variables.
use Rattle.heyvl_acts.specs.Acts.{Acts, acts_in, join}
use Rattle.heyvl_acts.specs.Rules.{Each}
use Rattle.heyvl_acts.specs.Tosses.{flip_parts}
use Rattle.heyvl_acts.specs.Visible.{Scoped, ScopedAct, ScopedArms, Sees, SeesParts, SeesRank, SeesTerms, Visible, among, shown, shown_all, shown_by}
use Rattle.heyvl_num.specs.Rational.{Rational, ratio}
use Rattle.heyvl_places.specs.declared.spans.Span.{Span}
use Rattle.heyvl_syntax.specs.Expressions.{Expression}
use Rattle.heyvl_syntax.specs.Statements as text
use Rattle.heyvl_syntax.specs.Statements.{Block, LoopRule, RightSide, Statement}
use Rattle.heyvl_syntax.specs.declared.types.TypeName.{TypeName}
use Rattle.static_rules.proofs.exported.Findings.{IsKeptFinding, all_kept, back_none, front_none}
use Rattle.resolved_laws.proofs.Flips.{of_flip}
use Rattle.resolved_laws.proofs.Growth.{new_name, numbers_with}
use Rattle.resolved_laws.proofs.Sight.{found_among, sees_condition, sees_form, sees_term}
use Rattle.static_rules.specs.Files.{body_acts, body_findings}
use Rattle.static_rules.specs.Literals.{integer, weight, weight_value}
use Rattle.static_rules.specs.RightSides.{right_findings}
use Rattle.static_rules.specs.StatementActs.{arms_acts, assigned, block_acts, choose_parts, declared_act, first_or_zero, havocs, integer_parts, invariant_of, loops, loops_of_arms, loops_of_block, number_or_zero, ranking_of, statement_acts, targets, unif_parts}
use Rattle.static_rules.specs.StatementRules.{arms_bind, arms_findings, assign_rules, block_binds, block_findings, havoc_rules, statement_findings, value_findings}
use Rattle.static_rules.specs.Variables.{behind, locals, locals_of_arms, locals_of_block}
use Rattle.static_rules.specs.declared.settings.Setting.{Setting}
use Rattle.std.proofs.Common.{Bool, List, None, Option, Some, [], ap, false, pos, refl, suc, sym, true, zero, ◌++◌, ◌+◌, ◌==◌, ◌∙◌, ◌≡◌, ◌∷◌, ℕ, ℤ}
use Rattle.std.proofs.lemmas.Bool.{eqb-true, or_parts}
use Rattle.std.specs.Option.{is_none}
use Rattle.std.specs.Prelude.{length, not, unsigned_abs, ◌+ℤ◌, ◌-ℤ◌, ◌||◌}
use Rattle.typed_expressions.specs.Findings.{at}
use Rattle.typed_expressions.specs.Scopes.{Scope, any_unknown, find, is_visible, numbers, types_of_names, with_local}
use Rattle.typed_expressions.specs.Signatures.{Called}
use Rattle.typed_expressions.specs.Values.{terms}
use Rattle.typed_expressions.specs.declared.scopes.Local.{Local}

-- The visible variables are those of the scope.
abbrev pub Mirrors : Visible → Scope → Type 0
Mirrors v sc = (y : ℕ) → v y ≡ among (numbers sc) y

-- ---- The variables that acts make visible

abbrev shown_after : Acts → Visible → Visible
shown_after Acts.done v = v
shown_after (Acts.next a rest) v = shown_after rest (shown_by a v)

scoped_join : (a b : Acts) (v : Visible) → Scoped v a → Scoped (shown_after a v) b → Scoped v (join a b)
scoped_join Acts.done b v p q = q
scoped_join (Acts.next a more) b v p q = (p.0, scoped_join more b (shown_by a v) p.1 q)

-- A visible variable remains visible.
same_shown : (v : Visible) (sc : Scope) (x : ℕ) → Mirrors v sc → among (numbers sc) x ≡ true → Mirrors (shown x v) sc
same_shown v sc x p e y = go (x == y) refl
  where
    go : (b : Bool) → (x == y) ≡ b → (b || v y) ≡ among (numbers sc) y
    go true i = sym (ap (λ k. among (numbers sc) k) (sym (eqb-true x y i)) ∙ e)
    go false i = p y

-- All variables of the list are in the scope.
abbrev AllAmong : Scope → List ℕ → Type 0
AllAmong sc [] = Unit {0}
AllAmong sc (x ∷ xs) = (among (numbers sc) x ≡ true) × AllAmong sc xs

all_shown : (v : Visible) (sc : Scope) (xs : List ℕ) → Mirrors v sc → AllAmong sc xs → Mirrors (shown_all xs v) sc
all_shown v sc [] p e = p
all_shown v sc (x ∷ xs) p e = all_shown (shown x v) sc xs (same_shown v sc x p e.0) e.1

among_push : (xs : List ℕ) (n y : ℕ) → among (xs ++ n ∷ []) y ≡ ((n == y) || among xs y)
among_push [] n y = refl
among_push (x ∷ xs) n y = ap (λ r. (x == y) || r) (among_push xs n y) ∙ swapped (x == y) (n == y) (among xs y)
  where
    swapped : (a b c : Bool) → (a || (b || c)) ≡ (b || (a || c))
    swapped true true c = refl
    swapped true false c = refl
    swapped false true c = refl
    swapped false false c = refl

new_shown : (v : Visible) (sc : Scope) (x : List ℕ) (l : Local) → Mirrors v sc → is_visible sc x ≡ false → Mirrors (shown l.number v) (with_local x l sc)
new_shown v sc x l p e y = sym (ap (λ r. among r y) (numbers_with x l sc e) ∙ (among_push (numbers sc) l.number y ∙ ap (λ r. (l.number == y) || r) (sym (p y))))

-- ---- Targets

known_target : (sc : Scope) (x : List ℕ) → is_none (find sc x) ≡ false → among (numbers sc) (number_or_zero (find sc x)) ≡ true
known_target sc x e = go (find sc x) refl e
  where
    go : (o : Option Local) → find sc x ≡ o → is_none o ≡ false → among (numbers sc) (number_or_zero o) ≡ true
    go None i j = absurd (cc)
    go (Some l) i j = found_among sc x l i

known_targets : (sc : Scope) (xs : List (List ℕ)) → any_unknown sc xs ≡ false → AllAmong sc (targets sc xs)
known_targets sc [] e = tt
known_targets sc (x ∷ xs) e = (known_target sc x (or_parts _ _ e).0, known_targets sc xs (or_parts _ _ e).1)

-- The one target of a right side other than a call.
one_target : (sc : Scope) (xs : List (List ℕ)) → any_unknown sc xs ≡ false → not (length (types_of_names sc xs) == 1) ≡ false → among (numbers sc) (first_or_zero (targets sc xs)) ≡ true
one_target sc [] e i = absurd (cc)
one_target sc (x ∷ xs) e i = known_target sc x (or_parts _ _ e).0

-- ---- Parts of acts

integers_see : (v : Visible) (w : Rational) (a : ℤ) (n : ℕ) → SeesParts v (integer_parts w a n)
integers_see v w a zero = tt
integers_see v w a (suc n) = (λ y e. absurd (cc), integers_see v w (a +ℤ pos 1) n)

unif_sees : (v : Visible) (a b : Option ℤ) → SeesParts v (unif_parts a b)
unif_sees v (Some a) (Some b) = integers_see v (ratio (pos 1) (suc (unsigned_abs (b -ℤ a)))) a (suc (unsigned_abs (b -ℤ a)))
unif_sees v (Some a) None = tt
unif_sees v None b = tt

flip_sees : (v : Visible) (p : Rational) → SeesParts v (flip_parts p)
flip_sees v p = (λ y e. absurd (cc), (λ y e. absurd (cc), tt))

module _ (v : Visible) (sc : Scope) (p : Mirrors v sc) where
  visible : (y : ℕ) → among (numbers sc) y ≡ true → v y ≡ true
  visible y e = p y ∙ e

  terms_see : (n : ℕ) (es : List Expression) → SeesTerms v (terms n sc es)
  terms_see n [] = tt
  terms_see n (e ∷ es) = (sees_term sc v visible n e, terms_see n es)

  choices_see : (n : ℕ) (ps : List (Expression × Expression)) → SeesParts v (choose_parts n sc ps)
  choices_see n [] = tt
  choices_see n (q ∷ qs) = (sees_term sc v visible n q.1, choices_see n qs)

  assigned_sees : (called : Called) (n : ℕ) (xs : List ℕ) (r : RightSide) (s : Span) → ScopedAct v (assigned called n sc xs r s)
  assigned_sees called n xs (RightSide.plain e) s = sees_term sc v visible n e
  assigned_sees called n xs (RightSide.flip q) s = of_flip (ScopedAct v) n sc (first_or_zero xs) q s (flip_sees v (weight_value (weight q))) (sees_form sc v visible n q)
  assigned_sees called n xs (RightSide.unif a b) s = unif_sees v (integer a) (integer b)
  assigned_sees called n xs (RightSide.choose parts) s = choices_see n parts
  assigned_sees called n xs (RightSide.call q arguments) s = terms_see n arguments

  invariant_sees : (n : ℕ) (rules : List LoopRule) → Sees v (invariant_of n sc rules)
  invariant_sees n [] = λ y e. absurd (cc)
  invariant_sees n (LoopRule.invariant i s ∷ rs) = sees_form sc v visible n i
  invariant_sees n (LoopRule.k_induction k i s ∷ rs) = sees_form sc v visible n i
  invariant_sees n (LoopRule.ranking e r s ∷ rs) = invariant_sees n rs

  ranking_sees : (n : ℕ) (rules : List LoopRule) → SeesRank v (ranking_of n sc rules)
  ranking_sees n [] = tt
  ranking_sees n (LoopRule.ranking e r s ∷ rs) = sees_form sc v visible n r
  ranking_sees n (LoopRule.invariant i s ∷ rs) = ranking_sees n rs
  ranking_sees n (LoopRule.k_induction k i s ∷ rs) = ranking_sees n rs

-- ---- The visible variables after an assignment

module _ (h : Setting) (called : Called) where
  shown_by_assigned : (n : ℕ) (sc : Scope) (v : Visible) (xs : List (List ℕ)) (r : RightSide) (s : Span) → at s (assign_rules h called n sc xs r) ≡ [] → Mirrors v sc → Mirrors (shown_by (assigned called n sc (targets sc xs) r s) v) sc
  shown_by_assigned n sc v xs r s f p = go r (all_kept s (assign_rules h called n sc xs r) f)
    where
      go : (r : RightSide) → Each IsKeptFinding (assign_rules h called n sc xs r) → Mirrors (shown_by (assigned called n sc (targets sc xs) r s) v) sc
      go (RightSide.plain e) k = same_shown v sc _ p (one_target sc xs (or_parts (any_unknown sc xs) false k.0).0 k.1.1.1.1.0)
      go (RightSide.flip q) k =
          let m = same_shown v sc _ p (one_target sc xs (or_parts (any_unknown sc xs) false k.0).0 k.1.1.1.1.0) in
          of_flip (λ a. Mirrors (shown_by a v) sc) n sc (first_or_zero (targets sc xs)) q s m m
      go (RightSide.unif a b) k = same_shown v sc _ p (one_target sc xs (or_parts (any_unknown sc xs) false k.0).0 k.1.1.1.1.0)
      go (RightSide.choose parts) k = same_shown v sc _ p (one_target sc xs (or_parts (any_unknown sc xs) false k.0).0 k.1.1.1.1.0)
      go (RightSide.call q arguments) k = all_shown v sc (targets sc xs) p (known_targets sc xs (or_parts (any_unknown sc xs) _ k.0).0)

  shown_by_new : (n : ℕ) (sc : Scope) (v : Visible) (x : List ℕ) (t : TypeName) (r : RightSide) (s : Span) → is_visible sc x ≡ false → Mirrors v sc → Mirrors (shown_by (assigned called n sc (n ∷ []) r s) v) (with_local x (record { number = n; ty = t }) sc)
  shown_by_new n sc v x t (RightSide.plain e) s i p = new_shown v sc x (record { number = n; ty = t }) p i
  shown_by_new n sc v x t (RightSide.flip q) s i p =
      let m = new_shown v sc x (record { number = n; ty = t }) p i in
      of_flip (λ a. Mirrors (shown_by a v) (with_local x (record { number = n; ty = t }) sc)) n sc n q s m m
  shown_by_new n sc v x t (RightSide.unif a b) s i p = new_shown v sc x (record { number = n; ty = t }) p i
  shown_by_new n sc v x t (RightSide.choose parts) s i p = new_shown v sc x (record { number = n; ty = t }) p i
  shown_by_new n sc v x t (RightSide.call q arguments) s i p = new_shown v sc x (record { number = n; ty = t }) p i

  -- The acts read only visible variables, and the scope `sc` holds those that are visible after
  -- them.
  record Reads (v : Visible) (acts : Acts) (sc : Scope) : Type 0 where
    scoped : Scoped v acts
    after : Mirrors (shown_after acts v) sc

  reads_declared : (n : ℕ) (sc : Scope) (v : Visible) (x : List ℕ) (t : TypeName) (r : Option RightSide) (s : Span) → is_visible sc x ≡ false → Mirrors v sc → Reads v (Acts.next (declared_act h called n sc t r s) Acts.done) (with_local x (record { number = n; ty = t }) sc)
  reads_declared n sc v x t None s i p = record { scoped = (tt, tt); after = new_shown v sc x (record { number = n; ty = t }) p i }
  reads_declared n sc v x t (Some r) s i p = record { scoped = (assigned_sees v sc p called n (n ∷ []) r s, tt); after = shown_by_new n sc v x t r s i p }

  reads_havocs : (sc : Scope) (v : Visible) (co : Bool) (xs : List (List ℕ)) (s : Span) → any_unknown sc xs ≡ false → Mirrors v sc → Reads v (havocs sc co xs s) sc
  reads_havocs sc v co [] s e p = record { scoped = tt; after = p }
  reads_havocs sc v co (x ∷ xs) s e p =
      let r = reads_havocs sc (shown (number_or_zero (find sc x)) v) co xs s (or_parts _ _ e).1 (same_shown v sc _ p (known_target sc x (or_parts _ _ e).0)) in
      record { scoped = (tt, r.scoped); after = r.after }

  mutual
    reads_statement : (bound : Bool) (n m : ℕ) (sc : Scope) (v : Visible) (s : Statement) → statement_findings h called bound n sc s ≡ [] → Mirrors v sc → Reads v (statement_acts h called n m sc s) (behind n sc s)
    reads_statement bound n m sc v (Statement.var x t r s) f p = reads_declared n sc v x t r s (new_name h called n sc x t r s (back_none (value_findings n sc r) _ f)) p
    reads_statement bound n m sc v (Statement.assign xs r s) f p =
        record { scoped = (assigned_sees v sc p called n (targets sc xs) r s, tt); after = shown_by_assigned n sc v xs r s (back_none (right_findings n sc r) _ f) p }
    reads_statement bound n m sc v (Statement.check kind a s) f p = record { scoped = (sees_form sc v (visible v sc p) n a, tt); after = p }
    reads_statement bound n m sc v (Statement.validate co s) f p = record { scoped = (tt, tt); after = p }
    reads_statement bound n m sc v (Statement.havoc co xs s) f p = reads_havocs sc v co xs s (all_kept s (havoc_rules h sc co xs) f).0 p
    reads_statement bound n m sc v (Statement.reward a s) f p = record { scoped = (sees_form sc v (visible v sc p) n a, tt); after = p }
    reads_statement bound n m sc v (Statement.branch arms other s) f p =
        record {
          scoped = ((reads_arms (bound || block_binds other) n m sc v arms (front_none _ _ f) p, reads_block bound (n + length (locals_of_arms arms)) (m + loops_of_arms arms) sc v other (back_none _ _ f) p), tt);
          after = p;
        }
    reads_statement bound n m sc v (Statement.pick up a b s) f p =
        record {
          scoped = ((reads_block (bound || block_binds b) n m sc v a (front_none _ _ f) p, reads_block bound (n + length (locals_of_block a)) (m + loops_of_block a) sc v b (back_none _ _ f) p), tt);
          after = p;
        }
    reads_statement bound n m sc v (Statement.loop rules g b s) f p =
        record {
          scoped = ((p, ((invariant_sees v sc p n rules, (sees_condition sc v (visible v sc p) n g, ranking_sees v sc p n rules)), reads_block true n (suc m) sc v b (back_none _ _ (front_none _ _ f)) p)), tt);
          after = p;
        }

    reads_block : (bound : Bool) (n m : ℕ) (sc : Scope) (v : Visible) (b : Block) → block_findings h called bound n sc b ≡ [] → Mirrors v sc → Scoped v (block_acts h called n m sc b)
    reads_block bound n m sc v Block.done f p = tt
    reads_block bound n m sc v (Block.next s b) f p =
        let r = reads_statement (bound || block_binds b) n m sc v s (front_none _ _ f) p in
        scoped_join (statement_acts h called n m sc s) _ v r.scoped
        (reads_block bound (n + length (locals s)) (m + loops s) (behind n sc s) (shown_after (statement_acts h called n m sc s) v) b (back_none _ _ f) r.after)

    reads_arms : (bound : Bool) (n m : ℕ) (sc : Scope) (v : Visible) (arms : text.Arms) → arms_findings h called bound n sc arms ≡ [] → Mirrors v sc → ScopedArms v (arms_acts h called n m sc arms)
    reads_arms bound n m sc v text.Arms.no_arm f p = tt
    reads_arms bound n m sc v (text.Arms.arm g b more) f p =
        (sees_condition sc v (visible v sc p) n g, (reads_block (bound || arms_bind more) n m sc v b (back_none _ _ (front_none _ _ f)) p, reads_arms bound (n + length (locals_of_block b)) (m + loops_of_block b) sc v more (back_none _ _ f) p))

  pub reads_body : (bound : Bool) (n : ℕ) (sc : Scope) (v : Visible) (b : Option Block) → body_findings h called bound n sc b ≡ [] → Mirrors v sc → Scoped v (acts_in (body_acts h called n sc b))
  reads_body bound n sc v None f p = tt
  reads_body bound n sc v (Some b) f p = reads_block bound n 1 sc v b f p
