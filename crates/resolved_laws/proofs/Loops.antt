-- Each loop of a typed body satisfies the rules of loops.
use Rattle.heyvl_syntax.specs.Expressions.{Expression}
use Rattle.heyvl_syntax.specs.Statements as text
use Rattle.heyvl_syntax.specs.Statements.{Block, LoopRule, RightSide, Statement}
use Rattle.heyvl_syntax.specs.declared.literals.Lit.{Lit}
use Rattle.heyvl_places.specs.declared.spans.Span.{Span}
use Rattle.heyvl_syntax.specs.declared.types.TypeName.{TypeName}
use Rattle.resolved_laws.proofs.Bindings.{behind_block}
use Rattle.static_rules.proofs.exported.Findings.{all_kept, back_none, front_none}
use Rattle.resolved_laws.proofs.Growth.{grow_more}
use Rattle.resolved_laws.proofs.InOrder.{each_both, each_join}
use Rattle.resolved_laws.proofs.Locals.{Stands, stands_within}
use Rattle.resolved_laws.proofs.Walk.{Alone, Locally}
use Rattle.heyvl_acts.specs.Acts.{Act, Acts, TypedProcedure, Variable, variables}
use Rattle.static_rules.specs.Literals.{copies, whole_value}
use Rattle.static_rules.specs.LoopRules.{is_ranking, loop_rules, rules_findings}
use Rattle.heyvl_acts.specs.Places.{in_order, inside_arms}
use Rattle.heyvl_acts.specs.Rules.{Each, GrowBelow, LoopsMeet, NothingBindsBehind, RankedBodyIsPlain, is_against, is_rankable}
use Rattle.resolved_laws.proofs.Flips.{of_flip}
use Rattle.typed_expressions.specs.Scopes.{Scope, numbers}
use Rattle.typed_expressions.specs.Signatures.{Called}
use Rattle.static_rules.specs.StatementActs.{arms_acts, assigned, block_acts, copies_of, declared_act, first_or_zero, havocs, loops, loops_of_arms, loops_of_block, number_or_one, ranking_of, statement_acts, targets}
use Rattle.static_rules.specs.StatementRules.{arms_are_rankable, arms_bind, arms_findings, block_binds, block_findings, block_is_rankable, calls_value, check_rules, checks_against, is_call, statement_findings, validate_rules, validates_against}
use Rattle.static_rules.specs.StatementRules as text_rules
use Rattle.typed_expressions.specs.TypedExpressions.{closed_findings}
use Rattle.static_rules.specs.Variables.{behind, locals, locals_of_arms, locals_of_block}
use Rattle.typed_expressions.specs.declared.demands.Demand.{Demand}
use Rattle.static_rules.specs.declared.settings.Setting.{Setting}
use Rattle.std.proofs.Common.{Bool, List, None, Option, Some, [], arith, false, refl, subst, suc, sym, true, ◌++◌, ◌+◌, ◌≡◌, ◌≤◌, ◌∷◌, ℕ, ℤ}
use Rattle.std.proofs.lemmas.Bool.{and_parts, false_from_ne_true}
use Rattle.std.proofs.lemmas.List.{append-nil}
use Rattle.std.proofs.lemmas.Int.{ints}
use Rattle.std.specs.Int.Signed.{le_z}
use Rattle.std.specs.List.{list_any}
use Rattle.std.specs.Prelude.{if◌then◌else◌, length, not, pos, unsigned_abs, ◌&&◌}

-- ---- Bodies of loops with a ranking

abbrev Rankable : Act → Type 0
Rankable a = is_rankable a ≡ true

rankable_assigned : (called : Called) (n : ℕ) (sc : Scope) (xs : List ℕ) (r : RightSide) (s : Span) → not (is_call r) ≡ true → Each Rankable (in_order (Acts.next (assigned called n sc xs r s) Acts.done))
rankable_assigned called n sc xs (RightSide.plain e) s u = (refl, tt)
rankable_assigned called n sc xs (RightSide.flip p) s u = of_flip (λ a. Each Rankable (in_order (Acts.next a Acts.done))) n sc (first_or_zero xs) p s (refl, tt) (refl, tt)
rankable_assigned called n sc xs (RightSide.unif a b) s u = (refl, tt)
rankable_assigned called n sc xs (RightSide.choose parts) s u = (refl, tt)
rankable_assigned called n sc xs (RightSide.call p arguments) s u = absurd (cc)

rankable_declared : (h : Setting) (called : Called) (n : ℕ) (sc : Scope) (t : TypeName) (r : Option RightSide) (s : Span) → not (calls_value r) ≡ true → Each Rankable (in_order (Acts.next (declared_act h called n sc t r s) Acts.done))
rankable_declared h called n sc t None s u = (refl, tt)
rankable_declared h called n sc t (Some r) s u = rankable_assigned called n sc (n ∷ []) r s u

rankable_havocs : (sc : Scope) (co : Bool) (xs : List (List ℕ)) (s : Span) → Each Rankable (in_order (havocs sc co xs s))
rankable_havocs sc co [] s = tt
rankable_havocs sc co (x ∷ xs) s = (refl, rankable_havocs sc co xs s)

module _ (h : Setting) (called : Called) where
  mutual
    rankable_statement : (n m : ℕ) (sc : Scope) (s : Statement) → text_rules.is_rankable s ≡ true → Each Rankable (in_order (statement_acts h called n m sc s))
    rankable_statement n m sc (Statement.var x t r s) u = rankable_declared h called n sc t r s u
    rankable_statement n m sc (Statement.assign xs r s) u = rankable_assigned called n sc (targets sc xs) r s u
    rankable_statement n m sc (Statement.check kind a s) u = absurd (cc)
    rankable_statement n m sc (Statement.validate co s) u = absurd (cc)
    rankable_statement n m sc (Statement.havoc co xs s) u = rankable_havocs sc co xs s
    rankable_statement n m sc (Statement.reward a s) u = (refl, tt)
    rankable_statement n m sc (Statement.branch arms other s) u =
        (refl, each_both Rankable _ [] (each_both Rankable _ _ (rankable_arms n m sc arms (and_parts _ _ u).0) (rankable_block (n + length (locals_of_arms arms)) (m + loops_of_arms arms) sc other (and_parts _ _ u).1)) tt)
    rankable_statement n m sc (Statement.pick up a b s) u =
        (refl, each_both Rankable _ [] (each_both Rankable _ _ (rankable_block n m sc a (and_parts _ _ u).0) (rankable_block (n + length (locals_of_block a)) (m + loops_of_block a) sc b (and_parts _ _ u).1)) tt)
    rankable_statement n m sc (Statement.loop rules g b s) u = absurd (cc)

    rankable_block : (n m : ℕ) (sc : Scope) (b : Block) → block_is_rankable b ≡ true → Each Rankable (in_order (block_acts h called n m sc b))
    rankable_block n m sc Block.done u = tt
    rankable_block n m sc (Block.next s b) u =
        each_join Rankable (statement_acts h called n m sc s) _ (rankable_statement n m sc s (and_parts _ _ u).0) (rankable_block (n + length (locals s)) (m + loops s) (behind n sc s) b (and_parts _ _ u).1)

    rankable_arms : (n m : ℕ) (sc : Scope) (arms : text.Arms) → arms_are_rankable arms ≡ true → Each Rankable (inside_arms (arms_acts h called n m sc arms))
    rankable_arms n m sc text.Arms.no_arm u = tt
    rankable_arms n m sc (text.Arms.arm g b more) u =
        each_both Rankable _ _ (rankable_block n m sc b (and_parts _ _ u).0) (rankable_arms (n + length (locals_of_block b)) (m + loops_of_block b) sc more (and_parts _ _ u).1)

-- ---- Bodies of all loops

-- An act that is not a check against the direction.
abbrev Along : Bool → Act → Type 0
Along co a = is_against co a ≡ false

-- If the post has a quantifier, no act is a check against the direction.
all_along : (co : Bool) (acts : List Act) → NothingBindsBehind co true acts → Each (Along co) acts
all_along co [] p = tt
all_along co (a ∷ rest) p = (false_from_ne_true (is_against co a) (λ e. let w : true ≡ false = p.0 e in cc), all_along co rest p.1)

along_block : (h : Setting) (called : Called) (n m : ℕ) (sc : Scope) (b : Block) → block_findings h called true n sc b ≡ [] → Each (Along h.co) (in_order (block_acts h called n m sc b))
along_block h called n m sc b f =
    let acts = in_order (block_acts h called n m sc b) in
    all_along h.co acts (subst (NothingBindsBehind h.co true) (append-nil acts) (behind_block h called true true n m sc b [] f (λ e. absurd (cc)) tt))

-- ---- Numbers of copies, and rankings

pub record IsFew (k : ℕ) : Type 0 where
  pub some : 1 ≤ k
  pub few : k ≤ 16

few_one : IsFew 1
few_one = record { some = omega arith; few = omega arith }

few_whole : (k : ℤ) (a b : Bool) → le_z (pos 1) k ≡ a → le_z k (pos 16) ≡ b → IsFew (number_or_one (if a && b then Some (unsigned_abs k) else None))
few_whole k true true p q = record { some = omega (arith, ints, p); few = omega (arith, ints, p, q) }
few_whole k true false p q = few_one
few_whole k false b p q = few_one

few_literal : (n : Lit) (s : Span) → IsFew (number_or_one (copies (Expression.number n s)))
few_literal n s = go (whole_value n) refl
  where
    go : (o : Option ℤ) → whole_value n ≡ o → IsFew (number_or_one (copies (Expression.number n s)))
    go None e = rw e few_one
    go (Some k) e = rw e (few_whole k (le_z (pos 1) k) (le_z k (pos 16)) refl refl)

few_copies : (e : Expression) → IsFew (number_or_one (copies e))
few_copies (Expression.number n s) = few_literal n s
few_copies e = few_one

few : (rules : List LoopRule) → IsFew (copies_of rules)
few [] = few_one
few (LoopRule.invariant i s ∷ rs) = few_one
few (LoopRule.k_induction k i s ∷ rs) = few_copies k
few (LoopRule.ranking e r s ∷ rs) = few rs

ranked : (n : ℕ) (sc : Scope) (rules : List LoopRule) (b : Acts) → (list_any is_ranking rules ≡ true → Each Rankable (in_order b)) → RankedBodyIsPlain (ranking_of n sc rules) b
ranked n sc [] b p = tt
ranked n sc (LoopRule.ranking e r s ∷ rs) b p = p refl
ranked n sc (LoopRule.invariant i s ∷ rs) b p = ranked n sc rs b p
ranked n sc (LoopRule.k_induction k i s ∷ rs) b p = ranked n sc rs b p

implied : (a b : Bool) → (a && not b) ≡ false → a ≡ true → b ≡ true
implied true true k e = refl
implied true false k e = absurd (cc)
implied false b k e = absurd (cc)

-- ---- All loops

-- A procedure and its setting.
module _ (p : TypedProcedure) (h : Setting) (called : Called) (co : p.co ≡ h.co) where
  meets_assigned : (n : ℕ) (sc : Scope) (xs : List ℕ) (r : RightSide) (s : Span) → LoopsMeet p (assigned called n sc xs r s)
  meets_assigned n sc xs (RightSide.plain e) s = tt
  meets_assigned n sc xs (RightSide.flip q) s = of_flip (LoopsMeet p) n sc (first_or_zero xs) q s tt tt
  meets_assigned n sc xs (RightSide.unif a b) s = tt
  meets_assigned n sc xs (RightSide.choose parts) s = tt
  meets_assigned n sc xs (RightSide.call q arguments) s = tt

  meets_declared : (n : ℕ) (sc : Scope) (t : TypeName) (r : Option RightSide) (s : Span) → LoopsMeet p (declared_act h called n sc t r s)
  meets_declared n sc t None s = tt
  meets_declared n sc t (Some r) s = meets_assigned n sc (n ∷ []) r s

  meets_havocs : (sc : Scope) (up : Bool) (xs : List (List ℕ)) (s : Span) → Alone (LoopsMeet p) (havocs sc up xs s)
  meets_havocs sc up [] s = tt
  meets_havocs sc up (x ∷ xs) s = (tt, meets_havocs sc up xs s)

  scope_fits : (n : ℕ) (sc : Scope) (ls : List Variable) → GrowBelow 0 n (numbers sc) → Stands (variables p) n ls → GrowBelow 0 (length (variables p)) (numbers sc)
  scope_fits n sc ls g l = grow_more 0 n (length (variables p)) (numbers sc) g (let i = stands_within (variables p) n ls l in omega (arith, i))

  pub meets : Locally (variables p) h called (LoopsMeet p)
  meets bound n m sc (Statement.var x t r s) k l f = (meets_declared n sc t r s, tt)
  meets bound n m sc (Statement.assign xs r s) k l f = (meets_assigned n sc (targets sc xs) r s, tt)
  meets bound n m sc (Statement.check kind a s) k l f = (tt, tt)
  meets bound n m sc (Statement.validate up s) k l f = (tt, tt)
  meets bound n m sc (Statement.havoc up xs s) k l f = meets_havocs sc up xs s
  meets bound n m sc (Statement.reward a s) k l f = (tt, tt)
  meets bound n m sc (Statement.branch arms other s) k l f = (tt, tt)
  meets bound n m sc (Statement.pick up a b s) k l f = (tt, tt)
  meets bound n m sc (Statement.loop rules g b s) k l f =
      let inside = back_none (rules_findings n sc rules ++ closed_findings Demand.Truth n sc g) _ (front_none _ _ f) in
      let own = all_kept s (loop_rules n sc rules (block_is_rankable b)) (back_none _ _ f) in
      let i = few rules in (
        record {
          some_copy = i.some;
          few_copies = i.few;
          scope = scope_fits n sc (locals_of_block b) k.grows l;
          ranked = ranked n sc rules _ (λ e. rankable_block h called n (suc m) sc b (implied (list_any is_ranking rules) (block_is_rankable b) own.1.1.1.1.1.0 e));
          nothing_against = subst (λ d. Each (Along d) (in_order (block_acts h called n (suc m) sc b))) (sym co) (along_block h called n (suc m) sc b inside);
        },
        tt,
      )
