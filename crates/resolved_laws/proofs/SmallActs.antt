-- The formulas and conditions of each act of a body are small compared with the expressions of the
-- body.
use Rattle.heyvl_acts.specs.Acts.{Act, Acts, Variable}
use Rattle.heyvl_acts.specs.FormSizes.{ActWithin, GuardsWithin}
use Rattle.heyvl_acts.specs.Places.{in_order, inside_arms}
use Rattle.heyvl_acts.specs.Rules.{Each}
use Rattle.heyvl_places.specs.declared.spans.Span.{Span}
use Rattle.heyvl_syntax.specs.Sizes.{nodes_of_arms, nodes_of_block, nodes_of_optional, nodes_of_statement}
use Rattle.heyvl_syntax.specs.Statements as text
use Rattle.heyvl_syntax.specs.Statements.{Block, RightSide, Statement}
use Rattle.heyvl_syntax.specs.declared.types.TypeName.{TypeName}
use Rattle.static_rules.proofs.exported.Findings.{back_none, front_none}
use Rattle.resolved_laws.proofs.Flips.{of_flip}
use Rattle.resolved_laws.proofs.InOrder.{each_both, each_join}
use Rattle.resolved_laws.proofs.Locals.{Stands, stands_back, stands_front}
use Rattle.resolved_laws.proofs.Sizes.{assigned_small, condition_small, form_small, invariant_small, ranking_small}
use Rattle.resolved_laws.proofs.Walk.{Known, known_behind, known_up}
use Rattle.static_rules.specs.StatementActs.{arms_acts, assigned, block_acts, declared_act, first_or_zero, havocs, loops, loops_of_arms, loops_of_block, statement_acts, targets}
use Rattle.static_rules.specs.StatementRules.{arms_bind, arms_findings, block_binds, block_findings, statement_findings}
use Rattle.static_rules.specs.Variables.{behind, locals, locals_of_arms, locals_of_block}
use Rattle.static_rules.specs.declared.settings.Setting.{Setting}
use Rattle.std.proofs.Common.{Bool, List, None, Option, Some, [], arith, suc, true, ◌*◌, ◌+◌, ◌≡◌, ◌≤◌, ◌∷◌, ℕ}
use Rattle.std.specs.Prelude.{length, ◌||◌}
use Rattle.typed_expressions.specs.Scopes.{Scope}
use Rattle.typed_expressions.specs.Signatures.{Called}

abbrev Holds : ℕ → ℕ → Type 0
Holds most nodes = 2 * nodes + 1 ≤ most

module _ (vs : List Variable) (h : Setting) (c : Called) (most : ℕ) where
  small_assigned : (n : ℕ) (sc : Scope) (k : Known vs h c n sc) (xs : List ℕ) (r : RightSide) (s : Span) → Holds most (nodes_of_optional (Some r)) → Each (ActWithin most) (in_order (Acts.next (assigned c n sc xs r s) Acts.done))
  small_assigned n sc k xs (RightSide.plain e) s l = (assigned_small _ n sc k.agrees most c xs (RightSide.plain e) s l, tt)
  small_assigned n sc k xs (RightSide.flip e) s l = of_flip (λ (a : Act). Each (ActWithin most) (in_order (Acts.next a Acts.done))) n sc (first_or_zero xs) e s ((omega (arith, l), (omega (arith, l), tt)), tt) (let i = form_small _ n sc k.agrees e in omega (arith, i, l), tt)
  small_assigned n sc k xs (RightSide.unif a b) s l = (assigned_small _ n sc k.agrees most c xs (RightSide.unif a b) s l, tt)
  small_assigned n sc k xs (RightSide.choose parts) s l = (assigned_small _ n sc k.agrees most c xs (RightSide.choose parts) s l, tt)
  small_assigned n sc k xs (RightSide.call f arguments) s l = (assigned_small _ n sc k.agrees most c xs (RightSide.call f arguments) s l, tt)

  small_declared : (n : ℕ) (sc : Scope) (k : Known vs h c n sc) (t : TypeName) (r : Option RightSide) (s : Span) → Holds most (nodes_of_optional r) → Each (ActWithin most) (in_order (Acts.next (declared_act h c n sc t r s) Acts.done))
  small_declared n sc k t None s l = (tt, tt)
  small_declared n sc k t (Some r) s l = small_assigned n sc k (n ∷ []) r s l

  small_havocs : (sc : Scope) (co : Bool) (xs : List (List ℕ)) (s : Span) → Each (ActWithin most) (in_order (havocs sc co xs s))
  small_havocs sc co [] s = tt
  small_havocs sc co (x ∷ xs) s = (tt, small_havocs sc co xs s)

  guards_small : (n m : ℕ) (sc : Scope) (arms : text.Arms) → Known vs h c n sc → Holds most (nodes_of_arms arms) → GuardsWithin most (arms_acts h c n m sc arms)
  guards_small n m sc text.Arms.no_arm k l = tt
  guards_small n m sc (text.Arms.arm g b more) k l =
      let i = condition_small _ n sc k.agrees g in
      (omega (arith, i, l), guards_small (n + length (locals_of_block b)) (m + loops_of_block b) sc more (known_up vs h c n _ sc (omega arith) k) (omega (arith, l)))

  mutual
    small_statement : (bound : Bool) (n m : ℕ) (sc : Scope) (s : Statement) → Known vs h c n sc → Stands vs n (locals s) → statement_findings h c bound n sc s ≡ [] → Holds most (nodes_of_statement s) → Each (ActWithin most) (in_order (statement_acts h c n m sc s))
    small_statement bound n m sc (Statement.var x t r s) k z f l = small_declared n sc k t r s l
    small_statement bound n m sc (Statement.assign xs r s) k z f l = small_assigned n sc k (targets sc xs) r s l
    small_statement bound n m sc (Statement.check kind a s) k z f l = (let i = form_small _ n sc k.agrees a in omega (arith, i, l), tt)
    small_statement bound n m sc (Statement.validate up s) k z f l = (tt, tt)
    small_statement bound n m sc (Statement.havoc up xs s) k z f l = small_havocs sc up xs s
    small_statement bound n m sc (Statement.reward a s) k z f l = (let i = form_small _ n sc k.agrees a in omega (arith, i, l), tt)
    small_statement bound n m sc (Statement.branch arms other s) k z f l = (
      guards_small n m sc arms k (omega (arith, l)),
      each_both (ActWithin most) _ [] (each_both (ActWithin most) _ _
          (small_arms (bound || block_binds other) n m sc arms k (stands_front vs n (locals_of_arms arms) (locals_of_block other) z) (front_none _ _ f) (omega (arith, l)))
          (small_block bound (n + length (locals_of_arms arms)) (m + loops_of_arms arms) sc other (known_up vs h c n _ sc (omega arith) k) (stands_back vs n (locals_of_arms arms) (locals_of_block other) z) (back_none _ _ f) (omega (arith, l)))) tt,
    )
    small_statement bound n m sc (Statement.pick up a b s) k z f l = (
      tt,
      each_both (ActWithin most) _ [] (each_both (ActWithin most) _ _
          (small_block (bound || block_binds b) n m sc a k (stands_front vs n (locals_of_block a) (locals_of_block b) z) (front_none _ _ f) (omega (arith, l)))
          (small_block bound (n + length (locals_of_block a)) (m + loops_of_block a) sc b (known_up vs h c n _ sc (omega arith) k) (stands_back vs n (locals_of_block a) (locals_of_block b) z) (back_none _ _ f) (omega (arith, l)))) tt,
    )
    small_statement bound n m sc (Statement.loop rules g b s) k z f l =
        let i = condition_small _ n sc k.agrees g in (
          (invariant_small _ n sc k.agrees most rules (omega (arith, l)), (omega (arith, i, l), ranking_small _ n sc k.agrees most rules (omega (arith, l)))),
          each_both (ActWithin most) _ [] (small_block true n (suc m) sc b k z (back_none _ _ (front_none _ _ f)) (omega (arith, l))) tt,
        )

    pub small_block : (bound : Bool) (n m : ℕ) (sc : Scope) (b : Block) → Known vs h c n sc → Stands vs n (locals_of_block b) → block_findings h c bound n sc b ≡ [] → Holds most (nodes_of_block b) → Each (ActWithin most) (in_order (block_acts h c n m sc b))
    small_block bound n m sc Block.done k z f l = tt
    small_block bound n m sc (Block.next s b) k z f l =
        let d = front_none _ _ f in
        let y = stands_front vs n (locals s) (locals_of_block b) z in
        each_join (ActWithin most) (statement_acts h c n m sc s) _
        (small_statement (bound || block_binds b) n m sc s k y d (omega (arith, l)))
        (small_block bound (n + length (locals s)) (m + loops s) (behind n sc s) b (known_behind vs h c (bound || block_binds b) n sc s k y d) (stands_back vs n (locals s) (locals_of_block b) z) (back_none _ _ f) (omega (arith, l)))

    small_arms : (bound : Bool) (n m : ℕ) (sc : Scope) (arms : text.Arms) → Known vs h c n sc → Stands vs n (locals_of_arms arms) → arms_findings h c bound n sc arms ≡ [] → Holds most (nodes_of_arms arms) → Each (ActWithin most) (inside_arms (arms_acts h c n m sc arms))
    small_arms bound n m sc text.Arms.no_arm k z f l = tt
    small_arms bound n m sc (text.Arms.arm g b more) k z f l =
        each_both (ActWithin most) _ _
        (small_block (bound || arms_bind more) n m sc b k (stands_front vs n (locals_of_block b) (locals_of_arms more) z) (back_none _ _ (front_none _ _ f)) (omega (arith, l)))
        (small_arms bound (n + length (locals_of_block b)) (m + loops_of_block b) sc more (known_up vs h c n _ sc (omega arith) k) (stands_back vs n (locals_of_block b) (locals_of_arms more) z) (back_none _ _ f) (omega (arith, l)))
