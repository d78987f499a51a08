-- No act binds after a check against the direction: the rule on the text carries over to its acts
-- in their order.
use Rattle.heylo_formula.specs.Formula.{Form}
use Rattle.heyvl_acts.specs.Acts.{Act, Acts, acts_in}
use Rattle.heyvl_acts.specs.Places.{in_order, inside_arms}
use Rattle.heyvl_acts.specs.Rules.{NothingBindsBehind, any_binds, is_against}
use Rattle.heyvl_places.specs.declared.checks.CheckKind.{CheckKind}
use Rattle.heyvl_places.specs.declared.spans.Span.{Span}
use Rattle.heyvl_syntax.specs.Statements as text
use Rattle.heyvl_syntax.specs.Statements.{Block, RightSide, Statement}
use Rattle.heyvl_syntax.specs.declared.types.TypeName.{TypeName}
use Rattle.static_rules.proofs.exported.Findings.{all_kept, back_none, front_none}
use Rattle.resolved_laws.proofs.Flips.{of_flip}
use Rattle.resolved_laws.proofs.InOrder.{in_order_join}
use Rattle.static_rules.specs.Files.{body_acts, body_findings}
use Rattle.static_rules.specs.StatementActs.{arms_acts, assigned, block_acts, declared_act, first_or_zero, havocs, loops, loops_of_arms, loops_of_block, statement_acts, targets}
use Rattle.static_rules.specs.StatementRules.{arms_bind, arms_findings, binds, binds_value, block_binds, block_findings, check_rules, checks_against, is_call, statement_findings, validate_rules, validates_against}
use Rattle.static_rules.specs.Variables.{behind, locals, locals_of_arms, locals_of_block}
use Rattle.static_rules.specs.declared.settings.Setting.{Setting}
use Rattle.std.proofs.Common.{Bool, List, None, Option, Some, [], append_assoc, false, refl, subst, suc, sym, true, ◌++◌, ◌+◌, ◌≡◌, ◌∷◌, ℕ}
use Rattle.std.proofs.lemmas.Bool.{or_from, or_parts}
use Rattle.std.proofs.lemmas.List.{append-nil}
use Rattle.std.specs.Prelude.{length, not, ◌&&◌, ◌||◌}
use Rattle.typed_expressions.specs.Scopes.{Scope}
use Rattle.typed_expressions.specs.Signatures.{Called}
use Rattle.typed_expressions.specs.TypedExpressions.{closed_findings, elaborate}
use Rattle.typed_expressions.specs.Values.{form}
use Rattle.typed_expressions.specs.declared.demands.Demand.{Demand}

none_bind : (xs ys : List Act) → any_binds xs ≡ false → any_binds ys ≡ false → any_binds (xs ++ ys) ≡ false
none_bind [] ys p q = q
none_bind (x ∷ xs) ys p q = or_from _ _ (or_parts _ _ p).0 (none_bind xs ys (or_parts _ _ p).1 q)

-- ---- Statements that do not bind have acts that do not bind

unbound_assigned : (called : Called) (n : ℕ) (sc : Scope) (xs : List ℕ) (r : RightSide) (s : Span) → is_call r ≡ false → any_binds (in_order (Acts.next (assigned called n sc xs r s) Acts.done)) ≡ false
unbound_assigned called n sc xs (RightSide.plain e) s u = refl
unbound_assigned called n sc xs (RightSide.flip p) s u = of_flip (λ a. any_binds (in_order (Acts.next a Acts.done)) ≡ false) n sc (first_or_zero xs) p s refl refl
unbound_assigned called n sc xs (RightSide.unif a b) s u = refl
unbound_assigned called n sc xs (RightSide.choose parts) s u = refl
unbound_assigned called n sc xs (RightSide.call p arguments) s u = absurd (cc)

unbound_declared : (h : Setting) (called : Called) (n : ℕ) (sc : Scope) (t : TypeName) (r : Option RightSide) (s : Span) → binds_value r ≡ false → any_binds (in_order (Acts.next (declared_act h called n sc t r s) Acts.done)) ≡ false
unbound_declared h called n sc t None s u = absurd (cc)
unbound_declared h called n sc t (Some r) s u = unbound_assigned called n sc (n ∷ []) r s u

-- The acts inside a single act, and those after it.
inside_alone : (xs ys zs : List Act) → ((xs ++ ys) ++ []) ++ zs ≡ xs ++ (ys ++ zs)
inside_alone xs ys zs = rw (append-nil, append_assoc) refl

body_alone : (xs zs : List Act) → (xs ++ []) ++ zs ≡ xs ++ zs
body_alone xs zs = rw append-nil refl

module _ (h : Setting) (called : Called) where
  mutual
    unbound_statement : (n m : ℕ) (sc : Scope) (s : Statement) → binds s ≡ false → any_binds (in_order (statement_acts h called n m sc s)) ≡ false
    unbound_statement n m sc (Statement.var x t r s) u = unbound_declared h called n sc t r s u
    unbound_statement n m sc (Statement.assign xs r s) u = unbound_assigned called n sc (targets sc xs) r s u
    unbound_statement n m sc (Statement.check kind a s) u = refl
    unbound_statement n m sc (Statement.validate co s) u = refl
    unbound_statement n m sc (Statement.havoc co xs s) u = absurd (cc)
    unbound_statement n m sc (Statement.reward a s) u = refl
    unbound_statement n m sc (Statement.branch arms other s) u =
        none_bind (inside_arms (arms_acts h called n m sc arms) ++ _) [] (none_bind (inside_arms (arms_acts h called n m sc arms)) _ (unbound_arms n m sc arms (or_parts _ _ u).0) (unbound_block (n + length (locals_of_arms arms)) (m + loops_of_arms arms) sc other (or_parts _ _ u).1)) refl
    unbound_statement n m sc (Statement.pick up a b s) u =
        none_bind (in_order (block_acts h called n m sc a) ++ _) [] (none_bind (in_order (block_acts h called n m sc a)) _ (unbound_block n m sc a (or_parts _ _ u).0) (unbound_block (n + length (locals_of_block a)) (m + loops_of_block a) sc b (or_parts _ _ u).1)) refl
    unbound_statement n m sc (Statement.loop rules g b s) u = absurd (cc)

    unbound_block : (n m : ℕ) (sc : Scope) (b : Block) → block_binds b ≡ false → any_binds (in_order (block_acts h called n m sc b)) ≡ false
    unbound_block n m sc Block.done u = refl
    unbound_block n m sc (Block.next s b) u =
        rw (in_order_join (statement_acts h called n m sc s) (block_acts h called (n + length (locals s)) (m + loops s) (behind n sc s) b))
        (none_bind (in_order (statement_acts h called n m sc s)) (in_order (block_acts h called (n + length (locals s)) (m + loops s) (behind n sc s) b)) (unbound_statement n m sc s (or_parts _ _ u).0) (unbound_block (n + length (locals s)) (m + loops s) (behind n sc s) b (or_parts _ _ u).1))

    unbound_arms : (n m : ℕ) (sc : Scope) (arms : text.Arms) → arms_bind arms ≡ false → any_binds (inside_arms (arms_acts h called n m sc arms)) ≡ false
    unbound_arms n m sc text.Arms.no_arm u = refl
    unbound_arms n m sc (text.Arms.arm g b more) u =
        none_bind (in_order (block_acts h called n m sc b)) (inside_arms (arms_acts h called (n + length (locals_of_block b)) (m + loops_of_block b) sc more)) (unbound_block n m sc b (or_parts _ _ u).0) (unbound_arms (n + length (locals_of_block b)) (m + loops_of_block b) sc more (or_parts _ _ u).1)

-- ---- Checks

against : (a bound : Bool) → (a && bound) ≡ false → a ≡ true → bound ≡ false
against true bound k e = k
against false bound k e = absurd (cc)

against_check : (co : Bool) (kind : CheckKind) (bound : Bool) (f : Form) (s : Span) → (checks_against co kind && bound) ≡ false → is_against co (Act.check kind f s) ≡ true → bound ≡ false
against_check co CheckKind.Assert bound f s k e = absurd (cc)
against_check co CheckKind.Assume bound f s k e = against co bound k e
against_check co CheckKind.CoAssert bound f s k e = absurd (cc)
against_check co CheckKind.CoAssume bound f s k e = against (not co) bound k e

-- ---- All acts, and those after them

module _ (h : Setting) (called : Called) (quantified : Bool) where
  -- Neither the post nor one of the acts binds.
  abbrev pub Unbound : List Act → Type 0
  Unbound acts = (quantified || any_binds acts) ≡ false

  -- The acts of a text that does not bind, before acts that do not bind.
  further : (bound more : Bool) (xs ys : List Act) → (more ≡ false → any_binds xs ≡ false) → (bound ≡ false → Unbound ys) → (bound || more) ≡ false → Unbound (xs ++ ys)
  further bound more xs ys p q e =
      let u = q (or_parts bound more e).0 in
      or_from quantified (any_binds (xs ++ ys)) (or_parts quantified (any_binds ys) u).0 (none_bind xs ys (p (or_parts bound more e).1) (or_parts quantified (any_binds ys) u).1)

  behind_assigned : (n : ℕ) (sc : Scope) (xs : List ℕ) (r : RightSide) (s : Span) (ys : List Act) → NothingBindsBehind h.co quantified ys → NothingBindsBehind h.co quantified (in_order (Acts.next (assigned called n sc xs r s) Acts.done) ++ ys)
  behind_assigned n sc xs (RightSide.plain e) s ys p = (λ i. absurd (cc), p)
  behind_assigned n sc xs (RightSide.flip e) s ys p = of_flip (λ a. NothingBindsBehind h.co quantified (in_order (Acts.next a Acts.done) ++ ys)) n sc (first_or_zero xs) e s (λ i. absurd (cc), p) (λ i. absurd (cc), p)
  behind_assigned n sc xs (RightSide.unif a b) s ys p = (λ i. absurd (cc), p)
  behind_assigned n sc xs (RightSide.choose parts) s ys p = (λ i. absurd (cc), p)
  behind_assigned n sc xs (RightSide.call f arguments) s ys p = (λ i. absurd (cc), p)

  behind_declared : (n : ℕ) (sc : Scope) (t : TypeName) (r : Option RightSide) (s : Span) (ys : List Act) → NothingBindsBehind h.co quantified ys → NothingBindsBehind h.co quantified (in_order (Acts.next (declared_act h called n sc t r s) Acts.done) ++ ys)
  behind_declared n sc t None s ys p = (λ i. absurd (cc), p)
  behind_declared n sc t (Some r) s ys p = behind_assigned n sc (n ∷ []) r s ys p

  behind_havocs : (sc : Scope) (co : Bool) (xs : List (List ℕ)) (s : Span) (ys : List Act) → NothingBindsBehind h.co quantified ys → NothingBindsBehind h.co quantified (in_order (havocs sc co xs s) ++ ys)
  behind_havocs sc co [] s ys p = p
  behind_havocs sc co (x ∷ xs) s ys p = (λ i. absurd (cc), behind_havocs sc co xs s ys p)

  -- The acts of a text without findings, before acts that satisfy the rule.
  abbrev Stands : Bool → List Act → List Act → Type 0
  Stands bound acts ys = (bound ≡ false → Unbound ys) → NothingBindsBehind h.co quantified ys → NothingBindsBehind h.co quantified (acts ++ ys)

  mutual
    behind_statement : (bound : Bool) (n m : ℕ) (sc : Scope) (s : Statement) (ys : List Act) → statement_findings h called bound n sc s ≡ [] → Stands bound (in_order (statement_acts h called n m sc s)) ys
    behind_statement bound n m sc (Statement.var x t r s) ys f u p = behind_declared n sc t r s ys p
    behind_statement bound n m sc (Statement.assign xs r s) ys f u p = behind_assigned n sc (targets sc xs) r s ys p
    behind_statement bound n m sc (Statement.check kind a s) ys f u p =
        (λ e. u (against_check h.co kind bound (form (elaborate n sc a)) s (all_kept s (check_rules h bound kind) (back_none (closed_findings Demand.Formula n sc a) _ f)).0 e), p)
    behind_statement bound n m sc (Statement.validate co s) ys f u p = (λ e. u (against (validates_against h.co co) bound (all_kept s (validate_rules h bound co) f).0 e), p)
    behind_statement bound n m sc (Statement.havoc co xs s) ys f u p = behind_havocs sc co xs s ys p
    behind_statement bound n m sc (Statement.reward a s) ys f u p = (λ i. absurd (cc), p)
    behind_statement bound n m sc (Statement.branch arms other s) ys f u p =
        let i = n + length (locals_of_arms arms) in
        let j = m + loops_of_arms arms in
        let front = inside_arms (arms_acts h called n m sc arms) in
        let back = in_order (block_acts h called i j sc other) in (
          λ e. absurd (cc),
          subst (NothingBindsBehind h.co quantified) (sym (inside_alone front back ys))
              (behind_arms (bound || block_binds other) n m sc arms (back ++ ys) (front_none _ _ f)
              (further bound (block_binds other) back ys (unbound_block h called i j sc other) u)
              (behind_block bound i j sc other ys (back_none _ _ f) u p)),
        )
    behind_statement bound n m sc (Statement.pick up a b s) ys f u p =
        let i = n + length (locals_of_block a) in
        let j = m + loops_of_block a in
        let front = in_order (block_acts h called n m sc a) in
        let back = in_order (block_acts h called i j sc b) in (
          λ e. absurd (cc),
          subst (NothingBindsBehind h.co quantified) (sym (inside_alone front back ys))
              (behind_block (bound || block_binds b) n m sc a (back ++ ys) (front_none _ _ f)
              (further bound (block_binds b) back ys (unbound_block h called i j sc b) u)
              (behind_block bound i j sc b ys (back_none _ _ f) u p)),
        )
    behind_statement bound n m sc (Statement.loop rules g b s) ys f u p = (
      λ e. absurd (cc),
      subst (NothingBindsBehind h.co quantified) (sym (body_alone (in_order (block_acts h called n (suc m) sc b)) ys))
          (behind_block true n (suc m) sc b ys (back_none _ _ (front_none _ _ f)) (λ e. absurd (cc)) p),
    )

    pub behind_block : (bound : Bool) (n m : ℕ) (sc : Scope) (b : Block) (ys : List Act) → block_findings h called bound n sc b ≡ [] → Stands bound (in_order (block_acts h called n m sc b)) ys
    behind_block bound n m sc Block.done ys f u p = p
    behind_block bound n m sc (Block.next s b) ys f u p =
        let i = n + length (locals s) in
        let j = m + loops s in
        let k = behind n sc s in
        let front = in_order (statement_acts h called n m sc s) in
        let back = in_order (block_acts h called i j k b) in
        subst (λ acts. NothingBindsBehind h.co quantified (acts ++ ys)) (sym (in_order_join (statement_acts h called n m sc s) (block_acts h called i j k b)))
        (subst (NothingBindsBehind h.co quantified) (sym (append_assoc front back ys))
        (behind_statement (bound || block_binds b) n m sc s (back ++ ys) (front_none _ _ f)
        (further bound (block_binds b) back ys (unbound_block h called i j k b) u)
        (behind_block bound i j k b ys (back_none _ _ f) u p)))

    behind_arms : (bound : Bool) (n m : ℕ) (sc : Scope) (arms : text.Arms) (ys : List Act) → arms_findings h called bound n sc arms ≡ [] → Stands bound (inside_arms (arms_acts h called n m sc arms)) ys
    behind_arms bound n m sc text.Arms.no_arm ys f u p = p
    behind_arms bound n m sc (text.Arms.arm g b more) ys f u p =
        let i = n + length (locals_of_block b) in
        let j = m + loops_of_block b in
        let front = in_order (block_acts h called n m sc b) in
        let back = inside_arms (arms_acts h called i j sc more) in
        subst (NothingBindsBehind h.co quantified) (sym (append_assoc front back ys))
        (behind_block (bound || arms_bind more) n m sc b (back ++ ys) (back_none _ _ (front_none _ _ f))
        (further bound (arms_bind more) back ys (unbound_arms h called i j sc more) u)
        (behind_arms bound i j sc more ys (back_none _ _ f) u p))

  pub nothing_binds_behind : (bound : Bool) (n : ℕ) (sc : Scope) (b : Option Block) → body_findings h called bound n sc b ≡ [] → (bound ≡ false → quantified ≡ false) → NothingBindsBehind h.co quantified (in_order (acts_in (body_acts h called n sc b)))
  nothing_binds_behind bound n sc None f q = tt
  nothing_binds_behind bound n sc (Some b) f q =
      subst (NothingBindsBehind h.co quantified) (append-nil (in_order (block_acts h called n 1 sc b)))
      (behind_block bound n 1 sc b [] f (λ e. or_from quantified false (q e) refl) tt)
