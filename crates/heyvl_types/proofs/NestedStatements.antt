-- The answers on an `if`, a choice of two blocks and a loop, from those on their parts.
use Rattle.heyvl_syntax.specs.Expressions.{Expression}
use Rattle.heyvl_syntax.specs.Statements as text
use Rattle.heyvl_syntax.specs.Statements.{Block, LoopRule, Statement}
use Rattle.heyvl_places.specs.declared.spans.Span.{Span}
use Rattle.typed_expressions.proofs.exported.PartAnswers.{stops_first, stops_second}
use Rattle.heyvl_types.proofs.Walks.{counted}
use Rattle.heyvl_acts.specs.Acts.{Act, Acts, Arms, Variable}
use Rattle.typed_expressions.specs.Answers.{Gives}
use Rattle.typed_right_sides.specs.Views.{acts_view}
use Rattle.typed_expressions.specs.Findings.{Finding, at}
use Rattle.static_rules.specs.LoopRules.{loop_rules, rules_findings}
use Rattle.heyvl_acts.specs.PlainActs.{variable_of}
use Rattle.typed_expressions.specs.Scopes.{Scope}
use Rattle.typed_expressions.specs.Signatures.{Called}
use Rattle.static_rules.specs.StatementActs.{arms_acts, block_acts, loops_of_arms, loops_of_block, statement_acts}
use Rattle.static_rules.specs.StatementRules.{arms_findings, block_binds, block_findings, block_is_rankable, statement_findings}
use Rattle.typed_expressions.specs.TypedExpressions.{closed_findings}
use Rattle.static_rules.specs.Variables.{locals_of_arms, locals_of_block}
use Rattle.typed_expressions.specs.declared.demands.Demand.{Demand}
use Rattle.static_rules.specs.declared.settings.Setting.{Setting}
use Rattle.typed_expressions.specs.declared.stops.ResolveStop.{ResolveStop}
use Rattle.heyvl_acts.specs.declared.typed_trees.VarInfo.{VarInfo}
use Rattle.std.proofs.Common.{Bool, Err, List, [], ap, append_assoc, length, map, sym, true, false, ◌++◌, ◌+◌, ◌||◌, ◌∙◌, ◌≡◌, ℕ}

-- ---- Two parts

nothing_both : (xs ys : List Finding) → xs ≡ [] → ys ≡ [] → xs ++ ys ≡ []
nothing_both xs ys e h = ap (λ r. r ++ ys) e ∙ h

-- The variables that two parts declare, one after the other.
pub listed_both : (xs ys zs a b : List Variable) → ys ≡ xs ++ a → zs ≡ ys ++ b → zs ≡ xs ++ (a ++ b)
listed_both xs ys zs a b e h = h ∙ (ap (λ r. r ++ b) e ∙ append_assoc xs a b)

-- ---- An `if`

pub if_gives : (h : Setting) (called : Called) (bound inner : Bool) (vs us : List VarInfo) (m j : ℕ) (sc tc : Scope) (xs : text.Arms) (b : Block) (s : Span) (made : Arms) (acts : Acts) → inner ≡ (bound || block_binds b) → (arms_findings h called inner (length vs) sc xs ≡ []) × (made ≡ arms_acts h called (length vs) m sc xs) → map variable_of us ≡ map variable_of vs ++ locals_of_arms xs → tc ≡ sc → j ≡ m + loops_of_arms xs → (block_findings h called bound (length us) tc b ≡ []) × (acts ≡ block_acts h called (length us) j tc b) → (statement_findings h called bound (length vs) sc (Statement.branch xs b s) ≡ []) × (Acts.next (Act.ifs made acts s) Acts.done ≡ statement_acts h called (length vs) m sc (Statement.branch xs b s))
if_gives h called bound inner vs us m j sc tc xs b s made acts o f l t p g =
    let n = counted vs us (locals_of_arms xs) l in (
      nothing_both (arms_findings h called (bound || block_binds b) (length vs) sc xs) (block_findings h called bound (length vs + length (locals_of_arms xs)) sc b) (ap (λ x. arms_findings h called x (length vs) sc xs) (sym o) ∙ f.0) (ap (λ k. block_findings h called bound k sc b) (sym n) ∙ (ap (λ x. block_findings h called bound (length us) x b) (sym t) ∙ g.0)),
      ap (λ x. Acts.next (Act.ifs x acts s) Acts.done) f.1 ∙ ap (λ x. Acts.next (Act.ifs (arms_acts h called (length vs) m sc xs) x s) Acts.done) (g.1 ∙ (ap (λ x. block_acts h called (length us) j x b) t ∙ (ap (λ x. block_acts h called x j sc b) n ∙ ap (λ x. block_acts h called (length vs + length (locals_of_arms xs)) x sc b) p))),
    )

-- ---- A choice of two blocks

pub pick_gives : (h : Setting) (called : Called) (bound inner : Bool) (vs us : List VarInfo) (m j : ℕ) (sc tc : Scope) (up : Bool) (a b : Block) (s : Span) (left right : Acts) → inner ≡ (bound || block_binds b) → (block_findings h called inner (length vs) sc a ≡ []) × (left ≡ block_acts h called (length vs) m sc a) → map variable_of us ≡ map variable_of vs ++ locals_of_block a → tc ≡ sc → j ≡ m + loops_of_block a → (block_findings h called bound (length us) tc b ≡ []) × (right ≡ block_acts h called (length us) j tc b) → (statement_findings h called bound (length vs) sc (Statement.pick up a b s) ≡ []) × (Acts.next (Act.pick up left right s) Acts.done ≡ statement_acts h called (length vs) m sc (Statement.pick up a b s))
pick_gives h called bound inner vs us m j sc tc up a b s left right o f l t p g =
    let n = counted vs us (locals_of_block a) l in (
      nothing_both (block_findings h called (bound || block_binds b) (length vs) sc a) (block_findings h called bound (length vs + length (locals_of_block a)) sc b) (ap (λ x. block_findings h called x (length vs) sc a) (sym o) ∙ f.0) (ap (λ k. block_findings h called bound k sc b) (sym n) ∙ (ap (λ x. block_findings h called bound (length us) x b) (sym t) ∙ g.0)),
      ap (λ x. Acts.next (Act.pick up x right s) Acts.done) f.1 ∙ ap (λ x. Acts.next (Act.pick up (block_acts h called (length vs) m sc a) x s) Acts.done) (g.1 ∙ (ap (λ x. block_acts h called (length us) j x b) t ∙ (ap (λ x. block_acts h called x j sc b) n ∙ ap (λ x. block_acts h called (length vs + length (locals_of_block a)) x sc b) p))),
    )

-- ---- A loop

pub loop_stops_body : (h : Setting) (called : Called) (bound : Bool) (n : ℕ) (sc : Scope) (rs : List LoopRule) (g : Expression) (b : Block) (s : Span) (e : ResolveStop) (d q : Acts) → rules_findings n sc rs ++ closed_findings Demand.Truth n sc g ≡ [] → Gives acts_view (Err e) (block_findings h called true n sc b) d → Gives acts_view (Err e) (statement_findings h called bound n sc (Statement.loop rs g b s)) q
loop_stops_body h called bound n sc rs g b s e d q none given =
    let head = rules_findings n sc rs ++ closed_findings Demand.Truth n sc g in
    let body = block_findings h called true n sc b in
    let own = at s (loop_rules n sc rs (block_is_rankable b)) in
    stops_first acts_view acts_view e (head ++ body) own q q (stops_second acts_view acts_view e head body d q none given)

-- ---- Whether a check against the direction may occur in a part

pub bound_by_first : (b inner rest : Bool) → b ≡ true → inner ≡ b → inner ≡ (b || rest)
bound_by_first b inner rest e h = h ∙ (e ∙ ap (λ x. x || rest) (sym e))

pub bound_by_rest : (b inner rest : Bool) → b ≡ false → inner ≡ rest → inner ≡ (b || rest)
bound_by_rest b inner rest e h = h ∙ ap (λ x. x || rest) (sym e)
