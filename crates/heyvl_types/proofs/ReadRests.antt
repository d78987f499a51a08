-- The program's blocks and arms, read up to a rest.
use Rattle.heylo_formula.specs.Formula.{Cond}
use Rattle.heylo_formula.specs.declared.forms.Cond as C
use Rattle.heyvl_acts.specs.Acts.{Acts, Arms}
use Rattle.heyvl_acts.specs.PlainActs.{acts_of, arm_of, armed, variable_of}
use Rattle.heyvl_acts.specs.declared.acts.Act as A
use Rattle.heyvl_acts.specs.declared.typed_trees.VarInfo.{VarInfo}
use Rattle.heyvl_syntax.proofs.exported.PlainTreesAre.{plain_statements}
use Rattle.heyvl_syntax.specs.Expressions.{expression}
use Rattle.heyvl_syntax.specs.Statements as text
use Rattle.heyvl_syntax.specs.Statements.{Block, arms, block, statement}
use Rattle.heyvl_syntax.specs.declared.statements.Arm.{Arm}
use Rattle.heyvl_syntax.specs.declared.statements.Stmt.{Stmt}
use Rattle.heyvl_types.proofs.Havocs.{acts_append, join_done}
use Rattle.heyvl_types.proofs.Rests.{arms_end, arms_next, block_end, block_next}
use Rattle.heyvl_types.proofs.Walks.{ArmsRead, BlockRead, arms_step, arms_then_none, as_many, block_step}
use Rattle.static_rules.specs.StatementActs.{arms_acts, block_acts, loops, loops_of_arms, loops_of_block, statement_acts}
use Rattle.static_rules.specs.StatementRules.{arms_bind, arms_findings, block_binds, block_findings, statement_findings}
use Rattle.static_rules.specs.Variables.{behind, locals, locals_of_arms, locals_of_block}
use Rattle.static_rules.specs.declared.settings.Setting.{Setting}
use Rattle.typed_right_sides.specs.Views.{arms_view}
use Rattle.std.proofs.Common.{Bool, Err, List, Vec, [], ap, arith, drop, get_or, length, map, subst, sym, take, ◌++◌, ◌+◌, ◌<◌, ◌^◌, ◌||◌, ◌∙◌, ◌≡◌, ◌∷◌, ◌≤◌, ℕ}
use Rattle.std.proofs.lemmas.List.{map-append}
use Rattle.std.specs.declared.alloc.Global.{Global}
use Rattle.typed_expressions.proofs.exported.Parts.{stops, stops_at}
use Rattle.typed_expressions.specs.Answers.{Gives}
use Rattle.typed_expressions.specs.Scopes.{Scope}
use Rattle.typed_expressions.specs.Signatures.{Called}
use Rattle.typed_expressions.specs.TypedExpressions.{closed_findings, elaborate}
use Rattle.typed_expressions.specs.Values.{condition}
use Rattle.typed_expressions.specs.declared.demands.Demand.{Demand}
use Rattle.typed_expressions.specs.declared.stops.ResolveStop.{ResolveStop}

-- The rest begins with the next statement.
pub block_at : (h : Setting) (called : Called) (bound : Bool) (ws : List VarInfo) (k : ℕ) (wsc : Scope) (xs : List Stmt) (acts : Acts) (vs : List VarInfo) (m : ℕ) (sc : Scope) (i : ℕ) (x : Stmt) → BlockRead h called bound ws k wsc (block xs) acts vs m sc (block (drop i xs)) → i < length xs → x ≡ get_or xs i x → BlockRead h called bound ws k wsc (block xs) acts vs m sc (Block.next (statement x) (block (drop (i + 1) xs)))
block_at h called bound ws k wsc xs acts vs m sc i x b lt is = subst (λ r. BlockRead h called bound ws k wsc (block xs) acts vs m sc r) (block_next xs i x lt is) b

-- The variables and loops of the next statement are in range if those of the block are.
pub statement_in_range : (h : Setting) (called : Called) (bound : Bool) (ws : List VarInfo) (k : ℕ) (wsc : Scope) (xs : List Stmt) (acts : Acts) (vs : List VarInfo) (m : ℕ) (sc : Scope) (i : ℕ) (x : Stmt) → BlockRead h called bound ws k wsc (block xs) acts vs m sc (block (drop i xs)) → i < length xs → x ≡ get_or xs i x → length ws + length (locals_of_block (block xs)) < 2 ^ 32 → k + loops_of_block (block xs) < 2 ^ 32 → (length vs + length (locals (statement x)) < 2 ^ 32) × (m + loops (statement x) < 2 ^ 32)
statement_in_range h called bound ws k wsc xs acts vs m sc i x b lt is few some =
    let r = block_at h called bound ws k wsc xs acts vs m sc i x b lt is in
    let n = as_many ws vs (locals_of_block (block xs)) (locals (statement x)) (locals_of_block (block (drop (i + 1) xs))) r.listed in
    let j : k + loops_of_block (block xs) ≡ m + (loops (statement x) + loops_of_block (block (drop (i + 1) xs))) = r.numbered in
    (omega (arith, n, few), omega (arith, j, some))

pub block_more : (h : Setting) (called : Called) (bound : Bool) (ws : List VarInfo) (k : ℕ) (wsc : Scope) (xs : List Stmt) (made more : List A.Act) (vs : List VarInfo) (m : ℕ) (sc : Scope) (i : ℕ) (x : Stmt) (inner : Bool) (us : List VarInfo) (j : ℕ) (tc : Scope) → BlockRead h called bound ws k wsc (block xs) (acts_of made) vs m sc (block (drop i xs)) → i < length xs → x ≡ get_or xs i x → inner ≡ (bound || block_binds (block (drop (i + 1) xs))) → (statement_findings h called inner (length vs) sc (statement x) ≡ []) × (acts_of more ≡ statement_acts h called (length vs) m sc (statement x)) → tc ≡ behind (length vs) sc (statement x) → take (length sc) tc ≡ sc → map variable_of us ≡ map variable_of vs ++ locals (statement x) → j ≡ m + loops (statement x) → BlockRead h called bound ws k wsc (block xs) (acts_of (made ++ more)) us j tc (block (drop (i + 1) xs))
block_more h called bound ws k wsc xs made more vs m sc i x inner us j tc b lt is o g t p l c =
    subst (λ a. BlockRead h called bound ws k wsc (block xs) a us j tc (block (drop (i + 1) xs))) (sym (acts_append made more))
    (block_step h called bound ws k wsc (block xs) (acts_of made) vs m sc (statement x) (block (drop (i + 1) xs)) (acts_of more) us j tc (block_at h called bound ws k wsc xs (acts_of made) vs m sc i x b lt is) (ap (λ t. statement_findings h called t (length vs) sc (statement x)) (sym o) ∙ g.0) g.1 t p l c)

pub block_ends : (h : Setting) (called : Called) (bound : Bool) (ws : List VarInfo) (k : ℕ) (wsc : Scope) (xs : List Stmt) (acts : Acts) (vs : List VarInfo) (m : ℕ) (sc : Scope) (i : ℕ) → BlockRead h called bound ws k wsc (block xs) acts vs m sc (block (drop i xs)) → length xs ≤ i → BlockRead h called bound ws k wsc (block xs) acts vs m sc Block.done
block_ends h called bound ws k wsc xs acts vs m sc i b over = subst (λ r. BlockRead h called bound ws k wsc (block xs) acts vs m sc r) (block_end xs i over) b

-- The answer on a block without a rest.
pub block_gives : (h : Setting) (called : Called) (bound : Bool) (ws : List VarInfo) (k : ℕ) (wsc : Scope) (whole : Block) (acts : Acts) (vs : List VarInfo) (m : ℕ) (sc : Scope) → BlockRead h called bound ws k wsc whole acts vs m sc Block.done → (block_findings h called bound (length ws) wsc whole ≡ []) × (acts ≡ block_acts h called (length ws) k wsc whole)
block_gives h called bound ws k wsc whole acts vs m sc b = (b.found, sym (b.made ∙ join_done acts))

pub arms_at : (h : Setting) (called : Called) (bound : Bool) (ws : List VarInfo) (k : ℕ) (sc : Scope) (xs : List Arm) (done : List (Cond × Acts)) (vs : List VarInfo) (m : ℕ) (i : ℕ) (x : Arm) → ArmsRead h called bound ws k sc (arms xs) done vs m (arms (drop i xs)) → i < length xs → x ≡ get_or xs i x → ArmsRead h called bound ws k sc (arms xs) done vs m (text.Arms.arm (expression x.guard) (block x.body.items) (arms (drop (i + 1) xs)))
arms_at h called bound ws k sc xs done vs m i x b lt is = subst (λ r. ArmsRead h called bound ws k sc (arms xs) done vs m r) (arms_next xs i x lt is ∙ ap (λ a. text.Arms.arm a.0 a.1 (arms (drop (i + 1) xs))) (plain_statements.guarded x)) b

pub arm_in_range : (h : Setting) (called : Called) (bound : Bool) (ws : List VarInfo) (k : ℕ) (sc : Scope) (xs : List Arm) (done : List (Cond × Acts)) (vs : List VarInfo) (m : ℕ) (i : ℕ) (x : Arm) → ArmsRead h called bound ws k sc (arms xs) done vs m (arms (drop i xs)) → i < length xs → x ≡ get_or xs i x → length ws + length (locals_of_arms (arms xs)) < 2 ^ 32 → k + loops_of_arms (arms xs) < 2 ^ 32 → (length vs + length (locals_of_block (block x.body.items)) < 2 ^ 32) × (m + loops_of_block (block x.body.items) < 2 ^ 32)
arm_in_range h called bound ws k sc xs done vs m i x b lt is few some =
    let r = arms_at h called bound ws k sc xs done vs m i x b lt is in
    let n = as_many ws vs (locals_of_arms (arms xs)) (locals_of_block (block x.body.items)) (locals_of_arms (arms (drop (i + 1) xs))) r.listed in
    let j : k + loops_of_arms (arms xs) ≡ m + (loops_of_block (block x.body.items) + loops_of_arms (arms (drop (i + 1) xs))) = r.numbered in
    (omega (arith, n, few), omega (arith, j, some))

pub arms_more : (h : Setting) (called : Called) (bound : Bool) (ws : List VarInfo) (k : ℕ) (sc : Scope) (xs : List Arm) (made : List (C.Cond × Vec A.Act Global)) (one : C.Cond × Vec A.Act Global) (vs : List VarInfo) (m : ℕ) (i : ℕ) (x : Arm) (inner : Bool) (us : List VarInfo) (j : ℕ) → ArmsRead h called bound ws k sc (arms xs) (map arm_of made) vs m (arms (drop i xs)) → i < length xs → x ≡ get_or xs i x → inner ≡ (bound || arms_bind (arms (drop (i + 1) xs))) → (closed_findings Demand.Truth (length vs) sc (expression x.guard) ++ block_findings h called inner (length vs) sc (block x.body.items) ≡ []) × (arm_of one ≡ (condition (elaborate (length vs) sc (expression x.guard)), block_acts h called (length vs) m sc (block x.body.items))) → map variable_of us ≡ map variable_of vs ++ locals_of_block (block x.body.items) → j ≡ m + loops_of_block (block x.body.items) → ArmsRead h called bound ws k sc (arms xs) (map arm_of (made ++ one ∷ [])) us j (arms (drop (i + 1) xs))
arms_more h called bound ws k sc xs made one vs m i x inner us j b lt is o g l c =
    subst (λ a. ArmsRead h called bound ws k sc (arms xs) a us j (arms (drop (i + 1) xs))) (sym (map-append arm_of made (one ∷ [])))
    (arms_step h called bound ws k sc (arms xs) (map arm_of made) vs m (expression x.guard) (block x.body.items) (arms (drop (i + 1) xs)) (arm_of one) us j (arms_at h called bound ws k sc xs (map arm_of made) vs m i x b lt is) (ap (λ t. closed_findings Demand.Truth (length vs) sc (expression x.guard) ++ block_findings h called t (length vs) sc (block x.body.items)) (sym o) ∙ g.0) g.1 l c)

-- An error in the next arm is one in all arms.
pub arms_stop : (h : Setting) (called : Called) (bound : Bool) (ws : List VarInfo) (k : ℕ) (sc : Scope) (xs : List Arm) (done : List (Cond × Acts)) (vs : List VarInfo) (m : ℕ) (i : ℕ) (x : Arm) (inner : Bool) (e : ResolveStop) (q : Cond × Acts) (d : Arms) → ArmsRead h called bound ws k sc (arms xs) done vs m (arms (drop i xs)) → i < length xs → x ≡ get_or xs i x → inner ≡ (bound || arms_bind (arms (drop (i + 1) xs))) → Gives arm_of (Err e) (closed_findings Demand.Truth (length vs) sc (expression x.guard) ++ block_findings h called inner (length vs) sc (block x.body.items)) q → Gives arms_view (Err e) (arms_findings h called bound (length ws) sc (arms xs)) d
arms_stop h called bound ws k sc xs done vs m i x inner e q d b lt is o g =
    let rest = arms (drop (i + 1) xs) in
    let found = λ (t : Bool). closed_findings Demand.Truth (length vs) sc (expression x.guard) ++ block_findings h called t (length vs) sc (block x.body.items) in
    let further = arms_findings h called bound (length vs + length (locals_of_block (block x.body.items))) sc rest in
    let r = arms_at h called bound ws k sc xs done vs m i x b lt is in
    stops_at arms_view arms_view e (found inner ++ further) (arms_findings h called bound (length ws) sc (arms xs)) d d (r.found ∙ ap (λ t. found t ++ further) (sym o)) (stops arm_of arms_view e (found inner) further q d g)

pub arms_end_read : (h : Setting) (called : Called) (bound : Bool) (ws : List VarInfo) (k : ℕ) (sc : Scope) (xs : List Arm) (done : List (Cond × Acts)) (vs : List VarInfo) (m : ℕ) (i : ℕ) → ArmsRead h called bound ws k sc (arms xs) done vs m (arms (drop i xs)) → length xs ≤ i → ArmsRead h called bound ws k sc (arms xs) done vs m text.Arms.no_arm
arms_end_read h called bound ws k sc xs done vs m i b over = subst (λ r. ArmsRead h called bound ws k sc (arms xs) done vs m r) (arms_end xs i over) b

pub arms_give : (h : Setting) (called : Called) (bound : Bool) (ws : List VarInfo) (k : ℕ) (sc : Scope) (whole : text.Arms) (done : List (Cond × Acts)) (vs : List VarInfo) (m : ℕ) → ArmsRead h called bound ws k sc whole done vs m text.Arms.no_arm → (arms_findings h called bound (length ws) sc whole ≡ []) × (armed done ≡ arms_acts h called (length ws) k sc whole)
arms_give h called bound ws k sc whole done vs m b = (b.found, sym (b.made ∙ arms_then_none done))
