-- Blocks and arms, read up to a rest.
use Rattle.heylo_formula.specs.Formula.{Cond}
use Rattle.heyvl_syntax.specs.Expressions.{Expression}
use Rattle.heyvl_syntax.specs.Statements.{Block, Statement}
use Rattle.heyvl_syntax.specs.Statements as text
use Rattle.heyvl_types.proofs.Havocs.{join_assoc}
use Rattle.heyvl_acts.specs.Acts.{Acts, Arms, Variable, join}
use Rattle.heyvl_acts.specs.PlainActs.{armed, variable_of}
use Rattle.typed_expressions.specs.Scopes.{Scope}
use Rattle.typed_expressions.specs.Signatures.{Called}
use Rattle.static_rules.specs.StatementActs.{arms_acts, block_acts, loops, loops_of_arms, loops_of_block, statement_acts}
use Rattle.typed_expressions.specs.Values.{condition}
use Rattle.static_rules.specs.StatementRules.{arms_bind, arms_findings, block_binds, block_findings, statement_findings}
use Rattle.typed_expressions.specs.TypedExpressions.{closed_findings, elaborate}
use Rattle.static_rules.specs.Variables.{behind, locals, locals_of_arms, locals_of_block}
use Rattle.typed_expressions.specs.declared.demands.Demand.{Demand}
use Rattle.static_rules.specs.declared.settings.Setting.{Setting}
use Rattle.heyvl_acts.specs.declared.typed_trees.VarInfo.{VarInfo}
use Rattle.std.proofs.Common.{Bool, List, [], ap, append_assoc, arith, length, map, refl, sym, take, ◌++◌, ◌+◌, ◌||◌, ◌∙◌, ◌≡◌, ◌∷◌, ℕ}
use Rattle.std.proofs.lemmas.List.{length-append, length-map}

-- The number of variables after further ones.
pub counted : (vs ws : List VarInfo) (ls : List Variable) → map variable_of ws ≡ map variable_of vs ++ ls → length ws ≡ length vs + length ls
counted vs ws ls e = sym (length-map ws variable_of) ∙ (ap length e ∙ (length-append (map variable_of vs) ls ∙ ap (λ n. n + length ls) (length-map vs variable_of)))

-- The numbers of present and further variables.
pub as_many : (ws vs : List VarInfo) (a b c : List Variable) → map variable_of ws ++ a ≡ map variable_of vs ++ (b ++ c) → length ws + length a ≡ length vs + (length b + length c)
as_many ws vs a b c e =
    let l = ap length e in
    let x = length-append (map variable_of ws) a in
    let y = length-append (map variable_of vs) (b ++ c) in
    let z = length-append b c in
    let n : length (map variable_of ws) ≡ length ws = length-map ws variable_of in
    let m : length (map variable_of vs) ≡ length vs = length-map vs variable_of in
    omega (arith, l, x, y, z, n, m)

-- ---- Scopes

-- The first variables remain when others are added.
pub still_first : (a b c : Scope) → take (length a) b ≡ a → take (length b) c ≡ b → take (length a) c ≡ a
still_first [] b c h k = refl
still_first (x ∷ a) [] c h k = absurd (cc)
still_first (x ∷ a) (y ∷ b) [] h k = absurd (cc)
still_first (x ∷ a) (y ∷ b) (z ∷ c) h k =
    let p : y ≡ x = cc in
    let q : z ≡ y = cc in
    let h2 : take (length a) b ≡ a = cc in
    let k2 : take (length b) c ≡ b = cc in
    ap (λ r. r ∷ take (length a) c) (q ∙ p) ∙ ap (λ r. x ∷ r) (still_first a b c h2 k2)

-- ---- Blocks

-- The block `whole` is read up to `rest`: the findings, acts, variables and loops of `whole` are
-- those so far and those of `rest`.
pub record BlockRead (h : Setting) (called : Called) (bound : Bool) (ws : List VarInfo) (k : ℕ) (whole_scope : Scope) (whole : Block) (acts : Acts) (vs : List VarInfo) (m : ℕ) (sc : Scope) (rest : Block) : Type 0 where
  pub found : block_findings h called bound (length ws) whole_scope whole ≡ block_findings h called bound (length vs) sc rest
  pub made : block_acts h called (length ws) k whole_scope whole ≡ join acts (block_acts h called (length vs) m sc rest)
  pub listed : map variable_of ws ++ locals_of_block whole ≡ map variable_of vs ++ locals_of_block rest
  pub numbered : k + loops_of_block whole ≡ m + loops_of_block rest
  pub kept : take (length whole_scope) sc ≡ whole_scope

-- One more statement is read.
pub block_step : (h : Setting) (called : Called) (bound : Bool) (ws : List VarInfo) (k : ℕ) (wsc : Scope) (whole : Block) (acts : Acts) (vs : List VarInfo) (m : ℕ) (sc : Scope) (s : Statement) (rest : Block) (more : Acts) (us : List VarInfo) (j : ℕ) (tc : Scope) → BlockRead h called bound ws k wsc whole acts vs m sc (Block.next s rest) → statement_findings h called (bound || block_binds rest) (length vs) sc s ≡ [] → more ≡ statement_acts h called (length vs) m sc s → tc ≡ behind (length vs) sc s → take (length sc) tc ≡ sc → map variable_of us ≡ map variable_of vs ++ locals s → j ≡ m + loops s → BlockRead h called bound ws k wsc whole (join acts more) us j tc rest
block_step h called bound ws k wsc whole acts vs m sc s rest more us j tc b f a t p l c =
    let n = counted vs us (locals s) l in
    record {
      found = b.found ∙ (ap (λ x. x ++ block_findings h called bound (length vs + length (locals s)) (behind (length vs) sc s) rest) f ∙ (ap (λ x. block_findings h called bound x (behind (length vs) sc s) rest) (sym n) ∙ ap (λ x. block_findings h called bound (length us) x rest) (sym t)));
      made = b.made ∙ (ap (λ x. join acts (join x (block_acts h called (length vs + length (locals s)) (m + loops s) (behind (length vs) sc s) rest))) (sym a) ∙ (sym (join_assoc acts more _) ∙ (ap (λ x. join (join acts more) (block_acts h called x (m + loops s) (behind (length vs) sc s) rest)) (sym n) ∙ (ap (λ x. join (join acts more) (block_acts h called (length us) x (behind (length vs) sc s) rest)) (sym c) ∙ ap (λ x. join (join acts more) (block_acts h called (length us) j x rest)) (sym t)))));
      listed = b.listed ∙ (sym (append_assoc (map variable_of vs) (locals s) (locals_of_block rest)) ∙ ap (λ x. x ++ locals_of_block rest) (sym l));
      numbered = let e = b.numbered in omega (arith, e, c);
      kept = still_first wsc sc tc b.kept p;
    }

-- ---- Arms

-- Arms, then further ones.
abbrev pub arms_then : List (Cond × Acts) → Arms → Arms
arms_then [] rest = rest
arms_then (x ∷ xs) rest = Arms.arm x.0 x.1 (arms_then xs rest)

-- The arms `whole` are read up to `rest`.
pub record ArmsRead (h : Setting) (called : Called) (bound : Bool) (ws : List VarInfo) (k : ℕ) (sc : Scope) (whole : text.Arms) (done : List (Cond × Acts)) (vs : List VarInfo) (m : ℕ) (rest : text.Arms) : Type 0 where
  pub found : arms_findings h called bound (length ws) sc whole ≡ arms_findings h called bound (length vs) sc rest
  pub made : arms_acts h called (length ws) k sc whole ≡ arms_then done (arms_acts h called (length vs) m sc rest)
  pub listed : map variable_of ws ++ locals_of_arms whole ≡ map variable_of vs ++ locals_of_arms rest
  pub numbered : k + loops_of_arms whole ≡ m + loops_of_arms rest

pub arms_then_none : (xs : List (Cond × Acts)) → arms_then xs Arms.no_arm ≡ armed xs
arms_then_none [] = refl
arms_then_none (x ∷ xs) = ap (λ r. Arms.arm x.0 x.1 r) (arms_then_none xs)

arms_then_one : (xs : List (Cond × Acts)) (x : Cond × Acts) (rest : Arms) → arms_then (xs ++ x ∷ []) rest ≡ arms_then xs (Arms.arm x.0 x.1 rest)
arms_then_one [] x rest = refl
arms_then_one (y ∷ xs) x rest = ap (λ r. Arms.arm y.0 y.1 r) (arms_then_one xs x rest)

-- One more arm is read.
pub arms_step : (h : Setting) (called : Called) (bound : Bool) (ws : List VarInfo) (k : ℕ) (sc : Scope) (whole : text.Arms) (done : List (Cond × Acts)) (vs : List VarInfo) (m : ℕ) (g : Expression) (b : Block) (rest : text.Arms) (x : Cond × Acts) (us : List VarInfo) (j : ℕ) → ArmsRead h called bound ws k sc whole done vs m (text.Arms.arm g b rest) → closed_findings Demand.Truth (length vs) sc g ++ block_findings h called (bound || arms_bind rest) (length vs) sc b ≡ [] → x ≡ (condition (elaborate (length vs) sc g), block_acts h called (length vs) m sc b) → map variable_of us ≡ map variable_of vs ++ locals_of_block b → j ≡ m + loops_of_block b → ArmsRead h called bound ws k sc whole (done ++ x ∷ []) us j rest
arms_step h called bound ws k sc whole done vs m g b rest x us j r f a l c =
    let n = counted vs us (locals_of_block b) l in
    record {
      found = r.found ∙ (ap (λ y. y ++ arms_findings h called bound (length vs + length (locals_of_block b)) sc rest) f ∙ ap (λ y. arms_findings h called bound y sc rest) (sym n));
      made = r.made ∙ (ap (λ y. arms_then done (Arms.arm y.0 y.1 (arms_acts h called (length vs + length (locals_of_block b)) (m + loops_of_block b) sc rest))) (sym a) ∙ (sym (arms_then_one done x _) ∙ (ap (λ y. arms_then (done ++ x ∷ []) (arms_acts h called y (m + loops_of_block b) sc rest)) (sym n) ∙ ap (λ y. arms_then (done ++ x ∷ []) (arms_acts h called (length us) y sc rest)) (sym c))));
      listed = r.listed ∙ (sym (append_assoc (map variable_of vs) (locals_of_block b) (locals_of_arms rest)) ∙ ap (λ y. y ++ locals_of_arms rest) (sym l));
      numbered = let e = r.numbered in omega (arith, e, c);
    }
