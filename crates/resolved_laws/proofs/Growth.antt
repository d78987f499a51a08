-- The numbers of the visible variables grow in the order of the declarations, and are below that of
-- the next variable.
use Rattle.heyvl_acts.specs.Rules.{GrowBelow, counted}
use Rattle.heyvl_places.specs.declared.spans.Span.{Span}
use Rattle.heyvl_syntax.specs.Statements.{RightSide, Statement}
use Rattle.heyvl_syntax.specs.declared.procedures.Param.{Param}
use Rattle.heyvl_syntax.specs.declared.types.TypeName.{TypeName}
use Rattle.static_rules.proofs.exported.Findings.{all_kept, back_none, front_none}
use Rattle.static_rules.specs.Files.{parameters_findings}
use Rattle.static_rules.specs.StatementRules.{statement_findings, value_findings, var_rules}
use Rattle.static_rules.specs.Variables.{behind, behind_parameters, locals}
use Rattle.static_rules.specs.declared.settings.Setting.{Setting}
use Rattle.std.proofs.Common.{Bool, List, None, Option, Some, [], ap, append_assoc, arith, false, refl, subst, suc, sym, zero, ◌++◌, ◌+◌, ◌<◌, ◌∙◌, ◌≡◌, ◌≤◌, ◌∷◌, ℕ}
use Rattle.std.proofs.lemmas.List.{append-nil}
use Rattle.std.specs.Option.{is_none}
use Rattle.std.specs.Prelude.{length}
use Rattle.typed_expressions.proofs.exported.ScopeEntries.{last_local}
use Rattle.typed_expressions.specs.Findings.{at}
use Rattle.typed_expressions.specs.Scopes.{Scope, is_visible, numbers, with_local}
use Rattle.typed_expressions.specs.Signatures.{Called}
use Rattle.typed_expressions.specs.Table.{declarable}
use Rattle.typed_expressions.specs.declared.scopes.Local.{Local}

pub grow_more : (from below more : ℕ) (xs : List ℕ) → GrowBelow from below xs → below ≤ more → GrowBelow from more xs
grow_more from below more [] g l = tt
grow_more from below more (x ∷ xs) g l = ((g.0.0, let i : x < below = g.0.1 in omega arith), grow_more (suc x) below more xs g.1 l)

grow_push : (from n : ℕ) (xs : List ℕ) → from ≤ n → GrowBelow from n xs → GrowBelow from (suc n) (xs ++ n ∷ [])
grow_push from n [] l g = ((l, omega arith), tt)
grow_push from n (x ∷ xs) l g = ((g.0.0, let i : x < n = g.0.1 in omega arith), grow_push (suc x) n xs g.0.1 g.1)

-- A new name is last in the scope.
pub numbers_with : (x : List ℕ) (l : Local) (sc : Scope) → is_visible sc x ≡ false → numbers (with_local x l sc) ≡ numbers sc ++ l.number ∷ []
numbers_with x l sc e = ap numbers (last_local x l sc e) ∙ pushed sc
  where
    pushed : (sc : Scope) → numbers (sc ++ (x, l) ∷ []) ≡ numbers sc ++ l.number ∷ []
    pushed [] = refl
    pushed (e ∷ es) = ap (λ r. e.1.number ∷ r) (pushed es)

-- A declared name is new.
pub new_name : (h : Setting) (called : Called) (n : ℕ) (sc : Scope) (x : List ℕ) (t : TypeName) (r : Option RightSide) (s : Span) → at s (var_rules h called n sc x t r) ≡ [] → is_visible sc x ≡ false
new_name h called n sc x t None s f = (all_kept s (var_rules h called n sc x t None) f).0
new_name h called n sc x t (Some r) s f = (all_kept s (var_rules h called n sc x t (Some r)) f).1.0

one_more : (n : ℕ) → n + 1 ≡ suc n
one_more n = omega arith

pub grown_behind : (h : Setting) (called : Called) (bound : Bool) (n : ℕ) (sc : Scope) (s : Statement) → statement_findings h called bound n sc s ≡ [] → GrowBelow 0 n (numbers sc) → GrowBelow 0 (n + length (locals s)) (numbers (behind n sc s))
grown_behind h called bound n sc (Statement.var x t r s) f g =
    rw (one_more n, numbers_with x (record { number = n; ty = t }) sc (new_name h called n sc x t r s (back_none (value_findings n sc r) _ f))) (grow_push 0 n (numbers sc) (omega arith) g)
grown_behind h called bound n sc s f g = grow_more 0 n (n + length (locals s)) (numbers sc) g (omega arith)

-- The numbers of parameters are consecutive.
pub numbers_of_parameters : (n : ℕ) (sc : Scope) (ps : List Param) → parameters_findings n sc ps ≡ [] → numbers (behind_parameters n sc ps) ≡ numbers sc ++ counted n (length ps)
numbers_of_parameters n sc [] f = sym (append-nil (numbers sc))
numbers_of_parameters n sc (p ∷ ps) f =
    numbers_of_parameters (suc n) (with_local p.name (record { number = n; ty = p.ty }) sc) ps (back_none _ _ f)
    ∙ (ap (λ r. r ++ counted (suc n) (length ps)) (numbers_with p.name (record { number = n; ty = p.ty }) sc (all_kept p.span ((11, is_visible sc p.name) ∷ (12, is_none (declarable p.ty)) ∷ []) (front_none _ _ f)).0)
    ∙ append_assoc (numbers sc) (n ∷ []) (counted (suc n) (length ps)))

-- Consecutive numbers grow.
pub counted_grow : (n k : ℕ) → GrowBelow n (n + k) (counted n k)
counted_grow n zero = tt
counted_grow n (suc k) = ((omega arith, omega arith), subst (λ b. GrowBelow (suc n) b (counted (suc n) k)) (moved n k) (counted_grow (suc n) k))
  where
    moved : (n k : ℕ) → suc n + k ≡ n + suc k
    moved n k = omega arith
