-- The indices of variables in the list of a procedure's variables, and their types.
use Rattle.heylo_formula.specs.Typing.{types_in}
use Rattle.heylo_formula.specs.declared.types.Ty.{Ty}
use Rattle.heyvl_acts.specs.Acts.{Variable, type_list}
use Rattle.heyvl_syntax.specs.declared.types.TypeName.{TypeName}
use Rattle.std.proofs.Common.{List, None, Option, Some, [], ap, append_assoc, arith, false, inl, inr, length, length-append, refl, suc, sym, ◌+◌, ◌++◌, ◌<◌, ◌∙◌, ◌∷◌, ◌≡◌, ◌≤◌, ◌⊎◌, ℕ}
use Rattle.std.specs.Option.{is_none}
use Rattle.typed_expressions.proofs.exported.TypedMeanings.{found_with}
use Rattle.typed_expressions.specs.DeclaredVariables.{declared, type_or_bool}
use Rattle.typed_expressions.specs.ExpressionLaws.{Agrees}
use Rattle.typed_expressions.specs.Scopes.{Scope, find, with_local}
use Rattle.typed_expressions.specs.Table.{declarable}
use Rattle.typed_expressions.specs.declared.scopes.Local.{Local}

-- The variables `ls` are in the list `vs` from the index `n` on.
pub record Stands (vs : List Variable) (n : ℕ) (ls : List Variable) : Type 0 where
  pub before : List Variable
  pub behind : List Variable
  pub whole : vs ≡ before ++ (ls ++ behind)
  pub number : n ≡ length before

pub stands_front : (vs : List Variable) (n : ℕ) (ks ls : List Variable) → Stands vs n (ks ++ ls) → Stands vs n ks
stands_front vs n ks ls h = record { before = h.before; behind = ls ++ h.behind; whole = h.whole ∙ ap (λ x. h.before ++ x) (append_assoc ks ls h.behind); number = h.number }

pub stands_back : (vs : List Variable) (n : ℕ) (ks ls : List Variable) → Stands vs n (ks ++ ls) → Stands vs (n + length ks) ls
stands_back vs n ks ls h = record {
  before = h.before ++ ks;
  behind = h.behind;
  whole = h.whole ∙ ap (λ x. h.before ++ x) (append_assoc ks ls h.behind) ∙ sym (append_assoc h.before ks (ls ++ h.behind));
  number = let e = h.number in omega (arith, length-append h.before ks);
}

pub stands_next : (vs : List Variable) (n : ℕ) (v : Variable) (ls : List Variable) → Stands vs n (v ∷ ls) → Stands vs (suc n) ls
stands_next vs n v ls h = record {
  before = h.before ++ (v ∷ []);
  behind = h.behind;
  whole = h.whole ∙ sym (append_assoc h.before (v ∷ []) (ls ++ h.behind));
  number = let e = h.number in omega (arith, length-append h.before (v ∷ []));
}

pub stands_at : (vs : List Variable) (n k : ℕ) (ls : List Variable) → n ≡ k → Stands vs n ls → Stands vs k ls
stands_at vs n k ls e h = record { before = h.before; behind = h.behind; whole = h.whole; number = sym e ∙ h.number }

type_there : (before : List Variable) (v : Variable) (behind : List Variable) → types_in (type_list (before ++ (v ∷ behind))) (length before) ≡ v.ty
type_there [] v behind = refl
type_there (w ∷ before) v behind = type_there before v behind

-- The type at the index `n` is that of the first of them.
pub type_at : (vs : List Variable) (n : ℕ) (v : Variable) (ls : List Variable) → Stands vs n (v ∷ ls) → types_in (type_list vs) n ≡ v.ty
type_at vs n v ls h = rw (h.number, h.whole) (type_there h.before v (ls ++ h.behind))

pub stands_within : (vs : List Variable) (n : ℕ) (ls : List Variable) → Stands vs n ls → n + length ls ≤ length vs
stands_within vs n ls h = let e = h.number in let w = ap length h.whole in omega (arith, length-append h.before (ls ++ h.behind), length-append ls h.behind)

-- ---- Scopes

pub agrees_up : {types : ℕ → Ty} (n k : ℕ) (sc : Scope) → n ≤ k → Agrees types n sc → Agrees types k sc
agrees_up n k sc h g = record { declared = g.declared; below = λ x l e. let i = g.below x l e in omega (arith, i) }

-- The scope with one more variable of its declared type.
pub agrees_with : {types : ℕ → Ty} (n k : ℕ) (sc : Scope) (x : List ℕ) (t : TypeName) → n < k → declarable t ≡ Some (types n) → Agrees types n sc → Agrees types k (with_local x (record { number = n; ty = t }) sc)
agrees_with {types} n k sc x t i d h = record { declared = λ y m e. p y m (found_with x _ sc y m e); below = λ y m e. q y m (found_with x _ sc y m e) }
  where
    p : (y : List ℕ) (m : Local) → (record { number = n; ty = t } ≡ m) ⊎ (find sc y ≡ Some m) → declarable m.ty ≡ Some (types m.number)
    p y m (inl e) = rw (sym e) d
    p y m (inr e) = h.declared y m e

    q : (y : List ℕ) (m : Local) → (record { number = n; ty = t } ≡ m) ⊎ (find sc y ≡ Some m) → m.number < k
    q y m (inl e) = let j : n ≡ m.number = ap (λ l. l.number) e in omega (arith, j, i)
    q y m (inr e) = let j = h.below y m e in omega (arith, j, i)

-- The type of a variable with a declarable type.
pub type_declared : (o : Option Ty) (ty : Ty) → ty ≡ type_or_bool o → is_none o ≡ false → o ≡ Some ty
type_declared None ty e h = absurd (cc)
type_declared (Some u) ty e h = ap Some (sym e)

pub declared_at : (vs : List Variable) (n : ℕ) (x : List ℕ) (t : TypeName) (ls : List Variable) → Stands vs n (declared x t ∷ ls) → is_none (declarable t) ≡ false → declarable t ≡ Some (types_in (type_list vs) n)
declared_at vs n x t ls s h = type_declared (declarable t) _ (type_at vs n (declared x t) ls s) h
