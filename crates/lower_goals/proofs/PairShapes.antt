-- The program's test of two procedures is that they are an omega pair.
use Rattle.std.proofs.Common.{◌≡◌, ◌∙◌, ◌<◌, ◌≤◌, ◌+◌, ℕ, refl, sym, ap, arith, List, [], ◌∷◌, ◌++◌, map, length, take, drop, get_or}
use Rattle.std.proofs.lemmas.List.{length-map, length-drop, length-take}
use Rattle.std.specs.List.{take-map}
use Rattle.std.specs.Prelude.{Option, Some, None, Vec}
use Rattle.std.specs.declared.alloc.Global.{Global}
use Prim.Native.Nat.{zero, suc}
use Rattle.heylo_formula.specs.Typing.{types_in}
use Rattle.heylo_formula.specs.declared.types.Ty.{Ty}
use Rattle.heyvl_acts.specs.Acts.{Head, Variable, type_list, types_of, variables}
use Rattle.heyvl_acts.specs.PlainActs.{body_of, procedure_of, variable_of}
use Rattle.heyvl_acts.specs.Rules.{IsCounted}
use Rattle.heyvl_acts.specs.declared.acts.Act as A
use Rattle.heyvl_acts.specs.declared.typed_trees.TProc.{TProc}
use Rattle.heyvl_acts.specs.declared.typed_trees.VarInfo.{VarInfo}
use Rattle.vp_generator.specs.PrenexedGoals.{types_of_variables}
use Rattle.loop_encodings.proofs.exported.OwnVariables.{own_variables}
use Rattle.lower_goals.specs.OmegaPairs.{IsOmegaPair}
use Rattle.lower_goals.specs.internal.Pairs.{IsBare, wanted}
use Rattle.made_goals.proofs.exported.MadeGoals.{same_types}

-- ---- Bodies and outputs

body_none : (b : Option (Vec A.Act Global)) → body_of b ≡ None → b ≡ None
body_none None e = refl
body_none (Some acts) e = absurd (cc)

none_taken : (xs : List Variable) (n m : ℕ) → m + n ≤ length xs → take n (drop m xs) ≡ [] → n ≡ 0
none_taken xs zero m h e = refl
none_taken xs (suc n) m h e = absurd (some (drop m xs) (let l = length-drop m xs in omega (arith, l, h)) e)
  where
    some : (ys : List Variable) → 0 < length ys → take (suc n) ys ≡ [] → ⊥
    some [] l k = omega (arith, l)
    some (y ∷ ys) l k = absurd (cc)

taken_none : (xs : List Variable) (n : ℕ) → n ≡ 0 → take n xs ≡ []
taken_none xs n e = ap (λ k. take k xs) e ∙ none xs
  where
    none : (ys : List Variable) → take 0 ys ≡ []
    none [] = refl
    none (y ∷ ys) = refl

-- ---- Inputs

own_types : (x : TProc) → type_list (variables (procedure_of x)) ≡ types_of_variables x.vars.items
own_types x = ap type_list (own_variables x) ∙ same_types x.vars.items

input_types : (x : TProc) → type_list (procedure_of x).inputs ≡ types_of_variables (take x.inputs x.vars.items)
input_types x = ap type_list (take-map variable_of x.inputs x.vars.items) ∙ same_types (take x.inputs x.vars.items)

wanted_is : (x : TProc) (scope : List ℕ) → map (types_of (procedure_of x)) scope ++ Ty.UInt ∷ [] ≡ wanted x.vars.items scope
wanted_is x scope = ap (λ ts. map (types_in ts) scope ++ Ty.UInt ∷ []) (own_types x)

-- ---- The pair

module _ (x y : TProc) (h : Head) (counted : IsCounted y) where
  pub is_omega_pair : IsBare y → types_of_variables (take y.inputs y.vars.items) ≡ wanted x.vars.items h.scope → IsOmegaPair (procedure_of x) h (procedure_of y)
  is_omega_pair b e = record {
    proc = b.proc;
    bodiless = ap body_of b.bodiless;
    no_outputs = taken_none (drop y.inputs (map variable_of y.vars.items)) y.outputs b.no_outputs;
    inputs = input_types y ∙ (e ∙ sym (wanted_is x h.scope));
  }

  pub is_bare : IsOmegaPair (procedure_of x) h (procedure_of y) → IsBare y
  is_bare o = record {
    proc = o.proc;
    bodiless = body_none y.body o.bodiless;
    no_outputs = none_taken (map variable_of y.vars.items) y.outputs y.inputs (let l = length-map y.vars.items variable_of in omega (arith, l, counted)) o.no_outputs;
  }

  pub are_wanted : IsOmegaPair (procedure_of x) h (procedure_of y) → types_of_variables (take y.inputs y.vars.items) ≡ wanted x.vars.items h.scope
  are_wanted o = sym (input_types y) ∙ (o.inputs ∙ wanted_is x h.scope)

-- ---- Types, one by one

abbrev behind_first : List Ty → List Ty
behind_first [] = []
behind_first (t ∷ ts) = ts

abbrev first_of : Ty → List Ty → Ty
first_of d [] = d
first_of d (t ∷ ts) = t

-- The inputs that are left have the types required of them exactly if all inputs have theirs.
pub record AreLeft (own : List VarInfo) (inputs : List VarInfo) (scope : List ℕ) (rest : List VarInfo) (left : List ℕ) : Type 0 where
  pub all : types_of_variables rest ≡ wanted own left → types_of_variables inputs ≡ wanted own scope
  pub some : types_of_variables inputs ≡ wanted own scope → types_of_variables rest ≡ wanted own left

pub none_left : (own inputs rest : List VarInfo) (scope left : List ℕ) → rest ≡ inputs → left ≡ scope → AreLeft own inputs scope rest left
none_left own inputs rest scope left e f = record { all = λ k. sym (ap types_of_variables e) ∙ (k ∙ ap (λ xs. wanted own xs) f); some = λ k. ap types_of_variables e ∙ (k ∙ ap (λ xs. wanted own xs) (sym f)) }

pub one_less : (own inputs : List VarInfo) (scope : List ℕ) (rest more : List VarInfo) (v : VarInfo) (left less : List ℕ) (x : ℕ) → rest ≡ v ∷ more → left ≡ x ∷ less → v.ty ≡ types_in (types_of_variables own) x → AreLeft own inputs scope rest left → AreLeft own inputs scope more less
one_less own inputs scope rest more v left less x e f t h = record {
  all = λ k. h.all (ap types_of_variables e ∙ (ap (λ u. u ∷ types_of_variables more) t ∙ (ap (λ l. types_in (types_of_variables own) x ∷ l) k ∙ ap (λ xs. wanted own xs) (sym f))));
  some = λ k. ap behind_first (sym (ap types_of_variables e) ∙ (h.some k ∙ ap (λ xs. wanted own xs) f));
}

pub no_input : (own inputs : List VarInfo) (scope : List ℕ) (rest : List VarInfo) (left : List ℕ) → rest ≡ [] → AreLeft own inputs scope rest left → types_of_variables inputs ≡ wanted own scope → ⊥
no_input own inputs scope rest left e h k = none left (sym (ap types_of_variables e) ∙ h.some k)
  where
    none : (xs : List ℕ) → [] ≡ wanted own xs → ⊥
    none [] f = absurd (cc)
    none (x ∷ xs) f = absurd (cc)

pub other_type : (own inputs : List VarInfo) (scope : List ℕ) (rest more : List VarInfo) (v : VarInfo) (left less : List ℕ) (x : ℕ) → rest ≡ v ∷ more → left ≡ x ∷ less → (v.ty ≡ types_in (types_of_variables own) x → ⊥) → AreLeft own inputs scope rest left → types_of_variables inputs ≡ wanted own scope → ⊥
other_type own inputs scope rest more v left less x e f n h k = n (ap (λ ts. first_of Ty.Bool ts) (sym (ap types_of_variables e) ∙ (h.some k ∙ ap (λ xs. wanted own xs) f)))

pub type_at : (vs : List VarInfo) (x : ℕ) (v : VarInfo) → x < length vs → v ≡ get_or vs x v → v.ty ≡ types_in (types_of_variables vs) x
type_at [] x v l is = absurd (omega (arith, l))
type_at (u ∷ vs) zero v l is = ap (λ (w : VarInfo). w.ty) is
type_at (u ∷ vs) (suc x) v l is = type_at vs x v (omega (arith, l)) is

-- ---- The last input

none_taken_of : (xs : List Variable) (n k : ℕ) → length xs ≡ 0 → length (take n xs) ≡ suc k → ⊥
none_taken_of xs n k h e = let l = length-take n xs in absurd (omega (arith, l, h, e))

last_left : (xs : List Variable) (n k : ℕ) (x : Variable) → length (take n xs) ≡ suc k → x ≡ get_or xs k x → drop k (take n xs) ≡ x ∷ []
last_left [] n k x e is = absurd (none_taken_of [] n k refl e)
last_left (y ∷ xs) zero k x e is = absurd (omega (arith, e))
last_left (y ∷ xs) (suc n) zero x e is = ap (λ l. y ∷ l) (empty (take n xs) (omega (arith, e))) ∙ ap (λ v. v ∷ []) (sym is)
  where
    empty : (l : List Variable) → length l ≡ 0 → l ≡ []
    empty [] e = refl
    empty (z ∷ l) e = absurd (omega (arith, e))
last_left (y ∷ xs) (suc n) (suc k) x e is = last_left xs n k x (omega (arith, e)) is

variable_at : (vs : List VarInfo) (k : ℕ) (v : VarInfo) → k < length vs → v ≡ get_or vs k v → variable_of v ≡ get_or (map variable_of vs) k (variable_of v)
variable_at [] k v l is = absurd (omega (arith, l))
variable_at (u ∷ vs) zero v l is = ap variable_of is
variable_at (u ∷ vs) (suc k) v l is = variable_at vs k v (omega (arith, l)) is

pub goal_variables_are : (x y : TProc) (h : Head) (own : List VarInfo) (all : List VarInfo) (v last : VarInfo) → length (procedure_of y).inputs ≡ suc (length h.scope) → length h.scope < length y.vars.items → v ≡ get_or y.vars.items (length h.scope) v → map variable_of own ≡ map variable_of x.vars.items → variable_of last ≡ variable_of v → all ≡ own ++ last ∷ [] → map variable_of all ≡ variables (procedure_of x) ++ drop (length h.scope) (procedure_of y).inputs
goal_variables_are x y h own all v last l lt is e f a =
    ap (λ vs. map variable_of vs) a
    ∙ (behind own
    ∙ (ap (λ us. us ++ variable_of last ∷ []) (e ∙ sym (own_variables x))
    ∙ (ap (λ u. variables (procedure_of x) ++ u ∷ []) f
    ∙ ap (λ us. variables (procedure_of x) ++ us) (sym (last_left (map variable_of y.vars.items) y.inputs (length h.scope) (variable_of v) l (variable_at y.vars.items (length h.scope) v lt is))))))
  where
    behind : (vs : List VarInfo) → map variable_of (vs ++ last ∷ []) ≡ map variable_of vs ++ variable_of last ∷ []
    behind [] = refl
    behind (u ∷ vs) = ap (λ l. variable_of u ∷ l) (behind vs)

pub last_there : (y : TProc) (n : ℕ) → length (procedure_of y).inputs ≡ suc n → n < length y.vars.items
last_there y n h =
    let e = length-take y.inputs (map variable_of y.vars.items) in
    let m = length-map y.vars.items variable_of in
    omega (arith, e, m, h)
