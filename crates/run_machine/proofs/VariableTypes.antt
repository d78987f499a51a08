-- The types of a procedure's variables, by number.
use Rattle.std.proofs.Common.{◌≡◌, ℕ, ◌<◌, ◌≤◌, refl, ap, sym, ◌∙◌, arith, List, [], ◌∷◌, ◌++◌, length, map, take, drop, get_or}
use Rattle.std.proofs.lemmas.List.{drop-drop, take-append-drop}
use Prim.Native.Nat.{zero, suc}
use Rattle.heylo_formula.specs.Typing.{types_in}
use Rattle.heylo_formula.specs.declared.types.Ty.{Ty}
use Rattle.heyvl_acts.specs.declared.typed_trees.TProc.{TProc}
use Rattle.heyvl_acts.specs.declared.typed_trees.VarInfo.{VarInfo}
use Rattle.heyvl_acts.specs.Acts.{type_list, types_of, variables}
use Rattle.heyvl_acts.specs.PlainActs.{procedure_of, variable_of}

all_variables : (p : TProc) → variables (procedure_of p) ≡ map variable_of p.vars.items
all_variables p =
    ap (λ l. take p.inputs (map variable_of p.vars.items) ++ (take p.outputs (drop p.inputs (map variable_of p.vars.items)) ++ l)) (sym (drop-drop p.outputs p.inputs (map variable_of p.vars.items)))
    ∙ ap (λ l. take p.inputs (map variable_of p.vars.items) ++ l) (take-append-drop p.outputs (drop p.inputs (map variable_of p.vars.items)))
    ∙ take-append-drop p.inputs (map variable_of p.vars.items)

type_there : (vs : List VarInfo) (x : ℕ) (v : VarInfo) → x < length vs → v ≡ get_or vs x v → v.ty ≡ types_in (type_list (map variable_of vs)) x
type_there [] x v lt e = absurd (omega (arith, lt))
type_there (w ∷ vs) zero v lt e = ap (λ u. u.ty) e
type_there (w ∷ vs) (suc x) v lt e = type_there vs x v (omega (arith, lt)) e

type_past : (vs : List VarInfo) (x : ℕ) → length vs ≤ x → Ty.Bool ≡ types_in (type_list (map variable_of vs)) x
type_past [] x over = refl
type_past (w ∷ vs) zero over = absurd (omega (arith, over))
type_past (w ∷ vs) (suc x) over = type_past vs x (omega (arith, over))

pub variable_type : (p : TProc) (x : ℕ) (v : VarInfo) → x < length p.vars.items → v ≡ get_or p.vars.items x v → v.ty ≡ types_of (procedure_of p) x
variable_type p x v lt e = type_there p.vars.items x v lt e ∙ sym (ap (λ l. types_in (type_list l) x) (all_variables p))

pub no_variable : (p : TProc) (x : ℕ) → length p.vars.items ≤ x → Ty.Bool ≡ types_of (procedure_of p) x
no_variable p x over = type_past p.vars.items x over ∙ sym (ap (λ l. types_in (type_list l) x) (all_variables p))
