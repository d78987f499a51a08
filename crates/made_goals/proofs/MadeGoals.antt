-- Goals over the program's variables are goals over the same variables: names and types are the
-- same.
use Rattle.std.proofs.Common.{◌≡◌, ℕ, ◌<◌, ◌+◌, refl, sym, ap, ◌∙◌, arith, Bool, List, [], ◌∷◌, ◌++◌, append_assoc, map, length, get_or}
use Rattle.std.proofs.lemmas.List.{append-nil, length-append, length-map}
use Prim.Native.Nat.{zero, suc}
use Rattle.heylo_formula.specs.BinderNames.{Binder, binders}
use Rattle.heylo_formula.specs.Formula.{Form}
use Rattle.heylo_formula.specs.declared.goals.Made.{Made}
use Rattle.heylo_formula.specs.declared.goals.Made.TheVariants as made
use Rattle.heyvl_acts.specs.Acts.{Variable, type_list}
use Rattle.heyvl_acts.specs.PlainActs.{variable_of}
use Rattle.heyvl_acts.specs.declared.typed_trees.VarInfo.{VarInfo}
use Rattle.vp_generator.specs.PrenexedForms.{new_types}
use Rattle.vp_generator.specs.PrenexedGoals.{IsMade, IsMadeWithin, names_of_variables, prenexed_goal, types_of_variables}
use Rattle.heyvl_acts.specs.Rules.{AreNamed}
use Rattle.vp_generator.specs.Scopes.{name_of, named}
use Rattle.made_goals.specs.MadeGoals.{all_names, goal_over, names}

pub same_names : (vs : List VarInfo) → names (map variable_of vs) ≡ names_of_variables vs
same_names [] = refl
same_names (v ∷ vs) = ap (λ l. v.name ∷ l) (same_names vs)

pub same_types : (vs : List VarInfo) → type_list (map variable_of vs) ≡ types_of_variables vs
same_types [] = refl
same_types (v ∷ vs) = ap (λ l. v.ty ∷ l) (same_types vs)

name_at : (vs extra : List VarInfo) (x : ℕ) → x < length vs → name_of (vs ++ extra) x ≡ get_or (names_of_variables vs) x []
name_at [] extra x l = absurd (omega (arith, l))
name_at (v ∷ vs) extra zero l = refl
name_at (v ∷ vs) extra (suc x) l = name_at vs extra x (omega (arith, l))

name_behind : (vs : List VarInfo) (v : VarInfo) → names_of_variables (vs ++ v ∷ []) ≡ names_of_variables vs ++ v.name ∷ []
name_behind [] v = refl
name_behind (u ∷ vs) v = ap (λ l. u.name ∷ l) (name_behind vs v)

abbrev pub binder_name : List VarInfo → Binder → List ℕ
binder_name vs b = get_or (names_of_variables vs) b.0 []

named_names : (vs extra : List VarInfo) (bs : List Binder) → AreNamed (length vs) bs → names_of_variables (named (vs ++ extra) bs) ≡ names_of_variables (vs ++ extra) ++ map (λ b. binder_name vs b) bs
named_names vs extra [] h = sym (append-nil (names_of_variables (vs ++ extra)))
named_names vs extra (b ∷ bs) h =
    ap (λ l. names_of_variables (named l bs)) (append_assoc vs extra (new ∷ []))
    ∙ (named_names vs (extra ++ new ∷ []) bs h.1
    ∙ (ap (λ l. names_of_variables l ++ map (λ c. binder_name vs c) bs) (sym (append_assoc vs extra (new ∷ [])))
    ∙ (ap (λ l. l ++ map (λ c. binder_name vs c) bs) (name_behind (vs ++ extra) new ∙ ap (λ x. names_of_variables (vs ++ extra) ++ x ∷ []) (name_at vs extra b.0 h.0))
    ∙ append_assoc (names_of_variables (vs ++ extra)) (binder_name vs b ∷ []) (map (λ c. binder_name vs c) bs))))
  where
    new : VarInfo
    new = record { name = name_of (vs ++ extra) b.0; ty = b.1 }

pub all_are_named : (vs : List VarInfo) (bs : List Binder) → AreNamed (length vs) bs → names_of_variables (named vs bs) ≡ names_of_variables vs ++ map (λ b. binder_name vs b) bs
all_are_named vs bs h = ap (λ l. names_of_variables (named l bs)) (sym (append-nil vs)) ∙ (named_names vs [] bs h ∙ ap (λ l. names_of_variables l ++ map (λ b. binder_name vs b) bs) (append-nil vs))

made_over : (up : Bool) (vs : List VarInfo) (us : List Variable) (stated found : Form) → map variable_of vs ≡ us → AreNamed (length vs) (binders found) → prenexed_goal up (types_of_variables vs) (names_of_variables (named vs (binders found))) stated found ≡ goal_over up us stated found
made_over up vs us stated found e n = ap (λ t. prenexed_goal up t (names_of_variables (named vs (binders found))) stated found) types ∙ ap (λ l. prenexed_goal up (type_list us) l stated found) all
  where
    types : types_of_variables vs ≡ type_list us
    types = sym (same_types vs) ∙ ap type_list e

    own : names_of_variables vs ≡ names us
    own = sym (same_names vs) ∙ ap names e

    all : names_of_variables (named vs (binders found)) ≡ all_names us found
    all = all_are_named vs (binders found) n ∙ ap (λ l. l ++ map (λ (b : Binder). get_or l b.0 []) (binders found)) own

-- The limits are those of the computed form.
pub is_made_within : (up : Bool) (vs : List VarInfo) (us : List Variable) (stated found : Form) (m : Made) → map variable_of vs ≡ us → AreNamed (length vs) (binders found) → IsMade up stated found vs m → IsMadeWithin found (goal_over up us stated found) m
is_made_within up vs us stated found (made.Goal g) e n h = (h.0 ∙ made_over up vs us stated found e n, h.1)
is_made_within up vs us stated found made.Depth e n h = h
is_made_within up vs us stated found made.Nodes e n h = h

-- ---- Numbers of variables and names

pub new_types_length : (bs : List Binder) → length (new_types bs) ≡ length bs
new_types_length [] = refl
new_types_length (b ∷ bs) = let h = new_types_length bs in omega (arith, h)

-- Each variable of the goal has a name.
pub all_names_length : (vs : List Variable) (f : Form) → length (all_names vs f) ≡ length (type_list vs) + length (binders f)
all_names_length vs f =
    let a = length-append (names vs) (map (λ (b : Binder). get_or (names vs) b.0 []) (binders f)) in
    let b = length-map vs (λ (v : Variable). v.name) in
    let c = length-map (binders f) (λ (b : Binder). get_or (names vs) b.0 []) in
    let d = length-map vs (λ (v : Variable). v.ty) in
    omega (arith, a, b, c, d)
