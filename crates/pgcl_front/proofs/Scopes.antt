-- The names in the scopes of a translated program: the output of a declared variable has its number
-- plus the number of variables.
use Rattle.pgcl_front.proofs.Meanings.{Alike}
use Rattle.pgcl_front.proofs.QuietTokens.{IsPlain}
use Rattle.heylo_formula.specs.State.{get, environment, number_of, truth_of}
use Rattle.heylo_formula.specs.declared.values.Val.{Val}
use Rattle.heyvl_num.specs.Value.Value.{finite}
use Rattle.heyvl_places.specs.declared.spans.Span.{Span}
use Rattle.heyvl_syntax.specs.declared.procedures.Param.{Param}
use Rattle.heyvl_syntax.specs.declared.tokens.TokenKind.TheVariants as kinds
use Rattle.heyvl_syntax.specs.declared.types.TypeName.TheVariants as names
use Rattle.heyvl_syntax.specs.declared.types.TypeName.{TypeName}
use Rattle.static_rules.specs.Files.{parameters_findings}
use Rattle.typed_expressions.specs.Findings.{at}
use Rattle.typed_expressions.specs.Scopes.{Scope, find, is_visible, with_local}
use Rattle.typed_expressions.specs.Table.{declarable, variable}
use Rattle.static_rules.specs.Variables.{behind_parameters}
use Rattle.guarded_commands.specs.ReservedNames.{is_made}
use Rattle.guarded_commands.specs.Translation.{input, input_name, output, pick_name, type_name}
use Rattle.guarded_commands.specs.declared.programs.Declaration.{Declaration}
use Rattle.std.proofs.Common.{Bool, List, None, Some, [], ap, arith, false, inl, inr, length, map, refl, subst, suc, sym, true, ◌++◌, ◌+◌, ◌<◌, ◌∙◌, ◌∷◌, ◌≡◌, ◌⊎◌, ℕ}
use Rattle.std.proofs.lemmas.Slice.Eq.{bytes_eq-Decides}
use Rattle.std.specs.Option.{is_none, is_some}
use Rattle.std.specs.Prelude.{if◌then◌else◌, option_map}
use Rattle.std.specs.Str.{bytes_eq}

-- ---- Names

pub same_bytes : (x : List ℕ) → bytes_eq x x ≡ true
same_bytes x = (bytes_eq-Decides x x).1 refl

not_as_made : (b : Bool) (x y : List ℕ) → IsPlain x → is_made (kinds.Word y) ≡ true → bytes_eq x y ≡ b → bytes_eq x y ≡ false
not_as_made false x y p m e = e
not_as_made true x y p m e = absurd (let same : x ≡ y = (bytes_eq-Decides x y).0 e in let k : is_made (kinds.Word x) ≡ is_made (kinds.Word y) = ap (λ (z : List ℕ). is_made (kinds.Word z)) same in cc)

pub not_input : (x y : List ℕ) → IsPlain x → bytes_eq x (input_name y) ≡ false
not_input x y p = not_as_made (bytes_eq x (input_name y)) x (input_name y) p refl refl

pub not_pick : (x : List ℕ) (j : ℕ) → IsPlain x → bytes_eq x (pick_name j) ≡ false
not_pick x j p = not_as_made (bytes_eq x (pick_name j)) x (pick_name j) p refl refl

-- ---- One more variable

pub find_with : (x y : List ℕ) (n : ℕ) (t : TypeName) (sc : Scope) → find (with_local y (record { number = n; ty = t }) sc) x ≡ (if bytes_eq x y then Some (record { number = n; ty = t }) else find sc x)
find_with x y n t [] = refl
find_with x y n t (e ∷ sc) = go (bytes_eq y e.0) (bytes_eq x y) (bytes_eq x e.0) refl refl refl (find_with x y n t sc)
  where
    -- Cases: whether y is the first name, whether x is y, and whether x is the first name.
    go : (b c d : Bool) → bytes_eq y e.0 ≡ b → bytes_eq x y ≡ c → bytes_eq x e.0 ≡ d → find (with_local y (record { number = n; ty = t }) sc) x ≡ (if bytes_eq x y then Some (record { number = n; ty = t }) else find sc x)
        → find (if b then (e.0, record { number = n; ty = t }) ∷ sc else e ∷ with_local y (record { number = n; ty = t }) sc) x ≡ (if bytes_eq x y then Some (record { number = n; ty = t }) else (if bytes_eq x e.0 then Some e.1 else find sc x))
    go true true true p q r ih = rw (q, r) refl
    go true true false p q r ih = absurd (let u : x ≡ y = (bytes_eq-Decides x y).0 q in let v : y ≡ e.0 = (bytes_eq-Decides y e.0).0 p in let w : bytes_eq x e.0 ≡ true = (bytes_eq-Decides x e.0).1 (u ∙ v) in cc)
    go true false true p q r ih = absurd (let u : x ≡ e.0 = (bytes_eq-Decides x e.0).0 r in let v : y ≡ e.0 = (bytes_eq-Decides y e.0).0 p in let w : bytes_eq x y ≡ true = (bytes_eq-Decides x y).1 (u ∙ sym v) in cc)
    go true false false p q r ih = rw (q, r) refl
    go false true true p q r ih = absurd (let u : x ≡ y = (bytes_eq-Decides x y).0 q in let v : x ≡ e.0 = (bytes_eq-Decides x e.0).0 r in let w : bytes_eq y e.0 ≡ true = (bytes_eq-Decides y e.0).1 (sym u ∙ v) in cc)
    go false true false p q r ih = rw (r, ih, q) refl
    go false false true p q r ih = rw (q, r) refl
    go false false false p q r ih = rw (r, ih, q) refl

pub find_new : (y : List ℕ) (n : ℕ) (t : TypeName) (sc : Scope) → find (with_local y (record { number = n; ty = t }) sc) y ≡ Some (record { number = n; ty = t })
find_new y n t sc = rw (find_with y y n t sc, same_bytes y) refl

-- ---- A variable of the program, and its output

-- The name `x` is visible in neither scope; or in both, with a number below `v` in the first one
-- and this number plus `v` in the second one.
abbrev pub Placed : ℕ → Scope → Scope → List ℕ → Type 0
Placed v own sc x = ((find own x ≡ None) × (find sc x ≡ None)) ⊎ ((n : ℕ) × ((t : TypeName) × ((n < v) × ((find own x ≡ Some (record { number = n; ty = t })) × (find sc x ≡ Some (record { number = v + n; ty = t }))))))

-- `Placed` holds for each plain name.
abbrev pub InScope : ℕ → Scope → Scope → Type 0
InScope v own sc = (x : List ℕ) → IsPlain x → Placed v own sc x

placed_more : (v : ℕ) (own sc : Scope) (x y : List ℕ) (n : ℕ) (t : TypeName) → n < v → Placed v own sc x → Placed v (with_local y (record { number = n; ty = t }) own) (with_local y (record { number = v + n; ty = t }) sc) x
placed_more v own sc x y n t lt p = go (bytes_eq x y) refl p
  where
    go : (b : Bool) → bytes_eq x y ≡ b → Placed v own sc x → Placed v (with_local y (record { number = n; ty = t }) own) (with_local y (record { number = v + n; ty = t }) sc) x
    go true e p = inr (n, (t, (lt, (rw (find_with x y n t own, e) refl, rw (find_with x y (v + n) t sc, e) refl))))
    go false e (inl p) = inl (rw (find_with x y n t own, e) p.0, rw (find_with x y (v + n) t sc, e) p.1)
    go false e (inr p) = inr (p.0, (p.1.0, (p.1.1.0, (rw (find_with x y n t own, e) p.1.1.1.0, rw (find_with x y (v + n) t sc, e) p.1.1.1.1))))

pub placed_behind_pick : (v : ℕ) (own sc : Scope) (j n : ℕ) (t : TypeName) → InScope v own sc → InScope v own (with_local (pick_name j) (record { number = n; ty = t }) sc)
placed_behind_pick v own sc j n t p x plain = go (p x plain)
  where
    go : Placed v own sc x → Placed v own (with_local (pick_name j) (record { number = n; ty = t }) sc) x
    go (inl p) = inl (p.0, rw (find_with x (pick_name j) n t sc, not_pick x j plain) p.1)
    go (inr p) = inr (p.0, (p.1.0, (p.1.1.0, (p.1.1.1.0, rw (find_with x (pick_name j) n t sc, not_pick x j plain) p.1.1.1.1))))

inputs_hidden : (n : ℕ) (ds : List Declaration) (sc : Scope) (x : List ℕ) → IsPlain x → find sc x ≡ None → find (behind_parameters n sc (map input ds)) x ≡ None
inputs_hidden n [] sc x p e = e
inputs_hidden n (d ∷ ds) sc x p e = inputs_hidden (suc n) ds (with_local (input_name d.name) (record { number = n; ty = type_name d.ty }) sc) x p (rw (find_with x (input_name d.name) n (type_name d.ty) sc, not_input x d.name p) e)

outputs_placed : (v k : ℕ) (ds : List Declaration) (own sc : Scope) → k + length ds ≡ v → InScope v own sc → InScope v (behind_parameters k own (map output ds)) (behind_parameters (v + k) sc (map output ds))
outputs_placed v k [] own sc e p = p
outputs_placed v k (d ∷ ds) own sc e p =
    let own1 = with_local d.name (record { number = k; ty = type_name d.ty }) own in
    let sc1 = with_local d.name (record { number = v + k; ty = type_name d.ty }) sc in
    let next : v + suc k ≡ suc (v + k) = omega arith in
    subst (λ (n : ℕ). InScope v (behind_parameters (suc k) own1 (map output ds)) (behind_parameters n sc1 (map output ds))) next
    (outputs_placed v (suc k) ds own1 sc1 (omega (arith, e)) (λ x plain. placed_more v own sc x d.name k (type_name d.ty) (omega (arith, e)) (p x plain)))

-- The scope of the body.
pub head_placed : (v : ℕ) (ds : List Declaration) → length ds ≡ v → InScope v (behind_parameters 0 [] (map output ds)) (behind_parameters v (behind_parameters 0 [] (map input ds)) (map output ds))
head_placed v ds e =
    let none : v + 0 ≡ v = omega arith in
    subst (λ (n : ℕ). InScope v (behind_parameters 0 [] (map output ds)) (behind_parameters n (behind_parameters 0 [] (map input ds)) (map output ds))) none
    (outputs_placed v 0 ds [] (behind_parameters 0 [] (map input ds)) (omega (arith, e)) (λ x plain. inl (refl, inputs_hidden 0 ds [] x plain refl)))

-- ---- The scope of the pre

pub inputs_as_outputs : (k : ℕ) (ds : List Declaration) (ins own : Scope) (x : List ℕ) → find ins (input_name x) ≡ find own x → find (behind_parameters k ins (map input ds)) (input_name x) ≡ find (behind_parameters k own (map output ds)) x
inputs_as_outputs k [] ins own x e = e
inputs_as_outputs k (d ∷ ds) ins own x e = inputs_as_outputs (suc k) ds (with_local (input_name d.name) (record { number = k; ty = type_name d.ty }) ins) (with_local d.name (record { number = k; ty = type_name d.ty }) own) x
    (find_with (input_name x) (input_name d.name) k (type_name d.ty) ins ∙ (ap (λ o. if bytes_eq x d.name then Some (record { number = k; ty = type_name d.ty }) else o) e ∙ sym (find_with x d.name k (type_name d.ty) own)))

-- ---- Declared names are found

pub no_front : {A : Type 0} (xs ys : List A) → xs ++ ys ≡ [] → xs ≡ []
no_front [] ys e = refl
no_front (x ∷ xs) ys e = absurd (cc)

pub no_back : {A : Type 0} (xs ys : List A) → xs ++ ys ≡ [] → ys ≡ []
no_back [] ys e = e
no_back (x ∷ xs) ys e = absurd (cc)

first_kept : (s : Span) (k : ℕ) (b : Bool) (rules : List (ℕ × Bool)) → at s ((k, b) ∷ rules) ≡ [] → b ≡ false
first_kept s k true rules e = absurd (cc)
first_kept s k false rules e = refl

new_name : (p : Param) (sc : Scope) → at p.span ((11, is_visible sc p.name) ∷ (12, is_none (declarable p.ty)) ∷ []) ≡ [] → is_visible sc p.name ≡ false
new_name p sc e = first_kept p.span 11 (is_visible sc p.name) ((12, is_none (declarable p.ty)) ∷ []) e

pub kept : (n : ℕ) (ps : List Param) (sc : Scope) → parameters_findings n sc ps ≡ [] → (x : List ℕ) (m : ℕ) (t : TypeName) → find sc x ≡ Some (record { number = m; ty = t }) → find (behind_parameters n sc ps) x ≡ Some (record { number = m; ty = t })
kept n [] sc e x m t f = f
kept n (p ∷ ps) sc e x m t f =
    let new = new_name p sc (no_front _ _ e) in
    kept (suc n) ps (with_local p.name (record { number = n; ty = p.ty }) sc) (no_back _ _ e) x m t (rw (find_with x p.name n p.ty sc, other (bytes_eq x p.name) new refl) f)
  where
    other : (b : Bool) → is_visible sc p.name ≡ false → bytes_eq x p.name ≡ b → bytes_eq x p.name ≡ false
    other false new i = i
    other true new i = absurd (let same : x ≡ p.name = (bytes_eq-Decides x p.name).0 i in let g : find sc p.name ≡ Some (record { number = m; ty = t }) = subst (λ (z : List ℕ). find sc z ≡ Some (record { number = m; ty = t })) same f in let h : is_some (find sc p.name) ≡ true = rw g refl in cc)

abbrev pub FoundFrom : ℕ → List Param → Scope → Type 0
FoundFrom n [] sc = Unit {0}
FoundFrom n (p ∷ ps) sc = (find sc p.name ≡ Some (record { number = n; ty = p.ty })) × FoundFrom (suc n) ps sc

pub found : (n : ℕ) (ps : List Param) (sc : Scope) → parameters_findings n sc ps ≡ [] → FoundFrom n ps (behind_parameters n sc ps)
found n [] sc e = tt
found n (p ∷ ps) sc e = (kept (suc n) ps (with_local p.name (record { number = n; ty = p.ty }) sc) (no_back _ _ e) p.name n p.ty (find_new p.name n p.ty sc), found (suc n) ps (with_local p.name (record { number = n; ty = p.ty }) sc) (no_back _ _ e))

pub found_still : (m : ℕ) (qs : List Param) (sc : Scope) → parameters_findings m sc qs ≡ [] → (n : ℕ) (ps : List Param) → FoundFrom n ps sc → FoundFrom n ps (behind_parameters m sc qs)
found_still m qs sc e n [] f = tt
found_still m qs sc e n (p ∷ ps) f = (kept m qs sc e p.name n p.ty f.0, found_still m qs sc e (suc n) ps f.1)

-- ---- The values of variables in a state

-- The outputs in `t` have the values of the variables in `s`.
abbrev pub Agrees : ℕ → List Val → List Val → Type 0
Agrees v s t = (i : ℕ) → i < v → get i s ≡ get (v + i) t

pub variable_alike : (s t : List Val) (m n : ℕ) (ty : TypeName) → get m s ≡ get n t → Alike (environment s) (environment t) (Some (variable (record { number = m; ty = ty }))) (Some (variable (record { number = n; ty = ty })))
variable_alike s t m n names.Bool e = ap truth_of e
variable_alike s t m n names.Int e = (refl, ap (λ w. finite (number_of w)) e)
variable_alike s t m n names.UInt e = (refl, ap (λ w. finite (number_of w)) e)
variable_alike s t m n names.UReal e = (refl, ap (λ w. finite (number_of w)) e)
variable_alike s t m n names.EUReal e = (refl, ap (λ w. finite (number_of w)) e)
variable_alike s t m n names.Real e = tt

pub names_alike : (v : ℕ) (own sc : Scope) (s t : List Val) → InScope v own sc → Agrees v s t → (x : List ℕ) → IsPlain x → Alike (environment s) (environment t) (option_map variable (find own x)) (option_map variable (find sc x))
names_alike v own sc s t p a x plain = go (p x plain)
  where
    go : Placed v own sc x → Alike (environment s) (environment t) (option_map variable (find own x)) (option_map variable (find sc x))
    go (inl p) = rw (p.0, p.1) tt
    go (inr p) = rw (p.1.1.1.0, p.1.1.1.1) (variable_alike s t p.0 (v + p.0) p.1.0 (a p.0 p.1.1.0))
