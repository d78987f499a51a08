-- Values that fit variables: expressions whose type matches, the outputs of a call, and the parts
-- of a draw.
use Rattle.heylo_formula.specs.Typing.NumberType.{eureal, int, uint, ureal}
use Rattle.heylo_formula.specs.Typing.{NumberType, TermFits, Types, fits, is_bool, is_finite_type, join, number_type, widens}
use Rattle.heylo_formula.specs.declared.types.Ty.{Ty}
use Rattle.heyvl_acts.specs.Acts.{TypedProcedure, type_list, types_of}
use Rattle.heyvl_acts.specs.Rules.{ArgumentsFit, Each, TargetsFit, widens_to}
use Rattle.heyvl_syntax.specs.Expressions.{Expression}
use Rattle.heyvl_syntax.specs.declared.procedures.Param.{Param}
use Rattle.heyvl_syntax.specs.declared.types.TypeName.{TypeName}
use Rattle.resolved_laws.proofs.Calls.{IsDeclared}
use Rattle.resolved_laws.proofs.Locals.{type_declared}
use Rattle.resolved_laws.proofs.Targets.{AreOfTypes}
use Rattle.static_rules.specs.RightSides.{ValueType, any_argument_mismatches, any_output_mismatches, join_types, join_with, mismatches, type_of_choices, type_of_expression, type_of_meaning, type_of_name}
use Rattle.static_rules.specs.Variables.{parameters}
use Rattle.std.proofs.Common.{List, None, Option, Some, [], arith, false, length, refl, subst, sym, true, ◌∷◌, ◌≡◌, ℕ}
use Rattle.std.proofs.lemmas.Bool.{and_from, and_parts, not-false, not_from_true, or_parts}
use Rattle.std.specs.Prelude.{map, not, ◌&&◌}
use Rattle.typed_expressions.proofs.exported.TypedMeanings.{good, map_some, never, some_is}
use Rattle.typed_expressions.specs.ExpressionLaws.{Agrees, IsTyped}
use Rattle.typed_expressions.specs.Scopes.{Scope}
use Rattle.typed_expressions.specs.Table.{Meaning, declarable, given}
use Rattle.typed_expressions.specs.TypedExpressions.{elaborate}
use Rattle.typed_expressions.specs.Values.{term, terms}

-- ---- Types of values

-- A truth value fits only a Bool.
pub truth_fits : (t : TypeName) (ty : Ty) → declarable t ≡ Some ty → mismatches (Some ValueType.truth) t ≡ false → ty ≡ Ty.Bool
truth_fits TypeName.Bool ty d h = sym (some_is _ _ d)
truth_fits TypeName.Int ty d h = absurd (cc)
truth_fits TypeName.UInt ty d h = absurd (cc)
truth_fits TypeName.UReal ty d h = absurd (cc)
truth_fits TypeName.EUReal ty d h = absurd (cc)
truth_fits TypeName.Real ty d h = absurd (cc)

-- A number of this type may be assigned to a variable of this type.
abbrev pub NumberFits : NumberType → Ty → Type 0
NumberFits u ty = (is_bool ty ≡ false) × (fits (Some u) (number_type ty) ≡ true)

pub number_fits : (t : TypeName) (ty : Ty) (u : NumberType) → declarable t ≡ Some ty → mismatches (Some (ValueType.number u)) t ≡ false → NumberFits u ty
number_fits TypeName.Bool ty u d h = absurd (cc)
number_fits TypeName.Int ty u d h = subst (NumberFits u) (some_is _ _ d) (refl, (and_parts (is_finite_type (Some u)) (widens u int) (not-false _ h)).1)
number_fits TypeName.UInt ty u d h = subst (NumberFits u) (some_is _ _ d) (refl, (and_parts (is_finite_type (Some u)) (widens u uint) (not-false _ h)).1)
number_fits TypeName.UReal ty u d h = subst (NumberFits u) (some_is _ _ d) (refl, (and_parts (is_finite_type (Some u)) (widens u ureal) (not-false _ h)).1)
number_fits TypeName.EUReal ty u d h = never ty d
number_fits TypeName.Real ty u d h = never ty d

value_fits_meant : (types : Types) (t : TypeName) (ty : Ty) (m : Meaning) → declarable t ≡ Some ty → IsTyped types m → mismatches (type_of_meaning m) t ≡ false → TermFits types ty (term (Some m))
value_fits_meant types t ty (Meaning.truth g) d i h = (truth_fits t ty d h, i)
value_fits_meant types t ty (Meaning.number u a) d i h = let f = number_fits t ty u d h in (f.0, rw i f.1)
value_fits_meant types t ty Meaning.real d i h = absurd (cc)

-- The value of an expression fits a variable of the declared type.
pub value_fits : (types : Types) (n : ℕ) (sc : Scope) → Agrees types n sc → (e : Expression) (t : TypeName) (ty : Ty) → declarable t ≡ Some ty → mismatches (type_of_expression n sc e) t ≡ false → TermFits types ty (term (elaborate n sc e))
value_fits types n sc g e t ty d h = go (elaborate n sc e) refl h
  where
    go : (o : Option Meaning) → elaborate n sc e ≡ o → mismatches (given o type_of_meaning) t ≡ false → TermFits types ty (term o)
    go None i h = absurd (cc)
    go (Some m) i h = value_fits_meant types t ty m d (good types n sc g e m i).typed h

-- ---- Calls

pub arguments_fit : (p : TypedProcedure) (n : ℕ) (sc : Scope) → Agrees (types_of p) n sc → (es : List Expression) (qs : List Param) → Each IsDeclared qs → length es ≡ length qs → any_argument_mismatches n sc es (map (λ x. x.ty) qs) ≡ false → ArgumentsFit p (type_list (parameters qs)) (terms n sc es)
arguments_fit p n sc g [] [] d l h = tt
arguments_fit p n sc g [] (q ∷ qs) d l h = absurd (omega (arith, l))
arguments_fit p n sc g (e ∷ es) [] d l h = absurd (omega (arith, l))
arguments_fit p n sc g (e ∷ es) (q ∷ qs) d l h =
    let m = or_parts (mismatches (type_of_expression n sc e) q.ty) _ h in
    (value_fits (types_of p) n sc g e q.ty _ (type_declared (declarable q.ty) _ refl d.0) m.0, arguments_fit p n sc g es qs d.1 (omega (arith, l)) m.1)

output_widens : (o t : TypeName) (a b : Ty) → declarable o ≡ Some a → declarable t ≡ Some b → mismatches (type_of_name o) t ≡ false → widens_to a b ≡ true
output_widens TypeName.Bool TypeName.Bool a b d e h = rw (sym (some_is _ _ d), sym (some_is _ _ e)) refl
output_widens TypeName.Bool TypeName.Int a b d e h = absurd (cc)
output_widens TypeName.Bool TypeName.UInt a b d e h = absurd (cc)
output_widens TypeName.Bool TypeName.UReal a b d e h = absurd (cc)
output_widens TypeName.Bool TypeName.EUReal a b d e h = never b e
output_widens TypeName.Bool TypeName.Real a b d e h = never b e
output_widens TypeName.Int TypeName.Bool a b d e h = absurd (cc)
output_widens TypeName.Int TypeName.Int a b d e h = rw (sym (some_is _ _ d), sym (some_is _ _ e)) refl
output_widens TypeName.Int TypeName.UInt a b d e h = absurd (cc)
output_widens TypeName.Int TypeName.UReal a b d e h = absurd (cc)
output_widens TypeName.Int TypeName.EUReal a b d e h = never b e
output_widens TypeName.Int TypeName.Real a b d e h = never b e
output_widens TypeName.UInt TypeName.Bool a b d e h = absurd (cc)
output_widens TypeName.UInt TypeName.Int a b d e h = rw (sym (some_is _ _ d), sym (some_is _ _ e)) refl
output_widens TypeName.UInt TypeName.UInt a b d e h = rw (sym (some_is _ _ d), sym (some_is _ _ e)) refl
output_widens TypeName.UInt TypeName.UReal a b d e h = rw (sym (some_is _ _ d), sym (some_is _ _ e)) refl
output_widens TypeName.UInt TypeName.EUReal a b d e h = never b e
output_widens TypeName.UInt TypeName.Real a b d e h = never b e
output_widens TypeName.UReal TypeName.Bool a b d e h = absurd (cc)
output_widens TypeName.UReal TypeName.Int a b d e h = absurd (cc)
output_widens TypeName.UReal TypeName.UInt a b d e h = absurd (cc)
output_widens TypeName.UReal TypeName.UReal a b d e h = rw (sym (some_is _ _ d), sym (some_is _ _ e)) refl
output_widens TypeName.UReal TypeName.EUReal a b d e h = never b e
output_widens TypeName.UReal TypeName.Real a b d e h = never b e
output_widens TypeName.EUReal t a b d e h = never a d
output_widens TypeName.Real t a b d e h = never a d

pub targets_fit : (p : TypedProcedure) (xs : List ℕ) (ts : List (Option TypeName)) (qs : List Param) → AreOfTypes (types_of p) xs ts → Each IsDeclared qs → length ts ≡ length qs → any_output_mismatches (map (λ x. x.ty) qs) ts ≡ false → TargetsFit p xs (type_list (parameters qs))
targets_fit p [] [] [] a d l h = tt
targets_fit p [] [] (q ∷ qs) a d l h = absurd (omega (arith, l))
targets_fit p [] (t ∷ ts) qs a d l h = absurd a
targets_fit p (x ∷ xs) [] qs a d l h = absurd a
targets_fit p (x ∷ xs) (None ∷ ts) qs a d l h = absurd a
targets_fit p (x ∷ xs) (Some t ∷ ts) [] a d l h = absurd (omega (arith, l))
targets_fit p (x ∷ xs) (Some t ∷ ts) (q ∷ qs) a d l h =
    let m = or_parts (mismatches (type_of_name q.ty) t) _ h in
    (output_widens q.ty t _ _ (type_declared (declarable q.ty) _ refl d.0) a.0 m.0, targets_fit p xs ts qs a.1 d.1 (omega (arith, l)) m.1)

-- ---- Common types

join_widens : (t u j : NumberType) → join t u ≡ Some j → (widens t j ≡ true) × (widens u j ≡ true)
join_widens int int j e = subst (λ j. (widens int j ≡ true) × (widens int j ≡ true)) (some_is _ _ e) (refl, refl)
join_widens int uint j e = subst (λ j. (widens int j ≡ true) × (widens uint j ≡ true)) (some_is _ _ e) (refl, refl)
join_widens int ureal j e = never j e
join_widens int eureal j e = never j e
join_widens uint int j e = subst (λ j. (widens uint j ≡ true) × (widens int j ≡ true)) (some_is _ _ e) (refl, refl)
join_widens uint uint j e = subst (λ j. (widens uint j ≡ true) × (widens uint j ≡ true)) (some_is _ _ e) (refl, refl)
join_widens uint ureal j e = subst (λ j. (widens uint j ≡ true) × (widens ureal j ≡ true)) (some_is _ _ e) (refl, refl)
join_widens uint eureal j e = subst (λ j. (widens uint j ≡ true) × (widens eureal j ≡ true)) (some_is _ _ e) (refl, refl)
join_widens ureal int j e = never j e
join_widens ureal uint j e = subst (λ j. (widens ureal j ≡ true) × (widens uint j ≡ true)) (some_is _ _ e) (refl, refl)
join_widens ureal ureal j e = subst (λ j. (widens ureal j ≡ true) × (widens ureal j ≡ true)) (some_is _ _ e) (refl, refl)
join_widens ureal eureal j e = subst (λ j. (widens ureal j ≡ true) × (widens eureal j ≡ true)) (some_is _ _ e) (refl, refl)
join_widens eureal int j e = never j e
join_widens eureal uint j e = subst (λ j. (widens eureal j ≡ true) × (widens uint j ≡ true)) (some_is _ _ e) (refl, refl)
join_widens eureal ureal j e = subst (λ j. (widens eureal j ≡ true) × (widens ureal j ≡ true)) (some_is _ _ e) (refl, refl)
join_widens eureal eureal j e = subst (λ j. (widens eureal j ≡ true) × (widens eureal j ≡ true)) (some_is _ _ e) (refl, refl)

widens_finite : (t u : NumberType) → widens t u ≡ true → is_finite_type (Some u) ≡ true → is_finite_type (Some t) ≡ true
widens_finite int int h f = refl
widens_finite int uint h f = absurd (cc)
widens_finite int ureal h f = absurd (cc)
widens_finite int eureal h f = absurd (cc)
widens_finite uint int h f = refl
widens_finite uint uint h f = refl
widens_finite uint ureal h f = refl
widens_finite uint eureal h f = absurd (cc)
widens_finite ureal int h f = absurd (cc)
widens_finite ureal uint h f = absurd (cc)
widens_finite ureal ureal h f = refl
widens_finite ureal eureal h f = absurd (cc)
widens_finite eureal int h f = absurd (cc)
widens_finite eureal uint h f = absurd (cc)
widens_finite eureal ureal h f = absurd (cc)
widens_finite eureal eureal h f = absurd (cc)

widens_on : (t u v : NumberType) → widens t u ≡ true → widens u v ≡ true → widens t v ≡ true
widens_on int int c h k = k
widens_on int uint c h k = absurd (cc)
widens_on int ureal c h k = absurd (cc)
widens_on int eureal c h k = absurd (cc)
widens_on uint int c h k = refl
widens_on uint uint c h k = refl
widens_on uint ureal c h k = refl
widens_on uint eureal c h k = refl
widens_on ureal int c h k = absurd (cc)
widens_on ureal uint c h k = absurd (cc)
widens_on ureal ureal c h k = k
widens_on ureal eureal int h k = absurd (cc)
widens_on ureal eureal uint h k = absurd (cc)
widens_on ureal eureal ureal h k = absurd (cc)
widens_on ureal eureal eureal h k = refl
widens_on eureal int c h k = absurd (cc)
widens_on eureal uint c h k = absurd (cc)
widens_on eureal ureal c h k = absurd (cc)
widens_on eureal eureal c h k = k

-- A value of the first type may be assigned wherever one of the second may.
abbrev IsWithin : ValueType → ValueType → Type 0
IsWithin v w = (t : TypeName) → mismatches (Some w) t ≡ false → mismatches (Some v) t ≡ false

number_below : (a b c : NumberType) → widens a b ≡ true → not (is_finite_type (Some b) && widens b c) ≡ false → not (is_finite_type (Some a) && widens a c) ≡ false
number_below a b c w h =
    let q = and_parts (is_finite_type (Some b)) (widens b c) (not-false _ h) in not_from_true _ (and_from _ _ (widens_finite a b w q.0) (widens_on a b c w q.1))

within_number : (a b : NumberType) → widens a b ≡ true → IsWithin (ValueType.number a) (ValueType.number b)
within_number a b w TypeName.Bool h = h
within_number a b w TypeName.Int h = number_below a b int w h
within_number a b w TypeName.UInt h = number_below a b uint w h
within_number a b w TypeName.UReal h = number_below a b ureal w h
within_number a b w TypeName.EUReal h = number_below a b eureal w h
within_number a b w TypeName.Real h = h

join_within : (v w j : ValueType) → join_types v w ≡ Some j → IsWithin v j × IsWithin w j
join_within ValueType.truth ValueType.truth j e = subst (λ j. IsWithin ValueType.truth j × IsWithin ValueType.truth j) (some_is _ _ e) (λ t h. h, λ t h. h)
join_within ValueType.truth (ValueType.number u) j e = never j e
join_within (ValueType.number a) ValueType.truth j e = never j e
join_within (ValueType.number a) (ValueType.number b) j e =
    let k = map_some (join a b) ValueType.number j e in
    let w = join_widens a b k.0 k.1 in
    subst (λ j. IsWithin (ValueType.number a) j × IsWithin (ValueType.number b) j) (some_is _ _ k.2) (within_number a k.0 w.0, within_number b k.0 w.1)

abbrev HasWithin : Option ValueType → ValueType → Type 0
HasWithin None v = ⊥
HasWithin (Some w) v = IsWithin w v

both_within : (s o : Option ValueType) (v : ValueType) → HasWithin (given s (λ t. given o (join_types t))) v → HasWithin s v × HasWithin o v
both_within None o v h = absurd h
both_within (Some a) None v h = absurd h
both_within (Some a) (Some b) v h = go (join_types a b) refl h
  where
    go : (j : Option ValueType) → join_types a b ≡ j → HasWithin j v → IsWithin a v × IsWithin b v
    go None e k = absurd k
    go (Some j) e k = let w = join_within a b j e in (λ t m. w.0 t (k t m), λ t m. w.1 t (k t m))

module _ (n : ℕ) (sc : Scope) where
  choices_within : (s : Option ValueType) (ps : List (Expression × Expression)) (v : ValueType) → join_with n sc s ps ≡ Some v → HasWithin s v × Each (λ p. HasWithin (type_of_expression n sc p.1) v) ps
  choices_within s [] v e = (subst (λ s. HasWithin s v) (sym e) (λ t h. h), tt)
  choices_within s (p ∷ ps) v e =
      let more = choices_within (given s (λ t. given (type_of_expression n sc p.1) (join_types t))) ps v e in
      let first = both_within s (type_of_expression n sc p.1) v more.0 in
      (first.0, (first.1, more.1))

  fits_within : (o : Option ValueType) (v : ValueType) (t : TypeName) → HasWithin o v → mismatches (Some v) t ≡ false → mismatches o t ≡ false
  fits_within None v t h m = absurd h
  fits_within (Some w) v t h m = h t m

  each_within : (ps : List (Expression × Expression)) (v : ValueType) (t : TypeName) → mismatches (Some v) t ≡ false → Each (λ p. HasWithin (type_of_expression n sc p.1) v) ps → Each (λ p. mismatches (type_of_expression n sc p.1) t ≡ false) ps
  each_within [] v t m h = tt
  each_within (p ∷ ps) v t m h = (fits_within (type_of_expression n sc p.1) v t h.0 m, each_within ps v t m h.1)

  -- If the common type of several expressions matches, so does the type of each.
  pub choices_fit : (p : Expression × Expression) (ps : List (Expression × Expression)) (t : TypeName) → mismatches (type_of_choices n sc (p ∷ ps)) t ≡ false → Each (λ p. mismatches (type_of_expression n sc p.1) t ≡ false) (p ∷ ps)
  choices_fit p ps t h = go (type_of_choices n sc (p ∷ ps)) refl h
    where
      go : (o : Option ValueType) → type_of_choices n sc (p ∷ ps) ≡ o → mismatches o t ≡ false → Each (λ p. mismatches (type_of_expression n sc p.1) t ≡ false) (p ∷ ps)
      go None e m = absurd (cc)
      go (Some v) e m = let w = choices_within (type_of_expression n sc p.1) ps v e in each_within (p ∷ ps) v t m (w.0, w.1)
