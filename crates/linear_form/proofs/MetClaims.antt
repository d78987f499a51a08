-- The claims of a path hold in each state that agrees with it.
use Rattle.std.proofs.Common.{◌≡◌, ℕ, List, [], ◌∷◌, ◌++◌, length, refl, sym, ap, ◌∙◌, subst, Bool, true, false, not, cond, ◌&&◌}
use Rattle.std.specs.Prelude.{Some, None}
use Prim.Native.Nat.{zero, suc}
use Rattle.heyvl_num.specs.Rational.{Rational, ratio, zeroʳ, ◌-ʳ◌, negʳ, leqʳ}
use Rattle.heyvl_num.specs.Gcd.{gcd, gcd_steps}
use Rattle.heyvl_num.specs.Value.{Value, leqᵛ, ◌≤ᵛ◌}
use Rattle.heylo_formula.specs.Goals.{Goal, Compares, HoldsIn}
use Rattle.heylo_formula.specs.State.{Env, IsTyped, environment, number_of, has}
use Rattle.heylo_formula.specs.Choices.{Choices}
use Rattle.heylo_formula.specs.Meaning.{value}
use Rattle.heylo_formula.specs.Typing.{HasTypes, Types, types_in}
use Rattle.heylo_formula.specs.declared.types.Ty.{Ty}
use Rattle.heylo_formula.specs.declared.values.Val.{Val}
use Rattle.heylo_formula.specs.declared.values.Val.TheVariants.{Truth, Num}
use Rattle.linear_values.specs.Lin.{Lin, at, variable, Linear}
use Rattle.linear_rows.specs.Numbers.{minus_oneʳ, is_negative}
use Rattle.linear_form.specs.Query.{Query, Atom, Taken, holds_at}
use Rattle.linear_form.specs.Query.Query.{done, bits, ask}
use Rattle.linear_form.specs.Questions.{Ends, value_in}
use Rattle.linear_form.specs.Paths.{IsPath, Agrees, end_at}
use Rattle.heylo_formula.specs.TypedGoals.{IsTypedGoal}
use Rattle.linear_values.specs.Tightening.{Claim}
use Rattle.linear_values.specs.Claims.{IsClaimed, AllClaimed}
use Rattle.linear_form.specs.ClaimLaws.{AnswersClaimTruths, DenialsClaimTruths}
use Rattle.linear_form.specs.PathRows.{claim, negated, answer_claims, path_claims, below_claim, denial, listed, denial_at, is_unsigned_type, occurs_in_claims, sign_claims, with_signs}
use Rattle.linear_values.proofs.exported.LinearValues.{scaled_at, constant_at, variable_at, leq_zero_minus, leq_minus, below_at}
use Rattle.linear_rows.proofs.exported.Narrow.{minus_one_times}
use Rattle.linear_form.proofs.TypedValues.{typed_environment}
use Rattle.linear_form.proofs.AgreedEnds.{ends_are_values}
use Rattle.heyvl_num.proofs.exported.Rationals.{zero-+ʳ}

claimed_append : (s : Env) (ks ls : List Claim) → AllClaimed s ks → AllClaimed s ls → AllClaimed s (ks ++ ls)
claimed_append s [] ls h m = m
claimed_append s (k ∷ ks) ls h m = (h.0, claimed_append s ks ls h.1 m)

-- ---- Denials

zero_minus : (x : Rational) → zeroʳ -ʳ x ≡ negʳ x
unfolding ◌-ʳ◌
zero_minus x = zero-+ʳ (negʳ x)

pub negated_at : (a : Lin) (s : Env) → at (negated a) s ≡ zeroʳ -ʳ at a s
negated_at a s = scaled_at minus_oneʳ a s ∙ minus_one_times (at a s) ∙ sym (zero_minus (at a s))

denied : (x : Rational) (strict : Bool) → is_negative x strict ≡ false → is_negative (zeroʳ -ʳ x) (not strict) ≡ true
denied x false e = ap not (leq_zero_minus zeroʳ x) ∙ ap not e
denied x true e = leq_minus zeroʳ x ∙ undo (leqʳ zeroʳ x) e
  where
    undo : (b : Bool) → not b ≡ false → b ≡ true
    undo true e = refl
    undo false e = absurd (cc)

answer_claimed : (s : Env) (q : Atom) (held : Bool) → holds_at q s ≡ held → AllClaimed s (answer_claims q held)
answer_claimed s (Atom.truth x) held e = tt
answer_claimed s (Atom.row a strict) true e = (record { claimed = e }, tt)
answer_claimed s (Atom.row a strict) false e = (record { claimed = ap (λ x. is_negative x (not strict)) (negated_at a s) ∙ denied (at a s) strict e }, tt)

path_claimed : (s : Env) (ps : List Taken) → Agrees s ps → AllClaimed s (path_claims ps)
path_claimed s [] h = tt
path_claimed s (p ∷ ps) h = claimed_append s (answer_claims p.atom p.held) (path_claims ps) (answer_claimed s p.atom p.held h.0) (path_claimed s ps h.1)

-- ---- The denied goal

minus_one_negative : is_negative minus_oneʳ true ≡ true
unfolding minus_oneʳ zeroʳ leqʳ ratio gcd gcd_steps
minus_one_negative = refl

not_order : (v w : Value) → (v ≤ᵛ w → ⊥) → leqᵛ v w ≡ false
not_order v w n = go (leqᵛ v w) refl
  where
    go : (b : Bool) → leqᵛ v w ≡ b → leqᵛ v w ≡ false
    go true e = absurd (n (record { holds = e }))
    go false e = e

below_claimed : (s : Env) (x y : Linear) → leqᵛ (value_in y s) (value_in x s) ≡ false → AllClaimed s (listed (below_claim x y))
unfolding leqᵛ
below_claimed s (Some a) (Some b) e = (record { claimed = below_at a b s ∙ ap not e }, tt)
below_claimed s (Some a) None e = (record { claimed = ap (λ x. is_negative x true) (constant_at minus_oneʳ s) ∙ minus_one_negative }, tt)
below_claimed s None y e = tt

denial_claimed : (s : Env) (up : Bool) (e : Ends) → (Compares up (value_in e.0 s) (value_in e.1 s) → ⊥) → AllClaimed s (listed (denial up e))
denial_claimed s true e n = below_claimed s e.0 e.1 (not_order _ _ n)
denial_claimed s false e n = below_claimed s e.1 e.0 (not_order _ _ n)

denied_claimed : (g : Goal) (s : List Val) (ps : List Taken) → IsTypedGoal g → IsTyped g.types s → IsPath g ps → Agrees (environment s) ps → (HoldsIn g (environment s) → ⊥) → AllClaimed (environment s) (listed (denial_at g.upper (end_at g ps)))
denied_claimed g s ps w t p a n = go (end_at g ps) refl
  where
    go : (q : Query Ends) → end_at g ps ≡ q → AllClaimed (environment s) (listed (denial_at g.upper q))
    go (done e) k = let v = ends_are_values g s ps e w t p a k in denial_claimed (environment s) g.upper e (λ h. n (subst (λ y. Compares g.upper (value g.stated (environment s) Choices.stop) y) v.1 (subst (λ x. Compares g.upper x (value_in e.1 (environment s))) v.0 h)))
    go bits k = tt
    go (ask q y m) k = tt

-- ---- Unsigned variables

unsigned_value : (ty : Ty) (v : Val) → is_unsigned_type ty ≡ true → has ty v ≡ true → leqʳ zeroʳ (number_of v) ≡ true
unsigned_value Ty.Bool v e h = absurd (cc)
unsigned_value Ty.Int v e h = absurd (cc)
unsigned_value Ty.UInt (Truth b) e h = absurd (cc)
unsigned_value Ty.UInt (Num x) e h = second _ _ h
  where
    second : (a b : Bool) → (a && b) ≡ true → b ≡ true
    second true b e = e
    second false b e = absurd (cc)
unsigned_value Ty.UReal (Truth b) e h = absurd (cc)
unsigned_value Ty.UReal (Num x) e h = h

sign_claimed : (types : Types) (s : Env) (x : ℕ) → has (types x) (s x) ≡ true → is_unsigned_type (types x) ≡ true → IsClaimed s (claim (negated (variable x)) false)
sign_claimed types s x h e = record { claimed = ap (λ y. leqʳ y zeroʳ) (negated_at (variable x) s) ∙ leq_minus zeroʳ (at (variable x) s) ∙ ap (λ y. leqʳ zeroʳ y) (variable_at x s) ∙ unsigned_value (types x) (s x) e h }

signs_claimed : (types : Types) (s : Env) (ks : List Claim) (n : ℕ) → HasTypes types s → AllClaimed s (sign_claims types ks n)
signs_claimed types s ks zero h = tt
signs_claimed types s ks (suc n) h = claimed_append s (sign_claims types ks n) _ (signs_claimed types s ks n h) (go (is_unsigned_type (types n)) refl (occurs_in_claims n ks))
  where
    go : (a : Bool) → is_unsigned_type (types n) ≡ a → (b : Bool) → AllClaimed s (cond (a && b) (claim (negated (variable n)) false ∷ []) [])
    go true e true = (sign_claimed types s n (h.typed n) e, tt)
    go true e false = tt
    go false e b = tt

signs_at : (g : Goal) (s : List Val) (ks : List Claim) → IsTyped g.types s → AllClaimed (environment s) ks → AllClaimed (environment s) (with_signs g ks)
signs_at g s ks t h = claimed_append (environment s) ks (sign_claims (types_in g.types) ks (length g.types)) h (signs_claimed (types_in g.types) (environment s) ks (length g.types) (typed_environment g.types s t))

pub answers_claimed : AnswersClaimTruths
answers_claimed g s ps t a = signs_at g s (path_claims ps ++ []) t (claimed_append (environment s) (path_claims ps) [] (path_claimed (environment s) ps a) tt)

pub denials_claimed : DenialsClaimTruths
denials_claimed g s ps w t p a n = signs_at g s (path_claims ps ++ listed (denial_at g.upper (end_at g ps))) t (claimed_append (environment s) (path_claims ps) (listed (denial_at g.upper (end_at g ps))) (path_claimed (environment s) ps a) (denied_claimed g s ps w t p a n))
