-- A state that has the truths of a path and satisfies its rows agrees with it; with the denied goal
-- among the rows, the goal fails.
use Rattle.std.proofs.Common.{◌≡◌, List, [], ◌∷◌, ◌++◌, length, refl, sym, ap, ◌∙◌, subst, Bool, true, false, not, cond}
use Rattle.std.specs.Prelude.{Some, None}
use Rattle.heyvl_num.specs.Rational.{Rational, zeroʳ, ◌-ʳ◌}
use Rattle.heyvl_num.specs.Value.{Value, leqᵛ, ◌≤ᵛ◌}
use Rattle.heylo_formula.specs.Goals.{Goal, Compares}
use Rattle.heylo_formula.specs.State.{Env, environment}
use Rattle.heylo_formula.specs.Choices.{Choices}
use Rattle.heylo_formula.specs.Meaning.{value}
use Rattle.linear_values.specs.Lin.{Lin, at, Linear}
use Rattle.linear_form.specs.Query.{Atom, Taken, holds_at}
use Rattle.linear_rows.specs.Numbers.{is_negative}
use Rattle.linear_form.specs.Questions.{Ends, value_in}
use Rattle.linear_form.specs.Paths.{Agrees, end_at}
use Rattle.heylo_formula.specs.Typing.{types_in}
use Rattle.linear_values.specs.Tightening.{Claim}
use Rattle.linear_values.specs.Claims.{AllClaimed}
use Rattle.linear_form.specs.PathRows.{answer_claims, path_claims, below_claim, denial, listed, denial_at, sign_claims, claims_of}
use Rattle.linear_form.specs.PointLaws.{HasTruths, PointsAgree, PointsFalsify}
use Rattle.linear_values.proofs.exported.LinearValues.{leq_zero_minus, leq_minus, below_at}
use Rattle.linear_form.proofs.MetClaims.{negated_at}
use Rattle.linear_form.proofs.NormalClaims.{all_nonzero}
use Rattle.linear_form.proofs.AgreedEnds.{ends_are_values}
use Rattle.linear_form.proofs.ClaimedRows.{rows_claim}
use Rattle.linear_form.proofs.KnownTruths.{IsKnownTruth, AreKnown, path_known}

pub first_claimed : (s : Env) (ks ls : List Claim) → AllClaimed s (ks ++ ls) → AllClaimed s ks
first_claimed s [] ls h = tt
first_claimed s (k ∷ ks) ls h = (h.0, first_claimed s ks ls h.1)

pub second_claimed : (s : Env) (ks ls : List Claim) → AllClaimed s (ks ++ ls) → AllClaimed s ls
second_claimed s [] ls h = h
second_claimed s (k ∷ ks) ls h = second_claimed s ks ls h.1

-- ---- The answers of the path

undone : (b : Bool) → not b ≡ true → b ≡ false
undone true e = absurd (cc)
undone false e = refl

denied_back : (x : Rational) (strict : Bool) → is_negative (zeroʳ -ʳ x) (not strict) ≡ true → is_negative x strict ≡ false
denied_back x false e = sym (leq_zero_minus zeroʳ x) ∙ undone _ e
denied_back x true e = ap not (sym (leq_minus zeroʳ x) ∙ e)

answer_holds : (s : Env) (a : Lin) (strict held : Bool) → AllClaimed s (answer_claims (Atom.row a strict) held) → is_negative (at a s) strict ≡ held
answer_holds s a strict true h = h.0.claimed
answer_holds s a strict false h = denied_back (at a s) strict (sym (ap (λ x. is_negative x (not strict)) (negated_at a s)) ∙ h.0.claimed)

answered : (s : Env) (ks : List Taken) (q : Atom) (held : Bool) → HasTruths s ks → IsKnownTruth ks q held → AllClaimed s (answer_claims q held) → holds_at q s ≡ held
answered s ks (Atom.truth x) held h k c = h x held k
answered s ks (Atom.row a strict) held h k c = answer_holds s a strict held c

agrees : (s : Env) (ks ps : List Taken) → HasTruths s ks → AreKnown ks ps → AllClaimed s (path_claims ps) → Agrees s ps
agrees s ks [] h k c = tt
agrees s ks (p ∷ ps) h k c = (answered s ks p.atom p.held h k.0 (first_claimed s (answer_claims p.atom p.held) (path_claims ps) c), agrees s ks ps h k.1 (second_claimed s (answer_claims p.atom p.held) (path_claims ps) c))

before_signs : (g : Goal) (ps : List Taken) (denied : Bool) (s : Env) → AllClaimed s (claims_of g ps denied) → AllClaimed s (path_claims ps ++ cond denied (listed (denial_at g.upper (end_at g ps))) [])
before_signs g ps denied s h = first_claimed s (path_claims ps ++ cond denied (listed (denial_at g.upper (end_at g ps))) []) (sign_claims (types_in g.types) (path_claims ps ++ cond denied (listed (denial_at g.upper (end_at g ps))) []) (length g.types)) h

pub points_agree : PointsAgree
points_agree g ps denied rows s p e h m = agrees s ps ps h (path_known g ps p) (first_claimed s (path_claims ps) (cond denied (listed (denial_at g.upper (end_at g ps))) []) (before_signs g ps denied s (rows_claim (types_in g.types) s (claims_of g ps denied) rows (all_nonzero g ps denied p) e m)))

-- ---- The denied goal

below_fails : (s : Env) (x y : Linear) → (below_claim x y ≡ None → ⊥) → AllClaimed s (listed (below_claim x y)) → leqᵛ (value_in y s) (value_in x s) ≡ false
unfolding leqᵛ
below_fails s (Some a) (Some b) n h = undone _ (sym (below_at a b s) ∙ h.0.claimed)
below_fails s (Some a) None n h = refl
below_fails s None y n h = absurd (n refl)

order_fails : (v w : Value) → leqᵛ v w ≡ false → v ≤ᵛ w → ⊥
order_fails v w e h = let k : true ≡ false = sym h.holds ∙ e in absurd (cc)

denial_fails : (s : Env) (up : Bool) (e : Ends) → (denial up e ≡ None → ⊥) → AllClaimed s (listed (denial up e)) → Compares up (value_in e.0 s) (value_in e.1 s) → ⊥
denial_fails s true e n h = order_fails _ _ (below_fails s e.0 e.1 n h)
denial_fails s false e n h = order_fails _ _ (below_fails s e.1 e.0 n h)

pub points_falsify : PointsFalsify
points_falsify g ps e rows s w t p k n r h m holds =
    let c = before_signs g ps true (environment s) (rows_claim (types_in g.types) (environment s) (claims_of g ps true) rows (all_nonzero g ps true p) r m) in
    let a = agrees (environment s) ps ps h (path_known g ps p) (first_claimed (environment s) (path_claims ps) (listed (denial_at g.upper (end_at g ps))) c) in
    let d = subst (λ q. AllClaimed (environment s) (listed (denial_at g.upper q))) k (second_claimed (environment s) (path_claims ps) (listed (denial_at g.upper (end_at g ps))) c) in
    let v = ends_are_values g s ps e w t p a k in
    denial_fails (environment s) g.upper e (λ z. n (record { ends = e; at_end = k; plain = z })) d (subst (λ y. Compares g.upper (value_in e.0 (environment s)) y) (sym v.1) (subst (λ x. Compares g.upper x (value g.found (environment s) Choices.stop)) (sym v.0) holds))
