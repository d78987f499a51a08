-- A goal with a certificate holds in each state.
use Rattle.std.proofs.Common.{◌≡◌, List, [], refl, sym, ◌∙◌, subst, Bool, true, false, ◌⊎◌, inl, inr}
use Rattle.std.specs.Prelude.{Some, None}
use Rattle.std.specs.List.{All}
use Rattle.heyvl_num.specs.Value.{Value, leqᵛ, ◌≤ᵛ◌}
use Rattle.heyvl_num.specs.Value.Value.{finite, infinite}
use Rattle.heylo_formula.specs.Goals.{Goal, Compares, HoldsIn}
use Rattle.heylo_formula.specs.State.{Env, IsTyped, environment, number_of}
use Rattle.heylo_formula.specs.Choices.{Choices}
use Rattle.heylo_formula.specs.Meaning.{value}
use Rattle.heylo_formula.specs.declared.values.Val.{Val}
use Rattle.linear_form.specs.Query.{Taken, onto, holds_at}
use Rattle.linear_form.specs.Questions.{Ends, value_in, questions}
use Rattle.linear_form.specs.Splits.{split_at}
use Rattle.linear_values.specs.Lin.{Linear}
use Rattle.linear_form.specs.Paths.{IsPath, Path, Agrees}
use Rattle.linear_form.specs.PathRows.{denial, below_claim, rows_of}
use Rattle.linear_rows.specs.Row.{Row}
use Rattle.linear_rows.specs.Solutions.{MeetsAt}
use Rattle.heylo_formula.specs.TypedGoals.{IsTypedGoal}
use Rattle.linear_form.proofs.exported.MetRows.{rows_are_met, denied_rows_are_met}
use Rattle.linear_form.proofs.exported.AgreedEnds.{ends_are_values}
use Rattle.farkas_check.specs.CertificateLaws.{CertifiedGoalsHold}
use Rattle.linear_rows.proofs.exported.Combinations.{contradiction_unsolvable}
use Rattle.linear_form.proofs.exported.PathSteps.{plain_path, asked_onto, split_onto, agrees_onto}
use Rattle.goal_answers.specs.Trees.{Tree}
use Rattle.farkas_check.specs.AcceptedCertificates.{has_denied, IsAccepted}

at_most_infinite : (v : Value) → v ≤ᵛ infinite
unfolding leqᵛ
at_most_infinite (finite x) = record { holds = refl }
at_most_infinite infinite = record { holds = refl }

order_or : (v w : Value) → (v ≤ᵛ w) ⊎ (v ≤ᵛ w → ⊥)
order_or v w = go (leqᵛ v w) refl
  where
    go : (b : Bool) → leqᵛ v w ≡ b → (v ≤ᵛ w) ⊎ (v ≤ᵛ w → ⊥)
    go true e = inl (record { holds = e })
    go false e = inr (λ h. let k : true ≡ false = sym h.holds ∙ e in absurd (cc))

pub holds_or : (up : Bool) (v w : Value) → Compares up v w ⊎ (Compares up v w → ⊥)
holds_or true v w = order_or w v
holds_or false v w = order_or v w

none_below : (x y : Linear) → below_claim x y ≡ None → x ≡ None
none_below (Some a) (Some b) e = absurd (cc)
none_below (Some a) None e = absurd (cc)
none_below None y e = refl

pub plain_holds : (up : Bool) (e : Ends) (s : Env) → denial up e ≡ None → Compares up (value_in e.0 s) (value_in e.1 s)
plain_holds true e s h = subst (λ x. value_in e.1 s ≤ᵛ value_in x s) (sym (none_below e.0 e.1 h)) (at_most_infinite (value_in e.1 s))
plain_holds false e s h = subst (λ x. value_in e.0 s ≤ᵛ value_in x s) (sym (none_below e.1 e.0 h)) (at_most_infinite (value_in e.0 s))

rows_met : (g : Goal) (s : List Val) (ps : List Taken) (denied : Bool) (rows : List Row) → IsTypedGoal g → IsTyped g.types s → IsPath g ps → Agrees (environment s) ps → (HoldsIn g (environment s) → ⊥) → rows_of g ps denied ≡ Some rows → All (MeetsAt (λ x. number_of (environment s x))) rows
rows_met g s ps true rows w t p a n e = denied_rows_are_met g s ps rows w t p a n e
rows_met g s ps false rows w t p a n e = rows_are_met g s ps rows t p a e

pub accepted_holds : (g : Goal) (s : List Val) → IsTypedGoal g → IsTyped g.types s → (t : Tree) (ps : List Taken) → IsPath g ps → Agrees (environment s) ps → IsAccepted g ps t → HoldsIn g (environment s)
accepted_holds g s w h (Tree.split t u) _ p k (IsAccepted.split ps q _ _ a x y) = go (holds_at q (environment s)) refl (accepted_holds g s w h t (onto ps q true) (asked_onto g ps q true p a)) (accepted_holds g s w h u (onto ps q false) (asked_onto g ps q false p a))
  where
    go : (b : Bool) → holds_at q (environment s) ≡ b → (Agrees (environment s) (onto ps q true) → IsAccepted g (onto ps q true) t → HoldsIn g (environment s)) → (Agrees (environment s) (onto ps q false) → IsAccepted g (onto ps q false) u → HoldsIn g (environment s)) → HoldsIn g (environment s)
    go true e l r = l (agrees_onto (environment s) ps q true k e) x
    go false e l r = r (agrees_onto (environment s) ps q false k e) y
accepted_holds g s w h (Tree.farkas ms) _ p k (IsAccepted.farkas ps _ a) = go (holds_or g.upper (value g.stated (environment s) Choices.stop) (value g.found (environment s) Choices.stop))
  where
    go : HoldsIn g (environment s) ⊎ (HoldsIn g (environment s) → ⊥) → HoldsIn g (environment s)
    go (inl h) = h
    go (inr n) = absurd (contradiction_unsolvable ms a.rows a.contradiction (record { at_values = λ x. number_of (environment s x); meets = rows_met g s ps (has_denied g ps) a.rows w h p k n a.are_rows }))
accepted_holds g s w h Tree.plain _ p k (IsAccepted.plain ps a) = let v = ends_are_values g s ps a.ends w h p k a.at_end in subst (λ y. Compares g.upper (value g.stated (environment s) Choices.stop) y) v.1 (subst (λ x. Compares g.upper x (value_in a.ends.1 (environment s))) v.0 (plain_holds g.upper a.ends (environment s) a.plain))
accepted_holds g s w h (Tree.whole x m t u) _ p k (IsAccepted.whole ps _ _ _ _ a y z) = go (holds_at (split_at x m) (environment s)) refl (accepted_holds g s w h t (onto ps (split_at x m) true) (split_onto g ps x m true a.ends p a.at_end a.whole_type)) (accepted_holds g s w h u (onto ps (split_at x m) false) (split_onto g ps x m false a.ends p a.at_end a.whole_type))
  where
    go : (b : Bool) → holds_at (split_at x m) (environment s) ≡ b → (Agrees (environment s) (onto ps (split_at x m) true) → IsAccepted g (onto ps (split_at x m) true) t → HoldsIn g (environment s)) → (Agrees (environment s) (onto ps (split_at x m) false) → IsAccepted g (onto ps (split_at x m) false) u → HoldsIn g (environment s)) → HoldsIn g (environment s)
    go true e l r = l (agrees_onto (environment s) ps (split_at x m) true k e) y
    go false e l r = r (agrees_onto (environment s) ps (split_at x m) false k e) z

pub certificate_holds : CertifiedGoalsHold
certificate_holds g t w c s h = accepted_holds g s w h t [] (plain_path g [] (Path.start (questions g))) tt c.accepted
