use Rattle.std.proofs.Common.{◌≡◌, ◌∙◌, ◌<◌, ◌≤◌, ℕ, List, ◌++◌, ◌∷◌, [], refl, sym, ap, ap₂, subst, length}
use Rattle.std.specs.List.{AllZip}
use Rattle.std.proofs.lemmas.Result.{IfOk-weaker}
use Rattle.heylo_formula.specs.PlainTrees.{form_of}
use Rattle.heylo_formula.specs.Variables.{IsOver}
use Rattle.heyvl_acts.proofs.exported.PlainActsAre.{head_of}
use Rattle.heyvl_acts.specs.Rules.{Each}
use Rattle.lower_goals.proofs.PairsAt.{formula_made, over_places, places_few, places_near}
use Rattle.lower_goals.proofs.pairs.formula_for.Goals as goal

same_items : (xs ys : List ℕ) → AllZip (λ a b. b ≡ a) xs ys → ys ≡ xs
same_items [] [] h = refl
same_items [] (y ∷ ys) h = absurd h
same_items (x ∷ xs) [] h = absurd h
same_items (x ∷ xs) (y ∷ ys) h = ap (λ r. r ∷ ys) h.0 ∙ ap (λ r. x ∷ r) (same_items xs ys h.1)

pub placed-requires-clause-plain : goal.placed-requires-clause-plain
placed-requires-clause-plain c = c.requires.pre.plain

pub placed-requires-clause-over : goal.placed-requires-clause-over
placed-requires-clause-over c = subst (λ (xs : List ℕ). IsOver (length xs) (form_of c.args.other.now.pre)) (sym (c.deref.ensures.value ∙ (c.in_ok-push.ensures.items ∙ ap₂ (λ (xs : List ℕ) (n : ℕ). xs ++ n ∷ []) (same_items c.args.one.now.scope.items c.in_ok-places.places.items c.in_ok-places.ensures.cases.0) (c.len.ensures ∙ c.args.procedure.now.vars.ok.0)))) (over_places c.args.one.now.scope.items (length c.args.procedure.now.vars.items) (form_of c.args.other.now.pre) c.requires.pre)

pub placed-requires-clause-few : goal.placed-requires-clause-few
placed-requires-clause-few c = subst (λ (xs : List ℕ). length xs ≤ 1000) (sym (c.deref.ensures.value ∙ (c.in_ok-push.ensures.items ∙ ap₂ (λ (xs : List ℕ) (n : ℕ). xs ++ n ∷ []) (same_items c.args.one.now.scope.items c.in_ok-places.places.items c.in_ok-places.ensures.cases.0) (c.len.ensures ∙ c.args.procedure.now.vars.ok.0)))) (places_few c.args.one.now.scope.items (length c.args.procedure.now.vars.items) c.requires.visible)

pub placed-requires-clause-near : goal.placed-requires-clause-near
placed-requires-clause-near c = subst (λ (xs : List ℕ). Each (λ k. k < 1000) xs) (sym (c.deref.ensures.value ∙ (c.in_ok-push.ensures.items ∙ ap₂ (λ (xs : List ℕ) (n : ℕ). xs ++ n ∷ []) (same_items c.args.one.now.scope.items c.in_ok-places.places.items c.in_ok-places.ensures.cases.0) (c.len.ensures ∙ c.args.procedure.now.vars.ok.0)))) (places_near c.args.one.now.scope.items (length c.args.procedure.now.vars.items) c.requires.few c.requires.below)

pub returns : goal.returns
returns c = IfOk-weaker c.placed.result _ _ (λ f e. formula_made c.args.procedure.now c.args.other.now (head_of c.args.one.now) _ (form_of f) (c.deref.ensures.value ∙ (c.in_ok-push.ensures.items ∙ ap₂ (λ (xs : List ℕ) (n : ℕ). xs ++ n ∷ []) (same_items c.args.one.now.scope.items c.in_ok-places.places.items c.in_ok-places.ensures.cases.0) (c.len.ensures ∙ c.args.procedure.now.vars.ok.0))) e) c.placed.ensures
