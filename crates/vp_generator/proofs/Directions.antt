-- The binders of the generated form have the procedure's direction, below operators that keep the
-- best value.
use Rattle.std.proofs.Common.{◌≡◌, ℕ, refl, sym, ap, ap₂, ◌∙◌, subst, Bool, true, false, not, ◌||◌, ◌&&◌, List, [], ◌∷◌, ◌++◌}
use Rattle.heyvl_num.specs.Rational.{Rational}
use Rattle.heyvl_places.specs.declared.spans.Span.{Span}
use Rattle.heyvl_places.specs.declared.checks.CheckKind.{CheckKind}
use Rattle.heylo_formula.specs.Formula.{Form, Cond, Term}
use Rattle.heyvl_num.specs.Value.{oneᵛ}
use Rattle.heylo_formula.specs.Binders.{has_binder, has_binder_in}
use Rattle.heylo_formula.specs.Extrema.{is_directed, is_weight, is_number}
use Rattle.heylo_formula.specs.Operators.{agree}
use Rattle.heylo_formula.specs.Typing.{Types, is_well_typed, TermFits}
use Rattle.heylo_formula.specs.Substitution as Replaced
use Rattle.heylo_formula.proofs.exported.Plain.{term_plain, typed_plain}
use Rattle.heylo_formula.proofs.exported.Agreement.{neither, or_false, clash}
use Rattle.heylo_formula.proofs.exported.Substitutions.{subst_binders, subst_directions, binder_free_directed}
use Rattle.heyvl_acts.specs.Acts.{Act, Acts, Arms, TypedProcedure, types_of, acts_in}
use Rattle.heyvl_acts.specs.Places.{in_order, inside, inside_arms}
use Rattle.heyvl_acts.specs.Rules.{Each, is_against, binds, any_binds, NothingBindsBehind, FollowsDirection, MeetsRules}
use Rattle.heyvl_acts.specs.WellTypedActs.{PartsFit, ActFits, ActsFit, ArmsFit}
use Rattle.vp_generator.specs.GeneratedForms.{pick_form, check_form, validate_form, part_form, sum_of_parts, vp, vp_act, vp_arms}
use Rattle.vp_generator.specs.DirectedActs.{ChoosesToward}

-- ---- Lists of acts

both : (a b : Bool) → a ≡ true → b ≡ true → (a && b) ≡ true
both a b h k = rw (h, k)

binds_append : (xs ys : List Act) → any_binds (xs ++ ys) ≡ false → (any_binds xs ≡ false) × (any_binds ys ≡ false)
binds_append [] ys h = (refl, h)
binds_append (a ∷ xs) ys h = let k = or_false (binds a) (any_binds (xs ++ ys)) h in let l = binds_append xs ys k.1 in (neither k.0 l.0, l.1)

before : (co s : Bool) (xs ys : List Act) → NothingBindsBehind co s (xs ++ ys) → NothingBindsBehind co (s || any_binds ys) xs
before co s [] ys h = tt
before co s (a ∷ xs) ys h = ((λ e. let k = or_false s (any_binds (xs ++ ys)) (h.0 e) in let l = binds_append xs ys k.1 in neither (neither k.0 l.1) l.0), before co s xs ys h.1)

behind : (co s : Bool) (xs ys : List Act) → NothingBindsBehind co s (xs ++ ys) → NothingBindsBehind co s ys
behind co s [] ys h = h
behind co s (a ∷ xs) ys h = behind co s xs ys h.1

each_first : (P : Act → Type 0) (xs ys : List Act) → Each P (xs ++ ys) → Each P xs
each_first P [] ys h = tt
each_first P (a ∷ xs) ys h = (h.0, each_first P xs ys h.1)

each_second : (P : Act → Type 0) (xs ys : List Act) → Each P (xs ++ ys) → Each P ys
each_second P [] ys h = h
each_second P (a ∷ xs) ys h = each_second P xs ys h.1

-- ---- Acts that bind nothing

no_term : (types : Types) (x : ℕ) (t : Term) (k : Form) → TermFits types (types x) t → has_binder k ≡ false → has_binder (Replaced.subst x t k) ≡ false
no_term types x t k h i = subst_binders x t k (term_plain types (types x) t h) ∙ i

no_parts : (types : Types) (x : ℕ) (ps : List (Rational × Term)) (k total : Form) → PartsFit types x ps → has_binder k ≡ false → has_binder total ≡ false → has_binder (sum_of_parts x ps k total) ≡ false
no_parts types x [] k total h i j = j
no_parts types x (p ∷ ps) k total h i j = no_parts types x ps k (Form.sum total (part_form x p k)) h.1 i (neither j (no_term types x p.1 k h.0.1 i))

no_pick : (up : Bool) (a b : Form) → has_binder a ≡ false → has_binder b ≡ false → has_binder (pick_form up a b) ≡ false
no_pick true a b h k = neither h k
no_pick false a b h k = neither h k

no_check : (kind : CheckKind) (a b : Form) → has_binder a ≡ false → has_binder b ≡ false → has_binder (check_form kind a b) ≡ false
no_check CheckKind.Assert a b h k = neither h k
no_check CheckKind.Assume a b h k = neither h k
no_check CheckKind.CoAssert a b h k = neither h k
no_check CheckKind.CoAssume a b h k = neither h k

no_validate : (co : Bool) (a : Form) → has_binder a ≡ false → has_binder (validate_form co a) ≡ false
no_validate true a h = h
no_validate false a h = h

mutual
  no_act : (types : Types) (a : Act) (k : Form) → ActFits types a → binds a ≡ false → any_binds (inside a) ≡ false → has_binder k ≡ false → has_binder (vp_act a k) ≡ false
  no_act types (Act.set x t span) k h b i e = no_term types x t k h e
  no_act types (Act.draw x [] span) k h b i e = absurd h
  no_act types (Act.draw x (p ∷ ps) span) k h b i e = no_parts types x ps k (part_form x p k) h.1 e (no_term types x p.1 k h.0.1 e)
  no_act types (Act.toss x f span) k h b i e = neither (neither (neither h.1.0.1 refl) (no_term types x (Term.truth (Cond.constant true)) k (h.0, refl) e)) (neither (neither refl (neither h.1.0.1 refl)) (no_term types x (Term.truth (Cond.constant false)) k (h.0, refl) e))
  no_act types (Act.any x up ty span) k h b i e = absurd (cc)
  no_act types (Act.reward f span) k h b i e = neither e h.1
  no_act types (Act.ifs arms o span) k h b i e = let l = binds_append (inside_arms arms) (in_order o) i in no_arms types arms k (vp o k) h.0 l.0 e (no_acts types o k h.1 l.1 e)
  no_act types (Act.pick up x y span) k h b i e = let l = binds_append (in_order x) (in_order y) i in no_pick up (vp x k) (vp y k) (no_acts types x k h.0 l.0 e) (no_acts types y k h.1 l.1 e)
  no_act types (Act.check kind f span) k h b i e = no_check kind f k h.1 e
  no_act types (Act.validate co span) k h b i e = no_validate co k e
  no_act types (Act.loop l x) k h b i e = absurd h
  no_act types (Act.call xs p es span) k h b i e = absurd h

  no_acts : (types : Types) (acts : Acts) (k : Form) → ActsFit types acts → any_binds (in_order acts) ≡ false → has_binder k ≡ false → has_binder (vp acts k) ≡ false
  no_acts types Acts.done k h b e = e
  no_acts types (Acts.next a rest) k h b e =
      let o = or_false (binds a) (any_binds (inside a ++ in_order rest)) b in
      let l = binds_append (inside a) (in_order rest) o.1 in
      no_act types a (vp rest k) h.0 o.0 l.0 (no_acts types rest k h.1 l.1 e)

  no_arms : (types : Types) (arms : Arms) (k o : Form) → ArmsFit types arms → any_binds (inside_arms arms) ≡ false → has_binder k ≡ false → has_binder o ≡ false → has_binder (vp_arms arms k o) ≡ false
  no_arms types Arms.no_arm k o h b e f = f
  no_arms types (Arms.arm g x more) k o h b e f =
      let l = binds_append (in_order x) (inside_arms more) b in
      neither (typed_plain types g h.0) (neither (no_acts types x k h.1.0 l.0 e) (no_arms types more k o h.1.1 l.1 e f))

-- ---- Directions

toward_term : (co : Bool) (types : Types) (x : ℕ) (t : Term) (k : Form) → TermFits types (types x) t → is_directed co k ≡ true → is_directed co (Replaced.subst x t k) ≡ true
toward_term co types x t k h i = subst_directions co x t k (term_plain types (types x) t h) i

one_number : is_number (Form.number oneᵛ) ≡ true
unfolding oneᵛ
one_number = refl

toward_weighed : (co : Bool) (a b : Form) (span : Span) → is_weight a ≡ true → is_directed co b ≡ true → is_directed co (Form.product a b span) ≡ true
toward_weighed co a b span w d = go (not (has_binder (Form.product a b span)))
  where
    go : (x : Bool) → (x || (is_weight a && is_directed co b)) ≡ true
    go true = refl
    go false = both _ _ w d

toward_parts : (co : Bool) (types : Types) (x : ℕ) (ps : List (Rational × Term)) (k total : Form) → PartsFit types x ps → is_directed co k ≡ true → is_directed co total ≡ true → is_directed co (sum_of_parts x ps k total) ≡ true
toward_parts co types x [] k total h i j = j
toward_parts co types x (p ∷ ps) k total h i j = toward_parts co types x ps k (Form.sum total (part_form x p k)) h.1 i (both _ _ j (toward_term co types x p.1 k h.0.1 i))

toward_pick : (co up : Bool) (a b : Form) → is_directed co a ≡ true → is_directed co b ≡ true → is_directed co (pick_form up a b) ≡ true
toward_pick co true a b h k = both _ _ h k
toward_pick co false a b h k = both _ _ h k

no : (b : Bool) → b ≡ false → not b ≡ true
no b h = rw h

toward_check : (co : Bool) (kind : CheckKind) (f k : Form) (span : Span) → has_binder f ≡ false → (is_against co (Act.check kind f span) ≡ true → has_binder k ≡ false) → is_directed co k ≡ true → is_directed co (check_form kind f k) ≡ true
toward_check co CheckKind.Assert f k span h g i = both _ _ (binder_free_directed co f h) i
toward_check co CheckKind.CoAssert f k span h g i = both _ _ (binder_free_directed co f h) i
toward_check true CheckKind.Assume f k span h g i = both _ _ (no _ h) (no _ (g refl))
toward_check false CheckKind.Assume f k span h g i = both _ _ (no _ h) i
toward_check true CheckKind.CoAssume f k span h g i = both _ _ (no _ h) i
toward_check false CheckKind.CoAssume f k span h g i = both _ _ (no _ h) (no _ (g refl))

toward_validate : (co d : Bool) (k : Form) → (not (agree co d) ≡ true → has_binder k ≡ false) → is_directed co k ≡ true → is_directed co (validate_form d k) ≡ true
toward_validate true true k g i = i
toward_validate true false k g i = no _ (g refl)
toward_validate false true k g i = no _ (g refl)
toward_validate false false k g i = i

agrees : (co up : Bool) → up ≡ co → agree co up ≡ true
agrees true true h = refl
agrees true false h = absurd (cc)
agrees false true h = absurd (cc)
agrees false false h = refl

mutual
  toward_act : (co s : Bool) (types : Types) (a : Act) (k : Form) → (s ≡ false → has_binder k ≡ false) → ActFits types a → (is_against co a ≡ true → has_binder k ≡ false) → ChoosesToward co a → Each (ChoosesToward co) (inside a) → NothingBindsBehind co s (inside a) → is_directed co k ≡ true → is_directed co (vp_act a k) ≡ true
  toward_act co s types (Act.set x t span) k v h g t1 e n d = toward_term co types x t k h d
  toward_act co s types (Act.draw x [] span) k v h g t1 e n d = absurd h
  toward_act co s types (Act.draw x (p ∷ ps) span) k v h g t1 e n d = toward_parts co types x ps k (part_form x p k) h.1 d (toward_term co types x p.1 k h.0.1 d)
  toward_act co s types (Act.toss x f span) k v h g t1 e n d = both _ _ (toward_weighed co (Form.min f (Form.number oneᵛ)) (Replaced.subst x (Term.truth (Cond.constant true)) k) span (both _ _ (no _ h.1.0.1) one_number) (toward_term co types x (Term.truth (Cond.constant true)) k (h.0, refl) d)) (toward_weighed co (Form.cut (Form.number oneᵛ) (Form.min f (Form.number oneᵛ))) (Replaced.subst x (Term.truth (Cond.constant false)) k) span (both _ _ one_number (no _ (neither h.1.0.1 refl))) (toward_term co types x (Term.truth (Cond.constant false)) k (h.0, refl) d))
  toward_act co s types (Act.any x up ty span) k v h g t1 e n d = both _ _ (agrees co up t1) d
  toward_act co s types (Act.reward f span) k v h g t1 e n d = both _ _ d (binder_free_directed co f h.1)
  toward_act co s types (Act.ifs arms o span) k v h g t1 e n d =
      toward_arms co (s || any_binds (in_order o)) types arms k (vp o k) (λ q. v (or_false s (any_binds (in_order o)) q).0) h.0 (each_first _ (inside_arms arms) (in_order o) e) (before co s (inside_arms arms) (in_order o) n) d
      (toward_acts co s types o k v h.1 (each_second _ (inside_arms arms) (in_order o) e) (behind co s (inside_arms arms) (in_order o) n) d)
  toward_act co s types (Act.pick up a b span) k v h g t1 e n d =
      toward_pick co up (vp a k) (vp b k)
      (toward_acts co (s || any_binds (in_order b)) types a k (λ q. v (or_false s (any_binds (in_order b)) q).0) h.0 (each_first _ (in_order a) (in_order b) e) (before co s (in_order a) (in_order b) n) d)
      (toward_acts co s types b k v h.1 (each_second _ (in_order a) (in_order b) e) (behind co s (in_order a) (in_order b) n) d)
  toward_act co s types (Act.check kind f span) k v h g t1 e n d = toward_check co kind f k span h.1 g d
  toward_act co s types (Act.validate c span) k v h g t1 e n d = toward_validate co c k g d
  toward_act co s types (Act.loop l b) k v h g t1 e n d = absurd h
  toward_act co s types (Act.call xs p es span) k v h g t1 e n d = absurd h

  toward_acts : (co s : Bool) (types : Types) (acts : Acts) (k : Form) → (s ≡ false → has_binder k ≡ false) → ActsFit types acts → Each (ChoosesToward co) (in_order acts) → NothingBindsBehind co s (in_order acts) → is_directed co k ≡ true → is_directed co (vp acts k) ≡ true
  toward_acts co s types Acts.done k v h e n d = d
  toward_acts co s types (Acts.next a rest) k v h e n d =
      let f = toward_acts co s types rest k v h.1 (each_second _ (inside a) (in_order rest) e.1) (behind co s (inside a) (in_order rest) n.1) d in
      let w : (s || any_binds (in_order rest)) ≡ false → has_binder (vp rest k) ≡ false = λ q. let o = or_false s (any_binds (in_order rest)) q in no_acts types rest k h.1 o.1 (v o.0) in
      toward_act co (s || any_binds (in_order rest)) types a (vp rest k) w h.0
      (λ q. let o = or_false s (any_binds (inside a ++ in_order rest)) (n.0 q) in let l = binds_append (inside a) (in_order rest) o.1 in no_acts types rest k h.1 l.1 (v o.0))
      e.0 (each_first _ (inside a) (in_order rest) e.1) (before co s (inside a) (in_order rest) n.1) f

  toward_arms : (co s : Bool) (types : Types) (arms : Arms) (k o : Form) → (s ≡ false → has_binder k ≡ false) → ArmsFit types arms → Each (ChoosesToward co) (inside_arms arms) → NothingBindsBehind co s (inside_arms arms) → is_directed co k ≡ true → is_directed co o ≡ true → is_directed co (vp_arms arms k o) ≡ true
  toward_arms co s types Arms.no_arm k o v h e n d f = f
  toward_arms co s types (Arms.arm g b more) k o v h e n d f =
      both _ _ (no _ (typed_plain types g h.0)) (both _ _
      (toward_acts co (s || any_binds (inside_arms more)) types b k (λ q. v (or_false s (any_binds (inside_arms more)) q).0) h.1.0 (each_first _ (in_order b) (inside_arms more) e) (before co s (in_order b) (inside_arms more) n) d)
      (toward_arms co s types more k o v h.1.1 (each_second _ (in_order b) (inside_arms more) e) (behind co s (in_order b) (inside_arms more) n) d f))

pub generated_directed : (co : Bool) (types : Types) (acts : Acts) (post : Form) → ActsFit types acts → Each (ChoosesToward co) (in_order acts) → NothingBindsBehind co (has_binder post) (in_order acts) → is_directed co post ≡ true → is_directed co (vp acts post) ≡ true
generated_directed co types acts post h e n d = toward_acts co (has_binder post) types acts post (λ q. q) h e n d

-- ---- Typed procedures

chooses : (ps : List TypedProcedure) (p : TypedProcedure) (a : Act) → FollowsDirection ps p a → ChoosesToward p.co a
chooses ps p (Act.any x up ty span) h = h
chooses ps p (Act.set x t span) h = tt
chooses ps p (Act.draw x qs span) h = tt
chooses ps p (Act.toss x f span) h = tt
chooses ps p (Act.reward f span) h = tt
chooses ps p (Act.ifs arms e span) h = tt
chooses ps p (Act.pick up a b span) h = tt
chooses ps p (Act.check kind f span) h = tt
chooses ps p (Act.validate d span) h = tt
chooses ps p (Act.loop l b) h = tt
chooses ps p (Act.call xs q es span) h = tt

each_chooses : (ps : List TypedProcedure) (p : TypedProcedure) (xs : List Act) → Each (FollowsDirection ps p) xs → Each (ChoosesToward p.co) xs
each_chooses ps p [] h = tt
each_chooses ps p (a ∷ xs) h = (chooses ps p a h.0, each_chooses ps p xs h.1)

pub procedure_directed : (ps : List TypedProcedure) (p : TypedProcedure) → MeetsRules ps p → ActsFit (types_of p) (acts_in p.body) → is_directed p.co (vp (acts_in p.body) p.post) ≡ true
procedure_directed ps p m h = generated_directed p.co (types_of p) (acts_in p.body) p.post h (each_chooses ps p (in_order (acts_in p.body)) m.directions) m.binders m.post_directed
