-- The program's result for two procedures of a file is their pair.
use Rattle.std.proofs.Common.{◌≡◌, ◌∙◌, ◌<◌, ◌≤◌, ◌+◌, ◌^◌, ℕ, sym, ap, subst, arith, List, [], ◌∷◌, ◌++◌, length, get_or}
use Rattle.std.proofs.lemmas.List.{length-append}
use Rattle.heylo_formula.specs.Formula.{Form}
use Rattle.heylo_formula.specs.PlainTrees.{form_of}
use Rattle.heylo_formula.specs.Variables.{IsOver}
use Rattle.heyvl_acts.specs.Acts.{Acts, Head, TypedProcedure, procedure_at, variables}
use Rattle.heyvl_acts.specs.FormSizes.{FormsWithin}
use Rattle.heyvl_acts.specs.PlainActs.{procedure_of, procedures_of}
use Rattle.heyvl_acts.specs.Rules.{Each, MeetsAllRules, MeetsRules}
use Rattle.heyvl_acts.specs.declared.typed_trees.TProc.{TProc}
use Rattle.heyvl_acts.specs.declared.typed_trees.Typed.{Typed}
use Rattle.loop_encodings.proofs.exported.FromRules.{procedure_is}
use Rattle.vp_generator.specs.PrenexedForms.{unbound}
use Rattle.lower_goals.specs.OmegaPairs.{IsOmegaPair, OmegaPair, by_position, formula_of}
use Rattle.lower_goals.specs.OneLoop.{IsOneLoop, OneLoop}
use Rattle.lower_goals.specs.declared.pairs.Pair.{Pair}
use Rattle.lower_goals.specs.LentOmegaPairs.{IsPairAt, behind, body, head}
use Rattle.lower_goals.specs.internal.Pairs.{IsPlainOver}
use Rattle.lower_goals.proofs.GoalVariables.{each_less, each_place, inputs_length}
use Rattle.lower_goals.proofs.OmegaParts.{scope_below}
use Rattle.lower_goals.proofs.ReadyPairs.{held_at, scope_few, vars_few, vars_length}
use Rattle.lower_goals.proofs.UniqueLoops.{unique_loops}

-- ---- The visible variables at the loop

module _ (file : List TypedProcedure) (x : TProc) (rules : MeetsRules file (procedure_of x)) (l : OneLoop (procedure_of x)) where
  pub scope_at : Each (λ k. k < length x.vars.items) l.head.scope
  scope_at = each_less (length (variables (procedure_of x))) (length x.vars.items) l.head.scope (let e = vars_length x in omega (arith, e)) (scope_below file (procedure_of x) rules l)

  pub scope_short : length l.head.scope < 1000
  scope_short = let f = scope_few file (procedure_of x) rules l in omega (arith, f)

  pub vars_short : length x.vars.items < 1000
  vars_short = let f = vars_few file x rules in omega (arith, f)

-- ---- The formula

pub places_near : (xs : List ℕ) (n : ℕ) → n < 1000 → Each (λ k. k < n) xs → Each (λ k. k < 1000) (xs ++ n ∷ [])
places_near xs n l h = each_place n 1000 xs l h

pub places_few : (xs : List ℕ) (n : ℕ) → length xs < 1000 → length (xs ++ n ∷ []) ≤ 1000
places_few xs n l = let e = length-append xs (n ∷ []) in omega (arith, e, l)

pub over_places : (xs : List ℕ) (n : ℕ) (f : Form) → IsPlainOver (length xs + 1) f → IsOver (length (xs ++ n ∷ [])) f
over_places xs n f h y k = let o = h.over y k in let e = length-append xs (n ∷ []) in omega (arith, o, e)

pub formula_made : (x y : TProc) (h : Head) (ps : List ℕ) (f : Form) → ps ≡ h.scope ++ length x.vars.items ∷ [] → f ≡ unbound (by_position ps) 0 (form_of y.pre) → f ≡ formula_of (procedure_of x) h (procedure_of y)
formula_made x y h ps f e g = g ∙ ap (λ l. unbound (by_position l) 0 (form_of y.pre)) (e ∙ ap (λ n. h.scope ++ n ∷ []) (sym (vars_length x)))

pub pre_plain_over : (file : List TypedProcedure) (x y : TProc) (h : Head) → MeetsRules file (procedure_of y) → IsOmegaPair (procedure_of x) h (procedure_of y) → IsPlainOver (length h.scope + 1) (form_of y.pre)
pre_plain_over file x y h rules pair = record {
  plain = rules.pre.1;
  over = λ k i. let o = rules.pre_over k i in let e = inputs_length (procedure_of x) h (procedure_of y) pair in omega (arith, o, e);
}

-- ---- The pair

module _ (typed : Typed) (p q : ℕ) (x y : TProc) (rules : MeetsAllRules typed) (small : Each (FormsWithin (2 ^ 27)) (procedures_of typed)) (here : p < length typed.procs.items) (there : q < length typed.procs.items) (x_is : x ≡ get_or typed.procs.items p x) (y_is : y ≡ get_or typed.procs.items q y) where
  pub first_rules : MeetsRules (procedures_of typed) (procedure_of x)
  first_rules = held_at (MeetsRules (procedures_of typed)) typed.procs.items p x rules.each here x_is

  pub second_rules : MeetsRules (procedures_of typed) (procedure_of y)
  second_rules = held_at (MeetsRules (procedures_of typed)) typed.procs.items q y rules.each there y_is

  pub loop_at : (front : Acts) (h : Head) (b behind : Acts) → IsOneLoop (procedure_at (procedures_of typed) p) front h b behind → IsOneLoop (procedure_of x) front h b behind
  loop_at front h b behind is = subst (λ (a : TypedProcedure). IsOneLoop a front h b behind) (procedure_is typed.procs.items p x here x_is) is

  pub pair_at : (pair : Pair) (front : Acts) → pair.procedure.now ≡ x → pair.other.now ≡ y → IsOneLoop (procedure_of pair.procedure.now) front (head pair) (body pair) (behind pair) → IsOmegaPair (procedure_of pair.procedure.now) (head pair) (procedure_of pair.other.now) → form_of pair.formula ≡ formula_of (procedure_of pair.procedure.now) (head pair) (procedure_of pair.other.now) → IsPairAt typed p q pair
  pair_at pair front e f is shape formula = record {
    ready = record {
      file = procedures_of typed;
      rules = subst (λ (a : TProc). MeetsRules (procedures_of typed) (procedure_of a)) (sym e) first_rules;
      other_rules = subst (λ (a : TProc). MeetsRules (procedures_of typed) (procedure_of a)) (sym f) second_rules;
      within = subst (λ (a : TProc). FormsWithin (2 ^ 27) (procedure_of a)) (sym e) (held_at (FormsWithin (2 ^ 27)) typed.procs.items p x small here x_is);
      other_within = subst (λ (a : TProc). FormsWithin (2 ^ 27) (procedure_of a)) (sym f) (held_at (FormsWithin (2 ^ 27)) typed.procs.items q y small there y_is);
      front = front;
      is = is;
      pair = shape;
      formula = formula;
    };
    first_is = procedure_is typed.procs.items p x here x_is ∙ ap procedure_of (sym e);
    second_is = procedure_is typed.procs.items q y there y_is ∙ ap procedure_of (sym f);
  }

  pub no_pair : (front : Acts) (h : Head) (b behind : Acts) → IsOneLoop (procedure_of x) front h b behind → (IsOmegaPair (procedure_of x) h (procedure_of y) → ⊥) → OmegaPair (procedure_at (procedures_of typed) p) (procedure_at (procedures_of typed) q) → ⊥
  no_pair front h b behind is none o = at (subst (λ (a : TypedProcedure). OmegaPair a (procedure_of y)) (procedure_is typed.procs.items p x here x_is) (subst (λ (a : TypedProcedure). OmegaPair (procedure_at (procedures_of typed) p) a) (procedure_is typed.procs.items q y there y_is) o))
    where
      at : OmegaPair (procedure_of x) (procedure_of y) → ⊥
      at k = none (subst (λ g. IsOmegaPair (procedure_of x) g (procedure_of y)) (unique_loops (procedure_of x) k.loop (record { front = front; head = h; body = b; behind = behind; is = is })).head_is k.pair)

  -- The requirements for making the formula.
  module _ (front : Acts) (h : Head) (b behind : Acts) (found : IsOneLoop (procedure_at (procedures_of typed) p) front h b behind) where
    abbrev the_loop : OneLoop (procedure_of x)
    the_loop = record { front = front; head = h; body = b; behind = behind; is = loop_at front h b behind found }

    pub below_at : Each (λ k. k < length x.vars.items) h.scope
    below_at = scope_at (procedures_of typed) x first_rules the_loop

    pub short_at : length h.scope < 1000
    short_at = scope_short (procedures_of typed) x first_rules the_loop

    pub few_at : length x.vars.items < 1000
    few_at = vars_short (procedures_of typed) x first_rules the_loop

    pub plain_at : IsOmegaPair (procedure_of x) h (procedure_of y) → IsPlainOver (length h.scope + 1) (form_of y.pre)
    plain_at pair = pre_plain_over (procedures_of typed) x y h second_rules pair
