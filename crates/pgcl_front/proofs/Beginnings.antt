-- The first statements of a translated program: each output is assigned its input. After them, the
-- outputs have the values of the variables, and the procedure has taken as many steps as there are
-- variables.
use Prim.Native.Nat.{suc}
use Rattle.pgcl_front.proofs.Scopes.{FoundFrom, no_back}
use Rattle.pgcl_front.specs.EqualSums.{descend}
use Rattle.pgcl_front.specs.Readings.{type_of}
use Rattle.heylo_formula.specs.Formula.{Form, Term}
use Rattle.heylo_formula.specs.Meaning.{term_value}
use Rattle.heylo_formula.specs.State.{IsTyped, environment, get, has, number_of, truth_of}
use Rattle.heylo_formula.specs.declared.values.Val.TheVariants.{Num, Truth}
use Rattle.heylo_formula.specs.declared.values.Val.{Val}
use Rattle.heyvl_acts.specs.Acts.{Act, Acts, TypedProcedure, Variable, type_list}
use Rattle.heyvl_num.specs.Value.{zeroᵛ}
use Rattle.heyvl_num.specs.WeightedSums.{weighted_sum}
use Rattle.heyvl_syntax.specs.Procedures.{Procedure}
use Rattle.heyvl_syntax.specs.Statements.{Statement}
use Rattle.heyvl_syntax.specs.Statements as heyvl
use Rattle.static_rules.specs.Files.{setting}
use Rattle.typed_expressions.specs.Scopes.{Scope}
use Rattle.typed_expressions.specs.Signatures.{Called}
use Rattle.static_rules.specs.StatementActs.{block_acts, number_or_zero}
use Rattle.typed_expressions.specs.Values.{term}
use Rattle.static_rules.specs.StatementRules.{block_findings}
use Rattle.typed_expressions.specs.Table.{declarable, variable}
use Rattle.static_rules.specs.Variables.{parameters}
use Rattle.typed_expressions.specs.DeclaredVariables.{type_or_bool}
use Rattle.guarded_commands.specs.Translation.{input, output, start, type_name}
use Rattle.guarded_commands.specs.declared.programs.Declaration.{Declaration}
use Rattle.guarded_commands.specs.declared.programs.VariableType.TheVariants as types
use Rattle.guarded_commands.specs.declared.programs.VariableType.{VariableType}
use Rattle.run_machine.proofs.exported.Equations.{runs-next, worth-sure}
use Rattle.run_machine.specs.Configurations.{Config, push}
use Rattle.run_machine.specs.Runs.{runs}
use Rattle.run_machine.specs.Scheduler.{Tree, first, under}
use Rattle.run_machine.specs.Sums.{sum_of, worth}
use Rattle.std.proofs.Common.{Bool, List, Some, [], ap, ap₂, arith, false, inl, inr, length, map, refl, subst, sym, true, ◌++◌, ◌+◌, ◌<◌, ◌∙◌, ◌∷◌, ◌≡◌, ◌≢◌, ◌≤◌, ◌⊎◌, ℕ}
use Rattle.std.proofs.lemmas.Bool.Decides.{eqb_tells, leb_tells}
use Rattle.std.proofs.lemmas.Grind.{get_or-set_at}
use Rattle.std.proofs.lemmas.List.{get_or-set_other, length-set}
use Rattle.std.specs.Prelude.{eqb, leb, option_map, set}

abbrev pub input_term : ℕ → Declaration → Term
input_term k d = term (Some (variable (record { number = k; ty = type_name d.ty })))

-- Each output is assigned its input, from the `k`-th one on; then the acts follow.
abbrev pub begins : ℕ → ℕ → List Declaration → Acts → Acts
begins v k [] acts = acts
begins v k (d ∷ ds) acts = Acts.next (Act.set (v + k) (input_term k d) d.span) (begins v (suc k) ds acts)

nothing_more : (n : ℕ) → n + 0 ≡ n
nothing_more n = omega arith

module _ (q : Procedure) (called : Called) (m : ℕ) (sc : Scope) where
  pub starts_are : (n v k : ℕ) (ds : List Declaration) (rest : List Statement) → FoundFrom (v + k) (map output ds) sc → FoundFrom k (map input ds) sc → block_acts (setting q) called n m sc (heyvl.block_of (map start ds ++ rest)) ≡ begins v k ds (block_acts (setting q) called n m sc (heyvl.block_of rest))
  starts_are n v k [] rest f g = refl
  starts_are n v k (d ∷ ds) rest f g =
      let next : suc (v + k) ≡ v + suc k = omega arith in
      ap₂ (λ o p. Acts.next (Act.set (number_or_zero o) (term (option_map variable p)) d.span) (block_acts (setting q) called (n + 0) (m + 0) sc (heyvl.block_of (map start ds ++ rest)))) f.0 g.0
      ∙ (ap₂ (λ a b. Acts.next (Act.set (v + k) (input_term k d) d.span) (block_acts (setting q) called a b sc (heyvl.block_of (map start ds ++ rest)))) (nothing_more n) (nothing_more m)
      ∙ ap (λ z. Acts.next (Act.set (v + k) (input_term k d) d.span) z) (starts_are n v (suc k) ds rest (subst (λ (z : ℕ). FoundFrom z (map output ds) sc) next f.1) g.1))

  pub starts_clean : (n : ℕ) (bound : Bool) (ds : List Declaration) (rest : List Statement) → block_findings (setting q) called bound n sc (heyvl.block_of (map start ds ++ rest)) ≡ [] → block_findings (setting q) called bound n sc (heyvl.block_of rest) ≡ []
  starts_clean n bound [] rest e = e
  starts_clean n bound (d ∷ ds) rest e = starts_clean n bound ds rest (subst (λ (z : ℕ). block_findings (setting q) called bound z sc (heyvl.block_of (map start ds ++ rest)) ≡ []) (nothing_more n) (no_back _ _ e))

-- ---- Values of inputs

-- The values of `s` from the `k`-th one on have the types of the variables.
abbrev pub HasFrom : ℕ → List Declaration → List Val → Type 0
HasFrom k [] s = Unit {0}
HasFrom k (d ∷ ds) s = (has (type_of d.ty) (get k s) ≡ true) × HasFrom (suc k) ds s

has_shifted : (k : ℕ) (ds : List Declaration) (w : Val) (s : List Val) → HasFrom k ds s → HasFrom (suc k) ds (w ∷ s)
has_shifted k [] w s h = tt
has_shifted k (d ∷ ds) w s h = (h.0, has_shifted (suc k) ds w s h.1)

pub one_type : (ty : VariableType) → type_of ty ≡ type_or_bool (declarable (type_name ty))
one_type types.Bool = refl
one_type types.Nat = refl
one_type types.Real = refl

pub inputs_typed : (ds : List Declaration) (vs : List Variable) (s : List Val) → IsTyped (type_list (parameters (map input ds) ++ vs)) s → HasFrom 0 ds s
inputs_typed [] vs s h = tt
inputs_typed (d ∷ ds) vs [] h = absurd h
inputs_typed (d ∷ ds) vs (w ∷ s) h = (subst (λ ty. has ty w ≡ true) (sym (one_type d.ty)) h.0, has_shifted 0 ds w s (inputs_typed ds vs s h.1))

input_value : (k : ℕ) (ty : VariableType) (t : List Val) (w : Val) → get k t ≡ w → has (type_of ty) w ≡ true → term_value (term (Some (variable (record { number = k; ty = type_name ty })))) (environment t) ≡ w
input_value k types.Bool t (Truth b) e h = ap (λ w. Truth (truth_of w)) e
input_value k types.Bool t (Num x) e h = absurd (cc)
input_value k types.Nat t (Truth b) e h = absurd (cc)
input_value k types.Nat t (Num x) e h = ap (λ w. Num (number_of w)) e
input_value k types.Real t (Truth b) e h = absurd (cc)
input_value k types.Real t (Num x) e h = ap (λ w. Num (number_of w)) e

-- ---- The runs of the first statements

one_later : (n k : ℕ) → n + suc k ≡ suc (n + k)
one_later n k = omega arith

below_or_same : (j k : ℕ) → j < suc k → (k ≡ j → ⊥) → j < k
below_or_same j k lt d = go (leb_tells k j)
  where
    go : ((leb k j ≡ true) × (k ≤ j)) ⊎ ((leb k j ≡ false) × (j < k)) → j < k
    go (inl e) = absurd (d (let m = e.1 in omega (arith, lt, m)))
    go (inr e) = e.1

module _ (ps : List TypedProcedure) (p v size : ℕ) (wide : v + v ≤ size) (post : Form) (begun : List Val) where
  abbrev pub from_acts : Acts → List Val → (ℕ → ℕ) → Config
  from_acts acts t turns = record { procedure = p; items = push acts []; frames = []; state = t; reward = zeroᵛ; turns = turns }

  -- The state after `m` of the first assignments.
  pub record Begun (m n : ℕ) (acts whole : Acts) (t : List Val) (turns : ℕ → ℕ) (tree : Tree) : Type 0 where
    pub values : List Val
    pub long : length values ≡ size
    pub agrees : (i : ℕ) → i < v → get i begun ≡ get (v + i) values
    pub sums : sum_of true post (runs ps (n + m) (from_acts whole t turns) tree) ≡ sum_of true post (runs ps n (from_acts acts values turns) (descend m tree))

  module _ (k : ℕ) (t : List Val) (lt : k < v) (long : length t ≡ size) (h : (j : ℕ) → j < v → get j t ≡ get j begun) (g : (j : ℕ) → j < k → get (v + j) t ≡ get j begun) where
    inputs_kept : (w : Val) (j : ℕ) → j < v → get j (set t (v + k) w) ≡ get j begun
    inputs_kept w j lj = get_or-set_other t (v + k) j w (Truth false) (λ q. absurd (let u = q in omega (arith, u, lj))) ∙ h j lj

    outputs_so_far : (w : Val) → w ≡ get k begun → (j : ℕ) → j < suc k → get (v + j) (set t (v + k) w) ≡ get j begun
    outputs_so_far w f j lj = go (eqb_tells k j)
      where
        go : ((eqb k j ≡ true) × (k ≡ j)) ⊎ ((eqb k j ≡ false) × (k ≢ j)) → get (v + j) (set t (v + k) w) ≡ get j begun
        go (inl i) = get_or-set_at t (v + k) (v + j) w (Truth false) (ap (λ z. v + z) (sym i.1)) (subst (λ z. v + k < z) (sym long) (omega (arith, lt, wide))) ∙ (f ∙ ap (λ z. get z begun) i.1)
        go (inr i) = get_or-set_other t (v + k) (v + j) w (Truth false) (λ q. i.1 (let u = q in omega (arith, u))) ∙ g j (below_or_same j k lj i.1)

  pub begun_sums : (ds : List Declaration) (k : ℕ) → k + length ds ≡ v → HasFrom k ds begun → (t : List Val) → length t ≡ size → ((j : ℕ) → j < v → get j t ≡ get j begun) → ((j : ℕ) → j < k → get (v + j) t ≡ get j begun) → (acts : Acts) (turns : ℕ → ℕ) (n : ℕ) (tree : Tree) → Begun (length ds) n acts (begins v k ds acts) t turns tree
  begun_sums [] k e typed t long h g acts turns n tree = record { values = t; long = long; agrees = λ i lt. sym (g i (omega (arith, lt, e))); sums = ap (λ z. sum_of true post (runs ps z (from_acts acts t turns) tree)) (nothing_more n) }
  begun_sums (d ∷ ds) k e typed t long h g acts turns n tree =
      let lt : k < v = omega (arith, e) in
      let w = term_value (input_term k d) (environment t) in
      let r = begun_sums ds (suc k) (omega (arith, e)) typed.1 (set t (v + k) w) (length-set t (v + k) _ ∙ long) (inputs_kept k t lt long h g w) (outputs_so_far k t lt long h g w (input_value k d.ty t (get k begun) (h k lt) typed.0)) acts turns n (first (under tree)) in
      record {
        values = r.values;
        long = r.long;
        agrees = r.agrees;
        sums = ap (λ z. sum_of true post (runs ps z (from_acts (begins v k (d ∷ ds) acts) t turns) tree)) (one_later n (length ds))
            ∙ (ap (weighted_sum (worth true post)) (runs-next ps (n + length ds) (from_acts (begins v k (d ∷ ds) acts) t turns) tree)
            ∙ (worth-sure (worth true post) (runs ps (n + length ds)) (from_acts (begins v (suc k) ds acts) (set t (v + k) (term_value (input_term k d) (environment t))) turns) (under tree) ∙ r.sums));
      }
