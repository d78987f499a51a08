-- Configurations of a run: the acts to be done, the state, and the reward so far. Source: the
-- operational reading of HeyVL programs (Schroeer, Batz, Kaminski, Katoen, Matheja, OOPSLA 2023),
-- in this project's own words.
use Rattle.std.specs.Prelude.{ℕ, List, [], ◌∷◌, ◌++◌, length, take, drop, set, map}
use Prim.Native.Nat.{suc}
use Rattle.heyvl_num.specs.Rational.{Rational}
use Rattle.heyvl_num.specs.Value.{Value, zeroᵛ}
use Rattle.heylo_formula.specs.State.{Env, default}
use Rattle.heylo_formula.specs.Formula.{Term}
use Rattle.heylo_formula.specs.Meaning.{term_value}
use Rattle.heylo_formula.specs.declared.types.Ty.{Ty}
use Rattle.heylo_formula.specs.declared.values.Val.{Val}
use Rattle.heyvl_acts.specs.Acts.{Head, Act, Acts, TypedProcedure, type_list, acts_in, procedure_at}

-- An item that is still to be done: an act, the test of a loop after an iteration, an output that
-- takes any value, or the return to the caller.
pub data Item : Type 0 where
  act : Act → Item
  turn : Head → Acts → Item
  out : ℕ → Ty → Item
  back : Item

-- A waiting caller: its items after the call, its state, the targets of the call, and the number of
-- the called procedure.
pub record Frame : Type 0 where
  pub items : List Item
  pub state : List Val
  pub targets : List ℕ
  pub callee : ℕ

-- A configuration of a run:
-- - `procedure`: the number of the procedure that was started;
-- - `items`: the items of the running procedure;
-- - `frames`: its callers, the last one first;
-- - `state`: the values of its variables;
-- - `reward`: the reward so far;
-- - `turns`: the iterations so far of each loop of the started procedure, by the loop's number.
--
-- The run has terminated if no item is left.
pub record Config : Type 0 where
  pub procedure : ℕ
  pub items : List Item
  pub frames : List Frame
  pub state : List Val
  pub reward : Value
  pub turns : ℕ → ℕ

-- Configurations with their probabilities.
abbrev pub Outcomes : Type 0
Outcomes = List (Rational × Config)

-- The procedure that runs: the last one that was called, otherwise the one that was started.
abbrev pub running : ℕ → List Frame → ℕ
running p [] = p
running p (f ∷ fs) = f.callee

-- `push acts is`: one item for each act, then the items `is`.
abbrev pub push : Acts → List Item → List Item
push Acts.done is = is
push (Acts.next a rest) is = Item.act a ∷ push rest is

-- The values of terms, in their order.
abbrev pub evaluate : List Term → Env → List Val
evaluate es s = map (λ e. term_value e s) es

-- `set_all xs vs s`: the state `s` after each variable of `xs` takes its value of `vs`, in order.
abbrev pub set_all : List ℕ → List Val → List Val → List Val
set_all [] vs s = s
set_all (x ∷ xs) [] s = s
set_all (x ∷ xs) (v ∷ vs) s = set_all xs vs (set s x v)

-- `outs n tys is`: one output item for each type, numbered from `n`, then the items `is`.
abbrev pub outs : ℕ → List Ty → List Item → List Item
outs n [] is = is
outs n (ty ∷ tys) is = Item.out n ty ∷ outs (suc n) tys is

-- The items of a called procedure: each output takes any value, then the acts of the body follow,
-- then the return.
abbrev pub callee_items : TypedProcedure → List Item
callee_items p = outs (length p.inputs) (type_list p.outputs)
    (push (acts_in p.body) (Item.back ∷ []))

-- The first state of a called procedure: the inputs have the values `vs`, every other variable is
-- false or 0.
abbrev pub first_state : TypedProcedure → List Val → List Val
first_state p vs = vs ++ map default (type_list (p.outputs ++ p.locals))

-- The values of the outputs in the state `s`.
abbrev pub outputs_of : TypedProcedure → List Val → List Val
outputs_of p s = take (length p.outputs) (drop (length p.inputs) s)

-- The first configuration of the procedure `p` in the state `s`: the acts of its body are to be
-- done, with no caller, no reward and no iteration so far.
abbrev pub begin : List TypedProcedure → ℕ → List Val → Config
begin ps p s = record {
  procedure = p;
  items = push (acts_in (procedure_at ps p).body) [];
  frames = [];
  state = s;
  reward = zeroᵛ;
  turns = λ n. 0;
}
