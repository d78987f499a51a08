-- The encoding of acts by acts without loops and calls. A loop is encoded by its invariant and
-- copies of its body, a call by the pre and post of the called procedure over fresh variables for
-- its inputs and outputs. The encoding's acts have the place `span` of the loop or the call, and
-- `up` is true in a coproc and false in a proc. Source: the encodings of HeyVL (Schroeer, Batz,
-- Kaminski, Katoen, Matheja, OOPSLA 2023) and latticed k-induction (Batz et al., CAV 2021); the
-- numbers of the fresh variables are this project's own.
use Rattle.std.specs.Prelude.{ℕ, ◌+◌, Bool, List, [], ◌∷◌, ◌++◌, length}
use Prim.Native.Nat.{suc}
use Rattle.heyvl_places.specs.declared.spans.Span.{Span}
use Rattle.heylo_formula.specs.Formula.{Form, Cond, Term}
use Rattle.heylo_formula.specs.Shifts.{shifted}
use Rattle.heylo_formula.specs.Typing.{Types}
use Rattle.heylo_formula.specs.declared.types.Ty.{Ty}
use Rattle.heyvl_acts.specs.Acts.{Head, Act, Acts, Arms, TypedProcedure, Variable, join, type_list}
use Rattle.heyvl_acts.specs.Acts.{types_of, variables, acts_in, procedure_at}
use Rattle.heyvl_acts.specs.ModifiedVariables.{modified}
use Rattle.k_induction.specs.Copies.{must, may, copies, if_holds}
use Rattle.loop_encodings.specs.Fresh.{fresh, fresh_of_act, fresh_of_arms}

-- ---- Calls

-- `sets span m es rest`: the variables from `m` on are assigned the terms `es`, in order; then
-- `rest` follows.
abbrev pub sets : Span → ℕ → List Term → Acts → Acts
sets span m [] rest = rest
sets span m (e ∷ es) rest = Acts.next (Act.set m e span) (sets span (suc m) es rest)

-- `any_block up span m ts rest`: the variables from `m` on take any values of the types `ts`, in
-- order; then `rest` follows.
abbrev pub any_block : Bool → Span → ℕ → List Ty → Acts → Acts
any_block up span m [] rest = rest
any_block up span m (t ∷ ts) rest =
    Acts.next (Act.any m up t span) (any_block up span (suc m) ts rest)

-- `read y ty`: the variable `y` of type `ty`, as a term.
abbrev pub read : ℕ → Ty → Term
read y Ty.Bool = Term.truth (Cond.flag y)
read y Ty.Int = Term.number (Form.variable y)
read y Ty.UInt = Term.number (Form.variable y)
read y Ty.UReal = Term.number (Form.variable y)

-- `gets span xs ts m`: the variables `xs` are assigned, in order, the variables from `m` on, which
-- have the types `ts`. For one variable `x0` and `m` = 5 it is `x0 = x5`.
abbrev pub gets : Span → List ℕ → List Ty → ℕ → Acts
gets span [] ts m = Acts.done
gets span (x ∷ xs) [] m = Acts.done
gets span (x ∷ xs) (t ∷ ts) m = Acts.next (Act.set x (read m t) span) (gets span xs ts (suc m))

-- `encoded_call up span m xs q es`: a call of `q` with the targets `xs` and the arguments `es`. The
-- fresh inputs, from `m` on, are assigned the arguments; the pre is asserted; the fresh outputs
-- take any values; the post is assumed of them; and the targets are assigned the outputs.
abbrev pub encoded_call : Bool → Span → ℕ → List ℕ → TypedProcedure → List Term → Acts
encoded_call up span m xs q es =
    sets span m es (
    Acts.next (Act.check (must up) (shifted m q.pre) span) (
    any_block up span (m + length q.inputs) (type_list q.outputs) (
    Acts.next (Act.validate up span) (
    Acts.next (Act.check (may up) (shifted m q.post) span) (
    gets span xs (type_list q.outputs) (m + length q.inputs))))))

-- ---- Loops

-- Each variable of `xs` takes any value of its type; then `rest` follows.
abbrev pub havocs : Bool → Span → Types → List ℕ → Acts → Acts
havocs up span types [] rest = rest
havocs up span types (x ∷ xs) rest =
    Acts.next (Act.any x up (types x) span) (havocs up span types xs rest)

-- The invariant is assumed; then, if the guard holds, the copies of the encoded body follow.
abbrev pub tested : Bool → Head → Acts → Acts
tested up h body =
    Acts.next (Act.validate up h.span) (
    Acts.next (Act.check (may up) h.inv h.span) (
    Acts.next (if_holds h.span h.guard (copies up h.span h.guard h.inv body h.k)) Acts.done))

-- A loop with the modified variables `ms` and an encoded body: the invariant is asserted, the
-- modified variables take any values, and `tested` follows.
abbrev pub encoded_loop : Bool → Types → Head → List ℕ → Acts → Acts
encoded_loop up types h ms body =
    Acts.next (Act.check (must up) h.inv h.span) (havocs up h.span types ms (tested up h body))

-- ---- Acts

-- The encoding of an act of the procedure `p` of the file `ps`, with fresh variables from `m` on.
abbrev mutual
  pub encoded_act : List TypedProcedure → TypedProcedure → ℕ → Act → Acts
  encoded_act ps p m (Act.set x t span) = Acts.next (Act.set x t span) Acts.done
  encoded_act ps p m (Act.draw x qs span) = Acts.next (Act.draw x qs span) Acts.done
  encoded_act ps p m (Act.toss x f span) = Acts.next (Act.toss x f span) Acts.done
  encoded_act ps p m (Act.any x up ty span) = Acts.next (Act.any x up ty span) Acts.done
  encoded_act ps p m (Act.reward f span) = Acts.next (Act.reward f span) Acts.done
  encoded_act ps p m (Act.ifs arms e span) = Acts.next
      (Act.ifs (encoded_arms ps p m arms)
      (encoded ps p (m + length (fresh_of_arms ps arms)) e) span) Acts.done
  encoded_act ps p m (Act.pick up a b span) = Acts.next
      (Act.pick up (encoded ps p m a) (encoded ps p (m + length (fresh ps a)) b) span) Acts.done
  encoded_act ps p m (Act.check kind f span) = Acts.next (Act.check kind f span) Acts.done
  encoded_act ps p m (Act.validate co span) = Acts.next (Act.validate co span) Acts.done
  encoded_act ps p m (Act.loop h b) =
      encoded_loop p.co (types_of p) h (modified h.scope b) (encoded ps p m b)
  encoded_act ps p m (Act.call xs q es span) = encoded_call p.co span m xs (procedure_at ps q) es

  -- The encodings of the acts, one after another, each with its own fresh variables.
  pub encoded : List TypedProcedure → TypedProcedure → ℕ → Acts → Acts
  encoded ps p m Acts.done = Acts.done
  encoded ps p m (Acts.next a rest) =
      join (encoded_act ps p m a) (encoded ps p (m + length (fresh_of_act ps a)) rest)

  -- The arms with encoded blocks, each with its own fresh variables.
  pub encoded_arms : List TypedProcedure → TypedProcedure → ℕ → Arms → Arms
  encoded_arms ps p m Arms.no_arm = Arms.no_arm
  encoded_arms ps p m (Arms.arm g b more) =
      Arms.arm g (encoded ps p m b) (encoded_arms ps p (m + length (fresh ps b)) more)

-- The variables of a procedure's encoding: its own, then the fresh ones.
abbrev pub all_variables : List TypedProcedure → TypedProcedure → List Variable
all_variables ps p = variables p ++ fresh ps (acts_in p.body)

-- The encoding of a procedure's body.
abbrev pub encoding : List TypedProcedure → TypedProcedure → Acts
encoding ps p = encoded ps p (length (variables p)) (acts_in p.body)
