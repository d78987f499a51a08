-- Acts and typed procedures, as plain trees. An *act* is a statement of a procedure in which
-- variables, procedures and loops are numbers.
use Rattle.std.specs.Prelude.{ℕ, Bool, List, [], ◌∷◌, ◌++◌, Option, Some, None, map}
use Prim.Native.Nat.{zero, suc}
use Rattle.heyvl_num.specs.Rational.{Rational}
use Rattle.heyvl_num.specs.Value.{zeroᵛ}
use Rattle.heyvl_places.specs.declared.spans.Span.{Span}
use Rattle.heyvl_places.specs.declared.checks.CheckKind.{CheckKind}
use Rattle.heylo_formula.specs.Formula.{Form, Cond, Term}
pub use Rattle.heylo_formula.specs.NamedVariables.{Variable}
use Rattle.heylo_formula.specs.Typing.{Types, types_in}
use Rattle.heylo_formula.specs.declared.types.Ty.{Ty}

-- The head of a loop: its number, the number of copies of its body in the encoding, its invariant,
-- its guard, its ranking with the step, the variables that are visible at the loop, and its place.
pub record Head : Type 0 where
  pub number : ℕ
  pub k : ℕ
  pub inv : Form
  pub guard : Cond
  pub rank : Option (Rational × Form)
  pub scope : List ℕ
  pub span : Span

mutual
  -- An act, with its place in the file.
  pub data Act : Type 0 where
    set : ℕ → Term → Span → Act
    draw : ℕ → List (Rational × Term) → Span → Act
    toss : ℕ → Form → Span → Act
    any : ℕ → Bool → Ty → Span → Act
    reward : Form → Span → Act
    ifs : Arms → Acts → Span → Act
    pick : Bool → Acts → Acts → Span → Act
    check : CheckKind → Form → Span → Act
    validate : Bool → Span → Act
    loop : Head → Acts → Act
    call : List ℕ → ℕ → List Term → Span → Act

  -- A sequence of acts.
  pub data Acts : Type 0 where
    done : Acts
    next : Act → Acts → Acts

  -- The arms of an `if`, each with its guard and its acts, in the order in which the guards are
  -- tested.
  pub data Arms : Type 0 where
    no_arm : Arms
    arm : Cond → Acts → Arms → Arms

-- The acts of two lists, one list after the other.
abbrev pub join : Acts → Acts → Acts
join Acts.done rest = rest
join (Acts.next a more) rest = Acts.next a (join more rest)

-- A procedure. Its variables are numbered from 0: its inputs, its outputs and its locals, in this
-- order. The locals are the variables that its body declares, in the order of the text, and then
-- those of the quantifiers of its post.
pub record TypedProcedure : Type 0 where
  pub name : List ℕ
  pub co : Bool
  pub weak : Bool
  pub inputs : List Variable
  pub outputs : List Variable
  pub locals : List Variable
  pub pre : Form
  pub post : Form
  pub body : Option Acts
  pub loops : ℕ
  pub span : Span

-- The types of the variables, in their order.
abbrev pub type_list : List Variable → List Ty
type_list vs = map (λ v. v.ty) vs

-- All variables of a procedure, in the order of their numbers.
abbrev pub variables : TypedProcedure → List Variable
variables p = p.inputs ++ (p.outputs ++ p.locals)

-- The type of each variable of a procedure.
abbrev pub types_of : TypedProcedure → Types
types_of p = types_in (type_list (variables p))

-- The acts of the body; none if there is no body.
abbrev pub acts_in : Option Acts → Acts
acts_in (Some acts) = acts
acts_in None = Acts.done

-- The procedure that represents a missing one.
abbrev pub nobody : TypedProcedure
nobody = record {
  name = [];
  co = Bool.true;
  weak = Bool.false;
  inputs = [];
  outputs = [];
  locals = [];
  pre = Form.number zeroᵛ;
  post = Form.number zeroᵛ;
  body = None;
  loops = 0;
  span = record { from = 0; to = 0 };
}

-- The procedure with the number `n`, counted from 0; `nobody` if the list is too short.
abbrev pub procedure_at : List TypedProcedure → ℕ → TypedProcedure
procedure_at [] n = nobody
procedure_at (p ∷ ps) zero = p
procedure_at (p ∷ ps) (suc n) = procedure_at ps n
