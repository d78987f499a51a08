-- The plain trees of the acts and typed procedures of the code.
use Rattle.std.specs.Prelude.{◌+◌, List, [], ◌∷◌, Option, Some, None, Vec, map, take, drop}
use Rattle.std.specs.declared.alloc.Global.{Global}
use Rattle.heyvl_num.specs.Rational.{Rational}
use Rattle.heylo_formula.specs.declared.forms.Cond as C
use Rattle.heylo_formula.specs.declared.forms.Form as F
use Rattle.heylo_formula.specs.declared.terms.Term as T
use Rattle.heylo_formula.specs.Formula.{Form, Cond, Term}
use Rattle.heylo_formula.specs.PlainTrees.{form_of, cond_of, term_of}
use Rattle.heyvl_acts.specs.declared.acts.Act as A
use Rattle.heyvl_acts.specs.declared.acts.LoopAct as L
use Rattle.heyvl_acts.specs.declared.acts.Act.TheOpen.{Act-F, LoopAct-F}
use Rattle.heyvl_acts.specs.declared.acts.Act.TheFolds.{fold-Act, fold-LoopAct}
use Rattle.heyvl_acts.specs.declared.typed_trees.VarInfo.{VarInfo}
use Rattle.heyvl_acts.specs.declared.typed_trees.TProc.{TProc}
use Rattle.heyvl_acts.specs.declared.typed_trees.Typed.{Typed}
use Rattle.heyvl_acts.specs.Acts.{Act, Acts, Arms, Variable, TypedProcedure}

-- The sequence of the acts of a list.
abbrev pub joined : List Act → Acts
joined [] = Acts.done
joined (a ∷ rest) = Acts.next a (joined rest)

-- The arms of a list of guards with their acts.
abbrev pub armed : List (Cond × Acts) → Arms
armed [] = Arms.no_arm
armed (x ∷ xs) = Arms.arm x.0 x.1 (armed xs)

-- The guard and the acts of an arm whose acts are plain trees already.
abbrev pub layered_arm : C.Cond × Vec Act Global → Cond × Acts
layered_arm x = (cond_of x.0, joined x.1.items)

-- The plain tree of an alternative of a draw: its weight and its term.
abbrev pub part_of : Rational × T.Term → Rational × Term
part_of p = (p.0, term_of p.1)

-- The plain trees of the alternatives of a draw.
abbrev pub parts_of : List (Rational × T.Term) → List (Rational × Term)
parts_of ps = map part_of ps

-- The plain trees of a list of terms.
abbrev pub terms_of : List T.Term → List Term
terms_of ts = map term_of ts

-- The plain tree of a ranking with its step, if there is one.
abbrev pub rank_of : Option (Rational × F.Form) → Option (Rational × Form)
rank_of (Some r) = Some (r.0, form_of r.1)
rank_of None = None

-- The plain tree of an act in which the acts are plain trees already.
abbrev pub act_layer : Act-F Act Act → Act
act_layer (Act-F.Set x t span) = Act.set x (term_of t) span
act_layer (Act-F.Draw x ps span) = Act.draw x (parts_of ps.items) span
act_layer (Act-F.Toss x f span) = Act.toss x (form_of f) span
act_layer (Act-F.Any x up ty span) = Act.any x up ty span
act_layer (Act-F.Reward f span) = Act.reward (form_of f) span
act_layer (Act-F.If arms e span) =
    Act.ifs (armed (map layered_arm arms.items)) (joined e.items) span
act_layer (Act-F.Pick up a b span) = Act.pick up (joined a.items) (joined b.items) span
act_layer (Act-F.Check kind f span) = Act.check kind (form_of f) span
act_layer (Act-F.Validate co span) = Act.validate co span
act_layer (Act-F.Loop l) = l.value
act_layer (Act-F.Call xs p es span) = Act.call xs.items p (terms_of es.items) span

-- The plain tree of a loop in whose body the acts are plain trees already.
abbrev pub loop_layer : LoopAct-F Act Act → Act
loop_layer l = Act.loop (record {
  number = l.number;
  k = l.k;
  inv = form_of l.inv;
  guard = cond_of l.guard;
  rank = rank_of l.rank;
  scope = l.scope.items;
  span = l.span;
})
    (joined l.body.items)

-- The plain tree of an act.
abbrev pub act_of : A.Act → Act
act_of = fold-Act Act Act act_layer loop_layer

-- The plain tree of a loop.
abbrev pub loop_of : L.LoopAct → Act
loop_of = fold-LoopAct Act Act act_layer loop_layer

-- The plain tree of a list of acts.
abbrev pub acts_of : List A.Act → Acts
acts_of acts = joined (map act_of acts)

-- The plain tree of an arm: its guard and its acts.
abbrev pub arm_of : C.Cond × Vec A.Act Global → Cond × Acts
arm_of x = (cond_of x.0, acts_of x.1.items)

-- The plain tree of a list of arms.
abbrev pub arms_of : List (C.Cond × Vec A.Act Global) → Arms
arms_of xs = armed (map arm_of xs)

-- The plain tree of a body, if there is one.
abbrev pub body_of : Option (Vec A.Act Global) → Option Acts
body_of (Some acts) = Some (acts_of acts.items)
body_of None = None

-- The plain record of a variable: the bytes of its name, and its type.
abbrev pub variable_of : VarInfo → Variable
variable_of v = record { name = v.name; ty = v.ty }

-- The plain record of a procedure, in which the variables are separated into inputs, outputs and
-- locals.
abbrev pub procedure_of : TProc → TypedProcedure
procedure_of p = record {
  name = p.name;
  co = p.co;
  weak = p.weak;
  inputs = take p.inputs (map variable_of p.vars.items);
  outputs = take p.outputs (drop p.inputs (map variable_of p.vars.items));
  locals = drop (p.inputs + p.outputs) (map variable_of p.vars.items);
  pre = form_of p.pre;
  post = form_of p.post;
  body = body_of p.body;
  loops = p.loops;
  span = p.span;
}

-- The plain records of the procedures of a typed file, in its order.
abbrev pub procedures_of : Typed → List TypedProcedure
procedures_of typed = map procedure_of typed.procs.items
