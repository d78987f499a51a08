-- Bare procedures: without invariants and rankings of loops, and without places. Runs depend on no
-- more. This project's own.
use Rattle.std.specs.Prelude.{List, Option, Some, None, map}
use Rattle.heyvl_num.specs.Rational.{Rational}
use Rattle.heyvl_num.specs.Value.{zeroᵛ}
use Rattle.heyvl_places.specs.declared.spans.Span.{Span}
use Rattle.heylo_formula.specs.Formula.{Form, Cond, Term}
use Rattle.heyvl_acts.specs.Acts.{Head, Act, Acts, Arms, TypedProcedure}

-- The one place of bare trees.
abbrev pub nowhere : Span
nowhere = record { from = 0; to = 0 }

abbrev mutual
  -- The formula without the places of its products.
  pub bare_form : Form → Form
  bare_form (Form.number v) = Form.number v
  bare_form (Form.variable x) = Form.variable x
  bare_form (Form.sum a b) = Form.sum (bare_form a) (bare_form b)
  bare_form (Form.difference a b) = Form.difference (bare_form a) (bare_form b)
  bare_form (Form.cut a b) = Form.cut (bare_form a) (bare_form b)
  bare_form (Form.scale w a) = Form.scale w (bare_form a)
  bare_form (Form.product a b span) = Form.product (bare_form a) (bare_form b) nowhere
  bare_form (Form.min a b) = Form.min (bare_form a) (bare_form b)
  bare_form (Form.max a b) = Form.max (bare_form a) (bare_form b)
  bare_form (Form.imply a b) = Form.imply (bare_form a) (bare_form b)
  bare_form (Form.co_imply a b) = Form.co_imply (bare_form a) (bare_form b)
  bare_form (Form.validate a) = Form.validate (bare_form a)
  bare_form (Form.co_validate a) = Form.co_validate (bare_form a)
  bare_form (Form.embed g) = Form.embed (bare_cond g)
  bare_form (Form.iverson g) = Form.iverson (bare_cond g)
  bare_form (Form.select g a b) = Form.select (bare_cond g) (bare_form a) (bare_form b)
  bare_form (Form.bind up x name ty a) = Form.bind up x name ty (bare_form a)

  -- The condition without places.
  pub bare_cond : Cond → Cond
  bare_cond (Cond.constant b) = Cond.constant b
  bare_cond (Cond.flag x) = Cond.flag x
  bare_cond (Cond.not g) = Cond.not (bare_cond g)
  bare_cond (Cond.and g h) = Cond.and (bare_cond g) (bare_cond h)
  bare_cond (Cond.or g h) = Cond.or (bare_cond g) (bare_cond h)
  bare_cond (Cond.same g h) = Cond.same (bare_cond g) (bare_cond h)
  bare_cond (Cond.le a b) = Cond.le (bare_form a) (bare_form b)
  bare_cond (Cond.lt a b) = Cond.lt (bare_form a) (bare_form b)
  bare_cond (Cond.equal a b) = Cond.equal (bare_form a) (bare_form b)
  bare_cond (Cond.ite g h k) = Cond.ite (bare_cond g) (bare_cond h) (bare_cond k)

-- The term without places.
abbrev pub bare_term : Term → Term
bare_term (Term.truth g) = Term.truth (bare_cond g)
bare_term (Term.number f) = Term.number (bare_form f)

-- The part of a draw without places.
abbrev pub bare_part : Rational × Term → Rational × Term
bare_part q = (q.0, bare_term q.1)

-- The loop without its rules and its place; its number, its guard and its scope remain.
abbrev pub bare_head : Head → Head
bare_head h = record {
  number = h.number;
  k = 1;
  inv = Form.number zeroᵛ;
  guard = bare_cond h.guard;
  rank = None;
  scope = h.scope;
  span = nowhere;
}

abbrev mutual
  -- The act without places and rules of loops.
  pub bare_act : Act → Act
  bare_act (Act.set x t span) = Act.set x (bare_term t) nowhere
  bare_act (Act.draw x qs span) = Act.draw x (map bare_part qs) nowhere
  bare_act (Act.toss x f span) = Act.toss x (bare_form f) nowhere
  bare_act (Act.any x up ty span) = Act.any x up ty nowhere
  bare_act (Act.reward f span) = Act.reward (bare_form f) nowhere
  bare_act (Act.ifs arms e span) = Act.ifs (bare_arms arms) (bare e) nowhere
  bare_act (Act.pick up a b span) = Act.pick up (bare a) (bare b) nowhere
  bare_act (Act.check kind f span) = Act.check kind (bare_form f) nowhere
  bare_act (Act.validate co span) = Act.validate co nowhere
  bare_act (Act.loop h b) = Act.loop (bare_head h) (bare b)
  bare_act (Act.call xs p es span) = Act.call xs p (map bare_term es) nowhere

  -- The acts without places and rules of loops.
  pub bare : Acts → Acts
  bare Acts.done = Acts.done
  bare (Acts.next a rest) = Acts.next (bare_act a) (bare rest)

  -- The arms without places and rules of loops.
  pub bare_arms : Arms → Arms
  bare_arms Arms.no_arm = Arms.no_arm
  bare_arms (Arms.arm g b more) = Arms.arm (bare_cond g) (bare b) (bare_arms more)

-- The body, if there is one, without places and rules of loops.
abbrev pub bare_body : Option Acts → Option Acts
bare_body (Some acts) = Some (bare acts)
bare_body None = None

-- The procedure without places and rules of loops.
abbrev pub bare_procedure : TypedProcedure → TypedProcedure
bare_procedure p = record {
  name = p.name;
  co = p.co;
  weak = p.weak;
  inputs = p.inputs;
  outputs = p.outputs;
  locals = p.locals;
  pre = bare_form p.pre;
  post = bare_form p.post;
  body = bare_body p.body;
  loops = p.loops;
  span = nowhere;
}

-- All procedures of a file without places and rules of loops.
abbrev pub bare_procedures : List TypedProcedure → List TypedProcedure
bare_procedures ps = map bare_procedure ps
