-- Formulas, conditions and terms of HeyLo as plain trees. A *form* is any tree with a number or
-- infinity as its value; a *formula* is a form whose type is unsigned (`IsFormula`), so that its
-- value is in [0, ∞].
use Rattle.std.specs.Prelude.{ℕ, Bool}
use Rattle.heyvl_num.specs.Rational.{Rational}
use Rattle.heyvl_num.specs.Value.{Value}
use Rattle.heyvl_places.specs.declared.spans.Span.{Span}
use Rattle.heylo_formula.specs.declared.types.Ty.{Ty}

mutual
  -- A form.
  pub data Form : Type 0 where
    number : Value → Form
    variable : ℕ → Form
    sum : Form → Form → Form
    difference : Form → Form → Form
    cut : Form → Form → Form
    scale : Rational → Form → Form
    product : Form → Form → Span → Form
    min : Form → Form → Form
    max : Form → Form → Form
    imply : Form → Form → Form
    co_imply : Form → Form → Form
    validate : Form → Form
    co_validate : Form → Form
    embed : Cond → Form
    iverson : Cond → Form
    select : Cond → Form → Form → Form
    bind : Bool → ℕ → ℕ → Ty → Form → Form

  -- A condition, which is true or false.
  pub data Cond : Type 0 where
    constant : Bool → Cond
    flag : ℕ → Cond
    not : Cond → Cond
    and : Cond → Cond → Cond
    or : Cond → Cond → Cond
    same : Cond → Cond → Cond
    le : Form → Form → Cond
    lt : Form → Form → Cond
    equal : Form → Form → Cond
    ite : Cond → Cond → Cond → Cond

-- A term, which is substituted for a variable: a condition for a Boolean one, a form for a numeric
-- one.
pub data Term : Type 0 where
  truth : Cond → Term
  number : Form → Term
