-- The places in a typed procedure: each place that an answer may name is within the text. This
-- project's own.
use Rattle.std.specs.Prelude.{◌≤◌, ℕ, Option, Some, None}
use Rattle.heyvl_num.specs.Rational.{Rational}
use Rattle.heylo_formula.specs.Formula.{Form, Cond, Term}
use Rattle.heyvl_acts.specs.Acts.{Act, Arms, TypedProcedure, acts_in}
use Rattle.heyvl_acts.specs.Places.{in_order}
use Rattle.heyvl_acts.specs.Rules.{Each}

-- The place of each product in the form begins at an index of at most `n`.
abbrev mutual
  pub FormStands : ℕ → Form → Type 0
  FormStands n (Form.number v) = Unit {0}
  FormStands n (Form.variable x) = Unit {0}
  FormStands n (Form.sum a b) = FormStands n a × FormStands n b
  FormStands n (Form.difference a b) = FormStands n a × FormStands n b
  FormStands n (Form.cut a b) = FormStands n a × FormStands n b
  FormStands n (Form.scale w a) = FormStands n a
  FormStands n (Form.product a b span) = (span.from ≤ n) × (FormStands n a × FormStands n b)
  FormStands n (Form.min a b) = FormStands n a × FormStands n b
  FormStands n (Form.max a b) = FormStands n a × FormStands n b
  FormStands n (Form.imply a b) = FormStands n a × FormStands n b
  FormStands n (Form.co_imply a b) = FormStands n a × FormStands n b
  FormStands n (Form.validate a) = FormStands n a
  FormStands n (Form.co_validate a) = FormStands n a
  FormStands n (Form.embed g) = CondStands n g
  FormStands n (Form.iverson g) = CondStands n g
  FormStands n (Form.select g a b) = CondStands n g × (FormStands n a × FormStands n b)
  FormStands n (Form.bind up x name ty a) = FormStands n a

  -- The place of each product in the condition begins at an index of at most `n`.
  pub CondStands : ℕ → Cond → Type 0
  CondStands n (Cond.constant b) = Unit {0}
  CondStands n (Cond.flag x) = Unit {0}
  CondStands n (Cond.not g) = CondStands n g
  CondStands n (Cond.and g h) = CondStands n g × CondStands n h
  CondStands n (Cond.or g h) = CondStands n g × CondStands n h
  CondStands n (Cond.same g h) = CondStands n g × CondStands n h
  CondStands n (Cond.le a b) = FormStands n a × FormStands n b
  CondStands n (Cond.lt a b) = FormStands n a × FormStands n b
  CondStands n (Cond.equal a b) = FormStands n a × FormStands n b
  CondStands n (Cond.ite g h k) = CondStands n g × (CondStands n h × CondStands n k)

-- The place of each product in the term begins at an index of at most `n`.
abbrev pub TermStands : ℕ → Term → Type 0
TermStands n (Term.truth g) = CondStands n g
TermStands n (Term.number f) = FormStands n f

-- The place of each product in the guards of the arms begins at an index of at most `n`.
abbrev pub GuardsStand : ℕ → Arms → Type 0
GuardsStand n Arms.no_arm = Unit {0}
GuardsStand n (Arms.arm g b more) = CondStands n g × GuardsStand n more

-- The place of each product in the ranking, if there is one, begins at an index of at most `n`.
abbrev pub RankStands : ℕ → Option (Rational × Form) → Type 0
RankStands n None = Unit {0}
RankStands n (Some r) = FormStands n r.1

-- The places of an act and of the products in its forms begin at an index of at most `n`; nested
-- acts do not count.
abbrev pub ActStands : ℕ → Act → Type 0
ActStands n (Act.set x t span) = (span.from ≤ n) × TermStands n t
ActStands n (Act.draw x qs span) = (span.from ≤ n) × Each (λ q. TermStands n q.1) qs
ActStands n (Act.toss x f span) = (span.from ≤ n) × FormStands n f
ActStands n (Act.any x up ty span) = span.from ≤ n
ActStands n (Act.reward f span) = (span.from ≤ n) × FormStands n f
ActStands n (Act.ifs arms e span) = (span.from ≤ n) × GuardsStand n arms
ActStands n (Act.pick up a b span) = span.from ≤ n
ActStands n (Act.check kind f span) = (span.from ≤ n) × FormStands n f
ActStands n (Act.validate co span) = span.from ≤ n
ActStands n (Act.loop h b) =
    (h.span.from ≤ n) × (FormStands n h.inv × (CondStands n h.guard × RankStands n h.rank))
ActStands n (Act.call xs q es span) = (span.from ≤ n) × Each (TermStands n) es

-- The places of the procedure's acts and of the products in its forms begin at an index of at most
-- `n`.
pub record StandsWithin (n : ℕ) (p : TypedProcedure) : Type 0 where
  pub pre : FormStands n p.pre
  pub post : FormStands n p.post
  pub acts : Each (ActStands n) (in_order (acts_in p.body))
