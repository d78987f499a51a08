-- What the answer `verified` promises about small programs, one for each kind of act. Each example
-- follows from the headline alone, at states whose outputs have any values, and under a scheduler
-- that sees the run so far.
use Rattle.std.proofs.Common.{refl, ℕ, Bool, true, false, List, [], ◌∷◌}
use Rattle.std.specs.Prelude.{Some}
use Rattle.heyvl_num.specs.Rational.{Rational, halfʳ}
use Rattle.heyvl_num.specs.Value.{Value, oneᵛ, zeroᵛ, ◌≤ᵛ◌}
use Rattle.heyvl_num.specs.Value.Value.{finite}
use Rattle.heylo_formula.specs.Formula.{Form, Cond, Term}
use Rattle.heylo_formula.specs.declared.types.Ty.{Ty}
use Rattle.heylo_formula.specs.declared.values.Val.TheVariants.{Truth}
use Rattle.heylo_formula.specs.declared.values.Val.{Val}
use Rattle.heyvl_places.specs.declared.spans.Span.{Span}
use Rattle.heyvl_acts.specs.Acts.{Act, Acts, Arms, TypedProcedure, Variable, nobody}
use Rattle.run_machine.specs.Configurations.{begin}
use Rattle.run_machine.specs.Runs.{runs}
use Rattle.run_machine.specs.Scheduler.{Tree, Forest}
use Rattle.run_machine.specs.Step.{Decision}
use Rattle.run_machine.specs.Sums.{sum_of}
use Rattle.verdict_report.specs.declared.answers.Answer.{Answer}
use Rattle.verdict_report.specs.declared.answers.Verdict.TheVariants.{Verified}
use Rattle.verify_core.specs.Headline.{IsHeadline}
use Rattle.verdict_report.specs.VerdictsOn.{IsVerdictOn}

abbrev nowhere : Span
nowhere = record { from = 0; to = 0 }

abbrev only : Act → Acts
only a = Acts.next a Acts.done

abbrev flag : ℕ → Variable
flag n = record { name = n ∷ []; ty = Ty.Bool }

abbrev one : Form
one = Form.number oneᵛ

abbrev raise : ℕ → Acts
raise x = only (Act.set x (Term.truth (Cond.constant true)) nowhere)

abbrev lower : ℕ → Acts
lower x = only (Act.set x (Term.truth (Cond.constant false)) nowhere)

abbrev coin : List (Rational × Term)
coin = (halfʳ, Term.truth (Cond.constant true)) ∷ (halfʳ, Term.truth (Cond.constant false)) ∷ []

-- The answer on the only procedure of a file is `verified`.
record IsReported (p : TypedProcedure) (answers : List Answer) : Type 0 where
  headline : IsHeadline (p ∷ []) answers
  verdict : IsVerdictOn answers 0 Verified

-- The sums over runs of at most n steps, from the state `s` and under the scheduler `t`: reward and
-- post, or post and the mass not yet terminated.
abbrev upper_of : TypedProcedure → ℕ → List Val → Tree → Value
upper_of p n s t = sum_of true p.post (runs (p ∷ []) n (begin (p ∷ []) 0 s) t)

abbrev weak_of : TypedProcedure → ℕ → List Val → Tree → Value
weak_of p n s t = sum_of false p.post (runs (p ∷ []) n (begin (p ∷ []) 0 s) t)

-- ---- A draw: a flip yields true with probability at most 1/2, also if the output was true before

abbrev tossing : TypedProcedure
tossing = record nobody { outputs = flag 1 ∷ []; pre = Form.number (finite halfʳ); post = Form.iverson (Cond.flag 0); body = Some (only (Act.draw 0 coin nowhere)) }

tossing_shows_true : (answers : List Answer) → IsReported tossing answers → (n : ℕ) (t : Tree) → upper_of tossing n (Truth true ∷ []) t ≤ᵛ finite halfʳ
tossing_shows_true answers r n t = r.headline.verified 0 r.verdict (Truth true ∷ []) (refl, refl) n t

-- ---- A reward: the expected reward is at most 1

abbrev paying : TypedProcedure
paying = record nobody { pre = one; body = Some (only (Act.reward one nowhere)) }

paying_collects : (answers : List Answer) → IsReported paying answers → (n : ℕ) (t : Tree) → upper_of paying n [] t ≤ᵛ oneᵛ
paying_collects answers r n t = r.headline.verified 0 r.verdict [] refl n t

-- ---- An if: if the input is false, an output that was true becomes false

abbrev copying : TypedProcedure
copying = record nobody {
  inputs = flag 1 ∷ [];
  outputs = flag 2 ∷ [];
  pre = Form.iverson (Cond.flag 0);
  post = Form.iverson (Cond.flag 1);
  body = Some (only (Act.ifs (Arms.arm (Cond.flag 0) (raise 1) Arms.no_arm) (lower 1) nowhere));
}

copying_copies : (answers : List Answer) → IsReported copying answers → (n : ℕ) (t : Tree) → upper_of copying n (Truth false ∷ Truth true ∷ []) t ≤ᵛ zeroᵛ
copying_copies answers r n t = r.headline.verified 0 r.verdict (Truth false ∷ Truth true ∷ []) (refl, (refl, refl)) n t

-- ---- A choice of the scheduler, for both choices

abbrev may_raise : TypedProcedure
may_raise = record nobody { outputs = flag 1 ∷ []; pre = one; post = Form.iverson (Cond.flag 0); body = Some (only (Act.pick true (raise 0) (lower 0) nowhere)) }

may_raise_is_bounded : (answers : List Answer) → IsReported may_raise answers → (n : ℕ) (t : Tree) → upper_of may_raise n (Truth true ∷ []) t ≤ᵛ oneᵛ
may_raise_is_bounded answers r n t = r.headline.verified 0 r.verdict (Truth true ∷ []) (refl, refl) n t

abbrev one_raised : Form
one_raised = Form.iverson (Cond.or (Cond.flag 0) (Cond.flag 1))

abbrev must_raise : TypedProcedure
must_raise = record nobody {
  co = false;
  weak = true;
  outputs = flag 1 ∷ flag 2 ∷ [];
  pre = one;
  post = one_raised;
  body = Some (only (Act.pick false (raise 0) (raise 1) nowhere));
}

must_raise_is_bounded : (answers : List Answer) → IsReported must_raise answers → (n : ℕ) (t : Tree) → oneᵛ ≤ᵛ weak_of must_raise n (Truth true ∷ Truth false ∷ []) t
must_raise_is_bounded answers r n t = r.headline.verified 0 r.verdict (Truth true ∷ Truth false ∷ []) (refl, (refl, refl)) n t

-- ---- A havoc, for both values

abbrev guessing : TypedProcedure
guessing = record nobody {
  outputs = flag 1 ∷ flag 2 ∷ [];
  pre = one;
  post = Form.iverson (Cond.same (Cond.flag 0) (Cond.flag 1));
  body = Some (Acts.next (Act.draw 0 coin nowhere) (only (Act.any 1 true Ty.Bool nowhere)));
}

-- A scheduler that sees the result of the flip.
abbrev seeing : Tree
seeing = Tree.node Decision.none (Forest.trees (decided true) (Forest.trees (decided false) Forest.no_trees))
  where
    decided : Bool → Tree
    decided b = Tree.node (Decision.given (Truth b)) Forest.no_trees

guessing_is_bounded : (answers : List Answer) → IsReported guessing answers → (n : ℕ) → upper_of guessing n (Truth true ∷ Truth true ∷ []) seeing ≤ᵛ oneᵛ
guessing_is_bounded answers r n = r.headline.verified 0 r.verdict (Truth true ∷ Truth true ∷ []) (refl, (refl, refl)) n seeing

abbrev opposing : TypedProcedure
opposing = record nobody {
  co = false;
  weak = true;
  outputs = flag 1 ∷ flag 2 ∷ [];
  pre = one;
  post = one_raised;
  body = Some (Acts.next (Act.any 0 false Ty.Bool nowhere) (only (Act.set 1 (Term.truth (Cond.not (Cond.flag 0))) nowhere)));
}

opposing_is_bounded : (answers : List Answer) → IsReported opposing answers → (n : ℕ) (t : Tree) → oneᵛ ≤ᵛ weak_of opposing n (Truth false ∷ Truth true ∷ []) t
opposing_is_bounded answers r n t = r.headline.verified 0 r.verdict (Truth false ∷ Truth true ∷ []) (refl, (refl, refl)) n t
