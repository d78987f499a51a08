use Rattle.std.proofs.Common.{◌≡◌, ap, subst, sym, ◌∙◌, ◌+◌, ℕ, List, drop, take, true, false, None}
use Rattle.linear_form.specs.PlainPaths.{atom_of, path_of}
use Rattle.linear_form.specs.Query.{Taken, known}
use Rattle.linear_form.specs.Query.Query.{ask, done}
use Rattle.linear_form.specs.internal.EvaluationResults.{GivesTruth}
use Rattle.linear_form.specs.internal.Run.{along, turned}
use Rattle.linear_form.specs.internal.Run.Evaluation.{value}
use Rattle.linear_form.specs.declared.paths.Atom as A
use Rattle.linear_form.proofs.Runs.{run_known, run_new, run_row}
use Rattle.linear_form.proofs.cursor.answer.Goals as goal

row_turned : (ps : List Taken) (a : A.Atom) (i : ℕ) (l : _) (strict : _) → a ≡ A.TheVariants.Row l strict → along ps (ask (atom_of a) (done true) (done false)) i ≡ turned (drop i ps) (atom_of a) (value true (i + 1)) (value false (i + 1))
row_turned ps a i l strict e = subst (λ a. along ps (ask (atom_of a) (done true) (done false)) i ≡ turned (drop i ps) (atom_of a) (value true (i + 1)) (value false (i + 1))) (sym e) (run_row ps _ strict i)

truth_turned : (ps : List Taken) (a : A.Atom) (i x : ℕ) → a ≡ A.TheVariants.Truth x → known x (take i ps) ≡ None → along ps (ask (atom_of a) (done true) (done false)) i ≡ turned (drop i ps) (atom_of a) (value true (i + 1)) (value false (i + 1))
truth_turned ps a i x e h = subst (λ a. along ps (ask (atom_of a) (done true) (done false)) i ≡ turned (drop i ps) (atom_of a) (value true (i + 1)) (value false (i + 1))) (sym e) (run_new ps x i h)

pub returns-in-Row : goal.returns-in-Row
returns-in-Row c = subst (GivesTruth c.answered-in-Row.result) (sym (row_turned (path_of c.args.path.now) c.args.atom.now.value c.args.at c.in-Row.field-0 c.in-Row.field-1 (sym c.deref.ensures ∙ c.in-Row.is))) c.answered-in-Row.ensures

pub returns-in-Some : goal.returns-in-Some
returns-in-Some c = ap (λ a. along (path_of c.args.path.now) (ask (atom_of a) (done true) (done false)) c.args.at) (sym c.deref.ensures ∙ c.in-Truth.is) ∙ run_known (path_of c.args.path.now) c.in-Truth.x c.args.at c.in-Some.holds (sym c.known_truth.ensures ∙ c.in-Some.is)

pub returns-in-None : goal.returns-in-None
returns-in-None c = subst (GivesTruth c.answered.result) (sym (truth_turned (path_of c.args.path.now) c.args.atom.now.value c.args.at c.in-Truth.x (sym c.deref.ensures ∙ c.in-Truth.is) (sym c.known_truth.ensures ∙ c.in-None.is))) c.answered.ensures
