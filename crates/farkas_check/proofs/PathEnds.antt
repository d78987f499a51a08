-- The end of a path, and whether it allows splits and has a denied goal.
use Rattle.std.proofs.Common.{◌≡◌, ℕ, List, refl, sym, ap, ◌∙◌, subst, Bool, true, false, not, ◌&&◌}
use Rattle.std.specs.Prelude.{Option, Some, None, is_some, is_none, IsTrue, ◌↔◌}
use Rattle.heylo_formula.specs.Goals.{Goal}
use Rattle.heylo_formula.specs.Typing.{types_in}
use Rattle.linear_rows.specs.VariableTypes.{is_integral}
use Rattle.linear_values.specs.PlainValues.{linear_of}
use Rattle.linear_values.specs.Tightening.{Claim}
use Rattle.linear_values.specs.declared.lin.Lin.{Lin}
use Rattle.linear_form.specs.Query.{Query, Taken}
use Rattle.linear_form.specs.Query.Query.{done, bits, ask}
use Rattle.linear_form.specs.Questions.{Ends}
use Rattle.linear_form.specs.AskAnswers.{Answers}
use Rattle.linear_form.specs.Paths.{end_at}
use Rattle.linear_form.specs.PathRows.{denial, denial_at, rows_of, IsPlainAt}
use Rattle.linear_form.specs.RowLists.{Lists}
use Rattle.linear_form.specs.declared.path_rows.RowList.{RowList}
use Rattle.linear_form.specs.declared.questions.Ask as Q
use Rattle.linear_form.specs.declared.paths.Atom as A
use Rattle.farkas_check.specs.AcceptedCertificates.{CanSplit, has_denied}

pub ended : (g : Goal) (ps : List Taken) (x y : Option Lin) → Answers (Q.TheVariants.End x y) (end_at g ps) → end_at g ps ≡ done (linear_of x, linear_of y)
ended g ps x y h = go (end_at g ps) refl h
  where
    go : (t : Query Ends) → end_at g ps ≡ t → Answers (Q.TheVariants.End x y) t → end_at g ps ≡ done (linear_of x, linear_of y)
    go (done e) k m = k ∙ ap done (sym m)
    go bits k m = absurd m
    go (ask q a b) k m = absurd m

at_question : (g : Goal) (ps : List Taken) (q : A.Atom) → Answers (Q.TheVariants.Decide q) (end_at g ps) → (e : Ends) → end_at g ps ≡ done e → ⊥
at_question g ps q h e k = subst (Answers (Q.TheVariants.Decide q)) k h

at_bits : (g : Goal) (ps : List Taken) → Answers Q.TheVariants.Bits (end_at g ps) → (e : Ends) → end_at g ps ≡ done e → ⊥
at_bits g ps h e k = subst (Answers Q.TheVariants.Bits) k h

-- ---- The denied goal

none_denied : (g : Goal) (ps : List Taken) → ((e : Ends) → end_at g ps ≡ done e → ⊥) → has_denied g ps ≡ false
none_denied g ps n = go (end_at g ps) refl
  where
    go : (t : Query Ends) → end_at g ps ≡ t → is_some (denial_at g.upper t) ≡ false
    go (done e) k = absurd (n e k)
    go bits k = refl
    go (ask q a b) k = refl

pub question_undenied : (g : Goal) (ps : List Taken) (q : A.Atom) → Answers (Q.TheVariants.Decide q) (end_at g ps) → has_denied g ps ≡ false
question_undenied g ps q h = none_denied g ps (at_question g ps q h)

pub bits_undenied : (g : Goal) (ps : List Taken) → Answers Q.TheVariants.Bits (end_at g ps) → has_denied g ps ≡ false
bits_undenied g ps h = none_denied g ps (at_bits g ps h)

some_or_none : (o : Option Claim) → is_some o ≡ not (is_none o)
some_or_none (Some k) = refl
some_or_none None = refl

pub end_denied : (g : Goal) (ps : List Taken) (x y : Option Lin) (b : Bool) → Answers (Q.TheVariants.End x y) (end_at g ps) → b ≡ is_none (denial g.upper (linear_of x, linear_of y)) → has_denied g ps ≡ not b
end_denied g ps x y b h e = ap (λ t. is_some (denial_at g.upper t)) (ended g ps x y h) ∙ some_or_none (denial g.upper (linear_of x, linear_of y)) ∙ ap not (sym e)

pub rows_denied : (g : Goal) (ps : List Taken) (r : RowList) (b : Bool) → has_denied g ps ≡ b → Lists r (rows_of g ps b) → Lists r (rows_of g ps (has_denied g ps))
rows_denied g ps r b e h = subst (λ d. Lists r (rows_of g ps d)) (sym e) h

-- ---- Splits

pub question_unsplit : (g : Goal) (ps : List Taken) (x : ℕ) (q : A.Atom) → Answers (Q.TheVariants.Decide q) (end_at g ps) → CanSplit g ps x → ⊥
question_unsplit g ps x q h c = at_question g ps q h c.ends c.at_end

pub bits_unsplit : (g : Goal) (ps : List Taken) (x : ℕ) → Answers Q.TheVariants.Bits (end_at g ps) → CanSplit g ps x → ⊥
bits_unsplit g ps x h c = at_bits g ps h c.ends c.at_end

is_plain : (g : Goal) (ps : List Taken) (e : Ends) → end_at g ps ≡ done e → denial g.upper e ≡ None → IsPlainAt g ps
is_plain g ps e k h = record { ends = e; at_end = k; plain = h }

plain_denies : (g : Goal) (ps : List Taken) (e : Ends) → end_at g ps ≡ done e → IsPlainAt g ps → denial g.upper e ≡ None
plain_denies g ps e k p = let i : done p.ends ≡ done e = sym p.at_end ∙ k in let j : p.ends ≡ e = cc in ap (denial g.upper) (sym j) ∙ p.plain

pub end_splits : (g : Goal) (ps : List Taken) (n : ℕ) (x y : Option Lin) (b w : Bool) → Answers (Q.TheVariants.End x y) (end_at g ps) → b ≡ is_none (denial g.upper (linear_of x, linear_of y)) → w ≡ is_integral (types_in g.types n) → IsTrue (not b && w) ↔ CanSplit g ps n
end_splits g ps n x y b w h e f = (λ t. there b w e f t, λ c. back b w e f c)
  where
    end : end_at g ps ≡ done (linear_of x, linear_of y)
    end = ended g ps x y h

    none_is : (o : Option Claim) → false ≡ is_none o → o ≡ None → ⊥
    none_is (Some k) i j = absurd (cc)
    none_is None i j = absurd (cc)

    some_is : (o : Option Claim) → true ≡ is_none o → o ≡ None
    some_is (Some k) i = absurd (cc)
    some_is None i = refl

    there : (b w : Bool) → b ≡ is_none (denial g.upper (linear_of x, linear_of y)) → w ≡ is_integral (types_in g.types n) → IsTrue (not b && w) → CanSplit g ps n
    there true w e f t = let i : false ≡ true = t in absurd (cc)
    there false true e f t = record { ends = (linear_of x, linear_of y); at_end = end; not_plain = λ p. none_is (denial g.upper (linear_of x, linear_of y)) e (plain_denies g ps (linear_of x, linear_of y) end p); whole_type = sym f }
    there false false e f t = let i : false ≡ true = t in absurd (cc)

    back : (b w : Bool) → b ≡ is_none (denial g.upper (linear_of x, linear_of y)) → w ≡ is_integral (types_in g.types n) → CanSplit g ps n → IsTrue (not b && w)
    back true w e f c = absurd (c.not_plain (is_plain g ps (linear_of x, linear_of y) end (some_is (denial g.upper (linear_of x, linear_of y)) e)))
    back false true e f c = refl
    back false false e f c = let i : false ≡ true = f ∙ c.whole_type in absurd (cc)
