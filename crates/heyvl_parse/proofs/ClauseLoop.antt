-- The loop over the clauses of a procedure, which separates the pre clauses from the post clauses.
use Rattle.heyvl_parse.proofs.EachLoop.{Rest, loop_done, loop_fails, loop_init, loop_more}
use Rattle.heyvl_parse.specs.readers.Combinators.{kind, starts}
use Rattle.heyvl_parse.specs.internal.Procedures.{clause, clause_by, clause_of, clause_tree, clauses, divide, divided, is_clause}
use Rattle.heyvl_parse.specs.readers.ReadParts.{Got, Read, expr, mapped, pair}
use Rattle.heyvl_parse.specs.readers.Results.{Fails}
use Rattle.heyvl_parse.specs.declared.stops.PartStop.TheVariants.{Fault, Memory}
use Rattle.heyvl_parse.specs.declared.stops.PartStop.{PartStop}
use Rattle.heyvl_syntax.specs.Expressions.{Expression}
use Rattle.heyvl_syntax.specs.Grammar.{Clause, posts, pres}
use Rattle.heyvl_syntax.specs.declared.tokens.Token.{Token}
use Rattle.std.proofs.Common.{Bool, List, [], ap, false, length, refl, true, ◌++◌, ◌<◌, ◌∙◌, ◌∷◌, ◌≡◌, ℕ}
use Rattle.std.proofs.lemmas.List.{append-nil}

pres_append : (cs ds : List Clause) → pres (cs ++ ds) ≡ pres cs ++ pres ds
pres_append [] ds = refl
pres_append (Clause.pre a ∷ cs) ds = ap (λ z. a ∷ z) (pres_append cs ds)
pres_append (Clause.post a ∷ cs) ds = pres_append cs ds

posts_append : (cs ds : List Clause) → posts (cs ++ ds) ≡ posts cs ++ posts ds
posts_append [] ds = refl
posts_append (Clause.pre a ∷ cs) ds = posts_append cs ds
posts_append (Clause.post a ∷ cs) ds = ap (λ z. a ∷ z) (posts_append cs ds)

-- The clauses read so far have these pre clauses and post clauses.
abbrev pub RestOfClauses : ℕ → List Token → List Expression → List Expression → List Token → Type 0
RestOfClauses n all before after ts = (cs : List Clause) × (pres cs ≡ before) × (posts cs ≡ after) × Rest is_clause (clause n) (clauses n all) cs ts

pub clauses_init : (n : ℕ) (ts : List Token) → length ts < n → RestOfClauses n ts [] [] ts
clauses_init n ts h = ([], refl, refl, loop_init is_clause (clause n) n ts h)

clause_got : (n : ℕ) (ts r : List Token) (b : Bool) (a : Expression) → pair (kind clause_of) (expr n) ts ≡ Got (b, a) r → clause n ts ≡ Got (clause_by b a) r
clause_got n ts r b a e = rw e refl

pub clauses_pre : (n : ℕ) (all ts r : List Token) (before after : List Expression) (a : Expression) → RestOfClauses n all before after ts → starts is_clause ts ≡ true → pair (kind clause_of) (expr n) ts ≡ Got (false, a) r → length r < length ts → RestOfClauses n all (before ++ (a ∷ [])) after r
clauses_pre n all ts r before after a (cs, one, two, rest) on e short = (
  cs ++ (Clause.pre a ∷ []),
  pres_append cs (Clause.pre a ∷ []) ∙ ap (λ z. z ++ (a ∷ [])) one,
  posts_append cs (Clause.pre a ∷ []) ∙ append-nil (posts cs) ∙ two,
  loop_more is_clause (clause n) (clauses n all) ts r cs (Clause.pre a) rest on (clause_got n ts r false a e) short,
)

pub clauses_post : (n : ℕ) (all ts r : List Token) (before after : List Expression) (a : Expression) → RestOfClauses n all before after ts → starts is_clause ts ≡ true → pair (kind clause_of) (expr n) ts ≡ Got (true, a) r → length r < length ts → RestOfClauses n all before (after ++ (a ∷ [])) r
clauses_post n all ts r before after a (cs, one, two, rest) on e short = (
  cs ++ (Clause.post a ∷ []),
  pres_append cs (Clause.post a ∷ []) ∙ append-nil (pres cs) ∙ one,
  posts_append cs (Clause.post a ∷ []) ∙ ap (λ z. z ++ (a ∷ [])) two,
  loop_more is_clause (clause n) (clauses n all) ts r cs (Clause.post a) rest on (clause_got n ts r true a e) short,
)

pub clauses_done : (n : ℕ) (all ts : List Token) (before after : List Expression) → RestOfClauses n all before after ts → starts is_clause ts ≡ false → divided n all ≡ Got (before, after) ts
clauses_done n all ts before after (cs, one, two, rest) off = rw (loop_done is_clause (clause n) (clauses n all) ts cs rest off, one, two) refl

fails_mapped : {A B : Type 0} (h : A → B) (f : List Token → Read A) (e : PartStop) (ts : List Token) → Fails e (f ts) → Fails e (mapped h f ts)
fails_mapped h f (Memory error) ts fails = tt
fails_mapped h f (Fault left) ts (r, bad, len) = (r, rw bad refl, len)

pub clauses_fail : (n : ℕ) (all ts : List Token) (before after : List Expression) (e : PartStop) → RestOfClauses n all before after ts → starts is_clause ts ≡ true → Fails e (pair (kind clause_of) (expr n) ts) → Fails e (divided n all)
clauses_fail n all ts before after e (cs, one, two, rest) on fails =
    fails_mapped divide (clauses n) e all (loop_fails is_clause (clause n) (clauses n all) e ts cs rest on (fails_mapped clause_tree (pair (kind clause_of) (expr n)) e ts fails))
