-- Properties of the procedures of a file whose tokens begin within `n` bytes; and that the places
-- of a file are within the bytes of its text.
use Rattle.spelled_files.proofs.EachOf.{each_mapped, each_weaker}
use Rattle.spelled_files.proofs.SpelledExpressions.{ExpressionStands, expr, form_stands}
use Rattle.spelled_files.proofs.SpelledParts.{ArePlaced, Gives, any, each, tokens_inside, within, ◌before◌}
use Rattle.spelled_files.proofs.SpelledStatements.{IsSpelled, block}
use Rattle.heylo_formula.specs.Formula.{Form}
use Rattle.heyvl_syntax.proofs.exported.InOrder.{stand_in_order}
use Rattle.heyvl_syntax.specs.Expressions.{Expression}
use Rattle.heyvl_syntax.specs.Grammar.{Clause, IsBlock, IsClause, IsClauses, IsFile, IsProc, posts, pres}
use Rattle.heyvl_syntax.specs.Procedures.{Procedure}
use Rattle.heyvl_syntax.specs.Productions.{IsOptional}
use Rattle.heyvl_syntax.specs.Statements.{Block}
use Rattle.heyvl_syntax.specs.Tokens.{Lexes}
use Rattle.heyvl_syntax.specs.declared.tokens.Token.{Token}
use Rattle.heyvl_acts.specs.Acts.{TypedProcedure, acts_in}
use Rattle.static_rules.specs.Files.{arity, body_acts, clause, first_quantified, head_scope, input_scope, joined_with, post_forms, pre_forms, resolved, setting, typed}
use Rattle.heyvl_acts.specs.Places.{in_order}
use Rattle.heyvl_acts.specs.Rules.{Each}
use Rattle.typed_expressions.specs.Scopes.{Scope}
use Rattle.typed_expressions.specs.Signatures.{Called, called}
use Rattle.typed_expressions.specs.TypedExpressions.{elaborate}
use Rattle.typed_expressions.specs.DeclaredVariables.{front_variables}
use Rattle.std.proofs.Common.{Bool, List, None, Option, Some, [], false, length, subst, true, ◌+◌, ◌∷◌, ℕ}
use Rattle.heyvl_acts.specs.StandingParts.{ActStands, FormStands, StandsWithin}

-- The properties of a procedure whose tokens begin within `n` bytes.
pub record HasSpelledParts (n : ℕ) (p : TypedProcedure) : Type 0 where
  pub pre : FormStands n p.pre
  pub post : FormStands n p.post
  pub acts : Each (IsSpelled n) (in_order (acts_in p.body))

module _ (n : ℕ) where
  -- ---- Pre and post

  ClauseStands : Clause → Type 0
  ClauseStands (Clause.pre a) = ExpressionStands n a
  ClauseStands (Clause.post a) = ExpressionStands n a

  one_clause : (c : Clause) → Gives n (IsClause c) (ClauseStands c)
  unfolding ClauseStands
  one_clause (Clause.pre a) = record { reads = λ ts h i. (within (any _ before expr n a 9) ts h i).1 }
  one_clause (Clause.post a) = record { reads = λ ts h i. (within (any _ before expr n a 9) ts h i).1 }

  pres_stand : (cs : List Clause) → Each ClauseStands cs → Each (ExpressionStands n) (pres cs)
  unfolding ClauseStands
  pres_stand [] h = tt
  pres_stand (Clause.pre a ∷ cs) h = (h.0, pres_stand cs h.1)
  pres_stand (Clause.post a ∷ cs) h = pres_stand cs h.1

  posts_stand : (cs : List Clause) → Each ClauseStands cs → Each (ExpressionStands n) (posts cs)
  unfolding ClauseStands
  posts_stand [] h = tt
  posts_stand (Clause.pre a ∷ cs) h = posts_stand cs h.1
  posts_stand (Clause.post a ∷ cs) h = (h.0, posts_stand cs h.1)

  all_clauses : (front back : List Expression) → Gives n (IsClauses front back) (Each (ExpressionStands n) front × Each (ExpressionStands n) back)
  all_clauses front back = record { reads = found }
    where
      found : (ts : List Token) → ArePlaced n ts → IsClauses front back ts → Each (ExpressionStands n) front × Each (ExpressionStands n) back
      found ts h (cs, i, e1, e2) =
          let all = within (each IsClause ClauseStands one_clause cs) ts h i in
          (subst (Each (ExpressionStands n)) e1 (pres_stand cs all), subst (Each (ExpressionStands n)) e2 (posts_stand cs all))

  joined_stands : (co : Bool) (f : Form) (fs : List Form) → FormStands n f → Each (FormStands n) fs → FormStands n (joined_with co f fs)
  joined_stands true f [] h k = h
  joined_stands false f [] h k = h
  joined_stands true f (g ∷ gs) h k = joined_stands true (Form.max f g) gs (h, k.0) k.1
  joined_stands false f (g ∷ gs) h k = joined_stands false (Form.min f g) gs (h, k.0) k.1

  clause_stands : (co : Bool) (fs : List Form) → Each (FormStands n) fs → FormStands n (clause co fs)
  clause_stands true [] h = tt
  clause_stands false [] h = tt
  clause_stands true (f ∷ fs) h = joined_stands true f fs h.0 h.1
  clause_stands false (f ∷ fs) h = joined_stands false f fs h.0 h.1

  pre_stands : (k : ℕ) (sc : Scope) (es : List Expression) → Each (ExpressionStands n) es → Each (FormStands n) (pre_forms k sc es)
  pre_stands k sc [] h = tt
  pre_stands k sc (e ∷ es) h = (form_stands n (elaborate k sc e) (h.0 k sc), pre_stands k sc es h.1)

  post_stands : (k : ℕ) (sc : Scope) (es : List Expression) → Each (ExpressionStands n) es → Each (FormStands n) (post_forms k sc es)
  post_stands k sc [] h = tt
  post_stands k sc (e ∷ es) h = (form_stands n (elaborate k sc e) (h.0 k sc), post_stands (k + length (front_variables e)) sc es h.1)

  -- ---- Procedures and files

  abbrev BodyStands : Procedure → Called → Option Block → Type 0
  BodyStands p c b = (k : ℕ) (sc : Scope) → Each (IsSpelled n) (in_order (acts_in (body_acts (setting p) c k sc b)))

  body : (p : Procedure) (c : Called) (b : Option Block) → Gives n (IsOptional IsBlock b) (BodyStands p c b)
  body p c None = record { reads = λ ts h i k sc. tt }
  body p c (Some b) = record { reads = λ ts h i k sc. (within (any _ before block n p c b before any _) ts h i).1.0 k 1 sc }

  procedure : (c : Called) (p : Procedure) → Gives n (IsProc p) (HasSpelledParts n (typed c p))
  procedure c p = record {
    reads = λ ts h i.
        let x = within (any _ before any _ before any _ before any _ before any _ before any _ before any _ before any _ before any _ before any _ before all_clauses p.pres p.posts before body p c p.body) ts h i.0 in
        let clauses = x.1.1.1.1.1.1.1.1.1.1.0 in
        record {
          pre = clause_stands p.co (pre_forms (arity p) (input_scope p) p.pres) (pre_stands (arity p) (input_scope p) p.pres clauses.0);
          post = clause_stands p.co (post_forms (first_quantified p) (head_scope p) p.posts) (post_stands (first_quantified p) (head_scope p) p.posts clauses.1);
          acts = x.1.1.1.1.1.1.1.1.1.1.1 (arity p) (head_scope p);
        };
  }

  pub file_spelled : (tokens : List Token) (file : List Procedure) → ArePlaced n tokens → IsFile file tokens → Each (HasSpelledParts n) (resolved file)
  file_spelled tokens file placed is_file =
      let c = called file in
      each_mapped (typed c) (HasSpelledParts n) file (within (each IsProc (λ p. HasSpelledParts n (typed c p)) (procedure c) file) tokens placed is_file)

parts_stand : (n : ℕ) (p : TypedProcedure) → HasSpelledParts n p → StandsWithin n p
parts_stand n p h = record { pre = h.pre; post = h.post; acts = each_weaker (IsSpelled n) (ActStands n) (λ a k. k.1) (in_order (acts_in p.body)) h.acts }

pub stand_within : (bytes : List ℕ) (tokens : List Token) (file : List Procedure) → Lexes 0 bytes tokens → IsFile file tokens → Each (StandsWithin (length bytes)) (resolved file)
stand_within bytes tokens file lexes is_file =
    let n = length bytes in
    let placed = tokens_inside bytes tokens (stand_in_order bytes tokens lexes) in
    each_weaker (HasSpelledParts n) (StandsWithin n) (parts_stand n) (resolved file) (file_spelled n tokens file placed is_file)
