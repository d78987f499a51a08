-- The expressions of a file have together at most as many nodes as there are tokens.
use Rattle.heyvl_places.specs.declared.spans.Span.{Span}
use Rattle.heyvl_syntax.specs.Expressions.{Expression}
use Rattle.heyvl_syntax.specs.Grammar.{Clause, IsAssign, IsBraced, IsCall, IsClause, IsClauses, IsElse, IsElseIfs, IsExpr, IsFile, IsFull, IsGiven, IsIf, IsProc, IsRight, IsRule, IsStmt, IsStmts, IsBlock, IsWeighted, check_key, operator, posts, prefix, pres, quantifier_key, ranks}
use Rattle.heyvl_syntax.specs.Procedures.{Procedure}
use Rattle.heyvl_syntax.specs.Productions.{IsAt, IsEach, IsKey, IsList, IsList0, IsMark, IsMore, IsName, IsNothing, IsOne, IsOptional, ◌or◌, ◌then◌}
use Rattle.heyvl_syntax.specs.Sizes.{expression_nodes, nodes, nodes_of_all, nodes_of_arms, nodes_of_block, nodes_of_body, nodes_of_optional, nodes_of_procedure, nodes_of_right, nodes_of_rule, nodes_of_statement}
use Rattle.heyvl_syntax.specs.Statements.{Arms, Block, LoopRule, RightSide, Statement}
use Rattle.heyvl_syntax.specs.declared.keys.Key.TheVariants as keys
use Rattle.heyvl_syntax.specs.declared.keys.Key.{Key}
use Rattle.heyvl_syntax.specs.declared.marks.Mark.TheVariants as marks
use Rattle.heyvl_syntax.specs.declared.marks.Mark.{Mark}
use Rattle.heyvl_syntax.specs.declared.tokens.Token.{Token}
use Rattle.heyvl_syntax.specs.declared.tokens.TokenKind.TheVariants as kinds
use Rattle.heyvl_syntax.specs.declared.tokens.TokenKind.{TokenKind}
use Rattle.std.proofs.Common.{List, None, Option, Some, [], ap, arith, inl, inr, length, length-append, refl, ◌+◌, ◌∷◌, ◌≡◌, ◌≤◌, ◌⊎◌, ℕ}
use Rattle.std.proofs.lemmas.List.Sums.{sum_by-cons}
use Rattle.std.specs.List.{sum_by}

-- A text of the production `P` has at least `n` tokens.
record HasAtLeast (P : List Token → Type 0) (n : ℕ) : Type 0 where
  bound : (ts : List Token) → P ts → n ≤ length ts

within : {P : List Token → Type 0} {n : ℕ} → HasAtLeast P n → (ts : List Token) → P ts → n ≤ length ts
within few ts h = few.bound ts h

any : (P : List Token → Type 0) → HasAtLeast P 0
any P = record { bound = λ ts h. omega arith }

less : {P : List Token → Type 0} {n : ℕ} (m : ℕ) → m ≤ n → HasAtLeast P n → HasAtLeast P m
less m h few = record { bound = λ ts p. let k : _ ≤ length ts = few.bound ts p in omega arith }

one : (kind : TokenKind) → HasAtLeast (IsOne kind) 1
one kind = record { bound = λ ts h. omega (arith, ap length h.1) }

mark : (m : Mark) → HasAtLeast (IsMark m) 1
mark m = one (kinds.Mark m)

key : (k : Key) → HasAtLeast (IsKey k) 1
key k = one (kinds.Key k)

here : (kind : TokenKind) (span : Span) → HasAtLeast (IsAt kind span) 1
here kind span = record { bound = λ ts h. omega (arith, ap length h) }

infixr 30 ◌before◌
◌before◌ : {P Q : List Token → Type 0} {n m : ℕ} → HasAtLeast P n → HasAtLeast Q m → HasAtLeast (P then Q) (n + m)
p before q = record {
  bound = λ ts h.
      let front = p.bound h.0 h.2 in
      let back = q.bound h.1 h.3 in
      omega (arith, ap length h.4, length-append h.0 h.1);
}

either : {P Q : List Token → Type 0} {n : ℕ} → HasAtLeast P n → HasAtLeast Q n → HasAtLeast (P or Q) n
either {P} {Q} {n} p q = record { bound = cases }
  where
    cases : (ts : List Token) → P ts ⊎ Q ts → n ≤ length ts
    cases ts (inl h) = p.bound ts h
    cases ts (inr h) = q.bound ts h

-- Sequences of items, with their sizes.
each : {A : Type 0} (P : A → List Token → Type 0) (size : A → ℕ) → ((x : A) → HasAtLeast (P x) (size x)) → (xs : List A) → HasAtLeast (IsEach P xs) (sum_by size xs)
each P size item [] = any (IsEach P [])
each P size item (x ∷ xs) = rw sum_by-cons (item x before each P size item xs)

more : {A : Type 0} (P : A → List Token → Type 0) (size : A → ℕ) → ((x : A) → HasAtLeast (P x) (size x)) → (xs : List A) → HasAtLeast (IsMore P xs) (sum_by size xs)
more P size item [] = any (IsMore P [])
more P size item (x ∷ xs) = rw sum_by-cons (less (size x + sum_by size xs) (omega arith) (mark marks.Comma before item x before more P size item xs))

items : {A : Type 0} (P : A → List Token → Type 0) (size : A → ℕ) → ((x : A) → HasAtLeast (P x) (size x)) → (xs : List A) → HasAtLeast (IsList P xs) (sum_by size xs)
items P size item [] = record { bound = λ ts h. absurd h }
items P size item (x ∷ xs) = rw sum_by-cons (item x before more P size item xs)

items0 : {A : Type 0} (P : A → List Token → Type 0) (size : A → ℕ) → ((x : A) → HasAtLeast (P x) (size x)) → (xs : List A) → HasAtLeast (IsList0 P xs) (sum_by size xs)
items0 P size item [] = any (IsList0 P [])
items0 P size item (x ∷ xs) = items P size item (x ∷ xs)

-- Expressions.
expr : (a : Expression) (k : ℕ) → HasAtLeast (IsExpr a k) (nodes a)
expr (Expression.number n s) k = record { bound = λ ts h. within (one (kinds.Number n)) ts h.0 }
expr (Expression.truth b s) k = record { bound = λ ts h. omega (arith, ap length h.0.1) }
expr (Expression.infinity s) k = record { bound = λ ts h. within (key keys.Infty) ts h.0 }
expr (Expression.name x s) k = record { bound = λ ts h. within (one (kinds.Word x)) ts h.0 }
expr (Expression.group a s) k = record { bound = λ ts h. let n = within (mark marks.ParenLeft before expr a 9 before mark marks.ParenRight) ts h.0 in omega arith }
expr (Expression.bracket a s) k = record { bound = λ ts h. let n = within (mark marks.BracketLeft before expr a 9 before mark marks.BracketRight) ts h.0 in omega arith }
expr (Expression.embed a s) k = record { bound = λ ts h. let n = within (mark marks.Question before mark marks.ParenLeft before expr a 9 before mark marks.ParenRight) ts h.0 in omega arith }
expr (Expression.unary op a s) k = record { bound = λ ts h. within (mark (prefix op) before expr a 0) ts h.0 }
expr (Expression.binary op a b s) k = record { bound = λ ts h. let n = within (expr a (ranks op).left before here (operator op) s before expr b (ranks op).right) ts h.1 in omega arith }
expr (Expression.choice a b c s) k = record {
  bound = λ ts h.
      let n = within (key keys.Ite before mark marks.ParenLeft before expr a 9 before mark marks.Comma before expr b 9 before mark marks.Comma before expr c 9 before mark marks.ParenRight) ts h.0 in
      omega arith;
}
expr (Expression.bound up x t a s) k = record {
  bound = λ ts h.
      let n = within (key (quantifier_key up) before one (kinds.Word x) before mark marks.Colon before any _ before mark marks.Dot before expr a 9) ts h.1 in
      omega arith;
}

full : (a : Expression) → HasAtLeast (IsFull a) (nodes a)
full a = expr a 9

all_of : (xs : List Expression) → HasAtLeast (IsList0 IsFull xs) (nodes_of_all xs)
all_of xs = items0 IsFull nodes full xs

-- Right sides and annotations.
weighted : (part : Expression × Expression) → HasAtLeast (IsWeighted part) (nodes part.0 + nodes part.1)
weighted part = less (nodes part.0 + nodes part.1) (omega arith) (full part.0 before mark marks.Colon before full part.1)

call : (f : List ℕ) (xs : List Expression) → HasAtLeast (IsCall f xs) (nodes_of_all xs)
call f xs = less (nodes_of_all xs) (omega arith) (one (kinds.Word f) before mark marks.ParenLeft before all_of xs before mark marks.ParenRight)

right : (r : RightSide) → HasAtLeast (IsRight r) (nodes_of_right r)
right (RightSide.plain a) = full a
right (RightSide.flip p) = less (nodes p) (omega arith) (key keys.Flip before mark marks.ParenLeft before full p before mark marks.ParenRight)
right (RightSide.unif a b) =
    less (nodes a + nodes b) (omega arith) (key keys.Unif before mark marks.ParenLeft before full a before mark marks.Comma before full b before mark marks.ParenRight)
right (RightSide.choose parts) =
    less (sum_by (λ part. nodes part.0 + nodes part.1) parts) (omega arith)
    (key keys.Choose before mark marks.BraceLeft before items IsWeighted (λ part. nodes part.0 + nodes part.1) weighted parts before mark marks.BraceRight)
right (RightSide.call f xs) = call f xs

given : (r : RightSide) → HasAtLeast (IsGiven r) (nodes_of_right r)
given r = less (nodes_of_right r) (omega arith) (mark marks.Assign before right r)

optional_given : (r : Option RightSide) → HasAtLeast (IsOptional IsGiven r) (nodes_of_optional r)
optional_given None = any (IsOptional IsGiven None)
optional_given (Some r) = given r

rule : (r : LoopRule) → HasAtLeast (IsRule r) (nodes_of_rule r)
rule (LoopRule.invariant i s) = record {
  bound = λ ts h. let n = within (mark marks.AtSign before any _ before mark marks.ParenLeft before full i before mark marks.ParenRight) ts h.0 in omega arith;
}
rule (LoopRule.k_induction k i s) = record {
  bound = λ ts h.
      let n = within (mark marks.AtSign before any _ before mark marks.ParenLeft before full k before mark marks.Comma before full i before mark marks.ParenRight) ts h.0 in
      omega arith;
}
rule (LoopRule.ranking e r s) = record {
  bound = λ ts h.
      let n = within (mark marks.AtSign before any _ before mark marks.ParenLeft before full e before mark marks.Comma before full r before mark marks.ParenRight) ts h.0 in
      omega arith;
}

-- Statements.
assigned : (xs : List (List ℕ)) (r : RightSide) → HasAtLeast (IsAssign xs r) (nodes_of_right r)
assigned [] (RightSide.call f xs) = call f xs
assigned [] (RightSide.plain a) = record { bound = λ ts h. absurd h }
assigned [] (RightSide.flip p) = record { bound = λ ts h. absurd h }
assigned [] (RightSide.unif a b) = record { bound = λ ts h. absurd h }
assigned [] (RightSide.choose parts) = record { bound = λ ts h. absurd h }
assigned (x ∷ xs) r = less (nodes_of_right r) (omega arith) (any (IsList IsName (x ∷ xs)) before given r)

braced : {P : List Token → Type 0} {n : ℕ} → HasAtLeast P n → HasAtLeast (IsBraced P) n
braced {P} {n} p = less n (omega arith) (mark marks.BraceLeft before p before mark marks.BraceRight)

otherwise : (b : Block) {P : List Token → Type 0} → HasAtLeast P (nodes_of_block b) → HasAtLeast (IsElse b P) (nodes_of_block b)
otherwise b {P} p = record { bound = cases }
  where
    cases : (ts : List Token) → (IsKey keys.Else then P) ts ⊎ ((b ≡ Block.done) × IsNothing ts) → nodes_of_block b ≤ length ts
    cases ts (inl h) = let n = within (key keys.Else before p) ts h in omega arith
    cases ts (inr (e, h)) = rw e (omega arith)

mutual
  statement : (s : Statement) → HasAtLeast (IsStmt s) (nodes_of_statement s)
  statement (Statement.var x t r s) = record {
    bound = λ ts h. let n = within (key keys.Var before any _ before mark marks.Colon before any _ before optional_given r) ts h.0 in omega arith;
  }
  statement (Statement.assign xs r s) = record { bound = λ ts h. within (assigned xs r) ts h.0 }
  statement (Statement.check kind a s) = record { bound = λ ts h. let n = within (key (check_key kind) before full a) ts h.0 in omega arith }
  statement (Statement.validate co s) = any _
  statement (Statement.havoc co xs s) = any _
  statement (Statement.reward a s) = record { bound = λ ts h. let n = within (either (key keys.Reward) (key keys.Tick) before full a) ts h.0 in omega arith }
  statement (Statement.branch arms other s) = record { bound = λ ts h. within (first_arm arms before otherwise other (braced (block other))) ts h.0 }
  statement (Statement.pick up a b s) = record {
    bound = λ ts h. let n = within (key keys.If before any _ before braced (block a) before otherwise b (braced (block b))) ts h.0 in omega arith;
  }
  statement (Statement.loop rules g b s) = record {
    bound = λ ts h. let n = within (each IsRule nodes_of_rule rule rules before key keys.While before full g before braced (block b)) ts h.0 in omega arith;
  }

  first_arm : (arms : Arms) → HasAtLeast (IsIf arms) (nodes_of_arms arms)
  first_arm Arms.no_arm = any _
  first_arm (Arms.arm g b rest) =
      less (nodes g + nodes_of_block b + nodes_of_arms rest) (omega arith) (key keys.If before full g before braced (block b) before further_arms rest)

  further_arms : (arms : Arms) → HasAtLeast (IsElseIfs arms) (nodes_of_arms arms)
  further_arms Arms.no_arm = any _
  further_arms (Arms.arm g b rest) =
      less (nodes g + nodes_of_block b + nodes_of_arms rest) (omega arith)
      (key keys.Else before key keys.If before full g before braced (block b) before further_arms rest)

  block : (b : Block) → HasAtLeast (IsStmts b) (nodes_of_block b)
  block Block.done = any _
  block (Block.next x xs) = less (nodes_of_statement x + nodes_of_block xs) (omega arith) (statement x before any _ before block xs)

-- Procedures and files.
nodes_of_clause : Clause → ℕ
nodes_of_clause (Clause.pre a) = nodes a
nodes_of_clause (Clause.post a) = nodes a

clause : (c : Clause) → HasAtLeast (IsClause c) (nodes_of_clause c)
unfolding nodes_of_clause
clause (Clause.pre a) = less (nodes a) (omega arith) (key keys.Pre before full a)
clause (Clause.post a) = less (nodes a) (omega arith) (key keys.Post before full a)

sorted : (cs : List Clause) → nodes_of_all (pres cs) + nodes_of_all (posts cs) ≡ sum_by nodes_of_clause cs
unfolding nodes_of_clause
sorted [] = refl
sorted (Clause.pre a ∷ cs) =
    let e : nodes_of_all (a ∷ pres cs) ≡ nodes a + nodes_of_all (pres cs) = sum_by-cons nodes a (pres cs) in
    let f : sum_by nodes_of_clause (Clause.pre a ∷ cs) ≡ nodes a + sum_by nodes_of_clause cs = sum_by-cons nodes_of_clause (Clause.pre a) cs in
    let ih = sorted cs in
    omega arith
sorted (Clause.post a ∷ cs) =
    let e : nodes_of_all (a ∷ posts cs) ≡ nodes a + nodes_of_all (posts cs) = sum_by-cons nodes a (posts cs) in
    let f : sum_by nodes_of_clause (Clause.post a ∷ cs) ≡ nodes a + sum_by nodes_of_clause cs = sum_by-cons nodes_of_clause (Clause.post a) cs in
    let ih = sorted cs in
    omega arith

clauses : (ps qs : List Expression) → HasAtLeast (IsClauses ps qs) (nodes_of_all ps + nodes_of_all qs)
clauses ps qs = record { bound = found }
  where
    found : (ts : List Token) → IsClauses ps qs ts → nodes_of_all ps + nodes_of_all qs ≤ length ts
    found ts (cs, spelled, e1, e2) =
        let n : sum_by nodes_of_clause cs ≤ length ts = within (each IsClause nodes_of_clause clause cs) ts spelled in
        let sizes = sorted cs in
        rw (← e1, ← e2) (omega arith)

body : (b : Option Block) → HasAtLeast (IsOptional IsBlock b) (nodes_of_body b)
body None = any _
body (Some b) = braced (block b)

procedure : (p : Procedure) → HasAtLeast (IsProc p) (nodes_of_procedure p)
procedure p = record {
  bound = λ ts h.
      let n = within (any _ before any _ before any _ before any _ before any _ before any _ before any _ before any _ before any _ before any _ before clauses p.pres p.posts before body p.body) ts h.0 in
      omega arith;
}

pub few_nodes : (file : List Procedure) (tokens : List Token) → IsFile file tokens → expression_nodes file ≤ length tokens
few_nodes file tokens = within (each IsProc nodes_of_procedure procedure file) tokens
