-- In a file that tokens spell, each procedure has few variables and few loops, as each has its own
-- token; and so it is in the file of a program.
use Rattle.spelled_files.specs.Sources.{file_limit}
use Rattle.heyvl_places.specs.declared.spans.Span.{Span}
use Rattle.heyvl_syntax.proofs.exported.InOrder.{tokens_few}
use Rattle.heyvl_syntax.specs.Expressions.{Expression}
use Rattle.heyvl_syntax.specs.Grammar.{Clause, IsBlock, IsBraced, IsClause, IsClauses, IsElse, IsElseIfs, IsExpr, IsIf, IsParam, IsProc, IsStmt, IsStmts, posts, quantifier_key}
use Rattle.heyvl_syntax.specs.Procedures.{Procedure}
use Rattle.heyvl_syntax.specs.Productions.{IsEach, IsKey, IsList0, IsMark, IsMore, IsNothing, IsOne, IsOptional, ◌then◌}
use Rattle.heyvl_syntax.specs.SourceFaults.{IsSource}
use Rattle.heyvl_syntax.specs.Statements.{Arms, Block, Statement, block_of}
use Rattle.heyvl_syntax.specs.Tokens.{Lexes}
use Rattle.heyvl_syntax.specs.declared.keys.Key.TheVariants as keys
use Rattle.heyvl_syntax.specs.declared.keys.Key.{Key}
use Rattle.heyvl_syntax.specs.declared.marks.Mark.TheVariants as marks
use Rattle.heyvl_syntax.specs.declared.marks.Mark.{Mark}
use Rattle.heyvl_syntax.specs.declared.procedures.Param.{Param}
use Rattle.heyvl_syntax.specs.declared.tokens.Token.{Token}
use Rattle.heyvl_syntax.specs.declared.tokens.TokenKind.TheVariants as kinds
use Rattle.heyvl_syntax.specs.declared.tokens.TokenKind.{TokenKind}
use Rattle.static_rules.specs.Files.{loops_of_body, variable_count}
use Rattle.static_rules.specs.PartCounts.{HasFewParts, HaveFewParts}
use Rattle.static_rules.specs.StatementActs.{loops, loops_of_arms, loops_of_block}
use Rattle.static_rules.specs.Variables.{locals, locals_of_arms, locals_of_block, locals_of_body}
use Rattle.pgcl_front.specs.Grammar.{IsCommand, IsCommands, IsDeclaration}
use Rattle.pgcl_front.specs.Programs.{BlockTree, CommandTree, ProgramTree}
use Rattle.pgcl_front.specs.Sources.{IsPgclSource}
use Rattle.pgcl_front.specs.Translation.{first_place, input, lines, output, picks, picks_in, start, statements, translated}
use Rattle.std.proofs.Common.{List, None, Option, Some, [], ap, arith, inl, inr, length, length-append, map, refl, subst, sym, ◌+◌, ◌++◌, ◌^◌, ◌∷◌, ◌≡◌, ◌≤◌, ◌⊎◌, ℕ}
use Rattle.std.proofs.lemmas.List.{length-map}
use Rattle.typed_expressions.specs.DeclaredVariables.{front_variables, fronts_variables}

-- Each text of the production `P` has at least `n` tokens.
record Counts (n : ℕ) (P : List Token → Type 0) : Type 0 where
  few : (ts : List Token) → P ts → n ≤ length ts

any : (P : List Token → Type 0) → Counts 0 P
any P = record { few = λ ts h. omega arith }

one : (kind : TokenKind) → Counts 1 (IsOne kind)
one kind = record { few = λ ts h. let e = ap length h.1 in omega (arith, e) }

key : (k : Key) → Counts 1 (IsKey k)
key k = one (kinds.Key k)

mark : (m : Mark) → Counts 1 (IsMark m)
mark m = one (kinds.Mark m)

infixr 30 ◌beside◌
◌beside◌ : {m n : ℕ} {P R : List Token → Type 0} → Counts m P → Counts n R → Counts (m + n) (P then R)
◌beside◌ {m} {n} {P} {R} p r = record { few = parts }
  where
    parts : (ts : List Token) → (P then R) ts → m + n ≤ length ts
    parts ts (front, back, first, second, e) =
        let a = p.few front first in
        let b = r.few back second in
        let both : length ts ≡ length (front ++ back) = ap length e in
        omega (arith, a, b, both, length-append front back)

braced : {n : ℕ} {P : List Token → Type 0} → Counts n P → Counts n (IsBraced P)
braced g = record { few = λ ts h. let x = (any _ beside g beside any _).few ts h in omega (arith, x) }

each : {A : Type 0} (P : A → List Token → Type 0) → ((x : A) → Counts 1 (P x)) → (xs : List A) → Counts (length xs) (IsEach P xs)
each P item [] = any _
each P item (x ∷ xs) = record { few = λ ts h. let n = (item x beside each P item xs).few ts h in omega (arith, n) }

more : {A : Type 0} (P : A → List Token → Type 0) → ((x : A) → Counts 1 (P x)) → (xs : List A) → Counts (length xs) (IsMore P xs)
more P item [] = any _
more P item (x ∷ xs) = record { few = λ ts h. let n = (any _ beside item x beside more P item xs).few ts h in omega (arith, n) }

items : {A : Type 0} (P : A → List Token → Type 0) → ((x : A) → Counts 1 (P x)) → (xs : List A) → Counts (length xs) (IsList0 P xs)
items P item [] = any _
items P item (x ∷ xs) = record { few = λ ts h. let n = (item x beside more P item xs).few ts h in omega (arith, n) }

-- ---- Files that tokens spell

-- The number of variables and loops of a statement.
abbrev parts : Statement → ℕ
parts x = length (locals x) + loops x

abbrev parts_of_block : Block → ℕ
parts_of_block b = length (locals_of_block b) + loops_of_block b

abbrev parts_of_arms : Arms → ℕ
parts_of_arms arms = length (locals_of_arms arms) + loops_of_arms arms

otherwise : {P : List Token → Type 0} (b : Block) → Counts (parts_of_block b) P → Counts (parts_of_block b) (IsElse b P)
otherwise {P} b g = record { few = cases }
  where
    cases : (ts : List Token) → (IsKey keys.Else then P) ts ⊎ ((b ≡ Block.done) × IsNothing ts) → parts_of_block b ≤ length ts
    cases ts (inl h) = let n = (any _ beside g).few ts h in omega (arith, n)
    cases ts (inr (e, h)) = rw e (omega arith)

mutual
  statement : (x : Statement) → Counts (parts x) (IsStmt x)
  statement (Statement.var x t r s) = record { few = λ ts h. let n = (key keys.Var beside any _).few ts h.0 in omega (arith, n) }
  statement (Statement.assign xs r s) = any _
  statement (Statement.check kind a s) = any _
  statement (Statement.validate co s) = any _
  statement (Statement.havoc co xs s) = any _
  statement (Statement.reward a s) = any _
  statement (Statement.branch arms other s) = record {
    few = λ ts h.
        let n = (first_arm arms beside otherwise other (braced (block other))).few ts h.0 in
        omega (arith, n, length-append (locals_of_arms arms) (locals_of_block other));
  }
  statement (Statement.pick up a b s) = record {
    few = λ ts h.
        let n = (any _ beside any _ beside braced (block a) beside otherwise b (braced (block b))).few ts h.0 in
        omega (arith, n, length-append (locals_of_block a) (locals_of_block b));
  }
  statement (Statement.loop rules g b s) = record { few = λ ts h. let n = (any _ beside key keys.While beside any _ beside braced (block b)).few ts h.0 in omega (arith, n) }

  first_arm : (arms : Arms) → Counts (parts_of_arms arms) (IsIf arms)
  first_arm Arms.no_arm = any _
  first_arm (Arms.arm g b rest) = record {
    few = λ ts h.
        let n = (any _ beside any _ beside braced (block b) beside further_arms rest).few ts h in
        omega (arith, n, length-append (locals_of_block b) (locals_of_arms rest));
  }

  further_arms : (arms : Arms) → Counts (parts_of_arms arms) (IsElseIfs arms)
  further_arms Arms.no_arm = any _
  further_arms (Arms.arm g b rest) = record {
    few = λ ts h.
        let n = (any _ beside any _ beside any _ beside braced (block b) beside further_arms rest).few ts h in
        omega (arith, n, length-append (locals_of_block b) (locals_of_arms rest));
  }

  block : (b : Block) → Counts (parts_of_block b) (IsStmts b)
  block Block.done = any _
  block (Block.next x xs) = record {
    few = λ ts h.
        let n = (statement x beside any _ beside block xs).few ts h in
        omega (arith, n, length-append (locals x) (locals_of_block xs));
  }

body : (b : Option Block) → Counts (length (locals_of_body b) + loops_of_body b) (IsOptional IsBlock b)
body None = any _
body (Some b) = braced (block b)

front : (e : Expression) (k : ℕ) → Counts (length (front_variables e)) (IsExpr e k)
front (Expression.bound up x t a s) k = record {
  few = λ ts h. let n = (key (quantifier_key up) beside any _ beside any _ beside any _ beside any _ beside front a 9).few ts h.1 in omega (arith, n);
}
front (Expression.number v s) k = any _
front (Expression.truth b s) k = any _
front (Expression.infinity s) k = any _
front (Expression.name x s) k = any _
front (Expression.group a s) k = any _
front (Expression.bracket a s) k = any _
front (Expression.embed a s) k = any _
front (Expression.unary op a s) k = any _
front (Expression.binary op a b s) k = any _
front (Expression.choice a b c s) k = any _

each_clause : (cs : List Clause) → Counts (length (fronts_variables (posts cs))) (IsEach IsClause cs)
each_clause [] = any _
each_clause (Clause.pre a ∷ cs) = record { few = λ ts h. let n = (any _ beside each_clause cs).few ts h in omega (arith, n) }
each_clause (Clause.post a ∷ cs) = record {
  few = λ ts h.
      let n = ((any _ beside front a 9) beside each_clause cs).few ts h in
      omega (arith, n, length-append (front_variables a) (fronts_variables (posts cs)));
}

clauses : (before after : List Expression) → Counts (length (fronts_variables after)) (IsClauses before after)
clauses before after = record { few = found }
  where
    found : (ts : List Token) → IsClauses before after ts → length (fronts_variables after) ≤ length ts
    found ts (cs, spelled, e1, e2) = subst (λ es. length (fronts_variables es) ≤ length ts) e2 ((each_clause cs).few ts spelled)

param : (p : Param) → Counts 1 (IsParam p)
param p = record { few = λ ts h. let n = (one (kinds.Word p.name) beside any _).few ts h.0 in omega (arith, n) }

procedure : (p : Procedure) → Counts (variable_count p + loops_of_body p.body) (IsProc p)
procedure p = record {
  few = λ ts h.
      let n = (any _ beside any _ beside any _ beside any _ beside items IsParam param p.inputs beside any _ beside any _ beside any _ beside items IsParam param p.outputs beside any _ beside clauses p.pres p.posts beside body p.body).few ts h.0 in
      omega (arith, n);
}

few_parts : (p : Procedure) (n : ℕ) → variable_count p + loops_of_body p.body ≤ n → n ≤ 2 ^ 29 → HasFewParts p
few_parts p n h few = record { variables = omega (arith, h, few); loops = omega (arith, h, few) }

each_has_few : (ps : List Procedure) (ts : List Token) → IsEach IsProc ps ts → length ts ≤ 2 ^ 29 → HaveFewParts ps
each_has_few [] ts h few = tt
each_has_few (p ∷ ps) ts (front, back, is, rest, e) few =
    let both : length ts ≡ length (front ++ back) = ap length e in
    let sum = length-append front back in
    (few_parts p (length front) ((procedure p).few front is) (omega (arith, both, sum, few)), each_has_few ps back rest (omega (arith, both, sum, few)))

tokens_within : (bytes : List ℕ) (tokens : List Token) → Lexes 0 bytes tokens → length bytes ≤ file_limit → length tokens ≤ 2 ^ 29
tokens_within bytes tokens lexes short = let few = tokens_few bytes tokens lexes in omega (arith, few, short)

pub spelled_few_parts : (bytes : List ℕ) (file : List Procedure) → IsSource bytes file → length bytes ≤ file_limit → HaveFewParts file
spelled_few_parts bytes file source short = each_has_few file source.tokens source.is_file (tokens_within bytes source.tokens source.lexes short)

-- ---- Files of programs

abbrev parts_of_all : List Statement → ℕ
parts_of_all xs = parts_of_block (block_of xs)

parts_both : (xs ys : List Statement) → parts_of_all (xs ++ ys) ≡ parts_of_all xs + parts_of_all ys
parts_both [] ys = omega arith
parts_both (x ∷ xs) ys =
    let more = parts_both xs ys in
    omega (arith, more, length-append (locals x) (locals_of_block (block_of (xs ++ ys))), length-append (locals x) (locals_of_block (block_of xs)))

parts_of_pair : (a b : Block) → length ((locals_of_block a ++ []) ++ locals_of_block b) ≡ length (locals_of_block a) + length (locals_of_block b)
parts_of_pair a b = omega (arith, length-append (locals_of_block a ++ []) (locals_of_block b), length-append (locals_of_block a) [])

mutual
  command : (j : ℕ) (x : CommandTree) → Counts (parts_of_all (lines j x)) (IsCommand x)
  command j (CommandTree.skip s) = any _
  command j (CommandTree.assign x e s) = any _
  command j (CommandTree.tick e s) = any _
  command j (CommandTree.branch g a b s) = record {
    few = λ ts h.
        let n = (any _ beside any _ beside braced (commands j a) beside any _ beside braced (commands (j + picks_in a) b)).few ts h.0 in
        omega (arith, n, parts_of_pair (block_of (statements j a)) (block_of (statements (j + picks_in a) b)), length-append ((locals_of_block (block_of (statements j a)) ++ []) ++ locals_of_block (block_of (statements (j + picks_in a) b))) []);
  }
  command j (CommandTree.mix p a b s) = record {
    few = λ ts h.
        let n = (braced (commands (j + 1) a) beside mark marks.BracketLeft beside any _ beside any _ beside braced (commands (j + 1 + picks_in a) b)).few ts h.0 in
        omega (arith, n, parts_of_pair (block_of (statements (j + 1) a)) (block_of (statements (j + 1 + picks_in a) b)), length-append ((locals_of_block (block_of (statements (j + 1) a)) ++ []) ++ locals_of_block (block_of (statements (j + 1 + picks_in a) b))) []);
  }
  command j (CommandTree.choice a b s) = record {
    few = λ ts h.
        let n = (braced (commands j a) beside any _ beside any _ beside braced (commands (j + picks_in a) b)).few ts h.0 in
        omega (arith, n, length-append (locals_of_block (block_of (statements j a)) ++ locals_of_block (block_of (statements (j + picks_in a) b))) [], length-append (locals_of_block (block_of (statements j a))) (locals_of_block (block_of (statements (j + picks_in a) b))));
  }
  command j (CommandTree.repeat g i a s) = record {
    few = λ ts h.
        let n = (key keys.While beside any _ beside any _ beside any _ beside any _ beside braced (commands j a)).few ts h.0 in
        omega (arith, n, length-append (locals_of_block (block_of (statements j a))) []);
  }

  commands : (j : ℕ) (b : BlockTree) → Counts (parts_of_all (statements j b)) (IsCommands b)
  commands j BlockTree.done = any _
  commands j (BlockTree.next x xs) = record {
    few = λ ts h.
        let n = (command j x beside commands (j + picks x) xs).few ts h in
        let both = parts_both (lines j x) (statements (j + picks x) xs) in
        omega (arith, n, both);
  }

starts_have_none : (ds : List _) → parts_of_all (map start ds) ≡ 0
starts_have_none [] = refl
starts_have_none (d ∷ ds) = let more = starts_have_none ds in omega (arith, more)

declaration : (d : _) → Counts 1 (IsDeclaration d)
declaration d = record { few = λ ts h. let n = (one _ beside any _).few ts h.0 in omega (arith, n) }

translated_few_parts : (place : Span) (p : ProgramTree) (n : ℕ) → length p.declarations + (length (front_variables p.post) + parts_of_all (statements 1 p.body)) ≤ n → n ≤ 2 ^ 29 → HasFewParts (translated place p)
translated_few_parts place p n h few =
    let inputs : length (map input p.declarations) ≡ length p.declarations = length-map p.declarations input in
    let outputs : length (map output p.declarations) ≡ length p.declarations = length-map p.declarations output in
    let both = parts_both (map start p.declarations) (statements 1 p.body) in
    let none = starts_have_none p.declarations in
    let fronts = length-append (front_variables p.post) [] in
    record { variables = omega (arith, h, few, inputs, outputs, both, none, fronts); loops = omega (arith, h, few, both, none) }

pub program_few_parts : (bytes : List ℕ) (file : List Procedure) → IsPgclSource bytes file → length bytes ≤ file_limit → HaveFewParts file
program_few_parts bytes file source short =
    let t = source.translation in
    let p = t.program in
    let n = (each IsDeclaration declaration p.declarations beside any _ beside any _ beside any _ beside any _ beside front p.post 9 beside any _ beside commands 1 p.body).few source.tokens t.translatable.spelled.grammar in
    subst HaveFewParts (sym t.is_file) (translated_few_parts (first_place source.tokens) p (length source.tokens) (omega (arith, n)) (tokens_within bytes source.tokens source.lexes short), tt)
