-- A program has at most as many probabilistic choices as tokens, since each has a `[`.
use Rattle.guarded_commands.specs.Grammar.{IsCommand, IsCommands, IsProgram}
use Rattle.guarded_commands.specs.Programs.{BlockTree, CommandTree, ProgramTree}
use Rattle.guarded_commands.specs.Translation.{picks, picks_in}
use Rattle.heyvl_syntax.specs.Grammar.{IsBraced}
use Rattle.heyvl_syntax.specs.Productions.{IsMark, ◌then◌}
use Rattle.heyvl_syntax.specs.declared.marks.Mark.TheVariants as marks
use Rattle.heyvl_syntax.specs.declared.marks.Mark.{Mark}
use Rattle.heyvl_syntax.specs.declared.tokens.Token.{Token}
use Rattle.std.proofs.Common.{List, ap, arith, length, length-append, ◌+◌, ◌++◌, ◌≡◌, ◌≤◌, ℕ}

-- Each text of `P` has at least `n` tokens.
record Counts (n : ℕ) (P : List Token → Type 0) : Type 0 where
  few : (ts : List Token) → P ts → n ≤ length ts

any : (P : List Token → Type 0) → Counts 0 P
any P = record { few = λ ts h. omega arith }

mark : (m : Mark) → Counts 1 (IsMark m)
mark m = record { few = λ ts h. let e = ap length h.1 in omega (arith, e) }

infixr 30 ◌beside◌
◌beside◌ : {m n : ℕ} {P R : List Token → Type 0} → Counts m P → Counts n R → Counts (m + n) (P then R)
◌beside◌ {m} {n} {P} {R} p r = record { few = parts }
  where
    parts : (ts : List Token) → (P then R) ts → m + n ≤ length ts
    parts ts (front, back, first, second, e) =
        let a = p.few front first in
        let b = r.few back second in
        let both : length ts ≡ length (front ++ back) = ap length e in
        omega (arith, a, b, both, length-append front back)

braced : {n : ℕ} {P : List Token → Type 0} → Counts n P → Counts n (IsBraced P)
braced g = record { few = λ ts h. let x = (any _ beside g beside any _).few ts h in omega (arith, x) }

mutual
  command : (x : CommandTree) → Counts (picks x) (IsCommand x)
  command (CommandTree.skip s) = any _
  command (CommandTree.assign x e s) = any _
  command (CommandTree.tick e s) = any _
  command (CommandTree.branch g a b s) = record {
    few = λ ts h. let x = (any _ beside any _ beside braced (commands a) beside any _ beside braced (commands b)).few ts h.0 in omega (arith, x);
  }
  command (CommandTree.mix p a b s) = record {
    few = λ ts h. let x = (braced (commands a) beside mark marks.BracketLeft beside any _ beside any _ beside braced (commands b)).few ts h.0 in omega (arith, x);
  }
  command (CommandTree.choice a b s) = record {
    few = λ ts h. let x = (braced (commands a) beside any _ beside any _ beside braced (commands b)).few ts h.0 in omega (arith, x);
  }
  command (CommandTree.repeat g i a s) = record {
    few = λ ts h. let x = (any _ beside any _ beside any _ beside any _ beside any _ beside braced (commands a)).few ts h.0 in omega (arith, x);
  }

  commands : (b : BlockTree) → Counts (picks_in b) (IsCommands b)
  commands BlockTree.done = any _
  commands (BlockTree.next x xs) = command x beside commands xs

pub few_picks : (p : ProgramTree) (ts : List Token) → IsProgram p ts → picks_in p.body ≤ length ts
few_picks p ts h =
    let x = (any _ beside any _ beside any _ beside any _ beside any _ beside any _ beside any _ beside commands p.body).few ts h.grammar in
    omega (arith, x)
