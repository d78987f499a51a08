-- In a file that tokens spell, each `if` has an arm; and so it is in the file of a program.
use Rattle.pgcl_front.specs.Programs.{BlockTree, CommandTree, ProgramTree}
use Rattle.pgcl_front.specs.Sources.{IsPgclSource}
use Rattle.pgcl_front.specs.Translation.{first_place, lines, picks, picks_in, start, statements, translated}
use Rattle.spelled_files.proofs.SpelledParts.{ArePlaced, Gives, any, each, within, ◌before◌}
use Rattle.spelled_files.proofs.SpelledStatements.{braced, otherwise}
use Rattle.heyvl_places.specs.declared.spans.Span.{Span}
use Rattle.heyvl_syntax.specs.Grammar.{IsBlock, IsElseIfs, IsFile, IsIf, IsProc, IsStmt, IsStmts}
use Rattle.heyvl_syntax.specs.Procedures.{Procedure}
use Rattle.heyvl_syntax.specs.Productions.{IsOptional}
use Rattle.heyvl_syntax.specs.Statements.{Arms, Block, Statement, block_of}
use Rattle.heyvl_syntax.specs.declared.tokens.Token.{Token}
use Rattle.static_rules.specs.ArmedFiles.{AreArmsArmed, HasArm, HasArms, IsArmed, IsBlockArmed, IsBodyArmed}
use Rattle.std.proofs.Common.{List, None, Option, Some, [], arith, map, subst, sym, ◌+◌, ◌++◌, ◌∷◌, ◌≤◌, ℕ}

-- ---- Files that tokens spell

module _ (n : ℕ) where
  mutual
    statement_armed : (x : Statement) → Gives n (IsStmt x) (IsArmed x)
    statement_armed (Statement.var x t r s) = any _
    statement_armed (Statement.assign xs r s) = any _
    statement_armed (Statement.check kind a s) = any _
    statement_armed (Statement.validate co s) = any _
    statement_armed (Statement.havoc co xs s) = any _
    statement_armed (Statement.reward a s) = any _
    statement_armed (Statement.branch arms other s) = record {
      reads = λ ts h i.
          let x = within (first_arm arms before otherwise n IsBlockArmed tt other (braced n (block_armed other))) ts h i.0 in
          (x.0.0, (x.0.1, x.1));
    }
    statement_armed (Statement.pick up a b s) = record {
      reads = λ ts h i.
          let x = within (any _ before any _ before braced n (block_armed a) before otherwise n IsBlockArmed tt b (braced n (block_armed b))) ts h i.0 in
          (x.1.1.0, x.1.1.1);
    }
    statement_armed (Statement.loop rules g b s) = record { reads = λ ts h i. (within (any _ before any _ before any _ before braced n (block_armed b)) ts h i.0).1.1.1 }

    first_arm : (arms : Arms) → Gives n (IsIf arms) (HasArm arms × AreArmsArmed arms)
    first_arm Arms.no_arm = record { reads = λ ts h i. absurd i }
    first_arm (Arms.arm g b rest) = record {
      reads = λ ts h i.
          let x = within (any _ before any _ before braced n (block_armed b) before further_arms rest) ts h i in
          (tt, (x.1.1.0, x.1.1.1));
    }

    further_arms : (arms : Arms) → Gives n (IsElseIfs arms) (AreArmsArmed arms)
    further_arms Arms.no_arm = any _
    further_arms (Arms.arm g b rest) = record {
      reads = λ ts h i.
          let x = within (any _ before any _ before any _ before braced n (block_armed b) before further_arms rest) ts h i in
          (x.1.1.1.0, x.1.1.1.1);
    }

    block_armed : (b : Block) → Gives n (IsStmts b) (IsBlockArmed b)
    block_armed Block.done = any _
    block_armed (Block.next x xs) = record { reads = λ ts h i. let y = within (statement_armed x before any _ before block_armed xs) ts h i in (y.0, y.1.1) }

  body_armed : (b : Option Block) → Gives n (IsOptional IsBlock b) (IsBodyArmed b)
  body_armed None = any _
  body_armed (Some b) = braced n (block_armed b)

  procedure_armed : (p : Procedure) → Gives n (IsProc p) (IsBodyArmed p.body)
  procedure_armed p = record {
    reads = λ ts h i.
        (within (any _ before any _ before any _ before any _ before any _ before any _ before any _ before any _ before any _ before any _ before any _ before body_armed p.body) ts h i.0).1.1.1.1.1.1.1.1.1.1.1;
  }

far : List Token → ℕ
far [] = 0
far (t ∷ ts) = t.span.from + far ts

placed : (n : ℕ) (ts : List Token) → far ts ≤ n → ArePlaced n ts
unfolding far
placed n [] h = tt
placed n (t ∷ ts) h = (omega (arith, h), placed n ts (omega (arith, h)))

pub spelled_armed : (file : List Procedure) (tokens : List Token) → IsFile file tokens → HasArms file
spelled_armed file tokens is_file =
    within (each IsProc (λ p. IsBodyArmed p.body) (procedure_armed (far tokens)) file) tokens (placed (far tokens) tokens (omega arith)) is_file

-- ---- Files of programs

both_armed : (xs ys : List Statement) → IsBlockArmed (block_of xs) → IsBlockArmed (block_of ys) → IsBlockArmed (block_of (xs ++ ys))
both_armed [] ys h k = k
both_armed (x ∷ xs) ys h k = (h.0, both_armed xs ys h.1 k)

mutual
  lines_armed : (j : ℕ) (x : CommandTree) → IsBlockArmed (block_of (lines j x))
  lines_armed j (CommandTree.skip s) = ((tt, ((tt, tt), tt)), tt)
  lines_armed j (CommandTree.assign x e s) = (tt, tt)
  lines_armed j (CommandTree.tick e s) = (tt, tt)
  lines_armed j (CommandTree.branch g a b s) = ((tt, ((statements_armed j a, tt), statements_armed (j + picks_in a) b)), tt)
  lines_armed j (CommandTree.mix p a b s) = (tt, ((tt, ((statements_armed (j + 1) a, tt), statements_armed (j + 1 + picks_in a) b)), tt))
  lines_armed j (CommandTree.choice a b s) = ((statements_armed j a, statements_armed (j + picks_in a) b), tt)
  lines_armed j (CommandTree.repeat g i a s) = (statements_armed j a, tt)

  statements_armed : (j : ℕ) (b : BlockTree) → IsBlockArmed (block_of (statements j b))
  statements_armed j BlockTree.done = tt
  statements_armed j (BlockTree.next x xs) = both_armed (lines j x) (statements (j + picks x) xs) (lines_armed j x) (statements_armed (j + picks x) xs)

starts_armed : (ds : List _) → IsBlockArmed (block_of (map start ds))
starts_armed [] = tt
starts_armed (d ∷ ds) = (tt, starts_armed ds)

translated_armed : (place : Span) (p : ProgramTree) → HasArms (translated place p ∷ [])
translated_armed place p = (both_armed (map start p.declarations) (statements 1 p.body) (starts_armed p.declarations) (statements_armed 1 p.body), tt)

pub program_armed : (bytes : List ℕ) (file : List Procedure) → IsPgclSource bytes file → HasArms file
program_armed bytes file source =
    let t = source.translation in subst HasArms (sym t.is_file) (translated_armed (first_place source.tokens) t.program)
