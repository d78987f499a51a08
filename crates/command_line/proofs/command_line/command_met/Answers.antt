use Rattle.clap.specs.Words.{found_of, rows_of}
use Rattle.command_line.proofs.GenWords.{gen_met}
use Rattle.command_line.proofs.command_line.command_met.Goals as goal
use Rattle.command_line.specs.internal.Met.{IsFound}
use Rattle.std.proofs.Common.{List, Some, subst, ℕ}

pub returns-in_ok-value-in-gen-clause-found : goal.returns-in_ok-value-in-gen-clause-found
returns-in_ok-value-in-gen-clause-found c settings fits found =
    gen_met (rows_of (found_of c.args.matches.now)) _ _ c.in_ok-value-in-gen.ensures c.generation-in-gen.ensures settings fits
    (subst (λ (name : List ℕ). IsFound settings (Some (name, rows_of (found_of c.args.matches.now)))) c.in-gen.is found)
