use Rattle.linear_rows.proofs.exported.Fractions.{solvable_is}
use Rattle.linear_elim.proofs.Certificates.{contradicts, refuted_unmet}
use Rattle.linear_elim.proofs.Solvability.{complete, refuted-follows}
use Rattle.linear_elim.proofs.laws.elimination_decides.Goals as goal

pub returns : goal.returns
returns c = record {
  refuted = λ rule order rows c e s. let f = refuted-follows rule order rows c e in refuted_unmet rows c f.0 f.1 ((solvable_is rows).0 s);
  standing = λ rule order rows ss h e. (solvable_is rows).1 (complete rule order rows ss h e);
  multipliers = λ rule order rows c e n w v. let f = refuted-follows rule order rows c e in contradicts rows c f.0 f.1 n w v;
}
