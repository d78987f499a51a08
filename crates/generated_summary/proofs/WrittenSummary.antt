-- The text of a summary, from its parts.
use Rattle.command_rules.specs.Summaries.{how_many, is_not_verified, is_other, is_verified, summary}
use Rattle.std.proofs.Common.{List, append_assoc, codes, decimal, refl, ◌++◌, ◌≡◌, ℕ}
use Rattle.verdict_report.specs.declared.answers.Answer.{Answer}

joined : (t0 a b c d e f g h i j t1 t2 t3 t4 t5 : List ℕ) → t1 ≡ t0 ++ (a ++ b) → t2 ≡ t1 ++ (c ++ d) → t3 ≡ t2 ++ (e ++ f) → t4 ≡ t3 ++ (g ++ h) → t5 ≡ t4 ++ (i ++ j)
    → t5 ≡ t0 ++ a ++ b ++ c ++ d ++ e ++ f ++ g ++ h ++ i ++ j
joined t0 a b c d e f g h i j t1 t2 t3 t4 t5 p q r s u = rw (u, s, r, q, p) (simp append_assoc)

pub summary_written : (n v m o : ℕ) (answers : List Answer) (t0 t1 t2 t3 t4 t5 : List ℕ) → t0 ≡ codes "gen " → v ≡ how_many is_verified answers → m ≡ how_many is_not_verified answers → o ≡ how_many is_other answers
    → t1 ≡ t0 ++ (decimal n ++ codes ": ") → t2 ≡ t1 ++ (decimal n ++ codes " procedures, ") → t3 ≡ t2 ++ (decimal v ++ codes " verified, ") → t4 ≡ t3 ++ (decimal m ++ codes " not verified, ")
    → t5 ≡ t4 ++ (decimal o ++ codes " other\n") → t5 ≡ summary n answers
summary_written n v m o answers t0 t1 t2 t3 t4 t5 z ev em eo p q r s u =
    rw (joined t0 (decimal n) (codes ": ") (decimal n) (codes " procedures, ") (decimal v) (codes " verified, ") (decimal m) (codes " not verified, ") (decimal o) (codes " other\n") t1 t2 t3 t4 t5 p q r s u, z, ev, em, eo) refl
