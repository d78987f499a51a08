use Rattle.std.proofs.Common.{◌≡◌, ◌∙◌, ap₂, unsigned_abs, pos, ℤ, ◌^◌, ◌<◌, List, ℕ}
use Rattle.std.specs.Prelude.{◌<ℤ◌}
use Rattle.std.specs.Hash.{le_bytes}
use Rattle.std.specs.Int.{w128}
use mir.Val.{of_z}
use Rattle.heyvl_num.specs.Gcd.{gcd}
use Rattle.heyvl_num.specs.Rational.{Rational, ratio}
use Rattle.heyvl_num.proofs.StoredParts.{num_is, den_is}
use Rattle.heyvl_num.proofs.fractions.FracHash.hash.Goals as goal

-- The integers that are hashed are the parts of the fraction.
fed : {S : Type 0} (write : S → List ℕ → S) (s t u : S) (x : Rational) (a d : ℤ) → t ≡ write s (le_bytes 16 (of_z w128 a)) → u ≡ write t (le_bytes 16 (of_z w128 d)) → ratio a (unsigned_abs d) ≡ x → (pos 0 <ℤ d) × (unsigned_abs a < 2 ^ 127) × (gcd (unsigned_abs a) (unsigned_abs d) ≡ 1) → u ≡ write (write s (le_bytes 16 (of_z w128 x.num))) (le_bytes 16 (of_z w128 (pos x.den)))
fed write s t u x a d f g e h = g ∙ ap₂ write (f ∙ ap₂ write (λ i. s) (ap₂ (λ (z y : ℤ). le_bytes 16 (of_z w128 z)) (num_is x a d e h) (num_is x a d e h))) (ap₂ (λ (z y : ℤ). le_bytes 16 (of_z w128 z)) (den_is x a d e h) (den_is x a d e h))

pub returns : goal.returns
returns g c = fed g.__H.Hasher.write c.args.state.now c.hash.new.state c.hash-2.new.state c.args.self.now c.t1-1.inside.num c.t1-1.inside.den c.hash.ensures c.hash-2.ensures c.t1-1.view_is c.t1-1.invariant
