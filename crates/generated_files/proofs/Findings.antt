-- The trees of the generated lines have no findings.
use Rattle.generated_files.proofs.Spread.{Spots}
use Rattle.generated_files.proofs.Trees.{call, coin, loop, whole}
use Rattle.heyvl_num.specs.Gcd.{gcd, gcd_steps}
use Rattle.heyvl_num.specs.Rational.{leqʳ, oneʳ, ratio, zeroʳ}
use Rattle.heyvl_syntax.specs.declared.types.TypeName.TheVariants as types
use Rattle.static_rules.specs.Files.{procedure_findings}
use Rattle.static_rules.specs.Literals.{literal_quotient}
use Rattle.std.proofs.Common.{List, Some, [], false, refl, true, ◌∷◌, ◌≡◌, ℕ}
use Rattle.typed_expressions.specs.LiteralValues.{inverse_value, literal_value}
use Rattle.typed_expressions.specs.Signatures.{Called, Signature, find_call, signature}

pub coin_half_clean : (called : Called) (x : List ℕ) (s : Spots) → procedure_findings called false (coin x (whole 2) s) ≡ []
unfolding literal_value inverse_value literal_quotient zeroʳ ratio gcd gcd_steps leqʳ oneʳ
coin_half_clean called x s = refl

pub coin_third_clean : (called : Called) (x : List ℕ) (s : Spots) → procedure_findings called false (coin x (whole 3) s) ≡ []
unfolding literal_value inverse_value literal_quotient zeroʳ ratio gcd gcd_steps leqʳ oneʳ
coin_third_clean called x s = refl

pub loop_clean : (called : Called) (x : List ℕ) (s : Spots) → procedure_findings called false (loop x s) ≡ []
unfolding literal_value inverse_value literal_quotient zeroʳ ratio gcd gcd_steps leqʳ oneʳ
loop_clean called x s = refl

-- The signature of a loop's procedure.
abbrev pub counter : ℕ → Signature
counter n = record { number = n; co = true; inputs = types.UInt ∷ []; outputs = types.UInt ∷ []; quantified = false }

pub loop_signature : (n : ℕ) (x : List ℕ) (s : Spots) → signature n (loop x s) ≡ counter n
loop_signature n x s = refl

pub call_clean : (called : Called) (x y : List ℕ) (n : ℕ) (s : Spots) → find_call called y ≡ Some (counter n) → procedure_findings called false (call x y s) ≡ []
unfolding literal_value inverse_value literal_quotient zeroʳ ratio gcd gcd_steps leqʳ oneʳ
call_clean called x y n s h = rw h refl
