-- The loop over the arms of an `if`.
use Rattle.heyvl_parse.specs.readers.ReadParts.{Bad, Got, Out, Read}
use Rattle.heyvl_parse.specs.readers.Results.{Fails}
use Rattle.heyvl_parse.specs.internal.Statements.{BlockReader, Links, Next, arm, branched, fronted, link, links}
use Rattle.heyvl_parse.specs.declared.stops.PartStop.TheVariants.{Fault, Memory}
use Rattle.heyvl_parse.specs.declared.stops.PartStop.{PartStop}
use Rattle.heyvl_syntax.specs.Expressions.{Expression}
use Rattle.heyvl_syntax.specs.Statements.{Block}
use Rattle.heyvl_syntax.specs.declared.tokens.Token.{Token}
use Rattle.std.proofs.Common.{List, [], ap, append_assoc, arith, length, refl, suc, sym, zero, ◌++◌, ◌<◌, ◌∙◌, ◌∷◌, ◌≡◌, ℕ}
use Rattle.std.proofs.lemmas.List.{append-nil}

fronted_twice : (a b : List (Expression × Block)) (res : Read Links) → fronted a (fronted b res) ≡ fronted (a ++ b) res
fronted_twice a b (Got x r) = ap (λ z. Got (z, x.1) r) (sym (append_assoc a b x.0))
fronted_twice a b (Bad r) = refl
fronted_twice a b Out = refl

-- The arms `before` and those that are still to be read are all arms.
abbrev pub Left : ℕ → BlockReader → Read Links → List (Expression × Block) → List Token → Type 0
Left n block all before ts = (k : ℕ) × (length ts < k) × (all ≡ fronted before (links n block k ts))

pub chain_first : (n : ℕ) (block : BlockReader) (ts r : List Token) (a : Expression × Block) → length r < n → arm n block ts ≡ Got a r → Left n block (branched n block ts) (a ∷ []) r
chain_first n block ts r a h e = (n, h, rw e refl)

pub chain_more : (n : ℕ) (block : BlockReader) (all : Read Links) (ts r : List Token) (before : List (Expression × Block)) (a : Expression × Block) → Left n block all before ts → link n block ts ≡ Got (Next.again a) r → length r < length ts → Left n block all (before ++ (a ∷ [])) r
chain_more n block all ts r before a (zero, lt, same) e short = absurd (omega arith)
chain_more n block all ts r before a (suc k, lt, same) e short = (k, omega arith, same ∙ rw e (fronted_twice before (a ∷ []) (links n block k r)))

pub chain_done : (n : ℕ) (block : BlockReader) (all : Read Links) (ts r : List Token) (before : List (Expression × Block)) (b : Block) → Left n block all before ts → link n block ts ≡ Got (Next.last b) r → all ≡ Got (before, b) r
chain_done n block all ts r before b (zero, lt, same) e = absurd (omega arith)
chain_done n block all ts r before b (suc k, lt, same) e = same ∙ rw (e, append-nil before) refl

pub chain_fails : (n : ℕ) (block : BlockReader) (all : Read Links) (e : PartStop) (ts : List Token) (before : List (Expression × Block)) → Left n block all before ts → Fails e (link n block ts) → Fails e all
chain_fails n block all (Memory error) ts before left fails = tt
chain_fails n block all (Fault k) ts before (zero, lt, same) fails = absurd (omega arith)
chain_fails n block all (Fault m) ts before (suc k, lt, same) (r, bad, len) = (r, same ∙ rw bad refl, len)
