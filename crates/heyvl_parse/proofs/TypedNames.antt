-- Reading a name with its type and what follows it.
use Rattle.heyvl_parse.proofs.SequelLaws.{both}
use Rattle.heyvl_parse.specs.readers.Combinators.{lead, sign, trail}
use Rattle.heyvl_parse.specs.readers.ReadParts.{Bad, Got, Out, Read, Reader, Whole, bound, bound_tree, end_of, expect, is_mark, pair, reach, type_name, word, ◌>>=◌}
use Rattle.heyvl_places.specs.declared.spans.Span.{Span}
use Rattle.heyvl_syntax.specs.Expressions.{Expression}
use Rattle.heyvl_syntax.specs.declared.marks.Mark.TheVariants as marks
use Rattle.heyvl_syntax.specs.declared.tokens.Token.{Token}
use Rattle.heyvl_syntax.specs.declared.types.TypeName.{TypeName}
use Rattle.std.proofs.Common.{Bool, List, refl, ◌≡◌, ℕ}

abbrev pub typed : List Token → Read (List ℕ × TypeName)
typed ts = pair word (lead (is_mark marks.Colon) type_name) ts

abbrev pub three : {B : Type 0} → List ℕ × TypeName → B → List Token → Read (List ℕ × (TypeName × B))
three p y r = Got (p.0, (p.1, y)) r

with_name : {B : Type 0} (x : List ℕ) (t : TypeName) (read : Read B) →
    ((read >>= λ y q. both t y q) >>= λ y q. both x y q) ≡ (read >>= λ y q. three (x, t) y q)
with_name x t (Got y q) = refl
with_name x t (Bad q) = refl
with_name x t Out = refl

with_type : {B : Type 0} (x : List ℕ) (type : Read TypeName) (g : List Token → Read B) →
    ((type >>= λ t r. g r >>= λ y q. both t y q) >>= λ y q. both x y q) ≡ ((type >>= λ t r. both x t r) >>= λ p r. g r >>= λ y q. three p y q)
with_type x (Got t r) g = with_name x t (g r)
with_type x (Bad r) g = refl
with_type x Out g = refl

with_colon : {B : Type 0} (x : List ℕ) (colon : Read Span) (g : List Token → Read B) →
    ((colon >>= λ s r. pair type_name g r) >>= λ y q. both x y q) ≡ (((colon >>= λ s r. type_name r) >>= λ t r. both x t r) >>= λ p r. g r >>= λ y q. three p y q)
with_colon x (Got s r) g = with_type x (type_name r) g
with_colon x (Bad r) g = refl
with_colon x Out g = refl

with_word : {B : Type 0} (name : Read (List ℕ)) (g : List Token → Read B) →
    (name >>= λ x r. lead (is_mark marks.Colon) (pair type_name g) r >>= λ y q. both x y q) ≡ ((name >>= λ x r. lead (is_mark marks.Colon) type_name r >>= λ t q. both x t q) >>= λ p r. g r >>= λ y q. three p y q)
with_word (Got x r) g = with_colon x (sign (is_mark marks.Colon) r) g
with_word (Bad r) g = refl
with_word Out g = refl

pub typed_then : {B : Type 0} (g : List Token → Read B) (ts : List Token) →
    pair word (lead (is_mark marks.Colon) (pair type_name g)) ts ≡ (typed ts >>= λ p r. g r >>= λ y q. three p y q)
typed_then g ts = with_word (word ts) g

abbrev pub tree : Bool → Span → List ℕ × TypeName → Expression → List Token → Read Expression
tree up s p a r = Got (Expression.bound up p.0 p.1 a (reach s (end_of a))) r

bound_inner : (up : Bool) (s : Span) (x : List ℕ) (colon : Span) (t : TypeName) (dot : Span) (read : Read Expression) →
    (((((read >>= λ a q. both dot a q) >>= λ b q. both t b q) >>= λ b q. both colon b q) >>= λ b q. both x b q) >>= λ b q. Got (bound_tree up s b) q) ≡ (read >>= λ a q. tree up s (x, t) a q)
bound_inner up s x colon t dot (Got a q) = refl
bound_inner up s x colon t dot (Bad q) = refl
bound_inner up s x colon t dot Out = refl

bound_dot : (up : Bool) (s : Span) (x : List ℕ) (colon : Span) (t : TypeName) (dot : Read Span) (f : List Token → Read Expression) →
    (((((dot >>= λ d r. f r >>= λ a q. both d a q) >>= λ b q. both t b q) >>= λ b q. both colon b q) >>= λ b q. both x b q) >>= λ b q. Got (bound_tree up s b) q) ≡ ((dot >>= λ d r. both x t r) >>= λ p r. f r >>= λ a q. tree up s p a q)
bound_dot up s x colon t (Got d r) f = bound_inner up s x colon t d (f r)
bound_dot up s x colon t (Bad r) f = refl
bound_dot up s x colon t Out f = refl

bound_type : (up : Bool) (s : Span) (x : List ℕ) (colon : Span) (type : Read TypeName) (f : List Token → Read Expression) →
    ((((type >>= λ t r. pair (expect marks.Dot) f r >>= λ b q. both t b q) >>= λ b q. both colon b q) >>= λ b q. both x b q) >>= λ b q. Got (bound_tree up s b) q) ≡
    (((type >>= λ t r. both x t r) >>= λ p r. sign (is_mark marks.Dot) r >>= λ d q. Got p q) >>= λ p r. f r >>= λ a q. tree up s p a q)
bound_type up s x colon (Got t r) f = bound_dot up s x colon t (expect marks.Dot r) f
bound_type up s x colon (Bad r) f = refl
bound_type up s x colon Out f = refl

bound_colon : (up : Bool) (s : Span) (x : List ℕ) (colon : Read Span) (f : List Token → Read Expression) →
    (((colon >>= λ c r. pair type_name (pair (expect marks.Dot) f) r >>= λ b q. both c b q) >>= λ b q. both x b q) >>= λ b q. Got (bound_tree up s b) q) ≡
    ((((colon >>= λ c r. type_name r) >>= λ t r. both x t r) >>= λ p r. sign (is_mark marks.Dot) r >>= λ d q. Got p q) >>= λ p r. f r >>= λ a q. tree up s p a q)
bound_colon up s x (Got c r) f = bound_type up s x c (type_name r) f
bound_colon up s x (Bad r) f = refl
bound_colon up s x Out f = refl

bound_word : (up : Bool) (s : Span) (name : Read (List ℕ)) (f : List Token → Read Expression) →
    ((name >>= λ x r. pair (expect marks.Colon) (pair type_name (pair (expect marks.Dot) f)) r >>= λ b q. both x b q) >>= λ b q. Got (bound_tree up s b) q) ≡
    (((name >>= λ x r. lead (is_mark marks.Colon) type_name r >>= λ t q. both x t q) >>= λ p r. sign (is_mark marks.Dot) r >>= λ d q. Got p q) >>= λ p r. f r >>= λ a q. tree up s p a q)
bound_word up s (Got x r) f = bound_colon up s x (expect marks.Colon r) f
bound_word up s (Bad r) f = refl
bound_word up s Out f = refl

pub bound_by : (self : Reader) (up : Bool) (s : Span) (ts : List Token) →
    bound self up s ts ≡ (trail typed (is_mark marks.Dot) ts >>= λ p r. self Whole r >>= λ a q. tree up s p a q)
bound_by self up s ts = bound_word up s (word ts) (self Whole)
