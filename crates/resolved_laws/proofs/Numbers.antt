-- The loops of a typed body are numbered in the order of the text.
use Rattle.heyvl_acts.specs.Acts.{Act, Acts, acts_in}
use Rattle.heyvl_acts.specs.Places.{in_order, inside_arms}
use Rattle.heyvl_acts.specs.Rules.{counted, loop_numbers}
use Rattle.heyvl_places.specs.declared.spans.Span.{Span}
use Rattle.heyvl_syntax.specs.Statements as text
use Rattle.heyvl_syntax.specs.Statements.{Block, RightSide, Statement}
use Rattle.heyvl_syntax.specs.declared.types.TypeName.{TypeName}
use Rattle.resolved_laws.proofs.Flips.{of_flip}
use Rattle.resolved_laws.proofs.InOrder.{in_order_join}
use Rattle.static_rules.specs.Files.{body_acts, loops_of_body}
use Rattle.static_rules.specs.StatementActs.{arms_acts, assigned, block_acts, declared_act, first_or_zero, havocs, loops, loops_of_arms, loops_of_block, statement_acts, targets}
use Rattle.static_rules.specs.Variables.{behind, locals, locals_of_arms, locals_of_block}
use Rattle.static_rules.specs.declared.settings.Setting.{Setting}
use Rattle.std.proofs.Common.{Bool, List, None, Option, Some, [], ap, arith, refl, suc, sym, zero, ◌++◌, ◌+◌, ◌∙◌, ◌≡◌, ◌∷◌, ℕ}
use Rattle.std.proofs.lemmas.List.{append-nil}
use Rattle.std.specs.Prelude.{length}
use Rattle.typed_expressions.specs.Scopes.{Scope}
use Rattle.typed_expressions.specs.Signatures.{Called}

numbers_append : (xs ys : List Act) → loop_numbers (xs ++ ys) ≡ loop_numbers xs ++ loop_numbers ys
numbers_append [] ys = refl
numbers_append (Act.loop h b ∷ rest) ys = ap (λ r. h.number ∷ r) (numbers_append rest ys)
numbers_append (a ∷ rest) ys = numbers_append rest ys

pub counted_more : (m a b : ℕ) → counted m (a + b) ≡ counted m a ++ counted (m + a) b
counted_more m zero b = ap (λ k. counted m k) (omega arith) ∙ ap (λ k. counted k b) (omega arith)
counted_more m (suc a) b = ap (λ k. counted m k) (further a b) ∙ (ap (λ r. m ∷ r) (counted_more (suc m) a b) ∙ ap (λ k. m ∷ (counted (suc m) a ++ counted k b)) (moved m a))
  where
    further : (a b : ℕ) → suc a + b ≡ suc (a + b)
    further a b = omega arith

    moved : (m a : ℕ) → suc m + a ≡ m + suc a
    moved m a = omega arith

-- Two lists of acts, of which the second numbers its loops on from the first.
row : (m a b : ℕ) (xs ys : List Act) → loop_numbers xs ≡ counted m a → loop_numbers ys ≡ counted (m + a) b → loop_numbers (xs ++ ys) ≡ counted m (a + b)
row m a b xs ys p q = numbers_append xs ys ∙ (ap (λ r. r ++ loop_numbers ys) p ∙ (ap (λ r. counted m a ++ r) q ∙ sym (counted_more m a b)))

none_assigned : (called : Called) (n : ℕ) (sc : Scope) (xs : List ℕ) (r : RightSide) (s : Span) → loop_numbers (in_order (Acts.next (assigned called n sc xs r s) Acts.done)) ≡ []
none_assigned called n sc xs (RightSide.plain e) s = refl
none_assigned called n sc xs (RightSide.flip p) s = of_flip (λ a. loop_numbers (in_order (Acts.next a Acts.done)) ≡ []) n sc (first_or_zero xs) p s refl refl
none_assigned called n sc xs (RightSide.unif a b) s = refl
none_assigned called n sc xs (RightSide.choose parts) s = refl
none_assigned called n sc xs (RightSide.call p arguments) s = refl

none_declared : (h : Setting) (called : Called) (n : ℕ) (sc : Scope) (t : TypeName) (r : Option RightSide) (s : Span) → loop_numbers (in_order (Acts.next (declared_act h called n sc t r s) Acts.done)) ≡ []
none_declared h called n sc t None s = refl
none_declared h called n sc t (Some r) s = none_assigned called n sc (n ∷ []) r s

none_havocked : (sc : Scope) (co : Bool) (xs : List (List ℕ)) (s : Span) → loop_numbers (in_order (havocs sc co xs s)) ≡ []
none_havocked sc co [] s = refl
none_havocked sc co (x ∷ xs) s = none_havocked sc co xs s

first_number : (m k : ℕ) → m ∷ counted (suc m) k ≡ counted m (1 + k)
first_number m k = ap (λ j. counted m j) (one_more k)
  where
    one_more : (k : ℕ) → suc k ≡ 1 + k
    one_more k = omega arith

module _ (h : Setting) (called : Called) where
  mutual
    numbered_statement : (n m : ℕ) (sc : Scope) (s : Statement) → loop_numbers (in_order (statement_acts h called n m sc s)) ≡ counted m (loops s)
    numbered_statement n m sc (Statement.var x t r s) = none_declared h called n sc t r s
    numbered_statement n m sc (Statement.assign xs r s) = none_assigned called n sc (targets sc xs) r s
    numbered_statement n m sc (Statement.check kind a s) = refl
    numbered_statement n m sc (Statement.validate co s) = refl
    numbered_statement n m sc (Statement.havoc co xs s) = none_havocked sc co xs s
    numbered_statement n m sc (Statement.reward a s) = refl
    numbered_statement n m sc (Statement.branch arms other s) =
        let i = n + length (locals_of_arms arms) in
        let j = m + loops_of_arms arms in
        let front = inside_arms (arms_acts h called n m sc arms) in
        let back = in_order (block_acts h called i j sc other) in
        ap loop_numbers (append-nil (front ++ back)) ∙ row m (loops_of_arms arms) (loops_of_block other) front back (numbered_arms n m sc arms) (numbered_block i j sc other)
    numbered_statement n m sc (Statement.pick up a b s) =
        let i = n + length (locals_of_block a) in
        let j = m + loops_of_block a in
        let front = in_order (block_acts h called n m sc a) in
        let back = in_order (block_acts h called i j sc b) in
        ap loop_numbers (append-nil (front ++ back)) ∙ row m (loops_of_block a) (loops_of_block b) front back (numbered_block n m sc a) (numbered_block i j sc b)
    numbered_statement n m sc (Statement.loop rules g b s) =
        ap (λ r. m ∷ loop_numbers r) (append-nil (in_order (block_acts h called n (suc m) sc b))) ∙ (ap (λ r. m ∷ r) (numbered_block n (suc m) sc b) ∙ first_number m (loops_of_block b))

    pub numbered_block : (n m : ℕ) (sc : Scope) (b : Block) → loop_numbers (in_order (block_acts h called n m sc b)) ≡ counted m (loops_of_block b)
    numbered_block n m sc Block.done = refl
    numbered_block n m sc (Block.next s b) =
        let i = n + length (locals s) in
        let j = m + loops s in
        let front = statement_acts h called n m sc s in
        let back = block_acts h called i j (behind n sc s) b in
        ap loop_numbers (in_order_join front back) ∙ row m (loops s) (loops_of_block b) (in_order front) (in_order back) (numbered_statement n m sc s) (numbered_block i j (behind n sc s) b)

    numbered_arms : (n m : ℕ) (sc : Scope) (arms : text.Arms) → loop_numbers (inside_arms (arms_acts h called n m sc arms)) ≡ counted m (loops_of_arms arms)
    numbered_arms n m sc text.Arms.no_arm = refl
    numbered_arms n m sc (text.Arms.arm g b more) =
        let i = n + length (locals_of_block b) in
        let j = m + loops_of_block b in
        row m (loops_of_block b) (loops_of_arms more) (in_order (block_acts h called n m sc b)) (inside_arms (arms_acts h called i j sc more)) (numbered_block n m sc b) (numbered_arms i j sc more)

  pub numbered_body : (n : ℕ) (sc : Scope) (b : Option Block) → loop_numbers (in_order (acts_in (body_acts h called n sc b))) ≡ counted 1 (loops_of_body b)
  numbered_body n sc None = refl
  numbered_body n sc (Some b) = numbered_block n 1 sc b
