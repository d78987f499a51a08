-- A statement without places has the acts of the statement, without places and without the rules of
-- loops.
use Prim.Native.Nat.{suc}
use Rattle.heylo_formula.specs.Formula.{Form, Term}
use Rattle.heyvl_acts.specs.Acts.{Act, Acts, Arms, Variable, join}
use Rattle.heyvl_num.specs.Rational.{Rational}
use Rattle.heyvl_num.specs.Value.{zeroᵛ}
use Rattle.heyvl_places.specs.declared.spans.Span.{Span}
use Rattle.heyvl_print.specs.WithoutPlaces as text
use Rattle.heyvl_print.specs.WithoutPlaces.{bare_block, bare_expression, bare_expressions, bare_given, bare_right, bare_statement, no_place}
use Rattle.heyvl_syntax.specs.Expressions.{Expression}
use Rattle.heyvl_syntax.specs.Procedures.{Procedure}
use Rattle.heyvl_syntax.specs.Statements as syntax
use Rattle.heyvl_syntax.specs.Statements.{Block, RightSide, Statement}
use Rattle.heyvl_syntax.specs.declared.types.TypeName.{TypeName}
use Rattle.placeless_files.proofs.PlacelessForms.{bare_condition, bare_formula, bare_value, integer_bare, three_same, weight_bare}
use Rattle.static_rules.specs.Files.{setting}
use Rattle.static_rules.specs.Literals.{is_weight_literal, weight, weight_value}
use Rattle.typed_expressions.specs.Scopes.{Scope, find, numbers}
use Rattle.typed_expressions.specs.Signatures.{Called, find_call}
use Rattle.static_rules.specs.StatementActs.{arms_acts, assigned, block_acts, callee, choose_parts, declared_act, draw_or_toss, first_or_zero, flip_act, havocs, loops, loops_of_arms, loops_of_block, number_or_zero, statement_acts, targets, type_of_local, unif_parts}
use Rattle.typed_expressions.specs.Values.{form, terms}
use Rattle.typed_expressions.specs.TypedExpressions.{elaborate}
use Rattle.static_rules.specs.Variables.{behind, locals, locals_of_arms, locals_of_block}
use Rattle.run_laws.specs.Bare.{bare, bare_act, bare_arms, bare_form, bare_part, bare_term, nowhere}
use Rattle.std.proofs.Common.{Bool, List, None, Option, Some, [], ap, ap₂, false, length, map, refl, sym, true, ◌++◌, ◌+◌, ◌∙◌, ◌∷◌, ◌≡◌, ℕ}

-- ---- Right sides

terms_bare : (es : List Expression) (n : ℕ) (sc : Scope) → map bare_term (terms n sc (bare_expressions es)) ≡ map bare_term (terms n sc es)
terms_bare [] n sc = refl
terms_bare (e ∷ es) n sc = ap₂ (λ t ts. t ∷ ts) (bare_value e n sc) (terms_bare es n sc)

parts_bare : (ps : List (Expression × Expression)) (n : ℕ) (sc : Scope) → map bare_part (choose_parts n sc (map text.bare_part ps)) ≡ map bare_part (choose_parts n sc ps)
parts_bare [] n sc = refl
parts_bare (p ∷ ps) n sc = ap₂ (λ (t : Rational × Term) ts. t ∷ ts) (ap₂ (λ w (t : Term). (weight_value w, t)) (weight_bare p.0) (bare_value p.1 n sc)) (parts_bare ps n sc)

toss_bare : (b : Bool) (x : ℕ) (w : Rational) (f g : Form) (s t : Span) → bare_form f ≡ bare_form g → bare_act (draw_or_toss b x w f s) ≡ bare_act (draw_or_toss b x w g t)
toss_bare true x w f g s t e = refl
toss_bare false x w f g s t e = ap (λ k. Act.toss x k nowhere) e

flip_bare : (n : ℕ) (sc : Scope) (x : ℕ) (p : Expression) (s : Span) → bare_act (flip_act n sc x (bare_expression p) no_place) ≡ bare_act (flip_act n sc x p s)
flip_bare n sc x p s =
    ap (λ w. bare_act (draw_or_toss (is_weight_literal w) x (weight_value w) (form (elaborate n sc (bare_expression p))) nowhere)) (weight_bare p)
    ∙ toss_bare (is_weight_literal (weight p)) x (weight_value (weight p)) (form (elaborate n sc (bare_expression p))) (form (elaborate n sc p)) nowhere s (bare_formula p n sc)

havocs_bare : (sc : Scope) (co : Bool) (xs : List (List ℕ)) (s : Span) → bare (havocs sc co xs no_place) ≡ bare (havocs sc co xs s)
havocs_bare sc co [] s = refl
havocs_bare sc co (x ∷ xs) s = ap (λ rest. Acts.next (Act.any (number_or_zero (find sc x)) co (type_of_local (find sc x)) nowhere) rest) (havocs_bare sc co xs s)

module _ (called : Called) where
  assigned_bare : (n : ℕ) (sc : Scope) (xs : List ℕ) (r : RightSide) (s : Span) → bare_act (assigned called n sc xs (bare_right r) no_place) ≡ bare_act (assigned called n sc xs r s)
  assigned_bare n sc xs (RightSide.plain e) s = ap (λ t. Act.set (first_or_zero xs) t nowhere) (bare_value e n sc)
  assigned_bare n sc xs (RightSide.flip p) s = flip_bare n sc (first_or_zero xs) p s
  assigned_bare n sc xs (RightSide.unif a b) s = ap₂ (λ i j. Act.draw (first_or_zero xs) (map bare_part (unif_parts i j)) nowhere) (integer_bare a) (integer_bare b)
  assigned_bare n sc xs (RightSide.choose parts) s = ap (λ qs. Act.draw (first_or_zero xs) qs nowhere) (parts_bare parts n sc)
  assigned_bare n sc xs (RightSide.call p arguments) s = ap (λ es. Act.call xs (callee (find_call called p)) es nowhere) (terms_bare arguments n sc)

  declared_bare : (q : Procedure) (n : ℕ) (sc : Scope) (t : TypeName) (r : Option RightSide) (s : Span) → bare_act (declared_act (setting q) called n sc t (bare_given r) no_place) ≡ bare_act (declared_act (setting q) called n sc t r s)
  declared_bare q n sc t None s = refl
  declared_bare q n sc t (Some r) s = assigned_bare n sc (n ∷ []) r s

-- ---- Variables and loops

mutual
  locals_bare : (s : Statement) → locals (bare_statement s) ≡ locals s
  locals_bare (Statement.var x t r s) = refl
  locals_bare (Statement.assign xs r s) = refl
  locals_bare (Statement.check kind a s) = refl
  locals_bare (Statement.validate co s) = refl
  locals_bare (Statement.havoc co xs s) = refl
  locals_bare (Statement.reward a s) = refl
  locals_bare (Statement.branch arms other s) = ap₂ (λ (xs ys : List Variable). xs ++ ys) (locals_of_arms_bare arms) (locals_of_block_bare other)
  locals_bare (Statement.pick up a b s) = ap₂ (λ (xs ys : List Variable). xs ++ ys) (locals_of_block_bare a) (locals_of_block_bare b)
  locals_bare (Statement.loop rules g b s) = locals_of_block_bare b

  pub locals_of_block_bare : (b : Block) → locals_of_block (bare_block b) ≡ locals_of_block b
  locals_of_block_bare Block.done = refl
  locals_of_block_bare (Block.next s b) = ap₂ (λ (xs ys : List Variable). xs ++ ys) (locals_bare s) (locals_of_block_bare b)

  locals_of_arms_bare : (arms : syntax.Arms) → locals_of_arms (text.bare_arms arms) ≡ locals_of_arms arms
  locals_of_arms_bare syntax.Arms.no_arm = refl
  locals_of_arms_bare (syntax.Arms.arm g b more) = ap₂ (λ (xs ys : List Variable). xs ++ ys) (locals_of_block_bare b) (locals_of_arms_bare more)

mutual
  loops_bare : (s : Statement) → loops (bare_statement s) ≡ loops s
  loops_bare (Statement.var x t r s) = refl
  loops_bare (Statement.assign xs r s) = refl
  loops_bare (Statement.check kind a s) = refl
  loops_bare (Statement.validate co s) = refl
  loops_bare (Statement.havoc co xs s) = refl
  loops_bare (Statement.reward a s) = refl
  loops_bare (Statement.branch arms other s) = ap₂ (λ x y. x + y) (loops_of_arms_bare arms) (loops_of_block_bare other)
  loops_bare (Statement.pick up a b s) = ap₂ (λ x y. x + y) (loops_of_block_bare a) (loops_of_block_bare b)
  loops_bare (Statement.loop rules g b s) = ap (λ x. 1 + x) (loops_of_block_bare b)

  pub loops_of_block_bare : (b : Block) → loops_of_block (bare_block b) ≡ loops_of_block b
  loops_of_block_bare Block.done = refl
  loops_of_block_bare (Block.next s b) = ap₂ (λ x y. x + y) (loops_bare s) (loops_of_block_bare b)

  loops_of_arms_bare : (arms : syntax.Arms) → loops_of_arms (text.bare_arms arms) ≡ loops_of_arms arms
  loops_of_arms_bare syntax.Arms.no_arm = refl
  loops_of_arms_bare (syntax.Arms.arm g b more) = ap₂ (λ x y. x + y) (loops_of_block_bare b) (loops_of_arms_bare more)

behind_bare : (n : ℕ) (sc : Scope) (s : Statement) → behind n sc (bare_statement s) ≡ behind n sc s
behind_bare n sc (Statement.var x t r s) = refl
behind_bare n sc (Statement.assign xs r s) = refl
behind_bare n sc (Statement.check kind a s) = refl
behind_bare n sc (Statement.validate co s) = refl
behind_bare n sc (Statement.havoc co xs s) = refl
behind_bare n sc (Statement.reward a s) = refl
behind_bare n sc (Statement.branch arms other s) = refl
behind_bare n sc (Statement.pick up a b s) = refl
behind_bare n sc (Statement.loop rules g b s) = refl

-- ---- Statements

join_bare : (a b : Acts) → bare (join a b) ≡ join (bare a) (bare b)
join_bare Acts.done b = refl
join_bare (Acts.next x a) b = ap (λ rest. Acts.next (bare_act x) rest) (join_bare a b)

-- The acts of a block, from the numbers that are left before it.
on_block : (q : Procedure) (called : Called) (sc : Scope) (b : Block) (n m k j : ℕ) → k ≡ n → j ≡ m → bare (block_acts (setting q) called k j sc (bare_block b)) ≡ bare (block_acts (setting q) called n m sc (bare_block b))
on_block q called sc b n m k j e f = ap₂ (λ x y. bare (block_acts (setting q) called x y sc (bare_block b))) e f

module _ (q : Procedure) (called : Called) where
  mutual
    statement_bare : (s : Statement) (n m : ℕ) (sc : Scope) → bare (statement_acts (setting q) called n m sc (bare_statement s)) ≡ bare (statement_acts (setting q) called n m sc s)
    statement_bare (Statement.var x t r s) n m sc = ap (λ a. Acts.next a Acts.done) (declared_bare called q n sc t r s)
    statement_bare (Statement.assign xs r s) n m sc = ap (λ a. Acts.next a Acts.done) (assigned_bare called n sc (targets sc xs) r s)
    statement_bare (Statement.check kind a s) n m sc = ap (λ f. Acts.next (Act.check kind f nowhere) Acts.done) (bare_formula a n sc)
    statement_bare (Statement.validate co s) n m sc = refl
    statement_bare (Statement.havoc co xs s) n m sc = havocs_bare sc co xs s
    statement_bare (Statement.reward a s) n m sc = ap (λ f. Acts.next (Act.reward f nowhere) Acts.done) (bare_formula a n sc)
    statement_bare (Statement.branch arms other s) n m sc =
        ap₂ (λ x y. Acts.next (Act.ifs x y nowhere) Acts.done) (arms_bare arms n m sc)
        (on_block q called sc other _ _ _ _ (ap (λ (vs : List Variable). n + length vs) (locals_of_arms_bare arms)) (ap (λ x. m + x) (loops_of_arms_bare arms))
        ∙ block_bare other (n + length (locals_of_arms arms)) (m + loops_of_arms arms) sc)
    statement_bare (Statement.pick up a b s) n m sc =
        ap₂ (λ x y. Acts.next (Act.pick up x y nowhere) Acts.done) (block_bare a n m sc)
        (on_block q called sc b _ _ _ _ (ap (λ (vs : List Variable). n + length vs) (locals_of_block_bare a)) (ap (λ x. m + x) (loops_of_block_bare a))
        ∙ block_bare b (n + length (locals_of_block a)) (m + loops_of_block a) sc)
    statement_bare (Statement.loop rules g b s) n m sc =
        ap₂ (λ c x. Acts.next (Act.loop (record { number = m; k = 1; inv = Form.number zeroᵛ; guard = c; rank = None; scope = numbers sc; span = nowhere }) x) Acts.done) (bare_condition g n sc) (block_bare b n (suc m) sc)

    pub block_bare : (b : Block) (n m : ℕ) (sc : Scope) → bare (block_acts (setting q) called n m sc (bare_block b)) ≡ bare (block_acts (setting q) called n m sc b)
    block_bare Block.done n m sc = refl
    block_bare (Block.next s b) n m sc =
        join_bare (statement_acts (setting q) called n m sc (bare_statement s)) (block_acts (setting q) called (n + length (locals (bare_statement s))) (m + loops (bare_statement s)) (behind n sc (bare_statement s)) (bare_block b))
        ∙ (ap₂ join (statement_bare s n m sc)
        (ap (λ v. bare (block_acts (setting q) called (n + length (locals (bare_statement s))) (m + loops (bare_statement s)) v (bare_block b))) (behind_bare n sc s)
        ∙ (on_block q called (behind n sc s) b _ _ _ _ (ap (λ (vs : List Variable). n + length vs) (locals_bare s)) (ap (λ x. m + x) (loops_bare s))
        ∙ block_bare b (n + length (locals s)) (m + loops s) (behind n sc s)))
        ∙ sym (join_bare (statement_acts (setting q) called n m sc s) (block_acts (setting q) called (n + length (locals s)) (m + loops s) (behind n sc s) b)))

    arms_bare : (arms : syntax.Arms) (n m : ℕ) (sc : Scope) → bare_arms (arms_acts (setting q) called n m sc (text.bare_arms arms)) ≡ bare_arms (arms_acts (setting q) called n m sc arms)
    arms_bare syntax.Arms.no_arm n m sc = refl
    arms_bare (syntax.Arms.arm g b more) n m sc =
        three_same Arms.arm _ _ _ _ _ _ (bare_condition g n sc) (block_bare b n m sc)
        (ap₂ (λ x y. bare_arms (arms_acts (setting q) called x y sc (text.bare_arms more))) (ap (λ (vs : List Variable). n + length vs) (locals_of_block_bare b)) (ap (λ x. m + x) (loops_of_block_bare b))
        ∙ arms_bare more (n + length (locals_of_block b)) (m + loops_of_block b) sc)
