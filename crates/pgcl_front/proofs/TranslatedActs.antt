-- The acts of translated commands match the commands, if the statements have no static error.
use Rattle.pgcl_front.proofs.Matching.{Flips, Matches, SameCondition, SameForm, SameTerm}
use Rattle.pgcl_front.proofs.Meanings.{alike, same_condition, same_form, same_term}
use Rattle.pgcl_front.proofs.Probabilities.{literal_chance}
use Rattle.pgcl_front.proofs.QuietPrograms.{IsQuietBlock, IsQuietCommand}
use Rattle.pgcl_front.proofs.QuietTokens.{IsPlain, IsQuiet}
use Rattle.pgcl_front.proofs.Scopes.{InScope, Placed, find_new, names_alike, no_back, no_front, placed_behind_pick}
use Rattle.pgcl_front.specs.Readings.{chance, index_in}
use Rattle.heylo_formula.specs.Formula.{Cond, Form}
use Rattle.heylo_formula.specs.NumericVariables.{has_variable}
use Rattle.heylo_formula.specs.Operators.{finite_part}
use Rattle.heylo_formula.specs.State.{environment}
use Rattle.heylo_formula.specs.declared.values.Val.{Val}
use Rattle.heyvl_acts.specs.Acts.{Act, Acts, Arms, Head, Variable}
use Rattle.heyvl_acts.specs.Tosses.{flip_parts}
use Rattle.heyvl_num.specs.Rational.{Rational}
use Rattle.heyvl_num.specs.Value.{oneᵛ}
use Rattle.heyvl_num.specs.ValueOperators.{minᵛ}
use Rattle.heyvl_places.specs.declared.spans.Span.{Span}
use Rattle.heyvl_syntax.specs.Expressions.{Expression}
use Rattle.heyvl_syntax.specs.Procedures.{Procedure}
use Rattle.heyvl_syntax.specs.Statements.{RightSide, Statement}
use Rattle.heyvl_syntax.specs.Statements as heyvl
use Rattle.heyvl_syntax.specs.declared.types.TypeName.TheVariants as names
use Rattle.static_rules.specs.Files.{setting}
use Rattle.typed_expressions.specs.Findings.{at}
use Rattle.static_rules.specs.Literals.{is_probability, is_weight_literal, weight, weight_value}
use Rattle.static_rules.specs.RightSides.{flip_wrong, has_over_zero, literal_wrong}
use Rattle.typed_expressions.specs.Scopes.{Scope, find, with_local}
use Rattle.typed_expressions.specs.Signatures.{Called}
use Rattle.static_rules.specs.StatementActs.{block_acts, draw_or_toss, flip_act, number_or_zero}
use Rattle.typed_expressions.specs.Values.{condition, form, term}
use Rattle.static_rules.specs.StatementRules.{assign_rules, block_findings, var_rules}
use Rattle.typed_expressions.specs.Table.{variable}
use Rattle.typed_expressions.specs.TypedExpressions.{elaborate}
use Rattle.static_rules.specs.Variables.{locals_of_block}
use Rattle.guarded_commands.specs.Programs.{BlockTree, CommandTree}
use Rattle.guarded_commands.specs.Translation.{lines, pick_name, picks, picks_in, statements}
use Rattle.run_machine.specs.Step.{branches}
use Rattle.std.proofs.Common.{Bool, List, Some, [], ap, ap₂, append-nil, arith, false, inl, inr, length, refl, suc, sym, true, ◌++◌, ◌+◌, ◌<◌, ◌∙◌, ◌∷◌, ◌≡◌, ◌≤◌, ℕ}
use Rattle.std.proofs.lemmas.Bool.{not-false}
use Rattle.std.proofs.lemmas.List.{length-append}
use Rattle.std.specs.Option.{is_none}
use Rattle.std.specs.Prelude.{if◌then◌else◌, option_map, ◌||◌}

-- ---- The number of variables for probabilistic choices

two_blocks : (xs ys zs : List Variable) (p q n : ℕ) → length xs ≡ p → length ys ≡ q → length zs ≡ n → length (((xs ++ []) ++ ys) ++ zs) ≡ (p + q) + n
two_blocks xs ys zs p q n e f g = length-append ((xs ++ []) ++ ys) zs ∙ ap₂ (λ x y. x + y) (length-append (xs ++ []) ys ∙ ap₂ (λ x y. x + y) (ap length (append-nil xs) ∙ e) f) g

two_sides : (xs ys zs : List Variable) (p q n : ℕ) → length xs ≡ p → length ys ≡ q → length zs ≡ n → length ((xs ++ ys) ++ zs) ≡ (p + q) + n
two_sides xs ys zs p q n e f g = length-append (xs ++ ys) zs ∙ ap₂ (λ x y. x + y) (length-append xs ys ∙ ap₂ (λ x y. x + y) e f) g

none_more : (n : ℕ) → n ≡ 0 + n
none_more n = omega arith

mutual
  pub count : (j : ℕ) (b : BlockTree) → length (locals_of_block (heyvl.block_of (statements j b))) ≡ picks_in b
  count j BlockTree.done = refl
  count j (BlockTree.next l more) = line_count j l (statements (j + picks l) more) (picks_in more) (count (j + picks l) more)

  line_count : (j : ℕ) (l : CommandTree) (rest : List Statement) (n : ℕ) → length (locals_of_block (heyvl.block_of rest)) ≡ n → length (locals_of_block (heyvl.block_of (lines j l ++ rest))) ≡ picks l + n
  line_count j (CommandTree.skip s) rest n e = e ∙ none_more n
  line_count j (CommandTree.assign x a s) rest n e = e ∙ none_more n
  line_count j (CommandTree.tick a s) rest n e = e ∙ none_more n
  line_count j (CommandTree.branch g a b s) rest n e = two_blocks (locals_of_block (heyvl.block_of (statements j a))) (locals_of_block (heyvl.block_of (statements (j + picks_in a) b))) (locals_of_block (heyvl.block_of rest)) _ _ n (count j a) (count (j + picks_in a) b) e
  line_count j (CommandTree.mix p a b s) rest n e = ap suc (two_blocks (locals_of_block (heyvl.block_of (statements (j + 1) a))) (locals_of_block (heyvl.block_of (statements (j + 1 + picks_in a) b))) (locals_of_block (heyvl.block_of rest)) _ _ n (count (j + 1) a) (count (j + 1 + picks_in a) b) e) ∙ one_more (picks_in a) (picks_in b) n
    where
      one_more : (x y n : ℕ) → suc ((x + y) + n) ≡ (1 + x + y) + n
      one_more x y n = omega arith
  line_count j (CommandTree.choice a b s) rest n e = two_sides (locals_of_block (heyvl.block_of (statements j a))) (locals_of_block (heyvl.block_of (statements (j + picks_in a) b))) (locals_of_block (heyvl.block_of rest)) _ _ n (count j a) (count (j + picks_in a) b) e
  line_count j (CommandTree.repeat g i a s) rest n e = length-append (locals_of_block (heyvl.block_of (statements j a))) (locals_of_block (heyvl.block_of rest)) ∙ ap₂ (λ x y. x + y) (count j a) e

arm_count : (j : ℕ) (b : BlockTree) → length (locals_of_block (heyvl.block_of (statements j b)) ++ []) ≡ picks_in b
arm_count j b = ap length (append-nil (locals_of_block (heyvl.block_of (statements j b)))) ∙ count j b

arms_count : (j k : ℕ) (a b : BlockTree) → length ((locals_of_block (heyvl.block_of (statements j a)) ++ []) ++ locals_of_block (heyvl.block_of (statements k b))) ≡ picks_in a + picks_in b
arms_count j k a b = length-append (locals_of_block (heyvl.block_of (statements j a)) ++ []) (locals_of_block (heyvl.block_of (statements k b))) ∙ ap₂ (λ x y. x + y) (arm_count j a) (count k b)

sides_count : (j k : ℕ) (a b : BlockTree) → length (locals_of_block (heyvl.block_of (statements j a)) ++ locals_of_block (heyvl.block_of (statements k b))) ≡ picks_in a + picks_in b
sides_count j k a b = length-append (locals_of_block (heyvl.block_of (statements j a))) (locals_of_block (heyvl.block_of (statements k b))) ∙ ap₂ (λ x y. x + y) (count j a) (count k b)

-- ---- Static rules that hold

abbrev AllKept : List (ℕ × Bool) → Type 0
AllKept [] = Unit {0}
AllKept (rule ∷ rules) = (rule.1 ≡ false) × AllKept rules

all_kept : (s : Span) (rules : List (ℕ × Bool)) → at s rules ≡ [] → AllKept rules
all_kept s [] e = tt
all_kept s (rule ∷ rules) e = go rule.1 refl e (all_kept s rules)
  where
    go : (b : Bool) → rule.1 ≡ b → (if b then (rule.0, s) ∷ at s rules else at s rules) ≡ [] → (at s rules ≡ [] → AllKept rules) → AllKept (rule ∷ rules)
    go true h i more = absurd (cc)
    go false h i more = (h, more i)

unless : (a b c : Bool) → ((a || b) || c) ≡ false → a ≡ false
unless true b c e = absurd (cc)
unless false b c e = refl

literal_likely : (literal within varies : Bool) → flip_wrong literal within varies ≡ false → literal ≡ true → within ≡ true
literal_likely true within varies e i = not-false within e
literal_likely false within varies e i = absurd (cc)

module _ (own : Scope) (v size : ℕ) (q : Procedure) (called : Called) where
  -- ---- Expressions

  module _ (n : ℕ) (sc : Scope) (p : InScope v own sc) (e : Expression) (quiet : IsQuiet e) where
    pub form_same : SameForm own v e (form (elaborate n sc e))
    form_same s t a = same_form (environment s) (environment t) (elaborate 0 own e) (elaborate n sc e) (alike (environment s) (environment t) own sc (names_alike v own sc s t p a) 0 n e quiet)

    condition_same : SameCondition own v e (condition (elaborate n sc e))
    condition_same s t a = same_condition (environment s) (environment t) (elaborate 0 own e) (elaborate n sc e) (alike (environment s) (environment t) own sc (names_alike v own sc s t p a) 0 n e quiet)

    term_same : SameTerm own v e (term (elaborate n sc e))
    term_same s t a = same_term (environment s) (environment t) (elaborate 0 own e) (elaborate n sc e) (alike (environment s) (environment t) own sc (names_alike v own sc s t p a) 0 n e quiet)

  -- ---- Targets and choices

  target_is : (sc : Scope) (x : List ℕ) → Placed v own sc x → is_none (find sc x) ≡ false → (index_in own x < v) × (number_or_zero (find sc x) ≡ v + index_in own x)
  target_is sc x (inl p) e = absurd (let k : is_none (find sc x) ≡ true = rw p.1 refl in cc)
  target_is sc x (inr p) e = (rw p.1.1.1.0 p.1.1.0, rw (p.1.1.1.0, p.1.1.1.1) refl)

  flips_are : (literal : Bool) (w : Rational) (f : Form) (x : ℕ) (p : Expression) (s : Span) → (literal ≡ true → (s : List Val) → chance own p s ≡ w) → SameForm own v p f → Flips own v p x (draw_or_toss literal x w f s)
  flips_are true w f x p sp h k ps is c d s a = ap (λ u. branches c is x (flip_parts u)) (sym (h refl s))
  flips_are false w f x p sp h k ps is c d s a = ap (λ u. branches c is x (flip_parts (finite_part (minᵛ u oneᵛ)))) (sym (k s c.state a))

  flip_is : (n : ℕ) (sc : Scope) (x : ℕ) (p : Expression) (s : Span) → InScope v own sc → IsQuiet p → literal_wrong n sc (RightSide.flip p) ≡ false → has_over_zero (RightSide.flip p) ≡ false → Flips own v p x (flip_act n sc x p s)
  flip_is n sc x p s i quiet l z = flips_are (is_weight_literal (weight p)) (weight_value (weight p)) (form (elaborate n sc p)) x p s (λ e t. literal_chance p own (environment t) e (literal_likely (is_weight_literal (weight p)) (is_probability (weight p)) (has_variable (form (elaborate n sc p))) l e, z)) (form_same n sc i p quiet)

  -- ---- Commands whose blocks and successors match

  abbrev MatchesNext : CommandTree → BlockTree → Acts → Type 0
  MatchesNext l tail acts = Matches own v size (BlockTree.next l tail) acts

  branch_match : (g : Expression) (a b tail : BlockTree) (s : Span) (c : Cond) (x y more : Acts) → SameCondition own v g c → Matches own v size a x → Matches own v size b y → Matches own v size tail more → MatchesNext (CommandTree.branch g a b s) tail (Acts.next (Act.ifs (Arms.arm c x Arms.no_arm) y s) more)
  branch_match g a b tail s c x y more e h k m = (Acts.next (Act.ifs (Arms.arm c x Arms.no_arm) y s) Acts.done, (more, (((record { guard = c; same = e; first = x; second = y; span = s; are = refl }, (h, k)), m), refl)))

  mix_match : (p : Expression) (a b tail : BlockTree) (s : Span) (n : ℕ) (flip : Act) (c : Cond) (x y more : Acts) → v + v ≤ n → n < size → Flips own v p n flip → c ≡ Cond.flag n → Matches own v size a x → Matches own v size b y → Matches own v size tail more → MatchesNext (CommandTree.mix p a b s) tail (Acts.next flip (Acts.next (Act.ifs (Arms.arm c x Arms.no_arm) y s) more))
  mix_match p a b tail s n flip c x y more lo hi f e h k m = (Acts.next flip (Acts.next (Act.ifs (Arms.arm c x Arms.no_arm) y s) Acts.done), (more, (((record { number = n; above = lo; below = hi; flip = flip; flips = f; first = x; second = y; span = s; are = ap (λ z. Acts.next flip (Acts.next (Act.ifs (Arms.arm z x Arms.no_arm) y s) Acts.done)) e }, (h, k)), m), refl)))

  choice_match : (a b tail : BlockTree) (s : Span) (x y more : Acts) → Matches own v size a x → Matches own v size b y → Matches own v size tail more → MatchesNext (CommandTree.choice a b s) tail (Acts.next (Act.pick true x y s) more)
  choice_match a b tail s x y more h k m = (Acts.next (Act.pick true x y s) Acts.done, (more, (((record { first = x; second = y; span = s; are = refl }, (h, k)), m), refl)))

  repeat_match : (g i : Expression) (a tail : BlockTree) (s : Span) (head : Head) (x more : Acts) → SameCondition own v g head.guard → Matches own v size a x → Matches own v size tail more → MatchesNext (CommandTree.repeat g i a s) tail (Acts.next (Act.loop head x) more)
  repeat_match g i a tail s head x more e h m = (Acts.next (Act.loop head x) Acts.done, (more, (((record { head = head; same = e; body = x; are = refl }, h), m), refl)))

  skip_match : (tail : BlockTree) (s : Span) (more : Acts) → Matches own v size tail more → MatchesNext (CommandTree.skip s) tail (Acts.next (Act.ifs (Arms.arm (Cond.constant true) Acts.done Arms.no_arm) Acts.done s) more)
  skip_match tail s more m = (Acts.next (Act.ifs (Arms.arm (Cond.constant true) Acts.done Arms.no_arm) Acts.done s) Acts.done, (more, ((record { span = s; are = refl }, m), refl)))

  assign_match : (x : List ℕ) (e : Expression) (tail : BlockTree) (s : Span) (n : ℕ) (sc : Scope) (more : Acts) → InScope v own sc → IsPlain x → IsQuiet e → is_none (find sc x) ≡ false → Matches own v size tail more → MatchesNext (CommandTree.assign x e s) tail (Acts.next (Act.set (number_or_zero (find sc x)) (term (elaborate n sc e)) s) more)
  assign_match x e tail s n sc more i plain quiet found m =
      let t = target_is sc x (i x plain) found in
      (Acts.next (Act.set (number_or_zero (find sc x)) (term (elaborate n sc e)) s) Acts.done, (more, ((record { inside = t.0; given = term (elaborate n sc e); same = term_same n sc i e quiet; span = s; are = ap (λ z. Acts.next (Act.set z (term (elaborate n sc e)) s) Acts.done) t.1 }, m), refl)))

  tick_match : (e : Expression) (tail : BlockTree) (s : Span) (n : ℕ) (sc : Scope) (more : Acts) → InScope v own sc → IsQuiet e → Matches own v size tail more → MatchesNext (CommandTree.tick e s) tail (Acts.next (Act.reward (form (elaborate n sc e)) s) more)
  tick_match e tail s n sc more i quiet m = (Acts.next (Act.reward (form (elaborate n sc e)) s) Acts.done, (more, ((record { reward = form (elaborate n sc e); same = form_same n sc i e quiet; span = s; are = refl }, m), refl)))

  -- ---- All commands

  -- The statements after a command match the commands after it.
  abbrev Follows : BlockTree → List Statement → Bool → ℕ → Type 0
  Follows tail rest bound n = (k : ℕ) → k ≡ n → (m : ℕ) (sc : Scope) → InScope v own sc → block_findings (setting q) called bound k sc (heyvl.block_of rest) ≡ [] → Matches own v size tail (block_acts (setting q) called k m sc (heyvl.block_of rest))

  mutual
    pub block_match : (b : BlockTree) (j n m : ℕ) (sc : Scope) (bound : Bool) → IsQuietBlock b → InScope v own sc → v + v ≤ n → n + picks_in b ≤ size → block_findings (setting q) called bound n sc (heyvl.block_of (statements j b)) ≡ [] → Matches own v size b (block_acts (setting q) called n m sc (heyvl.block_of (statements j b)))
    block_match BlockTree.done j n m sc bound f i lo hi c = refl
    block_match (BlockTree.next l more) j n m sc bound f i lo hi c = line_match l more (statements (j + picks l) more) j n m sc bound f.0 i lo (omega (arith, hi)) c
        (λ k e m' sc' i' c'. block_match more (j + picks l) k m' sc' bound f.1 i' (omega (arith, e, lo)) (omega (arith, e, hi)) c')

    line_match : (l : CommandTree) (tail : BlockTree) (rest : List Statement) (j n m : ℕ) (sc : Scope) (bound : Bool) → IsQuietCommand l → InScope v own sc → v + v ≤ n → n + picks l ≤ size → block_findings (setting q) called bound n sc (heyvl.block_of (lines j l ++ rest)) ≡ [] → Follows tail rest bound (n + picks l) → MatchesNext l tail (block_acts (setting q) called n m sc (heyvl.block_of (lines j l ++ rest)))
    line_match (CommandTree.skip s) tail rest j n m sc bound f i lo hi c k = skip_match tail s _ (k (n + 0) refl _ sc i (no_back [] _ c))
    line_match (CommandTree.assign x e s) tail rest j n m sc bound f i lo hi c k =
        let rules = all_kept s (assign_rules (setting q) called n sc (x ∷ []) (RightSide.plain e)) (no_back _ _ (no_front _ _ c)) in
        assign_match x e tail s n sc _ i f.0 f.1 (unless (is_none (find sc x)) false false rules.0) (k (n + 0) refl _ sc i (no_back _ _ c))
    line_match (CommandTree.tick e s) tail rest j n m sc bound f i lo hi c k = tick_match e tail s n sc _ i f (k (n + 0) refl _ sc i (no_back _ _ c))
    line_match (CommandTree.branch g a b s) tail rest j n m sc bound f i lo hi c k =
        let w = arm_count j a in
        let arms = no_front _ _ (no_front _ _ c) in
        branch_match g a b tail s _ _ _ _ (condition_same n sc i g f.0)
        (block_match a j n m sc _ f.1.0 i lo (omega (arith, hi)) (no_back _ _ (no_front _ _ arms)))
        (block_match b (j + picks_in a) (n + length (locals_of_block (heyvl.block_of (statements j a)) ++ [])) _ sc _ f.1.1 i (omega (arith, lo, w)) (omega (arith, hi, w)) (no_back _ _ (no_front _ _ c)))
        (k _ (ap (λ z. n + z) (arms_count j (j + picks_in a) a b)) _ sc i (no_back _ _ c))
    line_match (CommandTree.mix p a b s) tail rest j n m sc bound f i lo hi c k =
        let w = arm_count (j + 1) a in
        let sc1 = with_local (pick_name j) (record { number = n; ty = names.Bool }) sc in
        let i1 = placed_behind_pick v own sc j n names.Bool i in
        let behind = no_back _ _ c in
        let rules = all_kept s (var_rules (setting q) called n sc (pick_name j) names.Bool (Some (RightSide.flip p))) (no_back _ _ (no_front _ _ c)) in
        let right = rules.1.1.1.1.1 in
        let arms = no_front _ _ (no_front _ _ behind) in
        mix_match p a b tail s n _ _ _ _ _ lo (omega (arith, hi)) (flip_is n sc n p s i f.0 right.0 right.1.0)
        (ap (λ o. condition (option_map variable o)) (find_new (pick_name j) n names.Bool sc))
        (block_match a (j + 1) (n + 1) _ sc1 _ f.1.0 i1 (omega (arith, lo)) (omega (arith, hi)) (no_back _ _ (no_front _ _ arms)))
        (block_match b (j + 1 + picks_in a) (n + 1 + length (locals_of_block (heyvl.block_of (statements (j + 1) a)) ++ [])) _ sc1 _ f.1.1 i1 (omega (arith, lo, w)) (omega (arith, hi, w)) (no_back _ _ (no_front _ _ behind)))
        (k _ (ap (λ z. n + 1 + z) (arms_count (j + 1) (j + 1 + picks_in a) a b) ∙ one_in n (picks_in a) (picks_in b)) _ sc1 i1 (no_back _ _ behind))
      where
        one_in : (n x y : ℕ) → n + 1 + (x + y) ≡ n + (1 + x + y)
        one_in n x y = omega arith
    line_match (CommandTree.choice a b s) tail rest j n m sc bound f i lo hi c k =
        let w = count j a in
        choice_match a b tail s _ _ _
        (block_match a j n m sc _ f.0 i lo (omega (arith, hi)) (no_front _ _ (no_front _ _ c)))
        (block_match b (j + picks_in a) (n + length (locals_of_block (heyvl.block_of (statements j a)))) _ sc _ f.1 i (omega (arith, lo, w)) (omega (arith, hi, w)) (no_back _ _ (no_front _ _ c)))
        (k _ (ap (λ z. n + z) (sides_count j (j + picks_in a) a b)) _ sc i (no_back _ _ c))
    line_match (CommandTree.repeat g e a s) tail rest j n m sc bound f i lo hi c k =
        repeat_match g e a tail s _ _ _ (condition_same n sc i g f.0)
        (block_match a j n (suc m) sc _ f.1 i lo hi (no_back _ _ (no_front _ _ (no_front _ _ c))))
        (k _ (ap (λ z. n + z) (count j a)) _ sc i (no_back _ _ c))
