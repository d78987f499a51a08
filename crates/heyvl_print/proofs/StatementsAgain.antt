-- The pieces of right sides, rules and statements spell them again.
use Rattle.heyvl_print.proofs.ExpressionsAgain.{again, in_parens, r_comma, r_free, r_key, r_key_alone, r_shut, r_word, r_word_alone}
use Rattle.heyvl_print.proofs.TreePieces.{Prints, Reprints, any, blank_then, both, ends_line, margin_then, printable_back, printable_front, r_blank, r_both, r_feed, r_line, r_made, r_margin, r_one, r_token, remade, token_kinds, token_then}
use Rattle.heyvl_print.specs.Canonical.{block_lines, braced, else_if_pieces, else_pieces, expression_pieces, given_pieces, if_pieces, right_pieces, rule_line, rule_pieces, statement_lines, weighted_pieces}
use Rattle.heyvl_print.specs.Pieces.{Piece, blank, comma, each, feed, separated, text_of, token, word}
use Rattle.heyvl_print.specs.Printable.{ArePrintable}
use Rattle.heyvl_print.specs.WithoutPlaces.{bare_arms, bare_block, bare_given, bare_part, bare_right, bare_rule, bare_statement, no_place}
use Rattle.heyvl_syntax.proofs.exported.TokenReads.{ends_number, free_reads, key_reads, spaced_reads}
use Rattle.heyvl_syntax.specs.Bytes.{ends_word}
use Rattle.heyvl_syntax.specs.Expressions.{Expression}
use Rattle.heyvl_syntax.specs.Grammar.{IsAssign, IsBraced, IsElse, IsElseIfs, IsGiven, IsIf, IsRight, IsRule, IsStmt, IsStmts, IsWeighted, check_key, havoc_key, pick_key, type_key, validate_key}
use Rattle.heyvl_syntax.specs.Productions.{IsEach, IsKey, IsList, IsList0, IsMore, IsName, IsOptional, at, extent, ◌then◌}
use Rattle.heyvl_syntax.specs.Statements.{Arms, Block, LoopRule, RightSide, Statement}
use Rattle.heyvl_syntax.specs.declared.keys.Key.TheVariants as keys
use Rattle.heyvl_syntax.specs.declared.marks.Mark.TheVariants as marks
use Rattle.heyvl_syntax.specs.declared.tokens.Token.{Token}
use Rattle.heyvl_syntax.specs.declared.tokens.TokenKind.TheVariants as kinds
use Rattle.std.proofs.Common.{Bool, List, None, Option, Some, [], ap, append_assoc, codes, inl, inr, map, refl, subst, sym, true, ◌++◌, ◌+◌, ◌∙◌, ◌∷◌, ◌≡◌, ℕ}

no_tokens : (us : List Token) → token_kinds us ≡ [] → us ≡ []
no_tokens [] h = refl
no_tokens (u ∷ us) h = absurd (cc)

pub nothing : {A B : Type 0} {test : List ℕ → Bool} {e : A → B} {P : A → List Token → Type 0} {x : A} → ((us : List Token) → us ≡ [] → P x us) → Prints test e P x []
nothing {x = x} spells = record { flows = λ rest passes sound. sound; again = λ us h. (x, refl, spells us (no_tokens us h)) }

pub r_nothing : {A B : Type 0} {test : List ℕ → Bool} {e : A → B} {P : A → List Token → Type 0} {x : A} → ((us : List Token) → us ≡ [] → P x us) → Reprints test e P x []
r_nothing spells = record { from = λ ts h p. nothing spells }

-- Items with commas between them.
more_starts : {A : Type 0} (f : A → List Piece) (xs : List A) (rest : List Piece) → ends_number (text_of rest) ≡ true → ends_number (text_of (each (λ y. comma ++ f y) xs ++ rest)) ≡ true
more_starts f [] rest h = h
more_starts f (x ∷ xs) rest h = refl

more_again : {A B : Type 0} {e : A → B} {P : A → List Token → Type 0} {f : A → List Piece} → ((x : A) → Reprints ends_number e P x (f x)) → (xs : List A) →
    Reprints ends_number (map e) (IsMore P) xs (each (λ y. comma ++ f y) xs)
more_again one [] = r_nothing (λ us h. h)
more_again {f = f} one (x ∷ xs) = r_made (λ y us. y.0 ∷ y.1) (λ y us g. g) (λ y us g. ap (λ z. z.0 ∷ z.1) g) (λ ts g. g) (r_free marks.Comma refl (r_blank (r_both (one x) (more_starts f xs) (more_again one xs))))

pub list_again : {A B : Type 0} {e : A → B} {P : A → List Token → Type 0} {f : A → List Piece} → ((x : A) → Reprints ends_number e P x (f x)) → (xs : List A) →
    Reprints ends_number (map e) (IsList P) xs (separated comma f xs)
list_again one [] = record { from = λ ts h p. absurd h }
list_again {f = f} one (x ∷ xs) = r_made (λ y us. y.0 ∷ y.1) (λ y us g. g) (λ y us g. ap (λ z. z.0 ∷ z.1) g) (λ ts g. g) (r_both (one x) (more_starts f xs) (more_again one xs))

pub list0_again : {A B : Type 0} {e : A → B} {P : A → List Token → Type 0} {f : A → List Piece} → ((x : A) → Reprints ends_number e P x (f x)) → (xs : List A) →
    Reprints ends_number (map e) (IsList0 P) xs (separated comma f xs)
list0_again one [] = r_nothing (λ us h. h)
list0_again {f = f} one (x ∷ xs) = r_made (λ y us. y.0 ∷ y.1) (λ y us g. g) (λ y us g. ap (λ z. z.0 ∷ z.1) g) (λ ts g. g) (r_both (one x) (more_starts f xs) (more_again one xs))

-- Lines in sequence.
pub each_again : {A B : Type 0} {e : A → B} {P : A → List Token → Type 0} {f : A → List Piece} → ((x : A) → Reprints any e P x (f x)) → (xs : List A) →
    Reprints any (map e) (IsEach P) xs (each f xs)
each_again one [] = r_nothing (λ us h. h)
each_again one (x ∷ xs) = r_made (λ y us. y.0 ∷ y.1) (λ y us g. g) (λ y us g. ap (λ z. z.0 ∷ z.1) g) (λ ts g. g) (r_both (one x) (λ rest passes. refl) (each_again one xs))

pub name_again : (x : List ℕ) → Reprints ends_number (λ (y : List ℕ). y) IsName x (word x)
name_again x = r_made (λ y us. x) (λ y us g. g) (λ y us g. refl) (λ ts g. g) (r_word_alone x)

part_again : (p : Expression × Expression) → Reprints ends_number bare_part IsWeighted p (weighted_pieces p)
part_again p = r_made (λ y us. y) (λ y us g. g) (λ y us g. g) (λ ts g. g) (r_both (again p.0 9) (λ rest passes. refl) (r_free marks.Colon refl (r_blank (again p.1 9))))

pub right_again : (r : RightSide) → Reprints ends_number bare_right IsRight r (right_pieces r)
right_again (RightSide.flip p) = r_made (λ y us. RightSide.flip y) (λ y us g. g) (λ y us g. ap (λ z. RightSide.flip z) g) (λ ts g. g) (r_key keys.Flip (λ rest passes. refl) (in_parens (again p 9)))
right_again (RightSide.unif a b) =
    r_made (λ y us. RightSide.unif y.0 y.1) (λ y us g. g) (λ y us g. ap (λ z. RightSide.unif z.0 z.1) g) (λ ts g. g)
    (r_key keys.Unif (λ rest passes. refl) (r_free marks.ParenLeft refl (r_comma (again a 9) (r_shut marks.ParenRight refl (λ rest. refl) (again b 9)))))
right_again (RightSide.choose parts) =
    r_made (λ y us. RightSide.choose y) (λ y us g. g) (λ y us g. ap (λ z. RightSide.choose z) g) (λ ts g. g)
    (r_key keys.Choose (λ rest passes. refl) (r_blank (r_free marks.BraceLeft refl (r_blank
    (r_made (λ y us. y.0) (λ y us g. g) (λ y us g. ap (λ z. z.0) g) (λ ts g. g)
    (r_both (list_again part_again parts) (λ rest passes. refl) (r_blank (r_one (kinds.Mark marks.BraceRight) (λ p rest passes. free_reads marks.BraceRight (text_of rest) refl)))))))))
right_again (RightSide.call f arguments) =
    r_made (λ y us. RightSide.call f y) (λ y us g. g) (λ y us g. ap (λ z. RightSide.call f z) g) (λ ts g. g)
    (r_word f (λ rest passes. refl) (in_parens (list0_again (λ a. again a 9) arguments)))
right_again (RightSide.plain a) = r_made (λ y us. RightSide.plain y) (λ y us g. g) (λ y us g. ap (λ z. RightSide.plain z) g) (λ ts g. g) (again a 9)

-- ` = r`
assigned : (r : RightSide) → Reprints ends_number bare_right IsGiven r (blank ∷ token (kinds.Mark marks.Assign) ∷ blank ∷ right_pieces r)
assigned r = r_blank (r_token (kinds.Mark marks.Assign) (λ p rest passes. spaced_reads marks.Assign (text_of (right_pieces r ++ rest))) (r_blank (right_again r)))

given_again : (r : Option RightSide) → Reprints ends_number bare_given (IsOptional IsGiven) r (given_pieces r)
given_again None = r_nothing (λ us h. h)
given_again (Some r) = r_made (λ y us. Some y) (λ y us g. g) (λ y us g. ap (λ z. Some z) g) (λ ts g. g) (assigned r)

given_ends : (r : Option RightSide) (rest : List Piece) → ends_word (text_of ((given_pieces r ++ feed) ++ rest)) ≡ true
given_ends None rest = refl
given_ends (Some r) rest = refl

rule_again : (r : LoopRule) → Reprints ends_number bare_rule IsRule r (rule_pieces r)
rule_again (LoopRule.invariant i s) =
    r_made (λ y us. LoopRule.invariant y (extent us)) (λ y us g. (g, refl)) (λ y us g. ap (λ z. LoopRule.invariant z no_place) g) (λ ts g. g.0)
    (r_free marks.AtSign refl (r_word (codes "invariant") (λ rest passes. refl) (in_parens (again i 9))))
rule_again (LoopRule.k_induction k i s) =
    r_made (λ y us. LoopRule.k_induction y.0 y.1 (extent us)) (λ y us g. (g, refl)) (λ y us g. ap (λ z. LoopRule.k_induction z.0 z.1 no_place) g) (λ ts g. g.0)
    (r_free marks.AtSign refl (r_word (codes "k_induction") (λ rest passes. refl) (r_free marks.ParenLeft refl (r_comma (again k 9) (r_shut marks.ParenRight refl (λ rest. refl) (again i 9))))))
rule_again (LoopRule.ranking k i s) =
    r_made (λ y us. LoopRule.ranking y.0 y.1 (extent us)) (λ y us g. (g, refl)) (λ y us g. ap (λ z. LoopRule.ranking z.0 z.1 no_place) g) (λ ts g. g.0)
    (r_free marks.AtSign refl (r_word (codes "ranking") (λ rest passes. refl) (r_free marks.ParenLeft refl (r_comma (again k 9) (r_shut marks.ParenRight refl (λ rest. refl) (again i 9))))))

rule_line_again : (n : ℕ) (r : LoopRule) → Reprints any bare_rule IsRule r (rule_line n r)
rule_line_again n r = r_margin n (r_line (λ rest. refl) (rule_again r))

-- Blocks
braced_again : {A B : Type 0} {test : List ℕ → Bool} {e : A → B} {P : A → List Token → Type 0} {x : A} {lines : List Piece} (n : ℕ) → Reprints any e P x lines →
    Reprints test e (λ y. IsBraced (P y)) x (braced n lines)
braced_again n one =
    r_blank (r_free marks.BraceLeft refl (r_feed (r_made (λ y us. y.0) (λ y us g. g) (λ y us g. ap (λ z. z.0) g) (λ ts g. g)
    (r_both one (λ rest passes. refl) (r_margin n (r_one (kinds.Mark marks.BraceRight) (λ p rest passes. free_reads marks.BraceRight (text_of rest) refl)))))))

-- The tokens of an empty `else`, for a statement that had none.
some_else : (b : Block) → b ≡ Block.done → (ts : List Token) × (IsKey keys.Else then IsBraced (IsStmts b)) ts × ArePrintable ts
some_else Block.done h = (
  at (kinds.Key keys.Else) no_place ∷ at (kinds.Mark marks.BraceLeft) no_place ∷ at (kinds.Mark marks.BraceRight) no_place ∷ [],
  (_, _, (no_place, refl), (_, _, (no_place, refl), (_, _, refl, (no_place, refl), refl), refl), refl),
  (tt, (tt, (tt, tt))),
)
some_else (Block.next x xs) h = absurd (cc)

-- The printed `else`, also of a statement that had none.
else_again : (n : ℕ) (b : Block) (lines : List Piece) → Reprints any bare_block IsStmts b lines →
    Reprints any bare_block (λ y. IsElse y (IsBraced (IsStmts y))) b (else_pieces n lines)
else_again n b lines one = record { from = λ ts h p. either ts h p }
  where
    made : Reprints any bare_block (λ y. IsKey keys.Else then IsBraced (IsStmts y)) b (else_pieces n lines)
    made = r_blank (r_key keys.Else (λ rest passes. refl) (braced_again n one))

    either : (ts : List Token) → IsElse b (IsBraced (IsStmts b)) ts → ArePrintable ts → Prints any bare_block (λ y. IsElse y (IsBraced (IsStmts y))) b (else_pieces n lines)
    either ts (inl h) p = remade (λ y us. y) (λ y us g. inl g) (λ y us g. g) (made.from ts h p)
    either ts (inr h) p = let some = some_else b h.0 in remade (λ y us. y) (λ y us g. inl g) (λ y us g. g) (made.from some.0 some.1 some.2)

same_names : (xs : List (List ℕ)) → map (λ (y : List ℕ). y) xs ≡ xs
same_names [] = refl
same_names (x ∷ xs) = ap (λ z. x ∷ z) (same_names xs)

names_again : (xs : List (List ℕ)) → Reprints ends_number (λ (y : List (List ℕ)). y) (IsList IsName) xs (separated comma word xs)
names_again xs = r_made (λ y us. y) (λ y us g. g) (λ y us g. sym (same_names xs) ∙ g ∙ same_names y) (λ ts g. g) (list_again name_again xs)

assign_spells : (xs : List (List ℕ)) (r : RightSide) (us : List Token) → (IsList IsName xs then IsGiven r) us → IsAssign xs r us
assign_spells [] r us g = absurd g.2
assign_spells (x ∷ xs) r us g = g

mutual
  pub statement_again : (n : ℕ) (x : Statement) → Reprints any bare_statement IsStmt x (statement_lines n x)
  statement_again n (Statement.var x t r s) =
      r_made (λ y us. Statement.var x t y (extent us)) (λ y us g. (g, refl)) (λ y us g. ap (λ z. Statement.var x t z no_place) g) (λ ts g. g.0)
      (r_margin n (r_key keys.Var (λ rest passes. refl) (r_blank (r_word x (λ rest passes. refl) (r_free marks.Colon refl (r_blank
      (r_key (type_key t) (λ rest passes. given_ends r rest) (r_line (λ rest. refl) (given_again r)))))))))
  statement_again n (Statement.assign [] (RightSide.call f arguments) s) =
      r_made (λ y us. Statement.assign [] (RightSide.call f y) (extent us)) (λ y us g. (g, refl)) (λ y us g. ap (λ z. Statement.assign [] (RightSide.call f z) no_place) g) (λ ts g. g.0)
      (r_margin n (r_line {test = ends_number} (λ rest. refl) (r_word f (λ rest passes. refl) (in_parens (list0_again (λ a. again a 9) arguments)))))
  statement_again n (Statement.assign [] (RightSide.plain a) s) = record { from = λ ts h p. absurd h.0 }
  statement_again n (Statement.assign [] (RightSide.flip a) s) = record { from = λ ts h p. absurd h.0 }
  statement_again n (Statement.assign [] (RightSide.unif a b) s) = record { from = λ ts h p. absurd h.0 }
  statement_again n (Statement.assign [] (RightSide.choose parts) s) = record { from = λ ts h p. absurd h.0 }
  statement_again n (Statement.assign (x ∷ xs) r s) =
      r_made (λ y us. Statement.assign y.0 y.1 (extent us)) (λ y us g. (assign_spells y.0 y.1 us g, refl)) (λ y us g. ap (λ z. Statement.assign z.0 z.1 no_place) g) (λ ts g. g.0)
      (r_margin n (subst (λ (ps : List Piece). Reprints {A = List (List ℕ) × RightSide} {B = List (List ℕ) × RightSide} any (λ p. (p.0, bare_right p.1)) (λ p. IsList IsName p.0 then IsGiven p.1) (x ∷ xs, r) ps)
      (sym (append_assoc (separated comma word (x ∷ xs)) (blank ∷ token (kinds.Mark marks.Assign) ∷ blank ∷ []) (right_pieces r ++ feed)))
      (r_both (names_again (x ∷ xs)) (λ rest passes. refl) (r_line (λ rest. refl) (assigned r)))))
  statement_again n (Statement.check kind a s) =
      r_made (λ y us. Statement.check kind y (extent us)) (λ y us g. (g, refl)) (λ y us g. ap (λ z. Statement.check kind z no_place) g) (λ ts g. g.0)
      (r_margin n (r_key (check_key kind) (λ rest passes. refl) (r_blank (r_line (λ rest. refl) (again a 9)))))
  statement_again n (Statement.validate co s) =
      r_made (λ y us. Statement.validate co (extent us)) (λ y us g. (g, refl)) (λ y us g. refl) (λ ts g. g.0) (r_margin n (r_line (λ rest. refl) (r_key_alone (validate_key co))))
  statement_again n (Statement.havoc co xs s) =
      r_made (λ y us. Statement.havoc co y (extent us)) (λ y us g. (g, refl)) (λ y us g. ap (λ z. Statement.havoc co z no_place) g) (λ ts g. g.0)
      (r_margin n (r_key (havoc_key co) (λ rest passes. refl) (r_blank (r_line (λ rest. refl) (names_again xs)))))
  statement_again n (Statement.reward a s) = record {
    from = λ ts h p.
        let inner = (again a 9).from h.0.1 h.0.3 (printable_back ts h.0.0 h.0.1 h.0.4 p) in
        remade (λ y us. Statement.reward y (extent us)) (λ y us g. ((g.0, g.1, inl g.2, g.3, g.4), refl)) (λ y us g. ap (λ z. Statement.reward z no_place) g)
        (margin_then n (token_then (kinds.Key keys.Reward) (λ rest passes. key_reads keys.Reward (text_of ((blank ∷ expression_pieces a ++ feed) ++ rest)) refl) (blank_then (ends_line (λ rest. refl) inner))));
  }
  statement_again n (Statement.branch arms other s) =
      r_made (λ y us. Statement.branch y.0 y.1 (extent us)) (λ y us g. (g, refl)) (λ y us g. ap (λ z. Statement.branch z.0 z.1 no_place) g) (λ ts g. g.0)
      (r_margin n (r_both (if_again n arms) (λ rest passes. refl) (r_line (λ rest. refl) (else_again n other (block_lines (n + 2) other) (block_again (n + 2) other)))))
  statement_again n (Statement.pick up a b s) =
      r_made (λ y us. Statement.pick up y.0 y.1 (extent us)) (λ y us g. (g, refl)) (λ y us g. ap (λ z. Statement.pick up z.0 z.1 no_place) g) (λ ts g. g.0)
      (r_margin n (r_key keys.If (λ rest passes. refl) (r_blank (r_key (pick_key up) (λ rest passes. refl)
      (r_both {test = any} (braced_again n (block_again (n + 2) a)) (λ rest passes. refl) (r_line (λ rest. refl) (else_again n b (block_lines (n + 2) b) (block_again (n + 2) b))))))))
  statement_again n (Statement.loop rules g b s) =
      r_made (λ y us. Statement.loop y.0 y.1.0 y.1.1 (extent us)) (λ y us g. (g, refl)) (λ y us g. ap (λ z. Statement.loop z.0 z.1.0 z.1.1 no_place) g) (λ ts g. g.0)
      (r_both (each_again (rule_line_again n) rules) (λ rest passes. refl) (r_margin n (r_key keys.While (λ rest passes. refl) (r_blank
      (r_both (again g 9) (λ rest passes. refl) (r_line {test = any} (λ rest. refl) (braced_again n (block_again (n + 2) b))))))))

  if_again : (n : ℕ) (arms : Arms) → Reprints any bare_arms IsIf arms (if_pieces n arms)
  if_again n Arms.no_arm = record { from = λ ts h p. absurd h }
  if_again n (Arms.arm g b more) =
      subst (λ (ps : List Piece). Reprints any bare_arms IsIf (Arms.arm g b more) (token (kinds.Key keys.If) ∷ blank ∷ ps)) (sym (append_assoc (expression_pieces g) (braced n (block_lines (n + 2) b)) (else_if_pieces n more)))
      (r_made (λ y us. Arms.arm y.0 y.1.0 y.1.1) (λ y us g. g) (λ y us g. ap (λ z. Arms.arm z.0 z.1.0 z.1.1) g) (λ ts g. g)
      (r_key keys.If (λ rest passes. refl) (r_blank (r_both (again g 9) (λ rest passes. refl) (r_both {test = any} (braced_again n (block_again (n + 2) b)) (λ rest passes. refl) (else_ifs_again n more))))))

  else_ifs_again : (n : ℕ) (arms : Arms) → Reprints any bare_arms IsElseIfs arms (else_if_pieces n arms)
  else_ifs_again n Arms.no_arm = r_nothing (λ us h. h)
  else_ifs_again n (Arms.arm g b more) =
      subst (λ (ps : List Piece). Reprints any bare_arms IsElseIfs (Arms.arm g b more) (blank ∷ token (kinds.Key keys.Else) ∷ blank ∷ token (kinds.Key keys.If) ∷ blank ∷ ps)) (sym (append_assoc (expression_pieces g) (braced n (block_lines (n + 2) b)) (else_if_pieces n more)))
      (r_made (λ y us. Arms.arm y.0 y.1.0 y.1.1) (λ y us g. g) (λ y us g. ap (λ z. Arms.arm z.0 z.1.0 z.1.1) g) (λ ts g. g)
      (r_blank (r_key keys.Else (λ rest passes. refl) (r_blank (r_key keys.If (λ rest passes. refl) (r_blank (r_both (again g 9) (λ rest passes. refl) (r_both {test = any} (braced_again n (block_again (n + 2) b)) (λ rest passes. refl) (else_ifs_again n more)))))))))

  pub block_again : (n : ℕ) (b : Block) → Reprints any bare_block IsStmts b (block_lines n b)
  block_again n Block.done = r_nothing (λ us h. h)
  block_again n (Block.next x xs) = record {
    from = λ ts h p.
        remade (λ y us. Block.next y.0 y.1) (λ y us g. (g.0, g.1, g.2, ([], g.1, tt, g.3, refl), g.4)) (λ y us g. ap (λ z. Block.next z.0 z.1) g)
        (both ((statement_again n x).from h.0 h.2 (printable_front ts h.0 h.1 h.4 p)) ((block_again n xs).from h.3.1 h.3.3 (printable_back h.1 h.3.0 h.3.1 h.3.4 (printable_back ts h.0 h.1 h.4 p))) (λ rest passes. refl));
  }
