-- The laws of the readers of commands and blocks.
use Rattle.heyvl_parse.proofs.exported.Readers.{IsBarred, Laws, Local, Made, Right, RightAt, Some_text, anything, barred, chosen_local, each_laws, ended_by, expr_laws, key_test, lead_laws, lead_more, led, local_bind, local_mapped, local_one, local_refuse, made_laws, mapped_laws, mark_test, pair_free, pair_laws, sign_laws, right_as, right_bind, right_map, right_word, some_both, some_full, some_lead, some_trail, starts_same, trail_laws}
use Rattle.heyvl_parse.specs.readers.Combinators.{either, is_operator, lead, no_kind, sign, spanned, starts}
use Rattle.heyvl_parse.specs.readers.ReadParts.{Got, is_mark, word}
use Rattle.heyvl_syntax.specs.Expressions.{Expression}
use Rattle.heyvl_syntax.specs.Grammar.{IsFull}
use Rattle.heyvl_syntax.specs.Productions.{IsEach, IsKey, IsMark, IsName, at, extent, ◌then◌}
use Rattle.heyvl_syntax.specs.declared.keys.Key.TheVariants as keys
use Rattle.heyvl_syntax.specs.declared.marks.Mark.TheVariants as marks
use Rattle.heyvl_syntax.specs.declared.tokens.Token.{Token}
use Rattle.heyvl_syntax.specs.declared.tokens.TokenKind.TheVariants as kinds
use Rattle.heyvl_syntax.specs.declared.tokens.TokenKind.{TokenKind}
use Rattle.guarded_commands.specs.Grammar.{IsCommand, IsCommands, IsEnclosed, IsPblock}
use Rattle.guarded_commands.specs.Programs.{BlockTree, CommandTree, block_of}
use Rattle.guarded_commands.specs.declared.commands.Opening.TheVariants as openings
use Rattle.guarded_commands.specs.declared.commands.Opening.{Opening}
use Rattle.guarded_commands.specs.internal.Commands.{BlockReader, Branched, Named, Repeated, Side, behind_word, braced, bracketed, branch_tree, branched, command, command_by, commands, enclosed, ended_expr, fork_tree, forked, given, is_opening, is_skip, named, named_by, named_tree, opening, opens, repeat_tree, repeated, side, side_by, ticked}
use Rattle.std.proofs.Common.{Bool, List, [], ap, append_assoc, arith, codes, false, length, refl, subst, suc, sym, true, zero, ◌&&◌, ◌++◌, ◌<◌, ◌∙◌, ◌∷◌, ◌≡◌, ℕ}
use Rattle.std.specs.Cmp.Lexicographic.{same_text}

enclosed_laws : (n : ℕ) → Laws n IsEnclosed no_kind (enclosed n)
enclosed_laws n = lead_laws (mark_test marks.ParenLeft) (trail_laws (mark_test marks.ParenRight) (expr_laws n) refl) (some_trail (kinds.Mark marks.ParenRight) some_full)

some_enclosed : Some_text IsEnclosed
some_enclosed = some_lead (kinds.Mark marks.ParenLeft) (some_trail (kinds.Mark marks.ParenRight) some_full)

-- `expr ';'`
abbrev pub IsEnded : Expression → List Token → Type 0
IsEnded a = IsFull a then IsMark marks.Semi

pub ended_expr_laws : (n : ℕ) → Laws n IsEnded no_kind (ended_expr n)
ended_expr_laws n = trail_laws (mark_test marks.Semi) (expr_laws n) refl

pub some_ended : Some_text IsEnded
some_ended = some_trail (kinds.Mark marks.Semi) some_full

abbrev IsGiven : Expression → List Token → Type 0
IsGiven e = IsMark marks.Colon then IsMark marks.Assign then IsEnded e

given_laws : (n : ℕ) → Laws n IsGiven no_kind (given n)
given_laws n =
    lead_laws (mark_test marks.Colon) (lead_laws (mark_test marks.Assign) (ended_expr_laws n) some_ended) (some_lead (kinds.Mark marks.Assign) some_ended)

some_given : Some_text IsGiven
some_given = some_lead (kinds.Mark marks.Colon) (some_lead (kinds.Mark marks.Assign) some_ended)

-- `'skip' ';' | W ':' '=' expr ';'`
abbrev IsNamed : Named → List Token → Type 0
IsNamed Named.skipping = IsName (codes "skip") then IsMark marks.Semi
IsNamed (Named.giving x e) = IsName x then IsGiven e

-- What follows the identifier of a command.
abbrev IsBehind : List ℕ → Named → List Token → Type 0
IsBehind w Named.skipping text = (w ≡ codes "skip") × IsMark marks.Semi text
IsBehind w (Named.giving x e) text = (x ≡ w) × IsGiven e text

skip_is : (w : List ℕ) (b : Bool) → (is_skip w && b) ≡ true → w ≡ codes "skip"
skip_is w b e = pick (is_skip w) refl e
  where
    pick : (c : Bool) → is_skip w ≡ c → (c && b) ≡ true → w ≡ codes "skip"
    pick true same h = same_text w (codes "skip") (sym same)
    pick false same h = cc

behind_right : (n : ℕ) (w : List ℕ) → RightAt (IsBehind w) (behind_word n w)
behind_right n w ts = pick (is_skip w && starts (is_mark marks.Semi) ts) refl
  where
    pick : (b : Bool) → (is_skip w && starts (is_mark marks.Semi) ts) ≡ b → Right (IsBehind w) ts (named_by n w b ts)
    pick true e = right_map _ (IsBehind w) (λ s. Named.skipping) ts _ (λ s text h. (skip_is w (starts (is_mark marks.Semi) ts) e, (s, h))) ((sign_laws n (mark_test marks.Semi)).right ts)
    pick false e = right_map _ (IsBehind w) (Named.giving w) ts _ (λ a text h. (refl, h)) ((given_laws n).right ts)

behind_local : (n : ℕ) (w : List ℕ) → Local (behind_word n w)
behind_local n w = chosen_local (λ ts. is_skip w && starts (is_mark marks.Semi) ts) (named_by n w) (behind_word n w) (λ ts. refl) (λ t r r'. refl) locals
  where
    locals : (b : Bool) → Local (named_by n w b)
    locals true = local_mapped (λ s. Named.skipping) (sign (is_mark marks.Semi)) (sign_laws n (mark_test marks.Semi)).local
    locals false = local_mapped (Named.giving w) (given n) (given_laws n).local

no_skip : (b c : Bool) → c ≡ false → (b && c) ≡ false
no_skip true c e = e
no_skip false c e = refl

named_laws : (n : ℕ) → Laws n IsNamed no_kind (named n)
named_laws n = record { right = rights; local = local_bind word (behind_word n) (local_one _) (behind_local n); complete = done }
  where
    into : (w : List ℕ) (text : List Token) → IsName w text → (x : Named) (back : List Token) → IsBehind w x back → IsNamed x (text ++ back)
    into w text h Named.skipping back (same, k) = (text, back, rw (← same) h, k, refl)
    into w text h (Named.giving x e) back (same, k) = (text, back, rw same h, k, refl)

    rights : RightAt IsNamed (named n)
    rights ts =
        right_bind IsName IsNamed ts (word ts) (behind_word n) (right_word ts)
        (λ w text r h. right_as (IsBehind w) (λ x back. IsNamed x (text ++ back)) r (behind_word n w r) (λ x back k. into w text h x back k) (behind_right n w r))
        (λ w text h. let (e, more, g) = some_given in (more, Named.giving w e, (text, more, h, g, refl)))

    done : (x : Named) (text rest : List Token) → IsNamed x text → length (text ++ rest) < n → starts no_kind rest ≡ false → named n (text ++ rest) ≡ Got x rest
    done Named.skipping text rest (one, two, (s, h), (p, k), e) len quiet = rw (e, h, k) refl
    done (Named.giving x a) text rest (one, two, (s, h), g, e) len quiet =
        let cut : text ++ rest ≡ at (kinds.Word x) s ∷ (two ++ rest) = ap (λ z. z ++ rest) (e ∙ ap (λ z. z ++ two) h) in
        let free : starts (is_mark marks.Semi) (two ++ rest) ≡ false = ended_by _ (is_mark marks.Semi) (kinds.Mark marks.Colon) refl two rest g in
        let short : length (two ++ rest) < n = omega (arith, ap length cut) in
        rw (cut, no_skip (is_skip x) (starts (is_mark marks.Semi) (two ++ rest)) free, (given_laws n).complete a two rest g short (anything rest)) refl

abbrev IsTicked : Expression → List Token → Type 0
IsTicked e = IsKey keys.Tick then IsEnclosed e then IsMark marks.Semi

ticked_laws : (n : ℕ) → Laws n IsTicked no_kind (ticked n)
ticked_laws n = lead_laws (key_test keys.Tick) (trail_laws (mark_test marks.Semi) (enclosed_laws n) refl) (some_trail (kinds.Mark marks.Semi) some_enclosed)

some_block : Some_text IsPblock
some_block = some_lead (kinds.Mark marks.BraceLeft) (some_trail {P = IsCommands} (kinds.Mark marks.BraceRight) (BlockTree.done, [], refl))

-- `expr ']' pblock`
abbrev IsBracketed : Expression × BlockTree → List Token → Type 0
IsBracketed p = IsFull p.0 then IsMark marks.BracketRight then IsPblock p.1

abbrev IsSide : Side → List Token → Type 0
IsSide (Side.weighed p) = IsBracketed p
IsSide (Side.free b) = IsMark marks.BracketRight then IsPblock b

abbrev IsForked : BlockTree × Side → List Token → Type 0
IsForked p = IsPblock p.0 then IsMark marks.BracketLeft then IsSide p.1

abbrev IsBranched : Branched → List Token → Type 0
IsBranched p = IsKey keys.If then IsEnclosed p.0 then IsPblock p.1.0 then IsKey keys.Else then IsPblock p.1.1

abbrev IsRepeated : Repeated → List Token → Type 0
IsRepeated p = IsKey keys.While then IsEnclosed p.0 then IsMark marks.BracketLeft then IsBracketed p.1

-- No expression begins with `]`.
close_barred : IsBarred (is_mark marks.BracketRight)
close_barred k e s ts n = rw ((mark_test marks.BracketRight).only k e) refl

some_bracketed : Some_text IsBracketed
some_bracketed = some_both some_full (some_lead (kinds.Mark marks.BracketRight) some_block)

some_side : Some_text IsSide
some_side = let (b, text, h) = some_lead (kinds.Mark marks.BracketRight) some_block in (Side.free b, text, h)

-- A block begins with `{`.
block_first : (one two text rest : List Token) (a : BlockTree) → IsPblock a one → text ≡ one ++ two → opening (text ++ rest) ≡ openings.Block
block_first one two text rest a (f, b, (s, h), q, e) same = rw (same, e, h) refl

-- The laws of commands with blocks, from those of blocks.
module _ (n : ℕ) (block : BlockReader) (lb : Laws n IsPblock no_kind block) where
  branched_laws : Laws n IsBranched no_kind (branched n block)
  branched_laws =
      lead_laws (key_test keys.If)
      (pair_free (enclosed_laws n) (pair_free lb (lead_laws (key_test keys.Else) lb some_block) (some_lead (kinds.Key keys.Else) some_block)) (some_both some_block (some_lead (kinds.Key keys.Else) some_block)))
      (some_both some_enclosed (some_both some_block (some_lead (kinds.Key keys.Else) some_block)))

  bracketed_laws : Laws n IsBracketed no_kind (bracketed n block)
  bracketed_laws =
      pair_laws (expr_laws n) (lead_laws (mark_test marks.BracketRight) lb some_block) (some_lead (kinds.Mark marks.BracketRight) some_block)
      (λ y text rest h quiet. ended_by _ is_operator (kinds.Mark marks.BracketRight) refl text rest h)

  free_laws : Laws n (λ b. IsMark marks.BracketRight then IsPblock b) no_kind (lead (is_mark marks.BracketRight) block)
  free_laws = lead_laws (mark_test marks.BracketRight) lb some_block

  side_laws : Laws n IsSide no_kind (side n block)
  side_laws = record {
    right = λ ts. rights (starts (is_mark marks.BracketRight) ts) ts;
    local = chosen_local (starts (is_mark marks.BracketRight)) (side_by n block) (side n block) (λ ts. refl) (starts_same (is_mark marks.BracketRight)) locals;
    complete = done;
  }
    where
      rights : (b : Bool) → RightAt IsSide (side_by n block b)
      rights true ts = right_map _ IsSide Side.free ts _ (λ x text h. h) (free_laws.right ts)
      rights false ts = right_map _ IsSide Side.weighed ts _ (λ x text h. h) (bracketed_laws.right ts)

      locals : (b : Bool) → Local (side_by n block b)
      locals true = local_mapped Side.free _ free_laws.local
      locals false = local_mapped Side.weighed _ bracketed_laws.local

      done : (x : Side) (text rest : List Token) → IsSide x text → length (text ++ rest) < n → starts no_kind rest ≡ false → side n block (text ++ rest) ≡ Got x rest
      done (Side.free b) text rest h len quiet =
          let (s, back, inner, e) = led _ (kinds.Mark marks.BracketRight) text rest h in
          let class : starts (is_mark marks.BracketRight) (text ++ rest) ≡ true = rw e refl in
          ap (λ z. side_by n block z (text ++ rest)) class ∙ rw (free_laws.complete b text rest h len quiet) refl
      done (Side.weighed p) text rest (one, two, a, c, e) len quiet =
          let class : starts (is_mark marks.BracketRight) (text ++ rest) ≡ false = rw (e, append_assoc one two rest) (barred (is_mark marks.BracketRight) close_barred p.0 one (two ++ rest) a) in
          ap (λ z. side_by n block z (text ++ rest)) class ∙ rw (bracketed_laws.complete p text rest (one, two, a, c, e) len quiet) refl

  forked_laws : Laws n IsForked no_kind (forked n block)
  forked_laws = pair_free lb (lead_laws (mark_test marks.BracketLeft) side_laws some_side) (some_lead (kinds.Mark marks.BracketLeft) some_side)

  repeated_laws : Laws n IsRepeated no_kind (repeated n block)
  repeated_laws =
      lead_laws (key_test keys.While)
      (pair_free (enclosed_laws n) (lead_laws (mark_test marks.BracketLeft) bracketed_laws some_bracketed) (some_lead (kinds.Mark marks.BracketLeft) some_bracketed))
      (some_both some_enclosed (some_lead (kinds.Mark marks.BracketLeft) some_bracketed))

  words_laws : Laws n (Made named_tree IsNamed) no_kind (spanned named_tree (named n))
  words_laws = made_laws named_tree (named_laws n)

  ticks_laws : Laws n (Made CommandTree.tick IsTicked) no_kind (spanned CommandTree.tick (ticked n))
  ticks_laws = made_laws CommandTree.tick (ticked_laws n)

  ifs_laws : Laws n (Made branch_tree IsBranched) no_kind (spanned branch_tree (branched n block))
  ifs_laws = made_laws branch_tree branched_laws

  forks_laws : Laws n (Made fork_tree IsForked) no_kind (spanned fork_tree (forked n block))
  forks_laws = made_laws fork_tree forked_laws

  whiles_laws : Laws n (Made repeat_tree IsRepeated) no_kind (spanned repeat_tree (repeated n block))
  whiles_laws = made_laws repeat_tree repeated_laws

  into_named : (x : Named) (text : List Token) → IsNamed x text → IsCommand (named_tree x (extent text)) text
  into_named Named.skipping text h = (h, refl)
  into_named (Named.giving x e) text h = (h, refl)

  into_forked : (x : BlockTree × Side) (text : List Token) → IsForked x text → IsCommand (fork_tree x (extent text)) text
  into_forked (a, Side.weighed p) text h = (h, refl)
  into_forked (a, Side.free b) text h = (h, refl)

  some_command : Some_text IsCommand
  some_command =
      let (x, text, h) = some_lead (kinds.Key keys.Tick) (some_trail (kinds.Mark marks.Semi) some_enclosed) in
      (CommandTree.tick x (extent text), text, (h, refl))

  rights : (o : Opening) → RightAt IsCommand (command_by n block o)
  rights openings.Word ts = right_as _ IsCommand ts _ (λ y text (x, same, h). rw same (into_named x text h)) (words_laws.right ts)
  rights openings.Tick ts = right_as _ IsCommand ts _ (λ y text (x, same, h). rw same (h, refl)) (ticks_laws.right ts)
  rights openings.If ts = right_as _ IsCommand ts _ (λ y text (x, same, h). rw same (h, refl)) (ifs_laws.right ts)
  rights openings.Block ts = right_as _ IsCommand ts _ (λ y text (x, same, h). rw same (into_forked x text h)) (forks_laws.right ts)
  rights openings.While ts = right_as _ IsCommand ts _ (λ y text (x, same, h). rw same (h, refl)) (whiles_laws.right ts)
  rights openings.Other ts = let (x, text, h) = some_command in ([], text, x, refl, h)

  locals : (o : Opening) → Local (command_by n block o)
  locals openings.Word = words_laws.local
  locals openings.Tick = ticks_laws.local
  locals openings.If = ifs_laws.local
  locals openings.Block = forks_laws.local
  locals openings.While = whiles_laws.local
  locals openings.Other = local_refuse

  -- The first token of a text determines the command.
  opening_of : (x : CommandTree) (text rest : List Token) → IsCommand x text → (o : Opening) × (opening (text ++ rest) ≡ o) × (opens o ≡ true) × (length (text ++ rest) < n → command_by n block o (text ++ rest) ≡ Got x rest)
  opening_of (CommandTree.skip p) text rest (h, place) =
      let (s, back, inner, e) = led _ (kinds.Word (codes "skip")) text rest h in
      (openings.Word, rw e refl, refl, λ len. words_laws.complete (CommandTree.skip p) text rest (Named.skipping, rw place refl, h) len (anything rest))
  opening_of (CommandTree.assign x a p) text rest (h, place) =
      let (s, back, inner, e) = led _ (kinds.Word x) text rest h in
      (openings.Word, rw e refl, refl, λ len. words_laws.complete (CommandTree.assign x a p) text rest (Named.giving x a, rw place refl, h) len (anything rest))
  opening_of (CommandTree.tick a p) text rest (h, place) =
      let (s, back, inner, e) = led _ (kinds.Key keys.Tick) text rest h in
      (openings.Tick, rw e refl, refl, λ len. ticks_laws.complete (CommandTree.tick a p) text rest (a, rw place refl, h) len (anything rest))
  opening_of (CommandTree.branch g a b p) text rest (h, place) =
      let (s, back, inner, e) = led _ (kinds.Key keys.If) text rest h in
      (openings.If, rw e refl, refl, λ len. ifs_laws.complete (CommandTree.branch g a b p) text rest ((g, (a, b)), rw place refl, h) len (anything rest))
  opening_of (CommandTree.mix e a b p) text rest ((one, two, h, g, same), place) =
      (openings.Block, block_first one two text rest a h same, refl, λ len. forks_laws.complete (CommandTree.mix e a b p) text rest ((a, Side.weighed (e, b)), rw place refl, (one, two, h, g, same)) len (anything rest))
  opening_of (CommandTree.choice a b p) text rest ((one, two, h, g, same), place) =
      (openings.Block, block_first one two text rest a h same, refl, λ len. forks_laws.complete (CommandTree.choice a b p) text rest ((a, Side.free b), rw place refl, (one, two, h, g, same)) len (anything rest))
  opening_of (CommandTree.repeat g i a p) text rest (h, place) =
      let (s, back, inner, e) = led _ (kinds.Key keys.While) text rest h in
      (openings.While, rw e refl, refl, λ len. whiles_laws.complete (CommandTree.repeat g i a p) text rest ((g, (i, a)), rw place refl, h) len (anything rest))

  pub command_laws : Laws n IsCommand no_kind (command n block)
  command_laws = record {
    right = λ ts. rights (opening ts) ts;
    local = chosen_local opening (command_by n block) (command n block) (λ ts. refl) (λ t r r'. refl) locals;
    complete = λ x text rest h len quiet.
        let (o, class, on, read) = opening_of x text rest h in
        ap (λ z. command_by n block z (text ++ rest)) class ∙ read len;
  }

  pub command_begins : (x : CommandTree) (text : List Token) → IsCommand x text → starts is_opening text ≡ true
  command_begins x [] h = let (o, class, on, read) = opening_of x [] [] h in let never : false ≡ true = subst (λ (z : Opening). opens z ≡ true) (sym class) on in cc
  command_begins x (t ∷ ts) h = let (o, class, on, read) = opening_of x (t ∷ ts) [] h in rw class on

each_commands : (xs : List CommandTree) (text : List Token) → IsEach IsCommand xs text → IsCommands (block_of xs) text
each_commands [] text h = h
each_commands (x ∷ xs) text (one, two, h, q, e) = (one, two, h, each_commands xs two q, e)

commands_each : (b : BlockTree) (text : List Token) → IsCommands b text → (xs : List CommandTree) × (b ≡ block_of xs) × IsEach IsCommand xs text
commands_each BlockTree.done text h = ([], refl, h)
commands_each (BlockTree.next x b) text (one, two, h, others, e) =
    let (xs, same, q) = commands_each b two others in
    (x ∷ xs, ap (λ z. BlockTree.next x z) same, (one, two, h, q, e))

-- The kinds that continue commands.
abbrev pub on_commands : TokenKind → Bool
on_commands = either no_kind is_opening

pub some_commands : Some_text IsCommands
some_commands = (BlockTree.done, [], refl)

braced_laws : (n : ℕ) (inside : BlockReader) → Laws n IsCommands on_commands inside → Laws (suc n) IsPblock no_kind (braced inside)
braced_laws n inside l = lead_more (mark_test marks.BraceLeft) (trail_laws (mark_test marks.BraceRight) l refl) (some_trail (kinds.Mark marks.BraceRight) some_commands)

pub commands_laws : (n : ℕ) → Laws n IsCommands on_commands (commands n)
commands_laws zero = record { right = λ ts. tt; local = λ ts. tt; complete = λ x text rest h len quiet. absurd (omega arith) }
commands_laws (suc m) =
    let lb : Laws (suc m) IsPblock no_kind (braced (commands m)) = braced_laws m (commands m) (commands_laws m) in
    mapped_laws block_of IsCommands (each_laws is_opening (command_laws (suc m) (braced (commands m)) lb) (command_begins (suc m) (braced (commands m)) lb) (λ k e. refl) (suc m) (omega arith)) each_commands commands_each
