-- The laws of the readers of arms and loops.
use Rattle.heyvl_parse.proofs.KeyLaws.{led_starts, pick_laws}
use Rattle.heyvl_parse.proofs.Lawful.{Both, Laws, chosen_local, laws_same, lead_laws, mapped_laws, pair_free, pair_laws, some_both, starts_front, starts_same}
use Rattle.heyvl_parse.proofs.Local.{Local, LocalAt, local_bind, local_got, local_mapped}
use Rattle.heyvl_parse.proofs.Right.{Right, RightAt, Some_text, nowhere, right_as, right_bind, right_map}
use Rattle.heyvl_parse.proofs.RightLaws.{IsBarred, anything, barred, ended_by, expr_laws, key_test, led, some_full, some_lead}
use Rattle.heyvl_parse.proofs.RuleLaws.{rules_laws}
use Rattle.heyvl_parse.specs.readers.Combinators.{either, is_key, is_operator, is_there, lead, no_kind, starts}
use Rattle.heyvl_parse.specs.readers.ReadParts.{Bad, Got, Out, Read, Whole, is_mark, mapped, pair, reading, ◌>>=◌}
use Rattle.heyvl_parse.specs.internal.Rights.{two}
use Rattle.heyvl_parse.specs.internal.Statements.{BlockReader, IfParts, Links, Looped, Next, arm, behind_else, behind_if, branched, else_by, else_if, fronted, further, if_by, if_parts, is_pick, key_pick, link, link_by, links, looped, otherwise, picked}
use Rattle.heyvl_syntax.proofs.exported.Sequences.{then_assoc, then_map}
use Rattle.heyvl_syntax.specs.Expressions.{Expression}
use Rattle.heyvl_syntax.specs.Grammar.{IsBlock, IsElse, IsElseIfs, IsFull, IsRule, pick_key}
use Rattle.heyvl_syntax.specs.Productions.{IsEach, IsKey, at, ◌then◌}
use Rattle.heyvl_syntax.specs.Statements.{Block, arms_of}
use Rattle.heyvl_syntax.specs.declared.keys.Key.TheVariants as keys
use Rattle.heyvl_syntax.specs.declared.keys.Key.{Key}
use Rattle.heyvl_syntax.specs.declared.marks.Mark.TheVariants as marks
use Rattle.heyvl_syntax.specs.declared.tokens.Token.{Token}
use Rattle.heyvl_syntax.specs.declared.tokens.TokenKind.TheVariants as kinds
use Rattle.std.proofs.Common.{Bool, List, [], ap, append_assoc, arith, false, inl, inr, length, length-append, refl, subst, suc, sym, true, zero, ◌++◌, ◌<◌, ◌∙◌, ◌∷◌, ◌≡◌, ◌≤◌, ℕ}
use Rattle.std.proofs.lemmas.List.{append-nil}

pub then_back : (P Q R : List Token → Type 0) (ts : List Token) → (P then Q then R) ts → ((P then Q) then R) ts
then_back P Q R ts (us, back, p, (vs, ys, q, r, d), e) = (us ++ vs, ys, (us, vs, p, q, refl), r, e ∙ ap (λ z. us ++ z) d ∙ sym (append_assoc us vs ys))

then_behind : (P Q S : List Token → Type 0) (text z : List Token) → (P then Q) text → ((two : List Token) → Q two → S (two ++ z)) → (P then S) (text ++ z)
then_behind P Q S text z (one, two, p, q, e) f = (one, two ++ z, p, f two q, ap (λ w. w ++ z) e ∙ append_assoc one two z)

abbrev IsArm : Expression × Block → List Token → Type 0
IsArm a = IsFull a.0 then IsBlock a.1

abbrev pub IsOther : Block → List Token → Type 0
IsOther b = IsElse b (IsBlock b)

abbrev IsNext : Next → List Token → Type 0
IsNext (Next.again a) = IsKey keys.Else then IsKey keys.If then IsArm a
IsNext (Next.last b) = IsOther b

abbrev IsBehind : Next → List Token → Type 0
IsBehind (Next.again a) = IsKey keys.If then IsArm a
IsBehind (Next.last b) = IsBlock b

abbrev IsLinks : Links → List Token → Type 0
IsLinks p = IsElseIfs (arms_of p.0) then IsOther p.1

abbrev IsBranched : Links → List Token → Type 0
IsBranched ([], b) text = ⊥
IsBranched (a ∷ more, b) text = ((IsFull a.0 then IsBlock a.1 then IsElseIfs (arms_of more)) then IsOther b) text

some_block : Some_text IsBlock
some_block = (Block.done, at (kinds.Mark marks.BraceLeft) nowhere ∷ (at (kinds.Mark marks.BraceRight) nowhere ∷ []), (at (kinds.Mark marks.BraceLeft) nowhere ∷ [], at (kinds.Mark marks.BraceRight) nowhere ∷ [], (nowhere, refl), ([], at (kinds.Mark marks.BraceRight) nowhere ∷ [], refl, (nowhere, refl), refl), refl))

some_arm : Some_text IsArm
some_arm = some_both some_full some_block

some_other : Some_text IsOther
some_other = (Block.done, [], inr (refl, refl))

-- The laws of statements with blocks, from those of blocks.
module _ (n : ℕ) (block : BlockReader) (lb : Laws n IsBlock no_kind block) where
  arm_laws : Laws n IsArm no_kind (arm n block)
  arm_laws = pair_laws (expr_laws n) lb some_block (λ y text rest h quiet. ended_by _ is_operator (kinds.Mark marks.BraceLeft) refl text rest h)

  other_laws : Laws n IsOther (is_key keys.Else) (otherwise block)
  other_laws = record {
    right = λ ts. rights (starts (is_key keys.Else) ts) ts;
    local = chosen_local (starts (is_key keys.Else)) (else_if block) (otherwise block) (λ ts. refl) (starts_same (is_key keys.Else)) locals;
    complete = done;
  }
    where
      led_laws : Laws n (λ b. IsKey keys.Else then IsBlock b) no_kind (lead (is_key keys.Else) block)
      led_laws = lead_laws (key_test keys.Else) lb some_block

      rights : (b : Bool) → RightAt IsOther (else_if block b)
      rights true ts = right_as _ IsOther ts _ (λ x text h. inl h) (led_laws.right ts)
      rights false ts = ([], refl, inr (refl, refl))

      locals : (b : Bool) → Local (else_if block b)
      locals true = led_laws.local
      locals false = local_got Block.done

      done : (b : Block) (text rest : List Token) → IsOther b text → length (text ++ rest) < n → starts (is_key keys.Else) rest ≡ false → otherwise block (text ++ rest) ≡ Got b rest
      done b text rest (inl h) len quiet =
          let class : starts (is_key keys.Else) (text ++ rest) ≡ true = starts_front (is_key keys.Else) text rest (led_starts (IsBlock b) (key_test keys.Else) text h) in
          ap (λ z. else_if block z (text ++ rest)) class ∙ led_laws.complete b text rest h len (anything rest)
      done b text rest (inr (same, none)) len quiet = rw (none, quiet, same) refl

  behind_laws : Laws n IsBehind no_kind (behind_else n block)
  behind_laws = record {
    right = λ ts. rights (starts (is_key keys.If) ts) ts;
    local = chosen_local (starts (is_key keys.If)) (else_by n block) (behind_else n block) (λ ts. refl) (starts_same (is_key keys.If)) locals;
    complete = done;
  }
    where
      led_laws : Laws n (λ a. IsKey keys.If then IsArm a) no_kind (lead (is_key keys.If) (arm n block))
      led_laws = lead_laws (key_test keys.If) arm_laws some_arm

      rights : (b : Bool) → RightAt IsBehind (else_by n block b)
      rights true ts = right_map _ IsBehind Next.again ts _ (λ x text h. h) (led_laws.right ts)
      rights false ts = right_map IsBlock IsBehind Next.last ts _ (λ x text h. h) (lb.right ts)

      locals : (b : Bool) → Local (else_by n block b)
      locals true = local_mapped Next.again _ led_laws.local
      locals false = local_mapped Next.last _ lb.local

      done : (x : Next) (text rest : List Token) → IsBehind x text → length (text ++ rest) < n → starts no_kind rest ≡ false → behind_else n block (text ++ rest) ≡ Got x rest
      done (Next.again a) text rest h len quiet =
          let class : starts (is_key keys.If) (text ++ rest) ≡ true = starts_front (is_key keys.If) text rest (led_starts (IsArm a) (key_test keys.If) text h) in
          ap (λ z. else_by n block z (text ++ rest)) class ∙ rw (led_laws.complete a text rest h len quiet) refl
      done (Next.last b) text rest h len quiet =
          let class : starts (is_key keys.If) (text ++ rest) ≡ false = ended_by _ (is_key keys.If) (kinds.Mark marks.BraceLeft) refl text rest h in
          ap (λ z. else_by n block z (text ++ rest)) class ∙ rw (lb.complete b text rest h len quiet) refl

  some_behind : Some_text IsBehind
  some_behind = let (b, text, h) = some_block in (Next.last b, text, h)

  led_behind : Laws n (λ x. IsKey keys.Else then IsBehind x) no_kind (lead (is_key keys.Else) (behind_else n block))
  led_behind = lead_laws (key_test keys.Else) behind_laws some_behind

  right_link : RightAt IsNext (link n block)
  right_link ts = go (starts (is_key keys.Else) ts) ts
    where
      into : (x : Next) (text : List Token) → (IsKey keys.Else then IsBehind x) text → IsNext x text
      into (Next.again a) text h = h
      into (Next.last b) text h = inl h

      go : (b : Bool) → RightAt IsNext (link_by n block b)
      go true ts = right_as _ IsNext ts _ into (led_behind.right ts)
      go false ts = ([], refl, inr (refl, refl))

  local_link : Local (link n block)
  local_link = chosen_local (starts (is_key keys.Else)) (link_by n block) (link n block) (λ ts. refl) (starts_same (is_key keys.Else)) go
    where
      go : (b : Bool) → Local (link_by n block b)
      go true = led_behind.local
      go false = local_got (Next.last Block.done)

  at_else : (x : Next) (text rest : List Token) → (IsKey keys.Else then IsBehind x) text → length (text ++ rest) < n → link n block (text ++ rest) ≡ Got x rest
  at_else x text rest h len =
      let class : starts (is_key keys.Else) (text ++ rest) ≡ true = starts_front (is_key keys.Else) text rest (led_starts (IsBehind x) (key_test keys.Else) text h) in
      ap (λ z. link_by n block z (text ++ rest)) class ∙ led_behind.complete x text rest h len (anything rest)

  complete_last : (b : Block) (text rest : List Token) → IsOther b text → length (text ++ rest) < n → starts (is_key keys.Else) rest ≡ false → link n block (text ++ rest) ≡ Got (Next.last b) rest
  complete_last b text rest (inl h) len quiet = at_else (Next.last b) text rest h len
  complete_last b text rest (inr (same, none)) len quiet = rw (none, quiet, same) refl

  further_arm : (a : Expression × Block) (p : Links) (text z : List Token) → IsNext (Next.again a) text → IsLinks p z → IsLinks (a ∷ p.0, p.1) (text ++ z)
  further_arm a p text z h (front, back, arms, other, e) =
      (text ++ front, back, spelled, other, ap (λ w. text ++ w) e ∙ sym (append_assoc text front back))
    where
      spelled : IsElseIfs (arms_of (a ∷ p.0)) (text ++ front)
      spelled =
          then_behind (IsKey keys.Else) (IsKey keys.If then IsArm a) (IsKey keys.If then IsFull a.0 then IsBlock a.1 then IsElseIfs (arms_of p.0)) text front h (λ t1 h1.
          then_behind (IsKey keys.If) (IsArm a) (IsFull a.0 then IsBlock a.1 then IsElseIfs (arms_of p.0)) t1 front h1 (λ t2 h2.
          then_behind (IsFull a.0) (IsBlock a.1) (IsBlock a.1 then IsElseIfs (arms_of p.0)) t2 front h2 (λ t3 h3. (t3, front, h3, arms, refl))))

  right_links : (k : ℕ) → RightAt IsLinks (links n block k)
  right_links zero ts = tt
  right_links (suc k) ts =
      right_bind IsNext IsLinks ts (link n block ts) (further (links n block k)) (right_link ts) (behind (right_links k)) (λ x text h. last x text h)
    where
      last : (x : Next) (text : List Token) → IsNext x text → (more : List Token) × (p : Links) × IsLinks p (text ++ more)
      last (Next.last b) text h = ([], ([], b), ([], text, refl, h, append-nil text))
      last (Next.again a) text h = ([], (a ∷ [], Block.done), further_arm a ([], Block.done) text [] h ([], [], refl, inr (refl, refl), refl))

      after : (a : Expression × Block) (text r : List Token) → IsNext (Next.again a) text → (res : Read Links) → Right IsLinks r res → Right (λ p z. IsLinks p (text ++ z)) r (fronted (a ∷ []) res)
      after a text r h (Got p r') (z, e, hp) = (z, e, further_arm a p text z h hp)
      after a text r h (Bad r') (z, more, p, e, hp) = (z, more, (a ∷ p.0, p.1), e, further_arm a p text (z ++ more) h hp)
      after a text r h Out hp = tt

      behind : RightAt IsLinks (links n block k) → (x : Next) (text r : List Token) → IsNext x text → Right (λ p z. IsLinks p (text ++ z)) r (further (links n block k) x r)
      behind before (Next.last b) text r h = ([], refl, ([], text, refl, h, append-nil text))
      behind before (Next.again a) text r h = after a text r h (links n block k r) (before r)

  local_fronted : (a : Expression × Block) (g : List Token → Read Links) → Local g → Local (λ ts. fronted (a ∷ []) (g ts))
  local_fronted a g l ts = go (g ts) (l ts)
    where
      go : (res : Read Links) → LocalAt g ts res → LocalAt (λ ts. fronted (a ∷ []) (g ts)) ts (fronted (a ∷ []) res)
      go (Got p r) (text, h, move) = (text, h, λ t r0 r' eq. rw (move t r0 r' eq) refl)
      go (Bad r) (text, h, move) = (text, h, λ t r0 r' eq. rw (move t r0 r' eq) refl)
      go Out h = tt

  local_links : (k : ℕ) → Local (links n block k)
  local_links zero = λ ts. tt
  local_links (suc k) = local_bind (link n block) (further (links n block k)) local_link (go (local_links k))
    where
      go : Local (links n block k) → (x : Next) → Local (further (links n block k) x)
      go before (Next.last b) = local_got ([], b)
      go before (Next.again a) = local_fronted a (links n block k) before

  complete_links : (k : ℕ) → k ≤ n → (xs : List (Expression × Block)) (b : Block) (text rest : List Token) → IsLinks (xs, b) text → length (text ++ rest) < k → starts (is_key keys.Else) rest ≡ false → links n block k (text ++ rest) ≡ Got (xs, b) rest
  complete_links zero le xs b text rest h len quiet = absurd (omega arith)
  complete_links (suc k) le [] b text rest (one, two, none, h, e) len quiet =
      let same : text ≡ two = e ∙ ap (λ z. z ++ two) none in
      rw (complete_last b text rest (subst (IsOther b) (sym same) h) (omega arith) quiet) refl
  complete_links (suc k) le (a ∷ xs) b text rest (one, two, (u1, v1, (s1, k1), (u2, v2, (s2, k2), (u3, v3, hg, (u4, v4, hb, hm, e4), e3), e2), e1), ho, e) len quiet =
      let z : List Token = v4 ++ two in
      let front : List Token = u1 ++ (u2 ++ (u3 ++ u4)) in
      let cut : text ++ rest ≡ front ++ (z ++ rest) = rw (e, e1, e2, e3, e4) (simp append_assoc) in
      let spelled : IsNext (Next.again a) front = (u1, u2 ++ (u3 ++ u4), (s1, k1), (u2, u3 ++ u4, (s2, k2), (u3, u4, hg, hb, refl), refl), refl) in
      let nonempty : 0 < length front = omega (arith, ap length k1, length-append u1 (u2 ++ (u3 ++ u4))) in
      let total : length (front ++ (z ++ rest)) < suc k = rw cut at len in
      let short : length (z ++ rest) < k = omega (arith, length-append front (z ++ rest)) in
      rw (cut, at_else (Next.again a) front (z ++ rest) spelled (omega arith), complete_links k (omega arith) xs b z rest (v4, two, hm, ho, refl) short quiet) refl

  links_laws : Laws n IsLinks (is_key keys.Else) (links n block n)
  links_laws = record {
    right = right_links n;
    local = local_links n;
    complete = λ p text rest h len quiet. complete_links n (omega arith) p.0 p.1 text rest h len quiet;
  }

  some_links : Some_text IsLinks
  some_links = (([], Block.done), [], ([], [], refl, inr (refl, refl), refl))

  make_links : (Expression × Block) × Links → Links
  make_links p = (p.0 ∷ p.1.0, p.1.1)

  into_branched : (p : (Expression × Block) × Links) (text : List Token) → Both IsArm IsLinks p text → IsBranched (make_links p) text
  unfolding make_links
  into_branched (a, (xs, b)) text h =
      let outer = then_back (IsArm a) (IsElseIfs (arms_of xs)) (IsOther b) text h in
      then_map ((IsArm a) then IsElseIfs (arms_of xs)) (IsFull a.0 then IsBlock a.1 then IsElseIfs (arms_of xs)) (IsOther b) (IsOther b) text (λ ys q. then_assoc (IsFull a.0) (IsBlock a.1) (IsElseIfs (arms_of xs)) ys q) (λ ys q. q) outer

  from_branched : (p : Links) (text : List Token) → IsBranched p text → (q : (Expression × Block) × Links) × (p ≡ make_links q) × Both IsArm IsLinks q text
  unfolding make_links
  from_branched ([], b) text h = absurd h
  from_branched (a ∷ xs, b) text h =
      let outer = then_map (IsFull a.0 then IsBlock a.1 then IsElseIfs (arms_of xs)) ((IsArm a) then IsElseIfs (arms_of xs)) (IsOther b) (IsOther b) text (λ ys q. then_back (IsFull a.0) (IsBlock a.1) (IsElseIfs (arms_of xs)) ys q) (λ ys q. q) h in
      ((a, (xs, b)), refl, then_assoc (IsArm a) (IsElseIfs (arms_of xs)) (IsOther b) text outer)

  branched_is : (ts : List Token) → branched n block ts ≡ mapped make_links (pair (arm n block) (links n block n)) ts
  unfolding make_links
  branched_is ts = go (arm n block ts)
    where
      last : (a : Expression × Block) (res : Read Links) → fronted (a ∷ []) res ≡ (let w : Read ((Expression × Block) × Links) = res >>= λ y r'. Got (a, y) r' in w >>= λ p r. Got (p.0 ∷ p.1.0, p.1.1) r)
      last a (Got y r) = refl
      last a (Bad r) = refl
      last a Out = refl

      go : (res : Read (Expression × Block)) → (res >>= λ a r. fronted (a ∷ []) (links n block n r)) ≡ (let w : Read ((Expression × Block) × Links) = res >>= λ a r. links n block n r >>= λ y r'. Got (a, y) r' in w >>= λ p r. Got (p.0 ∷ p.1.0, p.1.1) r)
      go (Got a r) = last a (links n block n r)
      go (Bad r) = refl
      go Out = refl

  branched_laws : Laws n IsBranched (is_key keys.Else) (branched n block)
  branched_laws =
      laws_same (branched n block) branched_is
      (mapped_laws make_links IsBranched (pair_free arm_laws links_laws some_links) into_branched from_branched)

  abbrev IsPicked : Bool × (Block × Block) → List Token → Type 0
  IsPicked p = IsKey (pick_key p.0) then IsBlock p.1.0 then IsOther p.1.1

  picked_laws : Laws n IsPicked (is_key keys.Else) (picked block)
  picked_laws = pair_free (pick_laws n) (pair_free lb other_laws some_other) (some_both some_block some_other)

  abbrev pub IsIfParts : IfParts → List Token → Type 0
  IsIfParts (IfParts.branching p) = IsBranched p
  IsIfParts (IfParts.picking p) = IsPicked p

  pick_barred : IsBarred is_pick
  pick_barred (kinds.Key k) e s ts m = go k e
    where
      go : (k : Key) → is_there (key_pick k) ≡ true → reading (suc m) Whole (at (kinds.Key k) s ∷ ts) ≡ Bad (at (kinds.Key k) s ∷ ts)
      go keys.Cap e = refl
      go keys.Cup e = refl
      go _ e = cc
  pick_barred (kinds.Word w) e s ts m = cc
  pick_barred (kinds.Number k) e s ts m = cc
  pick_barred (kinds.Mark k) e s ts m = cc

  some_parted : Some_text IsIfParts
  some_parted =
      let (a, text, h) = some_arm in
      (IfParts.branching (a ∷ [], Block.done), text, (text, [], (let (one, two, hf, hb, e) = h in (one, two, hf, (two, [], hb, refl, sym (append-nil two)), e)), inr (refl, refl), sym (append-nil text)))

  behind_if_laws : Laws n IsIfParts (is_key keys.Else) (behind_if n block)
  behind_if_laws = record {
    right = λ ts. rights (starts is_pick ts) ts;
    local = chosen_local (starts is_pick) (if_by n block) (behind_if n block) (λ ts. refl) (starts_same is_pick) locals;
    complete = done;
  }
    where
      rights : (b : Bool) → RightAt IsIfParts (if_by n block b)
      rights true ts = right_map _ IsIfParts IfParts.picking ts _ (λ x text h. h) (picked_laws.right ts)
      rights false ts = right_map _ IsIfParts IfParts.branching ts _ (λ x text h. h) (branched_laws.right ts)

      locals : (b : Bool) → Local (if_by n block b)
      locals true = local_mapped IfParts.picking _ picked_laws.local
      locals false = local_mapped IfParts.branching _ branched_laws.local

      pick_on : (b : Bool) → is_pick (kinds.Key (pick_key b)) ≡ true
      pick_on true = refl
      pick_on false = refl

      off : (p : Links) (text rest : List Token) → IsBranched p text → starts is_pick (text ++ rest) ≡ false
      off ([], b) text rest h = absurd h
      off (a ∷ xs, b) text rest (one, two, (o1, o2, hf, hm, e1), ho, e) = rw (e, append_assoc one two rest, e1, append_assoc o1 o2 (two ++ rest)) (barred is_pick pick_barred a.0 o1 (o2 ++ (two ++ rest)) hf)

      done : (x : IfParts) (text rest : List Token) → IsIfParts x text → length (text ++ rest) < n → starts (is_key keys.Else) rest ≡ false → behind_if n block (text ++ rest) ≡ Got x rest
      done (IfParts.picking p) text rest h len quiet =
          let (s, back, inner, e) = led _ (kinds.Key (pick_key p.0)) text rest h in
          let class : starts is_pick (text ++ rest) ≡ true = rw e (pick_on p.0) in
          ap (λ z. if_by n block z (text ++ rest)) class ∙ rw (picked_laws.complete p text rest h len quiet) refl
      done (IfParts.branching p) text rest h len quiet =
          ap (λ z. if_by n block z (text ++ rest)) (off p text rest h) ∙ rw (branched_laws.complete p text rest h len quiet) refl

  pub if_laws : Laws n (λ p. IsKey keys.If then IsIfParts p) (is_key keys.Else) (if_parts n block)
  if_laws = lead_laws (key_test keys.If) behind_if_laws some_parted

  abbrev pub IsLooped : Looped → List Token → Type 0
  IsLooped p = IsEach IsRule p.0 then IsKey keys.While then IsFull p.1.0 then IsBlock p.1.1

  pub looped_laws : Laws n IsLooped no_kind (looped n block)
  looped_laws = pair_laws (rules_laws n) (lead_laws (key_test keys.While) arm_laws some_arm) (some_lead (kinds.Key keys.While) some_arm) (λ y text rest h quiet. ended_by _ (either no_kind (is_mark marks.AtSign)) (kinds.Key keys.While) refl text rest h)
