-- Locality of reading: a reader looks at no token after the first one that it leaves.
use Rattle.heyvl_parse.specs.readers.ReadParts.{Bad, Full, Got, More, Out, Part, Read, Reader, Whole, after, bound, bound_parts, bound_tree, bracket_tree, by_kind, choice, choice_parts, choice_tree, embed_tree, enclosed, expect, full, given, group_tree, joined, key_start, mapped, mark_start, more, one, operand, operator_of, pair, placed, prefix_tree, prefixed, quantified, quantifier_of, ranked, reading, repeats, started, step, type_name, whole, word, ◌>>=◌}
use Rattle.heyvl_parse.specs.declared.starts.Start.TheVariants as starts
use Rattle.heyvl_parse.specs.declared.starts.Start.{Start}
use Rattle.heyvl_syntax.specs.Expressions.{Expression}
use Rattle.heyvl_syntax.specs.Grammar.{ranks}
use Rattle.heyvl_syntax.specs.declared.marks.Mark.TheVariants as marks
use Rattle.heyvl_syntax.specs.declared.marks.Mark.{Mark}
use Rattle.heyvl_syntax.specs.declared.operators.BinaryOp.{BinaryOp}
use Rattle.heyvl_syntax.specs.declared.operators.UnaryOp.{UnaryOp}
use Rattle.heyvl_places.specs.declared.spans.Span.{Span}
use Rattle.heyvl_syntax.specs.declared.tokens.Token.{Token}
use Rattle.heyvl_syntax.specs.declared.tokens.TokenKind.TheVariants as kinds
use Rattle.heyvl_syntax.specs.declared.tokens.TokenKind.{TokenKind}
use Rattle.std.proofs.Common.{Bool, List, None, Option, Some, [], ap, append_assoc, false, refl, subst, suc, sym, true, zero, ◌++◌, ◌∙◌, ◌∷◌, ◌≡◌, ℕ}

-- `f` reads a text of `ts`, and gives the same before each rest that begins with the same token.
abbrev pub Moves : {A : Type 0} → (List Token → Read A) → (List Token → Read A) → List Token → List Token → Type 0
Moves f put ts r = (text : List Token) × (ts ≡ text ++ r) × ((t : Token) (r0 r' : List Token) → r ≡ t ∷ r0 → f (text ++ (t ∷ r')) ≡ put (t ∷ r'))

abbrev pub LocalAt : {A : Type 0} → (List Token → Read A) → List Token → Read A → Type 0
LocalAt f ts (Got x r) = Moves f (λ z. Got x z) ts r
LocalAt f ts (Bad r) = Moves f (λ z. Bad z) ts r
LocalAt f ts Out = Unit {0}

abbrev pub Local : {A : Type 0} → (List Token → Read A) → Type 0
Local f = (ts : List Token) → LocalAt f ts (f ts)

moves_bind : {A B : Type 0} (f : List Token → Read A) (k : A → List Token → Read B) (x : A) (ts r : List Token) → Moves f (λ z. Got x z) ts r → (put : List Token → Read B) (r2 : List Token) → Moves (k x) put r r2 → Moves (λ z. f z >>= k) put ts r2
moves_bind f k x ts r (text, e, move) put r2 ([], e2, move2) =
    (text, e ∙ ap (λ z. text ++ z) e2, λ t r0 r' eq. rw (move t r0 r' (e2 ∙ eq)) (move2 t r0 r' eq))
moves_bind f k x ts r (text, e, move) put r2 (u ∷ text2, e2, move2) = (
  text ++ (u ∷ text2),
  e ∙ ap (λ z. text ++ z) e2 ∙ sym (append_assoc text (u ∷ text2) r2),
  λ t r0 r' eq. rw (append_assoc text (u ∷ text2) (t ∷ r'), move u (text2 ++ r2) (text2 ++ (t ∷ r')) e2) (move2 t r0 r' eq),
)

at_second : {A B : Type 0} (f : List Token → Read A) (k : A → List Token → Read B) (x : A) (ts r : List Token) → Moves f (λ z. Got x z) ts r → (res : Read B) → LocalAt (k x) r res → LocalAt (λ z. f z >>= k) ts res
at_second f k x ts r m (Got y r2) h = moves_bind f k x ts r m (λ z. Got y z) r2 h
at_second f k x ts r m (Bad r2) h = moves_bind f k x ts r m (λ z. Bad z) r2 h
at_second f k x ts r m Out h = tt

at_first : {A B : Type 0} (f : List Token → Read A) (k : A → List Token → Read B) → ((x : A) → Local (k x)) → (ts : List Token) (res : Read A) → LocalAt f ts res → LocalAt (λ z. f z >>= k) ts (res >>= k)
at_first f k lk ts (Got x r) h = at_second f k x ts r h (k x r) (lk x r)
at_first f k lk ts (Bad r) (text, e, move) = (text, e, λ t r0 r' eq. rw (move t r0 r' eq) refl)
at_first f k lk ts Out h = tt

pub local_bind : {A B : Type 0} (f : List Token → Read A) (k : A → List Token → Read B) → Local f → ((x : A) → Local (k x)) → Local (λ z. f z >>= k)
local_bind f k lf lk ts = at_first f k lk ts (f ts) (lf ts)

pub local_got : {A : Type 0} (x : A) → Local (λ z. Got x z)
local_got x ts = ([], refl, λ t r0 r' eq. refl)

pub local_pair : {A B : Type 0} (f : List Token → Read A) (g : List Token → Read B) → Local f → Local g → Local (pair f g)
local_pair f g lf lg = local_bind f (λ x r. g r >>= λ y r'. Got (x, y) r') lf (λ x. local_bind g (λ y r'. Got (x, y) r') lg (λ y. local_got (x, y)))

pub local_mapped : {A B : Type 0} (h : A → B) (f : List Token → Read A) → Local f → Local (mapped h f)
local_mapped h f lf = local_bind f (λ x r. Got (h x) r) lf (λ x. local_got (h x))

pub local_token : {A : Type 0} (f g : List Token → Read A) (u : Token) (us : List Token) (res : Read A) → ((zs : List Token) → f (u ∷ zs) ≡ g zs) → LocalAt g us res → LocalAt f (u ∷ us) res
local_token f g u us (Got x r) e (text, h, move) = (u ∷ text, ap (λ z. u ∷ z) h, λ t r0 r' eq. e (text ++ (t ∷ r')) ∙ move t r0 r' eq)
local_token f g u us (Bad r) e (text, h, move) = (u ∷ text, ap (λ z. u ∷ z) h, λ t r0 r' eq. e (text ++ (t ∷ r')) ∙ move t r0 r' eq)
local_token f g u us Out e h = tt

pub local_one : {A : Type 0} (of : Token → Option A) → Local (one of)
local_one of [] = ([], refl, λ t r0 r' eq. cc)
local_one {A} of (t ∷ ts) = go (of t) refl
  where
    go : (o : Option A) → of t ≡ o → LocalAt (one of) (t ∷ ts) (given o (t ∷ ts) ts)
    go (Some x) e = (t ∷ [], refl, λ u r0 r' eq. rw e refl)
    go None e = ([], refl, λ u r0 r' eq. let same : t ≡ u = cc in rw (subst (λ (z : Token). of z ≡ None) same e) refl)

abbrev pub AllLocal : Reader → Type 0
AllLocal self = (q : Part) → Local (self q)

module _ (self : Reader) (l : AllLocal self) where
  local_enclosed : (m : Mark) → Local (enclosed self m)
  local_enclosed m = local_pair (self Whole) (expect m) (l Whole) (local_one _)

  local_embed : Local (pair (expect marks.ParenLeft) (enclosed self marks.ParenRight))
  local_embed = local_pair (expect marks.ParenLeft) (enclosed self marks.ParenRight) (local_one _) (local_enclosed marks.ParenRight)

  local_prefixed : (op : UnaryOp) (s : Span) → Local (prefixed self op s)
  local_prefixed op s = local_mapped (prefix_tree op s) (self (Full 0)) (l (Full 0))

  local_choice_parts : Local (choice_parts self)
  local_choice_parts =
      local_pair (expect marks.ParenLeft) _ (local_one _)
      (local_pair (self Whole) _ (l Whole)
      (local_pair (expect marks.Comma) _ (local_one _)
      (local_pair (self Whole) _ (l Whole) (local_pair (expect marks.Comma) _ (local_one _) (local_enclosed marks.ParenRight)))))

  local_bound_parts : Local (bound_parts self)
  local_bound_parts =
      local_pair word _ (local_one _)
      (local_pair (expect marks.Colon) _ (local_one _) (local_pair type_name _ (local_one _) (local_pair (expect marks.Dot) _ (local_one _) (l Whole))))

  -- The reading after the token `u`, by what `u` begins.
  local_started : (f : List Token → Read Expression) (st : Start) (u : Token) (us : List Token) → ((t : Token) (zs : List Token) → u ≡ t → f (t ∷ zs) ≡ started self st t.span zs (t ∷ zs)) → LocalAt f (u ∷ us) (started self st u.span us (u ∷ us))
  local_started f (starts.Truth b) u us e = (u ∷ [], refl, λ t r0 r' eq. e u (t ∷ r') refl)
  local_started f starts.Infinity u us e = (u ∷ [], refl, λ t r0 r' eq. e u (t ∷ r') refl)
  local_started f starts.Group u us e = local_token f (mapped (group_tree u.span) (enclosed self marks.ParenRight)) u us _ (λ zs. e u zs refl) (local_mapped _ _ (local_enclosed marks.ParenRight) us)
  local_started f starts.Bracket u us e = local_token f (mapped (bracket_tree u.span) (enclosed self marks.BracketRight)) u us _ (λ zs. e u zs refl) (local_mapped _ _ (local_enclosed marks.BracketRight) us)
  local_started f starts.Embed u us e = local_token f (mapped (embed_tree u.span) (pair (expect marks.ParenLeft) (enclosed self marks.ParenRight))) u us _ (λ zs. e u zs refl) (local_mapped _ _ local_embed us)
  local_started f (starts.Prefix op) u us e = local_token f (prefixed self op u.span) u us _ (λ zs. e u zs refl) (local_prefixed op u.span us)
  local_started f starts.Choice u us e = local_token f (choice self u.span) u us _ (λ zs. e u zs refl) (local_mapped (choice_tree u.span) (choice_parts self) local_choice_parts us)
  local_started f starts.Other u us e = ([], refl, λ t r0 r' eq. let same : u ≡ t = cc in e t r' same)

  local_kind : (k : TokenKind) (u : Token) (us : List Token) → u.kind ≡ k → LocalAt (operand self) (u ∷ us) (by_kind self k u.span us (u ∷ us))
  local_kind (kinds.Word w) u us e = (u ∷ [], refl, λ t r0 r' eq. rw e refl)
  local_kind (kinds.Number n) u us e = (u ∷ [], refl, λ t r0 r' eq. rw e refl)
  local_kind (kinds.Key k) u us e = local_started (operand self) (key_start k) u us (λ t zs same. rw (subst (λ (z : Token). z.kind ≡ kinds.Key k) same e) refl)
  local_kind (kinds.Mark m) u us e = local_started (operand self) (mark_start m) u us (λ t zs same. rw (subst (λ (z : Token). z.kind ≡ kinds.Mark m) same e) refl)

  local_operand : Local (operand self)
  local_operand [] = ([], refl, λ t r0 r' eq. cc)
  local_operand (u ∷ us) = local_kind u.kind u us refl

  local_joined : (b : Bool) (k : ℕ) (left : Expression) → Local (joined self b k left)
  local_joined true k left = l (More k left)
  local_joined false k left = local_got left

  local_placed : (k : ℕ) (left : Expression) (u : Token) (us : List Token) (o : Option BinaryOp) → ranked k (operator_of u.kind) ≡ o → LocalAt (more self k left) (u ∷ us) (after self k left (u ∷ us) (placed u.span us o))
  local_placed k left u us None e = ([], refl, λ t r0 r' eq. let same : u ≡ t = cc in rw (subst (λ (z : Token). ranked k (operator_of z.kind) ≡ None) same e) refl)
  local_placed k left u us (Some op) e =
      local_token (more self k left) (λ z. self (Full (ranks op).right) z >>= λ b. joined self (repeats op) k (Expression.binary op left b u.span)) u us _ (λ zs. rw e refl)
      (local_bind (self (Full (ranks op).right)) (λ b. joined self (repeats op) k (Expression.binary op left b u.span)) (l (Full (ranks op).right)) (λ b. local_joined (repeats op) k (Expression.binary op left b u.span)) us)

  pub local_more : (k : ℕ) (left : Expression) → Local (more self k left)
  local_more k left [] = ([], refl, λ t r0 r' eq. cc)
  local_more k left (u ∷ us) = local_placed k left u us (ranked k (operator_of u.kind)) refl

  local_full : (k : ℕ) → Local (full self k)
  local_full zero = local_operand
  local_full (suc k) = local_bind (full self k) (more self (suc k)) (local_full k) (λ a. local_more (suc k) a)

  local_quantified : (u : Token) (us : List Token) (o : Option Bool) → quantifier_of u.kind ≡ o → LocalAt (whole self) (u ∷ us) (quantified self (u ∷ us) (placed u.span us o))
  local_quantified u us None e = go (full self 8 (u ∷ us)) (local_full 8 (u ∷ us))
    where
      same_whole : (t : Token) (zs : List Token) → u ≡ t → whole self (t ∷ zs) ≡ full self 8 (t ∷ zs)
      same_whole t zs same = rw (subst (λ (z : Token). quantifier_of z.kind ≡ None) same e) refl

      moved : (put : List Token → Read Expression) (r : List Token) → Moves (full self 8) put (u ∷ us) r → Moves (whole self) put (u ∷ us) r
      moved put r ([], h, move) = ([], h, λ t r0 r' eq. same_whole t r' (let both : u ∷ us ≡ t ∷ r0 = h ∙ eq in cc) ∙ move t r0 r' eq)
      moved put r (v ∷ text, h, move) = (v ∷ text, h, λ t r0 r' eq. same_whole v (text ++ (t ∷ r')) (let both : u ∷ us ≡ v ∷ (text ++ r) = h in cc) ∙ move t r0 r' eq)

      go : (res : Read Expression) → LocalAt (full self 8) (u ∷ us) res → LocalAt (whole self) (u ∷ us) res
      go (Got x r) h = moved (λ z. Got x z) r h
      go (Bad r) h = moved (λ z. Bad z) r h
      go Out h = tt
  local_quantified u us (Some up) e = local_token (whole self) (bound self up u.span) u us _ (λ zs. rw e refl) (local_mapped (bound_tree up u.span) (bound_parts self) local_bound_parts us)

  local_whole : Local (whole self)
  local_whole [] = go (full self 8 []) (local_full 8 [])
    where
      go : (res : Read Expression) → LocalAt (full self 8) [] res → LocalAt (whole self) [] res
      go (Got x r) ([], h, move) = ([], h, λ t r0 r' eq. let both : [] ≡ t ∷ r0 = h ∙ eq in cc)
      go (Got x r) (v ∷ text, h, move) = cc
      go (Bad r) ([], h, move) = ([], h, λ t r0 r' eq. let both : [] ≡ t ∷ r0 = h ∙ eq in cc)
      go (Bad r) (v ∷ text, h, move) = cc
      go Out h = tt
  local_whole (u ∷ us) = local_quantified u us (quantifier_of u.kind) refl

  local_step : AllLocal (step self)
  local_step Whole = local_whole
  local_step (Full k) = local_full k
  local_step (More k left) = local_more k left

pub local_reading : (n : ℕ) → AllLocal (reading n)
local_reading zero q = λ ts. tt
local_reading (suc n) q = local_step (reading n) (local_reading n) q
