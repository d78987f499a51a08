-- The lines of a text that were read, and the first invalid line.
use Rattle.std.proofs.Common.{◌≡◌, ◌≢◌, ℕ, ◌+◌, ◌<◌, ◌≤◌, ◌^◌, ◌==◌, true, not, List, [], ◌∷◌, ◌++◌, Option, Some, None, length, map, decimal, codes, refl, sym, ap, ◌∙◌, subst, arith, append_assoc, length-append}
use Rattle.std.proofs.lemmas.List.{append-nil, map-append, length-map}
use Rattle.std.specs.Fmt.{signed_decimal}
use Rattle.std.specs.List.{All, AllByRecursion, list_all}
use Rattle.goal_answers.specs.Trees.{Tree}
use Rattle.heylo_formula.specs.declared.goals.GoalId.{GoalId}
use Rattle.heylo_formula.specs.declared.goals.GoalId.TheVariants as ids
use Rattle.heylo_formula.specs.GoalOrder.{loop_of}
use Rattle.cert_text.specs.declared.versions.Version.TheVariants as versions
use Rattle.cert_text.specs.Certificates.{Certificate, HasNumbers, IsWritable, AreWritable}
use Rattle.cert_text.specs.Lines.{Line, title, goal, split, whole, farkas, plain, last, line_text, id_text, multipliers_text}
use Rattle.cert_text.specs.internal.WholeLines.{IsLine}
use Rattle.cert_text.specs.Texts.{tree_lines, goals_lines, certificate_lines, closed, Spells, AreFirstLines, IsFirstFault}
use Rattle.cert_text.specs.Texts.AreFirstLines.{of_text, before_end}
use Rattle.cert_text.specs.internal.ReadStates.{State, start, done, next, run, IsRising}
use Rattle.cert_text.specs.internal.Words.{IsFreeOf}
use Rattle.cert_text.proofs.TextCuts.{IsFreeOf-append, IsFreeOf-decimal, IsFreeOf-signed, line_feed_is_no_digit, multiplier_free, cut_once, free_from_all}
use Rattle.cert_text.proofs.Multipliers.{rising_from_multipliers}
use Rattle.cert_text.proofs.Walk.{run-append, run-certificate_lines, run-front_lines, AreBegun, first_lines, no_state, end_of, whole_list}

free_by_test : (bs : List ℕ) → list_all (λ b. not (b == 10)) bs ≡ true → IsFreeOf 10 bs
free_by_test [] e = tt
free_by_test (b ∷ bs) e = (grind arith, free_by_test bs (grind arith))

free_id : (i : GoalId) → loop_of i < 2 ^ 32 → IsFreeOf 10 (id_text i)
free_id ids.Main l = free_by_test (codes "main") refl
free_id ids.Pre l = free_by_test (codes "pre") refl
free_id ids.Post l = free_by_test (codes "post") refl
free_id (ids.Invariant n) l = IsFreeOf-append 10 (codes "invariant ") (decimal n) (free_by_test (codes "invariant ") refl) (IsFreeOf-decimal 10 n line_feed_is_no_digit (omega arith))
free_id (ids.Ranking n) l = IsFreeOf-append 10 (codes "ranking ") (decimal n) (free_by_test (codes "ranking ") refl) (IsFreeOf-decimal 10 n line_feed_is_no_digit (omega arith))

free_multipliers : (least : ℕ) (ms : List (ℕ × ℕ)) → IsRising least ms → IsFreeOf 10 (multipliers_text ms)
free_multipliers least [] r = tt
free_multipliers least (m ∷ ms) r =
    let text : List ℕ = decimal m.0 ++ 58 ∷ decimal m.1 in
    ((λ h. omega arith), IsFreeOf-append 10 text (multipliers_text ms) (multiplier_free 10 m line_feed_is_no_digit (λ h. omega arith) r.1) (free_multipliers (m.0 + 1) ms r.2))

pub line_free : (l : Line) → IsLine l → IsFreeOf 10 (line_text l)
line_free (title versions.One) k = free_by_test (codes "caesar certificate 1") refl
line_free (title versions.Two) k = free_by_test (codes "caesar certificate 2") refl
line_free (goal n) k =
    let small : n.proc < 2 ^ 64 = omega (arith, k.proc) in
    IsFreeOf-append 10 (codes "goal ") (decimal n.proc ++ 32 ∷ id_text n.id) (free_by_test (codes "goal ") refl)
    (IsFreeOf-append 10 (decimal n.proc) (32 ∷ id_text n.id) (IsFreeOf-decimal 10 n.proc line_feed_is_no_digit small) ((λ h. omega arith), free_id n.id k.loop))
line_free split k = free_by_test (codes "s") refl
line_free (whole x m) k =
    let small : x < 2 ^ 64 = omega (arith, k.variable) in
    IsFreeOf-append 10 (codes "i ") (decimal x ++ 32 ∷ signed_decimal m) (free_by_test (codes "i ") refl)
    (IsFreeOf-append 10 (decimal x) (32 ∷ signed_decimal m) (IsFreeOf-decimal 10 x line_feed_is_no_digit small) ((λ h. omega arith), IsFreeOf-signed 10 m line_feed_is_no_digit (λ h. omega arith) k.number))
line_free (farkas ms) k = ((λ h. omega arith), free_multipliers 0 ms (rising_from_multipliers ms k))
line_free plain k = free_by_test (codes "t") refl
line_free last k = free_by_test (codes "end") refl

lines-append : (ks ls : List Line) → AllByRecursion IsLine ks → AllByRecursion IsLine ls → AllByRecursion IsLine (ks ++ ls)
lines-append [] ls a b = b
lines-append (k ∷ ks) ls a b = (a.0, lines-append ks ls a.1 b)

tree_lines_are : (t : Tree) → HasNumbers t → AllByRecursion IsLine (tree_lines t)
tree_lines_are (Tree.split t u) h = (tt, lines-append (tree_lines t) (tree_lines u) (tree_lines_are t h.0) (tree_lines_are u h.1))
tree_lines_are (Tree.farkas ms) h = (h, tt)
tree_lines_are Tree.plain h = (tt, tt)
tree_lines_are (Tree.whole x m t u) h = (h.0, lines-append (tree_lines t) (tree_lines u) (tree_lines_are t h.1) (tree_lines_are u h.2))

goals_lines_are : (cs : List Certificate) → AllByRecursion IsWritable cs → AllByRecursion IsLine (goals_lines cs)
goals_lines_are [] h = tt
goals_lines_are (c ∷ cs) h = (h.0.name, lines-append (tree_lines c.tree) (goals_lines cs) (tree_lines_are c.tree h.0.numbers) (goals_lines_are cs h.1))

pub certificate_lines_are : (cs : List Certificate) → AreWritable cs → AllByRecursion IsLine (certificate_lines cs)
certificate_lines_are cs w = (tt, lines-append (goals_lines cs) (last ∷ []) (goals_lines_are cs w.each) (tt, tt))

pub front_lines_are : (cs : List Certificate) → AreWritable cs → AllByRecursion IsLine (title versions.Two ∷ goals_lines cs)
front_lines_are cs w = (tt, goals_lines_are cs w.each)

-- The lines `ks` of the text begin with those read.
pub record GoesOn (ks lines : List Line) (more : List (List ℕ)) : Type 0 where
  pub others : List Line
  pub all : ks ≡ lines ++ others
  pub valid : AllByRecursion IsLine others
  pub texts : map line_text others ≡ more

-- The lines of a text that were read up to `rest`, and the state `s` that they lead to.
pub record IsProgress (bytes rest : List ℕ) (number : ℕ) (s : State) : Type 0 where
  pub lines : List Line
  pub valid : AllByRecursion IsLine lines
  pub parts : bytes ≡ closed (map line_text lines) ++ rest
  pub count : number ≡ length lines + 1
  pub reached : run lines (Some start) ≡ Some s
  pub only : (ks : List Line) (more : List (List ℕ)) → AllByRecursion IsLine ks → map line_text ks ≡ map line_text lines ++ more → GoesOn ks lines more

closed-append : (xs ys : List (List ℕ)) → closed (xs ++ ys) ≡ closed xs ++ closed ys
closed-append [] ys = refl
closed-append (x ∷ xs) ys = ap (λ (bs : List ℕ). x ++ 10 ∷ bs) (closed-append xs ys) ∙ sym (append_assoc x (10 ∷ closed xs) (closed ys))

pub progress_start : (bytes : List ℕ) → IsProgress bytes bytes 1 start
progress_start bytes = record {
  lines = [];
  valid = tt;
  parts = refl;
  count = refl;
  reached = refl;
  only = λ ks more k e. record { others = ks; all = refl; valid = k; texts = e };
}

goes_on_more : (ks lines : List Line) (l : Line) (word : List ℕ) (more : List (List ℕ)) → word ≡ line_text l → ((k : Line) → IsLine k → word ≡ line_text k → k ≡ l)
    → (others : List Line) → ks ≡ lines ++ others → AllByRecursion IsLine others → map line_text others ≡ line_text l ∷ more → GoesOn ks (lines ++ l ∷ []) more
goes_on_more ks lines l word more w same [] all k e = absurd (cc)
goes_on_more ks lines l word more w same (o ∷ os) all k e =
    let t : line_text o ≡ line_text l = cc in
    let m : map line_text os ≡ more = cc in
    let P : Line → Type 0 = λ x. ks ≡ lines ++ x ∷ os in
    record { others = os; all = subst P (same o k.0 (w ∙ sym t)) all ∙ sym (append_assoc lines (l ∷ []) os); valid = k.1; texts = m }

pub progress_more : (bytes rest word behind : List ℕ) (number : ℕ) (s s' : State) (l : Line) → IsProgress bytes rest number s → rest ≡ word ++ 10 ∷ behind
    → IsLine l → word ≡ line_text l → next s l ≡ Some s' → ((k : Line) → IsLine k → word ≡ line_text k → k ≡ l) → IsProgress bytes behind (number + 1) s'
progress_more bytes rest word behind number s s' l p e k w n same =
    let one : List Line = l ∷ [] in
    let count : number ≡ length p.lines + 1 = p.count in
    let longer = length-append p.lines one in
    record {
      lines = p.lines ++ one;
      valid = lines-append p.lines one p.valid (k, tt);
      parts =
          p.parts ∙ ap (λ (bs : List ℕ). closed (map line_text p.lines) ++ bs) (e ∙ ap (λ (bs : List ℕ). bs ++ 10 ∷ behind) w)
          ∙ ap (λ (bs : List ℕ). closed (map line_text p.lines) ++ bs) (sym (append_assoc (line_text l) (10 ∷ []) behind))
          ∙ sym (append_assoc (closed (map line_text p.lines)) (line_text l ++ 10 ∷ []) behind)
          ∙ ap (λ (bs : List ℕ). bs ++ behind) (sym (closed-append (map line_text p.lines) (line_text l ∷ [])) ∙ ap closed (sym (map-append line_text p.lines one)));
      count = omega arith;
      reached = run-append p.lines one (Some start) ∙ ap (λ (o : Option State). run one o) p.reached ∙ n;
      only = λ ks more valid texts.
          let f = texts ∙ ap (λ (xs : List (List ℕ)). xs ++ more) (map-append line_text p.lines one) ∙ append_assoc (map line_text p.lines) (line_text l ∷ []) more in
          let g = p.only ks (line_text l ∷ more) valid f in
          goes_on_more ks p.lines l word more w same g.others g.all g.valid g.texts;
    }

-- The text of the lines `ks` begins with that of the lines `xs`.
record IsFrontOf (xs ks : List Line) (rest : List ℕ) : Type 0 where
  more : List Line
  valid : AllByRecursion IsLine more
  texts : map line_text xs ≡ map line_text ks ++ map line_text more
  text : rest ≡ closed (map line_text more)

front_of : (ks xs : List Line) (rest : List ℕ) → AllByRecursion IsLine ks → AllByRecursion IsLine xs → closed (map line_text xs) ≡ closed (map line_text ks) ++ rest → IsFrontOf xs ks rest
front_of [] xs rest k x e = record { more = xs; valid = x; texts = refl; text = sym e }
front_of (l ∷ ks) [] rest k x e =
    let f = ap (λ (bs : List ℕ). length bs) (e ∙ append_assoc (line_text l) (10 ∷ closed (map line_text ks)) rest) in
    let g = length-append (line_text l) (10 ∷ (closed (map line_text ks) ++ rest)) in
    absurd (omega arith)
front_of (l ∷ ks) (y ∷ xs) rest k x e =
    let f : line_text y ++ 10 ∷ closed (map line_text xs) ≡ line_text l ++ 10 ∷ (closed (map line_text ks) ++ rest) = e ∙ append_assoc (line_text l) (10 ∷ closed (map line_text ks)) rest in
    let c = cut_once 10 (line_text y) (10 ∷ closed (map line_text xs)) (line_text l) (10 ∷ (closed (map line_text ks) ++ rest)) (line_free y x.0) (line_free l k.0) refl refl f in
    let b : 10 ∷ closed (map line_text xs) ≡ 10 ∷ (closed (map line_text ks) ++ rest) = c.1 in
    let d : closed (map line_text xs) ≡ closed (map line_text ks) ++ rest = cc in
    let r = front_of ks xs rest k.1 x.1 d in
    record { more = r.more; valid = r.valid; texts = ap (λ (t : List ℕ). t ∷ map line_text xs) c.0 ∙ ap (λ (ts : List (List ℕ)). line_text l ∷ ts) r.texts; text = r.text }

-- The text of the list `cs` begins with the lines read.
record IsSpelledOn (cs : List Certificate) (lines : List Line) (rest : List ℕ) : Type 0 where
  others : List Line
  valid : AllByRecursion IsLine others
  all : certificate_lines cs ≡ lines ++ others
  text : rest ≡ closed (map line_text others)

spelled_on : (bytes rest : List ℕ) (number : ℕ) (s : State) (p : IsProgress bytes rest number s) (cs : List Certificate) → Spells cs bytes → IsSpelledOn cs p.lines rest
spelled_on bytes rest number s p cs sp =
    let f = front_of p.lines (certificate_lines cs) rest p.valid (certificate_lines_are cs sp.writable) (sym sp.text ∙ p.parts) in
    let g = p.only (certificate_lines cs) (map line_text f.more) (certificate_lines_are cs sp.writable) f.texts in
    record { others = g.others; valid = g.valid; all = g.all; text = f.text ∙ ap closed (sym g.texts) }

no_feed : (bs before behind : List ℕ) → IsFreeOf 10 bs → bs ≡ before ++ 10 ∷ behind → ⊥
no_feed [] [] behind f e = absurd (cc)
no_feed [] (c ∷ before) behind f e = absurd (cc)
no_feed (b ∷ bs) [] behind f e = let h : b ≡ 10 = cc in f.0 h
no_feed (b ∷ bs) (c ∷ before) behind f e = let h : bs ≡ before ++ 10 ∷ behind = cc in no_feed bs before behind f.1 h

allowed_so_far : (bytes rest : List ℕ) (number : ℕ) (s : State) (p : IsProgress bytes rest number s) → AreFirstLines (map line_text p.lines)
allowed_so_far bytes rest number s p = texts_begun p.lines (first_lines p.lines s p.valid p.reached)
  where
    texts_begun : (ls : List Line) → AreBegun ls → AreFirstLines (map line_text ls)
    texts_begun ls (AreBegun.of_list cs more w e) = of_text cs (map line_text more) w (ap (λ (ks : List Line). map line_text ks) e ∙ map-append line_text ls more)
    texts_begun ls (AreBegun.of_front cs more w e) = before_end cs (map line_text more) w (ap (λ (ks : List Line). map line_text ks) e ∙ map-append line_text ls more)

next_refused : (lines : List Line) (s : State) (word : List ℕ) (ks : List Line) (z : State) → run lines (Some start) ≡ Some s → run ks (Some start) ≡ Some z
    → ((l : Line) → IsLine l → word ≡ line_text l → next s l ≡ None)
    → (others : List Line) (more : List (List ℕ)) → AllByRecursion IsLine others → ks ≡ lines ++ others → map line_text others ≡ word ∷ more → ⊥
next_refused lines s word ks z e r none [] more k all t = absurd (cc)
next_refused lines s word ks z e r none (o ∷ os) more k all t =
    let f : word ≡ line_text o = cc in
    no_state lines s o os ks z e (none o k.0 f) r all

-- No text of valid lines has the invalid line in this place.
none_of : (bytes rest word : List ℕ) (number : ℕ) (s : State) (p : IsProgress bytes rest number s) (ks : List Line) (z : State) (others : List (List ℕ)) → AllByRecursion IsLine ks
    → run ks (Some start) ≡ Some z → ((l : Line) → IsLine l → word ≡ line_text l → next s l ≡ None) → map line_text ks ≡ (map line_text p.lines ++ word ∷ []) ++ others → ⊥
none_of bytes rest word number s p ks z others valid r none e =
    let g = p.only ks (word ∷ others) valid (e ∙ append_assoc (map line_text p.lines) (word ∷ []) others) in
    next_refused p.lines s word ks z p.reached r none g.others others g.valid g.all g.texts

stops_here : (bytes rest word behind : List ℕ) (number : ℕ) (s : State) (p : IsProgress bytes rest number s) → rest ≡ word ++ 10 ∷ behind → IsFreeOf 10 word
    → ((l : Line) → IsLine l → word ≡ line_text l → next s l ≡ None) → AreFirstLines (map line_text p.lines ++ word ∷ []) → ⊥
stops_here bytes rest word behind number s p e free none (of_text cs others w f) = none_of bytes rest word number s p (certificate_lines cs) _ others (certificate_lines_are cs w) (run-certificate_lines cs w) none f
stops_here bytes rest word behind number s p e free none (before_end cs others w f) =
    none_of bytes rest word number s p (title versions.Two ∷ goals_lines cs) _ others (front_lines_are cs w) (run-front_lines cs w) none f

-- A text has only one first line and one rest.
same_word : (rest word behind next' behind' : List ℕ) → rest ≡ word ++ 10 ∷ behind → IsFreeOf 10 word → rest ≡ next' ++ 10 ∷ behind' → IsFreeOf 10 next' → next' ≡ word
same_word rest word behind next' behind' e f g h = (cut_once 10 next' (10 ∷ behind') word (10 ∷ behind) h f refl refl (sym g ∙ e)).0

texts_free : (ls : List Line) (xs ys : List (List ℕ)) → AllByRecursion IsLine ls → map line_text ls ≡ xs ++ ys → AllByRecursion (IsFreeOf 10) xs
texts_free ls [] ys k e = tt
texts_free [] (x ∷ xs) ys k e = absurd (cc)
texts_free (l ∷ ls) (x ∷ xs) ys k e =
    let f : line_text l ≡ x = cc in
    let g : map line_text ls ≡ xs ++ ys = cc in
    let P : List ℕ → Type 0 = IsFreeOf 10 in
    (subst P f (line_free l k.0), texts_free ls xs ys k.1 g)

free_last : (xs : List (List ℕ)) (x : List ℕ) → AllByRecursion (IsFreeOf 10) (xs ++ x ∷ []) → IsFreeOf 10 x
free_last [] x a = a.0
free_last (y ∷ xs) x a = free_last xs x a.1

first_lines_free : (xs : List (List ℕ)) → AreFirstLines xs → AllByRecursion (IsFreeOf 10) xs
first_lines_free xs (of_text cs others w e) = texts_free (certificate_lines cs) xs others (certificate_lines_are cs w) e
first_lines_free xs (before_end cs others w e) = texts_free (title versions.Two ∷ goals_lines cs) xs others (front_lines_are cs w) e

spelled_past : (lines : List Line) (s : State) (rest word behind : List ℕ) (cs : List Certificate) → run lines (Some start) ≡ Some s → AreWritable cs
    → rest ≡ word ++ 10 ∷ behind → IsFreeOf 10 word → ((l : Line) → IsLine l → word ≡ line_text l → next s l ≡ None)
    → (others : List Line) → AllByRecursion IsLine others → certificate_lines cs ≡ lines ++ others → rest ≡ closed (map line_text others) → ⊥
spelled_past lines s rest word behind cs r w e free none [] k all t =
    let f = ap (λ (bs : List ℕ). length bs) (sym t ∙ e) in
    let g = length-append word (10 ∷ behind) in
    absurd (omega arith)
spelled_past lines s rest word behind cs r w e free none (o ∷ os) k all t =
    let f = same_word rest word behind (line_text o) (closed (map line_text os)) e free t (line_free o k.0) in
    no_state lines s o os (certificate_lines cs) (done cs) r (none o k.0 (sym f)) (run-certificate_lines cs w) all

pub fault_here : (bytes rest word behind : List ℕ) (number : ℕ) (s : State) → IsProgress bytes rest number s → rest ≡ word ++ 10 ∷ behind → All (λ b. b ≢ 10) word
    → ((l : Line) → IsLine l → word ≡ line_text l → next s l ≡ None) → IsFirstFault bytes number
fault_here bytes rest word behind number s p e free none =
    let free' = free_from_all 10 word free in
    record {
      before = map line_text p.lines;
      rest = rest;
      parts = p.parts;
      place = p.count ∙ ap (λ (n : ℕ). n + 1) (sym (length-map p.lines line_text));
      allowed = allowed_so_far bytes rest number s p;
      refused = λ next' behind' f a.
          let same = same_word rest word behind next' behind' e free' f (free_last (map line_text p.lines) next' (first_lines_free (map line_text p.lines ++ next' ∷ []) a)) in
          let P : List ℕ → Type 0 = λ t. AreFirstLines (map line_text p.lines ++ t ∷ []) in
          stops_here bytes rest word behind number s p e free' none (subst P same a);
      unfinished = λ cs sp.
          let o = spelled_on bytes rest number s p cs sp in
          spelled_past p.lines s rest word behind cs p.reached sp.writable e free' none o.others o.valid o.all o.text;
    }

ends_whole : (lines : List Line) (s : State) (rest : List ℕ) (cs : List Certificate) → run lines (Some start) ≡ Some s → AreWritable cs → IsFreeOf 10 rest
    → (others : List Line) → AllByRecursion IsLine others → certificate_lines cs ≡ lines ++ others → rest ≡ closed (map line_text others) → (s ≡ done cs) × (rest ≡ [])
ends_whole lines s rest cs r w free [] k all t = (end_of lines s cs r w (all ∙ append-nil lines), t)
ends_whole lines s rest cs r w free (o ∷ os) k all t = absurd (no_feed rest (line_text o) (closed (map line_text os)) free t)

pub fault_at_end : (bytes rest : List ℕ) (number : ℕ) (s : State) → IsProgress bytes rest number s → All (λ b. b ≢ 10) rest
    → ((cs : List Certificate) → s ≡ done cs → rest ≡ [] → ⊥) → IsFirstFault bytes number
fault_at_end bytes rest number s p free none =
    let free' = free_from_all 10 rest free in
    record {
      before = map line_text p.lines;
      rest = rest;
      parts = p.parts;
      place = p.count ∙ ap (λ (n : ℕ). n + 1) (sym (length-map p.lines line_text));
      allowed = allowed_so_far bytes rest number s p;
      refused = λ next' behind' f a. no_feed rest next' behind' free' f;
      unfinished = λ cs sp.
          let o = spelled_on bytes rest number s p cs sp in
          let w = ends_whole p.lines s rest cs p.reached sp.writable free' o.others o.valid o.all o.text in
          none cs w.0 w.1;
    }

pub spelled_whole : (bytes rest : List ℕ) (number : ℕ) (s : State) (cs : List Certificate) → IsProgress bytes rest number s → s ≡ done cs → rest ≡ [] → Spells cs bytes
spelled_whole bytes rest number s cs p e f =
    let w = whole_list p.lines cs p.valid (p.reached ∙ ap (λ (t : State). Some t) e) in
    record {
      writable = w.0;
      text = p.parts ∙ ap (λ (bs : List ℕ). closed (map line_text p.lines) ++ bs) f ∙ append-nil (closed (map line_text p.lines)) ∙ ap (λ (ls : List Line). closed (map line_text ls)) (sym w.1);
    }

pub spelled_only : (bytes rest : List ℕ) (number : ℕ) (s : State) (cs ds : List Certificate) → IsProgress bytes rest number s → s ≡ done cs → rest ≡ [] → Spells ds bytes → cs ≡ ds
spelled_only bytes rest number s cs ds p e f sp =
    let o = spelled_on bytes rest number s p ds sp in
    let P : List ℕ → Type 0 = IsFreeOf 10 in
    let w = ends_whole p.lines s rest ds p.reached sp.writable (subst P (sym f) tt) o.others o.valid o.all o.text in
    let d : done cs ≡ done ds = sym e ∙ w.0 in cc

first_lines_front : (xs ys : List (List ℕ)) → AreFirstLines (xs ++ ys) → AreFirstLines xs
first_lines_front xs ys (of_text cs others w e) = of_text cs (ys ++ others) w (e ∙ append_assoc xs ys others)
first_lines_front xs ys (before_end cs others w e) = before_end cs (ys ++ others) w (e ∙ append_assoc xs ys others)

not_longer : (front xs ys : List (List ℕ)) (r t : List ℕ) → AllByRecursion (IsFreeOf 10) xs → AllByRecursion (IsFreeOf 10) ys → closed xs ++ r ≡ closed ys ++ t
    → ((next' behind : List ℕ) → r ≡ next' ++ 10 ∷ behind → AreFirstLines ((front ++ xs) ++ next' ∷ []) → ⊥) → AreFirstLines (front ++ ys) → length ys ≤ length xs
not_longer front xs [] r t f g e refused a = omega arith
not_longer front [] (y ∷ ys) r t f g e refused a =
    let P : List (List ℕ) → Type 0 = λ zs. AreFirstLines (zs ++ y ∷ []) in
    let Q : List (List ℕ) → Type 0 = AreFirstLines in
    let b = first_lines_front (front ++ y ∷ []) ys (subst Q (sym (append_assoc front (y ∷ []) ys)) a) in
    absurd (refused y (closed ys ++ t) (e ∙ append_assoc y (10 ∷ closed ys) t) (subst P (sym (append-nil front)) b))
not_longer front (x ∷ xs) (y ∷ ys) r t f g e refused a =
    let h : x ++ 10 ∷ (closed xs ++ r) ≡ y ++ 10 ∷ (closed ys ++ t) = sym (append_assoc x (10 ∷ closed xs) r) ∙ e ∙ append_assoc y (10 ∷ closed ys) t in
    let c = cut_once 10 x (10 ∷ (closed xs ++ r)) y (10 ∷ (closed ys ++ t)) f.0 g.0 refl refl h in
    let b : 10 ∷ (closed xs ++ r) ≡ 10 ∷ (closed ys ++ t) = c.1 in
    let d : closed xs ++ r ≡ closed ys ++ t = cc in
    let P : List (List ℕ) → Type 0 = AreFirstLines in
    let Q : List (List ℕ) → Type 0 = λ zs. AreFirstLines (zs ++ ys) in
    let R : List ℕ → Type 0 = λ z. AreFirstLines ((front ++ z ∷ []) ++ ys) in
    let k = not_longer (front ++ x ∷ []) xs ys r t f.1 g.1 d
    (λ next' behind i j. let S : List (List ℕ) → Type 0 = λ zs. AreFirstLines (zs ++ next' ∷ []) in refused next' behind i (subst S (append_assoc front (x ∷ []) xs) j))
    (subst R (sym c.0) (subst P (sym (append_assoc front (y ∷ []) ys)) a)) in
    omega arith

pub fault_once : (bytes : List ℕ) (m n : ℕ) → IsFirstFault bytes m → IsFirstFault bytes n → m ≡ n
fault_once bytes m n a b =
    let f = first_lines_free a.before a.allowed in
    let g = first_lines_free b.before b.allowed in
    let k = not_longer [] a.before b.before a.rest b.rest f g (sym a.parts ∙ b.parts) a.refused b.allowed in
    let l = not_longer [] b.before a.before b.rest a.rest g f (sym b.parts ∙ a.parts) b.refused a.allowed in
    let i = a.place in
    let j = b.place in
    omega arith
