-- Multipliers whose indexes are moved to those of their rows combine them as before.
use Rattle.std.proofs.Common.{◌≡◌, ℕ, ◌+◌, ◌-◌, ◌<◌, ◌≤◌, ◌^◌, List, [], ◌∷◌, ◌++◌, length, get_or, take, drop, refl, sym, ap, ap₂, ◌∙◌, subst, arith, length-append, ltb, Bool, true, false, ◌⊎◌, inl, inr}
use Rattle.std.specs.Prelude.{Some, ℤ, pos, ◌+ℤ◌, ◌*ℤ◌, ◌<ℤ◌, unsigned_abs, ◌||◌, if◌then◌else◌}
use Rattle.std.specs.List.{All}
use Rattle.std.proofs.lemmas.List.{take-map, get_or_push, get_or_append_left, get_or-append_right, drop_more, length-drop}
use Rattle.std.proofs.lemmas.Bool.Decides.{nat_tests}
use Rattle.std.proofs.lemmas.List.Elements.{All-nil, All-cons, All-head, All-tail, All-map, All-weaker, All-take}
use Rattle.std.proofs.Math.Seq.{take-append_seam, drop-append_seam, drop-append-add}
use Prim.Native.Nat.{zero, suc}
use Rattle.heylo_formula.specs.Goals.{Goal}
use Rattle.linear_form.specs.Query.{Taken}
use Rattle.linear_form.specs.PathRows.{rows_of}
use Rattle.linear_rows.specs.Row.{Row}
use Rattle.linear_rows.specs.Terms.{coefficient}
use Rattle.linear_rows.specs.Combination.{row_at, combined, uses_strict, IsWideThroughout, IsContradiction}
use Rattle.goal_answers.specs.Multipliers.{IsGrowing}
use Rattle.linear_form.specs.RowListLaws.{StandAmong, MakesRoom}
use Rattle.farkas_check.specs.AcceptedCertificates.{IsRefutedWith}
use Rattle.region_split.proofs.PathAnswers.{same_rows}
use Rattle.region_split.specs.internal.MovedRows.{ArePlacesSoFar, ArePlaces, IsMove, place_of, moved_all}

-- ---- Combinations

abbrev Within : List Row → List (ℕ × ℕ) → Type 0
Within rows ms = All (λ (m : ℕ × ℕ). m.0 < length rows) ms

combined_moved : (F : Row → ℤ) (rows more : List Row) (at : ℕ → ℕ) (ms : List (ℕ × ℕ)) → IsMove rows more at → Within rows ms → combined F (moved_all at ms) more ≡ combined F ms rows
unfolding combined
combined_moved F rows more at [] h w = refl
combined_moved F rows more at (m ∷ ms) h w = ap₂ (λ r z. (pos m.1 *ℤ F r) +ℤ z) (h.same m.0 (All-head (λ (m : ℕ × ℕ). m.0 < length rows) m ms w)) (combined_moved F rows more at ms h (All-tail (λ (m : ℕ × ℕ). m.0 < length rows) m ms w))

strict_moved : (rows more : List Row) (at : ℕ → ℕ) (ms : List (ℕ × ℕ)) → IsMove rows more at → Within rows ms → uses_strict (moved_all at ms) more ≡ uses_strict ms rows
unfolding uses_strict
strict_moved rows more at [] h w = refl
strict_moved rows more at (m ∷ ms) h w = ap₂ (λ (r : Row) b. r.strict || b) (h.same m.0 (All-head (λ (m : ℕ × ℕ). m.0 < length rows) m ms w)) (strict_moved rows more at ms h (All-tail (λ (m : ℕ × ℕ). m.0 < length rows) m ms w))

growing_moved : (rows more : List Row) (at : ℕ → ℕ) (ms : List (ℕ × ℕ)) → IsMove rows more at → Within rows ms → IsGrowing ms → IsGrowing (moved_all at ms)
growing_moved rows more at [] h w g = tt
growing_moved rows more at (m ∷ ms) h w g = (All-map (λ (n : ℕ × ℕ). at m.0 < n.0) (λ (n : ℕ × ℕ). (at n.0, n.1)) ms (later ms g.0 (All-tail (λ (m : ℕ × ℕ). m.0 < length rows) m ms w)), growing_moved rows more at ms h (All-tail (λ (m : ℕ × ℕ). m.0 < length rows) m ms w) g.1)
  where
    later : (ns : List (ℕ × ℕ)) → All (λ (n : ℕ × ℕ). m.0 < n.0) ns → Within rows ns → All (λ (n : ℕ × ℕ). at m.0 < at n.0) ns
    later [] a b = All-nil _
    later (n ∷ ns) a b = All-cons (λ (n : ℕ × ℕ). at m.0 < at n.0) n ns (h.grow m.0 n.0 (All-head (λ (n : ℕ × ℕ). m.0 < n.0) n ns a) (All-head (λ (m : ℕ × ℕ). m.0 < length rows) n ns b)) (later ns (All-tail (λ (n : ℕ × ℕ). m.0 < n.0) n ns a) (All-tail (λ (m : ℕ × ℕ). m.0 < length rows) n ns b))

within_take : (rows : List Row) (k : ℕ) (ms : List (ℕ × ℕ)) → Within rows ms → Within rows (take k ms)
within_take rows k ms w = All-take (λ (m : ℕ × ℕ). m.0 < length rows) k ms w

wide_moved : (F : Row → ℤ) (rows more : List Row) (at : ℕ → ℕ) (ms : List (ℕ × ℕ)) → IsMove rows more at → Within rows ms → IsWideThroughout F ms rows → IsWideThroughout F (moved_all at ms) more
wide_moved F rows more at ms h w g = record { wide = λ k. subst (λ z. unsigned_abs z < 2 ^ 126) (sym (ap (λ ns. combined F ns more) (take-map (λ (m : ℕ × ℕ). (at m.0, m.1)) k ms) ∙ combined_moved F rows more at (take k ms) h (within_take rows k ms w))) (g.wide k) }

pub contradiction_moved : (rows more : List Row) (at : ℕ → ℕ) (ms : List (ℕ × ℕ)) → IsMove rows more at → IsContradiction ms rows → IsContradiction (moved_all at ms) more
contradiction_moved rows more at ms h c = record {
  growing = growing_moved rows more at ms h c.within c.growing;
  within = All-map (λ (m : ℕ × ℕ). m.0 < length more) (λ (m : ℕ × ℕ). (at m.0, m.1)) ms (All-weaker (λ (m : ℕ × ℕ). m.0 < length rows) (λ (m : ℕ × ℕ). at m.0 < length more) (λ m l. h.within m.0 l) ms c.within);
  positive = All-map (λ (m : ℕ × ℕ). 0 < m.1) (λ (m : ℕ × ℕ). (at m.0, m.1)) ms c.positive;
  narrow = All-map (λ (m : ℕ × ℕ). m.1 < 2 ^ 62) (λ (m : ℕ × ℕ). (at m.0, m.1)) ms c.narrow;
  coefficients_wide = λ x. wide_moved (λ r. coefficient x r.terms) rows more at ms h c.within (c.coefficients_wide x);
  constants_wide = wide_moved (λ r. r.rest) rows more at ms h c.within c.constants_wide;
  no_variable = λ x. combined_moved (λ r. coefficient x r.terms) rows more at ms h c.within ∙ c.no_variable x;
  false_constant = unmet c.false_constant;
}
  where
    same : combined (λ r. r.rest) (moved_all at ms) more ≡ combined (λ r. r.rest) ms rows
    same = combined_moved (λ r. r.rest) rows more at ms h c.within

    unmet : (pos 0 <ℤ combined (λ r. r.rest) ms rows) ⊎ ((combined (λ r. r.rest) ms rows ≡ pos 0) × (uses_strict ms rows ≡ true)) → (pos 0 <ℤ combined (λ r. r.rest) (moved_all at ms) more) ⊎ ((combined (λ r. r.rest) (moved_all at ms) more ≡ pos 0) × (uses_strict (moved_all at ms) more ≡ true))
    unmet (inl p) = inl (subst (λ z. pos 0 <ℤ z) (sym same) p)
    unmet (inr (e, s)) = inr (same ∙ e, strict_moved rows more at ms h c.within ∙ s)

-- ---- Subsequences of rows

record FirstStands (r : Row) (rs ss : List Row) : Type 0 where
  first : Row
  others : List Row
  whole : ss ≡ first ∷ others
  when_same : r ≡ first → StandAmong rs others
  when_other : (r ≡ first → ⊥) → StandAmong (r ∷ rs) others

fewer_stand : (r : Row) (rs ss : List Row) (all : List Row) → all ≡ r ∷ rs → StandAmong all ss → StandAmong rs ss
fewer_stand r rs _ _ e StandAmong.none = absurd (cc)
fewer_stand r rs _ _ e (StandAmong.here q qs ss a) = let k : qs ≡ rs = cc in StandAmong.past q rs ss (subst (λ z. StandAmong z ss) k a)
fewer_stand r rs _ _ e (StandAmong.past s qs ss a) = StandAmong.past s rs ss (fewer_stand r rs ss qs e a)

first_stands : (r : Row) (rs ss all : List Row) → all ≡ r ∷ rs → StandAmong all ss → FirstStands r rs ss
first_stands r rs _ _ e StandAmong.none = absurd (cc)
first_stands r rs _ _ e (StandAmong.here q qs ss a) = let k : qs ≡ rs = cc in let m : q ≡ r = cc in record { first = q; others = ss; whole = refl; when_same = λ _. subst (λ z. StandAmong z ss) k a; when_other = λ n. absurd (n (sym m)) }
first_stands r rs _ _ e (StandAmong.past s qs ss a) = record { first = s; others = ss; whole = refl; when_same = λ _. fewer_stand r rs ss qs e a; when_other = λ _. subst (λ z. StandAmong z ss) e a }

within_drop : {A : Type 0} (n : ℕ) (xs : List A) (x : A) (ys : List A) → drop n xs ≡ x ∷ ys → n < length xs
within_drop n xs x ys e = let l = length-drop n xs in let k : length (drop n xs) ≡ length (x ∷ ys) = ap length e in omega (arith, l, k)

row_dropped : (n : ℕ) (rows : List Row) (r : Row) (rs : List Row) → drop n rows ≡ r ∷ rs → row_at rows n ≡ r
row_dropped n rows r rs e = let d : Row = record { terms = []; rest = pos 0; strict = false } in let k : get_or rows n d ∷ drop (n + 1) rows ≡ r ∷ rs = sym (drop_more rows n d (within_drop n rows r rs e)) ∙ e in cc

more_dropped : (n : ℕ) (rows : List Row) (r : Row) (rs : List Row) → drop n rows ≡ r ∷ rs → drop (n + 1) rows ≡ rs
more_dropped n rows r rs e = let k : get_or rows n r ∷ drop (n + 1) rows ≡ r ∷ rs = sym (drop_more rows n r (within_drop n rows r rs e)) ∙ e in cc

-- ---- The places, row by row

-- If another row is at the next place, the next row is later.
pub record NextPlace (from : ℕ) (rows more : List Row) (places : List ℕ) (at : ℕ) : Type 0 where
  pub inside : at < length more
  pub when_same : row_at rows (length places) ≡ row_at more at → ArePlacesSoFar from rows more (places ++ (at ∷ [])) (at + 1)
  pub when_other : (row_at rows (length places) ≡ row_at more at → ⊥) → ArePlacesSoFar from rows more places (at + 1)

pushed_length : (ns : List ℕ) (a : ℕ) → length (ns ++ (a ∷ [])) ≡ length ns + 1
pushed_length ns a = length-append ns (a ∷ [])

old_place : (ns : List ℕ) (a k : ℕ) → k < length ns → get_or (ns ++ (a ∷ [])) k 0 ≡ get_or ns k 0
old_place ns a k l = get_or_append_left ns (a ∷ []) 0 k l

new_place : (ns : List ℕ) (a : ℕ) → get_or (ns ++ (a ∷ [])) (length ns) 0 ≡ a
new_place ns a = get_or_push ns a 0 (length ns) refl

last_or : (n k : ℕ) → k < n + 1 → (k < n) ⊎ (k ≡ n)
last_or n k l = go (ltb k n) refl
  where
    go : (b : Bool) → ltb k n ≡ b → (k < n) ⊎ (k ≡ n)
    go true e = inl (grind (arith, nat_tests))
    go false e = inr (let h : n ≤ k = grind (arith, nat_tests) in omega (arith, l, h))

with_place : (from : ℕ) (rows more : List Row) (ns : List ℕ) (at : ℕ) → ArePlacesSoFar from rows more ns at → length ns < length rows → at < length more → row_at rows (length ns) ≡ row_at more at → StandAmong (drop (length ns + 1) rows) (drop (at + 1) more) → ArePlacesSoFar from rows more (ns ++ (at ∷ [])) (at + 1)
with_place from rows more ns at h l w e a = record {
  some = let p = pushed_length ns at in omega (arith, p, l);
  begun = let b = h.begun in omega (arith, b);
  inside = omega (arith, w);
  beyond = λ k i. beyond k (last_or (length ns) k (subst (λ n. k < n) (pushed_length ns at) i));
  below = λ k i. below k (last_or (length ns) k (subst (λ n. k < n) (pushed_length ns at) i));
  same = λ k i. same k (last_or (length ns) k (subst (λ n. k < n) (pushed_length ns at) i));
  grow = λ j k i m. grow j k i (last_or (length ns) k (subst (λ n. k < n) (pushed_length ns at) m));
  others = subst (λ n. StandAmong (drop n rows) (drop (at + 1) more)) (sym (pushed_length ns at)) a;
}
  where
    beyond : (k : ℕ) → (k < length ns) ⊎ (k ≡ length ns) → from ≤ get_or (ns ++ (at ∷ [])) k 0
    beyond k (inl i) = let b = h.beyond k i in let o = old_place ns at k i in omega (arith, b, o)
    beyond k (inr i) = let b = h.begun in let o = ap (λ n. get_or (ns ++ (at ∷ [])) n 0) i ∙ new_place ns at in omega (arith, b, o)

    below : (k : ℕ) → (k < length ns) ⊎ (k ≡ length ns) → get_or (ns ++ (at ∷ [])) k 0 < at + 1
    below k (inl i) = let b = h.below k i in let o = old_place ns at k i in omega (arith, b, o)
    below k (inr i) = let o = ap (λ n. get_or (ns ++ (at ∷ [])) n 0) i ∙ new_place ns at in omega (arith, o)

    same : (k : ℕ) → (k < length ns) ⊎ (k ≡ length ns) → row_at more (get_or (ns ++ (at ∷ [])) k 0) ≡ row_at rows k
    same k (inl i) = ap (row_at more) (old_place ns at k i) ∙ h.same k i
    same k (inr i) = ap (row_at more) (ap (λ n. get_or (ns ++ (at ∷ [])) n 0) i ∙ new_place ns at) ∙ sym e ∙ ap (row_at rows) (sym i)

    grow : (j k : ℕ) → j < k → (k < length ns) ⊎ (k ≡ length ns) → get_or (ns ++ (at ∷ [])) j 0 < get_or (ns ++ (at ∷ [])) k 0
    grow j k i (inl m) = let g = h.grow j k i m in let o = old_place ns at j (omega (arith, i, m)) in let p = old_place ns at k m in omega (arith, g, o, p)
    grow j k i (inr m) = let b = h.below j (omega (arith, i, m)) in let o = old_place ns at j (omega (arith, i, m)) in let p = ap (λ n. get_or (ns ++ (at ∷ [])) n 0) m ∙ new_place ns at in omega (arith, b, o, p)

without_place : (from : ℕ) (rows more : List Row) (ns : List ℕ) (at : ℕ) → ArePlacesSoFar from rows more ns at → at < length more → StandAmong (drop (length ns) rows) (drop (at + 1) more) → ArePlacesSoFar from rows more ns (at + 1)
without_place from rows more ns at h w a = record { some = h.some; begun = let b = h.begun in omega (arith, b); inside = omega (arith, w); beyond = h.beyond; below = λ k i. let b = h.below k i in omega (arith, b); same = h.same; grow = h.grow; others = a }

pub next_place : (from : ℕ) (rows more : List Row) (ns : List ℕ) (at : ℕ) → ArePlacesSoFar from rows more ns at → length ns < length rows → NextPlace from rows more ns at
next_place from rows more ns at h l =
    let r = row_at rows (length ns) in
    let d = drop_more rows (length ns) (record { terms = []; rest = pos 0; strict = false }) l in
    let f = first_stands r (drop (length ns + 1) rows) (drop at more) (drop (length ns) rows) d h.others in
    let w = within_drop at more f.first f.others f.whole in
    let e = row_dropped at more f.first f.others f.whole in
    let m = more_dropped at more f.first f.others f.whole in
    record {
      inside = w;
      when_same = λ s. with_place from rows more ns at h l w s (subst (StandAmong (drop (length ns + 1) rows)) (sym m) (f.when_same (s ∙ e)));
      when_other = λ n. without_place from rows more ns at h w (subst (λ z. StandAmong z (drop (at + 1) more)) (sym d) (subst (StandAmong (r ∷ drop (length ns + 1) rows)) (sym m) (f.when_other (λ k. n (k ∙ sym e)))));
    }

pub all_placed : (from : ℕ) (rows more : List Row) (ns : List ℕ) (at : ℕ) → ArePlacesSoFar from rows more ns at → length rows ≤ length ns → ArePlaces from rows more ns
all_placed from rows more ns at h l =
    let s = h.some in
    let e : length ns ≡ length rows = omega (arith, s, l) in
    record {
      each = e;
      beyond = λ k i. h.beyond k (omega (arith, i, e));
      within = λ k i. let b = h.below k (omega (arith, i, e)) in let w = h.inside in omega (arith, b, w);
      same = λ k i. h.same k (omega (arith, i, e));
      grow = λ j k i m. h.grow j k i (omega (arith, m, e));
    }

-- ---- The start

pub places_start : (from : ℕ) (rows more : List Row) (ns : List ℕ) → ns ≡ [] → from ≤ length more → StandAmong rows (drop from more) → ArePlacesSoFar from rows more ns from
places_start from rows more ns e l a = subst (λ ms. ArePlacesSoFar from rows more ms from) (sym e) (record {
  some = omega arith;
  begun = omega arith;
  inside = l;
  beyond = λ k i. absurd (omega (arith, i));
  below = λ k i. absurd (omega (arith, i));
  same = λ k i. absurd (omega (arith, i));
  grow = λ j k i m. absurd (omega (arith, m));
  others = a;
})

-- ---- All rows

seam : (xs : List Row) (r : Row) (ys : List Row) → drop (length xs + 1) (xs ++ (r ∷ ys)) ≡ ys
seam xs r ys = drop-append-add xs (r ∷ ys) 1

place_case : (kept : ℕ) (ns : List ℕ) (k : ℕ) → ((k < kept) × (place_of kept ns k ≡ k)) ⊎ ((kept ≤ k) × (place_of kept ns k ≡ get_or ns (k - kept) 0))
place_case kept ns k = go (ltb k kept) refl
  where
    go : (b : Bool) → ltb k kept ≡ b → ((k < kept) × (place_of kept ns k ≡ k)) ⊎ ((kept ≤ k) × (place_of kept ns k ≡ get_or ns (k - kept) 0))
    go true e = inl (grind (arith, nat_tests), ap (λ c. if c then k else get_or ns (k - kept) 0) e)
    go false e = inr (grind (arith, nat_tests), ap (λ c. if c then k else get_or ns (k - kept) 0) e)

moves : (first signs more others : List Row) (from : ℕ) (ns : List ℕ) → more ≡ first ++ others → length first < from → ArePlaces from signs more ns → IsMove (first ++ signs) more (place_of (length first) ns)
moves first signs more others from ns e l h = record {
  within = λ k i. within k (place_case (length first) ns k) (subst (λ n. k < n) (length-append first signs) i);
  same = λ k i. same k (place_case (length first) ns k) (subst (λ n. k < n) (length-append first signs) i);
  grow = λ j k i m. grow j k (place_case (length first) ns j) (place_case (length first) ns k) i (subst (λ n. k < n) (length-append first signs) m);
}
  where
    Case : ℕ → Type 0
    Case k = ((k < length first) × (place_of (length first) ns k ≡ k)) ⊎ ((length first ≤ k) × (place_of (length first) ns k ≡ get_or ns (k - length first) 0))

    within : (k : ℕ) → Case k → k < length first + length signs → place_of (length first) ns k < length more
    within k (inl (a, p)) i = let m = ap length e ∙ length-append first others in omega (arith, a, p, m)
    within k (inr (a, p)) i = let w = h.within (k - length first) (omega (arith, a, i)) in omega (arith, w, p)

    same : (k : ℕ) → Case k → k < length first + length signs → row_at more (place_of (length first) ns k) ≡ row_at (first ++ signs) k
    same k (inl (a, p)) i = ap (row_at more) p ∙ ap (λ z. row_at z k) e ∙ get_or_append_left first others _ k a ∙ sym (get_or_append_left first signs _ k a)
    same k (inr (a, p)) i = ap (row_at more) p ∙ h.same (k - length first) (omega (arith, a, i)) ∙ sym (get_or-append_right first signs (length first) k _ refl a)

    grow : (j k : ℕ) → Case j → Case k → j < k → k < length first + length signs → place_of (length first) ns j < place_of (length first) ns k
    grow j k (inl (a, p)) (inl (b, q)) i m = omega (arith, p, q, i)
    grow j k (inl (a, p)) (inr (b, q)) i m = let c = h.beyond (k - length first) (omega (arith, b, m)) in omega (arith, a, p, q, c, l)
    grow j k (inr (a, p)) (inl (b, q)) i m = absurd (omega (arith, a, b, i))
    grow j k (inr (a, p)) (inr (b, q)) i m = let c = h.grow (j - length first) (k - length first) (omega (arith, a, i)) (omega (arith, b, m)) in omega (arith, p, q, c)

-- ---- The rows of a path

-- The rows of signs after the denied goal.
pub record SignsStand (first signs more : List Row) : Type 0 where
  pub others : List Row
  pub begins : more ≡ first ++ others
  pub inside : length first + 1 ≤ length more
  pub among : StandAmong signs (drop (length first + 1) more)

pub signs_stand : (first signs rows more : List Row) (kept : ℕ) → MakesRoom kept rows more → rows ≡ first ++ signs → length first ≡ kept → SignsStand first signs more
signs_stand first signs rows more kept m e l =
    let n : length m.first ≡ length first = let c = m.counted in omega (arith, c, l) in
    let s : m.first ++ m.signs ≡ first ++ signs = sym m.split ∙ e in
    let f : m.first ≡ first = sym (take-append_seam m.first m.signs) ∙ ap (λ k. take k (m.first ++ m.signs)) n ∙ ap (take (length first)) s ∙ take-append_seam first signs in
    let g : m.signs ≡ signs = sym (drop-append_seam m.first m.signs) ∙ ap (λ k. drop k (m.first ++ m.signs)) n ∙ ap (drop (length first)) s ∙ drop-append_seam first signs in
    let d : more ≡ first ++ (m.denied_goal ∷ m.more_signs) = m.denied_split ∙ ap (λ xs. xs ++ (m.denied_goal ∷ m.more_signs)) f in
    record {
      others = m.denied_goal ∷ m.more_signs;
      begins = d;
      inside = let c = ap length d ∙ length-append first (m.denied_goal ∷ m.more_signs) in omega (arith, c);
      among = subst (λ z. StandAmong z (drop (length first + 1) more)) g (subst (StandAmong m.signs) (sym (ap (drop (length first + 1)) d ∙ seam first m.denied_goal m.more_signs)) m.among);
    }

pub within_rows : (g : Goal) (ps : List Taken) (ms : List (ℕ × ℕ)) (first signs more : List Row) (from : ℕ) (ns : List ℕ) → IsRefutedWith g ps false ms → rows_of g ps false ≡ Some (first ++ signs) → ArePlaces from signs more ns → All (λ (m : ℕ × ℕ). m.0 < length first + length ns) ms
within_rows g ps ms first signs more from ns r e h =
    let i = same_rows g ps false r.rows (first ++ signs) r.are_rows e in
    let c = subst (IsContradiction ms) i r.contradiction in
    All-weaker (λ (m : ℕ × ℕ). m.0 < length (first ++ signs)) (λ (m : ℕ × ℕ). m.0 < length first + length ns) (λ m l. let k = length-append first signs in let n = h.each in omega (arith, k, n, l)) ms c.within

pub moved_refuted : (g : Goal) (ps : List Taken) (ms out : List (ℕ × ℕ)) (first signs more : List Row) (ns : List ℕ) → IsRefutedWith g ps false ms → rows_of g ps false ≡ Some (first ++ signs) → rows_of g ps true ≡ Some more → SignsStand first signs more → ArePlaces (length first + 1) signs more ns → out ≡ moved_all (place_of (length first) ns) ms → IsRefutedWith g ps true out
moved_refuted g ps ms out first signs more ns r e a s h o =
    let i = same_rows g ps false r.rows (first ++ signs) r.are_rows e in
    let p = moves first signs more s.others (length first + 1) ns s.begins (omega arith) h in
    record {
      rows = more;
      are_rows = a;
      contradiction = subst (λ z. IsContradiction z more) (sym o) (contradiction_moved (first ++ signs) more (place_of (length first) ns) ms p (subst (IsContradiction ms) i r.contradiction));
    }

pub item_row : (rows : List Row) (k : ℕ) (r : Row) → k < length rows → r ≡ get_or rows k r → r ≡ row_at rows k
item_row rows k r l e = e ∙ get_or_default rows k r _ l
  where
    get_or_default : (xs : List Row) (k : ℕ) (a b : Row) → k < length xs → get_or xs k a ≡ get_or xs k b
    get_or_default [] k a b l = absurd (omega (arith, l))
    get_or_default (x ∷ xs) zero a b l = refl
    get_or_default (x ∷ xs) (suc k) a b l = get_or_default xs k a b (omega (arith, l))

pub place_taken : (from : ℕ) (rows more : List Row) (ns ps : List ℕ) (at k : ℕ) (r m : Row) → ArePlacesSoFar from rows more ns at → length ns < length rows → k ≡ length ns → r ≡ get_or rows k r → m ≡ get_or more at m → r ≡ m → ps ≡ ns ++ (at ∷ []) → ArePlacesSoFar from rows more ps (at + 1)
place_taken from rows more ns ps at k r m h l e f g s p =
    let n = next_place from rows more ns at h l in
    let a = item_row rows (length ns) r l (f ∙ ap (λ j. get_or rows j r) e) in
    let b = item_row more at m n.inside g in
    subst (λ qs. ArePlacesSoFar from rows more qs (at + 1)) (sym p) (n.when_same (sym a ∙ s ∙ b))

pub place_passed : (from : ℕ) (rows more : List Row) (ns ps : List ℕ) (at k : ℕ) (r m : Row) → ArePlacesSoFar from rows more ns at → length ns < length rows → k ≡ length ns → r ≡ get_or rows k r → m ≡ get_or more at m → (r ≡ m → ⊥) → ps ≡ ns → ArePlacesSoFar from rows more ps (at + 1)
place_passed from rows more ns ps at k r m h l e f g s p =
    let n = next_place from rows more ns at h l in
    let a = item_row rows (length ns) r l (f ∙ ap (λ j. get_or rows j r) e) in
    let b = item_row more at m n.inside g in
    subst (λ qs. ArePlacesSoFar from rows more qs (at + 1)) (sym p) (n.when_other (λ q. s (a ∙ q ∙ sym b)))

pub within_held : (g : Goal) (ps : List Taken) (ms : List (ℕ × ℕ)) (first signs held : List Row) (kept : ℕ) (ns names : List ℕ) → kept ≡ length first → names ≡ ns → IsRefutedWith g ps false ms → rows_of g ps false ≡ Some (first ++ signs) → ArePlaces (kept + 1) signs held ns → All (λ (m : ℕ × ℕ). m.0 < kept + length names) ms
within_held g ps ms first signs held kept ns names k n r e h = subst (λ j. All (λ (m : ℕ × ℕ). m.0 < j + length names) ms) (sym k) (subst (λ xs. All (λ (m : ℕ × ℕ). m.0 < length first + length xs) ms) (sym n) (within_rows g ps ms first signs held (kept + 1) ns r e h))

pub moved_held : (g : Goal) (ps : List Taken) (ms out : List (ℕ × ℕ)) (first signs more held : List Row) (kept : ℕ) (ns names : List ℕ) → kept ≡ length first → held ≡ more → names ≡ ns → IsRefutedWith g ps false ms → rows_of g ps false ≡ Some (first ++ signs) → rows_of g ps true ≡ Some more → SignsStand first signs more → ArePlaces (kept + 1) signs held ns → out ≡ moved_all (place_of kept names) ms → IsRefutedWith g ps true out
moved_held g ps ms out first signs more held kept ns names k m n r e a s h o =
    let p = subst (λ j. ArePlaces (j + 1) signs more ns) k (subst (λ xs. ArePlaces (kept + 1) signs xs ns) m h) in
    moved_refuted g ps ms out first signs more ns r e a s p (o ∙ ap (λ j. moved_all (place_of j names) ms) k ∙ ap (λ xs. moved_all (place_of (length first) xs) ms) n)

pub stand_held : (first signs more held : List Row) (kept : ℕ) → kept ≡ length first → held ≡ more → SignsStand first signs more → (kept + 1 ≤ length held) × StandAmong signs (drop (kept + 1) held)
stand_held first signs more held kept k m s =
    let l = s.inside in
    let n = ap length m in
    (omega (arith, l, n, k), subst (λ j. StandAmong signs (drop (j + 1) held)) (sym k) (subst (λ xs. StandAmong signs (drop (length first + 1) xs)) (sym m) s.among))
