-- Nothing goes on at the first quantifier; before it, tokens go on as they do where quantifiers are
-- allowed.
use Rattle.heyvl_parse.specs.declared.stops.PartStop.TheVariants.{Fault}
use Rattle.heyvl_parse.specs.readers.PartStops.{IsPartStop}
use Rattle.heyvl_syntax.specs.Beginnings.{IsBeginning, IsUnexpected}
use Rattle.heyvl_syntax.specs.declared.tokens.Token.{Token}
use Rattle.guarded_commands.proofs.Endings.{count_append, prog_goes}
use Rattle.guarded_commands.specs.Grammar.{IsProg, IsProgram, is_quantifier, quantifier_count}
use Rattle.guarded_commands.specs.Programs.{ProgramTree}
use Rattle.std.proofs.Common.{List, [], arith, cond, inl, inr, length, subst, sym, take, ◌+◌, ◌-◌, ◌<◌, ◌≡◌, ◌≤◌, ◌⊎◌, ℕ}
use Rattle.std.proofs.lemmas.Bool.{cases_order}
use Rattle.std.proofs.lemmas.List.Sums.{sum_by-take-le}
use Rattle.std.proofs.lemmas.List.{append-nil, length-take-le, take-take, take_all}

count_front : (ts : List Token) (i : ℕ) → quantifier_count (take i ts) ≤ quantifier_count ts
count_front ts i = sum_by-take-le (λ t. cond (is_quantifier t.kind) 1 0) ts i

-- The first quantifier has the index `k`, or there is none and `k` is the number of tokens.
pub record IsFirst (ts : List Token) (k : ℕ) : Type 0 where
  pub inside : k ≤ length ts
  pub before : quantifier_count (take k ts) ≡ 0
  pub here : k < length ts → quantifier_count (take (k + 1) ts) ≡ 1

module _ (ts : List Token) (k : ℕ) (first : IsFirst ts k) where
  no_program : k < length ts → (x : ProgramTree) → IsProgram x ts → ⊥
  no_program less x h = let one = first.here less in let none = h.unquantified in absurd (omega (arith, count_front ts (k + 1)))

  no_beginning : k < length ts → IsBeginning IsProgram (take (k + 1) ts) → ⊥
  no_beginning less b = let one = first.here less in let none = b.spelled.unquantified in absurd (omega (arith, count_append (take (k + 1) ts) b.more))

  -- The tokens before the quantifier spell a program.
  pub ended_by_quantifier : (x : ProgramTree) → IsProg x (take k ts) → k < length ts → IsUnexpected IsProgram ts k
  ended_by_quantifier x h less = record {
    inside = omega arith;
    none = no_program less;
    before = record {
      whole = x;
      more = [];
      spelled = record { grammar = subst (IsProg x) (sym (append-nil (take k ts))) h; unquantified = subst (λ (z : List Token). quantifier_count z ≡ 0) (sym (append-nil (take k ts))) first.before };
    };
    here = λ inside b. no_beginning less b;
  }

  -- The tokens have no quantifier.
  pub without_quantifier : (x : ProgramTree) → IsProg x (take k ts) → length ts ≤ k → IsProgram x ts
  without_quantifier x h all = record {
    grammar = subst (IsProg x) (take_all k ts all) h;
    unquantified = subst (λ (z : List Token). quantifier_count z ≡ 0) (take_all k ts all) first.before;
  }

  -- The tokens before the quantifier are refused.
  pub refused_before : (i : ℕ) → i ≤ k → IsUnexpected IsProg (take k ts) i → IsUnexpected IsProgram ts i
  refused_before i within u = record { inside = let a = first.inside in omega arith; none = none; before = before; here = here }
    where
      order : (k < length ts) ⊎ (length ts ≤ k)
      order = pick (cases_order k (length ts))
        where
          pick : (k ≡ length ts) ⊎ ((k < length ts) ⊎ (length ts < k)) → (k < length ts) ⊎ (length ts ≤ k)
          pick (inl e) = inr (omega arith)
          pick (inr (inl less)) = inl less
          pick (inr (inr more)) = inr (omega arith)

      none : (x : ProgramTree) → IsProgram x ts → ⊥
      none x h = pick order
        where
          pick : (k < length ts) ⊎ (length ts ≤ k) → ⊥
          pick (inl less) = no_program less x h
          pick (inr all) = u.none x (subst (IsProg x) (sym (take_all k ts all)) h.grammar)

      front : take i (take k ts) ≡ take i ts
      front = take-take i k ts within

      quiet : quantifier_count (take i (take k ts)) ≡ 0
      quiet = let e = first.before in omega (arith, count_front (take k ts) i)

      before : IsBeginning IsProgram (take i ts)
      before =
          let (rest, x, h, free) = (prog_goes u.before.whole).ends (take i (take k ts)) u.before.more u.before.spelled quiet in
          subst (λ (z : List Token). IsBeginning IsProgram z) front
          (record { whole = x; more = rest; spelled = record { grammar = h; unquantified = omega (arith, count_append (take i (take k ts)) rest, quiet, free) } })

      here : i < length ts → IsBeginning IsProgram (take (i + 1) ts) → ⊥
      here inside b = pick (cases_order i k)
        where
          pick : (i ≡ k) ⊎ ((i < k) ⊎ (k < i)) → ⊥
          pick (inl e) = no_beginning (omega arith) (subst (λ (z : ℕ). IsBeginning IsProgram (take (z + 1) ts)) e b)
          pick (inr (inl less)) =
              let size : length (take k ts) ≡ k = length-take-le k ts first.inside in
              u.here (omega arith)
              (subst (λ (z : List Token). IsBeginning IsProg z) (sym (take-take (i + 1) k ts (omega arith)))
              (record { whole = b.whole; more = b.more; spelled = b.spelled.grammar }))
          pick (inr (inr more)) = absurd (omega arith)

-- `refused_before` for the reader's answer, which counts the tokens from the error on, also those
-- after the quantifier.
pub stop_before : (ts front : List Token) (k left behind : ℕ) → IsFirst ts k → front ≡ take k ts → behind + k ≡ length ts → IsPartStop IsProg front (Fault left) → IsPartStop IsProgram ts (Fault (left + behind))
stop_before ts front k left behind first e size (a, u) =
    let len : length (take k ts) ≡ k = length-take-le k ts first.inside in
    let b : left ≤ length (take k ts) = subst (λ (z : List Token). left ≤ length z) e a in
    let v : IsUnexpected IsProg (take k ts) (length (take k ts) - left) = subst (λ (z : List Token). IsUnexpected IsProg z (length z - left)) e u in
    let same : length (take k ts) - left ≡ length ts - (left + behind) = omega (arith, size, len, b) in
    (omega (arith, size, len, b), subst (λ (i : ℕ). IsUnexpected IsProgram ts i) same (refused_before ts k first (length (take k ts) - left) (omega (arith, len)) v))

pub stop_there : (ts front : List Token) (k behind : ℕ) (x : ProgramTree) → IsFirst ts k → front ≡ take k ts → behind + k ≡ length ts → 0 < behind → IsProg x front → IsPartStop IsProgram ts (Fault behind)
stop_there ts front k behind x first e size some h =
    let same : k ≡ length ts - behind = omega (arith, size) in
    (omega (arith, size), subst (λ (i : ℕ). IsUnexpected IsProgram ts i) same (ended_by_quantifier ts k first x (subst (IsProg x) e h) (omega (arith, size))))

pub all_read : (ts front : List Token) (k behind : ℕ) (x : ProgramTree) → IsFirst ts k → front ≡ take k ts → behind + k ≡ length ts → behind ≡ 0 → IsProg x front → IsProgram x ts
all_read ts front k behind x first e size none h = without_quantifier ts k first x (subst (IsProg x) e h) (omega (arith, size, none))
