-- The products of elaborated expressions begin within the bytes of the text: each has the place of
-- its operator.
use Rattle.spelled_files.proofs.Meanings.{Holds, Spreads, bracketed_holds, chosen_holds, embedded_holds, infixed_holds, literal_holds, name_holds, prefixed_holds, quantified_holds}
use Rattle.spelled_files.proofs.SpelledParts.{Gives, any, here, within, ◌before◌}
use Rattle.heyvl_syntax.specs.Expressions.{Expression}
use Rattle.heyvl_syntax.specs.Grammar.{IsExpr, operator, ranks}
use Rattle.heyvl_places.specs.declared.spans.Span.{Span}
use Rattle.typed_expressions.specs.Scopes.{Scope, with_local}
use Rattle.typed_expressions.specs.Values.{condition, form, term}
use Rattle.typed_expressions.specs.Table.{Meaning}
use Rattle.typed_expressions.specs.TypedExpressions.{elaborate}
use Rattle.std.proofs.Common.{None, Option, Some, suc, ◌≤◌, ℕ}
use Rattle.heyvl_acts.specs.StandingParts.{CondStands, FormStands, TermStands}

-- If there is a meaning, its places are within `n` bytes.
abbrev pub Stands : ℕ → Option Meaning → Type 0
Stands n o = Holds (FormStands n) (CondStands n) o

module _ (n : ℕ) where
  pub form_stands : (o : Option Meaning) → Stands n o → FormStands n (form o)
  form_stands None h = tt
  form_stands (Some (Meaning.truth g)) h = tt
  form_stands (Some (Meaning.number t a)) h = h
  form_stands (Some Meaning.real) h = tt

  pub condition_stands : (o : Option Meaning) → Stands n o → CondStands n (condition o)
  condition_stands None h = tt
  condition_stands (Some (Meaning.truth g)) h = h
  condition_stands (Some (Meaning.number t a)) h = tt
  condition_stands (Some Meaning.real) h = tt

  pub term_stands : (o : Option Meaning) → Stands n o → TermStands n (term o)
  term_stands None h = tt
  term_stands (Some (Meaning.truth g)) h = h
  term_stands (Some (Meaning.number t a)) h = h
  term_stands (Some Meaning.real) h = tt

  abbrev IsPlaced : Span → Type 0
  IsPlaced s = s.from ≤ n

  places_spread : Spreads (FormStands n) (CondStands n) IsPlaced
  places_spread = record {
    number = λ v. tt;
    variable = λ x. tt;
    sum = λ a b p q. (p, q);
    difference = λ a b p q. (p, q);
    cut = λ a b p q. (p, q);
    scale = λ w a p. p;
    product = λ a b s l p q. (l, (p, q));
    min = λ a b p q. (p, q);
    max = λ a b p q. (p, q);
    imply = λ a b p q. (p, q);
    co_imply = λ a b p q. (p, q);
    embed = λ g p. p;
    iverson = λ g p. p;
    select = λ g a b p q r. (p, (q, r));
    constant = λ b. tt;
    flag = λ x. tt;
    not = λ g p. p;
    and = λ g f p q. (p, q);
    or = λ g f p q. (p, q);
    same = λ g f p q. (p, q);
    le = λ a b p q. (p, q);
    lt = λ a b p q. (p, q);
    equal = λ a b p q. (p, q);
    ite = λ g f e p q r. (p, (q, r));
  }

  -- ---- Expressions

  abbrev pub ExpressionStands : Expression → Type 0
  ExpressionStands e = (k : ℕ) (sc : Scope) → Stands n (elaborate k sc e)

  pub expr : (e : Expression) (r : ℕ) → Gives n (IsExpr e r) (ExpressionStands e)
  expr (Expression.number v s) r = record { reads = λ ts h i k sc. literal_holds (FormStands n) (CondStands n) IsPlaced places_spread v }
  expr (Expression.truth b s) r = record { reads = λ ts h i k sc. tt }
  expr (Expression.infinity s) r = record { reads = λ ts h i k sc. tt }
  expr (Expression.name x s) r = record { reads = λ ts h i k sc. name_holds (FormStands n) (CondStands n) IsPlaced places_spread sc x }
  expr (Expression.group a s) r = record { reads = λ ts h i k sc. (within (any _ before expr a 9 before any _) ts h i.0).1.0 k sc }
  expr (Expression.bracket a s) r = record {
    reads = λ ts h i k sc. let x = within (any _ before expr a 9 before any _) ts h i.0 in bracketed_holds (FormStands n) (CondStands n) IsPlaced places_spread (elaborate k sc a) (x.1.0 k sc);
  }
  expr (Expression.embed a s) r = record {
    reads = λ ts h i k sc. let x = within (any _ before any _ before expr a 9 before any _) ts h i.0 in embedded_holds (FormStands n) (CondStands n) IsPlaced places_spread (elaborate k sc a) (x.1.1.0 k sc);
  }
  expr (Expression.unary op a s) r = record {
    reads = λ ts h i k sc. let x = within (any _ before expr a 0) ts h i.0 in prefixed_holds (FormStands n) (CondStands n) IsPlaced places_spread op (elaborate k sc a) (x.1 k sc);
  }
  expr (Expression.binary op a b s) r = record {
    reads = λ ts h i k sc.
        let x = within (expr a (ranks op).left before here (operator op) s before expr b (ranks op).right) ts h i.1 in
        infixed_holds (FormStands n) (CondStands n) IsPlaced places_spread op s b (elaborate k sc a) (elaborate k sc b) x.1.0 (x.0 k sc) (x.1.1 k sc);
  }
  expr (Expression.choice a b c s) r = record {
    reads = λ ts h i k sc.
        let x = within (any _ before any _ before expr a 9 before any _ before expr b 9 before any _ before expr c 9 before any _) ts h i.0 in
        chosen_holds (FormStands n) (CondStands n) IsPlaced places_spread (elaborate k sc a) (elaborate k sc b) (elaborate k sc c) (x.1.1.0 k sc) (x.1.1.1.1.0 k sc) (x.1.1.1.1.1.1.0 k sc);
  }
  expr (Expression.bound up x t a s) r = record {
    reads = λ ts h i k sc.
        let y = within (any _ before any _ before any _ before any _ before any _ before expr a 9) ts h i.1 in
        let inner = with_local x (record { number = k; ty = t }) sc in
        quantified_holds (FormStands n) (CondStands n) up k (λ ty b p. p) t (elaborate (suc k) inner a) (y.1.1.1.1.1 (suc k) inner);
  }
