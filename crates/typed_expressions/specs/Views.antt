-- The plain values of the program's types.
use Rattle.heylo_formula.specs.PlainTrees.{cond_of, form_of}
use Rattle.heylo_formula.specs.Typing.NumberType.{eureal, int, uint, ureal}
use Rattle.heylo_formula.specs.Typing.{NumberType}
use Rattle.heyvl_syntax.specs.Expressions.{Expression}
use Rattle.heyvl_syntax.specs.declared.literals.Lit.{Lit}
use Rattle.std.specs.Prelude.{Option, Some, Vec, None, List, map, ℕ}
use Rattle.std.specs.declared.alloc.Global.{Global}
use Rattle.typed_expressions.specs.Scopes.{Scope}
use Rattle.typed_expressions.specs.Signatures.{Signature, Called}
use Rattle.typed_expressions.specs.Table.{Meaning}
use Rattle.typed_expressions.specs.declared.calls.Signature as held
use Rattle.typed_expressions.specs.declared.meanings.Kind.{Kind}
use Rattle.typed_expressions.specs.declared.meanings.Meaning as M
use Rattle.typed_expressions.specs.declared.scopes.Local.{Local}

-- The type of numbers that a `Kind` denotes.
abbrev pub kind_of : Kind → NumberType
kind_of Kind.Int = int
kind_of Kind.UInt = uint
kind_of Kind.UReal = ureal
kind_of Kind.EUReal = eureal

-- The plain value of an elaborated expression in memory.
abbrev pub meaning_of : M.Meaning → Meaning
meaning_of (M.TheVariants.Truth g) = Meaning.truth (cond_of g)
meaning_of (M.TheVariants.Number t a) = Meaning.number (kind_of t) (form_of a)
meaning_of M.TheVariants.Real = Meaning.real

-- The plain value of the result of an elaboration.
abbrev pub read : M.Meaning → Option Meaning
read m = Some (meaning_of m)

-- The number literal that an expression is, if it is one.
abbrev pub literal_of : Expression → Option Lit
literal_of (Expression.number n s) = Some n
literal_of e = None

-- The scope of the entries of a table of names.
abbrev pub entries_of : List (Vec ℕ Global × Local) → Scope
entries_of es = map (λ e. (e.0.items, e.1)) es

-- The plain value of a signature in memory.
abbrev pub signature_of : held.Signature → Signature
signature_of s = record {
  number = s.number;
  co = s.co;
  inputs = s.inputs.items;
  outputs = s.outputs.items;
  quantified = s.quantified;
}

-- The callable procedures of the entries of a table of names.
abbrev pub called_of : List (Vec ℕ Global × held.Signature) → Called
called_of es = map (λ e. (e.0.items, signature_of e.1)) es
