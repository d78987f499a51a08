-- The pieces of the generated lines.
use Rattle.generated_files.proofs.Names.{b_plain, c_plain, cont_plain, init_plain, invariant_plain, stop_plain}
use Rattle.generated_files.proofs.Pieces.{IsPlain, IsShort, Piece, blank, bytes, feed, flows, key, mark, number, slash, word}
use Rattle.generated_files.specs.Texts.{call_line, coin_line, loop_line, name}
use Rattle.heyvl_syntax.specs.declared.keys.Key.TheVariants as keys
use Rattle.heyvl_syntax.specs.declared.marks.Mark.TheVariants as marks
use Rattle.std.specs.Fmt.{decimal}
use Rattle.std.proofs.Common.{List, [], ap, append_assoc, arith, codes, inl, inr, refl, sym, true, ◌++◌, ◌-◌, ◌∷◌, ◌≡◌, ℕ}

pub one_short : IsShort (codes "1")
one_short = record { number = inl (omega arith, refl); small = refl }

pub two_short : IsShort (codes "2")
two_short = record { number = inl (omega arith, refl); small = refl }

pub three_short : IsShort (codes "3")
three_short = record { number = inl (omega arith, refl); small = refl }

pub half_short : IsShort (codes "0.5")
half_short = record { number = inr (codes "0", codes "5", (omega arith, refl), (omega arith, refl), refl); small = refl }

abbrev b : Piece
b = word (codes "b") b_plain

abbrev c : Piece
c = word (codes "c") c_plain

abbrev init : Piece
init = word (codes "init_c") init_plain

abbrev cont : Piece
cont = word (codes "cont") cont_plain

abbrev stop : Piece
stop = word (codes "stop") stop_plain

abbrev one : Piece
one = number (codes "1") one_short

abbrev pub two : Piece
two = number (codes "2") two_short

abbrev pub three : Piece
three = number (codes "3") three_short

abbrev half : Piece
half = number (codes "0.5") half_short

abbrev paren : Piece
paren = mark marks.ParenLeft

abbrev unparen : Piece
unparen = mark marks.ParenRight

abbrev brace : Piece
brace = mark marks.BraceLeft

abbrev unbrace : Piece
unbrace = mark marks.BraceRight

-- The pieces of a coin, whose bound is 1 divided by the given number.
abbrev pub coin_pieces : (x : List ℕ) → IsPlain x → Piece → List Piece
coin_pieces x plain n =
    key keys.CoProc ∷ blank ∷ word x plain ∷ paren ∷ unparen ∷ blank ∷ mark marks.Arrow ∷ blank ∷ paren ∷ b ∷ mark marks.Colon ∷ blank ∷ key keys.BoolWord ∷ unparen
    ∷ blank ∷ key keys.Pre ∷ blank ∷ one ∷ slash ∷ n ∷ blank ∷ key keys.Post ∷ blank ∷ mark marks.BracketLeft ∷ b ∷ mark marks.BracketRight
    ∷ blank ∷ brace ∷ blank ∷ b ∷ blank ∷ mark marks.Assign ∷ blank ∷ key keys.Flip ∷ paren ∷ one ∷ slash ∷ two ∷ unparen ∷ blank ∷ unbrace ∷ feed ∷ []

-- Pieces with one space between any two, on a line.
abbrev spaced : List Piece → List Piece
spaced [] = feed ∷ []
spaced (p ∷ []) = p ∷ feed ∷ []
spaced (p ∷ q ∷ ps) = p ∷ blank ∷ spaced (q ∷ ps)

abbrev pub loop_pieces : (x : List ℕ) → IsPlain x → List Piece
loop_pieces x plain = spaced (
    key keys.CoProc ∷ word x plain ∷ paren ∷ init ∷ mark marks.Colon ∷ key keys.UIntWord ∷ unparen ∷ mark marks.Arrow ∷ paren ∷ c ∷ mark marks.Colon ∷ key keys.UIntWord ∷ unparen
    ∷ key keys.Pre ∷ init ∷ mark marks.Plus ∷ one ∷ key keys.Post ∷ c ∷ brace ∷ c ∷ mark marks.Assign ∷ init
    ∷ key keys.Var ∷ cont ∷ mark marks.Colon ∷ key keys.BoolWord ∷ mark marks.Assign ∷ key keys.TrueWord
    ∷ mark marks.AtSign ∷ word (codes "invariant") invariant_plain ∷ paren ∷ key keys.Ite ∷ paren ∷ cont ∷ mark marks.Comma ∷ c ∷ mark marks.Plus ∷ one ∷ mark marks.Comma ∷ c ∷ unparen ∷ unparen
    ∷ key keys.While ∷ cont ∷ brace
    ∷ key keys.Var ∷ stop ∷ mark marks.Colon ∷ key keys.BoolWord ∷ mark marks.Assign ∷ key keys.Flip ∷ paren ∷ half ∷ unparen
    ∷ key keys.If ∷ stop ∷ brace ∷ cont ∷ mark marks.Assign ∷ key keys.FalseWord ∷ unbrace
    ∷ key keys.Else ∷ brace ∷ c ∷ mark marks.Assign ∷ c ∷ mark marks.Plus ∷ one ∷ unbrace
    ∷ unbrace ∷ unbrace ∷ [])

abbrev pub call_pieces : (x : List ℕ) → IsPlain x → (y : List ℕ) → IsPlain y → List Piece
call_pieces x plain y other =
    key keys.CoProc ∷ blank ∷ word x plain ∷ paren ∷ init ∷ mark marks.Colon ∷ blank ∷ key keys.UIntWord ∷ unparen ∷ blank ∷ mark marks.Arrow ∷ blank ∷ paren ∷ c ∷ mark marks.Colon ∷ blank ∷ key keys.UIntWord ∷ unparen
    ∷ blank ∷ key keys.Pre ∷ blank ∷ init ∷ blank ∷ mark marks.Plus ∷ blank ∷ one ∷ blank ∷ key keys.Post ∷ blank ∷ c
    ∷ blank ∷ brace ∷ blank ∷ c ∷ blank ∷ mark marks.Assign ∷ blank ∷ word y other ∷ paren ∷ init ∷ unparen ∷ blank ∷ unbrace ∷ feed ∷ []

pub coin_half : (i : ℕ) (plain : IsPlain (name i)) (rest : List ℕ) → bytes (coin_pieces (name i) plain two) rest ≡ coin_line i (codes "1/2") ++ rest
coin_half i plain rest = simp append_assoc

pub coin_third : (i : ℕ) (plain : IsPlain (name i)) (rest : List ℕ) → bytes (coin_pieces (name i) plain three) rest ≡ coin_line i (codes "1/3") ++ rest
coin_third i plain rest = simp append_assoc

pub loop_text : (i : ℕ) (plain : IsPlain (name i)) (rest : List ℕ) → bytes (loop_pieces (name i) plain) rest ≡ loop_line i ++ rest
loop_text i plain rest = simp append_assoc

four : (a b c d rest : List ℕ) → (((a ++ b) ++ c) ++ d) ++ rest ≡ a ++ (b ++ (c ++ (d ++ rest)))
four a b c d rest = simp append_assoc

pub call_text : (i : ℕ) (plain : IsPlain (name i)) (other : IsPlain (name (i - 2))) (rest : List ℕ) → bytes (call_pieces (name i) plain (name (i - 2)) other) rest ≡ call_line i ++ rest
call_text i plain other rest =
    ap (λ (z : List ℕ). codes "coproc g" ++ z)
    (sym (four (decimal i) (codes "(init_c: UInt) -> (c: UInt) pre init_c + 1 post c { c = ") (name (i - 2)) (codes "(init_c) }\n") rest))

pub coin_half_flows : (x : List ℕ) (plain : IsPlain x) (rest : List ℕ) → flows (coin_pieces x plain two) rest ≡ true
coin_half_flows x plain rest = refl

pub coin_third_flows : (x : List ℕ) (plain : IsPlain x) (rest : List ℕ) → flows (coin_pieces x plain three) rest ≡ true
coin_third_flows x plain rest = refl

pub loop_flows : (x : List ℕ) (plain : IsPlain x) (rest : List ℕ) → flows (loop_pieces x plain) rest ≡ true
loop_flows x plain rest = refl

pub call_flows : (x : List ℕ) (plain : IsPlain x) (y : List ℕ) (other : IsPlain y) (rest : List ℕ) → flows (call_pieces x plain y other) rest ≡ true
call_flows x plain y other rest = refl
