-- The generated text: a procedure on each line, of four forms in rotation. This project's own.
use Rattle.std.specs.Prelude.{List, [], codes, decimal, if◌then◌else◌, suc, zero, ◌%◌, ◌++◌, ◌-◌}
use Rattle.std.specs.Prelude.{◌==◌, ℕ}

-- The name of the procedure on line `i`: `g`, and `i` in decimal digits.
abbrev pub name : ℕ → List ℕ
name i = codes "g" ++ decimal i

-- Line `i`: a coin with the bound `bound`.
abbrev pub coin_line : ℕ → List ℕ → List ℕ
coin_line i bound = codes "coproc " ++ name i ++ codes "() -> (b: Bool) pre " ++ bound
    ++ codes " post [b] { b = flip(1/2) }\n"

-- Line `i`: a loop that flips a coin until it shows heads, with its invariant. There is one space
-- between any two tokens.
abbrev pub loop_line : ℕ → List ℕ
loop_line i =
    codes "coproc " ++ name i
    ++ codes " ( init_c : UInt ) -> ( c : UInt ) pre init_c + 1 post c { c = init_c"
    ++ codes " var cont : Bool = true @ invariant ( ite ( cont , c + 1 , c ) ) while cont {"
    ++ codes " var stop : Bool = flip ( 0.5 ) if stop { cont = false } else { c = c + 1 } } }\n"

-- Line `i`: a call of the loop two lines before.
abbrev pub call_line : ℕ → List ℕ
call_line i = codes "coproc " ++ name i
    ++ codes "(init_c: UInt) -> (c: UInt) pre init_c + 1 post c { c = " ++ name (i - 2)
    ++ codes "(init_c) }\n"

-- Line `i`, by the remainder of `i` by 4: a coin with its bound 1/2, a loop, a coin with 1/3, which
-- is no bound, and a call.
abbrev pub line : ℕ → List ℕ
line i =
    if i % 4 == 0 then coin_line i (codes "1/2")
    else if i % 4 == 1 then loop_line i
    else if i % 4 == 2 then coin_line i (codes "1/3")
    else call_line i

-- The first `n` lines, from line 0 on.
abbrev pub generated_text : ℕ → List ℕ
generated_text zero = []
generated_text (suc n) = generated_text n ++ line n
