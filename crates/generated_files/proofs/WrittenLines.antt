-- The lines as the program builds them.
use Rattle.generated_files.specs.Texts.{call_line, coin_line, loop_line, name}
use Rattle.std.proofs.Common.{List, append_assoc, codes, ◌++◌, ◌-◌, ◌≡◌, ℕ}

abbrev Head : ℕ → List ℕ → List ℕ → Type 0
Head i t0 t1 = t1 ≡ t0 ++ (codes "coproc " ++ name i)

four : (t0 h a b c t1 t2 t3 t4 : List ℕ) → t1 ≡ t0 ++ h → t2 ≡ t1 ++ a → t3 ≡ t2 ++ b → t4 ≡ t3 ++ c → t4 ≡ t0 ++ (((h ++ a) ++ b) ++ c)
four t0 h a b c t1 t2 t3 t4 e f g k = rw (k, g, f, e) (simp append_assoc)

pub coin_written : (i : ℕ) (bound t0 t1 t2 t3 t4 : List ℕ) → Head i t0 t1 → t2 ≡ t1 ++ codes "() -> (b: Bool) pre " → t3 ≡ t2 ++ bound → t4 ≡ t3 ++ codes " post [b] { b = flip(1/2) }\n" → t4 ≡ t0 ++ coin_line i bound
coin_written i bound t0 t1 t2 t3 t4 e f g h = four t0 (codes "coproc " ++ name i) (codes "() -> (b: Bool) pre ") bound (codes " post [b] { b = flip(1/2) }\n") t1 t2 t3 t4 e f g h

pub loop_written : (i : ℕ) (t0 t1 t2 t3 t4 : List ℕ) → Head i t0 t1 → t2 ≡ t1 ++ codes " ( init_c : UInt ) -> ( c : UInt ) pre init_c + 1 post c { c = init_c"
    → t3 ≡ t2 ++ codes " var cont : Bool = true @ invariant ( ite ( cont , c + 1 , c ) ) while cont {"
    → t4 ≡ t3 ++ codes " var stop : Bool = flip ( 0.5 ) if stop { cont = false } else { c = c + 1 } } }\n" → t4 ≡ t0 ++ loop_line i
loop_written i t0 t1 t2 t3 t4 e f g h =
    four t0 (codes "coproc " ++ name i) (codes " ( init_c : UInt ) -> ( c : UInt ) pre init_c + 1 post c { c = init_c")
    (codes " var cont : Bool = true @ invariant ( ite ( cont , c + 1 , c ) ) while cont {") (codes " var stop : Bool = flip ( 0.5 ) if stop { cont = false } else { c = c + 1 } } }\n") t1 t2 t3 t4 e f g h

pub call_written : (i : ℕ) (t0 t1 t2 t3 t4 : List ℕ) → Head i t0 t1 → t2 ≡ t1 ++ codes "(init_c: UInt) -> (c: UInt) pre init_c + 1 post c { c = " → t3 ≡ t2 ++ name (i - 2) → t4 ≡ t3 ++ codes "(init_c) }\n" → t4 ≡ t0 ++ call_line i
call_written i t0 t1 t2 t3 t4 e f g h = four t0 (codes "coproc " ++ name i) (codes "(init_c: UInt) -> (c: UInt) pre init_c + 1 post c { c = ") (name (i - 2)) (codes "(init_c) }\n") t1 t2 t3 t4 e f g h
