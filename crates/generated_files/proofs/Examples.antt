-- Worked rows: the first four lines, and lines whose names have more digits.
use Rattle.generated_files.specs.Texts.{generated_text, line}
use Rattle.std.proofs.Common.{[], codes, refl, ◌++◌, ◌≡◌}
use Rattle.std.specs.Fmt.{digits}

none : generated_text 0 ≡ []
none = refl

four : generated_text 4
    ≡ codes "coproc g0() -> (b: Bool) pre 1/2 post [b] { b = flip(1/2) }\n"
    ++ codes "coproc g1 ( init_c : UInt ) -> ( c : UInt ) pre init_c + 1 post c { c = init_c var cont : Bool = true @ invariant ( ite ( cont , c + 1 , c ) ) while cont { var stop : Bool = flip ( 0.5 ) if stop { cont = false } else { c = c + 1 } } }\n"
    ++ codes "coproc g2() -> (b: Bool) pre 1/3 post [b] { b = flip(1/2) }\n"
    ++ codes "coproc g3(init_c: UInt) -> (c: UInt) pre init_c + 1 post c { c = g1(init_c) }\n"
unfolding digits
four = refl

two_digits : line 11 ≡ codes "coproc g11(init_c: UInt) -> (c: UInt) pre init_c + 1 post c { c = g9(init_c) }\n"
unfolding digits
two_digits = refl

four_digits : line 1022 ≡ codes "coproc g1022() -> (b: Bool) pre 1/3 post [b] { b = flip(1/2) }\n"
unfolding digits
four_digits = refl
