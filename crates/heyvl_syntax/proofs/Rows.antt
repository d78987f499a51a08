-- Worked examples of the definitions of tokens, computed.

use Rattle.heyvl_syntax.specs.internal.Fronts.{front_of}
use Rattle.heyvl_syntax.specs.Literals.{is_too_large, literal}
use Rattle.heyvl_places.specs.Places.{place_at}
use Rattle.heyvl_syntax.specs.internal.Found as fronts
use Rattle.heyvl_syntax.specs.declared.keys.Key.TheVariants as keys
use Rattle.heyvl_syntax.specs.declared.marks.Mark.TheVariants as marks
use Rattle.heyvl_syntax.specs.declared.tokens.TokenKind.TheVariants as kinds
use Rattle.std.proofs.Common.{[], codes, false, pos, refl, true, ◌∷◌, ◌≡◌}

-- Literals drop trailing zeros after the point, and keep the digits before it.
half_is : literal (codes "0.50") ≡ record { digits = pos 5; places = 1 }
half_is = refl

one_is : literal (codes "1.0") ≡ record { digits = pos 1; places = 0 }
one_is = refl

hundred_is : literal (codes "0100") ≡ record { digits = pos 100; places = 0 }
hundred_is = refl

zero_is : literal (codes "0.00") ≡ record { digits = pos 0; places = 0 }
zero_is = refl

inner_zeros_are : literal (codes "10.0203000") ≡ record { digits = pos 100203; places = 4 }
inner_zeros_are = refl

-- 2^127 - 1, 2^127, and the digits of 2^127 with a point.
largest : is_too_large (codes "170141183460469231731687303715884105727") ≡ false
largest = refl

too_large : is_too_large (codes "170141183460469231731687303715884105728") ≡ true
too_large = refl

too_large_with_point : is_too_large (codes "17014118346046923173168730371588410572.8") ≡ true
too_large_with_point = refl

-- Trailing zeros after the point count; leading zeros do not.
last_zeros_count : is_too_large (codes "100000000000000000000000000000000000000.0") ≡ true
last_zeros_count = refl

leading_zeros_do_not : is_too_large (codes "000000000000000000000000000000000000000000000000001") ≡ false
leading_zeros_do_not = refl

places_38 : is_too_large (codes "0.00000000000000000000000000000000000001") ≡ false
places_38 = refl

places_39 : is_too_large (codes "0.000000000000000000000000000000000000000") ≡ true
places_39 = refl

-- What bytes begin with.
no_bytes : front_of [] ≡ fronts.End
no_bytes = refl

nul : front_of (0 ∷ []) ≡ fronts.Fault 1 1
nul = refl

carriage_return : front_of (13 ∷ 97 ∷ []) ≡ fronts.Blank 1
carriage_return = refl

open_comment : front_of (codes "/* a") ≡ fronts.Fault 2 2
open_comment = refl

shared_star : front_of (codes "/*/") ≡ fronts.Fault 2 2
shared_star = refl

not_nested : front_of (codes "/* /* */ */") ≡ fronts.Blank 8
not_nested = refl

stars : front_of (codes "/***/") ≡ fronts.Blank 5
stars = refl

line_to_the_end : front_of (codes "// a") ≡ fronts.Blank 4
line_to_the_end = refl

line_to_the_line_feed : front_of (47 ∷ 47 ∷ 200 ∷ 10 ∷ 97 ∷ []) ≡ fronts.Blank 3
line_to_the_line_feed = refl

coimply : front_of (codes "<==b") ≡ fronts.Token (kinds.Mark marks.CoImply) 3
coimply = refl

at_most : front_of (codes "<= =b") ≡ fronts.Token (kinds.Mark marks.AtMost) 2
at_most = refl

one_point : front_of (codes "1.") ≡ fronts.Token (kinds.Number (record { digits = pos 1; places = 0 })) 1
one_point = refl

point_five : front_of (codes ".5") ≡ fronts.Token (kinds.Mark marks.Dot) 1
point_five = refl

one_point_five : front_of (codes "1.5.2") ≡ fronts.Token (kinds.Number (record { digits = pos 15; places = 1 })) 3
one_point_five = refl

cap : front_of (codes "\\cap x") ≡ fronts.Token (kinds.Key keys.Cap) 4
cap = refl

cap_x : front_of (codes "\\capx") ≡ fronts.Fault 1 1
cap_x = refl

cap_underscore : front_of (codes "\\cap_") ≡ fronts.Fault 1 1
cap_underscore = refl

proc : front_of (codes "proc(") ≡ fronts.Token (kinds.Key keys.Proc) 4
proc = refl

proc_of : front_of (codes "proc_1 ") ≡ fronts.Token (kinds.Word (codes "proc_1")) 6
proc_of = refl

number_then_word : front_of (codes "1a") ≡ fronts.Token (kinds.Number (record { digits = pos 1; places = 0 })) 1
number_then_word = refl

high_byte : front_of (200 ∷ []) ≡ fronts.Fault 1 1
high_byte = refl

-- Lines and columns: the first byte, after a line feed, the line feed itself, and the end.
first_place : place_at (codes "ab") 0 ≡ record { line = 1; column = 1 }
first_place = refl

second_column : place_at (codes "ab") 1 ≡ record { line = 1; column = 2 }
second_column = refl

line_feed_itself : place_at (97 ∷ 10 ∷ 98 ∷ []) 1 ≡ record { line = 1; column = 2 }
line_feed_itself = refl

after_line_feed : place_at (97 ∷ 10 ∷ 98 ∷ []) 2 ≡ record { line = 2; column = 1 }
after_line_feed = refl

end_of_file : place_at (97 ∷ 10 ∷ 98 ∷ []) 3 ≡ record { line = 2; column = 2 }
end_of_file = refl

end_after_line_feed : place_at (97 ∷ 13 ∷ 10 ∷ []) 3 ≡ record { line = 2; column = 1 }
end_after_line_feed = refl
