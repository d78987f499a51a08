-- The parts of an unsigned form are unsigned.
use Rattle.std.proofs.Common.{◌≡◌, refl, Bool, true, false, ◌&&◌}
use Rattle.std.specs.Prelude.{Option, Some, None}
use Rattle.heylo_formula.specs.Typing.{NumberType, joined, is_unsigned, only_if, scale_type}
use Rattle.heylo_formula.proofs.exported.Plain.{and_both}

pub joined_parts : (t u : Option NumberType) → is_unsigned (joined t u) ≡ true → (is_unsigned t ≡ true) × (is_unsigned u ≡ true)
joined_parts (Some NumberType.int) (Some NumberType.int) h = absurd (cc)
joined_parts (Some NumberType.int) (Some NumberType.uint) h = absurd (cc)
joined_parts (Some NumberType.int) (Some NumberType.ureal) h = absurd (cc)
joined_parts (Some NumberType.int) (Some NumberType.eureal) h = absurd (cc)
joined_parts (Some NumberType.int) None h = absurd (cc)
joined_parts (Some NumberType.uint) (Some NumberType.int) h = absurd (cc)
joined_parts (Some NumberType.uint) (Some NumberType.uint) h = (refl, refl)
joined_parts (Some NumberType.uint) (Some NumberType.ureal) h = (refl, refl)
joined_parts (Some NumberType.uint) (Some NumberType.eureal) h = (refl, refl)
joined_parts (Some NumberType.uint) None h = absurd (cc)
joined_parts (Some NumberType.ureal) (Some NumberType.int) h = absurd (cc)
joined_parts (Some NumberType.ureal) (Some NumberType.uint) h = (refl, refl)
joined_parts (Some NumberType.ureal) (Some NumberType.ureal) h = (refl, refl)
joined_parts (Some NumberType.ureal) (Some NumberType.eureal) h = (refl, refl)
joined_parts (Some NumberType.ureal) None h = absurd (cc)
joined_parts (Some NumberType.eureal) (Some NumberType.int) h = absurd (cc)
joined_parts (Some NumberType.eureal) (Some NumberType.uint) h = (refl, refl)
joined_parts (Some NumberType.eureal) (Some NumberType.ureal) h = (refl, refl)
joined_parts (Some NumberType.eureal) (Some NumberType.eureal) h = (refl, refl)
joined_parts (Some NumberType.eureal) None h = absurd (cc)
joined_parts None u h = absurd (cc)

pub only_part : (b : Bool) (t : Option NumberType) → is_unsigned (only_if b t) ≡ true → (b ≡ true) × (is_unsigned t ≡ true)
only_part true t h = (refl, h)
only_part false t h = absurd (cc)

pub only_parts : (a b : Bool) (t : Option NumberType) → is_unsigned (only_if (a && b) t) ≡ true → (a ≡ true) × (b ≡ true)
only_parts a b t h = and_both a b (only_part (a && b) t h).0

scale_part : (t : Option NumberType) → is_unsigned (scale_type t) ≡ true → is_unsigned t ≡ true
scale_part (Some NumberType.int) h = absurd (cc)
scale_part (Some NumberType.uint) h = refl
scale_part (Some NumberType.ureal) h = refl
scale_part (Some NumberType.eureal) h = refl
scale_part None h = absurd (cc)

pub scaled_part : (b : Bool) (t : Option NumberType) → is_unsigned (only_if b (scale_type t)) ≡ true → (b ≡ true) × (is_unsigned t ≡ true)
scaled_part b t h = ((only_part b (scale_type t) h).0, scale_part t (only_part b (scale_type t) h).1)
