-- Numeric variables outside conditions. This project's own.
use Rattle.std.specs.Prelude.{Bool, true, false, ◌||◌}
use Rattle.heylo_formula.specs.Formula.{Form}

-- A numeric variable occurs in the form outside conditions.
abbrev pub has_variable : Form → Bool
has_variable (Form.number v) = false
has_variable (Form.variable x) = true
has_variable (Form.sum a b) = has_variable a || has_variable b
has_variable (Form.difference a b) = has_variable a || has_variable b
has_variable (Form.cut a b) = has_variable a || has_variable b
has_variable (Form.scale w a) = has_variable a
has_variable (Form.product a b span) = has_variable a || has_variable b
has_variable (Form.min a b) = has_variable a || has_variable b
has_variable (Form.max a b) = has_variable a || has_variable b
has_variable (Form.imply a b) = has_variable a || has_variable b
has_variable (Form.co_imply a b) = has_variable a || has_variable b
has_variable (Form.validate a) = has_variable a
has_variable (Form.co_validate a) = has_variable a
has_variable (Form.embed g) = false
has_variable (Form.iverson g) = false
has_variable (Form.select g a b) = has_variable a || has_variable b
has_variable (Form.bind up x name ty a) = has_variable a
