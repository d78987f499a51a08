-- Products that are not linear: both factors contain a numeric variable outside conditions. `x * y`
-- is one, `x * [y < 1]` is none. This project's own.
use Rattle.std.specs.Prelude.{Bool, ◌&&◌, Option, Some, None, if◌then◌else◌}
use Rattle.std.specs.Option.{option_or}
use Rattle.heyvl_places.specs.declared.spans.Span.{Span}
use Rattle.heylo_formula.specs.Formula.{Form, Cond}
use Rattle.heylo_formula.specs.Goals.{Goal}
use Rattle.heylo_formula.specs.NumericVariables.{has_variable}

-- `product_at both span`: the place `span` of a product, if both of its factors contain a variable.
abbrev pub product_at : Bool → Span → Option Span
product_at both span = if both then Some span else None

-- `first_product f`: the place of the first nonlinear product in `f`, in the order of the text: a
-- product is after the products of its left factor and before those of its right factor. Products
-- inside conditions count. `option_or a b` is `a` if it is `Some`, otherwise `b`.
abbrev mutual
  pub first_product : Form → Option Span
  first_product (Form.number v) = None
  first_product (Form.variable x) = None
  first_product (Form.sum a b) = option_or (first_product a) (first_product b)
  first_product (Form.difference a b) = option_or (first_product a) (first_product b)
  first_product (Form.cut a b) = option_or (first_product a) (first_product b)
  first_product (Form.scale w a) = first_product a
  first_product (Form.product a b span) = option_or (first_product a)
      (option_or (product_at (has_variable a && has_variable b) span) (first_product b))
  first_product (Form.min a b) = option_or (first_product a) (first_product b)
  first_product (Form.max a b) = option_or (first_product a) (first_product b)
  first_product (Form.imply a b) = option_or (first_product a) (first_product b)
  first_product (Form.co_imply a b) = option_or (first_product a) (first_product b)
  first_product (Form.validate a) = first_product a
  first_product (Form.co_validate a) = first_product a
  first_product (Form.embed g) = first_product_in g
  first_product (Form.iverson g) = first_product_in g
  first_product (Form.select g a b) =
      option_or (first_product_in g) (option_or (first_product a) (first_product b))
  first_product (Form.bind up x name ty a) = first_product a

  -- `first_product_in g`: the place of the first nonlinear product in the condition `g`.
  pub first_product_in : Cond → Option Span
  first_product_in (Cond.constant b) = None
  first_product_in (Cond.flag x) = None
  first_product_in (Cond.not g) = first_product_in g
  first_product_in (Cond.and g h) = option_or (first_product_in g) (first_product_in h)
  first_product_in (Cond.or g h) = option_or (first_product_in g) (first_product_in h)
  first_product_in (Cond.same g h) = option_or (first_product_in g) (first_product_in h)
  first_product_in (Cond.le a b) = option_or (first_product a) (first_product b)
  first_product_in (Cond.lt a b) = option_or (first_product a) (first_product b)
  first_product_in (Cond.equal a b) = option_or (first_product a) (first_product b)
  first_product_in (Cond.ite g h k) =
      option_or (first_product_in g) (option_or (first_product_in h) (first_product_in k))

-- `nonlinear_product g`: the place of the first nonlinear product in the goal `g`, the stated bound
-- before the computed form.
abbrev pub nonlinear_product : Goal → Option Span
nonlinear_product g = option_or (first_product g.stated) (first_product g.found)
