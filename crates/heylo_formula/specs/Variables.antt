-- Occurrences of variables in forms, conditions and terms.
use Rattle.std.specs.Prelude.{◌≡◌, ℕ, ◌<◌, Bool, true, false, ◌==◌, ◌||◌, if◌then◌else◌}
use Rattle.heylo_formula.specs.Formula.{Form, Cond, Term}

-- The variable occurs in the form outside of every binder of it. In `sup x1: UInt. x0 + x1` only
-- `x0` is free.
abbrev mutual
  pub is_free : ℕ → Form → Bool
  is_free x (Form.number v) = false
  is_free x (Form.variable y) = x == y
  is_free x (Form.sum a b) = is_free x a || is_free x b
  is_free x (Form.difference a b) = is_free x a || is_free x b
  is_free x (Form.cut a b) = is_free x a || is_free x b
  is_free x (Form.scale w a) = is_free x a
  is_free x (Form.product a b span) = is_free x a || is_free x b
  is_free x (Form.min a b) = is_free x a || is_free x b
  is_free x (Form.max a b) = is_free x a || is_free x b
  is_free x (Form.imply a b) = is_free x a || is_free x b
  is_free x (Form.co_imply a b) = is_free x a || is_free x b
  is_free x (Form.validate a) = is_free x a
  is_free x (Form.co_validate a) = is_free x a
  is_free x (Form.embed g) = is_free_in x g
  is_free x (Form.iverson g) = is_free_in x g
  is_free x (Form.select g a b) = is_free_in x g || (is_free x a || is_free x b)
  is_free x (Form.bind up y name ty a) = if x == y then false else is_free x a

  -- The variable occurs in the condition outside of every binder of it.
  pub is_free_in : ℕ → Cond → Bool
  is_free_in x (Cond.constant b) = false
  is_free_in x (Cond.flag y) = x == y
  is_free_in x (Cond.not g) = is_free_in x g
  is_free_in x (Cond.and g h) = is_free_in x g || is_free_in x h
  is_free_in x (Cond.or g h) = is_free_in x g || is_free_in x h
  is_free_in x (Cond.same g h) = is_free_in x g || is_free_in x h
  is_free_in x (Cond.le a b) = is_free x a || is_free x b
  is_free_in x (Cond.lt a b) = is_free x a || is_free x b
  is_free_in x (Cond.equal a b) = is_free x a || is_free x b
  is_free_in x (Cond.ite g h k) = is_free_in x g || (is_free_in x h || is_free_in x k)

-- The number occurs in the form, as a variable or as the variable of a binder.
abbrev mutual
  pub occurs : ℕ → Form → Bool
  occurs x (Form.number v) = false
  occurs x (Form.variable y) = x == y
  occurs x (Form.sum a b) = occurs x a || occurs x b
  occurs x (Form.difference a b) = occurs x a || occurs x b
  occurs x (Form.cut a b) = occurs x a || occurs x b
  occurs x (Form.scale w a) = occurs x a
  occurs x (Form.product a b span) = occurs x a || occurs x b
  occurs x (Form.min a b) = occurs x a || occurs x b
  occurs x (Form.max a b) = occurs x a || occurs x b
  occurs x (Form.imply a b) = occurs x a || occurs x b
  occurs x (Form.co_imply a b) = occurs x a || occurs x b
  occurs x (Form.validate a) = occurs x a
  occurs x (Form.co_validate a) = occurs x a
  occurs x (Form.embed g) = occurs_in x g
  occurs x (Form.iverson g) = occurs_in x g
  occurs x (Form.select g a b) = occurs_in x g || (occurs x a || occurs x b)
  occurs x (Form.bind up y name ty a) = (x == y) || occurs x a

  -- The number occurs in the condition, as a variable or as the variable of a binder.
  pub occurs_in : ℕ → Cond → Bool
  occurs_in x (Cond.constant b) = false
  occurs_in x (Cond.flag y) = x == y
  occurs_in x (Cond.not g) = occurs_in x g
  occurs_in x (Cond.and g h) = occurs_in x g || occurs_in x h
  occurs_in x (Cond.or g h) = occurs_in x g || occurs_in x h
  occurs_in x (Cond.same g h) = occurs_in x g || occurs_in x h
  occurs_in x (Cond.le a b) = occurs x a || occurs x b
  occurs_in x (Cond.lt a b) = occurs x a || occurs x b
  occurs_in x (Cond.equal a b) = occurs x a || occurs x b
  occurs_in x (Cond.ite g h k) = occurs_in x g || (occurs_in x h || occurs_in x k)

-- The number occurs in the term, as a variable or as the variable of a binder.
abbrev pub occurs_in_term : ℕ → Term → Bool
occurs_in_term x (Term.truth g) = occurs_in x g
occurs_in_term x (Term.number f) = occurs x f

-- Each free variable of the form is below `n`.
abbrev pub IsOver : ℕ → Form → Type 0
IsOver n f = (x : ℕ) → is_free x f ≡ true → x < n

-- Each free variable of the condition is below `n`.
abbrev pub IsOverIn : ℕ → Cond → Type 0
IsOverIn n g = (x : ℕ) → is_free_in x g ≡ true → x < n
