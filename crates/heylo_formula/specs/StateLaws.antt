-- Laws of states: lists of values, their environments, and changes of variables.
use Rattle.std.specs.Prelude.{◌≡◌, ℕ, ◌+◌, ◌<◌, true, false, ◌==◌, List, ◌++◌, length, set}
use Rattle.heylo_formula.specs.State.{Env, put, has, environment, IsTyped, listed}
use Rattle.heylo_formula.specs.Typing.{Types, types_in, HasTypes}
use Rattle.heylo_formula.specs.declared.types.Ty.{Ty}
use Rattle.heylo_formula.specs.declared.values.Val.{Val}

-- A typed list of values has as many values as there are types.
abbrev pub TypedListsHaveAllValues : Type 0
TypedListsHaveAllValues = (tys : List Ty) (s : List Val) → IsTyped tys s → length s ≡ length tys

-- In the environment of a typed list each variable has a value of its type.
abbrev pub TypedListsAreTypedEnvironments : Type 0
TypedListsAreTypedEnvironments = (tys : List Ty) (s : List Val) → IsTyped tys s
    → HasTypes (types_in tys) (environment s)

-- Changing a variable in a list changes it in the environment of the list.
abbrev pub ChangedListsAreChangedEnvironments : Type 0
ChangedListsAreChangedEnvironments = (s : List Val) (x : ℕ) (v : Val) → x < length s
    → environment (set s x v) ≡ put x v (environment s)

-- Changing a variable to a value of its type keeps a list typed.
abbrev pub ChangesKeepTypedLists : Type 0
ChangesKeepTypedLists = (tys : List Ty) (s : List Val) (x : ℕ) (v : Val) → IsTyped tys s
    → x < length tys → has (types_in tys x) v ≡ true → IsTyped tys (set s x v)

-- Changing a variable to a value of its type keeps an environment typed.
abbrev pub ChangesKeepTypes : Type 0
ChangesKeepTypes = (types : Types) (s : Env) (x : ℕ) (v : Val) → HasTypes types s
    → has (types x) v ≡ true → HasTypes types (put x v s)

-- Two typed lists, appended, are typed.
abbrev pub TypedListsAppend : Type 0
TypedListsAppend = (tys us : List Ty) (s t : List Val) → IsTyped tys s → IsTyped us t
    → IsTyped (tys ++ us) (s ++ t)

-- The environment of two appended lists is that of the first list for the variables of the first
-- list.
abbrev pub FirstOfTwoLists : Type 0
FirstOfTwoLists = (s t : List Val) (y : ℕ) → y < length s → environment (s ++ t) y ≡ environment s y

-- The environment of two appended lists is that of the second list for the variables after the
-- first list.
abbrev pub SecondOfTwoLists : Type 0
SecondOfTwoLists = (s t : List Val) (y : ℕ) → environment (s ++ t) (length s + y) ≡ environment t y

-- The types of two appended lists are those of the first list for the variables of the first list.
abbrev pub TypesOfTheFirst : Type 0
TypesOfTheFirst = (tys us : List Ty) (y : ℕ) → y < length tys
    → types_in (tys ++ us) y ≡ types_in tys y

-- The types of two appended lists are those of the second list for the variables after the first
-- list.
abbrev pub TypesOfTheSecond : Type 0
TypesOfTheSecond = (tys us : List Ty) (y : ℕ)
    → types_in (tys ++ us) (length tys + y) ≡ types_in us y

-- The list of the first values of an environment has these values.
abbrev pub FirstValuesAreValues : Type 0
FirstValuesAreValues = (n : ℕ) (s : Env) (y : ℕ) → y < n → s y ≡ environment (listed n s) y

-- The list of the first values of an environment is typed if each of them is of its type.
abbrev pub FirstValuesAreTyped : Type 0
FirstValuesAreTyped = (tys : List Ty) (s : Env)
    → ((y : ℕ) → y < length tys → has (types_in tys y) (s y) ≡ true)
    → IsTyped tys (listed (length tys) s)

-- Changes of two different variables commute.
abbrev pub ChangesCommute : Type 0
ChangesCommute = (x y : ℕ) (v w : Val) (s : Env) → (x == y) ≡ false
    → put x w (put y v s) ≡ put y v (put x w s)

-- Of two changes of one variable, the later one counts.
abbrev pub LaterChangesCount : Type 0
LaterChangesCount = (x y : ℕ) (v w : Val) (s : Env) → (x == y) ≡ true
    → put y v (put x w s) ≡ put y v s
