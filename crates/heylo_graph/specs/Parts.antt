-- The children of a node, and the variables in it.
use Rattle.std.specs.Prelude.{ℕ, Bool, true, false, Option, Some, None}
use Rattle.heylo_graph.specs.declared.nodes.Node.{Node}

-- The first child of a node.
abbrev pub first : Node → Option ℕ
first (Node.Const v) = None
first (Node.Var w) = None
first (Node.Sum a b) = Some a
first (Node.Diff a b) = Some a
first (Node.Cut a b) = Some a
first (Node.Scale w a) = Some a
first (Node.Product a b span) = Some a
first (Node.Min a b) = Some a
first (Node.Max a b) = Some a
first (Node.Imply a b) = Some a
first (Node.CoImply a b) = Some a
first (Node.Validate a) = Some a
first (Node.CoValidate a) = Some a
first (Node.Embed a) = Some a
first (Node.Iverson a) = Some a
first (Node.Select a b c) = Some a
first (Node.Bind up w name ty a) = Some a
first (Node.Truth v) = None
first (Node.Flag w) = None
first (Node.Not a) = Some a
first (Node.And a b) = Some a
first (Node.Or a b) = Some a
first (Node.Same a b) = Some a
first (Node.Le a b) = Some a
first (Node.Lt a b) = Some a
first (Node.EqNum a b) = Some a
first (Node.Ite a b c) = Some a

-- The second child of a node.
abbrev pub second : Node → Option ℕ
second (Node.Const v) = None
second (Node.Var w) = None
second (Node.Sum a b) = Some b
second (Node.Diff a b) = Some b
second (Node.Cut a b) = Some b
second (Node.Scale w a) = None
second (Node.Product a b span) = Some b
second (Node.Min a b) = Some b
second (Node.Max a b) = Some b
second (Node.Imply a b) = Some b
second (Node.CoImply a b) = Some b
second (Node.Validate a) = None
second (Node.CoValidate a) = None
second (Node.Embed a) = None
second (Node.Iverson a) = None
second (Node.Select a b c) = Some b
second (Node.Bind up w name ty a) = None
second (Node.Truth v) = None
second (Node.Flag w) = None
second (Node.Not a) = None
second (Node.And a b) = Some b
second (Node.Or a b) = Some b
second (Node.Same a b) = Some b
second (Node.Le a b) = Some b
second (Node.Lt a b) = Some b
second (Node.EqNum a b) = Some b
second (Node.Ite a b c) = Some b

-- The third child of a node.
abbrev pub third : Node → Option ℕ
third (Node.Const v) = None
third (Node.Var w) = None
third (Node.Sum a b) = None
third (Node.Diff a b) = None
third (Node.Cut a b) = None
third (Node.Scale w a) = None
third (Node.Product a b span) = None
third (Node.Min a b) = None
third (Node.Max a b) = None
third (Node.Imply a b) = None
third (Node.CoImply a b) = None
third (Node.Validate a) = None
third (Node.CoValidate a) = None
third (Node.Embed a) = None
third (Node.Iverson a) = None
third (Node.Select a b c) = Some c
third (Node.Bind up w name ty a) = None
third (Node.Truth v) = None
third (Node.Flag w) = None
third (Node.Not a) = None
third (Node.And a b) = None
third (Node.Or a b) = None
third (Node.Same a b) = None
third (Node.Le a b) = None
third (Node.Lt a b) = None
third (Node.EqNum a b) = None
third (Node.Ite a b c) = Some c

-- `with_parts n p q r`: the node `n` with the children `p`, `q` and `r`, as many as it has.
abbrev pub with_parts : Node → ℕ → ℕ → ℕ → Node
with_parts (Node.Const v) p q r = Node.Const v
with_parts (Node.Var w) p q r = Node.Var w
with_parts (Node.Sum a b) p q r = Node.Sum p q
with_parts (Node.Diff a b) p q r = Node.Diff p q
with_parts (Node.Cut a b) p q r = Node.Cut p q
with_parts (Node.Scale w a) p q r = Node.Scale w p
with_parts (Node.Product a b span) p q r = Node.Product p q span
with_parts (Node.Min a b) p q r = Node.Min p q
with_parts (Node.Max a b) p q r = Node.Max p q
with_parts (Node.Imply a b) p q r = Node.Imply p q
with_parts (Node.CoImply a b) p q r = Node.CoImply p q
with_parts (Node.Validate a) p q r = Node.Validate p
with_parts (Node.CoValidate a) p q r = Node.CoValidate p
with_parts (Node.Embed a) p q r = Node.Embed p
with_parts (Node.Iverson a) p q r = Node.Iverson p
with_parts (Node.Select a b c) p q r = Node.Select p q r
with_parts (Node.Bind up w name ty a) p q r = Node.Bind up w name ty p
with_parts (Node.Truth v) p q r = Node.Truth v
with_parts (Node.Flag w) p q r = Node.Flag w
with_parts (Node.Not a) p q r = Node.Not p
with_parts (Node.And a b) p q r = Node.And p q
with_parts (Node.Or a b) p q r = Node.Or p q
with_parts (Node.Same a b) p q r = Node.Same p q
with_parts (Node.Le a b) p q r = Node.Le p q
with_parts (Node.Lt a b) p q r = Node.Lt p q
with_parts (Node.EqNum a b) p q r = Node.EqNum p q
with_parts (Node.Ite a b c) p q r = Node.Ite p q r

-- The variable of a node that is a variable, numeric or Boolean.
abbrev pub variable_of : Node → Option ℕ
variable_of (Node.Const v) = None
variable_of (Node.Var w) = Some w
variable_of (Node.Sum a b) = None
variable_of (Node.Diff a b) = None
variable_of (Node.Cut a b) = None
variable_of (Node.Scale w a) = None
variable_of (Node.Product a b span) = None
variable_of (Node.Min a b) = None
variable_of (Node.Max a b) = None
variable_of (Node.Imply a b) = None
variable_of (Node.CoImply a b) = None
variable_of (Node.Validate a) = None
variable_of (Node.CoValidate a) = None
variable_of (Node.Embed a) = None
variable_of (Node.Iverson a) = None
variable_of (Node.Select a b c) = None
variable_of (Node.Bind up w name ty a) = None
variable_of (Node.Truth v) = None
variable_of (Node.Flag w) = Some w
variable_of (Node.Not a) = None
variable_of (Node.And a b) = None
variable_of (Node.Or a b) = None
variable_of (Node.Same a b) = None
variable_of (Node.Le a b) = None
variable_of (Node.Lt a b) = None
variable_of (Node.EqNum a b) = None
variable_of (Node.Ite a b c) = None

-- The variable that the node binds.
abbrev pub bound_by : Node → Option ℕ
bound_by (Node.Const v) = None
bound_by (Node.Var w) = None
bound_by (Node.Sum a b) = None
bound_by (Node.Diff a b) = None
bound_by (Node.Cut a b) = None
bound_by (Node.Scale w a) = None
bound_by (Node.Product a b span) = None
bound_by (Node.Min a b) = None
bound_by (Node.Max a b) = None
bound_by (Node.Imply a b) = None
bound_by (Node.CoImply a b) = None
bound_by (Node.Validate a) = None
bound_by (Node.CoValidate a) = None
bound_by (Node.Embed a) = None
bound_by (Node.Iverson a) = None
bound_by (Node.Select a b c) = None
bound_by (Node.Bind up w name ty a) = Some w
bound_by (Node.Truth v) = None
bound_by (Node.Flag w) = None
bound_by (Node.Not a) = None
bound_by (Node.And a b) = None
bound_by (Node.Or a b) = None
bound_by (Node.Same a b) = None
bound_by (Node.Le a b) = None
bound_by (Node.Lt a b) = None
bound_by (Node.EqNum a b) = None
bound_by (Node.Ite a b c) = None

-- The variable that the node binds, and its body.
abbrev pub binder_of : Node → Option (ℕ × ℕ)
binder_of (Node.Const v) = None
binder_of (Node.Var w) = None
binder_of (Node.Sum a b) = None
binder_of (Node.Diff a b) = None
binder_of (Node.Cut a b) = None
binder_of (Node.Scale w a) = None
binder_of (Node.Product a b span) = None
binder_of (Node.Min a b) = None
binder_of (Node.Max a b) = None
binder_of (Node.Imply a b) = None
binder_of (Node.CoImply a b) = None
binder_of (Node.Validate a) = None
binder_of (Node.CoValidate a) = None
binder_of (Node.Embed a) = None
binder_of (Node.Iverson a) = None
binder_of (Node.Select a b c) = None
binder_of (Node.Bind up w name ty a) = Some (w, a)
binder_of (Node.Truth v) = None
binder_of (Node.Flag w) = None
binder_of (Node.Not a) = None
binder_of (Node.And a b) = None
binder_of (Node.Or a b) = None
binder_of (Node.Same a b) = None
binder_of (Node.Le a b) = None
binder_of (Node.Lt a b) = None
binder_of (Node.EqNum a b) = None
binder_of (Node.Ite a b c) = None

-- The node is a Boolean variable.
abbrev pub is_flag : Node → Bool
is_flag (Node.Const v) = false
is_flag (Node.Var w) = false
is_flag (Node.Sum a b) = false
is_flag (Node.Diff a b) = false
is_flag (Node.Cut a b) = false
is_flag (Node.Scale w a) = false
is_flag (Node.Product a b span) = false
is_flag (Node.Min a b) = false
is_flag (Node.Max a b) = false
is_flag (Node.Imply a b) = false
is_flag (Node.CoImply a b) = false
is_flag (Node.Validate a) = false
is_flag (Node.CoValidate a) = false
is_flag (Node.Embed a) = false
is_flag (Node.Iverson a) = false
is_flag (Node.Select a b c) = false
is_flag (Node.Bind up w name ty a) = false
is_flag (Node.Truth v) = false
is_flag (Node.Flag w) = true
is_flag (Node.Not a) = false
is_flag (Node.And a b) = false
is_flag (Node.Or a b) = false
is_flag (Node.Same a b) = false
is_flag (Node.Le a b) = false
is_flag (Node.Lt a b) = false
is_flag (Node.EqNum a b) = false
is_flag (Node.Ite a b c) = false

-- The node with the variable `x`, if it is a variable.
abbrev pub with_variable : Node → ℕ → Node
with_variable (Node.Const v) x = Node.Const v
with_variable (Node.Var w) x = Node.Var x
with_variable (Node.Sum a b) x = Node.Sum a b
with_variable (Node.Diff a b) x = Node.Diff a b
with_variable (Node.Cut a b) x = Node.Cut a b
with_variable (Node.Scale w a) x = Node.Scale w a
with_variable (Node.Product a b span) x = Node.Product a b span
with_variable (Node.Min a b) x = Node.Min a b
with_variable (Node.Max a b) x = Node.Max a b
with_variable (Node.Imply a b) x = Node.Imply a b
with_variable (Node.CoImply a b) x = Node.CoImply a b
with_variable (Node.Validate a) x = Node.Validate a
with_variable (Node.CoValidate a) x = Node.CoValidate a
with_variable (Node.Embed a) x = Node.Embed a
with_variable (Node.Iverson a) x = Node.Iverson a
with_variable (Node.Select a b c) x = Node.Select a b c
with_variable (Node.Bind up w name ty a) x = Node.Bind up w name ty a
with_variable (Node.Truth v) x = Node.Truth v
with_variable (Node.Flag w) x = Node.Flag x
with_variable (Node.Not a) x = Node.Not a
with_variable (Node.And a b) x = Node.And a b
with_variable (Node.Or a b) x = Node.Or a b
with_variable (Node.Same a b) x = Node.Same a b
with_variable (Node.Le a b) x = Node.Le a b
with_variable (Node.Lt a b) x = Node.Lt a b
with_variable (Node.EqNum a b) x = Node.EqNum a b
with_variable (Node.Ite a b c) x = Node.Ite a b c

-- The node with the bound variable `x` and the body `p`, if it is a binder.
abbrev pub with_binder : Node → ℕ → ℕ → Node
with_binder (Node.Const v) x p = Node.Const v
with_binder (Node.Var w) x p = Node.Var w
with_binder (Node.Sum a b) x p = Node.Sum a b
with_binder (Node.Diff a b) x p = Node.Diff a b
with_binder (Node.Cut a b) x p = Node.Cut a b
with_binder (Node.Scale w a) x p = Node.Scale w a
with_binder (Node.Product a b span) x p = Node.Product a b span
with_binder (Node.Min a b) x p = Node.Min a b
with_binder (Node.Max a b) x p = Node.Max a b
with_binder (Node.Imply a b) x p = Node.Imply a b
with_binder (Node.CoImply a b) x p = Node.CoImply a b
with_binder (Node.Validate a) x p = Node.Validate a
with_binder (Node.CoValidate a) x p = Node.CoValidate a
with_binder (Node.Embed a) x p = Node.Embed a
with_binder (Node.Iverson a) x p = Node.Iverson a
with_binder (Node.Select a b c) x p = Node.Select a b c
with_binder (Node.Bind up w name ty a) x p = Node.Bind up x name ty p
with_binder (Node.Truth v) x p = Node.Truth v
with_binder (Node.Flag w) x p = Node.Flag w
with_binder (Node.Not a) x p = Node.Not a
with_binder (Node.And a b) x p = Node.And a b
with_binder (Node.Or a b) x p = Node.Or a b
with_binder (Node.Same a b) x p = Node.Same a b
with_binder (Node.Le a b) x p = Node.Le a b
with_binder (Node.Lt a b) x p = Node.Lt a b
with_binder (Node.EqNum a b) x p = Node.EqNum a b
with_binder (Node.Ite a b c) x p = Node.Ite a b c
