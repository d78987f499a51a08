-- The value of an extended number of the code.
use Rattle.heyvl_num.specs.Value.{Value}
use Rattle.heyvl_num.specs.Value.Value.{finite, infinite}
use Rattle.heyvl_num.specs.declared.extended_numbers.Ext.{Ext}

-- `value_of x`: the value that the extended number `x` represents.
abbrev pub value_of : Ext → Value
value_of (Ext.Fin x) = finite x
value_of Ext.Inf = infinite
