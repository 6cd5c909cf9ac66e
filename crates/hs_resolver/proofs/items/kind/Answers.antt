use Rattle.hs_resolver.proofs.items.kind.Goals as goal

pub returns-in-Const-clause-walks : goal.returns-in-Const-clause-walks
returns-in-Const-clause-walks c = rw c.in-Const.is c.constant.ensures.walks

pub returns-in-Const-clause-before : goal.returns-in-Const-clause-before
returns-in-Const-clause-before c = rw c.in-Const.is c.constant.ensures.before

pub returns-in-Alias-clause-walks : goal.returns-in-Alias-clause-walks
returns-in-Alias-clause-walks c = rw c.in-Alias.is c.typed.ensures.walks

pub returns-in-Alias-clause-before : goal.returns-in-Alias-clause-before
returns-in-Alias-clause-before c = rw c.in-Alias.is c.typed.ensures.before

pub returns-in-Struct-clause-walks : goal.returns-in-Struct-clause-walks
returns-in-Struct-clause-walks c = rw c.in-Struct.is c.struct_.ensures.walks

pub returns-in-Struct-clause-before : goal.returns-in-Struct-clause-before
returns-in-Struct-clause-before c = rw c.in-Struct.is c.struct_.ensures.before

pub returns-in-Enum-clause-walks : goal.returns-in-Enum-clause-walks
returns-in-Enum-clause-walks c = rw c.in-Enum.is c.enum_.ensures.walks

pub returns-in-Enum-clause-before : goal.returns-in-Enum-clause-before
returns-in-Enum-clause-before c = rw c.in-Enum.is c.enum_.ensures.before

pub returns-in-Fn-clause-walks : goal.returns-in-Fn-clause-walks
returns-in-Fn-clause-walks c = rw c.in-Fn.is c.named_function.ensures.walks

pub returns-in-Fn-clause-before : goal.returns-in-Fn-clause-before
returns-in-Fn-clause-before c = rw c.in-Fn.is c.named_function.ensures.before

pub returns-in-Array-clause-walks : goal.returns-in-Array-clause-walks
returns-in-Array-clause-walks c = rw c.in-Array.is c.typed-in-Array.ensures.walks

pub returns-in-Array-clause-before : goal.returns-in-Array-clause-before
returns-in-Array-clause-before c = rw c.in-Array.is c.typed-in-Array.ensures.before

pub returns-in-Bytes-clause-walks : goal.returns-in-Bytes-clause-walks
returns-in-Bytes-clause-walks c = rw c.in-Bytes.is c.item_name.ensures.walks

pub returns-in-Bytes-clause-before : goal.returns-in-Bytes-clause-before
returns-in-Bytes-clause-before c = rw c.in-Bytes.is c.item_name.ensures.before

pub returns-in-NatMod-clause-walks : goal.returns-in-NatMod-clause-walks
returns-in-NatMod-clause-walks c = rw c.in-NatMod.is c.nat_mod.ensures.walks

pub returns-in-NatMod-clause-before : goal.returns-in-NatMod-clause-before
returns-in-NatMod-clause-before c = rw c.in-NatMod.is c.nat_mod.ensures.before
