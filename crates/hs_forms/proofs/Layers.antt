-- The layer of an expression that a variant makes.
use Rattle.std.proofs.Common.{◌≡◌, Bool, List, rules}
use Rattle.hs_syntax.specs.declared.span.Span.{Span}
use Rattle.hs_syntax.specs.declared.span.Int.{Int}
use Rattle.hs_syntax.specs.declared.exp.Path.{Path}
use Rattle.hs_syntax.specs.declared.exp.PrefixOp.{PrefixOp}
use Rattle.hs_syntax.specs.declared.exp.Exp.{Exp, out-Exp, the_lemmas}
use Rattle.hs_syntax.specs.declared.exp.Exp.TheVariants as exp
use Rattle.hs_syntax.specs.declared.exp.Else.{Else}
use Rattle.hs_syntax.specs.declared.exp.If.{If}
use Rattle.hs_syntax.specs.declared.exp.Step.{Step}
use Rattle.hs_syntax.specs.declared.exp.Postfix.{Postfix, out-Postfix}
use Rattle.hs_syntax.specs.declared.exp.Postfix.TheVariants as postfix
use Rattle.hs_syntax.specs.declared.exp.Arg.{Arg}
use Rattle.hs_syntax.specs.declared.exp.Stmt.{Stmt}
use Rattle.hs_syntax.specs.declared.exp.Arm.{Arm}
use Rattle.hs_syntax.specs.declared.exp.Block.{Block}
use Rattle.hs_syntax.specs.declared.exp.Operand.{Operand}
use Rattle.hs_syntax.specs.declared.exp.Arg.TheOpen.{Exp-F, Postfix-F}
use Rattle.hs_syntax.specs.declared.exp.Arg.TheOpen as layer

abbrev pub Layer : Type 0
Layer = Exp-F Arg Else Exp Postfix Step Stmt Arm Block If Operand

abbrev pub PostfixLayer : Type 0
PostfixLayer = Postfix-F Arg Else Exp Postfix Step Stmt Arm Block If Operand

pub out_int : (i : Int) → ◌≡◌ {A = Layer} (out-Exp (exp.Int i)) (layer.Int i)
out_int i = search (rules, the_lemmas)

pub out_bool : (s : Span) (b : Bool) → ◌≡◌ {A = Layer} (out-Exp (exp.Bool s b)) (layer.Bool s b)
out_bool s b = search (rules, the_lemmas)

pub out_unit : (s : Span) → ◌≡◌ {A = Layer} (out-Exp (exp.Unit s)) (layer.Unit s)
out_unit s = search (rules, the_lemmas)

pub out_group : (s : Span) (e : Exp) → ◌≡◌ {A = Layer} (out-Exp (exp.Group s e)) (layer.Group s e)
out_group s e = search (rules, the_lemmas)

pub out_tuple : (s : Span) (es : List Exp) → ◌≡◌ {A = Layer} (out-Exp (exp.Tuple s es)) (layer.Tuple s es)
out_tuple s es = search (rules, the_lemmas)

pub out_path : (p : Path) → ◌≡◌ {A = Layer} (out-Exp (exp.Path p)) (layer.Path p)
out_path p = search (rules, the_lemmas)

pub out_call : (s : Span) (p : Path) (as' : List Arg) → ◌≡◌ {A = Layer} (out-Exp (exp.Call s p as')) (layer.Call s p as')
out_call s p as' = search (rules, the_lemmas)

pub out_block : (b : Block) → ◌≡◌ {A = Layer} (out-Exp (exp.Block b)) (layer.Block b)
out_block b = search (rules, the_lemmas)

pub out_if : (i : If) → ◌≡◌ {A = Layer} (out-Exp (exp.If i)) (layer.If i)
out_if i = search (rules, the_lemmas)

pub out_match : (s : Span) (e : Exp) (as' : List Arm) → ◌≡◌ {A = Layer} (out-Exp (exp.Match s e as')) (layer.Match s e as')
out_match s e as' = search (rules, the_lemmas)

pub out_post : (s : Span) (e : Exp) (ps : List Postfix) → ◌≡◌ {A = Layer} (out-Exp (exp.Post s e ps)) (layer.Post s e ps)
out_post s e ps = search (rules, the_lemmas)

pub out_prefix : (s : Span) (o : PrefixOp) (e : Exp) → ◌≡◌ {A = Layer} (out-Exp (exp.Prefix s o e)) (layer.Prefix s o e)
out_prefix s o e = search (rules, the_lemmas)

pub out_cast : (s : Span) (e : Exp) (ns : List Span) → ◌≡◌ {A = Layer} (out-Exp (exp.Cast s e ns)) (layer.Cast s e ns)
out_cast s e ns = search (rules, the_lemmas)

pub out_binary : (s : Span) (e : Exp) (os : List Operand) → ◌≡◌ {A = Layer} (out-Exp (exp.Binary s e os)) (layer.Binary s e os)
out_binary s e os = search (rules, the_lemmas)

pub out_try : (s : Span) → ◌≡◌ {A = PostfixLayer} (out-Postfix (postfix.Try s)) (layer.Try s)
out_try s = search (rules, the_lemmas)

pub out_method : (s n : Span) (as' : List Arg) → ◌≡◌ {A = PostfixLayer} (out-Postfix (postfix.Method s n as')) (layer.Method s n as')
out_method s n as' = search (rules, the_lemmas)

pub out_step : (t : Step) → ◌≡◌ {A = PostfixLayer} (out-Postfix (postfix.Step t)) (layer.Step t)
out_step t = search (rules, the_lemmas)
