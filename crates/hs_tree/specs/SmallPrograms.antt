-- Small programs, and what they give: a statement for each.
use Rattle.std.specs.Prelude.{◌≡◌, ℕ, true, false, List, [], ◌∷◌, map, replicate, Some, None, pos, codes}
use Rattle.hs_words.specs.declared.kinds.IntTy.TheVariants.{PU8, PU32, PUsize}
use Rattle.hs_words.specs.declared.kinds.Panic.TheVariants.{Division}
use Rattle.hs_values.specs.declared.types.ValType.{ValType}
use Rattle.hs_values.specs.declared.types.ValType.TheVariants as type
use Rattle.hs_values.specs.declared.value.Sort.TheVariants as sort
use Rattle.hs_tree.specs.Plain.{Name, Local, turns, foldcf, top, binds, anything, Exp, var, lit, truth, unit, tuple, list, ctor, op, call, and, or, in_side, exit, cont, Exps, no_exps, exp, no_args, arg, lend, plain, if_else, match_on, block, lendcall, quest, forcf, carry, no_arms, arm, here, at, Block, let_in, do_in, set_in, place_in, for_in, ends, returns, bind, val, mut, Function, Program}
use Rattle.hs_tree.specs.Features.{MutArg}
use Rattle.hs_tree.specs.Count.{uses, loops}
use Rattle.hs_control.specs.Control.{Val, Truth, Number, Row, Tuple, Ctor, NoVals, Also, vals_of}
use Rattle.hs_tree.specs.Store.{value, panic, Back, NoCall, Ended}
use Rattle.hs_tree.specs.Steps.{size}
use Rattle.hs_tree.specs.Call.{Moves, no_moves, results}

-- values
abbrev pub byte : ℕ → Val
byte n = Number (record { kind = PU8; number = pos n })

abbrev pub word : ℕ → Val
word n = Number (record { kind = PU32; number = pos n })

abbrev pub bytes : List ℕ → Val
bytes ns = Row (vals_of (map byte ns))

abbrev pub u8 : ValType
u8 = type.Int PU8

abbrev pub usize : ValType
usize = type.Int PUsize

abbrev pub u32 : ValType
u32 = type.Int PU32

-- numbers as literals
abbrev pub lit_byte : ℕ → Exp
lit_byte n = lit (record { kind = PU8; number = pos n })

abbrev pub lit_word : ℕ → Exp
lit_word n = lit (record { kind = PU32; number = pos n })

abbrev pub lit_size : ℕ → Exp
lit_size n = lit (record { kind = PUsize; number = pos n })

abbrev pub one : Exp → Exps
one e = exp e no_exps

abbrev pub two : Exp → Exp → Exps
two a b = exp a (exp b no_exps)

abbrev pub local : Name → ℕ → Local
local name k = record { name = name; number = k }

abbrev pub program : List Function → Program
program fs = record { types = []; constants = []; functions = fs }

-- fn g(i: usize) -> u8 { let z = 0usize; (i / z) as u8 }
abbrev pub g : Function
g =
    record {
      name = codes "g";
      params = record { mode = val; local = local (codes "i") 0; type = usize } ∷ [];
      type = u8;
      body =
          let_in (binds (local (codes "z") 1)) (plain (lit_size 0))
          (ends (plain (op (codes "u8_of_usize") (one (op (codes "usize_div") (two (var (local (codes "i") 0)) (var (local (codes "z") 1))))))));
    }

-- fn w() -> u8 { let mut a = Seq::<u8>::new(2); let i = 9; a[i] = g(i); a[0] }
abbrev pub w : Function
w =
    record {
      name = codes "w";
      params = [];
      type = u8;
      body =
          let_in (binds (local (codes "a") 0)) (plain (op (codes "q_make") (two (lit_byte 0) (lit_size 2))))
          (let_in (binds (local (codes "i") 1)) (plain (lit_size 9))
          (place_in None (local (codes "a") 0) (at (var (local (codes "i") 1)) here) (plain (call (codes "g") (one (var (local (codes "i") 1)))))
          (ends (plain (op (codes "q_item") (two (var (local (codes "a") 0)) (lit_size 0)))))));
    }

-- the right side is run first
abbrev pub RightSideFirst : Type 0
RightSideFirst = results (program (g ∷ w ∷ [])) no_moves (codes "w") [] ≡ Ended (panic Division) 2

-- fn s(c: bool) -> bool { c && 1u32 / 0 == 0 }
abbrev pub s : Function
s =
    record {
      name = codes "s";
      params = record { mode = val; local = local (codes "c") 0; type = type.Bool } ∷ [];
      type = type.Bool;
      body =
          ends (plain (and (var (local (codes "c") 0)) (op (codes "same") (two (op (codes "u32_div") (two (lit_word 1) (lit_word 0))) (lit_word 0)))));
    }

-- the second operand is run only where the first does not decide
abbrev pub ShortCircuit : Type 0
ShortCircuit = results (program (s ∷ [])) no_moves (codes "s") (Truth false ∷ []) ≡ Ended (value (Truth false)) 1

abbrev pub BothOperands : Type 0
BothOperands = results (program (s ∷ [])) no_moves (codes "s") (Truth true ∷ []) ≡ Ended (panic Division) 1

-- fn first(n: usize) -> usize { for i in 0..n { if i == 3 { return i; } } n }
abbrev pub first : Function
first =
    record {
      name = codes "first";
      params = record { mode = val; local = local (codes "n") 0; type = usize } ∷ [];
      type = usize;
      body =
          for_in (local (codes "i") 1) (lit_size 0) (var (local (codes "n") 0))
          (ends (if_else (op (codes "same") (two (var (local (codes "i") 1)) (lit_size 3))) (returns (var (local (codes "i") 1))) (ends (plain unit))))
          (ends (plain (var (local (codes "n") 0))));
    }

-- the turn that returns is the last
abbrev pub LoopReturns : Type 0
LoopReturns = results (program (first ∷ [])) no_moves (codes "first") (size 9 ∷ []) ≡ Ended (value (size 3)) 5

abbrev pub LoopEnds : Type 0
LoopEnds = results (program (first ∷ [])) no_moves (codes "first") (size 2 ∷ []) ≡ Ended (value (size 2)) 3

abbrev pub LoopIsCounted : Type 0
LoopIsCounted = loops first ≡ 1

-- fn e() -> u32 { let mut x = 3u32; for i in 5..3 { x = 0; } for i in 0..0 { x = 1; } for i in 18446744073709551615..18446744073709551615 { x = 2; } x }
abbrev pub e : Function
e =
    record {
      name = codes "e";
      params = [];
      type = u32;
      body =
          let_in (binds (local (codes "x") 0)) (plain (lit_word 3))
          (for_in (local (codes "i") 1) (lit_size 5) (lit_size 3) (set_in (local (codes "x") 0) (plain (lit_word 0)) (ends (plain unit)))
          (for_in (local (codes "i") 2) (lit_size 0) (lit_size 0) (set_in (local (codes "x") 0) (plain (lit_word 1)) (ends (plain unit)))
          (for_in (local (codes "i") 3) (lit_size 18446744073709551615) (lit_size 18446744073709551615) (set_in (local (codes "x") 0) (plain (lit_word 2)) (ends (plain unit)))
          (ends (plain (var (local (codes "x") 0)))))));
    }

-- a loop whose bounds hold nothing between them takes no turn
abbrev pub EmptyLoops : Type 0
EmptyLoops = results (program (e ∷ [])) no_moves (codes "e") [] ≡ Ended (value (word 3)) 1

-- fn f(z: &mut u32) -> Result<u32, u8> { *z = 1; Err(2) }
abbrev pub answers : ValType
answers = type.Result u32 u8

abbrev pub f : Function
f =
    record {
      name = codes "f";
      params = record { mode = mut; local = local (codes "z") 0; type = u32 } ∷ [];
      type = answers;
      body = set_in (local (codes "z") 0) (plain (lit_word 1)) (ends (plain (ctor answers (codes "Err") (one (lit_byte 2)))));
    }

-- fn q(a: u32, b: u32) -> Result<u32, u8> { let mut z = 0u32; let y = (a / b) + f(&mut z)?; Ok(y) }
abbrev pub q : Function
q =
    record {
      name = codes "q";
      params =
          record { mode = val; local = local (codes "a") 0; type = u32 } ∷ record { mode = val; local = local (codes "b") 1; type = u32 } ∷ [];
      type = answers;
      body =
          let_in (binds (local (codes "z") 2)) (plain (lit_word 0))
          (let_in (binds (local (codes "y") 3))
          (plain (op (codes "u32_add") (two
          (op (codes "u32_div") (two (var (local (codes "a") 0)) (var (local (codes "b") 1))))
          (in_side (quest (in_side (lendcall (codes "f") (lend (local (codes "z") 2) no_args))))))))
          (ends (plain (ctor answers (codes "Ok") (one (var (local (codes "y") 3)))))));
    }

abbrev pub err : Val
err = Ctor sort.Result 1 (Also (byte 2) NoVals)

-- a mutable parameter's final value is given before the value
abbrev pub MutableParameterFirst : Type 0
MutableParameterFirst = results (program (f ∷ [])) no_moves (codes "f") (word 0 ∷ []) ≡ Ended (value (Tuple (Also (word 1) (Also err NoVals)))) 1

abbrev pub MutableParameterIsUsed : Type 0
MutableParameterIsUsed = uses MutArg (program (f ∷ [])) ≡ 1

-- an operand before `?` is run before it
abbrev pub OperandBeforeQuestionMark : Type 0
OperandBeforeQuestionMark = results (program (f ∷ q ∷ [])) no_moves (codes "q") (word 1 ∷ word 0 ∷ []) ≡ Ended (panic Division) 1

abbrev pub QuestionMarkReturns : Type 0
QuestionMarkReturns = results (program (f ∷ q ∷ [])) no_moves (codes "q") (word 1 ∷ word 1 ∷ []) ≡ Ended (value err) 2

-- fn m(s: Seq<u8>) -> Seq<u8> { let t = s; s }
abbrev pub m : Function
m =
    record {
      name = codes "m";
      params = record { mode = val; local = local (codes "s") 0; type = type.Seq u8 } ∷ [];
      type = type.Seq u8;
      body = let_in (binds (local (codes "t") 1)) (plain (var (local (codes "s") 0))) (ends (plain (var (local (codes "s") 0))));
    }

-- in a source each local of `m` is moved by a read by value
abbrev pub all_move : Moves
all_move f k = true

-- a local whose value was moved out has no read
abbrev pub MovedLocalHasNoRead : Type 0
MovedLocalHasNoRead = results (program (m ∷ [])) all_move (codes "m") (Row NoVals ∷ []) ≡ NoCall

abbrev pub LaterNothingMoves : Type 0
LaterNothingMoves = results (program (m ∷ [])) no_moves (codes "m") (Row NoVals ∷ []) ≡ Ended (value (Row NoVals)) 1

-- fn c(n: usize) -> usize, at the last stage: the first number at 2 or above ends the fold
abbrev pub c : Function
c =
    record {
      name = codes "c";
      params = record { mode = val; local = local (codes "n") 0; type = usize } ∷ [];
      type = usize;
      body =
          bind top anything
          (carry foldcf (local (codes "i") 1) (lit_size 0) (var (local (codes "n") 0)) unit anything
          (ends (if_else (op (codes "same") (two (var (local (codes "i") 1)) (lit_size 2))) (ends (plain (exit (var (local (codes "i") 1))))) (ends (plain (cont unit))))))
          (ends (plain (lit_size 7)));
    }

abbrev pub FoldEndsEarly : Type 0
FoldEndsEarly = results (program (c ∷ [])) no_moves (codes "c") (size 9 ∷ []) ≡ Ended (value (size 2)) 4

abbrev pub FoldGoesOn : Type 0
FoldGoesOn = results (program (c ∷ [])) no_moves (codes "c") (size 2 ∷ []) ≡ Ended (value (size 7)) 3

-- fn n() -> usize {
--     let mut s = 0; let mut t = 0;
--     for i in 0..4 { s += 10; t += 1; for j in 0..4 { if i == 2 { if j == 2 { return s + t + j; } } } }
--     0
-- }
abbrev pub same_size : ℕ → Name → ℕ → Exp
same_size k name n = op (codes "same") (two (var (local name k)) (lit_size n))

abbrev pub sum_size : Exp → Exp → Exp
sum_size a b = op (codes "usize_add") (two a b)

abbrev pub inner : Block
inner =
    for_in (local (codes "j") 3) (lit_size 0) (lit_size 4)
    (ends (if_else (same_size 2 (codes "i") 2)
    (ends (if_else (same_size 3 (codes "j") 2)
    (returns (sum_size (sum_size (var (local (codes "s") 0)) (var (local (codes "t") 1))) (var (local (codes "j") 3))))
    (ends (plain unit))))
    (ends (plain unit))))
    (ends (plain unit))

abbrev pub n : Function
n =
    record {
      name = codes "n";
      params = [];
      type = usize;
      body =
          let_in (binds (local (codes "s") 0)) (plain (lit_size 0))
          (let_in (binds (local (codes "t") 1)) (plain (lit_size 0))
          (for_in (local (codes "i") 2) (lit_size 0) (lit_size 4)
          (place_in (Some (codes "usize_add")) (local (codes "s") 0) here (plain (lit_size 10))
          (place_in (Some (codes "usize_add")) (local (codes "t") 1) here (plain (lit_size 1)) inner))
          (ends (plain (lit_size 0)))));
    }

abbrev pub ReturnFromNestedLoops : Type 0
ReturnFromNestedLoops = results (program (n ∷ [])) no_moves (codes "n") [] ≡ Ended (value (size 35)) 15

abbrev pub NestedLoopsAreCounted : Type 0
NestedLoopsAreCounted = loops n ≡ 2

-- fn g(y: u32) -> u32 { y }
abbrev pub same_word : Function
same_word =
    record {
      name = codes "g";
      params = record { mode = val; local = local (codes "y") 0; type = u32 } ∷ [];
      type = u32;
      body = ends (plain (var (local (codes "y") 0)));
    }

-- fn h(c: bool) -> u32 { let mut x = 0u32; if c { x = 5; let x = 7u32; g(x); } x }
abbrev pub h : Function
h =
    record {
      name = codes "h";
      params = record { mode = val; local = local (codes "c") 0; type = type.Bool } ∷ [];
      type = u32;
      body =
          let_in (binds (local (codes "x") 1)) (plain (lit_word 0))
          (do_in
          (if_else (var (local (codes "c") 0))
          (set_in (local (codes "x") 1) (plain (lit_word 5))
          (let_in (binds (local (codes "x") 2)) (plain (lit_word 7))
          (do_in (plain (call (codes "g") (one (var (local (codes "x") 2))))) (ends (plain unit)))))
          (ends (plain unit)))
          (ends (plain (var (local (codes "x") 1)))));
    }

-- an inner local of the same name is another one
abbrev pub OuterLocalIsAssigned : Type 0
OuterLocalIsAssigned = results (program (same_word ∷ h ∷ [])) no_moves (codes "h") (Truth true ∷ []) ≡ Ended (value (word 5)) 2

abbrev pub OuterLocalStays : Type 0
OuterLocalStays = results (program (same_word ∷ h ∷ [])) no_moves (codes "h") (Truth false ∷ []) ≡ Ended (value (word 0)) 1

-- fn frozen() -> u32 { let mut x = 1u32; x + { x = 5; x } }
abbrev pub frozen : Function
frozen =
    record {
      name = codes "frozen";
      params = [];
      type = u32;
      body =
          let_in (binds (local (codes "x") 0)) (plain (lit_word 1))
          (ends (plain (op (codes "u32_add") (two (var (local (codes "x") 0)) (in_side (block (set_in (local (codes "x") 0) (plain (lit_word 5)) (ends (plain (var (local (codes "x") 0)))))))))));
    }

-- an operand is read before a later one assigns its local
abbrev pub OperandIsReadFirst : Type 0
OperandIsReadFirst = results (program (frozen ∷ [])) no_moves (codes "frozen") [] ≡ Ended (value (word 6)) 1

-- fn step(k: usize) -> Result<u8, bool> { if k == 2 { Err(true) } else { Ok(7) } }
abbrev pub byte_or : ValType
byte_or = type.Result u8 type.Bool

abbrev pub step : Function
step =
    record {
      name = codes "step";
      params = record { mode = val; local = local (codes "k") 0; type = usize } ∷ [];
      type = byte_or;
      body =
          ends (if_else (same_size 0 (codes "k") 2) (ends (plain (ctor byte_or (codes "Err") (one (truth true))))) (ends (plain (ctor byte_or (codes "Ok") (one (lit_byte 7))))));
    }

-- fn fill(a: &mut Seq<u8>, n: usize) -> Result<u8, bool> { for k in 0..n { let v = step(k)?; *a = a.push(&v); } Ok(0) }
abbrev pub fill : Function
fill =
    record {
      name = codes "fill";
      params =
          record { mode = mut; local = local (codes "a") 0; type = type.Seq u8 } ∷ record { mode = val; local = local (codes "n") 1; type = usize } ∷ [];
      type = byte_or;
      body =
          for_in (local (codes "k") 2) (lit_size 0) (var (local (codes "n") 1))
          (let_in (binds (local (codes "v") 3)) (quest (call (codes "step") (one (var (local (codes "k") 2)))))
          (set_in (local (codes "a") 0) (plain (op (codes "q_push") (two (var (local (codes "a") 0)) (var (local (codes "v") 3)))))
          (ends (plain unit))))
          (ends (plain (ctor byte_or (codes "Ok") (one (lit_byte 0)))));
    }

-- the mutable parameter's value at the exit is given back
abbrev pub LentSequenceAtExit : Type 0
LentSequenceAtExit = results (program (step ∷ fill ∷ [])) no_moves (codes "fill") (bytes (0 ∷ []) ∷ size 5 ∷ []) ≡ Ended (value (Tuple (Also (bytes (0 ∷ 7 ∷ 7 ∷ [])) (Also (Ctor sort.Result 1 (Also (Truth true) NoVals)) NoVals)))) 7

abbrev pub LentSequenceAtEnd : Type 0
LentSequenceAtEnd = results (program (step ∷ fill ∷ [])) no_moves (codes "fill") (bytes (0 ∷ []) ∷ size 2 ∷ []) ≡ Ended (value (Tuple (Also (bytes (0 ∷ 7 ∷ 7 ∷ [])) (Also (Ctor sort.Result 0 (Also (byte 0) NoVals)) NoVals)))) 5

-- fn z() -> u32 { let mut x = 0u32; f(&mut x); x }
abbrev pub z : Function
z =
    record {
      name = codes "z";
      params = [];
      type = u32;
      body =
          let_in (binds (local (codes "x") 0)) (plain (lit_word 0))
          (do_in (lendcall (codes "f") (lend (local (codes "x") 0) no_args)) (ends (plain (var (local (codes "x") 0)))));
    }

-- a lent local holds the final value behind the call
abbrev pub LentLocalBehindCall : Type 0
LentLocalBehindCall = results (program (f ∷ z ∷ [])) no_moves (codes "z") [] ≡ Ended (value (word 1)) 2

-- an expression that panics
abbrev pub panics : Exp
panics = op (codes "u32_div") (two (lit_word 1) (lit_word 0))

-- an expression that returns 3
abbrev pub exits : Exp
exits = in_side (block (returns (lit_word 3)))

abbrev pub last : Exp → Block
last x = ends (plain x)

abbrev pub k : Local
k = local (codes "k") 0

-- blocks with an expression at each place of each form; what stands behind it panics
abbrev pub with_exp : Exp → List Block
with_exp x =
    last (tuple (two x panics)) ∷ last (tuple (two unit x)) ∷ last (list (two x panics)) ∷ last (ctor answers (codes "Ok") (one x))
    ∷ last (op (codes "u32_add") (two x panics)) ∷ last (op (codes "u32_add") (two (lit_word 1) x)) ∷ last (call (codes "g") (one x))
    ∷ last (and x panics) ∷ last (and (truth true) x) ∷ last (or x panics) ∷ last (or (truth false) x)
    ∷ last (in_side (plain x)) ∷ last (exit x) ∷ last (cont x)
    ∷ ends (if_else x (last panics) (last panics)) ∷ ends (if_else (truth true) (last x) (last panics))
    ∷ ends (if_else (truth false) (last panics) (last x)) ∷ ends (match_on x (arm anything (last panics) no_arms))
    ∷ ends (match_on unit (arm anything (last x) no_arms)) ∷ ends (block (last x)) ∷ ends (lendcall (codes "g") (arg x no_args)) ∷ ends (quest x)
    ∷ ends (forcf k x panics (last panics)) ∷ ends (forcf k (lit_size 0) x (last panics))
    ∷ ends (carry turns k x panics panics anything (last panics)) ∷ ends (carry foldcf k (lit_size 0) x panics anything (last panics))
    ∷ ends (carry turns k (lit_size 0) (lit_size 0) x anything (last panics))
    ∷ let_in anything (plain x) (last panics) ∷ do_in (plain x) (last panics) ∷ do_in (plain unit) (last x)
    ∷ set_in k (plain x) (last panics) ∷ place_in None k (at panics here) (plain x) (last panics) ∷ place_in None k (at x here) (plain unit) (last panics)
    ∷ for_in k x panics (last panics) (last panics) ∷ for_in k (lit_size 0) x (last panics) (last panics)
    ∷ for_in k (lit_size 0) (lit_size 0) (last panics) (last x) ∷ returns x ∷ bind top anything (plain x) (last panics) ∷ []

abbrev pub in_body : Block → Function
in_body b = record { name = codes "p"; params = []; type = type.Unit; body = b }

abbrev pub ran : Block → Back
ran b = results (program (in_body b ∷ [])) no_moves (codes "p") []

-- the first that stops decides, at each place
abbrev pub PanicAtEachPlace : Type 0
PanicAtEachPlace = map ran (with_exp panics) ≡ replicate 38 (Ended (panic Division) 1)

abbrev pub ExitAtEachPlace : Type 0
ExitAtEachPlace = map ran (with_exp exits) ≡ replicate 38 (Ended (value (word 3)) 1)

-- fn sum(n: usize) -> usize { let mut s = 0; for i in 0..n { s += i; } s }
abbrev pub sum : Function
sum =
    record {
      name = codes "sum";
      params = record { mode = val; local = local (codes "n") 0; type = usize } ∷ [];
      type = usize;
      body =
          let_in (binds (local (codes "s") 1)) (plain (lit_size 0))
          (for_in (local (codes "i") 2) (lit_size 0) (var (local (codes "n") 0))
          (place_in (Some (codes "usize_add")) (local (codes "s") 1) here (plain (var (local (codes "i") 2))) (ends (plain unit)))
          (ends (plain (var (local (codes "s") 1)))));
    }

abbrev pub Sum : Type 0
Sum = results (program (sum ∷ [])) no_moves (codes "sum") (size 4 ∷ []) ≡ Ended (value (size 6)) 5
