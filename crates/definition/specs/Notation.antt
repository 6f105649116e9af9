-- A short notation for the books of the two tables.
use Rattle.std.specs.Prelude.{List, [], ◌∷◌, map, cond, ℕ, zero, suc, ◌+◌, ◌-◌, ◌*◌, ltb, replicate}
use Prim.Native.Char.{Char, code}
use Prim.Native.String.{String}
use Rattle.definition.specs.Utf8.{utf8}
use Rattle.definition.specs.Tree.{Name, constraint_int, bits, enum, tail, nothing, Len, wrap, vec, option, array, ordinary, dependent, Combinator, plain, Inner, leaf, struct, shell, bytes, invocation, macro_invocation, Fields, no_field, field, Cases, case, Inners, no_inner, inner, Param, Definition, format, macro}

-- bytes as document 01 writes them: two upper-case digits each, a space between
abbrev digit : Char → ℕ
digit c = cond (ltb (code c) 58) (code c - 48) (code c - 55)

unfoldable pub hex : String → List ℕ
hex String.[] = []
hex (String.◌∷◌ a String.[]) = []
hex (String.◌∷◌ a (String.◌∷◌ b String.[])) = (16 * digit a + digit b) ∷ []
hex (String.◌∷◌ a (String.◌∷◌ b (String.◌∷◌ c s))) = (16 * digit a + digit b) ∷ hex s

-- inners
abbrev pub Int : String → Inner
Int x = leaf constraint_int (utf8 x)

abbrev pub Enum : Inner
Enum = leaf enum []

abbrev pub Bits : Inner
Bits = leaf bits []

abbrev pub Tail : Inner
Tail = leaf tail []

abbrev pub Nothing : Inner
Nothing = leaf nothing []

abbrev pub roots : List String → Len
roots rs = record { roots = map utf8 rs; text = [] }

abbrev pub Bytes : List String → Inner
Bytes rs = bytes (roots rs)

abbrev pub Vec : Combinator → Inner
Vec c = shell vec c

abbrev pub Option : Combinator → Inner
Option c = shell option c

abbrev pub Array : List String → Combinator → Inner
Array rs c = shell (array (roots rs)) c

abbrev pub Wrap : Combinator → Inner
Wrap c = shell (wrap (utf8 "<") (utf8 ">")) c

abbrev pub Call : String → List String → Inner
Call n xs = invocation (utf8 n) (map utf8 xs)

-- fields and cases, with what follows
abbrev pub ord : String → Combinator → Fields → Fields
ord l c f = field ordinary (utf8 l) c f

abbrev pub dep : String → Combinator → Fields → Fields
dep l c f = field dependent (utf8 l) c f

abbrev pub on : String → Combinator → Cases → Cases
on l c f = case (utf8 l) c f

-- a struct of one field
abbrev pub one : String → Combinator → Combinator
one l c = plain (struct (ord l c no_field))

-- k Vecs around a combinator
unfoldable pub vecs : ℕ → Combinator → Combinator
vecs zero c = c
vecs (suc k) c = plain (Vec (vecs k c))

-- arguments of a macro
unfoldable pub args : List Inner → Inners
args [] = no_inner
args (i ∷ is) = inner i (args is)

abbrev pub Macro : String → List Inner → Inner
Macro n is = macro_invocation (utf8 n) (args is)

-- definitions
abbrev pub param : String → Inner → Param
param n i = record { name = utf8 n; type = i }

abbrev pub fmt : String → List Param → Combinator → Definition
fmt n ps c = format (utf8 n) ps c

abbrev pub mac : String → List String → Combinator → Definition
mac n ps c = macro (utf8 n) (map utf8 ps) c

-- a book of one format m, without parameters
abbrev pub m : Combinator → List Definition
m c = fmt "m" [] c ∷ []

-- a name of n bytes, and a leaf whose text has n
abbrev pub long : ℕ → Name
long n = replicate n 107

abbrev pub fat : ℕ → Combinator
fat n = plain (leaf enum (replicate n 46))
