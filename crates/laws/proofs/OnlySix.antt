-- A pass is refused with no code but 6.
use mathlib.Core.Path.{◌≡◌, refl}
use mathlib.Core.List.{List, [], ◌∷◌}
use mathlib.Core.Bool.{Bool, true, false, ◌&&◌}
use lib.Dec.{leb}
use Rattle.definition.specs.Code.{Code, macro_growth}
use Rattle.definition.specs.Out.{Out, refused, done, ◌>>=◌, given}
use Rattle.definition.specs.Tree.{Name, Combinator, plain, chained, Inner, leaf, struct, choice, shell, bytes, invocation, macro_invocation, Fields, no_field, field, const, Cases, no_case, case, Inners, no_inner, inner, Definition, format, constant, byte_order, macro}
use Rattle.definition.specs.Names.{eq_name}
use Rattle.definition.specs.Size.{size, levels, size_book, levels_book}
use Rattle.definition.specs.Macros.{Macro, subst, limited, instance, inner_of, expand_by, expand_macro, expand, expand_i, expand_f, expand_c, expand_all}

module _ {A : Type 0} where
  pub data Grows : Out A → Type 0 where
    six : Grows (refused macro_growth)
    none : (a : A) → Grows (done a)

  pub code_six : {k : Code} → Grows (refused k) → k ≡ macro_growth
  code_six six = refl

  where-fits : (t : Bool) (a : A) → Grows (given t macro_growth a)
  where-fits true a = none a
  where-fits false a = six

module _ {A B : Type 0} where
  then : {m : Out A} {f : A → Out B} → Grows m → ((a : A) → Grows (f a)) → Grows (m >>= f)
  then six g = six
  then (none a) g = g a

instances : (ps : List Name) (xs : Inners) (c : Combinator) → Grows (instance ps xs c)
unfolding instance limited
instances [] xs c = none c
instances (p ∷ ps) no_inner c = none c
instances (p ∷ ps) (inner a xs) c = then (where-fits (leb (size (subst c p a)) 16384 && leb (levels (subst c p a)) 64) (subst c p a)) (λ d. instances ps xs d)

by_name : (b : Bool) (m : Macro) (xs : Inners) (next : Out Inner) → Grows next → Grows (expand_by b m xs next)
unfolding expand_by
by_name true m xs next g = then (instances m.params xs m.body) (λ c. none (inner_of c))
by_name false m xs next g = g

calls : (ms : List Macro) (n : Name) (xs : Inners) → Grows (expand_macro ms n xs)
unfolding expand_macro
calls [] n xs = none (macro_invocation n xs)
calls (m ∷ ms) n xs = by_name (eq_name m.name n) m xs (expand_macro ms n xs) (calls ms n xs)

module _ (ms : List Macro) where
  mutual
    unfolding expand

    pub grows : (c : Combinator) → Grows (expand c ms)
    grows (plain i) = then (grows_i i) (λ j. none (plain j))
    grows (chained i c) = then (grows c) (λ d. then (grows_i i) (λ j. none (chained j d)))

    pub grows_i : (i : Inner) → Grows (expand_i i ms)
    grows_i (leaf k x) = none (leaf k x)
    grows_i (struct f) = then (grows_f f) (λ g. none (struct g))
    grows_i (choice s k f) = then (grows_c f) (λ g. none (choice s k g))
    grows_i (shell x c) = then (grows c) (λ d. none (shell x d))
    grows_i (bytes l) = none (bytes l)
    grows_i (invocation n xs) = none (invocation n xs)
    grows_i (macro_invocation n xs) = calls ms n xs

    grows_f : (f : Fields) → Grows (expand_f f ms)
    grows_f no_field = none no_field
    grows_f (field k l c f) = then (grows c) (λ d. then (grows_f f) (λ g. none (field k l d g)))
    grows_f (const l x f) = then (grows_f f) (λ g. none (const l x g))

    grows_c : (f : Cases) → Grows (expand_c f ms)
    grows_c no_case = none no_case
    grows_c (case l c f) = then (grows c) (λ d. then (grows_c f) (λ g. none (case l d g)))

  pub grows_all : (ds : List Definition) → Grows (expand_all ds ms)
  unfolding expand_all
  grows_all [] = none []
  grows_all (format n ps c ∷ ds) = then (grows c) (λ d. then (grows_all ds) (λ es. none (format n ps d ∷ es)))
  grows_all (constant n x ∷ ds) = then (grows_all ds) (λ es. none (constant n x ∷ es))
  grows_all (byte_order x ∷ ds) = then (grows_all ds) (λ es. none (byte_order x ∷ es))
  grows_all (macro n ps c ∷ ds) = grows_all ds

  pub only_six : (ds : List Definition) → Grows (expand_all ds ms >>= λ es. given (leb (size_book es) 16384 && leb (levels_book es) 64) macro_growth es)
  only_six ds = then (grows_all ds) (λ es. where-fits (leb (size_book es) 16384 && leb (levels_book es) 64) es)
