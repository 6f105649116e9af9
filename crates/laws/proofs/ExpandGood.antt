-- What expansion leaves a book can hold, no macro is among it, and it is no longer than the list.
use mathlib.Core.List.{List, [], ◌∷◌}
use mathlib.Core.Bool.{Bool, true, false, ◌&&◌}
use Prim.Native.Nat.{◌≤◌}
use native.Mathlib.Omega.{arith}
use lib.Dec.{leb}
use lib.ListN.{length}
use borrow.Author.Tests.{leb-true}
use Rattle.definition.specs.Code.{macro_growth}
use Rattle.definition.specs.Out.{Out, ◌>>=◌, given}
use Rattle.definition.specs.Tree.{Name, CaseKind, Combinator, plain, chained, Inner, leaf, struct, choice, shell, bytes, invocation, macro_invocation, Fields, no_field, field, const, Cases, no_case, case, Inners, no_inner, inner, Definition, format, constant, byte_order, macro}
use Rattle.definition.specs.Size.{size, size_book, levels, levels_book}
use Rattle.definition.specs.Names.{eq_name}
use Rattle.definition.specs.Macros.{same, subst, subst_i, subst_f, subst_c, limited, instance, inner_of, Macro, macros, expand_by, expand_macro, expand, expand_i, expand_f, expand_c, expand_all, expand_list}
use Rattle.laws.specs.Book.{Good, GoodI, GoodF, GoodC, GoodA, GoodAll, IsBook}
use Rattle.laws.specs.Lists.{NoMacro}
use Rattle.laws.proofs.Tests.{both_true}
use Rattle.laws.proofs.Steps.{Yields, stops, yields, next, where-true}

mutual
  unfolding subst

  s_good : (c : Combinator) → Good c → (p : Name) (a : Inner) → GoodI a → Good (subst c p a)
  s_good (plain i) g p a h = s_good_i i g p a h
  s_good (chained i c) g p a h = (s_good_i i g.0 p a h, s_good c g.1 p a h)

  s_good_i : (i : Inner) → GoodI i → (p : Name) (a : Inner) → GoodI a → GoodI (subst_i i p a)
  s_good_i (leaf k x) g p a h = g
  s_good_i (struct f) g p a h = s_good_f f g p a h
  s_good_i (choice s k f) g p a h = (g.0, s_good_c f k g.1 p a h)
  s_good_i (shell x c) g p a h = (g.0, s_good c g.1 p a h)
  s_good_i (bytes l) g p a h = g
  s_good_i (invocation n xs) g p a h = one_of (eq_name n p) g h
    where
      one_of : (b : Bool) → GoodI (invocation n xs) → GoodI a → GoodI (same a (invocation n xs) b)
      one_of true g h = h
      one_of false g h = g
  s_good_i (macro_invocation n xs) g p a h = g

  s_good_f : (f : Fields) → GoodF f → (p : Name) (a : Inner) → GoodI a → GoodF (subst_f f p a)
  s_good_f no_field g p a h = g
  s_good_f (field k l c f) g p a h = (g.0, (s_good c g.1.0 p a h, s_good_f f g.1.1 p a h))
  s_good_f (const l x f) g p a h = (g.0, (g.1.0, s_good_f f g.1.1 p a h))

  s_good_c : (f : Cases) (k : CaseKind) → GoodC f k → (p : Name) (a : Inner) → GoodI a → GoodC (subst_c f p a) k
  s_good_c no_case k g p a h = g
  s_good_c (case l c f) k g p a h = (g.0, (s_good c g.1.0 p a h, s_good_c f k g.1.1 p a h))

instance_good : (ps : List Name) (xs : Inners) (c : Combinator) → GoodA xs → Good c → Yields Good (instance ps xs c)
unfolding instance limited
instance_good [] xs c g h = yields h
instance_good (p ∷ ps) no_inner c g h = yields h
instance_good (p ∷ ps) (inner a xs) c g h = next (where-true (leb (size (subst c p a)) 16384 && leb (levels (subst c p a)) 64) _ (subst c p a) (λ t. s_good c h p a g.0)) _ λ d w. instance_good ps xs d g.1 w

abbrev pub GoodM : List Macro → Type 0
GoodM [] = Unit {0}
GoodM (m ∷ ms) = Good m.body × GoodM ms

pub macros_good : (ds : List Definition) (ms : List Macro) → GoodAll ds → GoodM ms → GoodM (macros ds ms)
unfolding macros
macros_good [] ms g h = h
macros_good (format n ps c ∷ ds) ms g h = macros_good ds ms g.1 h
macros_good (constant n x ∷ ds) ms g h = macros_good ds ms g.1 h
macros_good (byte_order x ∷ ds) ms g h = macros_good ds ms g.1 h
macros_good (macro n ps c ∷ ds) ms g h = macros_good ds (record { name = n; params = ps; body = c } ∷ ms) g.1 (g.0.1.1, h)

inner_of_good : (c : Combinator) → Good c → GoodI (inner_of c)
unfolding inner_of
inner_of_good (plain i) g = g
inner_of_good (chained i c) g = g.0

by_good : (b : Bool) (m : Macro) (xs : Inners) (other : Out Inner) → GoodA xs → Good m.body → Yields GoodI other → Yields GoodI (expand_by b m xs other)
unfolding expand_by
by_good true m xs other g h w = next (instance_good m.params xs m.body g h) _ λ c v. yields (inner_of_good c v)
by_good false m xs other g h w = w

macro_good : (ms : List Macro) (n : Name) (xs : Inners) → GoodM ms → GoodI (macro_invocation n xs) → Yields GoodI (expand_macro ms n xs)
unfolding expand_macro
macro_good [] n xs h g = yields g
macro_good (m ∷ ms) n xs h g = by_good (eq_name m.name n) m xs (expand_macro ms n xs) g.1 h.0 (macro_good ms n xs h.1 g)

mutual
  unfolding expand

  e_good : (c : Combinator) (ms : List Macro) → GoodM ms → Good c → Yields Good (expand c ms)
  e_good (plain i) ms h g = next (e_good_i i ms h g) _ λ j w. yields w
  e_good (chained i c) ms h g = next (e_good c ms h g.1) _ λ d w. next (e_good_i i ms h g.0) _ λ j v. yields (v, w)

  e_good_i : (i : Inner) (ms : List Macro) → GoodM ms → GoodI i → Yields GoodI (expand_i i ms)
  e_good_i (leaf k x) ms h g = yields g
  e_good_i (struct f) ms h g = next (e_good_f f ms h g) _ λ x w. yields w
  e_good_i (choice s k f) ms h g = next (e_good_c f k ms h g.1) _ λ x w. yields (g.0, w)
  e_good_i (shell s c) ms h g = next (e_good c ms h g.1) _ λ x w. yields (g.0, w)
  e_good_i (bytes l) ms h g = yields g
  e_good_i (invocation n xs) ms h g = yields g
  e_good_i (macro_invocation n xs) ms h g = macro_good ms n xs h g

  e_good_f : (f : Fields) (ms : List Macro) → GoodM ms → GoodF f → Yields GoodF (expand_f f ms)
  e_good_f no_field ms h g = yields g
  e_good_f (field k l c f) ms h g = next (e_good c ms h g.1.0) _ λ x w. next (e_good_f f ms h g.1.1) _ λ y v. yields (g.0, (w, v))
  e_good_f (const l x f) ms h g = next (e_good_f f ms h g.1.1) _ λ y v. yields (g.0, (g.1.0, v))

  e_good_c : (f : Cases) (k : CaseKind) (ms : List Macro) → GoodM ms → GoodC f k → Yields (λ y. GoodC y k) (expand_c f ms)
  e_good_c no_case k ms h g = yields g
  e_good_c (case l c f) k ms h g = next (e_good c ms h g.1.0) _ λ x w. next (e_good_c f k ms h g.1.1) _ λ y v. yields (g.0, (w, v))

record Expands (ds es : List Definition) : Type 0 where
  good : GoodAll es
  fewer : length es ≤ length ds
  none : NoMacro es

all_good : (ds : List Definition) (ms : List Macro) → GoodM ms → GoodAll ds → Yields (Expands ds) (expand_all ds ms)
unfolding expand_all
all_good [] ms h g = yields {a = []} (record { good = tt; fewer = omega arith; none = tt })
all_good (format n ps c ∷ ds) ms h g = next (e_good c ms h g.0.1.1) _ λ d w. next (all_good ds ms h g.1) _ λ es z.
    yields (record { good = ((g.0.0, (g.0.1.0, w)), z.good); fewer = omega (arith, z.fewer); none = z.none })
all_good (constant n x ∷ ds) ms h g = next (all_good ds ms h g.1) _ λ es z. yields (record { good = (g.0, z.good); fewer = omega (arith, z.fewer); none = z.none })
all_good (byte_order x ∷ ds) ms h g = next (all_good ds ms h g.1) _ λ es z. yields (record { good = (g.0, z.good); fewer = omega (arith, z.fewer); none = z.none })
all_good (macro n ps c ∷ ds) ms h g = less (all_good ds ms h g.1)
  where
    less : {m : Out (List Definition)} → Yields (Expands ds) m → Yields (Expands (macro n ps c ∷ ds)) m
    less stops = stops
    less (yields {a = es} z) = yields {a = es} (record { good = z.good; fewer = omega (arith, z.fewer); none = z.none })

-- a pass over a list with any macros: document 02 b runs it again with the same ones
pub pass_good : (ds : List Definition) (ms : List Macro) → GoodM ms → GoodAll ds → length ds ≤ 512 → Yields (λ es. IsBook es × NoMacro es) (expand_all ds ms >>= λ es. given (leb (size_book es) 16384 && leb (levels_book es) 64) macro_growth es)
pass_good ds ms h g n = next (all_good ds ms h g) _ λ es z. where-true (leb (size_book es) 16384 && leb (levels_book es) 64) _ es λ t.
    let b = both_true (leb (size_book es) 16384) (leb (levels_book es) 64) t in
    (record { good = z.good; deep = leb-true (levels_book es) 64 b.1; few = omega (arith, z.fewer); short = leb-true (size_book es) 16384 b.0 }, z.none)

-- the expanded list of a book
pub expand_good : (ds : List Definition) → GoodAll ds → length ds ≤ 512 → Yields (λ es. IsBook es × NoMacro es) (expand_list ds)
unfolding expand_list
expand_good ds g n = pass_good ds (macros ds []) (macros_good ds [] g tt) g n
