-- Macro rules (`expand_macros`), code 6.
use Rattle.std.specs.Prelude.{List, [], ◌∷◌, Bool, true, false, ◌&&◌, ℕ, leb}
use Rattle.definition.specs.Code.{macro_growth}
use Rattle.definition.specs.Out.{Out, done, ◌>>=◌, given}
use Rattle.definition.specs.Tree.{Name, Combinator, plain, chained, Inner, leaf, struct, choice, shell, bytes, invocation, macro_invocation, Fields, no_field, field, const, Cases, no_case, case, Inners, no_inner, inner, Definition, format, constant, byte_order, macro}
use Rattle.definition.specs.Names.{eq_name}
use Rattle.definition.specs.Size.{size, size_book, levels, levels_p, levels_book}
use Rattle.definition.specs.Write.{w_book}

abbrev pub same : Inner → Inner → Bool → Inner
same a i true = a
same a i false = i

-- rule 4: "It replaces the inner of an Invocation whose name is the parameter, its arguments lost, and does not go into the argument just put in nor into macro arguments." (reading 4, docs/READINGS.md)
unfoldable mutual
  pub subst : Combinator → Name → Inner → Combinator
  subst (plain i) p a = plain (subst_i i p a)
  subst (chained i c) p a = chained (subst_i i p a) (subst c p a)

  pub subst_i : Inner → Name → Inner → Inner
  subst_i (leaf k x) p a = leaf k x
  subst_i (struct f) p a = struct (subst_f f p a)
  subst_i (choice s k f) p a = choice s k (subst_c f p a)
  subst_i (shell x c) p a = shell x (subst c p a)
  subst_i (bytes l) p a = bytes l
  subst_i (invocation n xs) p a = same a (invocation n xs) (eq_name n p)
  subst_i (macro_invocation n xs) p a = macro_invocation n xs

  pub subst_f : Fields → Name → Inner → Fields
  subst_f no_field p a = no_field
  subst_f (field k l c f) p a = field k l (subst c p a) (subst_f f p a)
  subst_f (const l x f) p a = const l x (subst_f f p a)

  pub subst_c : Cases → Name → Inner → Cases
  subst_c no_case p a = no_case
  subst_c (case l c f) p a = case l (subst c p a) (subst_c f p a)

-- code 6's limit, by bytes and levels: not "over 16,384 bytes or 64 levels" (reading 13, docs/READINGS.md)
abbrev pub within_growth : ℕ → ℕ → Bool
within_growth long deep = leb long 16384 && leb deep 64

-- rule 5: "the macro's combinator alone, chain included and its root at level 1"
unfoldable pub limited : Combinator → Out Combinator
limited c = given (within_growth (size c) (levels c)) macro_growth c

-- rule 4: "Parameters and arguments are paired from the front; extra ones on either side are ignored. Substitution is one parameter after the other"
unfoldable pub instance : List Name → Inners → Combinator → Out Combinator
instance [] xs c = done c
instance (p ∷ ps) no_inner c = done c
instance (p ∷ ps) (inner a xs) c = do
  d ← limited (subst c p a)
  instance ps xs d

-- rule 3: "replaced by the macro body's inner. The body's own chain is lost"
unfoldable pub inner_of : Combinator → Inner
inner_of (plain i) = i
inner_of (chained i c) = i

pub record Macro : Type 0 where
  pub name : Name
  pub params : List Name
  pub body : Combinator

-- rule 1: "The last definition of a macro name counts.": the last comes first
unfoldable pub macros : List Definition → List Macro → List Macro
macros [] ms = ms
macros (format n ps c ∷ ds) ms = macros ds ms
macros (constant n x ∷ ds) ms = macros ds ms
macros (byte_order x ∷ ds) ms = macros ds ms
macros (macro n ps c ∷ ds) ms = macros ds (record { name = n; params = ps; body = c } ∷ ms)

unfoldable pub expand_by : Bool → Macro → Inners → Out Inner → Out Inner
expand_by true m xs next = do
  c ← instance m.params xs m.body
  done (inner_of c)
expand_by false m xs next = next

-- rule 3: "A known invocation is replaced"; one that is not known stays
unfoldable pub expand_macro : List Macro → Name → Inners → Out Inner
expand_macro [] n xs = done (macro_invocation n xs)
expand_macro (m ∷ ms) n xs = let next = expand_macro ms n xs in expand_by (eq_name m.name n) m xs next

-- rule 2: "Format bodies are walked: chain, fields, choices, Wrap, Vec, Array, Option. Parameter types and macro arguments are not." (reading 5, docs/READINGS.md)
unfoldable mutual
  pub expand : Combinator → List Macro → Out Combinator
  expand (plain i) ms = do
    j ← expand_i i ms
    done (plain j)
  expand (chained i c) ms = do
    d ← expand c ms
    j ← expand_i i ms
    done (chained j d)

  pub expand_i : Inner → List Macro → Out Inner
  expand_i (leaf k x) ms = done (leaf k x)
  expand_i (struct f) ms = do
    g ← expand_f f ms
    done (struct g)
  expand_i (choice s k f) ms = do
    g ← expand_c f ms
    done (choice s k g)
  expand_i (shell x c) ms = do
    d ← expand c ms
    done (shell x d)
  expand_i (bytes l) ms = done (bytes l)
  expand_i (invocation n xs) ms = done (invocation n xs)
  expand_i (macro_invocation n xs) ms = expand_macro ms n xs

  pub expand_f : Fields → List Macro → Out Fields
  expand_f no_field ms = done no_field
  expand_f (field k l c f) ms = do
    d ← expand c ms
    g ← expand_f f ms
    done (field k l d g)
  expand_f (const l x f) ms = do
    g ← expand_f f ms
    done (const l x g)

  pub expand_c : Cases → List Macro → Out Cases
  expand_c no_case ms = done no_case
  expand_c (case l c f) ms = do
    d ← expand c ms
    g ← expand_c f ms
    done (case l d g)

-- rule 1: "All kind 4 definitions are then removed, order otherwise kept."
unfoldable pub expand_all : List Definition → List Macro → Out (List Definition)
expand_all [] ms = done []
expand_all (format n ps c ∷ ds) ms = do
  d ← expand c ms
  es ← expand_all ds ms
  done (format n ps d ∷ es)
expand_all (constant n x ∷ ds) ms = do
  es ← expand_all ds ms
  done (constant n x ∷ es)
expand_all (byte_order x ∷ ds) ms = do
  es ← expand_all ds ms
  done (byte_order x ∷ es)
expand_all (macro n ps c ∷ ds) ms = expand_all ds ms

-- a pass with some macros; rule 5: "or the book left when expansion is done, macros removed, is over either"
unfoldable pub pass : List Macro → List Definition → Out (List Definition)
pass ms ds = do
  es ← expand_all ds ms
  given (within_growth (size_book es) (levels_book es)) macro_growth es

-- the pass of document 01, with the macros of the book itself
unfoldable pub expand_list : List Definition → Out (List Definition)
unfolding pass
expand_list ds = pass (macros ds []) ds

-- `expand_list` once more, with all that it takes to compute on its line
unfoldable pub expand_book : List Definition → Out (List Definition)
unfolding subst limited instance inner_of macros expand_by expand_macro expand expand_all size size_book levels levels_p levels_book eq_name w_book expand_list
expand_book ds = expand_list ds
