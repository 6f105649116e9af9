-- The words of demand 3, spelled out from the order and document 01 and not taken from the definitions of collection and lifting: those are what it is about.
use Rattle.std.specs.Prelude.{◌≡◌, ◌⊎◌, ℕ}
use mathlib.Core.List.{List, [], ◌∷◌, ◌++◌, Memᴰ}
use Rattle.definition.specs.Tree.{Name, Leaf, constraint_int, constraint_enum, bits, enum, tail, nothing, never, Shell, wrap, vec, option, array, Selector, none, by, FieldKind, ordinary, dependent, Combinator, plain, chained, Inner, leaf, struct, choice, shell, bytes, invocation, macro_invocation, Fields, no_field, field, const, Cases, no_case, case, Param, Definition, format, constant, byte_order, macro}

-- "a format or constant of the list"
abbrev pub Named : Name → List Definition → Type 0
Named n [] = ⊥
Named n (format m ps c ∷ ds) = (n ≡ m) ⊎ Named n ds
Named n (constant m x ∷ ds) = (n ≡ m) ⊎ Named n ds
Named n (byte_order x ∷ ds) = Named n ds
Named n (macro m ps c ∷ ds) = Named n ds

-- "those bodies": "demand 3 take a format's body as its combinator alone, without parameter types"
abbrev pub EachBody : (Combinator → Type 0) → List Definition → Type 0
EachBody P [] = Unit {0}
EachBody P (format n ps c ∷ ds) = P c × EachBody P ds
EachBody P (constant n x ∷ ds) = EachBody P ds
EachBody P (byte_order x ∷ ds) = EachBody P ds
EachBody P (macro n ps c ∷ ds) = EachBody P ds

-- each of these is a format, and this holds of its name, its parameters and its body
abbrev pub EachFormat : (Name → List Param → Combinator → Type 0) → List Definition → Type 0
EachFormat P [] = Unit {0}
EachFormat P (format n ps c ∷ ds) = P n ps c × EachFormat P ds
EachFormat P (constant n x ∷ ds) = ⊥
EachFormat P (byte_order x ∷ ds) = ⊥
EachFormat P (macro n ps c ∷ ds) = ⊥

-- "every name called", macro arguments aside
abbrev mutual
  pub EachCall : Combinator → (Name → Type 0) → Type 0
  EachCall (plain i) P = EachCallI i P
  EachCall (chained i c) P = EachCallI i P × EachCall c P

  pub EachCallI : Inner → (Name → Type 0) → Type 0
  EachCallI (leaf k x) P = Unit {0}
  EachCallI (struct f) P = EachCallF f P
  EachCallI (choice s k f) P = EachCallC f P
  EachCallI (shell x c) P = EachCall c P
  EachCallI (bytes l) P = Unit {0}
  EachCallI (invocation n a) P = P n
  EachCallI (macro_invocation n a) P = Unit {0}

  pub EachCallF : Fields → (Name → Type 0) → Type 0
  EachCallF no_field P = Unit {0}
  EachCallF (field k l c f) P = EachCall c P × EachCallF f P
  EachCallF (const l x f) P = EachCallF f P

  pub EachCallC : Cases → (Name → Type 0) → Type 0
  EachCallC no_case P = Unit {0}
  EachCallC (case l c f) P = EachCall c P × EachCallC f P

-- "bytes and tail"
abbrev pub IsTail : Leaf → Type 0
IsTail constraint_int = ⊥
IsTail constraint_enum = ⊥
IsTail bits = ⊥
IsTail enum = ⊥
IsTail tail = Unit {0}
IsTail nothing = ⊥
IsTail never = ⊥

abbrev pub BytesOrTail : Inner → Type 0
BytesOrTail (leaf k x) = IsTail k
BytesOrTail (struct f) = ⊥
BytesOrTail (choice s k f) = ⊥
BytesOrTail (shell x c) = ⊥
BytesOrTail (bytes l) = Unit {0}
BytesOrTail (invocation n a) = ⊥
BytesOrTail (macro_invocation n a) = ⊥

-- "chained formats stand only on bytes and tail", macro arguments aside
abbrev mutual
  pub PlainChains : Combinator → Type 0
  PlainChains (plain i) = PlainChainsI i
  PlainChains (chained i c) = BytesOrTail i × (PlainChainsI i × PlainChains c)

  pub PlainChainsI : Inner → Type 0
  PlainChainsI (leaf k x) = Unit {0}
  PlainChainsI (struct f) = PlainChainsF f
  PlainChainsI (choice s k f) = PlainChainsC f
  PlainChainsI (shell x c) = PlainChains c
  PlainChainsI (bytes l) = Unit {0}
  PlainChainsI (invocation n a) = Unit {0}
  PlainChainsI (macro_invocation n a) = Unit {0}

  pub PlainChainsF : Fields → Type 0
  PlainChainsF no_field = Unit {0}
  PlainChainsF (field k l c f) = PlainChains c × PlainChainsF f
  PlainChainsF (const l x f) = PlainChainsF f

  pub PlainChainsC : Cases → Type 0
  PlainChainsC no_case = Unit {0}
  PlainChainsC (case l c f) = PlainChains c × PlainChainsC f

-- "(the part before the first '.')"; '.' is 46
pub record Root (name r : Name) : Type 0 where
  pub dotless : Memᴰ 46 r → ⊥
  pub parts : (name ≡ r) ⊎ ((rest : List ℕ) × (name ≡ r ++ (46 ∷ rest)))

abbrev pub SomeRoot : List Name → Name → Type 0
SomeRoot [] u = ⊥
SomeRoot (n ∷ ns) u = Root n u ⊎ SomeRoot ns u

-- "Uses are Choice selectors and Invocation arguments (the part before the first '.'), and roots of lengths.": a length is that of Bytes or of Array
abbrev pub SelectorUse : Selector → Name → Type 0
SelectorUse none u = ⊥
SelectorUse (by n) u = Root n u

abbrev pub ShellUse : Shell → Name → Type 0
ShellUse (wrap x y) u = ⊥
ShellUse vec u = ⊥
ShellUse option u = ⊥
ShellUse (array l) u = Memᴰ u l.roots

-- "A Dependent field binds its label for the fields after it.": what is said of a use in the fields after this one holds, and this one does not bind it
abbrev pub Past : FieldKind → Name → Name → Type 0 → Type 0
Past ordinary l u later = later
Past dependent l u later = (u ≡ l → ⊥) × later

-- a use of u that has no binder in the combinator: no Dependent field of that label before it. Chains count wherever they stand; macro arguments do not
abbrev mutual
  pub Unbound : Combinator → Name → Type 0
  Unbound (plain i) u = UnboundI i u
  Unbound (chained i c) u = UnboundI i u ⊎ Unbound c u

  pub UnboundI : Inner → Name → Type 0
  UnboundI (leaf k x) u = ⊥
  UnboundI (struct f) u = UnboundF f u
  UnboundI (choice s k f) u = SelectorUse s u ⊎ UnboundC f u
  UnboundI (shell x c) u = ShellUse x u ⊎ Unbound c u
  UnboundI (bytes l) u = Memᴰ u l.roots
  UnboundI (invocation n a) u = SomeRoot a u
  UnboundI (macro_invocation n a) u = ⊥

  pub UnboundF : Fields → Name → Type 0
  UnboundF no_field u = ⊥
  UnboundF (field k l c f) u = Unbound c u ⊎ Past k l u (UnboundF f u)
  UnboundF (const l x f) u = UnboundF f u

  pub UnboundC : Cases → Name → Type 0
  UnboundC no_case u = ⊥
  UnboundC (case l c f) u = Unbound c u ⊎ UnboundC f u
