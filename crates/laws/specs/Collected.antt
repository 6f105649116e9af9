-- Where collection goes, in words of its own: one walk for whatever is looked for, and the two things that are, a use of a name and a macro call.
use Rattle.std.specs.Prelude.{◌≡◌, ◌⊎◌, true}
use mathlib.Core.List.{map, Memᴰ}
use Rattle.definition.specs.Tree.{Name, FieldKind, ordinary, dependent, Combinator, plain, chained, Inner, leaf, struct, choice, shell, bytes, invocation, macro_invocation, Fields, no_field, field, const, Cases, no_case, case}
use Rattle.definition.specs.Names.{root}
use Rattle.definition.specs.Collect.{bytes_or_tail, selector_uses, shell_uses}

-- something that may stand at an inner, and where a field of some kind and label lets the walk on to the fields after it
module _ (here : Inner → Type 0) (past : FieldKind → Name → Type 0) where
  abbrev mutual
    pub Found : Combinator → Type 0
    Found (plain i) = FoundI i
    -- "Chains are collected only on Bytes and Tail."
    Found (chained i c) = FoundI i ⊎ ((bytes_or_tail i ≡ true) × Found c)

    pub FoundI : Inner → Type 0
    FoundI (leaf k x) = here (leaf k x)
    FoundI (struct f) = here (struct f) ⊎ FoundF f
    FoundI (choice s k f) = here (choice s k f) ⊎ FoundC f
    FoundI (shell x c) = here (shell x c) ⊎ Found c
    FoundI (bytes l) = here (bytes l)
    FoundI (invocation n a) = here (invocation n a)
    FoundI (macro_invocation n a) = here (macro_invocation n a)

    pub FoundF : Fields → Type 0
    FoundF no_field = ⊥
    FoundF (field k l c f) = Found c ⊎ (past k l × FoundF f)
    FoundF (const l x f) = FoundF f

    pub FoundC : Cases → Type 0
    FoundC no_case = ⊥
    FoundC (case l c f) = Found c ⊎ FoundC f

-- a use: "Uses are Choice selectors and Invocation arguments (the part before the first '.'), and roots of lengths."
abbrev pub Use : Name → Inner → Type 0
Use n (leaf k x) = ⊥
Use n (struct f) = ⊥
Use n (choice s k f) = Memᴰ n (selector_uses s)
Use n (shell x c) = Memᴰ n (shell_uses x)
Use n (bytes l) = Memᴰ n l.roots
Use n (invocation m a) = Memᴰ n (map root a)
Use n (macro_invocation m a) = ⊥

-- "A Dependent field binds its label for the fields after it.": a use of another name goes past it
abbrev pub Unbound : Name → FieldKind → Name → Type 0
Unbound n ordinary l = Unit {0}
Unbound n dependent l = n ≡ l → ⊥

-- a macro call, and no field binds it
abbrev pub MacroCall : Inner → Type 0
MacroCall (leaf k x) = ⊥
MacroCall (struct f) = ⊥
MacroCall (choice s k f) = ⊥
MacroCall (shell x c) = ⊥
MacroCall (bytes l) = ⊥
MacroCall (invocation n a) = ⊥
MacroCall (macro_invocation n a) = Unit {0}

abbrev pub Anyhow : FieldKind → Name → Type 0
Anyhow k l = Unit {0}
