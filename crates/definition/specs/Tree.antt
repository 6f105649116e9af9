-- The definition book: what its bytes stand for. Document 01, "The definition book".
use Rattle.std.specs.Prelude.{List, ℕ}

-- names and texts are lists of bytes
abbrev pub Name : Type 0
Name = List ℕ

abbrev pub Text : Type 0
Text = List ℕ

-- "1 ConstraintInt, 2 ConstraintEnum, 3 Bits, 6 Enum, 11 Tail, 13 Nothing, 14 Never: text."
pub data Leaf : Type 0 where
  constraint_int constraint_enum bits enum tail nothing never : Leaf

-- "A length is u16 count, root names in the order of `collect_dependent_ids`, text."
pub record Len : Type 0 where
  pub roots : List Name
  pub text : Text

-- the inners that hold one combinator: "5 Wrap: text, combinator, text", "8 Vec, 12 Option: combinator", "9 Array: length, combinator"
pub data Shell : Type 0 where
  wrap : Text → Text → Shell
  vec option : Shell
  array : Len → Shell

-- "byte 0, or 1 and a selector"
pub data Selector : Type 0 where
  none : Selector
  by : Name → Selector

-- "case kind 1 Enums, 2 Ints, 3 Arrays"
pub data CaseKind : Type 0 where
  enums ints arrays : CaseKind

-- "1 Ordinary or 2 Dependent"
pub data FieldKind : Type 0 where
  ordinary dependent : FieldKind

mutual
  -- "A combinator is an inner, then byte 0, or byte 1 and a chained combinator (`and_then`)."
  pub data Combinator : Type 0 where
    plain : Inner → Combinator
    chained : Inner → Combinator → Combinator

  pub data Inner : Type 0 where
    leaf : Leaf → Text → Inner
    struct : Fields → Inner
    choice : Selector → CaseKind → Cases → Inner
    shell : Shell → Combinator → Inner
    bytes : Len → Inner
    invocation : Name → List Name → Inner
    macro_invocation : Name → Inners → Inner

  pub data Fields : Type 0 where
    no_field : Fields
    field : FieldKind → Name → Combinator → Fields → Fields
    const : Name → Text → Fields → Fields

  -- "each case a label (Enums) or text, then a combinator"
  pub data Cases : Type 0 where
    no_case : Cases
    case : List ℕ → Combinator → Cases → Cases

  pub data Inners : Type 0 where
    no_inner : Inners
    inner : Inner → Inners → Inners

pub record Param : Type 0 where
  pub name : Name
  pub type : Inner

-- "kind": 1 format, 2 constant, 3 byte order, 4 macro
pub data Kind : Type 0 where
  is_format is_constant is_byte_order is_macro : Kind

-- an entry of the contents: "kind, a zero byte, u16 offset, u16 length". The offset follows from the entries before it.
-- `extra` is what stands behind these six bytes in an entry that is larger (document 02 k); in the book of document 01 nothing does
pub record Entry : Type 0 where
  pub kind : Kind
  pub size : ℕ
  pub extra : List ℕ

-- the table of bodies
pub data Definition : Type 0 where
  format : Name → List Param → Combinator → Definition
  constant : Name → Text → Definition
  byte_order : Text → Definition
  macro : Name → List Name → Combinator → Definition
