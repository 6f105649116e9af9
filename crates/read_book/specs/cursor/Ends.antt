-- What an answer of the code says of a reading of crate `definition`, begun at the place p of the bytes s.
use Rattle.std.specs.Prelude.{◌≡◌, List, ℕ, ◌+◌, ◌-◌, length, take, drop, Result, Ok, Err}
use Rattle.definition.specs.Code.{Code}
use Rattle.definition.specs.Res.{Res, bad, ok}
use Rattle.definition.specs.Read.{Reader}
use Rattle.read_book.specs.declared.cursor.Cursor.{Cursor}
use Rattle.read_book.specs.declared.cursor.Fault.{Fault}
use Rattle.what_comes_back.specs.Codes.{code_of}

-- q stands behind p by as many bytes as were read. In a book that has the place p: both are as far from the end as bytes are left
abbrev pub Along : List ℕ → ℕ → ℕ → Type 0
Along s p q = q + length (drop q s) ≡ p + length (drop p s)

-- the reading gives a, and the bytes from q on are left
pub record Gives {A : Type 0} (s : List ℕ) (p : ℕ) (a : A) (q : ℕ) (m : Res (List ℕ) A) : Type 0 where
  pub gives : m ≡ ok a (drop q s)
  pub along : Along s p q

-- the reading is refused with the fault's code, and the item at fault starts at the fault's place.
-- Document 02 a: "the offset of the item at fault: the first byte of the count, entry, tag, flag, name or text that failed"
pub record Fails {A : Type 0} (s : List ℕ) (p : ℕ) (f : Fault) (m : Res (List ℕ) A) : Type 0 where
  pub kind : Code
  pub coded : code_of kind ≡ f.code
  pub fails : m ≡ bad kind (drop f.at s)
  pub along : Along s p f.at

-- an answer with a number and the next cursor, and one with the next cursor alone
abbrev pub Step : Type 0
Step = Result (ℕ × Cursor) Fault

abbrev pub Walked : Type 0
Walked = Result Cursor Fault

abbrev pub TookBy : List ℕ → ℕ → Step → Res (List ℕ) ℕ → Type 0
TookBy s p (Ok x) m = Gives s p x.0 x.1.at m
TookBy s p (Err f) m = Fails s p f m

pub record Took (s : List ℕ) (p : ℕ) (r : Step) (m : Res (List ℕ) ℕ) : Type 0 where
  pub told : TookBy s p r m

-- an answer with the bytes from a place up to the next cursor
abbrev pub PartBy : List ℕ → ℕ → ℕ → Walked → Res (List ℕ) (List ℕ) → Type 0
PartBy s p from (Ok c) m = Gives s p (take (c.at - from) (drop from s)) c.at m
PartBy s p from (Err f) m = Fails s p f m

pub record Part (s : List ℕ) (p from : ℕ) (r : Walked) (m : Res (List ℕ) (List ℕ)) : Type 0 where
  pub told : PartBy s p from r m

-- an answer with nothing but the next cursor
abbrev pub EndsBy : {A : Type 0} → List ℕ → ℕ → Walked → Res (List ℕ) A → Type 0
EndsBy {A} s p (Ok c) m = (a : A) × Gives s p a c.at m
EndsBy {A} s p (Err f) m = Fails s p f m

pub record Ends {A : Type 0} (s : List ℕ) (p : ℕ) (r : Walked) (m : Res (List ℕ) A) : Type 0 where
  pub told : EndsBy s p r m

-- the same of a reader that starts at p
abbrev pub Takes : List ℕ → ℕ → Step → Reader ℕ → Type 0
Takes s p r read = Took s p r (read (drop p s))

abbrev pub Cuts : List ℕ → ℕ → ℕ → Walked → Reader (List ℕ) → Type 0
Cuts s p from r read = Part s p from r (read (drop p s))

abbrev pub Walks : {A : Type 0} → List ℕ → ℕ → Walked → Reader A → Type 0
Walks s p r read = Ends s p r (read (drop p s))
