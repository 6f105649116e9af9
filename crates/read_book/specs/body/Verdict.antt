-- The answer of a judgement: sound, or a code and a place.
use Rattle.std.specs.Prelude.{List, cond, ◌&&◌, ℕ, ◌-◌, leb, length, take, drop, get_or, Result, Ok, Err}
use Rattle.definition.specs.Res.{absent, Res, bad, ok, ◌>>=◌}
use Rattle.definition.specs.Tree.{Definition}
use Rattle.definition.specs.Read.{Reader, known, kinds, definition}
use Rattle.definition.specs.Contents.{whole}
use Rattle.read_book.specs.declared.cursor.Fault.{Fault}
use Rattle.what_comes_back.specs.Codes.{code_of}
use Rattle.what_comes_back.specs.declared.Code.TheVariants.{NotABook}

-- a fault's place is as far from the end as bytes are left from the item at fault on
unfoldable pub verdict : {A : Type 0} → ℕ → Res (List ℕ) A → Result Unit Fault
verdict end (ok a r) = Ok tt
verdict end (bad k r) = Err (record { code = code_of k; at = end - length r })

-- a definition of the kind that a byte stands for; a byte that stands for none is 3
unfoldable pub of_kind : ℕ → Reader Definition
of_kind b s = do
  (k, s) ← known (get_or kinds b absent) s s
  definition k s

-- the bytes from a place up to another as a body, "bytes left over in a body are 3"; a range that is not in the book is 3
unfoldable pub body_verdict : ℕ → ℕ → ℕ → List ℕ → Result Unit Fault
body_verdict kind from to s =
    cond (leb to (length s) && leb from to) (verdict to (whole (of_kind kind (take (to - from) (drop from s))))) (Err (record { code = NotABook; at = from }))
