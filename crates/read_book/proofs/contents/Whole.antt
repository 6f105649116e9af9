-- The count, and the contents whole.
use mathlib.Core.Path.{◌≡◌, refl, ◌∙◌}
use mathlib.Core.List.{List}
use mathlib.Core.Bool.{Bool, true, false}
use Prim.Native.Nat.{ℕ, ◌+◌, ◌*◌, ◌≤◌, ◌<◌}
use native.Mathlib.Omega.{arith}
use borrow.Author.Tests.{le-leb, lt-leb, leb-true}
use lib.Dec.{leb}
use lib.ListN.{length, drop, length-drop}
use Rattle.std.specs.Prelude.{Result, Ok, Err, IsErrAnd}
use Rattle.what_comes_back.specs.declared.Code.TheVariants.{NotABook}
use Rattle.definition.specs.Code.{not_a_book}
use Rattle.definition.specs.Res.{Res, bad, ok, ◌>>=◌, require, from}
use Rattle.definition.specs.Read.{u16}
use Rattle.definition.specs.Contents.{count, contents}
use Rattle.read_book.specs.cursor.Ends.{Along, Gives, Step, Took, Ends}
use Rattle.read_book.specs.declared.cursor.Cursor.{Cursor}
use Rattle.read_book.specs.declared.cursor.Fault.{Fault}
use Rattle.read_book.proofs.cursor.Lists.{u16_two, u16_whole}
use Rattle.read_book.proofs.cursor.Laws.{handed, fails_as}
use Rattle.read_book.proofs.cursor.Only.{no_value}
use Rattle.read_book.specs.contents.Table.{row_of, table, Tabled}
use Rattle.read_book.proofs.contents.Rows.{table-bad, table_holds}

-- the count
module _ (s : List ℕ) where
  pub k_none : {f : Fault} {r : Step} → Took s 0 (Err f) (u16 s) → IsErrAnd r (λ g. g ≡ f) → Took s 0 r (count s)
  unfolding count
  k_none {r = r} t h = rw (handed r h) (record { told = fails_as _ t.told (λ k w. rw (w, u16_whole s _ _ w)) })

  module _ {n : ℕ} {c : Cursor} (t : Took s 0 (Ok (n, c)) (u16 s)) where
    pub k_many : 512 < n → Took s 0 (Err (record { code = NotABook; at = 0 })) (count s)
    unfolding count
    k_many h = record { told = record { kind = not_a_book; coded = refl; fails = rw (t.told.gives, lt-leb n 512 h); along = refl } }

    pub k_ok : n ≤ 512 → Took s 0 (Ok (n, c)) (count s)
    unfolding count
    k_ok h = record { told = record { gives = rw (t.told.gives, le-leb n 512 h); along = t.told.along } }

two_in : (s : List ℕ) → 2 ≤ length s → Along s 0 2
two_in s h = simp length-drop (omega arith)

-- a count that was read
few_by : (s l : List ℕ) (m : ℕ) (n : ℕ) (r : List ℕ) (t : Bool) → leb m 512 ≡ t → from s (require t not_a_book l >>= λ y. ok m y.1) ≡ ok n r → (m ≡ n) × (l ≡ r) × (m ≤ 512)
few_by s l m n r true e w = let v : m ≡ n = cc in let y : l ≡ r = cc in (v, y, leb-true m 512 e)
few_by s l m n r false e w = absurd (no_value w)

count_by : (s : List ℕ) (n : ℕ) (r : List ℕ) (m : Res (List ℕ) ℕ) → from s (m >>= λ y. require (leb y.0 512) not_a_book y.1 >>= λ z. ok y.0 z.1) ≡ ok n r → (m ≡ ok n r) × (n ≤ 512)
count_by s n r (bad k l) e = absurd (no_value e)
count_by s n r (ok m l) e = let f = few_by s l m n r (leb m 512) refl e in (rw (f.0, f.1), rw f.0 at f.2)

module _ (s : List ℕ) {n : ℕ} {c : Cursor} (t : Took s 0 (Ok (n, c)) (count s)) where
  counted_by : Gives s 0 n c.at (count s)
  counted_by = t.told

  open-count : (u16 s ≡ ok n (drop c.at s)) × (n ≤ 512)
  unfolding count
  open-count = count_by s n (drop c.at s) (u16 s) counted_by.gives

  at_two : (c.at ≡ 2) × (c.at ≤ length s)
  at_two = u16_two s 0 n c.at open-count.0 counted_by.along

  pub is_few : n ≤ 512
  is_few = open-count.1

  pub has_two : 2 ≤ length s
  has_two = let w = at_two in omega (arith, w.0, w.1)

  counts : count s ≡ ok n (drop 2 s)
  counts = rw (← at_two.0) counted_by.gives

  module _ (more : ℕ) where
    pub no_table : {f : Fault} {r : Result ℕ Fault} → Ends s 2 (Err f) (row_of (6 + more) s n (2 + (6 + more) * n) (drop 2 s)) → IsErrAnd r (λ g. g ≡ f) → Tabled s (6 + more) r
    no_table {f} {r} i w =
        let d = i.told in
        let a : Along s 0 f.at = d.along ∙ two_in s has_two in
        rw (handed r w) (record { told = record { kind = d.kind; coded = d.coded; fails = table-bad s more n counts has_two d.kind _ d.fails; along = a } })

    pub a_table : {v : Cursor} → Ends s 2 (Ok v) (row_of (6 + more) s n (2 + (6 + more) * n) (drop 2 s)) → Tabled s (6 + more) (Ok n)
    a_table {v} i =
        let d = i.told in
        record { told = (table_holds s more n counts has_two is_few d.0 (drop v.at s) d.1.gives).0 }

module _ (s : List ℕ) (more : ℕ) where
  pub no_count : {f : Fault} {r : Result ℕ Fault} → Took s 0 (Err f) (count s) → IsErrAnd r (λ g. g ≡ f) → Tabled s (6 + more) r
  unfolding table contents
  no_count {r = r} t h = rw (handed r h) (record { told = fails_as _ t.told (λ k w. rw w) })
