-- The nested list is more passes over the expanded one, with the macros of the source.
-- Assumes nothing.
use mathlib.Core.Path.{◌≡◌, refl, sym, ap, ◌∙◌}
use mathlib.Core.List.{List, []}
use mathlib.Core.Bool.{Bool, true, false}
use Prim.Native.Nat.{ℕ, ◌≤◌}
use lib.Dec.{leb}
use lib.ListN.{length}
use borrow.Author.Tests.{leb-true}
use Rattle.definition.specs.Code.{Code, work_short, book_long}
use Rattle.definition.specs.Res.{Res, bad, ok}
use Rattle.definition.specs.Out.{Out, refused, done, ◌>>=◌, given}
use Rattle.definition.specs.Tree.{Definition}
use Rattle.definition.specs.Contents.{read_book_of}
use Rattle.definition.specs.Write.{w_book}
use Rattle.definition.specs.Macros.{macros, expand_list, expand_book}
use Rattle.definition.specs.Answer.{out, source, expanded}
use Rattle.laws.specs.Book.{Bytes, IsBook}
use Rattle.laws.proofs.Steps.{no_done, did_out}
use Rattle.laws.proofs.Results.{expand_says, read_is_written}
use Rattle.nested.specs.Nested.{again, nested_list, expanded_nested}
use Rattle.open_book.specs.begin.Begins.{opened}
use Rattle.elaborate_nested.specs.OpensNested.{opened_nested}

-- what was read is what is written
pub source_written : (s : List ℕ) → Bytes s → (ds : List Definition) → source s ≡ done ds → (s ≡ w_book ds) × IsBook ds
unfolding source out
source_written s h ds e = go (leb (length s) 16384) refl e
  where
    read : length s ≤ 16384 → (m : Res (List ℕ) (List Definition)) → read_book_of s ≡ m → out m ≡ done ds → (s ≡ w_book ds) × IsBook ds
    read l (bad k z) q g = no_done g
    read l (ok es z) q g = let x : es ≡ ds = cc in read_is_written s h l ds z (q ∙ ap (λ (y : List Definition). ok y z) x)

    go : (t : Bool) → leb (length s) 16384 ≡ t → (given t book_long s >>= λ b. out (read_book_of b)) ≡ done ds → (s ≡ w_book ds) × IsBook ds
    go true l g = read (leb-true (length s) 16384 l) (read_book_of s) refl g
    go false l g = no_done g

module _ (b : List ℕ) (n : ℕ) where
  -- codes 1 to 6 of the first pass
  pub nested_refused : {k : Code} → opened b n ≡ refused k → opened_nested b n ≡ refused k
  unfolding opened opened_nested expanded expanded_nested nested_list
  nested_refused {k} e = go (leb 65536 n) e
    where
      list : (ds : List Definition) (m : Out (List Definition)) → m ≡ refused k → (m >>= λ es. again 15 (macros ds []) es) ≡ refused k
      list ds (refused j) g = g
      list ds (done es) g = no_done (sym g)

      read : (m : Out (List Definition)) → (m >>= λ ds. expand_book ds) ≡ refused k → (m >>= λ ds. nested_list ds) ≡ refused k
      read (refused j) g = g
      read (done ds) g = list ds (expand_list ds) (sym (expand_says ds) ∙ g)

      go : (t : Bool) → (given t work_short b >>= λ c. expanded c) ≡ refused k → (given t work_short b >>= λ c. expanded_nested c) ≡ refused k
      go true g = read (source b) g
      go false g = g

  -- the passes after it
  pub nested_more : {X : Type 0} {es : List Definition} → opened b n ≡ done es → ((ds : List Definition) → source b ≡ done ds → opened_nested b n ≡ again 15 (macros ds []) es → X) → X
  unfolding opened opened_nested expanded expanded_nested nested_list
  nested_more {X} {es} e f = go (leb 65536 n) e f
    where
      go : (t : Bool) → (given t work_short b >>= λ c. expanded c) ≡ done es → ((ds : List Definition) → source b ≡ done ds → (given t work_short b >>= λ c. expanded_nested c) ≡ again 15 (macros ds []) es → X) → X
      go true g f = did_out (source b) (λ ds. expand_book ds) es g (λ ds i j. f ds i (rw (i, sym (expand_says ds) ∙ j)))
      go false g f = no_done g

  -- whichever list comes after code 1
  long_by : (f : List ℕ → Out (List Definition)) {es : List Definition} → (given (leb 65536 n) work_short b >>= f) ≡ done es → 65536 ≤ n
  long_by f {es} e = go (leb 65536 n) refl e
    where
      go : (t : Bool) → leb 65536 n ≡ t → (given t work_short b >>= f) ≡ done es → 65536 ≤ n
      go true l g = leb-true 65536 n l
      go false l g = no_done g

  pub opened_long : {es : List Definition} → opened b n ≡ done es → 65536 ≤ n
  unfolding opened
  opened_long e = long_by expanded e

  pub nested_long : {es : List Definition} → opened_nested b n ≡ done es → 65536 ≤ n
  unfolding opened_nested
  nested_long e = long_by expanded_nested e
