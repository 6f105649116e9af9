-- Codes 1 to 5, from what the steps say.
-- Assumes nothing.
use mathlib.Core.Path.{◌≡◌, refl, sym, ap, ◌∙◌}
use mathlib.Core.List.{List, [], ◌∷◌}
use mathlib.Core.Bool.{Bool, true}
use Prim.Native.Nat.{ℕ, suc, ◌≤◌, ◌<◌, ◌-◌}
use native.Mathlib.Omega.{arith}
use lib.ListN.{length, get_or}
use lib.Seq.{take_all}
use borrow.Author.Tests.{le-leb, lt-leb}
use Rattle.std.specs.Prelude.{Result, Ok, Err}
use Rattle.definition.specs.Code.{Code, work_short, book_long}
use Rattle.definition.specs.Res.{Res, bad, ok}
use Rattle.definition.specs.Out.{refused}
use Rattle.definition.specs.Tree.{Definition}
use Rattle.definition.specs.Contents.{book as book_of, read_book_of}
use Rattle.definition.specs.Macros.{expand_list, expand_book}
use Rattle.definition.specs.Answer.{out as out_of, source, expanded, place, fault_of, fault_at}
use Rattle.laws.specs.Book.{Bytes}
use Rattle.laws.proofs.Results.{read_is_written}
use Rattle.read_book.specs.declared.cursor.Fault.{Fault}
use Rattle.what_comes_back.specs.declared.Refusal.{Refusal}
use Rattle.what_comes_back.specs.declared.Code.TheVariants.{WorkShort, BookLong}
use Rattle.read_book.specs.body.Verdict.{verdict}
use Rattle.expand_macros.specs.kept.Kept.{Macroless}
use Rattle.expand_macros.proofs.kept.Counting.{all-kept}
use Rattle.expand_macros.specs.pass.Pass.{pass}
use Rattle.expand_macros.proofs.pass.Plain.{pass_plain}
use Rattle.open_book.specs.declared.begin.Begun.TheVariants as begun
use Rattle.open_book.specs.begin.Begins.{opened, Sound as Passes, Begins}

-- the definition computes with long lists of what unfolds; what it says is short
read_says : (s : List ℕ) → read_book_of s ≡ book_of 6 s
unfolding read_book_of
read_says s = refl

pub expand_says : (ds : List Definition) → expand_book ds ≡ pass ds ds
unfolding expand_book pass expand_list
expand_says ds = refl

-- bytes, one by one
pub all_bytes : (s : List ℕ) → ((i : ℕ) → get_or s i 0 < 256) → Bytes s
all_bytes [] f = tt
all_bytes (b ∷ s) f = (f 0, all_bytes s (λ i. f (suc i)))

module _ (b : List ℕ) (n : ℕ) where
  pub begins_1 : {r : Refusal} → n < 65536 → r ≡ record { code = WorkShort; at = 0 } → Begins b n (Err r)
  unfolding opened fault_at
  begins_1 h e = rw e (record { reason = work_short; is = rw (lt-leb 65536 n h); coded = refl }, rw (lt-leb 65536 n h))

  module _ (h : 65536 ≤ n) where
    pub opened_is : opened b n ≡ expanded b
    unfolding opened
    opened_is = rw (le-leb 65536 n h)

    pub begins_2 : {r : Refusal} → 16384 < length b → r ≡ record { code = BookLong; at = 0 } → Begins b n (Err r)
    unfolding expanded source fault_at fault_of
    begins_2 l e = rw e (record { reason = book_long; is = opened_is ∙ rw (lt-leb (length b) 16384 l); coded = refl }, rw (le-leb 65536 n h, lt-leb (length b) 16384 l))

    module _ (l : length b ≤ 16384) where
      bad_is : (k : Code) (z : List ℕ) → book_of 6 b ≡ bad k z → opened b n ≡ refused k
      unfolding expanded source out_of
      bad_is k z e = opened_is ∙ rw (le-leb (length b) 16384 l, read_says b ∙ e)

      ok_is : (ds : List Definition) (z : List ℕ) → book_of 6 b ≡ ok ds z → opened b n ≡ expand_book ds
      unfolding expanded source out_of
      ok_is ds z e = opened_is ∙ rw (le-leb (length b) 16384 l, read_says b ∙ e)

      -- document 02 a: where reading stopped
      at_is : fault_at b n ≡ place b (book_of 6 b)
      unfolding fault_at fault_of
      at_is = rw (le-leb 65536 n h, le-leb (length b) 16384 l) (ap (λ (m : Res (List ℕ) (List Definition)). place b m) (read_says b))

      -- codes 3 to 5
      pub begins_bad : {v : Result Unit Fault} {f : Fault} → v ≡ verdict (length b) (book_of 6 b) → v ≡ Err f → Begins b n (Err (record { code = f.code; at = f.at }))
      unfolding verdict place
      begins_bad {v} {f} e g = judged (book_of 6 b) refl (sym e ∙ g)
        where
          judged : (m : Res (List ℕ) (List Definition)) → book_of 6 b ≡ m → verdict (length b) m ≡ Err f → Begins b n (Err (record { code = f.code; at = f.at }))
          judged (bad k z) q t = (record { reason = k; is = bad_is k z q; coded = cc }, let p : f.at ≡ length b - length z = cc in p ∙ sym (at_is ∙ rw q))
          judged (ok ds z) q t = absurd (let x : ◌≡◌ {A = ℕ} 0 1 = cc in omega arith)

      -- it lies in the book
      pub verdict_inside : {v : Result Unit Fault} {f : Fault} → v ≡ verdict (length b) (book_of 6 b) → v ≡ Err f → f.at ≤ 16384
      unfolding verdict
      verdict_inside {v} {f} e g = judged (book_of 6 b) (sym e ∙ g)
        where
          judged : (m : Res (List ℕ) (List Definition)) → verdict (length b) m ≡ Err f → f.at ≤ 16384
          judged (bad k z) t = let p : f.at ≡ length b - length z = cc in omega arith
          judged (ok ds z) t = absurd (let x : ◌≡◌ {A = ℕ} 0 1 = cc in omega arith)

      -- a book: its definitions, and that the bytes are theirs
      pub begins_sound : {v : Result Unit Fault} → v ≡ verdict (length b) (book_of 6 b) → v ≡ Ok tt → Bytes b → Passes b n
      unfolding verdict place
      begins_sound e g small = judged (book_of 6 b) refl (sym e ∙ g)
        where
          judged : (m : Res (List ℕ) (List Definition)) → book_of 6 b ≡ m → verdict (length b) m ≡ Ok tt → Passes b n
          judged (bad k z) q t = absurd (let x : ◌≡◌ {A = ℕ} 0 1 = cc in omega arith)
          judged (ok ds z) q t =
              let w = read_is_written b small l ds z (read_says b ∙ q) in
              record { source = ds; is = ok_is ds z q; is_book = w.1; written = w.0; wide = h; faultless = at_is ∙ rw q }

      pub begins_plain : {r : Bool} → Passes b n → Macroless b r → r ≡ true → Begins b n (Ok begun.Plain)
      begins_plain p m t =
          let ds = p.source in
          let k = all-kept m t ds p.written p.is_book in (
            p,
            record {
              left = ds;
              is = p.is ∙ expand_says ds ∙ pass_plain ds ds k k p.is_book;
              is_book = p.is_book;
              holds = take_all (length b) b (omega arith) ∙ p.written;
              fits = l;
            },
          )
