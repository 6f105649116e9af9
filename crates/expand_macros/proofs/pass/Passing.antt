-- A pass over a whole book.
-- Assumes nothing.
use mathlib.Core.Path.{◌≡◌, refl, sym, ap, ◌∙◌}
use mathlib.Core.Logic.{⊎_elim}
use mathlib.Core.List.{List, [], ◌∷◌, ◌++◌, map}
use mathlib.Core.Bool.{Bool, true, false, ◌&&◌}
use Prim.Native.Nat.{ℕ, ◌+◌, ◌*◌, ◌≤◌, ◌<◌, min, max}
use native.Mathlib.Omega.{arith}
use lib.Dec.{leb}
use lib.ListN.{length, drop, length-append, length-map}
use borrow.Author.Tests.{le-leb, lt-leb, leb-true, leb-false}
use Rattle.definition.specs.Code.{macro_growth}
use Rattle.definition.specs.Out.{Out, refused, done, ◌>>=◌, given}
use Rattle.definition.specs.Tree.{Combinator, Definition, format, constant, byte_order, macro}
use Rattle.definition.specs.Write.{w_u16, w_all, w_definition, w_entries, w_parts, entry_of, w_book}
use Rattle.definition.specs.Size.{levels, levels_p, levels_book, size_book}
use Rattle.definition.specs.Macros.{Macro, macros, expand, expand_all, expand_list}
use Rattle.laws.specs.Book.{IsBook}
use Rattle.laws.proofs.Sizes.{length_u16}
use Rattle.laws.proofs.Steps.{yielded}
use Rattle.laws.proofs.OnlySix.{Grows, code_six, grows_all}
use Rattle.layout.proofs.lookup.Names.{yes_no}
use Rattle.buffer.specs.writes.Buf.{put, Wrote}
use Rattle.buffer.proofs.writes.Put.{put-put, put_fits}
use Rattle.buffer.proofs.writes.Wrote.{same_length}
use Rattle.std.specs.Prelude.{Result, Ok, Err}
use Rattle.what_comes_back.specs.declared.Code.{Code}
use Rattle.what_comes_back.specs.declared.Code.TheVariants.{MacroGrowth}
use Rattle.expand_macros.specs.declared.known_macros.Macros.{Macros}
use Rattle.name_table.specs.forks.Leads.{Clear}
use Rattle.expand_macros.specs.known_macros.Table.{Tabled}
use Rattle.expand_macros.specs.pass.Left.{shallow, expand_one, and_one_of, shallow_all, WritesBy, Writes, Booked}
use Rattle.expand_macros.specs.pass.Pass.{pass, fitting, answer_of, leaves, Passed, PassedBy}
use Rattle.walker.proofs.definitions.Listed.{entries_apart, entries_size}
use Rattle.expand_macros.proofs.pass.Leftover.{kept_count}
use Rattle.expand_macros.proofs.pass.Plain.{size_length}
use Rattle.expand_macros.specs.kept.Kept.{kept_of, KeptOf}
use Rattle.expand_macros.proofs.kept.Counting.{kept_few}

abbrev tested : List Definition → Out (List Definition)
tested es = given (leb (levels_book es) 64) macro_growth es

level_and : (p l k : ℕ) → p ≤ 64 → leb (max (max p l) k) 64 ≡ leb l 64 && leb k 64
level_and p l k h = ⊎_elim
    (λ (e : leb l 64 ≡ true). ⊎_elim
    (λ (f : leb k 64 ≡ true). rw (e, f) (le-leb (max (max p l) k) 64 (omega (arith, leb-true l 64 e, leb-true k 64 f))))
    (λ (f : leb k 64 ≡ false). rw (e, f) (lt-leb (max (max p l) k) 64 (omega (arith, leb-false k 64 f))))
    (yes_no (leb k 64)))
    (λ (e : leb l 64 ≡ false). rw e (lt-leb (max (max p l) k) 64 (omega (arith, leb-false l 64 e))))
    (yes_no (leb l 64))

-- the test of the levels, body by body
deep_all : (ds : List Definition) (ms : List Macro) → levels_book ds ≤ 64 → (expand_all ds ms >>= tested) ≡ shallow_all ds ms
unfolding expand_all shallow_all expand_one levels_book shallow
deep_all [] ms h = refl
deep_all (format n ps c ∷ ds) ms h = go (expand c ms) (expand_all ds ms) (shallow_all ds ms) (grows_all ms ds) (deep_all ds ms (omega arith))
  where
    both : (a b : Bool) (d : Combinator) (es : List Definition)
        → given (a && b) macro_growth (format n ps d ∷ es) ≡ and_one_of (given a macro_growth d >>= λ e. done (format n ps e)) (given b macro_growth es)
    both true true d es = refl
    both true false d es = refl
    both false b d es = refl

    late : (a : Bool) (d : Combinator) → refused macro_growth ≡ and_one_of (given a macro_growth d >>= λ e. done (format n ps e)) (refused macro_growth)
    late true d = refl
    late false d = refl

    go : (v : Out Combinator) (t s : Out (List Definition)) → Grows t → (t >>= tested) ≡ s
        → (v >>= λ d. t >>= λ es. done (format n ps d ∷ es)) >>= tested ≡ and_one_of (v >>= λ d. shallow d >>= λ e. done (format n ps e)) s
    go (refused k) t s g e = refl
    go (done d) (refused k) s g e = rw (← e, code_six g) (late (leb (levels d) 64) d)
    go (done d) (done es) s g e = rw (← e, level_and (levels_p ps) (levels d) (levels_book es) (omega arith)) (both (leb (levels d) 64) (leb (levels_book es) 64) d es)
deep_all (constant n x ∷ ds) ms h = same (expand_all ds ms) (shallow_all ds ms) (deep_all ds ms h)
  where
    one : (b : Bool) (es : List Definition) → given b macro_growth (constant n x ∷ es) ≡ (given b macro_growth es >>= λ fs. done (constant n x ∷ fs))
    one true es = refl
    one false es = refl

    same : (t s : Out (List Definition)) → (t >>= tested) ≡ s → (t >>= λ es. done (constant n x ∷ es)) >>= tested ≡ (s >>= λ fs. done (constant n x ∷ fs))
    same (refused k) s e = rw (← e)
    same (done es) s e = rw (← e) (one (leb (levels_book es) 64) es)
deep_all (byte_order x ∷ ds) ms h = same (expand_all ds ms) (shallow_all ds ms) (deep_all ds ms h)
  where
    one : (b : Bool) (es : List Definition) → given b macro_growth (byte_order x ∷ es) ≡ (given b macro_growth es >>= λ fs. done (byte_order x ∷ fs))
    one true es = refl
    one false es = refl

    same : (t s : Out (List Definition)) → (t >>= tested) ≡ s → (t >>= λ es. done (byte_order x ∷ es)) >>= tested ≡ (s >>= λ fs. done (byte_order x ∷ fs))
    same (refused k) s e = rw (← e)
    same (done es) s e = rw (← e) (one (leb (levels_book es) 64) es)
deep_all (macro n ps c ∷ ds) ms h = deep_all ds ms (omega arith)

-- and then the test of the size
pass_is : (ms ds : List Definition) → levels_book ds ≤ 64 → pass ms ds ≡ (shallow_all ds (macros ms []) >>= λ es. given (leb (size_book es) 16384) macro_growth es)
unfolding pass
pass_is ms ds h = go (expand_all ds (macros ms [])) (shallow_all ds (macros ms [])) (deep_all ds (macros ms []) h)
  where
    both : (a b : Bool) (es : List Definition) → given (a && b) macro_growth es ≡ (given b macro_growth es >>= λ fs. given a macro_growth fs)
    both true true es = refl
    both true false es = refl
    both false true es = refl
    both false false es = refl

    apart : (b : Bool) (es : List Definition) → (given b macro_growth es >>= λ fs. given (leb (size_book es) 16384) macro_growth fs) ≡ (given b macro_growth es >>= λ fs. given (leb (size_book fs) 16384) macro_growth fs)
    apart true es = refl
    apart false es = refl

    go : (t s : Out (List Definition)) → (t >>= tested) ≡ s → (t >>= λ es. given (leb (size_book es) 16384 && leb (levels_book es) 64) macro_growth es) ≡ (s >>= λ es. given (leb (size_book es) 16384) macro_growth es)
    go (refused k) s e = rw (← e)
    go (done es) s e = rw (← e) (both (leb (size_book es) 16384) (leb (levels_book es) 64) es ∙ apart (leb (levels_book es) 64) es)

-- a size that is over the larger limit is over the smaller one
fit_is : (room : ℕ) (ms ds : List Definition) → room ≤ 16384 → levels_book ds ≤ 64
    → fitting room (pass ms ds) ≡ (shallow_all ds (macros ms []) >>= λ es. given (leb (size_book es) room) macro_growth es)
unfolding fitting
fit_is room ms ds k h = ap (λ (m : Out (List Definition)). m >>= λ es. given (leb (size_book es) room) macro_growth es) (pass_is ms ds h) ∙ go (shallow_all ds (macros ms []))
  where
    one : (es : List Definition) → (given (leb (size_book es) 16384) macro_growth es >>= λ fs. given (leb (size_book fs) room) macro_growth fs) ≡ given (leb (size_book es) room) macro_growth es
    one es = ⊎_elim
        (λ (h : leb (size_book es) 16384 ≡ true). rw h)
        (λ (h : leb (size_book es) 16384 ≡ false). rw (h, lt-leb (size_book es) room (omega (arith, leb-false (size_book es) 16384 h))))
        (yes_no (leb (size_book es) 16384))

    go : (m : Out (List Definition)) → (m >>= λ es. given (leb (size_book es) 16384) macro_growth es) >>= (λ es. given (leb (size_book es) room) macro_growth es) ≡ (m >>= λ es. given (leb (size_book es) room) macro_growth es)
    go (refused k) = refl
    go (done es) = one es

-- the bytes of a book
book_apart : (es : List Definition) → w_book es ≡ (w_u16 (length es) [] ++ w_entries (2 + 6 * length es) (map entry_of es) []) ++ w_all w_definition es []
unfolding w_book w_parts w_u16
book_apart es = rw (length-map es entry_of, entries_apart (2 + 6 * length es) es (w_all w_definition es []))

book_size : (es : List Definition) → size_book es ≡ 2 + 6 * length es + length (w_all w_definition es [])
unfolding size_book w_u16
book_size es =
    let E = w_entries (2 + 6 * length es) (map entry_of es) [] in
    ap length (book_apart es) ∙ simp length-append (omega (arith, entries_size (2 + 6 * length es) es))

-- the count, the entries and the bodies make the book
three_puts : (out U E B : List ℕ) (o : ℕ) → length U ≡ 2 → o ≡ 2 + length E → o + length B ≤ length out → put (put (put out 0 U) 2 E) o B ≡ ((U ++ E) ++ B) ++ drop (o + length B) out
three_puts out U E B o u e h =
    let a : 2 ≡ 0 + length U = omega arith in
    let b : o ≡ 0 + length (U ++ E) = omega (arith, length-append U E) in
    let l : o + length B ≡ 0 + length ((U ++ E) ++ B) = omega (arith, length-append U E, length-append (U ++ E) B) in
    let f : put out 0 ((U ++ E) ++ B) ≡ ((U ++ E) ++ B) ++ drop (0 + length ((U ++ E) ++ B)) out = put_fits out 0 ((U ++ E) ++ B) (omega arith) in
    ap (λ (k : ℕ). put (put (put out 0 U) k E) o B) a ∙ ap (λ (v : List ℕ). put v o B) (put-put out 0 U E) ∙ ap (λ (k : ℕ). put (put out 0 (U ++ E)) k B) b ∙ put-put out 0 (U ++ E) B ∙ f
    ∙ ap (λ (k : ℕ). ((U ++ E) ++ B) ++ drop k out) (sym l)

-- what the finished book says, where its bodies were written or did not fit
finished : (out out₂ : List ℕ) (n o end : ℕ) (es : List Definition) → length es ≡ n → o ≡ 2 + 6 * n → WritesBy (put out 0 (w_u16 n [])) 2 o es out₂ end true → size_book es ≤ length out
    → (end ≡ size_book es) × (out₂ ≡ w_book es ++ drop (size_book es) out)
finished out out₂ n o end es e eo w k =
    let E = w_entries o (map entry_of es) [] in
    let B = w_all w_definition es [] in
    let z : o + length B ≡ size_book es = omega (arith, book_size es) in
    let t = three_puts out (w_u16 n []) E B o (length_u16 n) (omega (arith, entries_size o es)) (omega arith) in
    let p : 2 + 6 * length es ≡ o = omega arith in
    let c : w_book es ≡ (w_u16 n [] ++ E) ++ B = rw (← e, ← p) (book_apart es) in
    (w.0 ∙ z, w.1 ∙ t ∙ rw (c, z))

module _ {t : Macros} {book out out₁ out₂ pl hs areas marks : List ℕ} {n o end q : ℕ} (tb : Tabled t.book.now pl hs t.places.now t.ways.now t.rows) (lp : length pl ≡ 512) (lh : length hs ≡ 1280) (cl : Clear hs)
    {k : ℕ} (kp : KeptOf book k) (nk : n ≡ min k 512) (w : Wrote out 0 (w_u16 n []) out₁ q) (eo : o ≡ 2 + 6 * n) (ro : o ≤ length out)
    (bk : Booked t book areas marks out₁ o out₂ end) (lo : length out₂ ≡ length out₁) where
  module _ (ms ds : List Definition) (el : t.book.now ≡ w_book ms) (im : IsBook ms) (eb : book ≡ w_book ds) (id : IsBook ds) (al : length areas ≡ 32768) (ol : length out ≤ 16384) (mb : length book ≤ 2 * length marks) where
    kept : n ≡ kept_of ds
    kept = omega (arith, kp.says ds eb id, kept_few ds, id.few)

    written : Writes out₁ 2 o (shallow_all ds (macros ms [])) out₂ end
    written = bk.says (macros ms [])
        (record {
          sized = record {
            macros_short = omega (arith, ap length el, size_length ms, im.short);
            book_short = omega (arith, ap length eb, size_length ds, id.short);
            areas_long = al;
          };
          marks-book = mb;
          out_short = omega (arith, same_length w);
          table = tb.says ms el im lp lh cl;
        })
        ds eb id (omega (arith, kept)) (omega (arith, same_length w))

  pub passed_grown : length out₂ < end → PassedBy (length marks) t.book.now book areas out out₂ (Err MacroGrowth)
  passed_grown g = record {
    says = λ ms ds el im eb id al ol mb.
        rw (fit_is (length out) ms ds ol id.deep)
        (go (shallow_all ds (macros ms [])) (λ es e. yielded (kept_count ds (macros ms [])) e ∙ sym (kept ms ds el im eb id al ol mb)) (written ms ds el im eb id al ol mb));
  }
    where
      go : (x : Out (List Definition)) → ((es : List Definition) → x ≡ done es → length es ≡ n) → Writes out₁ 2 o x out₂ end
          → (Err MacroGrowth ≡ answer_of (x >>= λ es. given (leb (size_book es) (length out)) macro_growth es)) × leaves (x >>= λ es. given (leb (size_book es) (length out)) macro_growth es) out out₂
      go (refused c) f v = (refl, lo ∙ same_length w)
      go (done es) f v = ⊎_elim
          (λ (h : leb (o + length (w_all w_definition es [])) (length out₁) ≡ true). absurd (omega (arith, (rw h at v).0, leb-true (o + length (w_all w_definition es [])) (length out₁) h)))
          (λ (h : leb (o + length (w_all w_definition es [])) (length out₁) ≡ false).
          rw (lt-leb (size_book es) (length out) (omega (arith, leb-false (o + length (w_all w_definition es [])) (length out₁) h, book_size es, f es refl, same_length w))) (refl, lo ∙ same_length w))
          (yes_no (leb (o + length (w_all w_definition es [])) (length out₁)))

  pub passed_book : end ≤ length out₂ → PassedBy (length marks) t.book.now book areas out out₂ (Ok end)
  passed_book g = record {
    says = λ ms ds el im eb id al ol mb.
        rw (fit_is (length out) ms ds ol id.deep)
        (go (shallow_all ds (macros ms [])) (λ es e. yielded (kept_count ds (macros ms [])) e ∙ sym (kept ms ds el im eb id al ol mb)) (written ms ds el im eb id al ol mb));
  }
    where
      go : (x : Out (List Definition)) → ((es : List Definition) → x ≡ done es → length es ≡ n) → Writes out₁ 2 o x out₂ end
          → (Ok end ≡ answer_of (x >>= λ es. given (leb (size_book es) (length out)) macro_growth es)) × leaves (x >>= λ es. given (leb (size_book es) (length out)) macro_growth es) out out₂
      go (refused c) f v = absurd (omega arith)
      go (done es) f v = ⊎_elim
          (λ (h : leb (o + length (w_all w_definition es [])) (length out₁) ≡ true).
          let s : size_book es ≤ length out = omega (arith, leb-true (o + length (w_all w_definition es [])) (length out₁) h, book_size es, f es refl, same_length w) in
          let f₁ = finished out out₂ n o end es (f es refl) eo (rw (← w.holds) (rw h at v)) s in
          rw (le-leb (size_book es) (length out) s) (ap Ok f₁.0, f₁.1))
          (λ (h : leb (o + length (w_all w_definition es [])) (length out₁) ≡ false). absurd (omega (arith, rw h at v)))
          (yes_no (leb (o + length (w_all w_definition es [])) (length out₁)))

-- where the entries alone do not fit
module _ {lib book areas out : List ℕ} {marks n k : ℕ} (kp : KeptOf book k) (nk : n ≡ min k 512) (short : length out < 2 + 6 * n) where
  pub passed_short : PassedBy marks lib book areas out out (Err MacroGrowth)
  passed_short = record {
    says = λ ms ds el im eb id al ol mb.
        rw (fit_is (length out) ms ds ol id.deep)
        (go (shallow_all ds (macros ms [])) (λ es e. omega (arith, yielded (kept_count ds (macros ms [])) e, kp.says ds eb id, kept_few ds, id.few)));
  }
    where
      go : (x : Out (List Definition)) → ((es : List Definition) → x ≡ done es → length es ≡ n)
          → (Err MacroGrowth ≡ answer_of (x >>= λ es. given (leb (size_book es) (length out)) macro_growth es)) × leaves (x >>= λ es. given (leb (size_book es) (length out)) macro_growth es) out out
      go (refused c) f = (refl, refl)
      go (done es) f = rw (lt-leb (size_book es) (length out) (omega (arith, book_size es, f es refl))) (refl, refl)

-- with marks for any book, and with those for short ones
pub passed_long : {lib book areas out out' : List ℕ} {r : Result ℕ Code} → PassedBy 8192 lib book areas out out' r → Passed lib book areas out out' r
passed_long {book = book} p = record { says = λ ms ds el im eb id al ol. p.says ms ds el im eb id al ol (omega (arith, ap length eb, size_length ds, id.short)) }

pub passed_brief : {lib book areas out out' : List ℕ} {r : Result ℕ Code} → length book ≤ 512 → PassedBy 256 lib book areas out out' r → Passed lib book areas out out' r
passed_brief h p = record { says = λ ms ds el im eb id al ol. p.says ms ds el im eb id al ol (omega arith) }

-- the plain mode: the book's own macros
pub plain_mode : (ds : List Definition) → pass ds ds ≡ expand_list ds
unfolding pass expand_list
plain_mode ds = refl
