-- An entry of the contents, by its bytes.
use mathlib.Core.Path.{◌≡◌, refl, ap, sym, ◌∙◌}
use mathlib.Core.List.{List, [], ◌∷◌}
use mathlib.Core.Bool.{Bool, true, false, ◌&&◌, false≢true}
use mathlib.Core.Logic.{◌⊎◌, ⊎_elim}
use Prim.Native.Nat.{ℕ, zero, suc, ◌+◌, ◌-◌, ◌*◌, ◌≤◌, ◌<◌}
use native.Mathlib.Nat.{add-sub_cancel_left}
use native.Mathlib.Numerals.{add-one}
use native.Mathlib.Omega.{arith}
use borrow.Author.Tests.{le-leb, lt-leb, eq-eqb, ne_eqb, leb-true}
use lib.Dec.{eqb, leb}
use lib.ListN.{length, get_or, take, drop, length-drop, get_or-eq_default}
use lib.Seq.{drop-cons, drop-drop}
use Rattle.std.specs.Prelude.{Ok, Err}
use Rattle.definition.specs.Code.{not_a_book}
use Rattle.definition.specs.Res.{Maybe, absent, just, Res, bad, ok, ◌>>=◌, require, from}
use Rattle.definition.specs.Tree.{Kind, Entry}
use Rattle.definition.specs.Read.{Reader, byte, u16, part, known, one_of, kinds}
use Rattle.definition.specs.Contents.{entry}
use Rattle.read_book.proofs.cursor.Lists.{part_is, part_short}
use Rattle.read_book.proofs.cursor.Only.{no_value}
use Rattle.std.proofs.lemmas.Bool.{cases_lt}
use Rattle.read_book.specs.entry.Found.{Found}
use Rattle.what_comes_back.specs.declared.Code.TheVariants.{NotABook}

-- what stands behind the kind
abbrev behind : ℕ → ℕ → ℕ → Kind → Reader Entry
behind width all at k s = do
  (z, s) ← byte s
  (o, s) ← u16 s
  (n, s) ← u16 s
  (x, s) ← part (width - 6) s
  (u, s) ← require (eqb z 0 && eqb o at && leb (at + n) all) not_a_book s
  ok (record { kind = k; size = n; extra = x }) s

module _ (more all at : ℕ) where
  width_more : 6 + more - 6 ≡ more
  width_more = add-sub_cancel_left 6 more

  -- with too few bytes behind the kind
  behind_short : (k : Kind) (l : List ℕ) → length l < 5 + more → (z : List ℕ) × (behind (6 + more) all at k l ≡ bad not_a_book z)
  unfolding byte u16
  behind_short k [] h = (_, refl)
  behind_short k (b ∷ []) h = (_, refl)
  behind_short k (b ∷ c ∷ []) h = (_, refl)
  behind_short k (b ∷ c ∷ d ∷ []) h = (_, refl)
  behind_short k (b ∷ c ∷ d ∷ e ∷ []) h = (_, refl)
  behind_short k (b ∷ c ∷ d ∷ e ∷ f ∷ l) h = ([], rw (width_more, part_short more l (omega arith)))

  known-bad : (m : Maybe Kind) (here l : List ℕ) → ((k : Kind) → (z : List ℕ) × (behind (6 + more) all at k l ≡ bad not_a_book z))
      → from here (known m here l >>= λ y. behind (6 + more) all at y.0 y.1) ≡ bad not_a_book here
  unfolding known
  known-bad absent here l f = refl
  known-bad (just k) here l f = rw (f k).1

  short : (l : List ℕ) → length l < 6 + more → entry (6 + more) all at l ≡ bad not_a_book l
  unfolding entry one_of
  short [] h = refl
  short (a ∷ l) h = known-bad (get_or kinds a absent) (a ∷ l) l (λ k. behind_short k l (omega arith))

  no_kind : (a : ℕ) (l : List ℕ) → get_or kinds a absent ≡ absent → entry (6 + more) all at (a ∷ l) ≡ bad not_a_book (a ∷ l)
  unfolding entry one_of known
  no_kind a l e = rw e

  six : (a b c d e f : ℕ) (l : List ℕ) (k : Kind) → get_or kinds a absent ≡ just k → more ≤ length l
      → entry (6 + more) all at (a ∷ b ∷ c ∷ d ∷ e ∷ f ∷ l)
      ≡ from (a ∷ b ∷ c ∷ d ∷ e ∷ f ∷ l) (require (eqb b 0 && eqb (c + 256 * d) at && leb (at + (e + 256 * f)) all) not_a_book (drop more l)
      >>= λ y. ok (record { kind = k; size = e + 256 * f; extra = take more l }) y.1)
  unfolding entry one_of known byte u16
  six a b c d e f l k w h = rw (w, width_more, part_is more l h)

-- six bytes at a place
next : (s : List ℕ) (p q : ℕ) → q ≡ p + 1 → p < length s → drop p s ≡ get_or s p 0 ∷ drop q s
next s p q e h = rw (e, add-one p, drop-cons s p 0 h)

bytes : (s : List ℕ) (p : ℕ) → p + 6 ≤ length s
    → drop p s ≡ get_or s p 0 ∷ get_or s (p + 1) 0 ∷ get_or s (p + 2) 0 ∷ get_or s (p + 2 + 1) 0 ∷ get_or s (p + 4) 0 ∷ get_or s (p + 4 + 1) 0 ∷ drop (p + 6) s
bytes s p h =
    next s p (p + 1) refl (omega arith)
    ∙ ap (λ l. get_or s p 0 ∷ l) (next s (p + 1) (p + 2) (omega arith) (omega arith)
    ∙ ap (λ l. get_or s (p + 1) 0 ∷ l) (next s (p + 2) (p + 2 + 1) refl (omega arith)
    ∙ ap (λ l. get_or s (p + 2) 0 ∷ l) (next s (p + 2 + 1) (p + 4) (omega arith) (omega arith)
    ∙ ap (λ l. get_or s (p + 2 + 1) 0 ∷ l) (next s (p + 4) (p + 4 + 1) refl (omega arith)
    ∙ ap (λ l. get_or s (p + 4) 0 ∷ l) (next s (p + 4 + 1) (p + 6) (omega arith) (omega arith))))))

abbrev offset : List ℕ → ℕ → ℕ
offset s p = get_or s (p + 2) 0 + 256 * get_or s (p + 2 + 1) 0

abbrev pub size_at : List ℕ → ℕ → ℕ
size_at s p = get_or s (p + 4) 0 + 256 * get_or s (p + 4 + 1) 0

-- the entry at a place of the book
module _ (s : List ℕ) (p want more : ℕ) where
  abbrev here : Res (List ℕ) Entry
  here = entry (6 + more) (length s) want (drop p s)

  at_short : length s < p + (6 + more) → here ≡ bad not_a_book (drop p s)
  at_short h = short more (length s) want (drop p s) (simp length-drop (omega arith))

  module _ (h : p + (6 + more) ≤ length s) where
    at_none : get_or kinds (get_or s p 0) absent ≡ absent → here ≡ bad not_a_book (drop p s)
    at_none e = let n = next s p (p + 1) refl (omega arith) in rw n (no_kind more (length s) want (get_or s p 0) (drop (p + 1) s) e)

    module _ (k : Kind) (e : get_or kinds (get_or s p 0) absent ≡ just k) where
      value : Entry
      value = record { kind = k; size = size_at s p; extra = take more (drop (p + 6) s) }

      at_known : here ≡ from (drop p s) (require (eqb (get_or s (p + 1) 0) 0 && eqb (offset s p) want && leb (want + size_at s p) (length s)) not_a_book (drop (p + (6 + more)) s) >>= λ y. ok value y.1)
      unfolding value
      at_known =
          let g : p + 6 + more ≡ p + (6 + more) = omega arith in
          rw (bytes s p (omega arith), ← g, ← (drop-drop more (p + 6) s))
          (six more (length s) want _ _ _ _ _ _ (drop (p + 6) s) k e (simp length-drop (omega arith)))

      at_bad : (eqb (get_or s (p + 1) 0) 0 && eqb (offset s p) want && leb (want + size_at s p) (length s)) ≡ false → here ≡ bad not_a_book (drop p s)
      at_bad t = at_known ∙ rw t

      at_ok : (eqb (get_or s (p + 1) 0) 0 && eqb (offset s p) want && leb (want + size_at s p) (length s)) ≡ true → here ≡ ok value (drop (p + (6 + more)) s)
      at_ok t = at_known ∙ rw t

some_kind : (a : ℕ) → 1 ≤ a → a ≤ 4 → (k : Kind) × (get_or kinds a absent ≡ just k)
some_kind zero l h = absurd (omega arith)
some_kind (suc zero) l h = (_, refl)
some_kind (suc (suc zero)) l h = (_, refl)
some_kind (suc (suc (suc zero))) l h = (_, refl)
some_kind (suc (suc (suc (suc zero)))) l h = (_, refl)
some_kind (suc (suc (suc (suc (suc a))))) l h = absurd (omega arith)

none_below : (a : ℕ) → a < 1 → get_or kinds a absent ≡ absent
none_below zero h = refl
none_below (suc a) h = absurd (omega arith)

-- the answers of the code
module _ (s : List ℕ) (p want more : ℕ) where
  refuses : entry (6 + more) (length s) want (drop p s) ≡ bad not_a_book (drop p s)
      → Found s p want (6 + more) (Err (record { code = NotABook; at = p })) (entry (6 + more) (length s) want (drop p s))
  refuses e = record { told = record { kind = not_a_book; coded = refl; fails = e; along = refl } }

  pub f_short : length s < p + (6 + more) → Found s p want (6 + more) (Err (record { code = NotABook; at = p })) (entry (6 + more) (length s) want (drop p s))
  f_short h = refuses (at_short s p want more h)

  module _ (h : p + (6 + more) ≤ length s) where
    pub f_kind : (get_or s p 0 < 1) ⊎ ((1 ≤ get_or s p 0) × (4 < get_or s p 0)) → Found s p want (6 + more) (Err (record { code = NotABook; at = p })) (entry (6 + more) (length s) want (drop p s))
    f_kind o =
        refuses (at_none s p want more h
        (⊎_elim
        (λ (l : get_or s p 0 < 1). none_below (get_or s p 0) l)
        (λ (l : (1 ≤ get_or s p 0) × (4 < get_or s p 0)). get_or-eq_default kinds absent {n = get_or s p 0} (omega arith))
        o))

    module _ (l : 1 ≤ get_or s p 0) (g : get_or s p 0 ≤ 4) where
      pub f_second : (get_or s (p + 1) 0 ≡ 0 → ⊥) → Found s p want (6 + more) (Err (record { code = NotABook; at = p })) (entry (6 + more) (length s) want (drop p s))
      f_second f = let k = some_kind (get_or s p 0) l g in refuses (at_bad s p want more h k.0 k.1 (rw (ne_eqb (get_or s (p + 1) 0) 0 f)))

      module _ (b : get_or s (p + 1) 0 ≡ 0) (o : ℕ) (e : o ≡ offset s p) where
        pub f_third : (o ≡ want → ⊥) → Found s p want (6 + more) (Err (record { code = NotABook; at = p })) (entry (6 + more) (length s) want (drop p s))
        f_third f =
            let k = some_kind (get_or s p 0) l g in
            refuses (at_bad s p want more h k.0 k.1 (rw (eq-eqb (get_or s (p + 1) 0) 0 b, ne_eqb (offset s p) want (λ w. f (e ∙ w)))))

        module _ (w : o ≡ want) (n : ℕ) (z : n ≡ size_at s p) where
          pub f_end : length s < want + n → Found s p want (6 + more) (Err (record { code = NotABook; at = p })) (entry (6 + more) (length s) want (drop p s))
          f_end f =
              let k = some_kind (get_or s p 0) l g in
              refuses (at_bad s p want more h k.0 k.1 (rw (eq-eqb (get_or s (p + 1) 0) 0 b, eq-eqb (offset s p) want (sym e ∙ w), ← z, lt-leb (want + n) (length s) f)))

          pub f_ok : (q : ℕ) → q ≡ p + (6 + more) → want + n ≤ length s
              → Found s p want (6 + more) (Ok (record { kind = get_or s p 0; end = want + n; next = record { at = q } })) (entry (6 + more) (length s) want (drop p s))
          unfolding value
          f_ok q u f =
              let k = some_kind (get_or s p 0) l g in
              record {
                told = record {
                  value = value s p want more h k.0 k.1;
                  gives = rw u (at_ok s p want more h k.0 k.1 (rw (eq-eqb (get_or s (p + 1) 0) 0 b, eq-eqb (offset s p) want (sym e ∙ w), ← z, le-leb (want + n) (length s) f)));
                  byte = refl;
                  kinded = k.1;
                  sized = ap (λ x. want + x) z;
                  fits = f;
                  past = u;
                  within = omega arith;
                };
              }

-- an entry that was read, taken apart
pub record Opened (s : List ℕ) (p want more : ℕ) (e : Entry) (z : List ℕ) : Type 0 where
  pub kinded : get_or kinds (get_or s p 0) absent ≡ just e.kind
  pub sized : e.size ≡ size_at s p
  pub fits : want + e.size ≤ length s
  pub rest : z ≡ drop (p + (6 + more)) s
  pub room : p + (6 + more) ≤ length s

third_of : (a b c : Bool) → (a && b && c) ≡ true → c ≡ true
third_of true true c e = e
third_of true false c e = absurd (false≢true e)
third_of false b c e = absurd (false≢true e)

module _ (s : List ℕ) (p want more : ℕ) (e : Entry) (z : List ℕ) (w : entry (6 + more) (length s) want (drop p s) ≡ ok e z) where
  not_bad : entry (6 + more) (length s) want (drop p s) ≡ bad not_a_book (drop p s) → ⊥
  not_bad f = no_value (sym f ∙ w)

  module _ (h : p + (6 + more) ≤ length s) where
    tested : (k : Kind) → get_or kinds (get_or s p 0) absent ≡ just k → (t : Bool)
        → (eqb (get_or s (p + 1) 0) 0 && eqb (offset s p) want && leb (want + size_at s p) (length s)) ≡ t → Opened s p want more e z
    unfolding value
    tested k g false f = absurd (not_bad (at_bad s p want more h k g f))
    tested k g true f =
        let o = sym w ∙ at_ok s p want more h k g f in
        let v : e ≡ value s p want more h k g = cc in
        let y : z ≡ drop (p + (6 + more)) s = cc in
        let u = leb-true (want + size_at s p) (length s) (third_of (eqb (get_or s (p + 1) 0) 0) (eqb (offset s p) want) (leb (want + size_at s p) (length s)) f) in
        record {
          kinded = rw v g;
          sized = rw v;
          fits = rw v u;
          rest = y;
          room = h;
        }

    kinded_by : (m : Maybe Kind) → get_or kinds (get_or s p 0) absent ≡ m → Opened s p want more e z
    kinded_by absent g = absurd (not_bad (at_none s p want more h g))
    kinded_by (just k) g = tested k g _ refl

  pub opened : Opened s p want more e z
  opened = ⊎_elim (λ (h : length s < p + (6 + more)). absurd (not_bad (at_short s p want more h))) (λ (h : p + (6 + more) ≤ length s). kinded_by h _ refl) (cases_lt (length s) (p + (6 + more)))
