-- Definitions added one after the other: entries grow at one place of the buffer, bodies at another behind it.
-- Assumes nothing.
use mathlib.Core.Path.{◌≡◌, refl, sym, ap, ◌∙◌}
use mathlib.Core.List.{List, [], ◌∷◌, ◌++◌, append_assoc, append-nil}
use Prim.Native.Nat.{ℕ, zero, suc, ◌+◌, ◌*◌, ◌-◌, ◌%◌, ◌≤◌, ◌<◌}
use native.Mathlib.Numerals.{add-one}
use native.Mathlib.Omega.{arith}
use lib.ListN.{length, get_or, take, drop, length-append, length-take}
use lib.Seq.{take-add, length-take-le, drop_at, take-append-add}
use Rattle.definition.specs.Write.{w_u16}
use Rattle.buffer.specs.writes.Buf.{put, Wrote}
use Rattle.buffer.proofs.writes.Put.{length-put, put-nil, put-put, put_fits, take_put, drop-put}
use Rattle.buffer.proofs.writes.Wrote.{same_length, place_fits}
use Rattle.laws.proofs.Sizes.{length_u16}
use Rattle.layout.specs.items.At.{byte_at, number_at}
use Rattle.buffer.specs.writer.Entry.{entry_bytes}
use Rattle.write_result.specs.splice.Model.{Tables, row, spliced}
use Rattle.write_result.specs.lifted.Model.{lifted_bytes}
use Rattle.write_result.specs.result.Model.{kept_bytes, Piece, entries, bodies, kept_from, lifted_from, definitions_from, book_bytes, result_bytes}
use Rattle.write_result.specs.result.Adds.{Adds, Filled}

-- two writes that do not meet
module _ (d : List ℕ) (x : ℕ) (p : List ℕ) (o : ℕ) (q : List ℕ) (h : x + length p ≤ o) (k : o + length q ≤ length d) where
  pub put_apart : put (put d o q) x p ≡ put (put d x p) o q
  put_apart =
      let n : ℕ = x + length p in
      let m : ℕ = o - n in
      let H : List ℕ = take x d ++ p in
      let l : length H ≡ n = simp (length-append, length-take) (omega arith) in
      let a : put d x p ≡ H ++ drop n d = put_fits d x p (omega arith) in
      let e : o ≡ n + m = omega arith in
      let b : drop n (put d o q) ≡ (take m (drop n d) ++ q) ++ drop (o + length q) d = inside n m e in
      let g : o ≡ length H + m = omega arith in
      let c : take o (put d x p) ≡ H ++ take m (drop n d) = ap (take o) a ∙ ap (λ (j : ℕ). take j (H ++ drop n d)) g ∙ take-append-add H (drop n d) m in
      let f : drop (o + length q) (put d x p) ≡ drop (o + length q) d = drop-put d x p (o + length q) (omega arith) in
      put_fits (put d o q) x p (rw length-put (omega arith))
      ∙ ap (λ (z : List ℕ). (z ++ p) ++ drop n (put d o q)) (take_put d o q x (omega arith))
      ∙ ap (λ (z : List ℕ). H ++ z) (b ∙ append_assoc (take m (drop n d)) q (drop (o + length q) d))
      ∙ sym (append_assoc H (take m (drop n d)) (q ++ drop (o + length q) d))
      ∙ sym (put_fits (put d x p) o q (rw length-put (omega arith)) ∙ append_assoc (take o (put d x p)) q (drop (o + length q) (put d x p)) ∙ ap (λ (z : List ℕ). z ++ (q ++ drop (o + length q) (put d x p))) c ∙ ap (λ (z : List ℕ). (H ++ take m (drop n d)) ++ (q ++ z)) f)
    where
      inside : (n m : ℕ) → o ≡ n + m → drop n (put d o q) ≡ (take m (drop n d) ++ q) ++ drop (o + length q) d
      inside n m e =
          let a : take o d ≡ take n d ++ take m (drop n d) = rw e (take-add n m d) in
          ap (drop n) (put_fits d o q k ∙ rw (a, append_assoc, append_assoc))
          ∙ drop_at (take n d) (take m (drop n d) ++ (q ++ drop (o + length q) d)) n (length-take-le n d (omega arith))
          ∙ sym (append_assoc (take m (drop n d)) q (drop (o + length q) d))

pub length_entry : (kind at n : ℕ) → length (entry_bytes kind at n) ≡ 6
unfolding entry_bytes w_u16
length_entry kind at n = refl

pub length-entries : (at : ℕ) (ps : List Piece) → length (entries at ps) ≡ 6 * length ps
unfolding entries
length-entries at [] = refl
length-entries at (p ∷ ps) = length-append (entry_bytes p.kind at (length p.bytes)) (entries (at + length p.bytes) ps) ∙ omega (arith, length_entry p.kind at (length p.bytes), length-entries (at + length p.bytes) ps)

pub bodies-append : (ps qs : List Piece) → bodies (ps ++ qs) ≡ bodies ps ++ bodies qs
unfolding bodies
bodies-append [] qs = refl
bodies-append (p ∷ ps) qs = ap (λ (l : List ℕ). p.bytes ++ l) (bodies-append ps qs) ∙ sym (append_assoc p.bytes (bodies ps) (bodies qs))

pub entries-append : (at : ℕ) (ps qs : List Piece) → entries at (ps ++ qs) ≡ entries at ps ++ entries (at + length (bodies ps)) qs
unfolding entries bodies
entries-append at [] qs = let e : at + 0 ≡ at = omega arith in rw e
entries-append at (p ∷ ps) qs =
    let e : at + length (p.bytes ++ bodies ps) ≡ at + length p.bytes + length (bodies ps) = simp length-append (omega arith) in
    rw e (ap (λ (l : List ℕ). entry_bytes p.kind at (length p.bytes) ++ l) (entries-append (at + length p.bytes) ps qs)
    ∙ sym (append_assoc (entry_bytes p.kind at (length p.bytes)) (entries (at + length p.bytes) ps) (entries (at + length p.bytes + length (bodies ps)) qs)))

-- some, then others
module _ {d : List ℕ} {i o : ℕ} {ps : List Piece} {d' : List ℕ} {o' : ℕ} (a : Adds d i o ps d' o') where
  pub adds_on : {qs : List Piece} {d'' : List ℕ} {o'' : ℕ} → Adds d' (i + length ps) o' qs d'' o'' → Adds d i o (ps ++ qs) d'' o''
  adds_on {qs} {d''} {o''} b = record {
    long = b.long ∙ a.long;
    holds = λ h k. (both (rw n at h) (rw m at k)).0;
    place = λ h k. (both (rw n at h) (rw m at k)).1;
  }
    where
      n : length (ps ++ qs) ≡ length ps + length qs
      n = length-append ps qs

      m : length (bodies (ps ++ qs)) ≡ length (bodies ps) + length (bodies qs)
      m = ap length (bodies-append ps qs) ∙ length-append (bodies ps) (bodies qs)

      both : 2 + 6 * (i + (length ps + length qs)) ≤ o → o + (length (bodies ps) + length (bodies qs)) ≤ length d
          → (d'' ≡ put (put d (2 + 6 * i) (entries o (ps ++ qs))) o (bodies (ps ++ qs))) × (o'' ≡ o + length (bodies (ps ++ qs)))
      both h k =
          let f = a.place (omega arith) (omega arith) in
          let g = a.holds (omega arith) (omega arith) in
          let x : ℕ = 2 + 6 * i in
          let E = entries o ps in
          let F = entries o' qs in
          let B = bodies ps in
          let y : 2 + 6 * (i + length ps) ≡ x + length E = omega (arith, length-entries o ps) in
          let u = b.holds (omega arith) (omega (arith, a.long)) in
          let v = b.place (omega arith) (omega (arith, a.long)) in (
            u ∙ ap (λ (l : List ℕ). put (put l (2 + 6 * (i + length ps)) F) o' (bodies qs)) g
                ∙ rw (y, f) (ap (λ (l : List ℕ). put l (o + length B) (bodies qs)) (put_apart (put d x E) (x + length E) F' o B (omega (arith, length-entries o ps, length-entries (o + length B) qs)) (rw length-put (omega arith))
                ∙ ap (λ (l : List ℕ). put l o B) (put-put d x E F')) ∙ put-put (put d x (E ++ F')) o B (bodies qs) ∙ rw (entries-append o ps qs, bodies-append ps qs)),
            v ∙ rw (f, m) (omega arith),
          )
        where
          F' : List ℕ
          F' = entries (o + length (bodies ps)) qs

pub adds_none : (d : List ℕ) (i o : ℕ) → Adds d i o [] d o
unfolding entries bodies
adds_none d i o = record { long = refl; holds = λ h k. sym (put-nil (put d (2 + 6 * i) []) o ∙ put-nil d (2 + 6 * i)); place = λ h k. omega arith }

-- a body was written, then its entry
pub adds_one : {d : List ℕ} {i o kind : ℕ} {body d' d'' : List ℕ} {e x : ℕ} → Wrote d o body d' e → Wrote d' (2 + 6 * i) (entry_bytes kind o (e - o)) d'' x → Adds d i o (record { kind = kind; bytes = body } ∷ []) d'' e
unfolding entries bodies
adds_one {d} {i} {o} {kind} {body} {d'} {d''} {e} {x} a b = record {
  long = same_length b ∙ same_length a;
  holds = λ h k. let k' = rw append-nil at k in let z = place_fits a k' in let n : e - o ≡ length body = omega arith in
      b.holds ∙ ap (λ (l : List ℕ). put l (2 + 6 * i) (entry_bytes kind o (e - o))) a.holds ∙ rw (n, append-nil, append-nil) (put_apart d (2 + 6 * i) (entry_bytes kind o (length body)) o body (omega (arith, length_entry kind o (length body))) k');
  place = λ h k. rw append-nil (place_fits a (rw append-nil at k));
}

-- whoever adds qs from here on has added ps from the start
pub record Left (d : List ℕ) (i o : ℕ) (ps : List Piece) (d' : List ℕ) (i' o' : ℕ) (qs : List Piece) : Type 0 where
  pub then : (e : List ℕ) (r : ℕ) → Adds d' i' o' qs e r → Adds d i o ps e r

pub left_all : {d : List ℕ} {i j o : ℕ} {ps qs : List Piece} → i ≡ j → ps ≡ qs → Left d i o ps d j o qs
left_all h k = record { then = λ e r w. rw (h, k) w }

module _ {d : List ℕ} {i o : ℕ} {ps : List Piece} {d' : List ℕ} {i' o' : ℕ} {qs : List Piece} (g : Left d i o ps d' i' o' qs) where
  pub left_on : {p rest : List Piece} {d'' : List ℕ} {o'' : ℕ} → Adds d' i' o' p d'' o'' → length p ≡ 1 → qs ≡ p ++ rest → Left d i o ps d'' (i' + 1) o'' rest
  left_on {p} {rest} a n e = record { then = λ x r w. g.then x r (rw e (adds_on a (rw n w))) }

  pub left_end : qs ≡ [] → Adds d i o ps d' o'
  left_end e = g.then d' o' (rw e (adds_none d' i' o'))

pub adds_as : {d : List ℕ} {i o : ℕ} {ps qs : List Piece} {d' : List ℕ} {o' : ℕ} → ps ≡ qs → Adds d i o qs d' o' → Adds d i o ps d' o'
adds_as e a = rw e a

module _ (t : Tables) where
  pub kept_is : (i from n : ℕ) → from ≡ number_at t.book (2 + 6 * i + 2) → n ≡ number_at t.book (2 + 6 * i + 4) → kept_bytes t i ≡ spliced t from (from + n)
  unfolding kept_bytes
  kept_is i from n a b = rw (a, b)

  pub kept_of : (i kind : ℕ) → kind ≡ byte_at t.book (2 + 6 * i) → kept_from t i 1 ≡ record { kind = kind; bytes = kept_bytes t i } ∷ []
  unfolding kept_from
  kept_of i kind e = rw e

  pub lifted_of : (order : List ℕ) (i k : ℕ) → k ≡ get_or order i 0 → lifted_from t order i 1 ≡ record { kind = 1; bytes = lifted_bytes t (row t k) } ∷ []
  unfolding lifted_from
  lifted_of order i k e = rw e

  pub kept_more : (i n : ℕ) → i < n → kept_from t i (n - i) ≡ kept_from t i 1 ++ kept_from t (i + 1) (n - (i + 1))
  unfolding kept_from
  kept_more i n h = let e : n - i ≡ suc (n - (i + 1)) = omega arith in rw (e, add-one)

  pub kept_one : (i : ℕ) → length (kept_from t i 1) ≡ 1
  unfolding kept_from
  kept_one i = refl

  pub length_kept : (i n : ℕ) → length (kept_from t i n) ≡ n
  unfolding kept_from
  length_kept i zero = refl
  length_kept i (suc n) = ap suc (length_kept (suc i) n)

  module _ (order : List ℕ) where
    pub lifted_more : (i n : ℕ) → i < n → lifted_from t order i (n - i) ≡ lifted_from t order i 1 ++ lifted_from t order (i + 1) (n - (i + 1))
    unfolding lifted_from
    lifted_more i n h = let e : n - i ≡ suc (n - (i + 1)) = omega arith in rw (e, add-one)

    pub lifted_one : (i : ℕ) → length (lifted_from t order i 1) ≡ 1
    unfolding lifted_from
    lifted_one i = refl

    pub length_lifted : (i n : ℕ) → length (lifted_from t order i n) ≡ n
    unfolding lifted_from
    length_lifted i zero = refl
    length_lifted i (suc n) = ap suc (length_lifted (suc i) n)

-- all definitions of the result, one after the other
module _ (t : Tables) (order : List ℕ) (kept all : ℕ) where
  pub all_start : definitions_from t order kept all 0 ≡ kept_from t 0 kept ++ lifted_from t order 0 (all - kept)
  unfolding definitions_from
  all_start =
      let a : kept - 0 ≡ kept = omega arith in
      let b : 0 - kept ≡ 0 = omega arith in
      let c : all - kept - 0 ≡ all - kept = omega arith in
      rw (a, b, c)

  pub all_done : (i : ℕ) → kept ≤ all → all ≤ i → definitions_from t order kept all i ≡ []
  unfolding definitions_from kept_from lifted_from
  all_done i m h =
      let a : kept - i ≡ 0 = omega arith in
      let b : all - kept - (i - kept) ≡ 0 = omega arith in
      rw (a, b)

  all-kept : (i : ℕ) → i < kept → definitions_from t order kept all i ≡ kept_from t i 1 ++ definitions_from t order kept all (i + 1)
  unfolding definitions_from
  all-kept i h =
      let e : i - kept ≡ i + 1 - kept = omega arith in
      ap (λ (l : List Piece). l ++ lifted_from t order (i - kept) (all - kept - (i - kept))) (kept_more t i kept h)
      ∙ append_assoc (kept_from t i 1) (kept_from t (i + 1) (kept - (i + 1))) (lifted_from t order (i - kept) (all - kept - (i - kept)))
      ∙ ap (λ (j : ℕ). kept_from t i 1 ++ (kept_from t (i + 1) (kept - (i + 1)) ++ lifted_from t order j (all - kept - j))) e

  all_lifted : (i : ℕ) → kept ≤ i → i < all → definitions_from t order kept all i ≡ lifted_from t order (i - kept) 1 ++ definitions_from t order kept all (i + 1)
  unfolding definitions_from kept_from
  all_lifted i m h =
      let z : kept - i ≡ 0 = omega arith in
      let y : 0 ≡ kept - (i + 1) = omega arith in
      let u : i - kept + 1 ≡ i + 1 - kept = omega arith in
      ap (λ (k : ℕ). kept_from t i k ++ lifted_from t order (i - kept) (all - kept - (i - kept))) z
      ∙ lifted_more t order (i - kept) (all - kept) (omega arith)
      ∙ ap (λ (j : ℕ). lifted_from t order (i - kept) 1 ++ lifted_from t order j (all - kept - j)) u
      ∙ ap (λ (k : ℕ). lifted_from t order (i - kept) 1 ++ (kept_from t (i + 1) k ++ lifted_from t order (i + 1 - kept) (all - kept - (i + 1 - kept)))) y

  -- one of the kept ones, and one of the lifts
  module _ {d : List ℕ} {at o : ℕ} {ps : List Piece} {d' d'' : List ℕ} {o' : ℕ} (i : ℕ) where
    pub left_kept : Left d 0 at ps d' i o (definitions_from t order kept all i) → i < kept → Adds d' i o (kept_from t i 1) d'' o' → Left d 0 at ps d'' (i + 1) o' (definitions_from t order kept all (i + 1))
    left_kept g h a = left_on g a (kept_one t i) (all-kept i h)

    pub left_lifted : Left d 0 at ps d' (kept + i) o (definitions_from t order kept all (kept + i)) → kept + i < all → Adds d' (kept + i) o (lifted_from t order i 1) d'' o'
        → Left d 0 at ps d'' (kept + (i + 1)) o' (definitions_from t order kept all (kept + (i + 1)))
    left_lifted g h a =
        let e : kept + i - kept ≡ i = omega arith in
        let f : kept + i + 1 ≡ kept + (i + 1) = omega arith in
        rw f at (left_on g a (lifted_one t order i) (rw e at (all_lifted (kept + i) (omega arith) h)))

-- the count, then all definitions
pub filled : {d d' d'' : List ℕ} {x o n : ℕ} (ps : List Piece) → length ps ≡ n → Wrote d 0 (w_u16 (n % 65536) []) d' x → Adds d' 0 (2 + 6 * n) ps d'' o → Filled d (book_bytes n ps) d'' o
unfolding book_bytes w_u16
filled {d} {d'} {d''} {x} {o} {n} ps l a b = record { holds = λ h. (both (rw m at h)).0; size = λ h. (both (rw m at h)).1 ∙ sym m }
  where
    C : List ℕ
    C = w_u16 (n % 65536) []

    E : List ℕ
    E = entries (2 + 6 * n) ps

    R : List ℕ
    R = C ++ (E ++ bodies ps)

    m : length (C ++ (E ++ bodies ps)) ≡ 2 + 6 * n + length (bodies ps)
    m = length-append C (E ++ bodies ps) ∙ omega (arith, length_u16 (n % 65536), length-append E (bodies ps), length-entries (2 + 6 * n) ps)

    both : 2 + 6 * n + length (bodies ps) ≤ length d → (d'' ≡ (C ++ (E ++ bodies ps)) ++ drop (length (C ++ (E ++ bodies ps))) d) × (o ≡ 2 + 6 * n + length (bodies ps))
    both h =
        let k : 2 + 6 * (0 + length ps) ≤ 2 + 6 * n = omega arith in
        let y : 2 + 6 * n ≡ 0 + length (C ++ E) = omega (arith, length-append C E, length_u16 (n % 65536), length-entries (2 + 6 * n) ps) in
        let z : 2 + 6 * n + length (bodies ps) ≤ length d' = omega (arith, same_length a) in (
          b.holds k z ∙ ap (λ (q : List ℕ). put (put q 2 E) (2 + 6 * n) (bodies ps)) a.holds
              ∙ ap (λ (q : List ℕ). put q (2 + 6 * n) (bodies ps)) (put-put d 0 C E)
              ∙ ap (λ (q : ℕ). put (put d 0 (C ++ E)) q (bodies ps)) y
              ∙ put-put d 0 (C ++ E) (bodies ps)
              ∙ ap (put d 0) (append_assoc C E (bodies ps))
              ∙ put_fits d 0 R (omega (arith, m)) ∙ (let j : 0 + length R ≡ length R = omega arith in rw j),
          b.place k z,
        )

pub result_is : (t : Tables) (order : List ℕ) (n m : ℕ) {d d₁ d₂ : List ℕ} {x r : ℕ} → m ≡ number_at t.book 0 → Wrote d 0 (w_u16 ((m + n) % 65536) []) d₁ x
    → Adds d₁ 0 (2 + 6 * (m + n)) (definitions_from t order m (m + n) 0) d₂ r → Filled d (result_bytes t order n) d₂ r
unfolding result_bytes
result_is t order n m e w a =
    let k : length (kept_from t 0 m) ≡ m = length_kept t 0 m in
    let j : m + n - m ≡ n = omega arith in
    let f : kept_from t 0 m ++ lifted_from t order 0 n ≡ definitions_from t order m (m + n) 0 = sym (all_start t order m (m + n) ∙ ap (λ (q : ℕ). kept_from t 0 m ++ lifted_from t order 0 q) j) in
    rw (← e) (filled (kept_from t 0 m ++ lifted_from t order 0 n) (length-append (kept_from t 0 m) (lifted_from t order 0 n) ∙ rw (k, length_lifted t order 0 n)) w (adds_as f a))
