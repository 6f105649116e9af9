-- The table of well-formed byte sequences says the same as the encodings of scalar values.
use mathlib.Core.Path.{◌≡◌, refl, ap, ◌∙◌, sym}
use mathlib.Core.Logic.{◌⊎◌, inl, inr, ⊎_elim}
use mathlib.Core.List.{List, [], ◌∷◌, ◌++◌}
use mathlib.Core.Bool.{true, ◌&&◌, cond}
use Prim.Native.Nat.{ℕ, zero, suc, ◌+◌, ◌*◌, ◌-◌, ◌/◌, ◌%◌, ◌≤◌, ◌<◌}
use native.Mathlib.Nat.{not-suc-le-zero}
use native.Mathlib.Omega.{arith}
use lib.Dec.{eqb, leb, ltb}
use lib.ListN.{length, get_or, drop}
use borrow.Author.Tests.{ltb-true, ltb-false, leb-true, eqb-true, eqb-false, lt-ltb, le-ltb, le-leb, ne_eqb}
use Rattle.definition.specs.Utf8.{scalar, encode, Utf8, none, more, Range, range, behind, characters, well_formed}
use Rattle.laws.specs.Laws.{TableSaysUtf8, OneEncoding}
use Rattle.laws.proofs.Tests.{by_test, both_true}

-- a scalar value is no surrogate and at most 0x10FFFF
module _ (c : ℕ) where
  low_scalar : c < 55296 → scalar c ≡ true
  unfolding scalar
  low_scalar h = rw (lt-ltb c 55296 h)

  high_scalar : 57344 ≤ c → c ≤ 1114111 → scalar c ≡ true
  unfolding scalar
  high_scalar h g = rw (le-ltb c 55296 (omega arith), le-leb 57344 c h, le-leb c 1114111 g)

  of_scalar : scalar c ≡ true → (c < 55296) ⊎ ((57344 ≤ c) × (c ≤ 1114111))
  unfolding scalar
  of_scalar e = by_test (ltb c 55296)
      (λ p. inl (ltb-true c 55296 p))
      (λ p.
      let q : leb 57344 c && leb c 1114111 ≡ true = rw p at e in
      let w = both_true (leb 57344 c) (leb c 1114111) q in
      inr (leb-true 57344 c w.0, leb-true c 1114111 w.1))

  -- the four lengths
  pub one : c < 128 → encode c ≡ c ∷ []
  unfolding encode
  one h = rw (lt-ltb c 128 h)

  pub two : 128 ≤ c → c < 2048 → encode c ≡ (192 + c / 64) ∷ (128 + c % 64) ∷ []
  unfolding encode
  two h g = rw (le-ltb c 128 h, lt-ltb c 2048 g)

  pub three : 2048 ≤ c → c < 65536 → encode c ≡ (224 + c / 4096) ∷ (128 + c / 64 % 64) ∷ (128 + c % 64) ∷ []
  unfolding encode
  three h g = rw (le-ltb c 128 (omega arith), le-ltb c 2048 h, lt-ltb c 65536 g)

  pub four : 65536 ≤ c → encode c ≡ (240 + c / 262144) ∷ (128 + c / 4096 % 64) ∷ (128 + c / 64 % 64) ∷ (128 + c % 64) ∷ []
  unfolding encode
  four h = rw (le-ltb c 128 (omega arith), le-ltb c 2048 (omega arith), le-ltb c 65536 h)

-- the rows of the table
abbrev tail : Range
tail = record { low = 128; high = 191 }

module _ (b : ℕ) where
  row_1 : b < 128 → behind b ≡ []
  unfolding behind
  row_1 h = rw (lt-ltb b 128 h)

  row_2 : 194 ≤ b → b < 224 → behind b ≡ tail ∷ []
  unfolding behind
  row_2 h g = rw (le-ltb b 128 (omega arith), le-ltb b 194 h, lt-ltb b 224 g)

  row_3 : 224 < b → b < 240 → (b ≡ 237 → ⊥) → behind b ≡ tail ∷ tail ∷ []
  unfolding behind
  row_3 h g n = rw (le-ltb b 128 (omega arith), le-ltb b 194 (omega arith), le-ltb b 224 (omega arith), ne_eqb b 224 (λ e. omega (arith, e)), ne_eqb b 237 n, lt-ltb b 240 g)

  row_4 : 240 < b → b < 244 → behind b ≡ tail ∷ tail ∷ tail ∷ []
  unfolding behind
  row_4 h g =
      rw (
        le-ltb b 128 (omega arith),
        le-ltb b 194 (omega arith),
        le-ltb b 224 (omega arith),
        ne_eqb b 224 (λ e. omega (arith, e)),
        ne_eqb b 237 (λ e. omega (arith, e)),
        le-ltb b 240 (omega arith),
        ne_eqb b 240 (λ e. omega (arith, e)),
        lt-ltb b 244 g,
      )

-- a byte in its range is passed
pass : (l h b : ℕ) (rs : List Range) (s : List ℕ) → l ≤ b → b ≤ h → characters (range l h ∷ rs) (b ∷ s) ≡ characters rs s
unfolding characters
pass l h b rs s p q = rw (le-leb l b p, le-leb b h q)

first : (b : ℕ) (s : List ℕ) → characters [] (b ∷ s) ≡ characters (behind b) s
unfolding characters
first b s = refl

-- an encoding is passed whole
module _ (c : ℕ) (s : List ℕ) where
  abbrev x : ℕ
  x = 128 + c / 4096 % 64

  abbrev y : ℕ
  y = 128 + c / 64 % 64

  abbrev z : ℕ
  z = 128 + c % 64

  last_1 : characters (tail ∷ []) (z ∷ s) ≡ characters [] s
  last_1 = pass 128 191 z [] s (omega arith) (omega arith)

  last_2 : characters (tail ∷ tail ∷ []) (y ∷ z ∷ s) ≡ characters [] s
  last_2 = pass 128 191 y (tail ∷ []) (z ∷ s) (omega arith) (omega arith) ∙ last_1

  pass_2 : 128 ≤ c → c < 2048 → characters [] (encode c ++ s) ≡ characters [] s
  pass_2 h g = rw (two c h g, first (192 + c / 64) (z ∷ s), row_2 (192 + c / 64) (omega arith) (omega arith)) last_1

  pass_3 : 2048 ≤ c → c < 65536 → (c < 55296) ⊎ (57344 ≤ c) → characters [] (encode c ++ s) ≡ characters [] s
  unfolding behind
  pass_3 h g w = rw (three c h g, first (224 + c / 4096) (y ∷ z ∷ s)) (by_test (ltb c 4096)
      (λ p.
      let k = ltb-true c 4096 p in
      let e : 224 + c / 4096 ≡ 224 = omega arith in
      rw e (pass 160 191 y (tail ∷ []) (z ∷ s) (omega arith) (omega arith) ∙ last_1))
      (λ p.
      let k = ltb-false c 4096 p in
      by_test (eqb (224 + c / 4096) 237)
      (λ q.
      let e = eqb-true (224 + c / 4096) 237 q in
      rw e (pass 128 159 y (tail ∷ []) (z ∷ s) (omega arith) (⊎_elim (λ (v : c < 55296). omega arith) (λ (v : 57344 ≤ c). absurd (omega arith)) w) ∙ last_1))
      (λ q. rw (row_3 (224 + c / 4096) (omega arith) (omega arith) (eqb-false (224 + c / 4096) 237 q)) last_2)))

  pass_4 : 65536 ≤ c → c ≤ 1114111 → characters [] (encode c ++ s) ≡ characters [] s
  unfolding behind
  pass_4 h g = rw (four c h, first (240 + c / 262144) (x ∷ y ∷ z ∷ s)) (by_test (ltb c 262144)
      (λ p.
      let k = ltb-true c 262144 p in
      let e : 240 + c / 262144 ≡ 240 = omega arith in
      rw e (pass 144 191 x (tail ∷ tail ∷ []) (y ∷ z ∷ s) (omega arith) (omega arith) ∙ last_2))
      (λ p.
      let k = ltb-false c 262144 p in
      by_test (ltb c 1048576)
      (λ q.
      let k₂ = ltb-true c 1048576 q in
      rw (row_4 (240 + c / 262144) (omega arith) (omega arith)) (pass 128 191 x (tail ∷ tail ∷ []) (y ∷ z ∷ s) (omega arith) (omega arith) ∙ last_2))
      (λ q.
      let k₂ = ltb-false c 1048576 q in
      let e : 240 + c / 262144 ≡ 244 = omega arith in
      rw e (pass 128 143 x (tail ∷ tail ∷ []) (y ∷ z ∷ s) (omega arith) (omega arith) ∙ last_2))))

  passes : scalar c ≡ true → characters [] (encode c ++ s) ≡ characters [] s
  passes h =
      let w = of_scalar c h in
      let most : c ≤ 1114111 = ⊎_elim (λ (v : c < 55296). omega arith) (λ (v : (57344 ≤ c) × (c ≤ 1114111)). v.1) w in
      let apart : (c < 55296) ⊎ (57344 ≤ c) = ⊎_elim (λ (v : c < 55296). inl v) (λ (v : (57344 ≤ c) × (c ≤ 1114111)). inr v.0) w in
      by_test (ltb c 128)
      (λ p. let k = ltb-true c 128 p in rw (one c k, first c s, row_1 c k))
      (λ p. by_test (ltb c 2048)
      (λ q. pass_2 (ltb-false c 128 p) (ltb-true c 2048 q))
      (λ q. by_test (ltb c 65536)
      (λ r. pass_3 (ltb-false c 2048 q) (ltb-true c 65536 r) apart)
      (λ r. pass_4 (ltb-false c 65536 r) most)))

utf8_passes : {s : List ℕ} → Utf8 s → well_formed s ≡ true
unfolding well_formed characters
utf8_passes none = refl
utf8_passes (more {s = s} c h u) = passes c s h ∙ utf8_passes u

-- a byte of a character begun
eat : {X : Type 0} (l h : ℕ) (rs : List Range) (s : List ℕ) → characters (range l h ∷ rs) s ≡ true
    → ((b : ℕ) (t : List ℕ) → s ≡ b ∷ t → l ≤ b → b ≤ h → characters rs t ≡ true → X) → X
unfolding characters
eat l h rs [] e go = let z : ◌≡◌ {A = ℕ} 0 1 = cc in absurd (omega arith)
eat l h rs (b ∷ t) e go =
    let w = both_true (leb l b && leb b h) (characters rs t) e in
    let v = both_true (leb l b) (leb b h) w.0 in
    go b t refl (leb-true l b v.0) (leb-true b h v.1) w.1

-- bytes in their ranges are the encoding of a scalar value
module _ (s : List ℕ) (u : Utf8 s) (b x : ℕ) (x-low : 128 ≤ x) (x-high : x ≤ 191) where
  make_2 : 194 ≤ b → b < 224 → Utf8 (b ∷ x ∷ s)
  make_2 h g =
      let c = (b - 192) * 64 + (x - 128) in
      let p : 192 + c / 64 ≡ b = omega arith in
      let q : 128 + c % 64 ≡ x = omega arith in
      let e : encode c ≡ b ∷ x ∷ [] = rw (two c (omega arith) (omega arith), p, q) in
      rw e at (more c (low_scalar c (omega arith)) u)

  module _ (y : ℕ) (y_low : 128 ≤ y) (y-high : y ≤ 191) where
    make_3 : 224 ≤ b → b < 240 → (b ≡ 224 → 160 ≤ x) → (b ≡ 237 → x ≤ 159) → Utf8 (b ∷ x ∷ y ∷ s)
    make_3 h g few sur =
        let c = (b - 224) * 4096 + (x - 128) * 64 + (y - 128) in
        let k : 2048 ≤ c = by_test (eqb b 224) (λ t. let v = eqb-true b 224 t in let w = few v in omega arith) (λ t. let v = eqb-false b 224 t in omega arith) in
        let p : 224 + c / 4096 ≡ b = omega arith in
        let q : 128 + c / 64 % 64 ≡ x = omega arith in
        let r : 128 + c % 64 ≡ y = omega arith in
        let e : encode c ≡ b ∷ x ∷ y ∷ [] = rw (three c k (omega arith), p, q, r) in
        let d : scalar c ≡ true = by_test (ltb b 237)
        (λ t. let v = ltb-true b 237 t in low_scalar c (omega arith))
        (λ t. let v = ltb-false b 237 t in by_test (eqb b 237)
        (λ t₂. let v₂ = eqb-true b 237 t₂ in let w = sur v₂ in low_scalar c (omega arith))
        (λ t₂. let v₂ = eqb-false b 237 t₂ in high_scalar c (omega arith) (omega arith))) in
        rw e at (more c d u)

    make_4 : (z : ℕ) → 128 ≤ z → z ≤ 191 → 240 ≤ b → b ≤ 244 → (b ≡ 240 → 144 ≤ x) → (b ≡ 244 → x ≤ 143) → Utf8 (b ∷ x ∷ y ∷ z ∷ s)
    make_4 z z-low z-high h g few most =
        let c = (b - 240) * 262144 + (x - 128) * 4096 + (y - 128) * 64 + (z - 128) in
        let k : 65536 ≤ c = by_test (eqb b 240) (λ t. let v = eqb-true b 240 t in let w = few v in omega arith) (λ t. let v = eqb-false b 240 t in omega arith) in
        let k₂ : c ≤ 1114111 = by_test (eqb b 244) (λ t. let v = eqb-true b 244 t in let w = most v in omega arith) (λ t. let v = eqb-false b 244 t in omega arith) in
        let o : 240 + c / 262144 ≡ b = omega arith in
        let p : 128 + c / 4096 % 64 ≡ x = omega arith in
        let q : 128 + c / 64 % 64 ≡ y = omega arith in
        let r : 128 + c % 64 ≡ z = omega arith in
        let e : encode c ≡ b ∷ x ∷ y ∷ z ∷ [] = rw (four c k, o, p, q, r) in
        rw e at (more c (high_scalar c (omega arith) k₂) u)

-- the test holds only of such bytes: by the rows of the table
module _ (k : ℕ) (ih : (s : List ℕ) → length s ≤ k → characters [] s ≡ true → Utf8 s) where
  begun_1 : (b : ℕ) (s : List ℕ) → length s ≤ k → 194 ≤ b → b < 224 → characters (tail ∷ []) s ≡ true → Utf8 (b ∷ s)
  begun_1 b s n h g e = eat 128 191 [] s e λ x t p l m f.
      rw p (make_2 t (ih t (omega (arith, ap length p)) f) b x l m h g)

  begun_2 : (lo hi b : ℕ) (s : List ℕ) → length s ≤ k → 128 ≤ lo → hi ≤ 191 → 224 ≤ b → b < 240 → (b ≡ 224 → 160 ≤ lo) → (b ≡ 237 → hi ≤ 159)
      → characters (range lo hi ∷ tail ∷ []) s ≡ true → Utf8 (b ∷ s)
  begun_2 lo hi b s n a z h g few sur e = eat lo hi (tail ∷ []) s e λ x t p l m f.
      eat 128 191 [] t f λ y t₂ p₂ l₂ m₂ f₂.
      rw (p, p₂) (make_3 t₂ (ih t₂ (omega (arith, ap length p, ap length p₂)) f₂) b x (omega arith) (omega arith) y l₂ m₂ h g (λ v. let w = few v in omega arith) (λ v. let w = sur v in omega arith))

  begun_3 : (lo hi b : ℕ) (s : List ℕ) → length s ≤ k → 128 ≤ lo → hi ≤ 191 → 240 ≤ b → b ≤ 244 → (b ≡ 240 → 144 ≤ lo) → (b ≡ 244 → hi ≤ 143)
      → characters (range lo hi ∷ tail ∷ tail ∷ []) s ≡ true → Utf8 (b ∷ s)
  begun_3 lo hi b s n a z h g few most e = eat lo hi (tail ∷ tail ∷ []) s e λ x t p l m f.
      eat 128 191 (tail ∷ []) t f λ y t₂ p₂ l₂ m₂ f₂.
      eat 128 191 [] t₂ f₂ λ w t₃ p₃ l₃ m₃ f₃.
      rw (p, p₂, p₃) (make_4 t₃ (ih t₃ (omega (arith, ap length p, ap length p₂, ap length p₃)) f₃) b x (omega arith) (omega arith) y l₂ m₂ w l₃ m₃ h g (λ v. let q = few v in omega arith) (λ v. let q = most v in omega arith))

  never : (b : ℕ) (s : List ℕ) → characters (range 1 0 ∷ []) s ≡ true → Utf8 (b ∷ s)
  never b s e = eat 1 0 [] s e λ x t p l m f. absurd (omega arith)

  begun : (b : ℕ) (s : List ℕ) → length s ≤ k → characters (behind b) s ≡ true → Utf8 (b ∷ s)
  unfolding behind
  begun b s n e = by_test (ltb b 128)
      (λ p. let v = ltb-true b 128 p in rw (one b v) at (more b (low_scalar b (omega arith)) (ih s n (rw p at e))))
      (λ p. by_test (ltb b 194)
      (λ q. never b s (rw (p, q) at e))
      (λ q. let l = ltb-false b 194 q in by_test (ltb b 224)
      (λ r. begun_1 b s n l (ltb-true b 224 r) (rw (p, q, r) at e))
      (λ r. let l₂ = ltb-false b 224 r in by_test (eqb b 224)
      (λ t. let v = eqb-true b 224 t in begun_2 160 191 b s n (omega arith) (omega arith) l₂ (omega arith) (λ w. omega arith) (λ w. absurd (omega (arith, v, w))) (rw (p, q, r, t) at e))
      (λ t. let v = eqb-false b 224 t in by_test (eqb b 237)
      (λ t₂. let v₂ = eqb-true b 237 t₂ in begun_2 128 159 b s n (omega arith) (omega arith) l₂ (omega arith) (λ w. absurd (v w)) (λ w. omega arith) (rw (p, q, r, t, t₂) at e))
      (λ t₂. let v₂ = eqb-false b 237 t₂ in by_test (ltb b 240)
      (λ t₃. begun_2 128 191 b s n (omega arith) (omega arith) l₂ (ltb-true b 240 t₃) (λ w. absurd (v w)) (λ w. absurd (v₂ w)) (rw (p, q, r, t, t₂, t₃) at e))
      (λ t₃. let l₃ = ltb-false b 240 t₃ in by_test (eqb b 240)
      (λ t₄. let v₄ = eqb-true b 240 t₄ in begun_3 144 191 b s n (omega arith) (omega arith) l₃ (omega arith) (λ w. omega arith) (λ w. absurd (omega (arith, v₄, w))) (rw (p, q, r, t, t₂, t₃, t₄) at e))
      (λ t₄. let v₄ = eqb-false b 240 t₄ in by_test (ltb b 244)
      (λ t₅. let v₅ = ltb-true b 244 t₅ in begun_3 128 191 b s n (omega arith) (omega arith) l₃ (omega arith) (λ w. absurd (v₄ w)) (λ w. absurd (omega (arith, v₅, w))) (rw (p, q, r, t, t₂, t₃, t₄, t₅) at e))
      (λ t₅. by_test (eqb b 244)
      (λ t₆. let v₆ = eqb-true b 244 t₆ in begun_3 128 143 b s n (omega arith) (omega arith) l₃ (omega arith) (λ w. absurd (v₄ w)) (λ w. omega arith) (rw (p, q, r, t, t₂, t₃, t₄, t₅, t₆) at e))
      (λ t₆. never b s (rw (p, q, r, t, t₂, t₃, t₄, t₅, t₆) at e))))))))))

  turn : (s : List ℕ) → length s ≤ suc k → characters [] s ≡ true → Utf8 s
  unfolding characters
  turn [] n e = none
  turn (b ∷ s) n e = begun b s (omega arith) e

empty : (s : List ℕ) → length s ≤ 0 → Utf8 s
empty [] n = none
empty (b ∷ s) n = absurd (not-suc-le-zero n)

takes : (k : ℕ) (s : List ℕ) → length s ≤ k → characters [] s ≡ true → Utf8 s
takes zero s n e = empty s n
takes (suc k) s n e = turn k (λ s n e. takes k s n e) s n e

passes_utf8 : (s : List ℕ) → well_formed s ≡ true → Utf8 s
unfolding well_formed
passes_utf8 s e = takes (length s) s (omega arith) e

pub table_says_utf8 : TableSaysUtf8
table_says_utf8 s = (λ u. utf8_passes u, λ e. passes_utf8 s e)

-- the scalar value at the front, by the first byte, and what follows it
front : List ℕ → ℕ
front [] = 0
front (b ∷ s) =
    cond (ltb b 128) b
    (cond (ltb b 224) ((b - 192) * 64 + (get_or s 0 0 - 128))
    (cond (ltb b 240) ((b - 224) * 4096 + (get_or s 0 0 - 128) * 64 + (get_or s 1 0 - 128))
    ((b - 240) * 262144 + (get_or s 0 0 - 128) * 4096 + (get_or s 1 0 - 128) * 64 + (get_or s 2 0 - 128))))

rest : List ℕ → List ℕ
rest [] = []
rest (b ∷ s) = cond (ltb b 128) s (cond (ltb b 224) (drop 1 s) (cond (ltb b 240) (drop 2 s) (drop 3 s)))

decoded : (c : ℕ) (s : List ℕ) → scalar c ≡ true → (front (encode c ++ s) ≡ c) × (rest (encode c ++ s) ≡ s)
unfolding front rest
decoded c s h = by_test (ltb c 128)
    (λ p. rw (one c (ltb-true c 128 p), p) (refl, refl))
    (λ p. let k = ltb-false c 128 p in by_test (ltb c 2048)
    (λ q.
    let l = ltb-true c 2048 q in
    rw (two c k l, le-ltb (192 + c / 64) 128 (omega arith), lt-ltb (192 + c / 64) 224 (omega arith)) (omega arith, refl))
    (λ q. let l = ltb-false c 2048 q in by_test (ltb c 65536)
    (λ r.
    let m = ltb-true c 65536 r in
    rw (three c l m, le-ltb (224 + c / 4096) 128 (omega arith), le-ltb (224 + c / 4096) 224 (omega arith), lt-ltb (224 + c / 4096) 240 (omega arith)) (omega arith, refl))
    (λ r.
    let a : c / 4096 ≡ c / 64 / 64 = omega arith in
    let b : c / 262144 ≡ c / 4096 / 64 = omega arith in
    rw (four c (ltb-false c 65536 r), le-ltb (240 + c / 262144) 128 (omega arith), le-ltb (240 + c / 262144) 224 (omega arith), le-ltb (240 + c / 262144) 240 (omega arith)) (omega arith, refl))))

pub one_encoding : OneEncoding
one_encoding c d h g s t e =
    let u = decoded c s h in
    let v = decoded d t g in
    (sym u.0 ∙ ap front e ∙ v.0, sym u.1 ∙ ap rest e ∙ v.1)
