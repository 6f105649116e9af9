-- The hash of a name, four bytes at a time; its bits.
-- Assumes nothing.
use mathlib.Core.Path.{◌≡◌, refl, sym, ap, ◌∙◌}
use mathlib.Core.Logic.{⊎_elim}
use mathlib.Core.Bool.{true, false}
use mathlib.Core.List.{List, [], ◌∷◌}
use Prim.Native.Nat.{ℕ, zero, suc, ◌+◌, ◌*◌, ◌-◌, ◌/◌, ◌%◌, ◌^◌, ◌≤◌, ◌<◌}
use native.Mathlib.Omega.{arith}
use native.Mathlib.Numerals.{add-one}
use lib.Dec.{ltb}
use Rattle.std.specs.Simd.{first_chunks}
use lib.ListN.{length, get_or, take, drop, length-drop, drop_of_length-le}
use lib.Seq.{drop-cons, drop-drop, get_or-drop, get_or-take}
use borrow.Author.Tests.{lt-ltb, le-ltb}
use Rattle.definition.specs.Tree.{Name}
use Rattle.layout.specs.items.At.{byte_at}
use Rattle.layout.proofs.lookup.Names.{yes_no}
use Rattle.layout.specs.hash.Hash.{folded, mixed, spread, bytes_from, hash_from, hash_of, fours, bit_at}

pub mixed_small : (h w : ℕ) → mixed h w < 4294967296
unfolding mixed folded
mixed_small h w = omega arith

-- four bytes at a time
word_more : (g h a b c d : ℕ) (s : Name)
    → hash_from g h (a ∷ b ∷ c ∷ d ∷ s) ≡ hash_from (mixed g (a + 256 * b + 65536 * (c + 256 * d))) (spread h (a + 256 * b + 65536 * (c + 256 * d))) s
unfolding hash_from
word_more g h a b c d s = refl

next_byte : (n : Name) (i j : ℕ) → j ≡ i + 1 → i < length n → drop i n ≡ get_or n i 0 ∷ drop j n
next_byte n i j e k = drop-cons n i 0 k ∙ rw (e, add-one i)

next_word : (n : Name) (i : ℕ) → i + 4 ≤ length n → drop i n ≡ get_or n i 0 ∷ get_or n (i + 1) 0 ∷ get_or n (i + 2) 0 ∷ get_or n (i + 3) 0 ∷ drop (i + 4) n
next_word n i k = rw (next_byte n i (i + 1) refl (omega arith), next_byte n (i + 1) (i + 2) (omega arith) (omega arith), next_byte n (i + 2) (i + 3) (omega arith) (omega arith), next_byte n (i + 3) (i + 4) (omega arith) (omega arith))

-- the i-th part of four bytes
chunk : (k i : ℕ) (n : Name) → i < k → get_or (first_chunks 4 k n) i [] ≡ take 4 (drop (4 * i) n)
chunk zero i n h = absurd (omega arith)
chunk (suc k) zero n h = refl
chunk (suc k) (suc i) n h = let e : 4 * suc i ≡ 4 + 4 * i = omega arith in rw (chunk k i (drop 4 n) (omega arith), drop-drop (4 * i) 4 n, e)

in_chunk : (n : Name) (p j : ℕ) → j < 4 → get_or (take 4 (drop p n)) j 0 ≡ get_or n (p + j) 0
in_chunk n p j h = get_or-take 4 (drop p n) j 0 h ∙ get_or-drop p n j 0

pub words_on : (n : Name) (parts : List (List ℕ)) (i g h w : ℕ) → parts ≡ first_chunks 4 (length n / 4) n → length parts ≡ length n / 4 → i < length parts
    → w ≡ get_or (get_or parts i []) 0 0 + get_or (get_or parts i []) 1 0 * 256 + get_or (get_or parts i []) 2 0 * 65536 + get_or (get_or parts i []) 3 0 * 16777216
    → hash_of n ≡ hash_from g h (drop (4 * i) n) → hash_of n ≡ hash_from (mixed g w) (spread h w) (drop (4 * (i + 1)) n)
words_on n parts i g h w e l k b q =
    let p : ℕ = 4 * i in
    let c : get_or parts i [] ≡ take 4 (drop p n) = rw e (chunk (length n / 4) i n (omega arith)) in
    let z : p + 0 ≡ p = omega arith in
    let first : get_or (take 4 (drop p n)) 0 0 ≡ get_or n p 0 = in_chunk n p 0 (omega arith) ∙ rw z in
    let v : w ≡ get_or n p 0 + 256 * get_or n (p + 1) 0 + 65536 * (get_or n (p + 2) 0 + 256 * get_or n (p + 3) 0) =
    omega (arith, rw c at b, first, in_chunk n p 1 (omega arith), in_chunk n p 2 (omega arith), in_chunk n p 3 (omega arith)) in
    let f : 4 * (i + 1) ≡ p + 4 = omega arith in
    rw (v, f) (q ∙ ap (hash_from g h) (next_word n p (omega arith)) ∙ word_more g h (get_or n p 0) (get_or n (p + 1) 0) (get_or n (p + 2) 0) (get_or n (p + 3) 0) (drop (p + 4) n))

few : (g h : ℕ) (s : Name) → length s < 4 → hash_from g h s ≡ bytes_from (mixed g h) s
unfolding hash_from bytes_from
few g h [] k = refl
few g h (a ∷ []) k = refl
few g h (a ∷ b ∷ []) k = refl
few g h (a ∷ b ∷ c ∷ []) k = refl
few g h (a ∷ b ∷ c ∷ d ∷ s) k = absurd (omega arith)

pub words_end : (n : Name) (i g h : ℕ) → i ≡ length n / 4 → hash_of n ≡ hash_from g h (drop (4 * i) n) → hash_of n ≡ bytes_from (mixed g h) (drop (fours n) n)
unfolding fours
words_end n i g h k e =
    let f : 4 * i ≡ length n / 4 * 4 = omega arith in
    e ∙ few g h (drop (4 * i) n) (rw length-drop (omega arith)) ∙ rw f

-- the last bytes, one by one
pub bytes_on : (rest : Name) (i h : ℕ) → i < length rest → bytes_from h (drop i rest) ≡ bytes_from (mixed h (get_or rest i 0)) (drop (i + 1) rest)
unfolding bytes_from
bytes_on rest i h k = rw (next_byte rest i (i + 1) refl k)

pub bytes_end : (rest : Name) (i h : ℕ) → length rest ≤ i → bytes_from h (drop i rest) ≡ h
unfolding bytes_from
bytes_end rest i h k = rw (drop_of_length-le rest {i = i} k)

small_bytes : (n : Name) (h : ℕ) → h < 4294967296 → bytes_from h n < 4294967296
unfolding bytes_from
small_bytes [] h k = k
small_bytes (b ∷ n) h k = small_bytes n (mixed h b) (mixed_small h b)

small_from : (n : Name) (g h : ℕ) → hash_from g h n < 4294967296
unfolding hash_from
small_from [] g h = mixed_small g h
small_from (a ∷ []) g h = small_bytes (a ∷ []) (mixed g h) (mixed_small g h)
small_from (a ∷ b ∷ []) g h = small_bytes (a ∷ b ∷ []) (mixed g h) (mixed_small g h)
small_from (a ∷ b ∷ c ∷ []) g h = small_bytes (a ∷ b ∷ c ∷ []) (mixed g h) (mixed_small g h)
small_from (a ∷ b ∷ c ∷ d ∷ s) g h = small_from s (mixed g (a + 256 * b + 65536 * (c + 256 * d))) (spread h (a + 256 * b + 65536 * (c + 256 * d)))

pub hash_small : (n : Name) → hash_of n < 4294967296
hash_small n = small_from n 0 0

-- a bit of the hash, and one of the name's own
pub bit_mixed : (n : Name) (d : ℕ) → d < 32 → bit_at n d ≡ hash_of n / 2 ^ (31 - d) % 2
unfolding bit_at
bit_mixed n d h = rw (lt-ltb d 32 h)

pub bit_own : (n : Name) (d : ℕ) → 32 ≤ d → bit_at n d ≡ get_or n ((d - 32) / 8) 0 / 2 ^ ((d - 32) % 8) % 2
unfolding bit_at
bit_own n d h = rw (le-ltb d 32 h)

-- the same, of a byte that was read
pub own_bit : (n : Name) (d : ℕ) → 32 ≤ d → {x : ℕ} → x ≡ byte_at n ((d - 32) / 8) → x / 2 ^ ((d - 32) % 8) % 2 ≡ bit_at n d
unfolding byte_at
own_bit n d h e = sym (bit_own n d h ∙ rw (← e))

pub bit_small : (n : Name) (d : ℕ) → bit_at n d ≤ 1
unfolding bit_at
bit_small n d = ⊎_elim (λ (q : ltb d 32 ≡ true). rw q (omega arith)) (λ (q : ltb d 32 ≡ false). rw q (omega arith)) (yes_no (ltb d 32))
