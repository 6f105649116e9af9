-- A book that was read is what is written, and holds what a book can hold.
use mathlib.Core.Path.{◌≡◌, refl, ap, sym, ◌∙◌}
use mathlib.Core.List.{List, [], ◌∷◌, ◌++◌, map}
use mathlib.Core.Bool.{◌&&◌}
use Prim.Native.Nat.{ℕ, zero, suc, ◌+◌, ◌-◌, ◌*◌, ◌≤◌}
use native.Mathlib.Omega.{arith}
use lib.Dec.{eqb, leb}
use lib.ListN.{length, length-map}
use borrow.Author.Tests.{eqb-true, leb-true}
use Rattle.definition.specs.Res.{Res}
use Rattle.definition.specs.Tree.{Entry, Definition}
use Rattle.definition.specs.Read.{kinds}
use Rattle.definition.specs.Contents.{entry, entries, contents, Body, cut, at_end, whole, within, bodies, count, book}
use Rattle.definition.specs.Write.{w_u16, w_all, w_definition, kind_of, kind_byte, size_of, w_entries, w_parts, entry_of, w_book}
use Rattle.definition.specs.Size.{levels_book}
use Rattle.laws.specs.Book.{Bytes, GoodAll}
use Rattle.laws.proofs.Tests.{both_true}
use Rattle.laws.proofs.Steps.{Gives, refusal, value, then, so, ask, inside}
use Rattle.laws.proofs.Levels.{levels_append}
use Rattle.laws.proofs.Splits.{s_definition}
use Rattle.laws.proofs.Inverse.{Reads, i_u16, i_part, i_byte, i_one_of, i_definition}

i_end : {A : Type 0} (P : A → List ℕ → Type 0) (a : A) (s : List ℕ) → P a s → Gives (λ x r. P x []) (at_end a s)
unfolding at_end
i_end P a [] p = value p
i_end P a (b ∷ s) p = refusal

module _ {A : Type 0} {P : A → List ℕ → Type 0} where
  i_whole : {m : Res (List ℕ) A} → Gives P m → Gives (λ x r. P x []) (whole m)
  unfolding whole
  i_whole g = then g _ λ a s p. i_end P a s p

  i_within : (later : List ℕ) {m : Res (List ℕ) A} → Gives P m → Gives P (within later m)
  unfolding within
  i_within later refusal = refusal
  i_within later (value p) = value p

-- what stands behind the six bytes of each entry is as long as the width says
abbrev Wide : ℕ → List Entry → Type 0
Wide width [] = Unit {0}
Wide width (e ∷ es) = (length e.extra ≡ width - 6) × Wide width es

i_entry : (width all at : ℕ) → Reads (entry width all at) (λ x r. w_entries at (x ∷ []) r) (λ x. length x.extra ≡ width - 6)
unfolding entry w_entries kind_byte
i_entry width all at s h = inside s (then (i_one_of kind_byte kinds tt s h) _ λ k v u. then (i_byte v u.small) _ λ z v₂ u₂. then (i_u16 v₂ u₂.small) _ λ o v₃ u₃. then (i_u16 v₃ u₃.small) _ λ n v₄ u₄.
    then (i_part (width - 6) v₄ u₄.small) _ λ x r w. ask (eqb z 0 && eqb o at && leb (at + n) all) _ r _ λ p.
    let q = both_true (eqb z 0) (eqb o at) (both_true (eqb z 0 && eqb o at) (leb (at + n) all) p).0 in
    let z₀ : z ≡ 0 = eqb-true z 0 q.0 in
    let o₀ : o ≡ at = eqb-true o at q.1 in
    value (record { same = rw (u.same, u₂.same, u₃.same, u₄.same, w.same, z₀, o₀); small = w.small; good = w.good.0 }))

i_entries : (width all n at : ℕ) → Reads (entries width all n at) (w_entries at) (λ x. (length x ≡ n) × Wide width x)
unfolding entries w_entries
i_entries width all zero at s h = value (record { same = refl; small = h; good = (refl, tt) })
i_entries width all (suc n) at s h = then (i_entry width all at s h) _ λ x v u. then (i_entries width all n (at + x.size) v u.small) _ λ xs r w.
    value (record { same = u.same ∙ ap (w_entries at (x ∷ [])) w.same; small = w.small; good = (ap suc w.good.0, (u.good, w.good.1)) })

-- the bodies stand in s as the entries say, and r follows
abbrev Cut : List Entry → List Body → List ℕ → List ℕ → Type 0
Cut [] [] s r = s ≡ r
Cut [] (b ∷ bs) s r = ⊥
Cut (e ∷ es) [] s r = ⊥
Cut (e ∷ es) (b ∷ bs) s r = (b.kind ≡ e.kind) × (length b.own ≡ e.size) × Bytes b.own × (s ≡ b.own ++ b.later) × Cut es bs b.later r

i_cut : (es : List Entry) (s : List ℕ) → Bytes s → Gives (λ bs r. Cut es bs s r) (cut es s)
unfolding cut
i_cut [] s h = value refl
i_cut (e ∷ es) s h = then (i_part e.size s h) _ λ x v u. then (i_cut es v u.small) _ λ bs r w. value (refl, u.good.0, u.good.1, u.same, w)

-- entries and definitions that belong together
data Match : List Entry → List Definition → Type 0 where
  done : Match [] []
  more : {e : Entry} {d : Definition} {es : List Entry} {ds : List Definition} → kind_of d ≡ e.kind → size_of d ≡ e.size → Match es ds → Match (e ∷ es) (d ∷ ds)

record Bodies (es : List Entry) (ds : List Definition) (s r : List ℕ) : Type 0 where
  same : s ≡ w_all w_definition ds r
  match : Match es ds
  good : GoodAll ds
  deep : levels_book ds ≤ 64

i_bodies : (es : List Entry) (bs : List Body) (s r : List ℕ) → Cut es bs s r → Gives (λ ds q. Bodies es ds s r) (bodies bs)
unfolding bodies w_all size_of levels_book
i_bodies [] [] s r c = value {a = []} (record { same = c; match = done; good = tt; deep = omega arith })
i_bodies [] (b ∷ bs) s r c = absurd c
i_bodies (e ∷ es) [] s r c = absurd c
i_bodies (e ∷ es) (b ∷ bs) s r c = then (i_within b.later (i_whole (i_definition b.kind b.own c.2))) _ λ d v u. then (i_bodies es bs b.later r c.4) _ λ ds q w.
    value (record {
      same = rw (c.3, u.same, ← (s_definition d [] b.later), w.same);
      match = more (u.good.kind ∙ c.0) (ap length (sym u.same) ∙ c.1) w.match;
      good = (u.good.good, w.good);
      deep = omega (arith, levels_append (d ∷ []) ds, u.good.deep, w.deep);
    })

-- entries with nothing behind their six bytes are those of the definitions
nothing_behind : (x : List ℕ) → length x ≡ 6 - 6 → x ≡ []
nothing_behind [] e = refl
nothing_behind (b ∷ x) e = absurd (omega arith)

match_entries : {es : List Entry} {ds : List Definition} → Match es ds → Wide 6 es → es ≡ map entry_of ds
unfolding entry_of
match_entries done w = refl
match_entries (more {e = e} p q m) w = rw (p, q, ← (match_entries m w.1), ← (nothing_behind e.extra w.0))

pub record Written (s : List ℕ) (ds : List Definition) : Type 0 where
  pub same : s ≡ w_book ds
  pub good : GoodAll ds
  pub deep : levels_book ds ≤ 64
  pub few : length ds ≤ 512

i_count : Reads count w_u16 (λ n. n ≤ 512)
unfolding count
i_count s h = inside s (then (i_u16 s h) _ λ n r u. ask (leb n 512) _ r _ λ p. value (record { same = u.same; small = u.small; good = leb-true n 512 p }))

i_contents : (width : ℕ) → Reads (contents width) (λ es r. w_u16 (length es) (w_entries (2 + width * length es) es r)) (λ es. (length es ≤ 512) × Wide width es)
unfolding contents
i_contents width s h = then (i_count s h) _ λ n v u. so (i_entries width (length s) n (2 + width * n) v u.small) λ es r w.
    record { same = rw (w.good.0, u.same, w.same); small = w.small; good = (omega (arith, w.good.0, u.good), w.good.1) }

pub i_book : (s : List ℕ) → Bytes s → Gives (λ ds r. Written s ds) (book 6 s)
unfolding book w_book w_parts
i_book s h = then (i_contents 6 s h) _ λ es v w. then (i_whole (i_cut es v w.small)) _ λ bs r c. so (i_bodies es bs v [] c) λ ds q b.
    let k : es ≡ map entry_of ds = match_entries b.match w.good.1 in
    record { same = rw (← k, w.same, b.same); good = b.good; deep = b.deep; few = omega (arith, length-map ds entry_of, ap length k, w.good.0) }
