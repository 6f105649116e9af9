-- The lines of definitions, one after the other.
-- Assumes nothing.
use mathlib.Core.Path.{◌≡◌, refl, ◌∙◌}
use mathlib.Core.List.{List, [], ◌∷◌, ◌++◌, append_assoc}
use Prim.Native.Nat.{ℕ, zero, suc, ◌-◌, ◌≤◌, ◌<◌}
use native.Mathlib.Omega.{arith}
use lib.ListN.{length, length-append}
use Rattle.definition.specs.Out.{done}
use Rattle.definition.specs.Tree.{Definition, format, constant, byte_order, macro}
use Rattle.definition.specs.Write.{w_all, w_list, w_param, w_combinator, w_definition, kind_of, kind_byte}
use Rattle.definition.specs.Answer.{Result, all}
use Rattle.definition.specs.Listing.{shown, count, w_format, w_lifted, line, lines, listed}
use Rattle.buffer.specs.writes.Buf.{Wrote}
use Rattle.buffer.proofs.writes.Wrote.{place_within, glue, wrote_none}
use Rattle.layout.specs.lookup.Name.{name_at}
use Rattle.layout.proofs.lookup.Names.{stands}
use Rattle.layout.specs.items.At.{byte_at, number_at, name_past_of}
use Rattle.layout.specs.items.Here.{Here}
use Rattle.layout.proofs.items.Here.{name_here, number_here}
use Rattle.walker.specs.declared.definitions.Definitions.{Definitions}
use Rattle.walker.specs.definitions.Listed.{all_of, next_of, Left}
use Rattle.walker.proofs.definitions.Listed.{listed_kind, listed_body, all_left, next_left, no_more, some_more}
use Rattle.listing_lines.specs.printed.Lines.{word_of, Line, Lines, AllLines, Lists}

pub word_format : (k : ℕ) → (k ≡ 0 → ⊥) → word_of k ≡ w_format
unfolding word_of
word_format zero h = absurd (h refl)
word_format (suc k) h = refl

-- a kind is that of one constructor only
module _ {s : List ℕ} {kind at kept : ℕ} {d d' : List ℕ} {o r : ℕ} where
  pub line_order : kind ≡ 3 → Wrote d o (111 ∷ 114 ∷ 100 ∷ 101 ∷ 114 ∷ 10 ∷ []) d' r → Line s kind at kept d o d' r
  unfolding kind_of kind_byte line
  line_order k w = record { says = λ x z e h. of x e }
    where
      of : (x : Definition) → kind ≡ kind_byte (kind_of x) → Wrote d o (line (word_of kept) x) d' r
      of (format n ps c) e = absurd (omega arith)
      of (constant n x) e = absurd (omega arith)
      of (byte_order x) e = w
      of (macro n ps c) e = absurd (omega arith)

  pub line_const : kind ≡ 2 → Wrote d o ((99 ∷ 111 ∷ 110 ∷ 115 ∷ 116 ∷ 32 ∷ []) ++ (shown (name_at s at) ++ (10 ∷ []))) d' r → Line s kind at kept d o d' r
  unfolding kind_of kind_byte line w_definition
  line_const k w = record { says = λ x z e h. of x z e h }
    where
      of : (x : Definition) (z : List ℕ) → kind ≡ kind_byte (kind_of x) → Here s at (w_definition x z) → Wrote d o (line (word_of kept) x) d' r
      of (format n ps c) z e h = absurd (omega arith)
      of (constant n x) z e h = rw (stands s at n _ h.is) at w
      of (byte_order x) z e h = absurd (omega arith)
      of (macro n ps c) z e h = absurd (omega arith)

  pub line_none : (kind ≡ 1 → ⊥) → (kind ≡ 2 → ⊥) → (kind ≡ 3 → ⊥) → Wrote d o [] d' r → Line s kind at kept d o d' r
  unfolding kind_of kind_byte line
  line_none a b c w = record { says = λ x z e h. of x e }
    where
      of : (x : Definition) → kind ≡ kind_byte (kind_of x) → Wrote d o (line (word_of kept) x) d' r
      of (format n ps c) e = absurd (a e)
      of (constant n x) e = absurd (b e)
      of (byte_order x) e = absurd (c e)
      of (macro n ps c) e = w

  pub line_format : kind ≡ 1 → Wrote d o (word_of kept ++ (32 ∷ []) ++ shown (name_at s at) ++ count (number_at s (name_past_of s at)) ++ (10 ∷ [])) d' r → Line s kind at kept d o d' r
  unfolding kind_of kind_byte line w_definition w_list
  line_format k w = record { says = λ x z e h. of x z e h }
    where
      of : (x : Definition) (z : List ℕ) → kind ≡ kind_byte (kind_of x) → Here s at (w_definition x z) → Wrote d o (line (word_of kept) x) d' r
      of (format n ps c) z e h = rw (stands s at n _ h.is, number_here (length ps) (w_all w_param ps (w_combinator c z)) (name_here n h)) at w
      of (constant n x) z e h = absurd (omega arith)
      of (byte_order x) z e h = absurd (omega arith)
      of (macro n ps c) z e h = absurd (omega arith)

pub lines_none : {s d : List ℕ} {e : Definitions} {kept o : ℕ} → e.left ≤ 0 → Lines s e kept d o d o
unfolding lines
lines_none {s} {d} {e} {kept} {o} h = record { says = λ ks ls l k b. of ks ls l b }
  where
    of : (ks ls : List Definition) → Left s e (ks ++ ls) → o ≤ suc (length d) → Wrote d o (lines w_format ks ++ lines w_lifted ls) d o
    of [] [] l b = wrote_none d o b
    of [] (x ∷ ls) l b = absurd (no_more h l)
    of (x ∷ ks) ls l b = absurd (no_more h l)

pub lines_step : {s d d₁ d' : List ℕ} {e e₁ : Definitions} {kind kept kept₁ o o₁ r : ℕ} → 0 < e.left → kind ≡ byte_at s e.entry → Line s kind e.at kept d o d₁ o₁ → e₁ ≡ next_of s e → kept₁ ≡ kept - 1
    → Lines s e₁ kept₁ d₁ o₁ d' r → Lines s e kept d o d' r
unfolding lines word_of
lines_step {s} {d} {d₁} {d'} {e} {kept = kept} {o = o} {o₁} {r} h hk w he hm m = record { says = of }
  where
    of : (ks ls : List Definition) → Left s e (ks ++ ls) → kept ≡ length ks → o ≤ suc (length d) → Wrote d o (lines w_format ks ++ lines w_lifted ls) d' r
    of [] [] l k b = absurd (some_more h l)
    of [] (x ∷ ls) l k b =
        let v : Wrote d o (line w_lifted x) d₁ o₁ = rw k at (w.says x _ (hk ∙ listed_kind l.listed) (listed_body l.listed)) in
        glue v (m.says [] ls (next_left he l) (omega arith) (place_within v))
    of (x ∷ ks) ls l k b =
        let v : Wrote d o (line w_format x) d₁ o₁ = rw k at (w.says x _ (hk ∙ listed_kind l.listed) (listed_body l.listed)) in
        rw (append_assoc (line w_format x) (lines w_format ks) (lines w_lifted ls)) (glue v (m.says ks ls (next_left he l) (omega arith) (place_within v)))

pub all_lines : {s d d₁ d' : List ℕ} {e : Definitions} {kept o o₁ r : ℕ} → e ≡ all_of s → Wrote d o (10 ∷ []) d₁ o₁ → Lines s e kept d₁ o₁ d' r → AllLines s kept d o d' r
all_lines h w m = record { says = λ ks ls e i k. glue w (m.says ks ls (all_left h (ks ++ ls) e i) k (place_within w)) }

-- `ok D L`, and the lines
pub lists : {s d d₁ d₂ d₃ d' : List ℕ} {definitions lifted kept o₁ o₂ o₃ r : ℕ} → Wrote d 0 (111 ∷ 107 ∷ []) d₁ o₁ → Wrote d₁ o₁ (count definitions) d₂ o₂ → Wrote d₂ o₂ (count lifted) d₃ o₃
    → kept ≡ definitions - lifted → AllLines s kept d₃ o₃ d' r → Lists s definitions lifted d d' r
unfolding listed
lists {d = d} {d' = d'} {definitions = definitions} {lifted = lifted} {kept = kept} {r = r} a b c k m = record {
  says = λ p q e i x y.
      let n : kept ≡ length q.kept = omega (arith, length-append q.kept q.lifted) in
      of p q x y (glue (glue (glue a b) c) (m.says q.kept q.lifted e i n));
}
  where
    head : List ℕ
    head = (111 ∷ 107 ∷ []) ++ count definitions ++ count lifted

    of : (p : ℕ) (q : Result) → definitions ≡ length (all q) → lifted ≡ length q.lifted
        → Wrote d 0 (head ++ ((10 ∷ []) ++ (lines w_format q.kept ++ lines w_lifted q.lifted))) d' r → Wrote d 0 (listed p (done q)) d' r
    of p q x y w = rw (← x, ← y, append_assoc (head ++ (10 ∷ [])) (lines w_format q.kept) (lines w_lifted q.lifted), append_assoc head (10 ∷ []) (lines w_format q.kept ++ lines w_lifted q.lifted)) w
