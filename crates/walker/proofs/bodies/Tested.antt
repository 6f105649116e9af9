-- The bodies of formats, one after the other.
-- Assumes nothing.
use mathlib.Core.Path.{◌≡◌, refl, sym, ap, ◌∙◌}
use mathlib.Core.List.{List, [], ◌∷◌}
use mathlib.Core.Bool.{Bool, true, false, ◌&&◌, and-true}
use Prim.Native.Nat.{ℕ, ◌+◌, ◌≤◌, ◌<◌}
use native.Mathlib.Omega.{arith}
use lib.ListN.{length, take}
use Rattle.definition.specs.Tree.{Name, Combinator, Param, Definition, format, constant, byte_order, macro}
use Rattle.definition.specs.Write.{w_combinator, w_definition, kind_of, kind_byte}
use Rattle.definition.specs.Size.{size_book, levels, levels_p, levels_book}
use Rattle.definition.specs.Bodies.{chains_ok, every_body}
use Rattle.layout.specs.items.At.{byte_at, name_past_of}
use Rattle.layout.specs.items.Here.{Here}
use Rattle.layout.proofs.items.Here.{name_here}
use Rattle.buffer.proofs.writes.Put.{take_written}
use Rattle.walker.specs.declared.walk.Walk.{Walk}
use Rattle.walker.specs.walk.Steps.{walk}
use Rattle.walker.specs.calls.Walk.{combinator_at}
use Rattle.walker.specs.calls.Walked.{Walked}
use Rattle.walker.specs.pieces.Pieces.{pieces, places}
use Rattle.walker.proofs.calls.Link.{walked}
use Rattle.walker.proofs.pieces.Room.{size_here, room_enough}
use Rattle.walker.specs.declared.definitions.Definitions.{Definitions}
use Rattle.walker.specs.declared.definitions.Entry.{Entry}
use Rattle.walker.specs.definitions.Listed.{all_of, next_of, Left, First}
use Rattle.walker.specs.definitions.Params.{ParamsPast}
use Rattle.walker.proofs.definitions.Listed.{listed_kind, listed_body, listed_deep, all_left, next_left, no_more, some_more}
use Rattle.walker.specs.bodies.Tested.{FormatTested, DefinitionTested, BodiesLeft, BodiesTested}

-- a format: the walk over its body leaves the marks of its calls
module _ {s : List ℕ} (at : ℕ) {params body : ℕ} (e : params ≡ name_past_of s at) (p : ParamsPast s params body) (m₁ m₂ : List ℕ) (w : Walk)
    (hw : w ≡ (combinator_at 64 s (walk body 0 64 true) m₁).0) (hm : m₂ ≡ (combinator_at 64 s (walk body 0 64 true) m₁).1) where
  body_here : length s ≤ 16384 → (m : Name) (ps : List Param) (c : Combinator) (z : List ℕ) → Here s at (w_definition (format m ps c) z) → levels_p ps ≤ 64 → Here s body (w_combinator c z)
  unfolding w_definition
  body_here l m ps c z h d = p.says l ps (w_combinator c z) (rw e (name_here m h)) d

  over : length s ≤ 16384 → length m₁ ≡ 8192 → (c : Combinator) (z : List ℕ) → Here s body (w_combinator c z) → levels c ≤ 64 → Walked s c 64 z (walk body 0 64 true) m₁ w m₂
  over l k c z h d = rw (hw, hm) (walked s (omega arith) c 64 d (walk body 0 64 true) m₁ z h (omega (arith, room_enough c body, size_here c z h)))

  pub format_tested : {test : Combinator → Bool} {row : ℕ} → length m₁ ≡ row → {marks : List ℕ} → marks ≡ take w.n m₂ → {r : Bool}
      → ((c : Combinator) (z : List ℕ) → Here s body (w_combinator c z) → w.plain ≡ chains_ok c → marks ≡ places body (pieces c []) → r ≡ test c) → FormatTested s at test row r
  format_tested long {marks} em f = record {
    says = λ l k m ps c z h dp dc.
        let b = body_here l m ps c z h dp in
        let o = over l (long ∙ k) c z b dc in
        let q : 0 + length (places body (pieces c [])) ≤ length m₁ = omega (arith, room_enough c body, size_here c z b) in
        let g : marks ≡ places body (pieces c []) = em ∙ rw (o.count, o.marks) (take_written m₁ 0 (places body (pieces c [])) q) in
        f c z b o.chains g;
  }

-- a definition
module _ {s : List ℕ} {kind at : ℕ} {test : Combinator → Bool} {row : ℕ} where
  pub definition_format : kind ≡ 1 → {r : Bool} → FormatTested s at test row r → DefinitionTested s kind at test row r
  unfolding every_body kind_byte kind_of levels_book
  definition_format q {r} v = record { says = λ l k d z h e dd. one l k d z h e dd }
    where
      one : length s ≤ 16384 → row ≡ 8192 → (d : Definition) (z : List ℕ) → Here s at (w_definition d z) → kind ≡ kind_byte (kind_of d) → levels_book (d ∷ []) ≤ 64 → r ≡ every_body test (d ∷ [])
      one l k (format m ps c) z h e dd = v.says l k m ps c z h (omega arith) (omega arith) ∙ sym (and-true (test c))
      one l k (constant m x) z h e dd = absurd (omega arith)
      one l k (byte_order x) z h e dd = absurd (omega arith)
      one l k (macro m ps c) z h e dd = absurd (omega arith)

  pub definition_other : (kind ≡ 1 → ⊥) → DefinitionTested s kind at test row true
  unfolding every_body kind_byte kind_of
  definition_other q = record { says = λ l k d z h e dd. one d e }
    where
      one : (d : Definition) → kind ≡ kind_byte (kind_of d) → true ≡ every_body test (d ∷ [])
      one (format m ps c) e = absurd (q e)
      one (constant m x) e = refl
      one (byte_order x) e = refl
      one (macro m ps c) e = refl

-- the definitions that are left
every_step : (f : Combinator → Bool) (d : Definition) (ds : List Definition) → every_body f (d ∷ ds) ≡ every_body f (d ∷ []) && every_body f ds
unfolding every_body
every_step f (format n ps c) ds = rw (and-true (f c))
every_step f (constant n x) ds = refl
every_step f (byte_order x) ds = refl
every_step f (macro n ps c) ds = refl

module _ {s : List ℕ} {test : Combinator → Bool} {row : ℕ} {d : Definitions} where
  pub left_none : d.left ≤ 0 → BodiesLeft s test row d true
  unfolding every_body
  left_none h = record { says = λ l k ds w. none ds w }
    where
      none : (ds : List Definition) → Left s d ds → true ≡ every_body test ds
      none [] w = refl
      none (x ∷ ds) w = absurd (no_more h w)

  module _ (k : 0 < d.left) {kind : ℕ} (hk : kind ≡ byte_at s d.entry) {long : ℕ} (hl : long ≡ row) {b : Bool} (v : DefinitionTested s kind d.at test long b) where
    first : length s ≤ 16384 → row ≡ 8192 → (x : Definition) (ds : List Definition) → Left s d (x ∷ ds) → b ≡ every_body test (x ∷ [])
    first l q x ds w = let y = w.listed in v.says l (hl ∙ q) x _ (listed_body y) (hk ∙ listed_kind y) (listed_deep y)

    pub left_out : b ≡ false → BodiesLeft s test row d false
    left_out t = record { says = λ l q ds w. out l q ds w }
      where
        out : length s ≤ 16384 → row ≡ 8192 → (ds : List Definition) → Left s d ds → false ≡ every_body test ds
        out l q [] w = absurd (some_more k w)
        out l q (x ∷ ds) w = rw (every_step test x ds, sym (first l q x ds w), t)

    pub left_step : b ≡ true → {e : Definitions} → e ≡ next_of s d → {r : Bool} → BodiesLeft s test row e r → BodiesLeft s test row d r
    left_step t he {r} next = record { says = λ l q ds w. step l q ds w }
      where
        step : length s ≤ 16384 → row ≡ 8192 → (ds : List Definition) → Left s d ds → r ≡ every_body test ds
        step l q [] w = absurd (some_more k w)
        step l q (x ∷ ds) w = next.says l q ds (next_left he w) ∙ rw (every_step test x ds, sym (first l q x ds w), t)

-- the same, by what a step over the definitions tells of the first
module _ {s : List ℕ} {test : Combinator → Bool} {row : ℕ} {d e : Definitions} {x : Entry} (f : First s d x e) {long : ℕ} (hl : long ≡ row) {b : Bool} (v : DefinitionTested s x.kind x.at test long b) where
  pub entry_out : b ≡ false → BodiesLeft s test row d false
  entry_out t = left_out f.some f.kind hl (rw f.at at v) t

  pub entry_step : b ≡ true → {r : Bool} → BodiesLeft s test row e r → BodiesLeft s test row d r
  entry_step t n = left_step f.some f.kind hl (rw f.at at v) t f.others n

pub bodies_tested : {s : List ℕ} {test : Combinator → Bool} {row : ℕ} {d : Definitions} {r : Bool} → d ≡ all_of s → BodiesLeft s test row d r → BodiesTested s test row r
unfolding size_book
bodies_tested h v = record { says = λ ds e b k. v.says (omega (arith, ap length e, b.short)) k ds (all_left h ds e b) }
