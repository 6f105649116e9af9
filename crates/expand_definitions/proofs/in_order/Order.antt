-- Definitions in order.
-- Assumes nothing.
use mathlib.Core.Path.{◌≡◌, refl, sym, ap, ◌∙◌}
use mathlib.Core.List.{List, [], ◌∷◌}
use Prim.Native.Nat.{ℕ, ◌+◌, ◌≤◌, ◌<◌}
use native.Mathlib.Omega.{arith}
use lib.ListN.{length, take}
use Rattle.definition.specs.Res.{Res, bad, ok, ◌>>=◌}
use Rattle.definition.specs.Tree.{Definition, format, constant, byte_order, macro}
use Rattle.definition.specs.Write.{w_all, w_definition, kind_of, kind_byte, size_of, w_book}
use Rattle.definition.specs.Size.{size_book, levels_book}
use Rattle.laws.specs.Book.{IsBook}
use Rattle.laws.proofs.Sizes.{head, size_book_lem, room_least}
use Rattle.laws.proofs.Steps.{grouped}
use Rattle.layout.specs.items.At.{byte_at, past_at}
use Rattle.layout.specs.items.Here.{Here}
use Rattle.walker.specs.declared.definitions.Definitions.{Definitions}
use Rattle.walker.specs.definitions.Listed.{all_of, next_of, Left}
use Rattle.walker.proofs.definitions.Listed.{listed_kind, listed_size, listed_body, listed_deep, listed_past, all_left, next_left, no_more, some_more}
use Rattle.lifting.specs.After.{first_at}
use Rattle.lifting.specs.Trace.{params_at}
use Rattle.lift_tables.specs.declared.enter_lift.Counts.{Counts}
use Rattle.lift_tables.specs.enter_lift.Sheet.{Sheet, sheet_of}
use Rattle.lift_combinator.specs.naming.Walk.{walk}
use Rattle.expand_definitions.specs.walked.Book.{own_bound, walk_all}
use Rattle.std.specs.Prelude.{Ok, Err}
use Rattle.what_comes_back.specs.declared.Code.{Code}
use Rattle.expand_combinator.specs.open_child.Good.{Good}
use Rattle.expand_combinator.specs.body.Walks.{Ends}
use Rattle.what_comes_back.specs.Elaborates.{Expanded}
use Rattle.expand_definitions.specs.format.Formats.{Space, Format, EndsIn, Defined}
use Rattle.expand_definitions.specs.in_order.InOrder.{InOrder}

-- ---- one definition, and then the others
walk_first : (d : Definition) (ds : List Definition) (p : ℕ) (t : Sheet) → walk_all (d ∷ ds) p t ≡ walk_all (d ∷ []) p t >>= (λ x. walk_all ds (p + size_of d) x.1)
unfolding walk_all
walk_first (format n ps c) ds p t = sym (grouped (walk c (p + head n ps) n (own_bound ps (params_at p n)) t) _ _)
walk_first (constant n x) ds p t = refl
walk_first (byte_order x) ds p t = refl
walk_first (macro n ps c) ds p t = refl

module _ (sheet : Counts → ℕ → Sheet) (good : Counts → ℕ → Type 0) where
  ends_named : (m : Res Sheet Unit) (v : Counts) (k : ℕ) → Ends m (Ok (record { counts = v; finished = k })) sheet good → (m ≡ ok tt (sheet v k)) × good v k
  unfolding Ends
  ends_named (bad c t) v k h = absurd h
  ends_named (ok z t) v k h = (ap (ok tt) h.0, h.1)

  ends_refused : (m : Res Sheet Unit) (c : Code) (f : Sheet → Res Sheet Unit) → Ends m (Err c) sheet good → Ends (m >>= (λ x. f x.1)) (Err c) sheet good
  unfolding Ends
  ends_refused (bad k t) c f h = h
  ends_refused (ok z t) c f h = absurd h

-- ---- what is left
pub record Rest (s : List ℕ) (d : Definitions) (m : Res Sheet Unit) (t : Sheet) : Type 0 where
  pub rest : List Definition
  pub are : Left s d rest
  pub same : m ≡ walk_all rest d.at t

-- the loop: whoever goes on from here has gone from the start
pub record Going (s made₀ places₀ rows₀ params₀ order₀ : List ℕ) (w₀ : Counts) (made places ways hints rows params number order : List ℕ) (w : Counts) (n : ℕ) (d : Definitions) : Type 0 where
  pub good : Good s made places ways hints rows params number order w n
  pub goes : (ds : List Definition) → s ≡ w_book ds → IsBook ds
      → Rest s d (walk_all ds (first_at ds) (sheet_of s made₀ places₀ rows₀ params₀ (take 0 order₀) w₀)) (sheet_of s made places rows params (take n order) w)

-- the first body, and the next
at_first : {s : List ℕ} {d : Definitions} → d ≡ all_of s → (ds : List Definition) → s ≡ w_book ds → Left s d ds → d.at ≡ first_at ds
unfolding all_of past_at size_book
at_first h ds e l = omega (arith, ap (λ (x : Definitions). x.left) h, ap (λ (x : Definitions). x.at) h, l.count, ap length e, size_book_lem ds, room_least ds)

at_next : {s : List ℕ} {d d₁ : Definitions} → d₁ ≡ next_of s d → {x : Definition} {ds : List Definition} → Left s d (x ∷ ds) → d₁.at ≡ d.at + size_of x
unfolding next_of
at_next h l = ap (λ (x : Definitions). x.at) h ∙ rw (listed_size l.listed) (listed_past l.listed)

pub going : {s made places ways hints rows params number order : List ℕ} {w : Counts} → Good s made places ways hints rows params number order w 0 → {d : Definitions} → d ≡ all_of s
    → Going s made places rows params order w made places ways hints rows params number order w 0 d
going g h = record {
  good = g;
  goes = λ ds e b.
      let l = all_left h ds e b in
      record { rest = ds; are = l; same = rw (at_first h ds e l) };
}

is_format : {s : List ℕ} {at : ℕ} (d : Definition) (z : List ℕ) → Here s at (w_definition d z) → levels_book (d ∷ []) ≤ 64 → kind_byte (kind_of d) ≡ 1 → Format s at
unfolding kind_byte kind_of levels_book
is_format (format m ps c) z h l k = record { name = m; params = ps; body = c; after = z; is = h; deep_params = omega arith; deep = omega arith }
is_format (constant m x) z h l k = absurd (omega arith)
is_format (byte_order x) z h l k = absurd (omega arith)
is_format (macro m ps c) z h l k = absurd (omega arith)

module _ {s made₀ places₀ rows₀ params₀ order₀ : List ℕ} {w₀ : Counts} {made places ways hints rows params number order : List ℕ} {w : Counts} {n : ℕ} {d : Definitions}
    (g : Going s made₀ places₀ rows₀ params₀ order₀ w₀ made places ways hints rows params number order w n d) where
  pub going_all : d.left ≤ 0 → InOrder s made₀ places₀ rows₀ params₀ order₀ w₀ made places ways hints rows params number order (Ok (record { counts = w; finished = n }))
  unfolding walk_all Ends
  going_all h = record { says = λ ds e b. let r = g.goes ds e b in rw r.same (of r.rest r.are) }
    where
      of : (rest : List Definition) → Left s d rest → EndsIn (walk_all rest d.at (sheet_of s made places rows params (take n order) w)) s made places ways hints rows params number order (Ok (record { counts = w; finished = n }))
      of [] l = (refl, g.good)
      of (x ∷ ds) l = absurd (no_more h l)

  module _ (more : 0 < d.left) {kind : ℕ} (ek : kind ≡ byte_at s d.entry) where
    pub going_format : Expanded s → kind ≡ 1 → Format s d.at
    going_format b k = let r = g.goes b.of b.book b.is_book in of r.rest r.are
      where
        of : (rest : List Definition) → Left s d rest → Format s d.at
        of [] l = absurd (some_more more l)
        of (x ∷ ds) l = let i = l.listed in is_format x (w_all w_definition ds []) (listed_body i) (listed_deep i) (sym (ek ∙ listed_kind i) ∙ k)

    module _ {made' places' ways' hints' rows' params' number' order' : List ℕ} where
      pub going_refused : {c : Code} → Defined s kind d.at made places rows params order w n made' places' ways' hints' rows' params' number' order' (Err c)
          → InOrder s made₀ places₀ rows₀ params₀ order₀ w₀ made' places' ways' hints' rows' params' number' order' (Err c)
      going_refused {c} y = record { says = λ ds e b. let r = g.goes ds e b in rw r.same (of r.rest r.are) }
        where
          of : (rest : List Definition) → Left s d rest
              → EndsIn (walk_all rest d.at (sheet_of s made places rows params (take n order) w)) s made' places' ways' hints' rows' params' number' order' (Err c)
          of [] l = absurd (some_more more l)
          of (x ∷ ds) l =
              let i = l.listed in
              rw (walk_first x ds d.at (sheet_of s made places rows params (take n order) w))
              (ends_refused _ _ _ c (λ t. walk_all ds (d.at + size_of x) t) (y.says x (w_all w_definition ds []) (listed_body i) (ek ∙ listed_kind i) (listed_deep i)))

      module _ {v : Counts} {k : ℕ} (y : Defined s kind d.at made places rows params order w n made' places' ways' hints' rows' params' number' order' (Ok (record { counts = v; finished = k }))) where
        first : {x : Definition} {ds : List Definition} → Left s d (x ∷ ds)
            → (walk_all (x ∷ []) d.at (sheet_of s made places rows params (take n order) w) ≡ ok tt (sheet_of s made' places' rows' params' (take k order') v)) × Good s made' places' ways' hints' rows' params' number' order' v k
        first {x} {ds} l = let i = l.listed in ends_named _ _ _ v k (y.says x (w_all w_definition ds []) (listed_body i) (ek ∙ listed_kind i) (listed_deep i))

        pub going_step : Expanded s → {d₁ : Definitions} → d₁ ≡ next_of s d → Going s made₀ places₀ rows₀ params₀ order₀ w₀ made' places' ways' hints' rows' params' number' order' v k d₁
        going_step b {d₁} h = record {
          good = let r = g.goes b.of b.book b.is_book in well r.rest r.are;
          goes = λ ds e i. let r = g.goes ds e i in of _ r.rest r.are r.same;
        }
          where
            well : (rest : List Definition) → Left s d rest → Good s made' places' ways' hints' rows' params' number' order' v k
            well [] l = absurd (some_more more l)
            well (x ∷ ds) l = (first l).1

            of : (m : Res Sheet Unit) (rest : List Definition) → Left s d rest → m ≡ walk_all rest d.at (sheet_of s made places rows params (take n order) w)
                → Rest s d₁ m (sheet_of s made' places' rows' params' (take k order') v)
            of m [] l q = absurd (some_more more l)
            of m (x ∷ ds) l q = record { rest = ds; are = next_left h l; same = q ∙ walk_first x ds d.at (sheet_of s made places rows params (take n order) w) ∙ rw ((first l).0, at_next h l) }

-- ---- the rows keep their lengths
pub kept : {s path₀ binders₀ bound₀ uses₀ spare₀ path binders bound uses spare : List ℕ} → Space s path₀ binders₀ bound₀ uses₀ spare₀
    → length path ≡ length path₀ → length binders ≡ length binders₀ → length bound ≡ length bound₀ → length uses ≡ length uses₀ → length spare ≡ length spare₀ → Space s path binders bound uses spare
kept x lp lb lh lu ls = record {
  scratch = record {
    small = x.scratch.small;
    labels = omega (arith, x.scratch.labels);
    uses_long = omega (arith, x.scratch.uses_long);
    spare_long = omega (arith, x.scratch.spare_long);
  };
  path_long = omega (arith, x.path_long);
  binders_long = omega (arith, x.binders_long);
}
