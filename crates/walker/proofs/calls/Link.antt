-- Where a combinator stands in the bytes, the walk by position is the walk over its tree.
-- Assumes nothing.
use mathlib.Core.List.{List, [], ◌∷◌, ◌++◌, append-nil}
use mathlib.Core.Bool.{Bool, ◌&&◌, and_assoc}
use mathlib.Core.Path.{◌≡◌, refl, sym, ap, ◌∙◌}
use Prim.Native.Nat.{ℕ, zero, suc, ◌+◌, ◌-◌, ◌≤◌, min}
use native.Mathlib.Nat.{not-suc-le-zero}
use native.Mathlib.Omega.{arith}
use lib.ListN.{length}
use Rattle.definition.specs.Tree.{Name, Text, Leaf, Len, Selector, Shell, wrap, vec, option, array, CaseKind, FieldKind, Combinator, plain, chained, Inner, leaf, struct, choice, shell, bytes, invocation, macro_invocation, Fields, no_field, field, const, Cases, no_case, case, Inners, no_inner, inner}
use Rattle.definition.specs.Write.{w_u16, w_name, w_text, w_len, w_list, w_selector, case_byte, w_label, leaf_tag, field_byte, w_open, w_shut, count_f, count_c, count_a, w_combinator, w_inner, w_fields, w_cases, w_inners}
use Rattle.definition.specs.Size.{size, levels, levels_i, levels_f, levels_c, levels_a}
use Rattle.definition.specs.Collect.{bytes_or_tail}
use Rattle.definition.specs.Bodies.{chains_ok, chains_ok_i, chains_ok_f, chains_ok_c}
use Rattle.layout.specs.items.At.{byte_at, past_at, name_past_of, text_past_of, length_past_of, selector_past_of, label_past_of}
use Rattle.layout.specs.items.Here.{Here}
use Rattle.layout.proofs.items.Here.{place, next_here, number_past, name_here, text_here, list_here, len_here, selector_here, label_here}
use Rattle.layout.proofs.items.Stands.{stands}
use Rattle.buffer.proofs.writes.Put.{put_past}
use Rattle.buffer.proofs.writes.Wrote.{place_is, place_fits}
use Rattle.walker.specs.declared.walk.Walk.{Walk}
use Rattle.walker.specs.marks.Steps.{State, call_at}
use Rattle.walker.specs.walk.Steps.{walk, moved, entered, silent, back}
use Rattle.walker.specs.calls.Walk.{times, field_at, case_by, case_at, wrap_by, array_by, macro_by, combinator_at, argument_at, inner_at, skip_at}
use Rattle.walker.specs.pieces.Pieces.{Piece, call, macro_call, pieces, pieces_i, pieces_f, pieces_c, places}
use Rattle.walker.specs.calls.Walked.{Walked, Gone, Skipped}
use Rattle.laws.proofs.Splits.{s_name, s_text, s_len, s_selector, s_label, s_comb, s_inner}
use Rattle.walker.proofs.calls.Steps.{many_is, field_is, const_is, choice_is, inner_4, inner_5, inner_7, inner_8, inner_9, inner_10, inner_12, inner_15, inner_16, inner_leaf, chained_is, tail_plain, tail_chain, combinator_suc, argument_suc, times_zero, times-suc}
use Rattle.walker.proofs.calls.Over.{deepest, Over, stay, skip, enter, shut, up, chain, then, mark}

call_pair : (n : Name) (a : List Name) (p : ℕ) (ps : List Piece) → places p (call n a ∷ ps) ≡ p ∷ (p + length (w_inner (invocation n a) [])) ∷ places (p + length (w_inner (invocation n a) [])) ps
unfolding places
call_pair n a p ps = refl

macro_pair : (n : Name) (a : Inners) (p : ℕ) (ps : List Piece) → places p (macro_call n a ∷ ps) ≡ p ∷ (p + length (w_inner (macro_invocation n a) [])) ∷ places (p + length (w_inner (macro_invocation n a) [])) ps
unfolding places
macro_pair n a p ps = refl

-- from w to g with nothing recorded: the place for marks is past their end
record Still (s : List ℕ) (k d : ℕ) (z : List ℕ) (w : Walk) (m : List ℕ) (g : State) : Type 0 where
  rest : Here s g.0.at z
  left : g.0.left ≡ min w.left (k - d)
  n : g.0.n ≡ suc (length m)
  same : g.1 ≡ m

module _ {s : List ℕ} {k d : ℕ} {f : List Piece → List Piece} {ok : Bool} {z : List ℕ} {w : Walk} {m : List ℕ} {g : State} where
  still : Over s k f d ok z w m g → w.n ≡ suc (length m) → Still s k d z w m g
  still o e =
      let t = o.marks (omega arith) in
      record { rest = o.rest; left = o.left; n = omega (arith, place_is t); same = t.holds ∙ put_past m w.n o.found (omega arith) }

min_below : (x k d : ℕ) → min (min x k) (k - d) ≡ min x (k - d)
min_below x k d = omega arith

module _ (s : List ℕ) where
  -- the walk over each sort
  abbrev pub Walks : Combinator → Type 0
  Walks c = (k : ℕ) → levels c ≤ k → (w : Walk) (m z : List ℕ) → Here s w.at (w_combinator c z) → Over s k (pieces c) (levels c) (chains_ok c) z w m (combinator_at k s w m)

  abbrev pub WalksI : Inner → Type 0
  WalksI i = (k : ℕ) → levels_i i ≤ k → (w : Walk) (m z : List ℕ) → Here s w.at (w_inner i z) → Over s k (pieces_i i) (levels_i i) (chains_ok_i i) z w m (inner_at k s w m)

  abbrev WalksF : Fields → Type 0
  WalksF f = (k : ℕ) → levels_f f ≤ k → (w : Walk) (m z : List ℕ) → w.left ≤ k → Here s w.at (w_fields f z) → Over s k (pieces_f f) (levels_f f) (chains_ok_f f) z w m (times (field_at k s) (count_f f) w m)

  abbrev WalksC : Cases → CaseKind → Type 0
  WalksC f t = (k : ℕ) → levels_c f ≤ k → (w : Walk) (m z : List ℕ) → w.left ≤ k → Here s w.at (w_cases f t z) → Over s k (pieces_c f t) (levels_c f) (chains_ok_c f) z w m (times (case_at k s (case_byte t)) (count_c f) w m)

  abbrev WalksA : Inners → Type 0
  WalksA f = (k : ℕ) → levels_a f ≤ k → (w : Walk) (m z : List ℕ) → w.left ≤ k → w.n ≡ suc (length m) → Here s w.at (w_inners f z) → Still s k (levels_a f) z w m (times (argument_at k s) (count_a f) w m)

  plain_walks : (i : Inner) → WalksI i → Walks (plain i)
  unfolding w_combinator pieces levels chains_ok
  plain_walks i g zero h w m z e = absurd (not-suc-le-zero h)
  plain_walks i g (suc k) h w m z e =
      let o = g k (omega arith) w m (0 ∷ z) e in
      rw (combinator_suc k s w m, tail_plain (combinator_at k s) s (byte_at s w.at) (inner_at k s w m) z o.rest)
      (up (shut (0 ∷ []) o (next_here o.rest)))

  chained_walks : (i : Inner) (c : Combinator) → WalksI i → Walks c → Walks (chained i c)
  unfolding w_combinator pieces levels chains_ok
  chained_walks i c a b zero h w m z e = absurd (not-suc-le-zero h)
  chained_walks i c a b (suc k) h w m z e =
      let g = inner_at k s w m in
      let u = moved g.0 (past_at s g.0.at 1) in
      let o = a k (omega arith) w m (1 ∷ w_combinator c z) e in
      let v = chain (bytes_or_tail i) (shut (1 ∷ []) o (next_here o.rest)) in
      let q = b k (omega arith) (walk u.at u.n u.left (u.plain && bytes_or_tail i)) g.1 z v.rest in
      rw (combinator_suc k s w m, tail_chain (combinator_at k s) s (byte_at s w.at) g (w_combinator c z) o.rest, chained_is u (byte_at s w.at) (bytes_or_tail i) (stands i (1 ∷ w_combinator c z) e), ← (and_assoc (bytes_or_tail i) (chains_ok_i i) (chains_ok c)))
      (up (then v q))

  leaf_walks : (t : Leaf) (x : Text) → WalksI (leaf t x)
  unfolding w_inner pieces_i levels_i chains_ok_i
  leaf_walks t x k h w m z e =
      let a = text_here x (next_here e) in
      rw (inner_leaf s w m (combinator_at k s) (argument_at k s) k t (w_text x z) e)
      (enter (leaf_tag t ∷ w_text x []) (rw (← (s_text x [] z)) e) a (stay a (omega arith)))

  struct_walks : (f : Fields) → WalksF f → WalksI (struct f)
  unfolding w_u16 w_inner pieces_i levels_i chains_ok_i
  struct_walks f g k h w m z e =
      let b = next_here e in
      let a = number_past (count_f f) b in
      rw (inner_4 s w m (combinator_at k s) (argument_at k s) k (w_u16 (count_f f) (w_fields f z)) e, many_is s (entered w (past_at s w.at 1) k) m (field_at k s) (count_f f) (w_fields f z) b)
      (enter (4 ∷ w_u16 (count_f f) []) e a (g k h (entered w (past_at s (past_at s w.at 1) 2) k) m z (omega arith) a))

  choice_walks : (x : Selector) (t : CaseKind) (f : Cases) → WalksC f t → WalksI (choice x t f)
  unfolding w_u16 w_inner pieces_i levels_i chains_ok_i
  choice_walks x t f g k h w m z e =
      let n = w_u16 (count_c f) (w_cases f t z) in
      let v = entered w (past_at s w.at 1) k in
      let y = selector_past_of s v.at in
      let b = next_here e in
      let d = next_here (selector_here x b) in
      let a = number_past (count_c f) d in
      rw (inner_7 s w m (combinator_at k s) (argument_at k s) k (w_selector x (case_byte t ∷ n)) e, choice_is s v m (combinator_at k s) x t n b, many_is s (moved v (past_at s y 1)) m (case_at k s (case_byte t)) (count_c f) (w_cases f t z) d)
      (enter (7 ∷ w_selector x (case_byte t ∷ w_u16 (count_c f) [])) (rw (← (s_selector x (case_byte t ∷ w_u16 (count_c f) []) (w_cases f t z))) e) a (g k h (entered w (past_at s (past_at s y 1) 2) k) m z (omega arith) a))

  shell_walks : (x : Shell) (c : Combinator) → Walks c → WalksI (shell x c)
  unfolding w_inner w_open w_shut pieces_i levels_i chains_ok_i wrap_by array_by
  shell_walks (wrap x y) c g k h w m z e =
      let v = entered w (past_at s w.at 1) k in
      let b : Here s (text_past_of s v.at) (w_combinator c (w_text y [] ++ z)) = rw (← (s_text y [] z)) (text_here x (next_here e)) in
      let o = g k h (moved v (text_past_of s v.at)) m (w_text y [] ++ z) b in
      let r : Here s (combinator_at k s (moved v (text_past_of s v.at)) m).0.at (w_text y z) = rw (s_text y [] z) o.rest in
      rw (inner_5 s w m (combinator_at k s) (argument_at k s) k (w_text x (w_combinator c (w_text y z))) e)
      (enter (5 ∷ w_text x []) (rw (← (s_text x [] (w_combinator c (w_text y [] ++ z))), ← (s_text y [] z)) e) b (shut (w_text y []) o (text_here y r)))
  shell_walks vec c g k h w m z e =
      let a = next_here e in
      let o = g k h (entered w (past_at s w.at 1) k) m z a in
      rw (inner_8 s w m (combinator_at k s) (argument_at k s) k (w_combinator c z) e) (enter (8 ∷ []) e a (shut [] o o.rest))
  shell_walks option c g k h w m z e =
      let a = next_here e in
      let o = g k h (entered w (past_at s w.at 1) k) m z a in
      rw (inner_12 s w m (combinator_at k s) (argument_at k s) k (w_combinator c z) e) (enter (12 ∷ []) e a (shut [] o o.rest))
  shell_walks (array l) c g k h w m z e =
      let v = entered w (past_at s w.at 1) k in
      let a = len_here l (next_here e) in
      let o = g k h (moved v (length_past_of s v.at)) m z a in
      rw (inner_9 s w m (combinator_at k s) (argument_at k s) k (w_len l (w_combinator c z)) e) (enter (9 ∷ w_len l []) (rw (← (s_len l [] (w_combinator c z))) e) a (shut [] o o.rest))

  bytes_walks : (l : Len) → WalksI (bytes l)
  unfolding w_inner pieces_i levels_i chains_ok_i
  bytes_walks l k h w m z e =
      let a = len_here l (next_here e) in
      rw (inner_10 s w m (combinator_at k s) (argument_at k s) k (w_len l z) e) (enter (10 ∷ w_len l []) (rw (← (s_len l [] z)) e) a (stay a (omega arith)))

  no_field_walks : WalksF no_field
  unfolding w_fields pieces_f levels_f chains_ok_f count_f
  no_field_walks k h w m z l e = rw (times_zero (field_at k s) w m) (stay e l)

  field_walks : (t : FieldKind) (x : Name) (c : Combinator) (f : Fields) → Walks c → WalksF f → WalksF (field t x c f)
  unfolding w_fields pieces_f levels_f chains_ok_f count_f
  field_walks t x c f i j k h w m z l e =
      let a = name_here x (next_here e) in
      let v = moved w (name_past_of s (past_at s w.at 1)) in
      let o = i k (omega arith) v m (w_fields f z) a in
      let g = combinator_at k s v m in
      let q = j k (omega arith) g.0 g.1 z (omega (arith, o.left)) o.rest in
      rw (times-suc (field_at k s) w m (count_f f) g (field_is s w m (combinator_at k s) t (w_name x (w_combinator c (w_fields f z))) e))
      (then (skip (field_byte t ∷ w_name x []) (rw (← (s_name x [] (w_combinator c (w_fields f z)))) e) a o) q)

  const_walks : (x : Name) (y : Text) (f : Fields) → WalksF f → WalksF (const x y f)
  unfolding w_fields pieces_f levels_f chains_ok_f count_f
  const_walks x y f j k h w m z l e =
      let a = text_here y (name_here x (next_here e)) in
      let v = moved w (text_past_of s (name_past_of s (past_at s w.at 1))) in
      rw (times-suc (field_at k s) w m (count_f f) (v, m) (const_is s w m (combinator_at k s) (w_name x (w_text y (w_fields f z))) e))
      (skip (3 ∷ w_name x (w_text y [])) (rw (← (s_name x (w_text y []) (w_fields f z)), ← (s_text y [] (w_fields f z))) e) a (j k h v m z l a))

  no_case_walks : (t : CaseKind) → WalksC no_case t
  unfolding w_cases pieces_c levels_c chains_ok_c count_c
  no_case_walks t k h w m z l e = rw (times_zero (case_at k s (case_byte t)) w m) (stay e l)

  case_walks : (x : List ℕ) (c : Combinator) (f : Cases) (t : CaseKind) → Walks c → WalksC f t → WalksC (case x c f) t
  unfolding w_cases pieces_c levels_c chains_ok_c count_c case_by
  case_walks x c f t i j k h w m z l e =
      let a = label_here t x e in
      let v = moved w (label_past_of s w.at (case_byte t)) in
      let o = i k (omega arith) v m (w_cases f t z) a in
      let g = combinator_at k s v m in
      let q = j k (omega arith) g.0 g.1 z (omega (arith, o.left)) o.rest in
      rw (times-suc (case_at k s (case_byte t)) w m (count_c f) g refl) (then (skip (w_label t x []) (rw (← (s_label t x [] (w_combinator c (w_cases f t z)))) e) a o) q)

  no_inner_walks : WalksA no_inner
  unfolding w_inners levels_a count_a
  no_inner_walks k h w m z l n e = rw (times_zero (argument_at k s) w m) (record { rest = e; left = omega arith; n = n; same = refl })

  argument_walks : (i : Inner) (f : Inners) → WalksI i → WalksA f → WalksA (inner i f)
  unfolding w_inners levels_a count_a
  argument_walks i f a b zero h w m z l n e = absurd (omega arith)
  argument_walks i f a b (suc k) h w m z l n e =
      let o = still (up (a k (omega arith) w m (w_inners f z) e)) n in
      let g = inner_at k s w m in
      let q = b (suc k) (omega arith) g.0 g.1 z (omega (arith, o.left)) (o.n ∙ ap (λ (y : List ℕ). suc (length y)) (sym o.same)) o.rest in
      rw (times-suc (argument_at (suc k) s) w m (count_a f) g (argument_suc k s w m))
      (record { rest = q.rest; left = deepest w.left (suc k) (suc (levels_i i)) (levels_a f) o.left q.left; n = q.n ∙ ap (λ (y : List ℕ). suc (length y)) o.same; same = q.same ∙ o.same })

module _ (s : List ℕ) (short : length s ≤ 65535) where
  call_walks : (n : Name) (a : List Name) → WalksI s (invocation n a)
  unfolding w_inner pieces_i levels_i chains_ok_i call_at
  call_walks n a k h w m z e =
      let v = entered w (past_at s w.at 1) k in
      rw (inner_15 s w m (combinator_at k s) (argument_at k s) k (w_name n (w_list w_name a z)) e)
      (mark v (invocation n a) (call n a) (call_pair n a) short e (list_here a (name_here n (next_here e))) refl refl (omega arith))

  macro_walks : (n : Name) (a : Inners) → WalksA s a → WalksI s (macro_invocation n a)
  unfolding w_inner pieces_i levels_i chains_ok_i macro_by
  macro_walks n a j k h w m z e =
      let v = entered w (past_at s w.at 1) k in
      let q = silent v (name_past_of s v.at) (length m + 1) in
      let x = moved q (past_at s q.at 2) in
      let b = name_here n (next_here e) in
      let t = j k h x m z (omega arith) (omega arith) (number_past (count_a a) b) in
      let g = times (argument_at k s) (count_a a) x m in
      rw (inner_16 s w m (combinator_at k s) (argument_at k s) k (w_name n (w_u16 (count_a a) (w_inners a z))) e, many_is s q m (argument_at k s) (count_a a) (w_inners a z) b, t.same)
      (mark (back v g.0) (macro_invocation n a) (macro_call n a) (macro_pair n a) short e t.rest refl refl (t.left ∙ min_below w.left k (levels_a a)))

  mutual
    pub over : (c : Combinator) → Walks s c
    over (plain i) = plain_walks s i (over_i i)
    over (chained i c) = chained_walks s i c (over_i i) (over c)

    pub over_i : (i : Inner) → WalksI s i
    over_i (leaf t x) = leaf_walks s t x
    over_i (struct f) = struct_walks s f (over_f f)
    over_i (choice x t f) = choice_walks s x t f (over_c f t)
    over_i (shell x c) = shell_walks s x c (over c)
    over_i (bytes l) = bytes_walks s l
    over_i (invocation n a) = call_walks n a
    over_i (macro_invocation n a) = macro_walks n a (over_a a)

    over_f : (f : Fields) → WalksF s f
    over_f no_field = no_field_walks s
    over_f (field t x c f) = field_walks s t x c f (over c) (over_f f)
    over_f (const x y f) = const_walks s x y f (over_f f)

    over_c : (f : Cases) (t : CaseKind) → WalksC s f t
    over_c no_case t = no_case_walks s t
    over_c (case x c f) t = case_walks s x c f t (over c) (over_c f t)

    over_a : (f : Inners) → WalksA s f
    over_a no_inner = no_inner_walks s
    over_a (inner i f) = argument_walks s i f (over_i i) (over_a f)

  -- a combinator
  pub gone : (c : Combinator) (k : ℕ) → levels c ≤ k → (w : Walk) (m z : List ℕ) → Here s w.at (w_combinator c z) → w.n ≤ length m → Gone s c k z w m (combinator_at k s w m).0 (combinator_at k s w m).1
  unfolding size places
  gone c k h w m z e room =
      let o = over c k h w m z e in
      let e' : Here s w.at (w_combinator c [] ++ z) = rw (← (s_comb c [] z)) e in
      let f : places w.at (pieces c []) ≡ o.found = o.splits [] ∙ append-nil o.found in
      record { place = place (w_combinator c []) e' o.rest; rest = o.rest; deep = o.left; chains = o.plain; wrote = rw f (o.marks (omega arith)) }

  pub walked : (c : Combinator) (k : ℕ) → levels c ≤ k → (w : Walk) (m z : List ℕ) → Here s w.at (w_combinator c z) → w.n + length (places w.at (pieces c [])) ≤ length m
      → Walked s c k z w m (combinator_at k s w m).0 (combinator_at k s w m).1
  walked c k h w m z e room =
      let g = gone c k h w m z e (omega arith) in
      record { place = g.place; rest = g.rest; deep = g.deep; chains = g.chains; count = place_fits g.wrote room; marks = g.wrote.holds }

  -- an inner with nothing recorded
  pub skipped : (i : Inner) (k : ℕ) → levels_i i ≤ k → (w : Walk) (m z : List ℕ) → Here s w.at (w_inner i z) → Skipped s i k z w m (skip_at k s w m).0 (skip_at k s w m).1
  unfolding skip_at
  skipped i k h w m z e =
      let o = still (over_i i k h (silent w w.at (length m + 1)) m z e) (omega arith) in
      let e' : Here s w.at (w_inner i [] ++ z) = rw (← (s_inner i [] z)) e in
      record { place = place (w_inner i []) e' o.rest; rest = o.rest; deep = o.left; chains = refl; count = refl; marks = o.same }

-- how deep it is, told by a walk that began with all its levels left
pub measured : {s : List ℕ} {c : Combinator} {k : ℕ} {z : List ℕ} {w : Walk} {m : List ℕ} {g : Walk} {l : List ℕ} → Walked s c k z w m g l → w.left ≡ k → levels c ≤ k → k - g.left ≡ levels c
measured v e h = omega (arith, v.deep)
