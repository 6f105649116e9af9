-- The bytes of a body after lifting: the body's own, with the range of each lift replaced by its call.
use mathlib.Core.Path.{◌≡◌, refl, sym, ap, ◌∙◌}
use mathlib.Core.Logic.{◌⊎◌, inl, inr}
use mathlib.Core.Bool.{Bool, true, false}
use mathlib.Core.List.{List, [], ◌∷◌, ◌++◌, append-nil}
use Prim.Native.Nat.{ℕ, suc, ◌+◌, ◌≤◌, ◌<◌}
use native.Mathlib.Omega.{arith}
use lib.ListN.{length}
use Rattle.definition.specs.Res.{absent}
use Rattle.definition.specs.Tree.{CaseKind, Combinator, plain, chained, Inner, leaf, struct, choice, shell, bytes, invocation, macro_invocation, Fields, no_field, field, const, Cases, no_case, case}
use Rattle.definition.specs.Write.{w_u16, w_name, w_text, w_selector, case_byte, w_label, w_open, w_shut, count_f, count_c, w_combinator, w_inner, w_fields, w_cases}
use Rattle.definition.specs.Size.{size}
use Rattle.definition.specs.Collect.{anonymous}
use Rattle.laws.proofs.Splits.{Splits, s_name, s_selector, s_label, s_open, s_shut, s_inner}
use Rattle.laws.proofs.Sizes.{adds, size_i, size_f, size_c, size-plain, size-chained, size_struct, size_choice, size-shell, size-field, size_constant, size-case, open-some, size_i_some, size_some}
use Rattle.lifting.specs.Records.{Record, find}
use Rattle.lifting.specs.After.{chain_at, fields_at, cases_at, shell_at, field_at, const_end, case_at, replaced, out, out_i, out_f, out_c, itself, lift_at, lifts, Stands, Found}
use Rattle.lifting.proofs.Found.{stands_either, found_left, found_right}
use Rattle.lifting.proofs.Ranges.{in-range}
use Rattle.lifting.proofs.Calls.{Goes, Opens, calls, goes_on, raw_goes, raw_opens}
use Rattle.lifting.proofs.Parts.{w_struct, w_choice, s_choice, w_field, s_field, w_const, s_const, Part, Whole, WholeI, WholeF, WholeC, Raw, of_plain, of_chained, of_struct, of_choice, of_shell, of_field, of_const, of_case}

count_out_f : (f : Fields) (p : ℕ) (rs : List Record) → count_f (out_f f p rs) ≡ count_f f
unfolding out_f count_f
count_out_f no_field p rs = refl
count_out_f (field k l c f) p rs = ap suc (count_out_f f _ rs)
count_out_f (const l x f) p rs = ap suc (count_out_f f _ rs)

count_out_c : (f : Cases) (k : CaseKind) (p : ℕ) (rs : List Record) → count_c (out_c f k p rs) ≡ count_c f
unfolding out_c count_c
count_out_c no_case k p rs = refl
count_out_c (case l c f) k p rs = ap suc (count_out_c f k _ rs)

module _ (s : List ℕ) (rs : List Record) where
  -- a child is a whole combinator
  pub kid_whole : (a : Bool) (c : Combinator) (p : ℕ) → Part s rs (w_combinator c) p p (p + size c) (lifts c p ++ itself a c p) → Whole s rs c p
  unfolding itself
  kid_whole a c p t = record { rest = t.rest; stands = t.stands; clear = λ x i j h. t.clear x (omega arith) j (λ k. not_here a x i h (stands_either x (lifts c p) (itself a c p) k)); found = found_left rs (lifts c p) (itself a c p) t.found }
    where
      not_here : (a : Bool) (x : ℕ) → suc p ≤ x → (Stands x (lifts c p) → ⊥) → Stands x (lifts c p) ⊎ Stands x (itself a c p) → ⊥
      not_here a x i h (inl k) = h k
      not_here true x i h (inr (inl e)) = omega arith
      not_here true x i h (inr (inr k)) = k
      not_here false x i h (inr k) = k

  pub raw : (w : List ℕ → List ℕ) → Splits w → {p e to : ℕ} {r : List ℕ} → Raw s rs w p p e → p + length (w []) ≡ e → Goes s rs to e r → Goes s rs to p (w r)
  raw w sp {p} {e} {to} {r} t h g = rw (sp [] r) (raw_goes s rs (w []) p t.rest (t.stands ∙ sp [] t.rest) (λ x i j. t.clear x i (omega arith) (λ k. k)) (rw h g))

  raw_first : (w : List ℕ → List ℕ) → Splits w → {p e to : ℕ} {r : List ℕ} → Raw s rs w p (suc p) e → p + length (w []) ≡ e → 0 < length (w []) → Goes s rs to e r → Opens s rs to p (w r)
  raw_first w sp {p} {e} {to} {r} t h n g = rw (sp [] r) (raw_opens s rs (w []) p t.rest n (t.stands ∙ sp [] t.rest) (λ x i j. t.clear x i (omega arith) (λ k. k)) (rw h g))

  pub goes_at : {e f to : ℕ} {r : List ℕ} → e ≡ f → Goes s rs to e r → Goes s rs to f r
  goes_at h g = rw h at g

  -- an inner out of which nothing is lifted
  leaf_bytes : (i : Inner) (p : ℕ) {to : ℕ} {r : List ℕ} → Raw s rs (w_inner i) p (suc p) (p + size_i i) → Goes s rs to (p + size_i i) r → Opens s rs to p (w_inner i r)
  unfolding size_i
  leaf_bytes i p t g = raw_first (w_inner i) (s_inner i) t refl (size_i_some i) g

  none_bytes : (p : ℕ) → p + size_f no_field ≡ p
  unfolding size_f w_combinator
  none_bytes p = omega arith

  none_bytes_c : (p : ℕ) (k : CaseKind) → p + size_c no_case k ≡ p
  unfolding size_c w_combinator
  none_bytes_c p k = omega arith

  kid_goes : (a : Bool) (c : Combinator) (p : ℕ) {to : ℕ} {r : List ℕ} → Part s rs (w_combinator c) p p (p + size c) (lifts c p ++ itself a c p)
      → (Whole s rs c p → Opens s rs to p (w_combinator (out c p rs) r)) → Goes s rs to (p + size c) r → Goes s rs to p (w_combinator (replaced a (out c p rs) (find rs p)) r)
  unfolding itself replaced
  kid_goes true c p t ih g =
      let f : Found rs (lift_at c p) = (found_right rs (lifts c p) _ t.found).0 in
      rw f.found (calls s rs f.of f.found (omega (arith, f.ends, size_some c)) (goes_at (sym f.ends) g))
  kid_goes false c p t ih g =
      let e : find rs p ≡ absent = t.clear p (omega arith) (omega (arith, size_some c)) (λ k. let q = (in-range c p).range p (rw (append-nil (lifts c p)) at k) in omega arith) in
      goes_on s rs e (ih (kid_whole false c p t))

  mutual
    unfolding out w_combinator w_u16 lifts

    pub bytes_of : (c : Combinator) (p : ℕ) {to : ℕ} {r : List ℕ} → Whole s rs c p → Goes s rs to (p + size c) r → Opens s rs to p (w_combinator (out c p rs) r)
    bytes_of (plain i) p t g = let q = of_plain s rs i p t in bytes_of_i i p q.0 (raw (0 ∷◌) (λ x y. refl) q.1 refl (goes_at (omega (arith, size-plain i)) g))
    bytes_of (chained i c) p t g =
        let q = of_chained s rs i c p t in
        let h = goes_at {f = chain_at p i + size c} (omega (arith, size-chained i c)) g in
        bytes_of_i i p q.0 (raw (1 ∷◌) (λ x y. refl) q.1 refl (kid_goes (anonymous c) c (chain_at p i) q.2 (λ w. bytes_of c (chain_at p i) w h) h))

    pub bytes_of_i : (i : Inner) (p : ℕ) {to : ℕ} {r : List ℕ} → WholeI s rs i p → Goes s rs to (p + size_i i) r → Opens s rs to p (w_inner (out_i i p rs) r)
    bytes_of_i (leaf k x) p t g = leaf_bytes (leaf k x) p t g
    bytes_of_i (struct f) p t g =
        let q = of_struct s rs f p t in
        rw (count_out_f f (fields_at p) rs) (raw_first (w_struct f) (λ x y. refl) q.0 (omega arith) (omega arith) (bytes_of_f f (fields_at p) q.1 (goes_at (omega (arith, size_struct f)) g)))
    bytes_of_i (choice x k f) p t g =
        let q = of_choice s rs x k f p t in
        rw (count_out_c f k (cases_at p x) rs) (raw_first (w_choice x k f) (s_choice x k f) q.0 (omega (arith, adds (w_selector x) (s_selector x) (case_byte k ∷ w_u16 (count_c f) []))) (omega arith) (bytes_of_c f k (cases_at p x) q.1 (goes_at (omega (arith, size_choice x k f)) g)))
    bytes_of_i (shell x c) p t g =
        let q = of_shell s rs x c p t in
        let h = raw (w_shut x) (s_shut x) q.2 (omega (arith, size-shell x c)) g in
        raw_first (w_open x) (s_open x) q.0 refl (open-some x) (kid_goes (anonymous c) c (shell_at p x) q.1 (λ w. bytes_of c (shell_at p x) w h) h)
    bytes_of_i (bytes l) p t g = leaf_bytes (bytes l) p t g
    bytes_of_i (invocation n a) p t g = leaf_bytes (invocation n a) p t g
    bytes_of_i (macro_invocation n a) p t g = leaf_bytes (macro_invocation n a) p t g

    pub bytes_of_f : (f : Fields) (p : ℕ) {to : ℕ} {r : List ℕ} → WholeF s rs f p → Goes s rs to (p + size_f f) r → Goes s rs to p (w_fields (out_f f p rs) r)
    bytes_of_f no_field p t g = goes_at (none_bytes p) g
    bytes_of_f (field k l c f) p t g =
        let q = of_field s rs k l c f p t in
        let h = bytes_of_f f (field_at p l + size c) q.2 (goes_at (omega (arith, size-field k l c f)) g) in
        raw (w_field k l) (s_field k l) q.0 (omega arith) (kid_goes (anonymous c) c (field_at p l) q.1 (λ w. bytes_of c (field_at p l) w h) h)
    bytes_of_f (const l x f) p t g =
        let q = of_const s rs l x f p t in
        raw (w_const l x) (s_const l x) q.0 (omega (arith, adds (w_name l) (s_name l) (w_text x []))) (bytes_of_f f (const_end p l x) q.1 (goes_at (omega (arith, size_constant l x f)) g))

    pub bytes_of_c : (f : Cases) (k : CaseKind) (p : ℕ) {to : ℕ} {r : List ℕ} → WholeC s rs f k p → Goes s rs to (p + size_c f k) r → Goes s rs to p (w_cases (out_c f k p rs) k r)
    bytes_of_c no_case k p t g = goes_at (none_bytes_c p k) g
    bytes_of_c (case l c f) k p t g =
        let q = of_case s rs l c f k p t in
        let h = bytes_of_c f k (case_at p k l + size c) q.2 (goes_at (omega (arith, size-case l c f k)) g) in
        raw (w_label k l) (s_label k l) q.0 refl (kid_goes (anonymous c) c (case_at p k l) q.1 (λ w. bytes_of c (case_at p k l) w h) h)
