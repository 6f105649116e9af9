-- Pieces one behind the other are what the writer writes: of a combinator, of one after a substitution; and tests of called names.
-- Assumes nothing.
use mathlib.Core.Path.{◌≡◌, refl, ap, sym, ◌∙◌}
use mathlib.Core.List.{List, [], ◌∷◌, ◌++◌}
use mathlib.Core.Bool.{Bool, true, ◌&&◌, and_assoc}
use Prim.Native.Nat.{ℕ, suc}
use Rattle.definition.specs.Tree.{Name, CaseKind, Combinator, plain, chained, Inner, leaf, struct, choice, shell, bytes, invocation, macro_invocation, Fields, no_field, field, const, Cases, no_case, case}
use Rattle.definition.specs.Write.{w_u16, w_text, case_byte, w_shut, count_f, count_c, w_combinator, w_inner, w_fields, w_cases}
use Rattle.definition.specs.Macros.{subst, subst_i, subst_f, subst_c}
use Rattle.definition.specs.Bodies.{every_invocation, every_invocation_i, every_invocation_f, every_invocation_c}
use Rattle.walker.specs.pieces.Pieces.{Piece, raw, pieces, pieces_i, pieces_f, pieces_c, written, replaced, every}
use Rattle.laws.proofs.Splits.{s_name, s_text, s_len, s_selector, s_label, s_open, s_shut}

mutual
  unfolding w_u16 w_combinator pieces written

  pub written_is : (c : Combinator) (ps : List Piece) (r : List ℕ) → written invocation (pieces c ps) r ≡ w_combinator c (written invocation ps r)
  written_is (plain i) ps r = written_is_i i (raw (0 ∷ []) ∷ ps) r
  written_is (chained i c) ps r = written_is_i i (raw (1 ∷ []) ∷ pieces c ps) r ∙ ap (λ (l : List ℕ). w_inner i (1 ∷ l)) (written_is c ps r)

  pub written_is_i : (i : Inner) (ps : List Piece) (r : List ℕ) → written invocation (pieces_i i ps) r ≡ w_inner i (written invocation ps r)
  written_is_i (leaf k x) ps r = rw (s_text x [] (written invocation ps r))
  written_is_i (struct f) ps r = rw (written_is_f f ps r)
  written_is_i (choice s k f) ps r = rw (written_is_c f k ps r, s_selector s (case_byte k ∷ w_u16 (count_c f) []) (w_cases f k (written invocation ps r)))
  written_is_i (shell x c) ps r =
      let t : List ℕ = written invocation ps r in
      rw (written_is c (raw (w_shut x []) ∷ ps) r, s_shut x [] t, s_open x [] (w_combinator c (w_shut x [] ++ t)))
  written_is_i (bytes l) ps r = rw (s_len l [] (written invocation ps r))
  written_is_i (invocation n a) ps r = refl
  written_is_i (macro_invocation n a) ps r = refl

  pub written_is_f : (f : Fields) (ps : List Piece) (r : List ℕ) → written invocation (pieces_f f ps) r ≡ w_fields f (written invocation ps r)
  written_is_f no_field ps r = refl
  written_is_f (field k l c f) ps r = rw (written_is c (pieces_f f ps) r, written_is_f f ps r, s_name l [] (w_combinator c (w_fields f (written invocation ps r))))
  written_is_f (const l x f) ps r =
      let t : List ℕ = w_fields f (written invocation ps r) in
      rw (written_is_f f ps r, s_text x [] t, s_name l (w_text x []) t)

  pub written_is_c : (f : Cases) (k : CaseKind) (ps : List Piece) (r : List ℕ) → written invocation (pieces_c f k ps) r ≡ w_cases f k (written invocation ps r)
  written_is_c no_case k ps r = refl
  written_is_c (case l c f) k ps r = rw (written_is c (pieces_c f k ps) r, written_is_c f k ps r, s_label k l [] (w_combinator c (w_cases f k (written invocation ps r))))

module _ (p : Name) (a : Inner) where
  pub count_f_subst : (f : Fields) → count_f (subst_f f p a) ≡ count_f f
  unfolding subst_f count_f
  count_f_subst no_field = refl
  count_f_subst (field k l c f) = ap suc (count_f_subst f)
  count_f_subst (const l x f) = ap suc (count_f_subst f)

  pub count_c_subst : (f : Cases) → count_c (subst_c f p a) ≡ count_c f
  unfolding subst_c count_c
  count_c_subst no_case = refl
  count_c_subst (case l c f) = ap suc (count_c_subst f)

  mutual
    unfolding w_u16 w_combinator pieces written subst

    pub subst_is : (c : Combinator) (ps : List Piece) (r : List ℕ) → written (replaced p a) (pieces c ps) r ≡ w_combinator (subst c p a) (written (replaced p a) ps r)
    subst_is (plain i) ps r = subst_is_i i (raw (0 ∷ []) ∷ ps) r
    subst_is (chained i c) ps r = subst_is_i i (raw (1 ∷ []) ∷ pieces c ps) r ∙ ap (λ (l : List ℕ). w_inner (subst_i i p a) (1 ∷ l)) (subst_is c ps r)

    pub subst_is_i : (i : Inner) (ps : List Piece) (r : List ℕ) → written (replaced p a) (pieces_i i ps) r ≡ w_inner (subst_i i p a) (written (replaced p a) ps r)
    subst_is_i (leaf k x) ps r = rw (s_text x [] (written (replaced p a) ps r))
    subst_is_i (struct f) ps r = rw (subst_is_f f ps r, count_f_subst f)
    subst_is_i (choice s k f) ps r =
        rw (subst_is_c f k ps r, count_c_subst f, s_selector s (case_byte k ∷ w_u16 (count_c f) []) (w_cases (subst_c f p a) k (written (replaced p a) ps r)))
    subst_is_i (shell x c) ps r =
        let t : List ℕ = written (replaced p a) ps r in
        rw (subst_is c (raw (w_shut x []) ∷ ps) r, s_shut x [] t, s_open x [] (w_combinator (subst c p a) (w_shut x [] ++ t)))
    subst_is_i (bytes l) ps r = rw (s_len l [] (written (replaced p a) ps r))
    subst_is_i (invocation n xs) ps r = refl
    subst_is_i (macro_invocation n xs) ps r = refl

    pub subst_is_f : (f : Fields) (ps : List Piece) (r : List ℕ) → written (replaced p a) (pieces_f f ps) r ≡ w_fields (subst_f f p a) (written (replaced p a) ps r)
    subst_is_f no_field ps r = refl
    subst_is_f (field k l c f) ps r =
        rw (subst_is c (pieces_f f ps) r, subst_is_f f ps r, s_name l [] (w_combinator (subst c p a) (w_fields (subst_f f p a) (written (replaced p a) ps r))))
    subst_is_f (const l x f) ps r =
        let t : List ℕ = w_fields (subst_f f p a) (written (replaced p a) ps r) in
        rw (subst_is_f f ps r, s_text x [] t, s_name l (w_text x []) t)

    pub subst_is_c : (f : Cases) (k : CaseKind) (ps : List Piece) (r : List ℕ) → written (replaced p a) (pieces_c f k ps) r ≡ w_cases (subst_c f p a) k (written (replaced p a) ps r)
    subst_is_c no_case k ps r = refl
    subst_is_c (case l c f) k ps r =
        rw (subst_is c (pieces_c f k ps) r, subst_is_c f k ps r, s_label k l [] (w_combinator (subst c p a) (w_cases (subst_c f p a) k (written (replaced p a) ps r))))

module _ (test : Name → Bool) where
  mutual
    unfolding every_invocation pieces every

    pub every_is : (c : Combinator) (ps : List Piece) → every test (λ n. true) (pieces c ps) ≡ every_invocation c test && every test (λ n. true) ps
    every_is (plain i) ps = every_is_i i (raw (0 ∷ []) ∷ ps)
    every_is (chained i c) ps = every_is_i i (raw (1 ∷ []) ∷ pieces c ps) ∙ rw (every_is c ps) (sym (and_assoc (every_invocation_i i test) (every_invocation c test) (every test (λ n. true) ps)))

    pub every_is_i : (i : Inner) (ps : List Piece) → every test (λ n. true) (pieces_i i ps) ≡ every_invocation_i i test && every test (λ n. true) ps
    every_is_i (leaf k x) ps = refl
    every_is_i (struct f) ps = every_is_f f ps
    every_is_i (choice s k f) ps = every_is_c f k ps
    every_is_i (shell x c) ps = every_is c (raw (w_shut x []) ∷ ps)
    every_is_i (bytes l) ps = refl
    every_is_i (invocation n a) ps = refl
    every_is_i (macro_invocation n a) ps = refl

    pub every_is_f : (f : Fields) (ps : List Piece) → every test (λ n. true) (pieces_f f ps) ≡ every_invocation_f f test && every test (λ n. true) ps
    every_is_f no_field ps = refl
    every_is_f (field k l c f) ps = every_is c (pieces_f f ps) ∙ rw (every_is_f f ps) (sym (and_assoc (every_invocation c test) (every_invocation_f f test) (every test (λ n. true) ps)))
    every_is_f (const l x f) ps = every_is_f f ps

    pub every_is_c : (f : Cases) (k : CaseKind) (ps : List Piece) → every test (λ n. true) (pieces_c f k ps) ≡ every_invocation_c f test && every test (λ n. true) ps
    every_is_c no_case k ps = refl
    every_is_c (case l c f) k ps = every_is c (pieces_c f k ps) ∙ rw (every_is_c f k ps) (sym (and_assoc (every_invocation c test) (every_invocation_c f test) (every test (λ n. true) ps)))
