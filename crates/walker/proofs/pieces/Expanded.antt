-- Macro expansion by pieces: a combinator's pieces with each known macro call replaced, or refused where one of them is.
-- Every refusal of an expansion is code 6, so that the order in which calls are expanded makes no difference.
-- Assumes nothing.
use mathlib.Core.Path.{◌≡◌, refl, ap, sym, ◌∙◌}
use mathlib.Core.List.{List, [], ◌∷◌, ◌++◌}
use Prim.Native.Nat.{ℕ, suc}
use Rattle.definition.specs.Tree.{CaseKind, Combinator, plain, chained, Inner, leaf, struct, choice, shell, bytes, invocation, macro_invocation, Fields, no_field, field, const, Cases, no_case, case}
use Rattle.definition.specs.Write.{w_u16, w_name, w_text, w_len, case_byte, w_open, w_shut, w_selector, w_label, leaf_tag, field_byte, count_f, count_c, w_combinator, w_inner, w_fields, w_cases}
use Rattle.definition.specs.Out.{Out, refused, done, ◌>>=◌}
use Rattle.definition.specs.Macros.{Macro, expand, expand_i, expand_f, expand_c}
use Rattle.walker.specs.pieces.Pieces.{Piece, raw, pieces, pieces_i, pieces_f, pieces_c, rewritten, expanded}
use Rattle.laws.proofs.OnlySix.{Grows, code_six, grows, grows_i}
use Rattle.laws.proofs.Splits.{s_name, s_text, s_len, s_selector, s_label, s_open, s_shut}

-- what holds of a value, where there is one
abbrev pub All : {A : Type 0} → (A → Type 0) → Out A → Type 0
All P (refused k) = Unit {0}
All P (done x) = P x

module _ {A B : Type 0} (P : A → Type 0) (Q : B → Type 0) where
  pub then : (o : Out A) (f : A → Out B) → All P o → ((x : A) → P x → All Q (f x)) → All Q (o >>= f)
  then (refused k) f h g = tt
  then (done x) f h g = g x h

module _ {A : Type 0} where
  any : (o : Out A) → All (λ x. Unit {0}) o
  any (refused k) = tt
  any (done x) = tt

-- an expansion keeps the number of fields and of cases
module _ (ms : List Macro) where
  counted : (f : Fields) → All (λ g. count_f g ≡ count_f f) (expand_f f ms)
  unfolding expand_f count_f
  counted no_field = refl
  counted (field k l c f) =
      then (λ d. Unit {0}) (λ g. count_f g ≡ suc (count_f f)) (expand c ms) (λ d. expand_f f ms >>= λ g. done (field k l d g)) (any (expand c ms))
      (λ d u. then (λ g. count_f g ≡ count_f f) (λ g. count_f g ≡ suc (count_f f)) (expand_f f ms) (λ g. done (field k l d g)) (counted f) (λ g e. ap suc e))
  counted (const l x f) = then (λ g. count_f g ≡ count_f f) (λ g. count_f g ≡ suc (count_f f)) (expand_f f ms) (λ g. done (const l x g)) (counted f) (λ g e. ap suc e)

  counted_c : (f : Cases) → All (λ g. count_c g ≡ count_c f) (expand_c f ms)
  unfolding expand_c count_c
  counted_c no_case = refl
  counted_c (case l c f) =
      then (λ d. Unit {0}) (λ g. count_c g ≡ suc (count_c f)) (expand c ms) (λ d. expand_c f ms >>= λ g. done (case l d g)) (any (expand c ms))
      (λ d u. then (λ g. count_c g ≡ count_c f) (λ g. count_c g ≡ suc (count_c f)) (expand_c f ms) (λ g. done (case l d g)) (counted_c f) (λ g e. ap suc e))

-- what an expansion writes in front of what follows, if that is there
module _ {A : Type 0} where
  abbrev pub onto : (A → List ℕ → List ℕ) → Out A → Out (List ℕ) → Out (List ℕ)
  onto w o t = o >>= λ x. t >>= λ r. done (w x r)

abbrev front : List ℕ → Out (List ℕ) → Out (List ℕ)
front b t = t >>= λ r. done (b ++ r)

same_out : (t : Out (List ℕ)) → (t >>= λ r. done r) ≡ t
same_out (refused k) = refl
same_out (done r) = refl

over : (b : List ℕ) (w : List ℕ → List ℕ) → ((r : List ℕ) → b ++ r ≡ w r) → (t : Out (List ℕ)) → front b t ≡ (t >>= λ r. done (w r))
over b w h (refused k) = refl
over b w h (done r) = ap done (h r)

module _ {A B : Type 0} (P : A → Type 0) (make : A → B) (w : A → List ℕ → List ℕ) (v : B → List ℕ → List ℕ) (b : List ℕ) where
  -- a part, with bytes in front of it
  part : ((x : A) → P x → (r : List ℕ) → b ++ w x r ≡ v (make x) r) → (o : Out A) → All P o → (t : Out (List ℕ)) → front b (onto w o t) ≡ onto v (o >>= λ x. done (make x)) t
  part h (refused k) q t = refl
  part h (done x) q (refused k) = refl
  part h (done x) q (done r) = ap done (h x q r)

module _ {A B : Type 0} (make : A → B) (w : A → List ℕ → List ℕ) (v : B → List ℕ → List ℕ) (b e : List ℕ) where
  -- and behind it
  around : ((x : A) (r : List ℕ) → b ++ w x (e ++ r) ≡ v (make x) r) → (o : Out A) (t : Out (List ℕ)) → front b (onto w o (front e t)) ≡ onto v (o >>= λ x. done (make x)) t
  around h (refused k) t = refl
  around h (done x) (refused k) = refl
  around h (done x) (done r) = ap done (h x r)

module _ {A B : Type 0} (make : A → B → B) (w : A → List ℕ → List ℕ) (v : B → List ℕ → List ℕ) (b : List ℕ) where
  -- two parts, one behind the other
  pair : ((x : A) (y : B) (r : List ℕ) → b ++ w x (v y r) ≡ v (make x y) r) → (o : Out A) (p : Out B) (t : Out (List ℕ)) → front b (onto w o (onto v p t)) ≡ onto v (o >>= λ x. p >>= λ y. done (make x y)) t
  pair h (refused k) p t = refl
  pair h (done x) (refused k) t = refl
  pair h (done x) (done y) (refused k) = refl
  pair h (done x) (done y) (done r) = ap done (h x y r)

-- an inner and its chain, which is expanded first
single : (o : Out Inner) (t : Out (List ℕ)) → onto w_inner o (front (0 ∷ []) t) ≡ onto w_combinator (o >>= λ j. done (plain j)) t
unfolding w_combinator
single (refused k) t = refl
single (done j) (refused k) = refl
single (done j) (done r) = refl

chain : (o : Out Inner) (p : Out Combinator) (t : Out (List ℕ)) → Grows o → Grows p
    → onto w_inner o (front (1 ∷ []) (onto w_combinator p t)) ≡ onto w_combinator (p >>= λ d. o >>= λ j. done (chained j d)) t
unfolding w_combinator
chain (refused k) (refused m) t g h = ap refused (code_six g ∙ sym (code_six h))
chain (refused k) (done d) t g h = refl
chain (done j) (refused m) t g h = refl
chain (done j) (done d) (refused k) g h = refl
chain (done j) (done d) (done r) g h = refl

module _ (ms : List Macro) where
  mutual
    unfolding w_u16 w_combinator pieces rewritten expand

    pub expanded_is : (c : Combinator) (ps : List Piece) (r : List ℕ) → expanded ms (pieces c ps) r ≡ onto w_combinator (expand c ms) (expanded ms ps r)
    expanded_is (plain i) ps r = expanded_is_i i (raw (0 ∷ []) ∷ ps) r ∙ single (expand_i i ms) (expanded ms ps r)
    expanded_is (chained i c) ps r =
        expanded_is_i i (raw (1 ∷ []) ∷ pieces c ps) r
        ∙ ap (λ (t : Out (List ℕ)). onto w_inner (expand_i i ms) (front (1 ∷ []) t)) (expanded_is c ps r)
        ∙ chain (expand_i i ms) (expand c ms) (expanded ms ps r) (grows_i ms i) (grows ms c)

    pub expanded_is_i : (i : Inner) (ps : List Piece) (r : List ℕ) → expanded ms (pieces_i i ps) r ≡ onto w_inner (expand_i i ms) (expanded ms ps r)
    expanded_is_i (leaf k x) ps r = over (leaf_tag k ∷ w_text x []) (λ t. leaf_tag k ∷ w_text x t) (λ t. rw (s_text x [] t)) (expanded ms ps r)
    expanded_is_i (struct f) ps r =
        ap (front (4 ∷ w_u16 (count_f f) [])) (expanded_is_f f ps r)
        ∙ part (λ g. count_f g ≡ count_f f) (λ g. struct g) w_fields w_inner (4 ∷ w_u16 (count_f f) []) (λ g e t. rw e) (expand_f f ms) (counted ms f) (expanded ms ps r)
    expanded_is_i (choice s k f) ps r =
        let b : List ℕ = 7 ∷ w_selector s (case_byte k ∷ w_u16 (count_c f) []) in
        ap (front b) (expanded_is_c f k ps r)
        ∙ part (λ g. count_c g ≡ count_c f) (λ g. choice s k g) (λ g t. w_cases g k t) w_inner b
        (λ g e t. rw (e, s_selector s (case_byte k ∷ w_u16 (count_c f) []) (w_cases g k t))) (expand_c f ms) (counted_c ms f) (expanded ms ps r)
    expanded_is_i (shell x c) ps r =
        ap (front (w_open x [])) (expanded_is c (raw (w_shut x []) ∷ ps) r)
        ∙ around (λ d. shell x d) w_combinator w_inner (w_open x []) (w_shut x []) (λ d t. rw (s_shut x [] t, s_open x [] (w_combinator d (w_shut x [] ++ t)))) (expand c ms) (expanded ms ps r)
    expanded_is_i (bytes l) ps r = over (10 ∷ w_len l []) (λ t. 10 ∷ w_len l t) (λ t. rw (s_len l [] t)) (expanded ms ps r)
    expanded_is_i (invocation n a) ps r = refl
    expanded_is_i (macro_invocation n a) ps r = refl

    expanded_is_f : (f : Fields) (ps : List Piece) (r : List ℕ) → expanded ms (pieces_f f ps) r ≡ onto w_fields (expand_f f ms) (expanded ms ps r)
    expanded_is_f no_field ps r = sym (same_out (expanded ms ps r))
    expanded_is_f (field k l c f) ps r =
        let b : List ℕ = field_byte k ∷ w_name l [] in
        ap (front b) (expanded_is c (pieces_f f ps) r ∙ ap (onto w_combinator (expand c ms)) (expanded_is_f f ps r))
        ∙ pair (λ d g. field k l d g) w_combinator w_fields b (λ d g t. rw (s_name l [] (w_combinator d (w_fields g t)))) (expand c ms) (expand_f f ms) (expanded ms ps r)
    expanded_is_f (const l x f) ps r =
        let b : List ℕ = 3 ∷ w_name l (w_text x []) in
        ap (front b) (expanded_is_f f ps r)
        ∙ part (λ g. Unit {0}) (λ g. const l x g) w_fields w_fields b (λ g u t. rw (s_text x [] (w_fields g t), s_name l (w_text x []) (w_fields g t))) (expand_f f ms) (any (expand_f f ms)) (expanded ms ps r)

    expanded_is_c : (f : Cases) (k : CaseKind) (ps : List Piece) (r : List ℕ) → expanded ms (pieces_c f k ps) r ≡ onto (λ g t. w_cases g k t) (expand_c f ms) (expanded ms ps r)
    expanded_is_c no_case k ps r = sym (same_out (expanded ms ps r))
    expanded_is_c (case l c f) k ps r =
        ap (front (w_label k l [])) (expanded_is c (pieces_c f k ps) r ∙ ap (onto w_combinator (expand c ms)) (expanded_is_c f k ps r))
        ∙ pair (λ d g. case l d g) w_combinator (λ g t. w_cases g k t) (w_label k l []) (λ d g t. rw (s_label k l [] (w_combinator d (w_cases g k t)))) (expand c ms) (expand_c f ms) (expanded ms ps r)

  -- a whole combinator
  pub expansion : (c : Combinator) (r : List ℕ) → expanded ms (pieces c []) r ≡ (expand c ms >>= λ d. done (w_combinator d r))
  unfolding rewritten
  expansion c r = expanded_is c [] r
