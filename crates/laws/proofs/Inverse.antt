-- What was read is what is written, and a tree that a book can hold: one induction over the reader says both.
use mathlib.Core.Path.{◌≡◌, refl, ap, ◌∙◌}
use mathlib.Core.List.{List, [], ◌∷◌, ◌++◌}
use mathlib.Core.Bool.{Bool, true, false, cond}
use Prim.Native.Nat.{ℕ, zero, suc, ◌+◌, ◌*◌, ◌/◌, ◌%◌, ◌≤◌, ◌<◌}
use native.Mathlib.Nat.{add-zero, zero-add, add-suc, suc-add}
use native.Mathlib.Omega.{arith}
use lib.Dec.{eqb, T, eqb→eq}
use lib.ListN.{length, get_or}
use Rattle.definition.specs.Res.{Maybe, absent, just, Res, bad, ok, ◌>>=◌}
use Rattle.definition.specs.Tree.{Name, Leaf, constraint_int, constraint_enum, bits, enum, tail, nothing, never, CaseKind, enums, ints, arrays, ordinary, dependent, Combinator, plain, Inner, Fields, no_field, no_case, no_inner, Kind, is_format, is_constant, is_byte_order, is_macro, Definition}
use Rattle.definition.specs.Read.{Reader, u16, part, text, dot_allowed, undotted, byte, name_by, names_by, name, known, one_of, flags, case_kinds, FieldStart, holds, is_const, field_kinds, len, selector_by, selector, label, field_by, fields, cases, inners, Tag, is_leaf, is_struct, is_wrap, is_choice, is_vec, is_array, is_bytes, is_option, is_invocation, is_macro_invocation, tags, items, level, too_deep, chain_by, chain, combinator, arg, params, definition}
use Rattle.definition.specs.Write.{w_u16, w_name, w_text, w_all, w_list, w_len, w_selector, case_byte, w_label, leaf_tag, field_byte, w_open, w_shut, count_f, count_c, count_a, w_combinator, w_inner, w_fields, w_cases, w_inners, w_param, w_definition, kind_of}
use Rattle.definition.specs.Size.{levels, levels_i, levels_f, levels_c, levels_a, levels_p, levels_book}
use Rattle.laws.specs.Book.{Bytes, Named, AllNamed, GoodLen, GoodS, GoodL, Good, GoodI, GoodF, GoodC, GoodA, GoodP, GoodD}
use Rattle.laws.proofs.Steps.{Gives, refusal, value, then, so, ask, inside}

-- the bytes s are those of t, the rest r is bytes, and P holds of what was read
pub record Is (s t r : List ℕ) (P : Type 0) : Type 0 where
  pub same : s ≡ t
  pub small : Bytes r
  pub good : P

-- of bytes the reader gives what the writer writes, and of that P holds
abbrev pub Reads : {A : Type 0} → Reader A → (A → List ℕ → List ℕ) → (A → Type 0) → Type 0
Reads f w P = (s : List ℕ) → Bytes s → Gives (λ x r. Is s (w x r) r (P x)) (f s)

pub i_u16 : Reads u16 w_u16 (λ n. Unit {0})
unfolding u16 w_u16
i_u16 [] h = refusal
i_u16 (a ∷ []) h = refusal
i_u16 (a ∷ b ∷ s) h =
    let u : a ≡ (a + 256 * b) % 256 = omega (arith, h.0, h.1.0) in
    let v : b ≡ (a + 256 * b) / 256 = omega (arith, h.0, h.1.0) in
    let w : a ∷ b ∷ s ≡ (a + 256 * b) % 256 ∷ (a + 256 * b) / 256 ∷ s = cc in
    value (record { same = w; small = h.1.1; good = tt })

pub i_part : (n : ℕ) → Reads (part n) ◌++◌ (λ x. (length x ≡ n) × Bytes x)
unfolding part
i_part zero s h = value (record { same = refl; small = h; good = (refl, tt) })
i_part (suc n) [] h = refusal
i_part (suc n) (b ∷ s) h = then (i_part n s h.1) _ λ x r w. value (record { same = rw w.same; small = w.small; good = (ap suc w.good.0, (h.0, w.good.1)) })

i_text : Reads text w_text Bytes
unfolding text w_text
i_text s h = inside s (then (i_u16 s h) _ λ n v u. so (i_part n v u.small) λ x r w. record { same = rw (w.good.0, u.same, w.same); small = w.small; good = w.good.1 })

pub i_byte : Reads byte ◌∷◌ (λ b. b < 256)
unfolding byte
i_byte [] h = refusal
i_byte (b ∷ s) h = value (record { same = refl; small = h.1; good = h.0 })

i_name : (test : List ℕ → Bool) → Reads (name_by test) w_name (Named test)
unfolding name_by w_name
i_name test s h = inside s (then (i_byte s h) _ λ n v u. then (i_part n v u.small) _ λ x r w. ask (test x) _ r _ λ p.
    value (record { same = rw (w.good.0, u.same, w.same); small = w.small; good = record { passes = p; short = omega (arith, w.good.0, u.good); small = w.good.1 } }))

i_names : (test : List ℕ → Bool) (n : ℕ) → Reads (names_by test n) (w_all w_name) (λ x. (length x ≡ n) × AllNamed test x)
unfolding names_by w_all
i_names test zero s h = value (record { same = refl; small = h; good = (refl, tt) })
i_names test (suc n) s h = then (i_name test s h) _ λ x v u. then (i_names test n v u.small) _ λ xs r w.
    value (record { same = rw (u.same, w.same); small = w.small; good = (ap suc w.good.0, (u.good, w.good.1)) })

-- tables: a computed test that each entry stands at its byte, and what it says of reading
module _ {A : Type 0} (code : A → ℕ) where
  abbrev pub agree : ℕ → List (Maybe A) → Bool
  agree i [] = true
  agree i (absent ∷ l) = agree (suc i) l
  agree i (just a ∷ l) = cond (eqb (code a) i) (agree (suc i) l) false

  agreed : (a b : Bool) → T (cond a b false) → T a × T b
  agreed true b t = (tt, t)
  agreed false b t = absurd t

  at_code : (l : List (Maybe A)) (i : ℕ) → T (agree i l) → (t : ℕ) (a : A) → get_or l t absent ≡ just a → code a ≡ i + t
  at_code [] i h t a e = let z : ◌≡◌ {A = ℕ} 0 1 = cc in absurd (omega arith)
  at_code (absent ∷ l) i h zero a e = let z : ◌≡◌ {A = ℕ} 0 1 = cc in absurd (omega arith)
  at_code (just b ∷ l) i h zero a e =
      let p : b ≡ a = cc in
      let q = eqb→eq (code b) i (agreed (eqb (code b) i) (agree (suc i) l) h).0 in
      rw (add-zero, ← p) q
  at_code (absent ∷ l) i h (suc t) a e = rw (add-suc, ← suc-add) (at_code l (suc i) h t a e)
  at_code (just b ∷ l) i h (suc t) a e = rw (add-suc, ← suc-add) (at_code l (suc i) (agreed (eqb (code b) i) (agree (suc i) l) h).1 t a e)

  i_known : (m : Maybe A) (here s : List ℕ) → Gives (λ a r. (m ≡ just a) × (s ≡ r)) (known m here s)
  unfolding known
  i_known absent here s = refusal
  i_known (just b) here s = value (refl, refl)

  pub i_one_of : (l : List (Maybe A)) → T (agree 0 l) → Reads (one_of l) (λ a r. code a ∷ r) (λ a. Unit {0})
  unfolding one_of
  i_one_of l h [] b = refusal
  i_one_of l h (x ∷ s) b = so (i_known (get_or l x absent) (x ∷ s) s) λ a r k.
      let q = rw zero-add at (at_code l 0 h x a k.0) in
      record { same = rw (q, k.1); small = rw k.1 at b.1; good = tt }

abbrev flag_byte : Bool → ℕ
flag_byte false = 0
flag_byte true = 1

abbrev start_byte : FieldStart → ℕ
start_byte (holds ordinary) = 1
start_byte (holds dependent) = 2
start_byte is_const = 3

abbrev tag_byte : Tag → ℕ
tag_byte (is_leaf constraint_int) = 1
tag_byte (is_leaf constraint_enum) = 2
tag_byte (is_leaf bits) = 3
tag_byte is_struct = 4
tag_byte is_wrap = 5
tag_byte (is_leaf enum) = 6
tag_byte is_choice = 7
tag_byte is_vec = 8
tag_byte is_array = 9
tag_byte is_bytes = 10
tag_byte (is_leaf tail) = 11
tag_byte is_option = 12
tag_byte (is_leaf nothing) = 13
tag_byte (is_leaf never) = 14
tag_byte is_invocation = 15
tag_byte is_macro_invocation = 16

i_case : Reads (one_of case_kinds) (λ k r. case_byte k ∷ r) (λ k. Unit {0})
unfolding case_byte
i_case s h = i_one_of case_byte case_kinds tt s h

i_len : Reads len w_len GoodLen
unfolding len w_len w_list
i_len s h = then (i_u16 s h) _ λ n v u. then (i_names undotted n v u.small) _ λ ns v₂ w. then (i_text v₂ w.small) _ λ x r z.
    value (record { same = rw (w.good.0, u.same, w.same, z.same); small = z.small; good = (w.good.1, z.good) })

i_selector_by : (f : Bool) (s : List ℕ) → Bytes s → Gives (λ x r. Is (flag_byte f ∷ s) (w_selector x r) r (GoodS x)) (selector_by f s)
unfolding selector_by w_selector
i_selector_by false s h = value (record { same = refl; small = h; good = tt })
i_selector_by true s h = then (i_name dot_allowed s h) _ λ n r w. value (record { same = rw w.same; small = w.small; good = w.good })

i_selector : Reads selector w_selector GoodS
unfolding selector
i_selector s h = then (i_one_of flag_byte flags tt s h) _ λ f v u. so (i_selector_by f v u.small) λ x r w. record { same = u.same ∙ w.same; small = w.small; good = w.good }

i_label : (k : CaseKind) → Reads (label k) (w_label k) (GoodL k)
unfolding label w_label name
i_label enums s h = i_name undotted s h
i_label ints s h = i_text s h
i_label arrays s h = i_text s h

-- `c` reads a combinator with k levels left
module _ (k : ℕ) (c : Reader Combinator) (ih : Reads c w_combinator (λ x. Good x × (levels x ≤ k))) where
  abbrev FieldsOf : ℕ → Fields → Type 0
  FieldsOf n x = (count_f x ≡ n) × GoodF x × (levels_f x ≤ k)

  i_field_by : (rest : Reader Fields) (n : ℕ) → Reads rest w_fields (FieldsOf n) → (m : FieldStart) (l : Name) → Named undotted l
      → (s : List ℕ) → Bytes s → Gives (λ x r. Is (start_byte m ∷ w_name l s) (w_fields x r) r (FieldsOf (suc n) x)) (field_by c rest m l s)
  unfolding field_by w_combinator count_f field_byte levels
  i_field_by rest n go (holds ordinary) l a s h = then (ih s h) _ λ y v w. then (go v w.small) _ λ f r z.
      value (record { same = rw (w.same, z.same); small = z.small; good = (ap suc z.good.0, (a, (w.good.0, z.good.1)), omega (arith, w.good.1, z.good.2)) })
  i_field_by rest n go (holds dependent) l a s h = then (ih s h) _ λ y v w. then (go v w.small) _ λ f r z.
      value (record { same = rw (w.same, z.same); small = z.small; good = (ap suc z.good.0, (a, (w.good.0, z.good.1)), omega (arith, w.good.1, z.good.2)) })
  i_field_by rest n go is_const l a s h = then (i_text s h) _ λ y v w. then (go v w.small) _ λ f r z.
      value (record { same = rw (w.same, z.same); small = z.small; good = (ap suc z.good.0, (a, (w.good, z.good.1)), z.good.2) })

  i_fields : (n : ℕ) → Reads (fields c n) w_fields (FieldsOf n)
  unfolding fields w_combinator count_f name levels
  i_fields zero s h = value {a = no_field} (record { same = refl; small = h; good = (refl, tt, omega arith) })
  i_fields (suc n) s h = then (i_one_of start_byte field_kinds tt s h) _ λ m v u. then (i_name undotted v u.small) _ λ l v₂ w.
      so (i_field_by (λ s. fields c n s) n (λ s h. i_fields n s h) m l w.good v₂ w.small) λ x r z.
      record { same = u.same ∙ ap (λ (t : List ℕ). start_byte m ∷ t) w.same ∙ z.same; small = z.small; good = z.good }

  i_cases : (m : CaseKind) (n : ℕ) → Reads (cases c m n) (λ x r. w_cases x m r) (λ x. (count_c x ≡ n) × GoodC x m × (levels_c x ≤ k))
  unfolding cases w_combinator count_c levels
  i_cases m zero s h = value {a = no_case} (record { same = refl; small = h; good = (refl, tt, omega arith) })
  i_cases m (suc n) s h = then (i_label m s h) _ λ l v u. then (ih v u.small) _ λ y v₂ w. then (i_cases m n v₂ w.small) _ λ f r z.
      value (record { same = rw (u.same, w.same, z.same); small = z.small; good = (ap suc z.good.0, (u.good, (w.good.0, z.good.1)), omega (arith, w.good.1, z.good.2)) })

  i-chain_by : (i : Inner) → GoodI i → levels_i i ≤ k → (f : Bool) (s : List ℕ) → Bytes s → Gives (λ x r. Is (w_inner i (flag_byte f ∷ s)) (w_combinator x r) r (Good x × (levels x ≤ suc k))) (chain_by c i f s)
  unfolding chain_by w_combinator levels
  i-chain_by i g p false s h = value {a = plain i} (record { same = refl; small = h; good = (g, omega arith) })
  i-chain_by i g p true s h = then (ih s h) _ λ y r w. value (record { same = rw w.same; small = w.small; good = ((g, w.good.0), omega (arith, w.good.1)) })

  module _ (a : Reader Inner) (iha : Reads a w_inner (λ x. GoodI x × (suc (levels_i x) ≤ k))) where
    i_inners : (n : ℕ) → Reads (inners a n) w_inners (λ x. (count_a x ≡ n) × GoodA x × (levels_a x ≤ k))
    unfolding inners w_combinator count_a levels
    i_inners zero s h = value {a = no_inner} (record { same = refl; small = h; good = (refl, tt, omega arith) })
    i_inners (suc n) s h = then (iha s h) _ λ y v w. then (i_inners n v w.small) _ λ f r z.
        value (record { same = rw (w.same, z.same); small = z.small; good = (ap suc z.good.0, (w.good.0, z.good.1), omega (arith, w.good.1, z.good.2)) })

    tag_leaf : (m : Leaf) → tag_byte (is_leaf m) ≡ leaf_tag m
    unfolding leaf_tag
    tag_leaf constraint_int = refl
    tag_leaf constraint_enum = refl
    tag_leaf bits = refl
    tag_leaf enum = refl
    tag_leaf tail = refl
    tag_leaf nothing = refl
    tag_leaf never = refl

    -- the items behind a tag
    i_items : (t : Tag) (s : List ℕ) → Bytes s → Gives (λ x r. Is (tag_byte t ∷ s) (w_inner x r) r (GoodI x × (levels_i x ≤ k))) (items c a t s)
    unfolding items w_combinator w_list w_open w_shut name levels
    i_items (is_leaf m) s h = then (i_text s h) _ λ y r w. value (record { same = rw (tag_leaf m, w.same); small = w.small; good = (w.good, omega arith) })
    i_items is_struct s h = then (i_u16 s h) _ λ n v u. then (i_fields n v u.small) _ λ f r w.
        value (record { same = rw (w.good.0, u.same, w.same); small = w.small; good = (w.good.1, w.good.2) })
    i_items is_wrap s h = then (i_text s h) _ λ x v u. then (ih v u.small) _ λ y v₂ w. then (i_text v₂ w.small) _ λ z r o.
        value (record { same = rw (u.same, w.same, o.same); small = o.small; good = (((u.good, o.good), w.good.0), w.good.1) })
    i_items is_choice s h = then (i_selector s h) _ λ x v u. then (i_case v u.small) _ λ m v₂ u₂. then (i_u16 v₂ u₂.small) _ λ n v₃ u₃. then (i_cases m n v₃ u₃.small) _ λ f r w.
        value (record { same = rw (w.good.0, u.same, u₂.same, u₃.same, w.same); small = w.small; good = ((u.good, w.good.1), w.good.2) })
    i_items is_vec s h = then (ih s h) _ λ y r w. value (record { same = rw w.same; small = w.small; good = ((tt, w.good.0), w.good.1) })
    i_items is_array s h = then (i_len s h) _ λ l v u. then (ih v u.small) _ λ y r w.
        value (record { same = rw (u.same, w.same); small = w.small; good = ((u.good, w.good.0), w.good.1) })
    i_items is_bytes s h = then (i_len s h) _ λ l r w. value (record { same = rw w.same; small = w.small; good = (w.good, omega arith) })
    i_items is_option s h = then (ih s h) _ λ y r w. value (record { same = rw w.same; small = w.small; good = ((tt, w.good.0), w.good.1) })
    i_items is_invocation s h = then (i_name undotted s h) _ λ l v u. then (i_u16 v u.small) _ λ n v₂ u₂. then (i_names dot_allowed n v₂ u₂.small) _ λ ns r w.
        value (record { same = rw (w.good.0, u.same, u₂.same, w.same); small = w.small; good = ((u.good, w.good.1), omega arith) })
    i_items is_macro_invocation s h = then (i_name undotted s h) _ λ l v u. then (i_u16 v u.small) _ λ n v₂ u₂. then (i_inners n v₂ u₂.small) _ λ ns r w.
        value (record { same = rw (w.good.0, u.same, u₂.same, w.same); small = w.small; good = ((u.good, w.good.1), w.good.2) })

    i_level : Reads (level c a) w_inner (λ x. GoodI x × (levels_i x ≤ k))
    unfolding level
    i_level s h = then (i_one_of tag_byte tags tt s h) _ λ t v u. so (i_items t v u.small) λ x r w. record { same = u.same ∙ w.same; small = w.small; good = w.good }

    i_deeper : Reads (λ s. level c a s >>= λ (i, s). chain c i s) w_combinator (λ x. Good x × (levels x ≤ suc k))
    unfolding chain
    i_deeper s h = then (i_level s h) _ λ i v w. then (i_one_of flag_byte flags tt v w.small) _ λ f v₂ u. so (i-chain_by i w.good.0 w.good.1 f v₂ u.small) λ x r z.
        record { same = w.same ∙ ap (w_inner i) u.same ∙ z.same; small = z.small; good = z.good }

i_deep : {A : Type 0} {P : A → List ℕ → Type 0} (s : List ℕ) → Gives P (too_deep s)
unfolding too_deep
i_deep s = then {P = λ t r. Unit {0}} (any (one_of tags s)) _ λ t r w. refusal
  where
    any : {B : Type 0} (m : Res (List ℕ) B) → Gives (λ t r. Unit {0}) m
    any (bad k s) = refusal
    any (ok b s) = value tt

-- with k levels left
record Level (k : ℕ) : Type 0 where
  combs : Reads (combinator k) w_combinator (λ x. Good x × (levels x ≤ k))
  args : Reads (arg k) w_inner (λ x. GoodI x × (suc (levels_i x) ≤ k))

i_levels : (k : ℕ) → Level k
unfolding combinator
i_levels zero = record { combs = λ s h. i_deep s; args = λ s h. i_deep s }
i_levels (suc k) =
    let b = i_levels k in
    record {
      combs = λ s h. i_deeper k (λ s. combinator k s) b.combs (λ s. arg k s) b.args s h;
      args = λ s h. so (i_level k (λ s. combinator k s) b.combs (λ s. arg k s) b.args s h) λ x r w. record { same = w.same; small = w.small; good = (w.good.0, omega (arith, w.good.1)) };
    }

i_params : (n : ℕ) → Reads (params n) (w_all w_param) (λ x. (length x ≡ n) × GoodP x × (levels_p x ≤ 64))
unfolding params w_all w_param name levels_p
i_params zero s h = value {a = []} (record { same = refl; small = h; good = (refl, tt, omega arith) })
i_params (suc n) s h = then (i_name undotted s h) _ λ l v u. then ((i_levels 64).args v u.small) _ λ i v₂ w. then (i_params n v₂ w.small) _ λ ps r z.
    value (record { same = rw (u.same, w.same, z.same); small = z.small; good = (ap suc z.good.0, (u.good, (w.good.0, z.good.1)), omega (arith, w.good.1, z.good.2)) })

-- a body of some kind
pub record Body (k : Kind) (d : Definition) : Type 0 where
  pub kind : kind_of d ≡ k
  pub good : GoodD d
  pub deep : levels_book (d ∷ []) ≤ 64

pub i_definition : (k : Kind) → Reads (definition k) w_definition (Body k)
unfolding definition w_definition w_list kind_of name levels_book
i_definition is_format s h = then (i_name undotted s h) _ λ l v u. then (i_u16 v u.small) _ λ n v₂ u₂. then (i_params n v₂ u₂.small) _ λ ps v₃ w. then ((i_levels 64).combs v₃ w.small) _ λ c r z.
    value (record { same = rw (w.good.0, u.same, u₂.same, w.same, z.same); small = z.small; good = record { kind = refl; good = (u.good, (w.good.1, z.good.0)); deep = omega (arith, w.good.2, z.good.1) } })
i_definition is_constant s h = then (i_name undotted s h) _ λ l v u. then (i_text v u.small) _ λ x r w.
    value (record { same = rw (u.same, w.same); small = w.small; good = record { kind = refl; good = (u.good, w.good); deep = omega arith } })
i_definition is_byte_order s h = then (i_text s h) _ λ x r w. value (record { same = w.same; small = w.small; good = record { kind = refl; good = w.good; deep = omega arith } })
i_definition is_macro s h = then (i_name undotted s h) _ λ l v u. then (i_u16 v u.small) _ λ n v₂ u₂. then (i_names undotted n v₂ u₂.small) _ λ ps v₃ w. then ((i_levels 64).combs v₃ w.small) _ λ c r z.
    value (record { same = rw (w.good.0, u.same, u₂.same, w.same, z.same); small = z.small; good = record { kind = refl; good = (u.good, (w.good.1, z.good.0)); deep = omega (arith, z.good.1) } })
