-- The parts of a combinator, by the cases of the code.
use mathlib.Core.Path.{◌≡◌, refl}
use mathlib.Core.List.{List}
use Prim.Native.Nat.{ℕ, zero, suc, ◌-◌, ◌≤◌, ◌<◌}
use native.Mathlib.Numerals.{sub-one}
use native.Mathlib.Omega.{arith}
use lib.ListN.{drop, get_or}
use Rattle.std.specs.Prelude.{Ok, Err, IsErrAnd}
use Rattle.what_comes_back.specs.declared.Code.TheVariants.{TooDeep}
use Rattle.definition.specs.Code.{too_deep_of}
use Rattle.definition.specs.Res.{absent, Res, bad, ok, ◌>>=◌}
use Rattle.definition.specs.Tree.{Combinator, CaseKind}
use Rattle.definition.specs.Read.{Reader, one_of, tags, field_kinds, is_const, combinator, arg, level, too_deep, items, chain, chain_by, text, name, name_by, dot_allowed, selector, selector_by, fields, field_by, label, cases}
use Rattle.read_book.specs.cursor.Item.{among}
use Rattle.read_book.specs.cursor.Ends.{Walked, Took, Ends}
use Rattle.read_book.specs.declared.cursor.Cursor.{Cursor}
use Rattle.read_book.specs.declared.cursor.Fault.{Fault}
use Rattle.read_book.specs.name_list.Rows.{Leads}
use Rattle.read_book.specs.combinator.Tags.{or_else, tag_of, items_at}
use Rattle.read_book.proofs.cursor.Laws.{handed}
use Rattle.read_book.proofs.name_list.Bind.{then, stops, fails, made, made_in}
use Rattle.read_book.proofs.name_list.Rows.{last}
use Rattle.read_book.proofs.combinator.Table.{entry, tabled, unread, untabled, of_flags, of_tags, of_fields, flag_off, field_holds, leaf_tag}

-- an inner where no level is left, and where one is
deep_never : {A B : Type 0} (m : Res (List ℕ) A) (l : List ℕ) (b : B) (r : List ℕ) → (m >>= λ y. bad too_deep_of l) ≡ ok b r → ⊥
deep_never (bad k z) l b r e = let q : ◌≡◌ {A = ℕ} 0 1 = cc in omega arith
deep_never (ok a z) l b r e = let q : ◌≡◌ {A = ℕ} 0 1 = cc in omega arith

deep_again : {A B C : Type 0} (m : Res (List ℕ) A) (l : List ℕ) (g : B × List ℕ → Res (List ℕ) C) → (m >>= λ y. bad too_deep_of l) ≡ ((m >>= λ y. bad too_deep_of l) >>= g)
deep_again (bad k z) l g = refl
deep_again (ok a z) l g = refl

arg_level : (k : ℕ) (l : List ℕ) → (k ≡ 0 → ⊥) → arg k l ≡ (one_of tags l >>= λ y. items_at (k - 1) y.0 y.1)
unfolding arg level
arg_level zero l f = absurd (f refl)
arg_level (suc k) l f = rw sub-one

comb_level : (k : ℕ) (l : List ℕ) → combinator k l ≡ (arg k l >>= λ y. chain (λ s. combinator (k - 1) s) y.0 y.1)
unfolding combinator arg too_deep
comb_level zero l = deep_again (one_of tags l) l _
comb_level (suc k) l = rw sub-one

no_tag_by : {s : List ℕ} {p : ℕ} {f : Fault} {r : Walked} (k : ℕ) → Took s p (Err f) (among 1 16 (drop p s)) → IsErrAnd r (λ g. g ≡ f) → Ends s p r (arg k (drop p s))
unfolding arg level too_deep
no_tag_by zero t h = untabled of_tags _ t h
no_tag_by (suc k) t h = untabled of_tags _ t h

module _ {s : List ℕ} {p : ℕ} where
  pub some_level : {c : Cursor} (k : ℕ) → Ends s p (Ok c) (arg k (drop p s)) → 0 < k
  unfolding arg too_deep
  some_level {c = c} zero e = let d = e.told in absurd (deep_never (one_of tags (drop p s)) (drop p s) d.0 (drop c.at s) d.1.gives)
  some_level (suc k) e = omega arith

  module _ (k : ℕ) where
    pub no_tag : {f : Fault} {r : Walked} → Took s p (Err f) (among 1 16 (drop p s)) → IsErrAnd r (λ g. g ≡ f) → Ends s p r (arg k (drop p s))
    no_tag t h = no_tag_by k t h

    module _ {b : ℕ} {c : Cursor} (t : Took s p (Ok (b, c)) (among 1 16 (drop p s))) where
      pub deep : k ≡ 0 → Ends s p (Err (record { code = TooDeep; at = p })) (arg k (drop p s))
      unfolding arg too_deep
      deep z =
          let o = entry of_tags t in
          rw (z, o.0.gives) (record { told = record { kind = too_deep_of; coded = refl; fails = refl; along = refl } })

      pub tag : {r : Walked} → (k ≡ 0 → ⊥) → Ends s c.at r (items_at (k - 1) (tag_of b) (drop c.at s)) → Ends s p r (arg k (drop p s))
      unfolding tag_of
      tag f n = rw (arg_level k (drop p s) f) (tabled of_tags _ t (λ l h. n))

    -- a combinator: its inner is refused, or its flag, or there is no chain, or there is one
    pub inner_refused : {f : Fault} {r : Walked} → Ends s p (Err f) (arg k (drop p s)) → IsErrAnd r (λ g. g ≡ f) → Ends s p r (combinator k (drop p s))
    inner_refused i h = rw (comb_level k (drop p s)) (fails _ i h)

    module _ {c : Cursor} (i : Ends s p (Ok c) (arg k (drop p s))) where
      pub no_flag : {f : Fault} {r : Walked} → Took s c.at (Err f) (among 0 1 (drop c.at s)) → IsErrAnd r (λ g. g ≡ f) → Ends s p r (combinator k (drop p s))
      unfolding chain
      no_flag t h = rw (comb_level k (drop p s)) (then _ i (λ a. untabled of_flags _ t h))

      module _ {b : ℕ} {d : Cursor} (t : Took s c.at (Ok (b, d)) (among 0 1 (drop c.at s))) where
        pub unchained : (b ≡ 1 → ⊥) → Ends s p (Ok d) (combinator k (drop p s))
        unfolding chain chain_by
        unchained z = rw (comb_level k (drop p s)) (then _ i (λ a. tabled of_flags _ t (λ l h. rw (flag_off _ z h) (record { told = (_, record { gives = refl; along = refl }) }))))

        pub chains : {r : Walked} → b ≡ 1 → Ends s d.at r (combinator (k - 1) (drop d.at s)) → Ends s p r (combinator k (drop p s))
        unfolding chain chain_by
        chains z n = rw (comb_level k (drop p s)) (then _ i (λ a. tabled of_flags _ t (λ l h. rw z (made _ n))))

  -- a selector
  pub no_selector : {f : Fault} {r : Walked} → Took s p (Err f) (among 0 1 (drop p s)) → IsErrAnd r (λ g. g ≡ f) → Ends s p r (selector (drop p s))
  unfolding selector
  no_selector t h = untabled of_flags _ t h

  module _ {b : ℕ} {d : Cursor} (t : Took s p (Ok (b, d)) (among 0 1 (drop p s))) where
    pub unselected : (b ≡ 1 → ⊥) → Ends s p (Ok d) (selector (drop p s))
    unfolding selector selector_by
    unselected z = tabled of_flags _ t (λ l h. rw (flag_off _ z h) (record { told = (_, record { gives = refl; along = refl }) }))

    pub selected : {r : Walked} → b ≡ 1 → Ends s d.at r (name_by dot_allowed (drop d.at s)) → Ends s p r (selector (drop p s))
    unfolding selector selector_by
    selected z n = tabled of_flags _ t (λ l h. rw z (made _ n))

  -- the items of a tag that has a text alone
  pub leaf : {r : Walked} (k b : ℕ) → (b ≡ 4 → ⊥) → (b ≡ 5 → ⊥) → (b ≡ 7 → ⊥) → (b ≡ 8 → ⊥) → (b ≡ 9 → ⊥) → (b ≡ 10 → ⊥) → (b ≡ 12 → ⊥) → (b ≡ 15 → ⊥) → (b ≡ 16 → ⊥)
      → Ends s p r (text (drop p s)) → Ends s p r (items_at k (tag_of b) (drop p s))
  unfolding items
  leaf k b f₄ f₅ f₇ f₈ f₉ f₁₀ f₁₂ f₁₅ f₁₆ e = let t = leaf_tag b f₄ f₅ f₇ f₈ f₉ f₁₀ f₁₂ f₁₅ f₁₆ in rw t.1 (made _ e)

  -- a field behind its label
  module _ {r : Walked} (c : Reader Combinator) (n b : ℕ) (x : List ℕ) where
    pub const_field : b ≡ 3 → Ends s p r (text (drop p s) >>= λ y. fields c n y.1) → Ends s p r (field_by c (λ s. fields c n s) (or_else (get_or field_kinds b absent) is_const) x (drop p s))
    unfolding field_by
    const_field e w = rw e (made_in (text (drop p s)) (λ y. fields c n y.1) _ w)

    pub some_field : 1 ≤ b → b ≤ 3 → (b ≡ 3 → ⊥) → Ends s p r (c (drop p s) >>= λ y. fields c n y.1) → Ends s p r (field_by c (λ s. fields c n s) (or_else (get_or field_kinds b absent) is_const) x (drop p s))
    unfolding field_by
    some_field l h f w = let k = field_holds b l h f in rw k.1 (made_in (c (drop p s)) (λ y. fields c n y.1) _ w)

-- one field: its kind, its label, and a text or a combinator
module _ (c : Reader Combinator) {s : List ℕ} {p : ℕ} where
  pub no_kind : {f : Fault} {r : Walked} → Took s p (Err f) (among 1 3 (drop p s)) → IsErrAnd r (λ g. g ≡ f) → Leads s p r (fields c)
  unfolding fields
  no_kind {r = r} t h = rw (handed r h) (record { told = λ n. unread of_fields _ t })

  module _ {b : ℕ} {d : Cursor} (t : Took s p (Ok (b, d)) (among 1 3 (drop p s))) where
    pub no_label : {f : Fault} {r : Walked} → Ends s d.at (Err f) (name (drop d.at s)) → IsErrAnd r (λ g. g ≡ f) → Leads s p r (fields c)
    unfolding fields
    no_label {r = r} i h = rw (handed r h) (record { told = λ n. tabled of_fields _ t (λ l u. stops _ i.told) })

    module _ {v : Cursor} (i : Ends s d.at (Ok v) (name (drop d.at s))) where
      pub a_const : {r : Walked} → b ≡ 3 → Ends s v.at r (text (drop v.at s)) → Leads s p r (fields c)
      unfolding fields
      a_const z k = last (fields c) k (λ n r j. tabled of_fields _ t (λ l h. then _ i (λ a. const_field c n b a z j)))

      pub a_field : {r : Walked} → (b ≡ 3 → ⊥) → Ends s v.at r (c (drop v.at s)) → Leads s p r (fields c)
      unfolding fields
      a_field z k = last (fields c) k (λ n r j. tabled of_fields _ t (λ l h. then _ i (λ a. some_field c n b a l h z j)))

-- one case: its label and a combinator
module _ (c : Reader Combinator) (k : CaseKind) {s : List ℕ} {p : ℕ} where
  pub no_case_label : {f : Fault} {r : Walked} → Ends s p (Err f) (label k (drop p s)) → IsErrAnd r (λ g. g ≡ f) → Leads s p r (cases c k)
  unfolding cases
  no_case_label {r = r} i h = rw (handed r h) (record { told = λ n. stops _ i.told })

  pub a_case : {d : Cursor} {r : Walked} → Ends s p (Ok d) (label k (drop p s)) → Ends s d.at r (c (drop d.at s)) → Leads s p r (cases c k)
  unfolding cases
  a_case {d} i e = last (cases c k) e (λ n r j. then _ i (λ a. made_in (c (drop d.at s)) (λ y. cases c k n y.1) _ j))
