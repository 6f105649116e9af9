-- The answers of the cursor's methods.
use mathlib.Core.Path.{◌≡◌, refl, ◌∙◌}
use mathlib.Core.List.{List}
use mathlib.Core.Bool.{Bool, true, false}
use mathlib.Core.Logic.{◌⊎◌, ⊎_elim}
use Prim.Native.Nat.{ℕ, ◌+◌, ◌-◌, ◌*◌, ◌≤◌, ◌<◌}
use native.Mathlib.Omega.{arith}
use borrow.Author.Tests.{le-leb, lt-leb}
use lib.ListN.{length, get_or, take, drop, length-drop}
use Rattle.std.specs.Prelude.{Result, Ok, Err, IsErrAnd}
use Rattle.what_comes_back.specs.declared.Code.{Code as CodeOf}
use Rattle.what_comes_back.specs.declared.Code.TheVariants.{NotABook, BadName}
use Rattle.definition.specs.Code.{Code, not_a_book, bad_name}
use Rattle.definition.specs.Res.{Res, bad}
use Rattle.definition.specs.Read.{byte, u16, text, name_by, known}
use Rattle.read_book.specs.utf8.Tested.{tested}
use Rattle.read_book.specs.cursor.Item.{among}
use Rattle.read_book.specs.cursor.Ends.{Fails, Step, Walked, Took, Part}
use Rattle.read_book.specs.declared.cursor.Cursor.{Cursor}
use Rattle.read_book.specs.declared.cursor.Fault.{Fault}
use Rattle.read_book.proofs.cursor.Lists.{along, byte_end, byte_at, byte_whole, byte_one, u16_none, u16_one, u16_at, part_at, part_past, u16_whole, u16_two}

abbrev fault : CodeOf → ℕ → Fault
fault k p = record { code = k; at = p }

-- what `?` hands on is the refusal that it met
pub handed : {T : Type 0} {f : Fault} (r : Result T Fault) → IsErrAnd r (λ g. g ≡ f) → r ≡ Err f
handed (Ok x) h = absurd h
handed (Err g) h = rw h

-- a fault where the reading began
module _ {A : Type 0} (s : List ℕ) (p : ℕ) (m : Res (List ℕ) A) where
  here_3 : m ≡ bad not_a_book (drop p s) → Fails s p (fault NotABook p) m
  here_3 e = record { kind = not_a_book; coded = refl; fails = e; along = refl }

  here_4 : m ≡ bad bad_name (drop p s) → Fails s p (fault BadName p) m
  here_4 e = record { kind = bad_name; coded = refl; fails = e; along = refl }

-- one reading fails as another does
pub fails_as : {A B : Type 0} {s : List ℕ} {p : ℕ} {f : Fault} {m : Res (List ℕ) A} (m' : Res (List ℕ) B) → Fails s p f m
    → ((k : Code) → m ≡ bad k (drop f.at s) → m' ≡ bad k (drop f.at s)) → Fails s p f m'
fails_as m' g h = record { kind = g.kind; coded = g.coded; fails = h g.kind g.fails; along = g.along }

module _ (s : List ℕ) (p : ℕ) where
  pub b_end : length s ≤ p → Took s p (Err (fault NotABook p)) (byte (drop p s))
  b_end h = record { told = here_3 s p _ (byte_end s p h) }

  pub b_at : p < length s → Took s p (Ok (get_or s p 0, record { at = p + 1 })) (byte (drop p s))
  b_at h = record { told = record { gives = byte_at s p h; along = along s p 1 (omega arith) } }

  pub n_none : (length s ≤ p) ⊎ ((p < length s) × (length s ≤ p + 1)) → Took s p (Err (fault NotABook p)) (u16 (drop p s))
  n_none o = record { told = here_3 s p _ (⊎_elim (λ (h : length s ≤ p). u16_none s p h) (λ (h : (p < length s) × (length s ≤ p + 1)). u16_one s p h.0 h.1) o) }

  pub n_at : (n : ℕ) → p + 1 < length s → n ≡ get_or s p 0 + 256 * get_or s (p + 1) 0 → Took s p (Ok (n, record { at = p + 2 })) (u16 (drop p s))
  n_at n h e = record { told = record { gives = rw e (u16_at s p h); along = simp length-drop (omega arith) } }

pub ruleset number-laws = (b_end, b_at)

-- a byte from low to high
module _ (s : List ℕ) (p low high : ℕ) where
  pub a_none : {f : Fault} {r : Step} → Took s p (Err f) (byte (drop p s)) → IsErrAnd r (λ g. g ≡ f) → Took s p r (among low high (drop p s))
  unfolding among
  a_none {r = r} t h = rw (handed r h) (record { told = fails_as _ t.told (λ k w. rw w) })

  module _ {n : ℕ} {c : Cursor} (t : Took s p (Ok (n, c)) (byte (drop p s))) where
    pub a_out : (n < low) ⊎ ((low ≤ n) × (high < n)) → Took s p (Err (fault NotABook p)) (among low high (drop p s))
    unfolding among known
    a_out o =
        record {
          told = here_3 s p _
              (⊎_elim (λ (h : n < low). rw (t.told.gives, lt-leb low n h)) (λ (h : (low ≤ n) × (high < n)). rw (t.told.gives, le-leb low n h.0, lt-leb n high h.1)) o);
        }

    pub a_in : low ≤ n → n ≤ high → Took s p (Ok (n, c)) (among low high (drop p s))
    unfolding among known
    a_in l h = record { told = record { gives = rw (t.told.gives, le-leb low n l, le-leb n high h); along = t.told.along } }

-- a text
module _ (s : List ℕ) (p : ℕ) where
  pub t_none : {f : Fault} {r : Walked} → Took s p (Err f) (u16 (drop p s)) → IsErrAnd r (λ g. g ≡ f) → Part s p (p + 2) r (text (drop p s))
  unfolding text
  t_none {r = r} t h = rw (handed r h) (record { told = fails_as _ t.told (λ k w. rw (w, u16_whole (drop p s) _ _ w)) })

  module _ {n : ℕ} {c : Cursor} (t : Took s p (Ok (n, c)) (u16 (drop p s))) where
    pub t_in : c.at ≤ length s
    t_in = (u16_two s p n c.at t.told.gives t.told.along).1

    pub t_short : length s - c.at < n → Part s p (p + 2) (Err (fault NotABook p)) (text (drop p s))
    unfolding text
    t_short h = record { told = here_3 s p _ (rw (t.told.gives, part_past s c.at n h)) }

    pub t_at : c.at + n ≤ length s → Part s p (p + 2) (Ok (record { at = c.at + n })) (text (drop p s))
    unfolding text
    t_at h =
        let w = u16_two s p n c.at t.told.gives t.told.along in
        record { told = record { gives = rw (t.told.gives, part_at s c.at n h, w.0); along = along s c.at n h ∙ t.told.along } }

-- a name
module _ (s : List ℕ) (p : ℕ) (dots : Bool) where
  pub m_none : {f : Fault} {r : Walked} → Took s p (Err f) (byte (drop p s)) → IsErrAnd r (λ g. g ≡ f) → Part s p (p + 1) r (name_by (tested dots) (drop p s))
  unfolding name_by
  m_none {r = r} t h = rw (handed r h) (record { told = fails_as _ t.told (λ k w. rw (w, byte_whole (drop p s) _ _ w)) })

  module _ {n : ℕ} {c : Cursor} (t : Took s p (Ok (n, c)) (byte (drop p s))) where
    pub m_in : (c.at ≡ p + 1) × (c.at ≤ length s)
    m_in = byte_one s p n c.at t.told.gives t.told.along

    module _ (k : ℕ) (e : k ≡ n) where
      pub m_short : length s - c.at < k → Part s p (p + 1) (Err (fault NotABook p)) (name_by (tested dots) (drop p s))
      unfolding name_by
      m_short h = record { told = here_3 s p _ (rw (t.told.gives, ← e, part_past s c.at k h)) }

      module _ (h : c.at + k ≤ length s) where
        pub m_no : tested dots (take (c.at + k - c.at) (drop c.at s)) ≡ false → Part s p (p + 1) (Err (fault BadName p)) (name_by (tested dots) (drop p s))
        unfolding name_by
        m_no w = record { told = here_4 s p _ (rw (t.told.gives, ← e, part_at s c.at k h, w)) }

        pub m_yes : tested dots (take (c.at + k - c.at) (drop c.at s)) ≡ true → Part s p (p + 1) (Ok (record { at = c.at + k })) (name_by (tested dots) (drop p s))
        unfolding name_by
        m_yes w = record { told = record { gives = rw (t.told.gives, ← e, part_at s c.at k h, w, m_in.0); along = along s c.at k h ∙ t.told.along } }
