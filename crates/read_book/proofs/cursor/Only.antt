-- No second answer fits: what the contracts say of a reading leaves one answer.
use mathlib.Core.Path.{◌≡◌, ap, sym, ◌∙◌}
use mathlib.Core.List.{List}
use Prim.Native.Nat.{ℕ}
use native.Mathlib.Omega.{arith}
use lib.ListN.{length, drop}
use Rattle.std.specs.Prelude.{Ok, Err}
use Rattle.what_comes_back.specs.Codes.{code_of}
use Rattle.definition.specs.Code.{Code}
use Rattle.definition.specs.Res.{Res, bad, ok}
use Rattle.read_book.specs.cursor.Ends.{Along, Gives, Fails, Step, Walked, Took, Part, Ends}
use Rattle.read_book.specs.declared.cursor.Cursor.{Cursor}
use Rattle.read_book.specs.declared.cursor.Fault.{Fault}

-- a reading that failed gave no value
pub no_value : {A : Type 0} {k : Code} {r r' : List ℕ} {a : A} → bad k r ≡ ok a r' → ⊥
no_value e = let z : ◌≡◌ {A = ℕ} 0 1 = cc in omega arith

-- a name or a text, as any reading
pub walked : {s : List ℕ} {p from : ℕ} {m : Res (List ℕ) (List ℕ)} {r : Walked} → Part s p from r m → Ends s p r m
walked {r = Ok c} e = record { told = (_, e.told) }
walked {r = Err f} e = record { told = e.told }

same_fault : (f g : Fault) → f.code ≡ g.code → f.at ≡ g.at → f ≡ g
same_fault f g e h = let r : ◌≡◌ {A = Fault} (record { code = f.code; at = f.at }) (record { code = g.code; at = g.at }) = rw (e, h) in r

pub same_at : (c d : Cursor) → c.at ≡ d.at → c ≡ d
same_at c d e = let r : ◌≡◌ {A = Cursor} (record { at = c.at }) (record { at = d.at }) = rw e in r

module _ (s : List ℕ) (p : ℕ) where
  -- a place is told by the bytes from it on
  one_place : (q q' : ℕ) → Along s p q → Along s p q' → drop q s ≡ drop q' s → q ≡ q'
  one_place q q' a b e = omega (arith, ap length e)

  module _ {A : Type 0} {m : Res (List ℕ) A} where
    pub one_value : {a a' : A} {q q' : ℕ} → Gives s p a q m → Gives s p a' q' m → (a ≡ a') × (q ≡ q')
    one_value {a} {a'} {q} {q'} x y =
        let e = sym x.gives ∙ y.gives in
        let v : a ≡ a' = cc in
        let w : drop q s ≡ drop q' s = cc in
        (v, one_place q q' x.along y.along w)

    pub one_fault : (f f' : Fault) → Fails s p f m → Fails s p f' m → f ≡ f'
    one_fault f f' x y =
        let e = sym x.fails ∙ y.fails in
        let k : x.kind ≡ y.kind = cc in
        let w : drop f.at s ≡ drop f'.at s = cc in
        same_fault f f' (sym x.coded ∙ ap code_of k ∙ y.coded) (one_place f.at f'.at x.along y.along w)

    pub not_both : {a : A} {q : ℕ} {f : Fault} → Gives s p a q m → Fails s p f m → ⊥
    not_both x y = no_value (sym y.fails ∙ x.gives)

    pub one_walked : (r r' : Walked) → Ends s p r m → Ends s p r' m → r ≡ r'
    one_walked (Ok c) (Ok d) x y = let e = one_value x.told.1 y.told.1 in ap Ok (same_at c d e.1)
    one_walked (Ok c) (Err f) x y = absurd (not_both x.told.1 y.told)
    one_walked (Err f) (Ok c) x y = absurd (not_both y.told.1 x.told)
    one_walked (Err f) (Err g) x y = ap Err (one_fault f g x.told y.told)

  pub one_part : {from : ℕ} {m : Res (List ℕ) (List ℕ)} (r r' : Walked) → Part s p from r m → Part s p from r' m → r ≡ r'
  one_part r r' x y = one_walked r r' (walked x) (walked y)

  pub one_step : {m : Res (List ℕ) ℕ} (r r' : Step) → Took s p r m → Took s p r' m → r ≡ r'
  one_step (Ok (n, c)) (Ok (k, d)) x y = let e = one_value x.told y.told in rw e.0 (ap (λ (q : Cursor). Ok (k, q)) (same_at c d e.1))
  one_step (Ok (n, c)) (Err f) x y = absurd (not_both x.told y.told)
  one_step (Err f) (Ok (n, c)) x y = absurd (not_both y.told x.told)
  one_step (Err f) (Err g) x y = ap Err (one_fault f g x.told y.told)
