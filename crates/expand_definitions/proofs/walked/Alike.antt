-- The two states of the walk with numbers and of the trace, and what one step of both does.
use mathlib.Core.Path.{◌≡◌, refl, sym, ◌∙◌}
use mathlib.Core.Bool.{Bool, true, false, cond}
use mathlib.Core.List.{List, [], ◌∷◌, ◌++◌, map, map-append}
use Prim.Native.Nat.{ℕ, suc, ◌+◌, ◌<◌}
use native.Mathlib.Omega.{arith}
use lib.Dec.{eqb, ltb}
use lib.ListN.{length, get_or, length-append, length-map, get_or-append}
use lib.Seq.{get_or-append_seam}
use borrow.Author.Tests.{ltb-true, ltb-false, eq-eqb, ne_eqb}
use Rattle.definition.specs.Res.{Maybe, absent, just, Res}
use Rattle.lifting.specs.Records.{Record, or_else, find}
use Rattle.lifting.specs.After.{Lift, Stands}
use Rattle.lifting.specs.Trace.{Trace}
use Rattle.lifting.proofs.Both.{Both, refusals, values}
use Rattle.lifting.proofs.Found.{Later, later_self, later_on, stands_left, stands_right}
use Rattle.lifting.proofs.Agree.{New}
use Rattle.lift_tables.specs.tables.Rows.{Row, row_of, later, last_from}
use Rattle.lift_tables.proofs.tables.Last.{last_snoc}
use Rattle.lift_tables.specs.enter_lift.Sheet.{Sheet}
use Rattle.expand_definitions.specs.walked.Hands.{Hands}

-- one more than the number of the last record at a place
abbrev pub last_at : List Record → ℕ → ℕ
last_at rs x = last_from (map row_of rs) 0 x

pub last_here : (rs : List Record) (r : Record) (x : ℕ) → r.at ≡ x → last_at (rs ++ (r ∷ [])) x ≡ suc (length rs)
last_here rs r x e = rw (map-append row_of rs (r ∷ []), last_snoc (map row_of rs) (row_of r) 0 x, eq-eqb r.at x e, length-map rs row_of) (omega arith)

pub last_other : (rs : List Record) (r : Record) (x : ℕ) → (r.at ≡ x → ⊥) → last_at (rs ++ (r ∷ [])) x ≡ last_at rs x
last_other rs r x n = rw (map-append row_of rs (r ∷ []), last_snoc (map row_of rs) (row_of r) 0 x, ne_eqb r.at x n)

-- where no record is found none has a number
pub last_absent : (rs : List Record) (i x : ℕ) → find rs x ≡ absent → last_from (map row_of rs) i x ≡ 0
unfolding find last_from or_else later
last_absent [] i x e = refl
last_absent (r ∷ rs) i x e = of (find rs x) (λ h. last_absent rs (i + 1) x h) (eqb r.at x) e
  where
    of : (m : Maybe Record) → (m ≡ absent → last_from (map row_of rs) (i + 1) x ≡ 0) → (b : Bool) → or_else m (cond b (just r) absent) ≡ absent → later (last_from (map row_of rs) (i + 1) x) (cond b (i + 1) 0) ≡ 0
    of absent h false e = rw (h refl)
    of absent h true e = let z : ◌≡◌ {A = ℕ} 0 1 = cc in absurd (omega arith)
    of (just q) h b e = let z : ◌≡◌ {A = ℕ} 0 1 = cc in absurd (omega arith)

-- a finished lift keeps its number when a record comes at a new place
pub last_kept : (rs : List Record) (r : Record) (x k : ℕ) → find rs r.at ≡ absent → suc k ≡ last_at rs x → suc k ≡ last_at (rs ++ (r ∷ [])) x
last_kept rs r x k n e = e ∙ sym (last_other rs r x (λ h. let z : last_at rs x ≡ 0 = rw (← h) (last_absent rs 0 r.at n) in omega arith))

-- the two states tell the same
pub record Alike (s : Sheet) (t : Trace) : Type 0 where
  pub taken : s.taken ≡ t.taken
  pub hands : Hands s t

-- at a place all is as it was
pub record Kept (a b : List Record) (x : ℕ) : Type 0 where
  pub found : find b x ≡ find a x
  pub last : last_at b x ≡ last_at a x

-- from t to v these lifts were made, and u is alike; d is what o says by the records
pub record Did {A : Type 0} (o : List Record → A) (ls : List Lift) (t : Trace) (d : A) (u : Sheet) (v : Trace) : Type 0 where
  pub same : Alike u v
  pub later : Later t.records v.records
  pub only : (x : ℕ) → (Stands x ls → ⊥) → Kept t.records v.records x
  pub says : (rs : List Record) → Later v.records rs → d ≡ o rs

abbrev pub Makes : {A : Type 0} → (List Record → A) → List Lift → Trace → A → Sheet → Unit {0} → Trace → Type 0
Makes o ls t d u x v = Did o ls t d u v

pub nothing_made : {A : Type 0} (o : List Record → A) (a : A) {s : Sheet} {t : Trace} → Alike s t → ((rs : List Record) → a ≡ o rs) → Did o [] t a s t
nothing_made o a {s} {t} m e = record { same = m; later = later_self t.records; only = λ x n. record { found = refl; last = refl }; says = λ rs l. e rs }

-- a part of something larger
pub one : {A B : Type 0} {o : List Record → A} (o' : List Record → B) {ls : List Lift} {t v : Trace} {u : Sheet} {d : A} (e : B) → Did o ls t d u v → ((rs : List Record) → d ≡ o rs → e ≡ o' rs) → Did o' ls t e u v
one o' e g h = record { same = g.same; later = g.later; only = g.only; says = λ rs l. h rs (g.says rs l) }

-- one after the other
pub two : {A B C : Type 0} {o : List Record → A} {o' : List Record → B} (o'' : List Record → C) {a b : List Lift} {t v x : Trace} {u w : Sheet} {d : A} {e : B} (r : C)
    → Did o a t d u v → Did o' b v e w x → ((rs : List Record) → d ≡ o rs → e ≡ o' rs → r ≡ o'' rs) → Did o'' (a ++ b) t r w x
two o'' {a} {b} {t} {v} {x} r g h law = record {
  same = h.same;
  later = later_on g.later h.later;
  only = λ y n. on y (h.only y (λ z. n (stands_right y a b z))) (g.only y (λ z. n (stands_left y a b z)));
  says = λ rs l. law rs (g.says rs (later_on h.later l)) (h.says rs l);
}
  where
    on : (y : ℕ) → Kept v.records x.records y → Kept t.records v.records y → Kept t.records x.records y
    on y k l = record { found = k.found ∙ l.found; last = k.last ∙ l.last }

-- what one made does not stand where the next makes its own
pub new_right : {A : Type 0} {o : List Record → A} {a b : List Lift} {u : Sheet} {t v : Trace} {d : A} → New (a ++ b) t.records → Did o a t d u v
    → ((x : ℕ) → Stands x a → Stands x b → ⊥) → New b v.records
new_right {a = a} {b = b} n g far = record { new = λ x h. (g.only x (λ k. far x k h)).found ∙ n.new x (stands_right x a b h) }

-- one more lift is finished
pub one_more : (is ps : List ℕ) (i p : ℕ) → length is ≡ length ps → (rows : List Row) → suc i ≡ last_from rows 0 p
    → ((j : ℕ) → j < length ps → suc (get_or is j 0) ≡ last_from rows 0 (get_or ps j 0)) → (j : ℕ) → j < length (ps ++ (p ∷ [])) → suc (get_or (is ++ (i ∷ [])) j 0) ≡ last_from rows 0 (get_or (ps ++ (p ∷ [])) j 0)
one_more is ps i p e rows last before j h = of (ltb j (length ps)) refl
  where
    long : length (ps ++ (p ∷ [])) ≡ length ps + 1
    long = length-append ps (p ∷ [])

    of : (b : Bool) → ltb j (length ps) ≡ b → suc (get_or (is ++ (i ∷ [])) j 0) ≡ last_from rows 0 (get_or (ps ++ (p ∷ [])) j 0)
    of true t = let k = ltb-true j (length ps) t in rw (get_or-append is (i ∷ []) 0 j (omega arith), get_or-append ps (p ∷ []) 0 j k) (before j k)
    of false t =
        let k = ltb-false j (length ps) t in
        let a : j ≡ length ps = omega (arith, long) in
        let b : j ≡ length is = omega (arith, long) in
        let q : get_or (is ++ (i ∷ [])) j 0 ≡ i = rw b (get_or-append_seam is i [] 0) in
        let r : get_or (ps ++ (p ∷ [])) j 0 ≡ p = rw a (get_or-append_seam ps p [] 0) in
        rw (q, r) last

module _ {S A T B : Type 0} {P Q : A → S → B → T → Type 0} where
  pub rather : {m : Res S A} {n : Res T B} → Both P m n → ((a : A) (s : S) (b : B) (t : T) → P a s b t → Q a s b t) → Both Q m n
  rather refusals go = refusals
  rather (values p) go = values (go _ _ _ _ p)
