-- Parameters one by one: their binders, and what the table holds.
-- Assumes nothing.
use mathlib.Core.Path.{◌≡◌, refl, sym, ap, ◌∙◌}
use mathlib.Core.Logic.{⊎_elim}
use mathlib.Core.List.{List, [], ◌∷◌, ◌++◌, map, map-append}
use Prim.Native.Nat.{ℕ, zero, suc, ◌+◌, ◌-◌, ◌*◌, ◌/◌, ◌%◌, ◌≤◌, ◌<◌, min}
use native.Mathlib.Omega.{arith}
use native.Mathlib.Nat.{eq-zero-or-pos}
use native.Mathlib.Numerals.{add-one}
use lib.ListN.{length, take, drop, get_or, length-take, drop_of_length-le}
use lib.Seq.{take-suc, drop-cons, take-take, take_all, get_or-take}
use Rattle.std.specs.Prelude.{Some, None}
use Rattle.definition.specs.Res.{Maybe, absent, just}
use Rattle.definition.specs.Tree.{Name}
use Rattle.lifting.specs.Calls.{names_room}
use Rattle.lift_tables.specs.tables.Rows.{names_from, types_from, with_param}
use Rattle.lift_tables.proofs.tables.Params.{Same, names_last, types_last, names_kept, types_kept, param_length, param_before, param_place, param_len, param_at, param_own}
use Rattle.lift_tables.specs.declared.binders.Binder.{Binder}
use Rattle.collect_params.specs.uses.Uses.{name_in, names_in_of}
use Rattle.lift_tables.specs.declared.enter_lift.Sizes.{Sizes}
use Rattle.lift_tables.specs.enter_lift.Bound.{Bound, type_of, bound_of, first_of, joined, binders_of, types_size, Filled, Within, Builds}

-- ---- one name more
joined_none : (x : Maybe Bound) → joined x absent ≡ absent
unfolding joined
joined_none absent = refl
joined_none (just b) = refl

pub binders_missing : (env : List Bound) (ns : List Name) (n : Name) (rest : List Name) → first_of env n ≡ absent → binders_of env (ns ++ (n ∷ rest)) ≡ absent
unfolding binders_of joined
binders_missing env [] n rest e = rw e
binders_missing env (m ∷ ns) n rest e = rw (binders_missing env ns n rest e) (joined_none (first_of env m))

binders_more : (env : List Bound) (ns : List Name) (n : Name) (bs : List Bound) (b : Bound) → binders_of env ns ≡ just bs → first_of env n ≡ just b → binders_of env (ns ++ (n ∷ [])) ≡ just (bs ++ (b ∷ []))
unfolding binders_of joined
binders_more env [] n bs b e f = let q : bs ≡ [] = cc in rw (f, q)
binders_more env (m ∷ ns) n bs b e f = step (first_of env m) (binders_of env ns) bs e (λ cs g. binders_more env ns n cs b g f)
  where
    step : (x : Maybe Bound) (y : Maybe (List Bound)) (bs : List Bound) → joined x y ≡ just bs → ((cs : List Bound) → y ≡ just cs → binders_of env (ns ++ (n ∷ [])) ≡ just (cs ++ (b ∷ [])))
        → joined x (binders_of env (ns ++ (n ∷ []))) ≡ just (bs ++ (b ∷ []))
    step absent y bs e go = let z : ◌≡◌ {A = ℕ} 0 1 = cc in absurd (omega arith)
    step (just a) absent bs e go = let z : ◌≡◌ {A = ℕ} 0 1 = cc in absurd (omega arith)
    step (just a) (just cs) bs e go = let q : bs ≡ a ∷ cs = cc in rw (go cs refl, q)

names_size_more : (ns : List Name) (n : Name) → names_room (ns ++ (n ∷ [])) ≡ names_room ns + 1 + length n
unfolding names_room
names_size_more [] n = omega arith
names_size_more (m ∷ ns) n = omega (arith, names_size_more ns n)

types_size_more : (bs : List Bound) (b : Bound) → types_size (bs ++ (b ∷ [])) ≡ types_size bs + b.size
unfolding types_size
types_size_more [] b = omega arith
types_size_more (a ∷ bs) b = omega (arith, types_size_more bs b)

uses_more : (s uses : List ℕ) (i : ℕ) → i < length uses → names_in_of s (take (i + 1) uses) ≡ names_in_of s (take i uses) ++ (name_in s (get_or uses i 0) ∷ [])
unfolding names_in_of
uses_more s uses i h = rw (add-one i, take-suc uses i 0 h) (map-append (name_in s) (take i uses) (get_or uses i 0 ∷ []))

uses_split : (s uses : List ℕ) (k i : ℕ) → i < k → k ≤ length uses → names_in_of s (take k uses) ≡ names_in_of s (take i uses) ++ (name_in s (get_or uses i 0) ∷ names_in_of s (drop (suc i) (take k uses)))
unfolding names_in_of
uses_split s uses k i h l =
    let e : take k uses ≡ take i uses ++ (get_or uses i 0 ∷ drop (suc i) (take k uses)) =
    sym (splits i (take k uses)) ∙ (rw (take-take i k uses (omega arith), drop-cons (take k uses) i 0 (simp length-take (omega arith)), get_or-take k uses i 0 h)) in
    ap (map (name_in s)) e ∙ map-append (name_in s) (take i uses) (get_or uses i 0 ∷ drop (suc i) (take k uses))
  where
    splits : (i : ℕ) (l : List ℕ) → take i l ++ drop i l ≡ l
    splits zero l = refl
    splits (suc i) [] = refl
    splits (suc i) (x ∷ l) = ap (x ∷◌) (splits i l)

-- a place that is cut to 16 bits shows the same of s
cut_place : (s : List ℕ) (p n : ℕ) → length s ≤ 65535 → take n (drop (min p 65535) s) ≡ take n (drop p s)
cut_place s p n h = ⊎_elim
    (λ (l : p - 65535 ≡ 0). let e : min p 65535 ≡ p = omega arith in rw e)
    (λ (l : 0 < p - 65535).
    let e : min p 65535 ≡ 65535 = omega arith in
    rw (e, drop_of_length-le s {i = 65535} (omega arith), drop_of_length-le s {i = p} (omega arith)))
    (eq-zero-or-pos (p - 65535))

-- ---- the loop
pub filled_none : (s uses : List ℕ) (env : List Bound) (params : List ℕ) (first : ℕ) → Filled s uses 0 env params first params 0 0
unfolding binders_of names_in_of names_room types_size names_from types_from
filled_none s uses env params first = record {
  of = [];
  all = refl;
  names_size = refl;
  types_size_of = refl;
  names_in = λ l h. refl;
  types_in = λ h. refl;
  kept = λ i h. refl;
  long = refl;
}

module _ {s uses : List ℕ} {i : ℕ} {env : List Bound} {params₀ : List ℕ} {first : ℕ} {params : List ℕ} {names types : ℕ} (f : Filled s uses i env params₀ first params names types)
    (inside : i < length uses) where
  pub filled_missing : (k : ℕ) → i < k → k ≤ length uses → first_of env (name_in s (get_or uses i 0)) ≡ absent → binders_of env (names_in_of s (take k uses)) ≡ absent
  filled_missing k h l e = rw (uses_split s uses k i h l) (binders_missing env (names_in_of s (take i uses)) (name_in s (get_or uses i 0)) (names_in_of s (drop (suc i) (take k uses))) e)

  pub filled_more : (d : Binder) {params' : List ℕ} {len : ℕ} → first_of env (name_in s (get_or uses i 0)) ≡ just (bound_of s d)
      → params' ≡ with_param params (first + i) (min (get_or uses i 0 / 256) 65535) (get_or uses i 0 % 256) d.at d.own
      → len ≡ length (name_in s (get_or uses i 0)) → Filled s uses (i + 1) env params₀ first params' (names + 1 + len) (types + d.size)
  unfolding name_in
  filled_more d {params'} {len} e w q =
      let x = get_or uses i 0 in
      let p = min (x / 256) 65535 in
      let same : Same (4 * (first + i)) params' params = rw w (param_before params (first + i) p (x % 256) d.at d.own) in
      let room : 4 * (first + (i + 1)) ≤ length params₀ → 4 * (first + i + 1) ≤ length params = λ h. omega (arith, f.long) in
      record {
        of = f.of ++ (bound_of s d ∷ []);
        all = rw (uses_more s uses i inside) (binders_more env (names_in_of s (take i uses)) (name_in s x) f.of (bound_of s d) f.all e);
        names_size = rw (uses_more s uses i inside, names_size_more (names_in_of s (take i uses)) (name_in s x), ← f.names_size, q);
        types_size_of = rw (types_size_more f.of (bound_of s d), ← f.types_size_of);
        names_in = λ l h. ap (names_from s params' first) (add-one i) ∙ names_last s params' first i ∙ (rw (
          names_kept s params' params first i same,
          f.names_in l (omega arith),
          uses_more s uses i inside,
          w,
          param_len params (first + i) p (x % 256) d.at d.own (room h),
          param_place params (first + i) p (x % 256) d.at d.own (room h),
          cut_place s (x / 256) (x % 256) l,
        ));
        types_in = λ h. ap (types_from params' first) (add-one i) ∙ types_last params' first i ∙ (rw (
          types_kept params' params first i same,
          f.types_in (omega arith),
          map-append type_of f.of (bound_of s d ∷ []),
          w,
          param_at params (first + i) p (x % 256) d.at d.own (room h),
          param_own params (first + i) p (x % 256) d.at d.own (room h),
        ));
        kept = λ k h. same k (omega arith) ∙ f.kept k h;
        long = rw w (param_length params (first + i) p (x % 256) d.at d.own) ∙ f.long;
      }

pub use-short : (s : List ℕ) (x : ℕ) {n : Name} → n ≡ name_in s x → length n ≤ 255
unfolding name_in
use-short s x e = rw e (simp length-take (omega arith))

-- what was built, by the answer
pub built : {s uses : List ℕ} {k : ℕ} {env : List Bound} {params : List ℕ} {first : ℕ} {params' : List ℕ} (z : Sizes) → Builds s uses k env params first params' (Some z) → Filled s uses k env params first params' z.names z.types × Within k z.names z.types
unfolding Builds
built z h = h

pub unbuilt : (s uses : List ℕ) (k : ℕ) (env : List Bound) (params : List ℕ) (first : ℕ) (params' : List ℕ) → Builds s uses k env params first params' None → binders_of env (names_in_of s (take k uses)) ≡ absent
unfolding Builds
unbuilt s uses k env params first params' h = h

pub all_uses : (s uses : List ℕ) → names_in_of s (take (length uses) uses) ≡ names_in_of s uses
all_uses s uses = ap (names_in_of s) (take_all (length uses) uses (omega arith))
