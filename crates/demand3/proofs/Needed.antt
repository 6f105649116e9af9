-- What the small books show.
use mathlib.Core.Path.{◌≡◌, refl, ap}
use mathlib.Core.Logic.{inl, inr}
use mathlib.Core.List.Memᴰ
use mathlib.Core.List.{[], ◌∷◌}
use Prim.Native.Nat.{ℕ, zero, suc, ◌≤◌}
use native.Mathlib.Omega.{arith}
use Rattle.definition.specs.Utf8.{utf8}
use Rattle.definition.specs.Tree.{Combinator, plain}
use Rattle.definition.specs.Names.{eq_name}
use Rattle.definition.specs.Notation.{Vec, Call, one, fmt}
use Rattle.demand3.specs.Words.{EachBody}
use Rattle.demand3.specs.PutBack.{whole_of, put_at, put, put_all, times, rounds_all, NoneLeft}
use Rattle.demand3.specs.Needed.{seen, expected, table, Computed, endless, mistaken, unmoved, loose, WithoutCalls, Unmoving, WithoutChains}
use Rattle.demand3.proofs.Rounds.{times_still, all_back_ended}

pub computed : Computed
unfolding utf8 seen expected table
computed = refl

-- j structs around the call
abbrev nest : ℕ → Combinator
nest zero = plain (Call "_item" [])
nest (suc j) = one "x" (nest j)

nest_left : (j : ℕ) → NoneLeft endless.lifted (nest j) → ⊥
nest_left zero h = h (inl refl)
nest_left (suc j) h = nest_left j h.0

nest-put : (j : ℕ) → put (nest j) endless.lifted ≡ nest (suc j)
unfolding utf8 eq_name whole_of put_at put
nest-put zero = refl
nest-put (suc j) = ap (one "x") (nest-put j)

never : (k j : ℕ) → EachBody (NoneLeft endless.lifted) (rounds_all k (fmt "" [] (plain (Vec (nest j))) ∷ []) endless.lifted) → ⊥
unfolding times put_all put put_at
never zero j h = nest_left j h.0
never (suc k) j h = never k (suc j) (rw (nest-put j) at h)

pub without_calls : WithoutCalls
unfolding utf8 eq_name whole_of put_at put put_all times
without_calls = record {
  plain_endless = ((tt, tt), tt);
  never_ends = λ k h. never k 0 h;
  plain_mistaken = ((tt, (tt, tt)), tt);
  ends_elsewhere = all_back_ended mistaken.lifted mistaken.kept mistaken.after refl ((tt, (tt, tt)), tt);
  another = λ e. let z : ◌≡◌ {A = ℕ} 0 1 = cc in absurd (omega arith);
}

stays : (k : ℕ) → 1 ≤ k → rounds_all k unmoved.kept unmoved.lifted ≡ unmoved.after
unfolding utf8 eq_name whole_of put_at put put_all times
stays zero h = absurd (omega arith)
stays (suc k) h = times_still (λ es. put_all es unmoved.lifted) k unmoved.after refl

pub unmoving : Unmoving
unfolding utf8 eq_name whole_of put_at put put_all times
unmoving = record { stays = stays; left = λ h. h.0.1.0.0 (inl refl) }

pub without_chains : WithoutChains
unfolding utf8 eq_name whole_of put_at put put_all times
without_chains = record {
  known_loose = ((tt, ((tt, (tt, tt)), tt)), tt);
  ends_there = all_back_ended loose.lifted loose.kept loose.list refl ((tt, ((tt, (tt, tt)), tt)), tt);
  not_shortest = λ t. Memᴰ.not-nil (t.1.0.enough (utf8 "n") (inr (inl (Memᴰ.head refl))));
}
