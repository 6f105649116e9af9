-- Parameters, one after the other.
-- Assumes nothing.
use mathlib.Core.Path.{◌≡◌}
use mathlib.Core.List.{List, [], ◌∷◌}
use mathlib.Core.Bool.{true}
use Prim.Native.Nat.{ℕ, ◌+◌, ◌-◌, ◌≤◌, ◌<◌}
use native.Mathlib.Omega.{arith}
use lib.ListN.{length}
use Rattle.definition.specs.Tree.{Param}
use Rattle.definition.specs.Write.{w_param, w_all, w_list, w_inner}
use Rattle.definition.specs.Size.{levels_p}
use Rattle.layout.specs.items.At.{past_at, number_at, name_past_of}
use Rattle.layout.specs.items.Here.{Here}
use Rattle.layout.proofs.items.Here.{number_here, number_past, name_here}
use Rattle.walker.specs.declared.walk.Walk.{Walk}
use Rattle.walker.specs.walk.Steps.{walk}
use Rattle.walker.specs.calls.Walk.{skip_at}
use Rattle.walker.proofs.calls.Link.{skipped}
use Rattle.walker.specs.definitions.Params.{ParamPast, ParamsLeft, ParamsPast}

pub param_past : {book : List ℕ} (marks : List ℕ) {at p : ℕ} → p ≡ name_past_of book at → (w : Walk) → w ≡ (skip_at 64 book (walk p 0 64 true) marks).0 → ParamPast book at w.at
unfolding w_param
param_past {book} marks {at} {p} e w hw = record {
  says = λ l q z h d.
      let g : Here book p (w_inner q.type z) = rw e (name_here q.name h) in
      rw hw (skipped book (omega arith) q.type 64 d (walk p 0 64 true) marks z g).rest;
}

-- of n parameters i are passed
module _ {book : List ℕ} {at : ℕ} (n i : ℕ) where
  pub params_none : n ≤ i → ParamsLeft book at (n - i) at
  unfolding w_all
  params_none k = record { says = λ l ps z h e d. none ps z h e }
    where
      none : (ps : List Param) (z : List ℕ) → Here book at (w_all w_param ps z) → n - i ≡ length ps → Here book at z
      none [] z h e = h
      none (p ∷ ps) z h e = absurd (omega arith)

  pub params_step : i < n → {at₁ : ℕ} → ParamPast book at at₁ → {r : ℕ} → ParamsLeft book at₁ (n - (i + 1)) r → ParamsLeft book at (n - i) r
  unfolding w_all levels_p
  params_step k {at₁} v {r} next = record { says = λ l ps z h e d. step l ps z h e d }
    where
      step : length book ≤ 16384 → (ps : List Param) (z : List ℕ) → Here book at (w_all w_param ps z) → n - i ≡ length ps → levels_p ps ≤ 64 → Here book r z
      step l [] z h e d = absurd (omega arith)
      step l (p ∷ ps) z h e d = next.says l ps z (v.says l p (w_all w_param ps z) h (omega arith)) (omega arith) (omega arith)

pub params_past : {book : List ℕ} {at n here r : ℕ} → n ≡ number_at book at → here ≡ past_at book at 2 → ParamsLeft book here (n - 0) r → ParamsPast book at r
unfolding w_list
params_past {book} {at} el eh v = record {
  says = λ l ps z h d. v.says l ps z (rw eh (number_past (length ps) h)) (omega (arith, number_here (length ps) (w_all w_param ps z) h)) d;
}
