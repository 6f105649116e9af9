-- The premise test's answer.
-- Assumes nothing.
use mathlib.Core.Path.{◌≡◌, refl, sym, ap}
use mathlib.Core.List.{List}
use mathlib.Core.Bool.{Bool, true, false, ◌&&◌}
use Prim.Native.Nat.{ℕ}
use lib.Dec.{leb}
use lib.ListN.{take}
use Rattle.definition.specs.Code.{work_short}
use Rattle.definition.specs.Out.{done, ◌>>=◌, given}
use Rattle.definition.specs.Answer.{expanded, fault_at}
use Rattle.definition.specs.Premise.{calls_known, chains_plain, tested}
use Rattle.premise.specs.holds.Holds.{Holds as Passes}
use Rattle.std.specs.Prelude.{Ok, Err}
use Rattle.what_comes_back.specs.declared.Refusal.{Refusal}
use Rattle.open_book.specs.begin.Begins.{opened}
use Rattle.open_book.specs.opened.Opens.{Opens}
use Rattle.what_comes_back.specs.Tells.{tested_as}

-- the test, of the expanded list
tested_is : (b : List ℕ) (n : ℕ) → tested b n ≡ (opened b n >>= λ ds. done (calls_known ds && chains_plain ds))
unfolding tested opened
tested_is b n = both (leb 65536 n)
  where
    both : (t : Bool) → (given t work_short b >>= λ c. expanded c >>= λ ds. done (calls_known ds && chains_plain ds)) ≡ ((given t work_short b >>= λ c. expanded c) >>= λ ds. done (calls_known ds && chains_plain ds))
    both true = refl
    both false = refl

module _ {b : List ℕ} {n m : ℕ} {book : List ℕ} (long : m ≡ 16384) where
  pub tells_code : {f : Refusal} → Opens b n m book (Err f) → Err f ≡ tested_as (fault_at b n) (tested b n)
  unfolding tested_as
  tells_code o = rw (tested_is b n, (o.by long).is, sym (o.by long).coded, sym o.placed)

  pub tells : {len : ℕ} → Opens b n m book (Ok len) → {r : Bool} → Passes (take len book) r → Ok r ≡ tested_as (fault_at b n) (tested b n)
  unfolding tested_as
  tells o h = rw (tested_is b n, (o.by long).is) (ap Ok (h.says (o.by long).left (o.by long).holds (o.by long).is_book))
