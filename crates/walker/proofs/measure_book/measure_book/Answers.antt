use mathlib.Core.List.{List}
use mathlib.Core.Path.{◌≡◌, refl, sym, ap, ◌∙◌}
use Prim.Native.Nat.{ℕ, ◌+◌, ◌-◌, ◌<◌}
use native.Mathlib.Omega.{arith}
use Rattle.layout.specs.items.At.{past_at, number_at}
use Rattle.walker.specs.measure.Measure.{State, times, many}
use Rattle.walker.proofs.measure.Level.{more, done, all_steps}
use Rattle.walker.specs.measure_book.Measure.{entry_at, entry_step, measured_book}
use Rattle.walker.proofs.measure_book.measure_book.Goals as goal

all-entries : (s t : List ℕ) {left here at : ℕ} {u : List ℕ} → left ≡ number_at s 0 → here ≡ past_at s 0 2 → times (entry_step s) left here t ≡ (at, u) → u ≡ measured_book s t
unfolding measured_book many
all-entries s t a b e = ap (λ (g : State). g.1) (sym (rw (a, b) at e))

-- one entry, and the others
entries-on : (s : List ℕ) (n i at : ℕ) (t : List ℕ) {here : ℕ} {u : List ℕ} → i < n → u ≡ entry_at s at t → here ≡ past_at s at 6 → times (entry_step s) (n - i) at t ≡ times (entry_step s) (n - (i + 1)) here u
unfolding entry_step
entries-on s n i at t h e f = more _ _ _ _ _ h ∙ rw (← e, ← f)

pub loop-preserved : goal.loop-preserved
loop-preserved c = (omega arith, c.loop.invariant.1 ∙ entries-on _ _ _ _ _ c.loop-test.true c.entry.ensures c.past-here-in-loop.ensures)

pub returns : goal.returns
returns c = all-entries _ _ c.number-n.ensures c.past-here.ensures (all_steps _ _ _ _ (c.loop.invariant.1 ∙ done _ _ _ _ _ c.loop-test.false))

pub loop-init : goal.loop-init
loop-init c = (refl, refl)
