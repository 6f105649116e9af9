-- What a writer is after a write, as a write of its buffer.
-- Assumes nothing.
use Rattle.std.proofs.Common.{◌≡◌, ℕ, List, ap}
use Rattle.buffer.specs.writes.Buf.{Wrote}
use Rattle.buffer.specs.writer.Written.{written}
use Rattle.buffer.specs.declared.writer.Writer.{Writer}

pub wrote_of : {w w' : Writer} {p : List ℕ} → w' ≡ written w p → Wrote w.buf.now w.at p w'.buf.now w'.at
wrote_of e = record { place = ap (λ (v : Writer). v.at) e; holds = ap (λ (v : Writer). v.buf.now) e }
