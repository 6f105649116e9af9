-- What a writer is once bytes are written.
use Rattle.std.specs.Prelude.{List, ℕ}
use denote.Ref.{at_last}
use Rattle.buffer.specs.writes.Buf.{put, after}
use Rattle.buffer.specs.declared.writer.Writer.{Writer}

-- the same borrow, its list with the bytes p at the writer's place, and the next place. `at_last x l` is the reference x, its pointer and its
-- ghost name with it, at the list l
abbrev pub written : Writer → List ℕ → Writer
written w p = record { buf = at_last w.buf (put w.buf.now w.at p); at = after w.buf.now w.at p }
