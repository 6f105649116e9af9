-- A node on the way, by places in the expanded book: where its combinator ends, where its children begin, and its frame.
use Rattle.std.specs.Prelude.{List, ◌≡◌, ℕ, zero, suc, ◌-◌, ◌≤◌, eqb, length}
use Rattle.definition.specs.Tree.{Combinator}
use Rattle.definition.specs.Write.{w_combinator}
use Rattle.definition.specs.Size.{levels}
use Rattle.layout.specs.items.At.{byte_at, past_at, number_at, selector_past_of, pick}
use Rattle.layout.specs.items.Here.{Here}
use Rattle.walker.specs.ends.Ends.{inner_end_of}
use Rattle.lift_combinator.specs.declared.frames.Frame.{Frame}
use Rattle.lift_combinator.specs.declared.frames.Begin.{Begin}
use Rattle.lift_combinator.specs.declared.frames.Kind.{Kind}
use Rattle.lift_combinator.specs.declared.frames.Kind.TheVariants.{Nothing, Fields, Enums, Ints, Arrays, One}

-- a combinator stands at a place
pub record Stands (s : List ℕ) (p : ℕ) (c : Combinator) : Type 0 where
  pub after : List ℕ
  pub is : Here s p (w_combinator c after)

-- one of at most 64 levels
pub record Standing (s : List ℕ) (at : ℕ) : Type 0 where
  pub what : Combinator
  pub stands : Stands s at what
  pub deep : levels what ≤ 64

-- behind an inner that ends at a place: where its flag says that a chain follows, one stands there
pub record Follows (s : List ℕ) (end : ℕ) : Type 0 where
  pub short : length s ≤ 65535
  pub chain : byte_at s end ≡ 1 → Standing s (past_at s end 1)

-- where the combinator at a place ends; k bounds the chains
unfoldable pub combinator_end_of : ℕ → List ℕ → ℕ → ℕ
combinator_end_of zero s at = at
combinator_end_of (suc k) s at =
    let e = inner_end_of s at in
    let a = past_at s e 1 in
    pick (eqb (byte_at s e) 1) (combinator_end_of k s a) a

-- where a combinator ends whose inner ends at a place
unfoldable pub combinator_past_of : List ℕ → ℕ → ℕ
combinator_past_of s e =
    let a = past_at s e 1 in
    pick (eqb (byte_at s e) 1) (combinator_end_of 63 s a) a

-- the sort of the children by its number
unfoldable pub kind_numbered : ℕ → Kind
kind_numbered n = pick (eqb n 0) Nothing (pick (eqb n 1) Fields (pick (eqb n 2) Enums (pick (eqb n 3) Ints (pick (eqb n 5) One Arrays))))

-- the children of a Choice whose selector stands at a place, and those of the inner at a place
abbrev pub start : ℕ → Kind → ℕ → Begin
start here kind left = record { here = here; kind = kind; left = left }

unfoldable pub cases_begin : List ℕ → ℕ → Begin
cases_begin s at =
    let a = selector_past_of s at in
    let b = past_at s a 1 in
    let left = number_at s b in
    let here = past_at s b 2 in
    pick (eqb (byte_at s a) 1) (start here Enums left) (pick (eqb (byte_at s a) 2) (start here Ints left) (start here Arrays left))

unfoldable pub begin_at : List ℕ → ℕ → Begin
begin_at s at =
    let tag = byte_at s at in
    let a = past_at s at 1 in
    pick (eqb tag 4) (start (past_at s a 2) Fields (number_at s a))
    (pick (eqb tag 5) (start at One 1)
    (pick (eqb tag 7) (cases_begin s a)
    (pick (eqb tag 8) (start at One 1)
    (pick (eqb tag 9) (start at One 1)
    (pick (eqb tag 12) (start at One 1) (start at Nothing 0))))))

-- the frame of the node at a place
unfoldable pub frame_at : List ℕ → ℕ → ℕ → ℕ → ℕ → ℕ → ℕ → Frame ℕ
frame_at s at last len bound own call =
    let b = begin_at s at in
    let e = inner_end_of s at in
    record {
      place = at;
      last = last;
      here = b.here;
      end = e;
      left = b.left;
      kind = b.kind;
      child = 0;
      len = len;
      bound = bound;
      done = b.here - at;
      chained = eqb (byte_at s e) 1;
      link = 0;
      own = own;
      call = call;
    }

-- a frame whose numbers have 16 bits, as it waits, and the frame again
pub record Narrow (f : Frame ℕ) : Type 0 where
  pub place : f.place ≤ 65535
  pub last : f.last ≤ 65535
  pub here : f.here ≤ 65535
  pub end : f.end ≤ 65535
  pub left : f.left ≤ 65535
  pub child : f.child ≤ 65535
  pub len : f.len ≤ 65535
  pub bound : f.bound ≤ 65535
  pub done : f.done ≤ 65535
  pub link : f.link ≤ 65535
  pub own : f.own ≤ 65535
  pub call : f.call ≤ 65535

unfoldable pub narrowed : Frame ℕ → Frame ℕ
narrowed f = record {
  place = f.place;
  last = f.last;
  here = f.here;
  end = f.end;
  left = f.left;
  child = f.child;
  len = f.len;
  bound = f.bound;
  done = f.done;
  link = f.link;
  own = f.own;
  call = f.call;
  kind = f.kind;
  chained = f.chained;
}

unfoldable pub widened : Frame ℕ → Frame ℕ
widened w = record {
  place = w.place;
  last = w.last;
  here = w.here;
  end = w.end;
  left = w.left;
  kind = w.kind;
  child = w.child;
  len = w.len;
  bound = w.bound;
  done = w.done;
  chained = w.chained;
  link = w.link;
  own = w.own;
  call = w.call;
}
