-- What is done on the way, by places in the expanded book.
use Rattle.std.specs.Prelude.{Bool, true, false, List, ℕ, ◌+◌, ◌-◌, min, eqb, set}
use Rattle.layout.specs.items.At.{byte_at, past_at, pick}
use Rattle.lift_tables.specs.tables.Numbers.{plus}
use Rattle.lift_tables.specs.tables.Rows.{with_param}
use Rattle.lift_combinator.specs.declared.frames.Frame.{Frame}
use Rattle.lift_combinator.specs.declared.frames.Kind.{Kind}
use Rattle.lift_combinator.specs.declared.frames.Kind.TheVariants.{Nothing, Fields, Enums, Ints, Arrays, One}
use Rattle.lift_combinator.specs.declared.done.Closed.{Closed}

-- a Const field that ends at e was passed
unfoldable pub passed : Frame ℕ → ℕ → Frame ℕ
passed f e = record {
  place = f.place;
  last = f.last;
  here = e;
  end = f.end;
  left = f.left - 1;
  kind = f.kind;
  child = f.child + 1;
  len = f.len;
  bound = f.bound;
  done = plus f.done (e - f.here);
  chained = f.chained;
  link = f.link;
  own = f.own;
  call = f.call;
}

-- whether the children are fields
unfoldable pub are_fields : Kind → Bool
are_fields Fields = true
are_fields Nothing = false
are_fields Enums = false
are_fields Ints = false
are_fields Arrays = false
are_fields One = false

-- what is left behind the one child of a Wrap, Vec, Array or Option is no child
unfoldable pub kind_after : Kind → Kind
kind_after One = Nothing
kind_after Nothing = Nothing
kind_after Fields = Fields
kind_after Enums = Enums
kind_after Ints = Ints
kind_after Arrays = Arrays

-- the child at a place is done: "A Dependent field binds its label for the fields after it"
unfoldable pub binding : List ℕ → Frame ℕ → Bool
binding s f = pick f.chained false (pick (are_fields f.kind) (eqb (byte_at s f.here) 2) false)

unfoldable pub bind_by : List ℕ → Frame ℕ → ℕ → ℕ → List ℕ → List ℕ
bind_by s f at inner binders = pick (binding s f) (with_param binders f.bound (min (past_at s f.here 1) 65535) (min at 65535) 0 (min inner 65535)) binders

unfoldable pub bound_after : List ℕ → Frame ℕ → ℕ
bound_after s f = pick (binding s f) (f.bound + 1) f.bound

-- the frame then: its chain was walked, or the child that ends at e
unfoldable pub delivered : Frame ℕ → ℕ → ℕ → ℕ → ℕ → Frame ℕ
delivered f at e whole bound = pick f.chained
    (record {
      place = f.place;
      last = f.last;
      here = f.here;
      end = f.end;
      left = f.left;
      kind = f.kind;
      child = f.child;
      len = f.len;
      bound = f.bound;
      done = f.done;
      chained = false;
      link = whole;
      own = f.own;
      call = f.call;
    })
    (record {
      place = f.place;
      last = f.last;
      here = e;
      end = f.end;
      left = f.left - 1;
      kind = kind_after f.kind;
      child = f.child + 1;
      len = f.len;
      bound = bound;
      done = plus (plus f.done (at - f.here)) whole;
      chained = false;
      link = f.link;
      own = f.own;
      call = f.call;
    })

-- the end of a node: what it takes after lifting and how many lifts are finished, and the numbers of the lifts in the order of their definitions
unfoldable pub closed_of : Frame ℕ → ℕ → Closed
closed_of f n =
    let k = plus f.done (f.end - f.here) in
    pick (eqb f.own 0) (record { whole = plus (plus k 1) f.link; inner = k; finished = n }) (record { whole = f.call; inner = f.call - 1; finished = n + 1 })

unfoldable pub order_of : Frame ℕ → List ℕ → ℕ → List ℕ
order_of f order n = pick (eqb f.own 0) order (set order n (min (f.own - 1) 65535))
