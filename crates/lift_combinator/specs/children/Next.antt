-- What a frame does next, by places.
use Rattle.std.specs.Prelude.{List, ℕ, eqb}
use Rattle.layout.specs.items.At.{byte_at, past_at, name_past_of, text_past_of, length_past_of, pick}
use Rattle.lift_combinator.specs.declared.frames.Frame.{Frame}
use Rattle.lift_combinator.specs.declared.frames.Kind.{Kind}
use Rattle.lift_combinator.specs.declared.frames.Kind.TheVariants.{Nothing, Fields, Enums, Ints, Arrays, One}
use Rattle.lift_combinator.specs.declared.children.Next.{Next}
use Rattle.lift_combinator.specs.declared.children.Next.TheVariants.{Done, Pass, Chain, Label, Case, Anon, Item}

unfoldable pub next_field_of : List ℕ → ℕ → Next
next_field_of s here =
    let a = past_at s here 1 in
    let b = name_past_of s a in
    pick (eqb (byte_at s here) 3) (Pass (text_past_of s b)) (Label b a)

unfoldable pub next_one_of : List ℕ → ℕ → Next
next_one_of s here =
    let tag = byte_at s here in
    let a = past_at s here 1 in
    pick (eqb tag 5) (Anon (text_past_of s a)) (pick (eqb tag 9) (Item (length_past_of s a)) (Item a))

-- the next of the children that are left, of each sort
unfoldable pub next_by : Kind → List ℕ → ℕ → Next
next_by Nothing s here = Done
next_by Fields s here = next_field_of s here
next_by Enums s here = Label (name_past_of s here) here
next_by Ints s here = Case (text_past_of s here)
next_by Arrays s here = Case (text_past_of s here)
next_by One s here = next_one_of s here

unfoldable pub next_of : List ℕ → Frame ℕ → Next
next_of s f = pick f.chained (Chain (past_at s f.end 1)) (pick (eqb f.left 0) Done (next_by f.kind s f.here))
