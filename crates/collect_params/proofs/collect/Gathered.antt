-- What a step of the walk leaves behind: its place, the uses written, and the table of labels as it was. Steps one after the other are one.
-- Assumes nothing.
use mathlib.Core.Path.{◌≡◌, refl, sym, ap, ◌∙◌}
use mathlib.Core.List.{List, [], ◌++◌}
use mathlib.Core.Bool.{Bool, false, ◌||◌, or_assoc, or-false}
use Prim.Native.Nat.{ℕ, suc, ◌+◌, ◌*◌, ◌≤◌, ◌<◌}
use native.Mathlib.Omega.{arith}
use lib.ListN.{length}
use Rattle.definition.specs.Tree.{Name}
use Rattle.definition.specs.Names.{remove}
use Rattle.laws.proofs.Splits.{Splits}
use Rattle.laws.proofs.Sizes.{adds}
use Rattle.buffer.specs.writes.Buf.{Wrote}
use Rattle.buffer.proofs.writes.Put.{put_past}
use Rattle.buffer.proofs.writes.Wrote.{glue, place_within, wrote_none}
use Rattle.layout.specs.items.Here.{Here}
use Rattle.layout.specs.lookup.Name.{name_at}
use Rattle.collect_params.specs.labels.Labels.{labels_in}
use Rattle.collect_params.proofs.labels.Found.{Same, Finds, same_self, same_then, same_fewer, labels_same, finds_same, labelled, labelled_long, labels_bind, bind_back}
use Rattle.collect_params.specs.uses.Uses.{names_in_of}
use Rattle.collect_params.specs.scope.Steps.{walk, moved}
use Rattle.collect_params.specs.collect.Walk.{State}
use Rattle.collect_params.proofs.uses.Without.{without, without-append, without_bind, names_append}

-- from a count of uses n, a count of labels b and a flag f the step came to g: it stands at z, the names in ns that are not bound are recorded,
-- and the flag is set if l is
pub record Gathered (s z : List ℕ) (ns : List Name) (l : Bool) (n b : ℕ) (f : Bool) (bound uses : List ℕ) (g : State) : Type 0 where
  pub here : Here s g.0.at z
  pub left : g.0.leftover ≡ f || l
  pub used : List ℕ
  pub wrote : Wrote uses n used g.2 g.0.n
  pub named : names_in_of s used ≡ without (labels_in s bound b) ns
  pub same : g.0.b ≡ b
  pub kept : Same g.1 bound b
  pub long : length g.1 ≡ length bound

-- a step can be made: what stands at its place, room for a label for every four bytes of s, of which those in force have taken theirs, and these are found
pub record Ready (s : List ℕ) (p : ℕ) (l : List ℕ) (n b : ℕ) (bound uses : List ℕ) : Type 0 where
  pub here : Here s p l
  pub few : 4 * b + length l ≤ length s
  pub room : length s + 64 ≤ length bound
  pub finds : Finds s bound b
  pub fits : n ≤ suc (length uses)

-- behind what was written
pub ready_past : (w : List ℕ → List ℕ) → Splits w → {s : List ℕ} {p q n b : ℕ} {bound uses : List ℕ} (z : List ℕ) → Ready s p (w z) n b bound uses → Here s q z → Ready s q z n b bound uses
ready_past w split z r h = record { here = h; few = omega (arith, adds w split z, r.few); room = r.room; finds = r.finds; fits = r.fits }

module _ {s z : List ℕ} {ns : List Name} {l : Bool} {n b : ℕ} {f : Bool} {bound uses : List ℕ} {g : State} (p : Gathered s z ns l n b f bound uses g) where
  pub ready_on : (w : List ℕ → List ℕ) → Splits w → {q : ℕ} → Ready s q (w z) n b bound uses → Ready s g.0.at z g.0.n g.0.b g.1 g.2
  ready_on w split r = record {
    here = p.here;
    few = omega (arith, adds w split z, r.few, p.same);
    room = omega (arith, r.room, p.long);
    finds = rw p.same (finds_same s p.kept r.finds);
    fits = place_within p.wrote;
  }

  -- at another place
  pub moves : {y : List ℕ} {q : ℕ} → Here s q y → Gathered s y ns l n b f bound uses (moved g.0 q, g.1, g.2)
  moves h = record { here = h; left = p.left; used = p.used; wrote = p.wrote; named = p.named; same = p.same; kept = p.kept; long = p.long }

  pub then : {y : List ℕ} {ms : List Name} {k : Bool} {h : State} → Gathered s y ms k g.0.n g.0.b g.0.leftover g.1 g.2 h → Gathered s y (ns ++ ms) (l || k) n b f bound uses h
  then {ms = ms} {k = k} {h = h} q =
      let labels : labels_in s g.1 g.0.b ≡ labels_in s bound b = rw p.same (labels_same s p.kept) in
      record {
        here = q.here;
        left = q.left ∙ ap (λ (e : Bool). e || k) p.left ∙ or_assoc f l k;
        used = p.used ++ q.used;
        wrote = glue p.wrote q.wrote;
        named =
            names_append s p.used q.used
            ∙ ap (λ (x : List Name). x ++ names_in_of s q.used) p.named
            ∙ ap (λ (x : List Name). without (labels_in s bound b) ns ++ x) (q.named ∙ ap (λ (x : List Name). without x ms) labels)
            ∙ sym (without-append (labels_in s bound b) ns ms);
        same = q.same ∙ p.same;
        kept = same_then (rw p.same at q.kept) p.kept;
        long = q.long ∙ p.long;
      }

pub wrote_nothing : {s : List ℕ} {p : ℕ} {y : List ℕ} {n b : ℕ} {bound uses : List ℕ} → Ready s p y n b bound uses → Wrote uses n [] uses n
wrote_nothing r = wrote_none _ _ r.fits

-- nothing was used
pub nothing_used : {s : List ℕ} {p : ℕ} {y : List ℕ} {n b : ℕ} {bound uses : List ℕ} (f : Bool) {q : ℕ} {z : List ℕ} → Ready s p y n b bound uses → Here s q z → Gathered s z [] false n b f bound uses (walk q n b f, bound, uses)
unfolding names_in_of without
nothing_used f r h = record {
  here = h;
  left = sym (or-false f);
  used = [];
  wrote = wrote_nothing r;
  named = refl;
  same = refl;
  kept = same_self;
  long = refl;
}

-- a walk from a count past the table's end leaves no use
pub hushed : {s : List ℕ} {p : ℕ} {y : List ℕ} {n b : ℕ} {bound uses : List ℕ} {z : List ℕ} {ns : List Name} {l f k e : Bool} {g : State} (met : Bool) → Ready s p y n b bound uses → Gathered s z ns l (length uses + 1) b f bound uses g
    → k ≡ e || met → Gathered s z [] met n b e bound uses (walk g.0.at n b k, g.1, g.2)
unfolding names_in_of without
hushed {uses = uses} met r p k = record {
  here = p.here;
  left = k;
  used = [];
  wrote = rw (p.wrote.holds ∙ put_past uses (length uses + 1) p.used (omega arith)) (wrote_nothing r);
  named = refl;
  same = refl;
  kept = p.kept;
  long = p.long;
}

-- the labels from number b on are taken back
abbrev pub unbound_at : ℕ → State → State
unbound_at b g = (walk g.0.at g.0.n b g.0.leftover, g.1, g.2)

-- the steps over the fields of a struct, as they are behind it
pub record Closed (s z : List ℕ) (ns : List Name) (l : Bool) (n b : ℕ) (f : Bool) (bound uses : List ℕ) (g : State) : Type 0 where
  pub more : b ≤ g.0.b
  pub gathered : Gathered s z ns l n b f bound uses (unbound_at b g)

module _ {s z : List ℕ} {ns : List Name} {l : Bool} {n b : ℕ} {f : Bool} {bound uses : List ℕ} {g : State} (p : Gathered s z ns l n b f bound uses g) where
  -- no field, and a field whose label is not bound
  pub closed_none : Closed s z ns l n b f bound uses g
  closed_none = record {
    more = omega (arith, p.same);
    gathered = rw p.same at (moves p p.here);
  }

  pub closed_then : {y : List ℕ} {ms : List Name} {k : Bool} {h : State} → Closed s y ms k g.0.n g.0.b g.0.leftover g.1 g.2 h → Closed s y (ns ++ ms) (l || k) n b f bound uses h
  closed_then {h = h} q = record {
    more = omega (arith, p.same, q.more);
    gathered = rw p.same at (then p q.gathered);
  }

-- a label bound for the fields that follow
module _ {s z : List ℕ} {ns : List Name} {l : Bool} {n b : ℕ} {f : Bool} {uses : List ℕ} {g : State} (at : ℕ) (t : List ℕ) (near : at < 4294967296) (few : 68 + 4 * b < 4294967296) (room : 68 + 4 * b ≤ length t) where
  pub binds : (name : Name) → name_at s at ≡ name → Closed s z ns l n (suc b) f (labelled s at t b) uses g → Closed s z (remove name ns) l n b f t uses g
  binds name e p =
      let q = p.gathered in
      record {
        more = omega (arith, p.more);
        gathered = record {
          here = q.here;
          left = q.left;
          used = q.used;
          wrote = q.wrote;
          named =
              q.named
              ∙ ap (λ (y : List Name). without y ns) (labels_bind s at t b near few room)
              ∙ without_bind (name_at s at) (labels_in s t b) ns
              ∙ ap (λ (y : Name). without (labels_in s t b) (remove y ns)) e;
          same = refl;
          kept = same_then (same_fewer q.kept) (bind_back s at t b near few room);
          long = q.long ∙ labelled_long s at t b near few room;
        };
      }
