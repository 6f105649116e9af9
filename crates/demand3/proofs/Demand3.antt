-- Every accepted result meets demand 3.
use mathlib.Core.Path.{◌≡◌, refl}
use mathlib.Core.List.{List, [], ◌∷◌, ◌++◌}
use Prim.Native.Nat.{ℕ}
use native.Mathlib.Omega.{arith}
use lib.ListN.{length}
use Rattle.definition.specs.Out.{Out, done}
use Rattle.definition.specs.Tree.{Name, Definition, format, constant, byte_order, macro}
use Rattle.definition.specs.Names.{elem}
use Rattle.definition.specs.Lift.{full, State, names, walk_all, start}
use Rattle.definition.specs.Answer.{Result, expanded, elaborated}
use Rattle.laws.specs.Book.{Bytes}
use Rattle.laws.specs.Lists.{param_names, Distinct, NoMacro}
use Rattle.laws.proofs.Steps.{Gives, Yields, so}
use Rattle.laws.proofs.Results.{expanded_is_book, elaborated_yields}
use Rattle.demand3.specs.Words.{Named, EachBody, EachCall}
use Rattle.demand3.specs.PutBack.{NoneLeft, PutsBack, PutsAllBack, put_back}
use Rattle.demand3.specs.Called.{calls_of, Once, Handed}
use Rattle.demand3.specs.Shortest.{Shortest}
use Rattle.demand3.specs.Demand3.{CallsKnown, ChainsPlain, Apart, AllCalled, AllHanded, AllPutBack, AllShortest, Demand3}
use Rattle.demand3.proofs.Agree.{named_elem, unnamed, fewer_calls, fewer_bodies}
use Rattle.demand3.proofs.Formats.{fewer_formats}
use Rattle.demand3.proofs.Trace.{WalksAll, all_traced}
use Rattle.demand3.proofs.Grew.{Known, Grew, Span, grew_all}
use Rattle.demand3.proofs.Flat.{flat_all}
use Rattle.demand3.proofs.Back.{back_all}
use Rattle.demand3.proofs.Tight.{Tight, AllTight, tight_all}
use Rattle.demand3.proofs.Called.{called_once, called_handed}

distinct_apart : (ds : List Definition) → Distinct (names ds) → Apart ds
unfolding names
distinct_apart [] d = tt
distinct_apart (format n ps c ∷ ds) d = ((λ w. unnamed n ds d.0 w), distinct_apart ds d.1)
distinct_apart (constant n x ∷ ds) d = ((λ w. unnamed n ds d.0 w), distinct_apart ds d.1)
distinct_apart (byte_order x ∷ ds) d = distinct_apart ds d
distinct_apart (macro n ps c ∷ ds) d = distinct_apart ds d

module _ (ds es : List Definition) (t : State) (w : WalksAll ds (start ds) es t) where
  grew : Grew (start ds) t
  grew = grew_all ds (start ds) es t w

  known : Known (start ds)
  unfolding Known start names elem
  known n p = refl

  fresh : (n : Name) → Named n ds → Named n t.made → ⊥
  unfolding start names elem
  fresh n p = unnamed n t.made (grew.fixed n (named_elem n ds p) refl)

  span : Span t.made (start ds) t
  span = record { known = known; holds = λ n c p. p }

  none_left : CallsKnown ds → EachBody (NoneLeft t.made) ds
  none_left p = fewer_bodies (λ c. EachCall c (λ n. Named n ds)) (NoneLeft t.made) (λ c q. fewer_calls (λ n. Named n ds) (λ n. Named n t.made → ⊥) fresh c q) ds p

  restored : CallsKnown ds → PutsAllBack t.made es ds
  unfolding start
  restored p = record { ends = λ k q. back_all t.made (λ n. Named n ds) fresh ds p (start ds) es t w span k (omega (arith, q)); none_left = none_left p }

  tight : CallsKnown ds → AllTight t.made (ChainsPlain ds) t.made
  unfolding start
  tight p = tight_all t.made (ChainsPlain ds) (λ n. Named n ds) fresh ds p (λ q. q) (start ds) es t w span (omega arith) tt

  -- what putting back ends with is the put-back body
  put_back_of : CallsKnown ds → AllPutBack t.made
  put_back_of p = fewer_formats (λ n ps c. Tight t.made (ChainsPlain ds) ps c) (λ n ps c. PutsBack t.made c (put_back t.made c)) t.made (tight p)
      λ n ps c h r. rw (r.back.ends (length t.made) (omega arith)) r.back

  shortest : CallsKnown ds → ChainsPlain ds → AllShortest t.made
  shortest p q = fewer_formats (λ n ps c. Tight t.made (ChainsPlain ds) ps c) (λ n ps c. Shortest (param_names ps) (put_back t.made c)) t.made (tight p)
      λ n ps c h r. rw (r.back.ends (length t.made) (omega arith)) (r.shortest q)

  distinct : Distinct (names t.made)
  unfolding start names
  distinct = grew.distinct known tt

  called : CallsKnown ds → AllCalled es t.made
  unfolding start
  called p = fewer_formats (λ n ps c. Tight t.made (ChainsPlain ds) ps c) (λ n ps c. Once (calls_of n (es ++ t.made))) t.made (tight p)
      λ n ps c h r. called_once ds p (start ds) refl es t w fresh distinct n ps h

  handed : CallsKnown ds → AllHanded es t.made
  unfolding start
  handed p = fewer_formats (λ n ps c. Tight t.made (ChainsPlain ds) ps c) (λ n ps c. Handed (param_names ps) (calls_of n (es ++ t.made))) t.made (tight p)
      λ n ps c h r. called_handed ds p (start ds) refl es t w fresh distinct n ps h

  met : NoMacro ds → Demand3 ds es t.made
  unfolding start names
  met m = record {
    flat = flat_all ds m (start ds) es t w tt;
    apart = distinct_apart t.made distinct;
    fresh = fresh;
    restored = restored;
    called = called;
    handed = handed;
    put_back_of = put_back_of;
    shortest = shortest;
  }

-- the expanded list that a result comes from, and that it meets demand 3 for it
pub record Comes (expansion : Out (List Definition)) (r : Result) : Type 0 where
  pub list : List Definition
  pub expands : expansion ≡ done list
  pub meets : Demand3 list r.kept r.lifted

-- whichever way the list was expanded
pub walk_comes : (m : Out (List Definition)) (ds : List Definition) → m ≡ done ds → NoMacro ds → Gives (λ es t. Comes m (record { kept = es; lifted = t.made })) (walk_all full ds (start ds))
walk_comes m ds x n = so (all_traced ds (start ds)) λ es t w. record { list = ds; expands = x; meets = met ds es t w n }

pub comes : (book : List ℕ) → Bytes book → Yields (Comes (expanded book)) (elaborated book)
comes book b = elaborated_yields (Comes (expanded book)) book λ ds x. walk_comes (expanded book) ds x (expanded_is_book book b ds x).1
