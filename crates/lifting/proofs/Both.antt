-- Two ways to step that refuse alike or both give a value.
use mathlib.Core.Path.{◌≡◌, refl}
use mathlib.Core.Bool.{Bool, true, false}
use Rattle.definition.specs.Code.{Code}
use Rattle.definition.specs.Res.{Res, bad, ok, ◌>>=◌, require}

-- the same code, or values and states of which P holds
module _ {S A T B : Type 0} where
  pub data Both (P : A → S → B → T → Type 0) : Res S A → Res T B → Type 0 where
    refusals : {k : Code} {s : S} {t : T} → Both P (bad k s) (bad k t)
    values : {a : A} {s : S} {b : B} {t : T} → P a s b t → Both P (ok a s) (ok b t)

module _ {S A T B A' B' : Type 0} {P : A → S → B → T → Type 0} {Q : A' → S → B' → T → Type 0} where
  pub then : {m : Res S A} {n : Res T B} → Both P m n → (f : A × S → Res S A') (g : B × T → Res T B')
      → ((a : A) (s : S) (b : B) (t : T) → P a s b t → Both Q (f (a, s)) (g (b, t))) → Both Q (m >>= f) (n >>= g)
  then refusals f g go = refusals
  then (values p) f g go = go _ _ _ _ p

module _ {S A T B A' : Type 0} {P : A → S → B → T → Type 0} {Q : A' → S → B → T → Type 0} where
  -- only the first goes on
  pub first_then : {m : Res S A} {n : Res T B} → Both P m n → (f : A × S → Res S A')
      → ((a : A) (s : S) (b : B) (t : T) → P a s b t → Both Q (f (a, s)) (ok b t)) → Both Q (m >>= f) n
  first_then refusals f go = refusals
  first_then (values p) f go = go _ _ _ _ p

module _ {S A T B : Type 0} {Q : A → S → B → T → Type 0} where
  pub ask : (b : Bool) (k : Code) (s : S) (t : T) (f : Unit × S → Res S A) (g : Unit × T → Res T B)
      → (b ≡ true → Both Q (f (tt, s)) (g (tt, t))) → Both Q (require b k s >>= f) (require b k t >>= g)
  ask true k s t f g go = go refl
  ask false k s t f g go = refusals

  pub ask_alike : (b c : Bool) → b ≡ c → (k : Code) (s : S) (t : T) (f : Unit × S → Res S A) (g : Unit × T → Res T B)
      → Both Q (f (tt, s)) (g (tt, t)) → Both Q (require b k s >>= f) (require c k t >>= g)
  ask_alike b c e k s t f g go = rw (← e) (ask b k s t f g λ h. go)

-- steps that leave the states as they are
module _ {S A T B : Type 0} where
  pub record Still (R : A → B → Type 0) (s : S) (t : T) (a : A) (u : S) (b : B) (v : T) : Type 0 where
    pub left : u ≡ s
    pub right : v ≡ t
    pub holds : R a b

module _ {S A T B A' B' : Type 0} {R : A → B → Type 0} {Q : A' → S → B' → T → Type 0} {s : S} {t : T} where
  pub still : {m : Res S A} {n : Res T B} → Both (Still R s t) m n → (f : A × S → Res S A') (g : B × T → Res T B')
      → ((a : A) (b : B) → R a b → Both Q (f (a, s)) (g (b, t))) → Both Q (m >>= f) (n >>= g)
  still refusals f g go = refusals
  still (values {a = a} {b = b} h) f g go = rw (h.left, h.right) (go a b h.holds)

-- a second step that refuses and gives as the first does
module _ {S A T B C : Type 0} {P : A → S → B → T → Type 0} where
  pub alike : {m : Res S A} {n l : Res T B} → Both P m n → n ≡ l → (f g : B × T → Res T C) → ((a : A) (s : S) (b : B) (t : T) → P a s b t → f (b, t) ≡ g (b, t)) → n >>= f ≡ l >>= g
  alike refusals e f g go = rw (← e)
  alike (values p) e f g go = rw (← e) (go _ _ _ _ p)
