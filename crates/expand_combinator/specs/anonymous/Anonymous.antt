-- Whether the combinator at a place is anonymous, total on any bytes. That it is the definition's `anonymous` is shown in proofs/Anonymous.antt.
use Rattle.std.specs.Prelude.{List, Bool, true, false, ℕ, zero, suc, eqb}
use Rattle.layout.specs.items.At.{byte_at, past_at, text_past_of, length_past_of, pick}

-- one level: `deep` tells of the combinator inside a Wrap, Vec, Array or Option
unfoldable pub anonymous_by : Bool → (ℕ → Bool) → List ℕ → ℕ → Bool
anonymous_by none deep s at =
    let tag = byte_at s at in
    let a = past_at s at 1 in
    pick none false
    (pick (eqb tag 3) true
    (pick (eqb tag 4) true
    (pick (eqb tag 5) (deep (text_past_of s a))
    (pick (eqb tag 6) true
    (pick (eqb tag 7) true
    (pick (eqb tag 8) (deep a)
    (pick (eqb tag 9) (deep (length_past_of s a))
    (pick (eqb tag 12) (deep a) false))))))))

-- with so many levels left
unfoldable pub anonymous_at : ℕ → List ℕ → ℕ → Bool
anonymous_at zero s at = anonymous_by true (λ a. false) s at
anonymous_at (suc k) s at = anonymous_by false (λ a. anonymous_at k s a) s at
