-- Division by a generator in a shift register that is a list of bits, the highest first: the loop of 000 Figures D.3 and D.5, whose register is a
-- number in the crate `signature`. Assumes nothing.
use Rattle.std.specs.Prelude.{◌≡◌, Bool, false, List, [], ◌∷◌, ◌++◌, length}
use Rattle.gf2.specs.Polynomial.{◌⊻◌, ◌⊕◌, scale}

abbrev pub top : List Bool → Bool
top [] = false
top (t ∷ r) = t

-- the register shifted by one place: its top bit falls out, and a zero comes in
abbrev pub shift : List Bool → List Bool
shift [] = []
shift (t ∷ r) = r ++ (false ∷ [])

-- one bit of a message goes in: the register shifts, and the generator is added where the bit that falls out differs from the message's
abbrev pub step : List Bool → List Bool → Bool → List Bool
step g r d = shift r ⊕ scale (top r ⊻ d) g

-- the register r after the message ds
abbrev pub register : List Bool → List Bool → List Bool → List Bool
register g r [] = r
register g r (d ∷ ds) = register g (step g r d) ds

-- 01, demand 3: a message ds, and flips of the same lengths, es of the message's bits and ec of those of the register that is sent behind it
pub record SameLengths (g seed ds es ec : List Bool) : Type 0 where
  pub in_seed : length seed ≡ length g
  pub in_message : length es ≡ length ds
  pub in_register : length ec ≡ length g

-- what arrives passes: the register after the flipped message is the flipped register
abbrev pub Undetected : List Bool → List Bool → List Bool → List Bool → List Bool → Type 0
Undetected g seed ds es ec = register g seed (ds ⊕ es) ≡ register g seed ds ⊕ ec
