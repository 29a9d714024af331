-- The two generators of 000 Table D.1, and what the theorems on bursts and odd flips ask of one. Assumes nothing.
use Rattle.std.specs.Prelude.{◌≡◌, Bool, true, false, List, ◌∷◌, ℕ, ◌%◌, length, get_or}
use Rattle.gf2.specs.Polynomial.{ones}

-- 000 Table D.1, the short signature's
abbrev pub generator16 : ℕ
generator16 = 0x4EAB

-- 000 Table D.1, the long signature's
abbrev pub generator32 : ℕ
generator32 = 0xF4ACFB13

-- the generator's constant term is 1
abbrev pub EndsInOne : List Bool → Type 0
EndsInOne g = get_or (true ∷ g) (length g) false ≡ true

-- the generator, its leading 1 included, has an even number of ones
abbrev pub EvenOnes : List Bool → Type 0
EvenOnes g = ones (true ∷ g) % 2 ≡ 0
