-- Both generators meet what the theorems on bursts and odd flips ask, by computation. Assumes nothing.
use mathlib.Core.Path.{refl}
use Rattle.gf2.specs.Bits.{bits}
use Rattle.gf2.specs.Generators.{generator16, generator32, EndsInOne, EvenOnes}

pub ends16 : EndsInOne (bits 16 generator16)
ends16 = refl

pub even16 : EvenOnes (bits 16 generator16)
even16 = refl

pub ends32 : EndsInOne (bits 32 generator32)
ends32 = refl

pub even32 : EvenOnes (bits 32 generator32)
even32 = refl
