-- Parts of an image and of an SPDU stand within it. Assumes nothing.
use mathlib.Core.Path.{◌≡◌, sym}
use mathlib.Core.Bool.{true}
use mathlib.Core.List.{List}
use Prim.Native.Nat.{ℕ, ◌+◌, ◌-◌, ◌≤◌}
use native.Mathlib.Omega.{arith}
use borrow.Author.Tests.{eqb-true}
use lib.ListN.{length, take, drop, length-drop}
use lib.Seq.{length-take-le, take_all}
use Rattle.block.specs.declared.Params.{Params}
use Rattle.spdu.specs.Places.{process_octets}
use Rattle.spdu.specs.Image.{splitter_holds}

module _ (p : Params) (image : List ℕ) (holds : splitter_holds p (length image) ≡ true) where
  pub spdu_within : p.SPDUInLength ≤ length image
  spdu_within = omega (arith, eqb-true (length image) (p.SPDUInLength + p.InputDataLength) holds)

  pub spdu-length : p.SPDUInLength ≡ length (take p.SPDUInLength image)
  spdu-length = sym (length-take-le p.SPDUInLength image spdu_within)

-- all that is left behind the first n
pub rest_whole : (n : ℕ) (l : List ℕ) → take (length l - n) (drop n l) ≡ drop n l
rest_whole n l = take_all (length l - n) (drop n l) (omega (arith, length-drop n l))

pub process-length : (mode : ℕ) (s : List ℕ) → process_octets mode (length s) ≡ length (take (process_octets mode (length s)) s)
process-length mode s = sym (length-take-le (process_octets mode (length s)) s (omega arith))
