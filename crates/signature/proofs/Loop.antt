-- A loop over octets, by any method that goes octet by octet. Assumes nothing.
use mathlib.Core.Path.{◌≡◌, refl}
use mathlib.Core.List.{List, [], ◌∷◌}
use Prim.Native.Nat.{ℕ, ◌+◌, ◌<◌, ◌≤◌}
use native.Mathlib.Numerals.{add-one}
use native.Mathlib.Omega.{arith}
use lib.ListN.{length, get_or, drop, drop_of_length-le}
use lib.Seq.{drop-cons}
use Rattle.signature.specs.Signature.{octet, signature}
use Rattle.signature.specs.Lookup.{octet_by_table, by_table}

-- The register after all octets goes by the register after one.
pub record ByOctets (one : ℕ → ℕ → ℕ) (all : ℕ → List ℕ → ℕ) : Type 0 where
  pub none : (r : ℕ) → all r [] ≡ r
  pub some : (r x : ℕ) (xs : List ℕ) → all r (x ∷ xs) ≡ all (one r x) xs

pub bits_by_octets : (w g : ℕ) → ByOctets (octet w g) (signature w g)
unfolding signature
bits_by_octets w g = record { none = λ r. refl; some = λ r x xs. refl }

pub table_by_octets : (w n : ℕ) (table : List ℕ) → ByOctets (octet_by_table w n table) (by_table w n table)
unfolding by_table
table_by_octets w n table = record { none = λ r. refl; some = λ r x xs. refl }

-- At the register r before the octet i of s: what is left from r leads where all leads from the seed.
pub record Left (all : ℕ → List ℕ → ℕ) (seed : ℕ) (s : List ℕ) (r i : ℕ) : Type 0 where
  pub within : i ≤ length s
  pub rest : all r (drop i s) ≡ all seed s

pub start : {all : ℕ → List ℕ → ℕ} {seed : ℕ} {s : List ℕ} → Left all seed s seed 0
start = record { within = omega arith; rest = refl }

module _ {one : ℕ → ℕ → ℕ} {all : ℕ → List ℕ → ℕ} (by : ByOctets one all) {seed : ℕ} {s : List ℕ} where
  pub again : {r i r' : ℕ} → Left all seed s r i → i < length s → r' ≡ one r (get_or s i 0) → Left all seed s r' (i + 1)
  again {r} {i} inv h e = record { within = omega arith; rest = rw (e, add-one) (rw (drop-cons s i 0, by.some) at inv.rest) }

  pub done : {r i : ℕ} → Left all seed s r i → length s ≤ i → r ≡ all seed s
  done {r} {i} inv h = rw (drop_of_length-le s h, by.none) at inv.rest
