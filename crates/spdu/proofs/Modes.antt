-- What the two protocol modes have in common, so that the laws on SPDUs are said once, over the width and the generator. Assumes nothing.
use mathlib.Core.Path.{◌≡◌, refl}
use mathlib.Core.Bool.{Bool, true, false, cond}
use mathlib.Core.List.{List, [], ◌∷◌, ◌++◌}
use Prim.Native.Nat.{ℕ, zero, suc, ◌+◌, ◌*◌, ◌^◌, ◌<◌}
use native.Mathlib.Nat.{add_assoc}
use native.Mathlib.Omega.{arith}
use lib.Dec.{eqb}
use lib.ListN.{length}
use lib.Pow.{recompose, mod-pow-add}
use lib.Seq.{get_or-append_seam, get_or-append-add}
use Rattle.gf2.specs.Bits.{bits}
use Rattle.gf2.specs.Generators.{generator16, generator32, EndsInOne, EvenOnes}
use Rattle.gf2.proofs.Generators.{ends16, even16, ends32, even32}
use Rattle.ranges.specs.Fields.{safety_octets}
use Rattle.block.specs.Octets.{Octets}
use Rattle.spdu.specs.Signature.{width_of, generator_of}
use Rattle.spdu.specs.Places.{carried_at}
use Rattle.spdu.specs.Built.{signature_octets}
use Rattle.spdu.proofs.Numbers.{number}

-- a width, a generator, H, how a signature is written as octets, and how it is read from a list at a place
pub record Signing (w g h : ℕ) (octets : ℕ → List ℕ) (carried : List ℕ → ℕ → ℕ) : Type 0 where
  pub size : (x : ℕ) → length (octets x) * 8 ≡ w
  pub safety : h * 8 ≡ w + 16
  pub bytes : (x : ℕ) → Octets (octets x)
  pub written : {x : ℕ} → x < 2 ^ w → number (octets x) ≡ x
  pub reads : (s t : List ℕ) → length t * 8 ≡ w → carried (s ++ t) (length s) ≡ number t
  pub fits : g < 2 ^ w
  pub seed : 1 < 2 ^ w
  pub ends : EndsInOne (bits w g)
  pub even : EvenOnes (bits w g)

reads_short : (s t : List ℕ) → length t * 8 ≡ 16 → carried_at 1 (s ++ t) (length s) ≡ number t
reads_short s [] l = absurd (omega arith)
reads_short s (a ∷ []) l = absurd (omega arith)
reads_short s (a ∷ b ∷ []) l = simp (get_or-append_seam, get_or-append-add) (omega arith)
reads_short s (a ∷ b ∷ c ∷ t) l = absurd (omega arith)

reads_long : (s t : List ℕ) → length t * 8 ≡ 32 → carried_at 2 (s ++ t) (length s) ≡ number t
reads_long s [] l = absurd (omega arith)
reads_long s (a ∷ []) l = absurd (omega arith)
reads_long s (a ∷ b ∷ []) l = absurd (omega arith)
reads_long s (a ∷ b ∷ c ∷ []) l = absurd (omega arith)
reads_long s (a ∷ b ∷ c ∷ d ∷ []) l = simp (add_assoc, get_or-append_seam, get_or-append-add) (omega arith)
reads_long s (a ∷ b ∷ c ∷ d ∷ e ∷ t) l = absurd (omega arith)

short_bytes : (x : ℕ) → Octets (signature_octets 1 x)
short_bytes x zero = omega arith
short_bytes x (suc zero) = omega arith
short_bytes x (suc (suc k)) = omega arith

long_bytes : (x : ℕ) → Octets (signature_octets 2 x)
long_bytes x zero = omega arith
long_bytes x (suc zero) = omega arith
long_bytes x (suc (suc zero)) = omega arith
long_bytes x (suc (suc (suc zero))) = omega arith
long_bytes x (suc (suc (suc (suc k)))) = omega arith

short : Signing 16 generator16 4 (signature_octets 1) (carried_at 1)
short = record {
  size = λ x. refl;
  safety = refl;
  bytes = short_bytes;
  written = λ h. omega arith;
  reads = reads_short;
  fits = omega arith;
  seed = omega arith;
  ends = ends16;
  even = even16;
}

long : Signing 32 generator32 6 (signature_octets 2) (carried_at 2)
long = record {
  size = λ x. refl;
  safety = refl;
  bytes = long_bytes;
  written = λ {x} h. omega (arith, recompose 8 24 h, mod-pow-add x 8 16, mod-pow-add x 8 8);
  reads = reads_long;
  fits = omega arith;
  seed = omega arith;
  ends = ends32;
  even = even32;
}

-- any mode is one of the two (000 Table A.3)
pub signing : (mode : ℕ) → Signing (width_of mode) (generator_of mode) (safety_octets mode) (signature_octets mode) (carried_at mode)
signing mode = go (eqb mode 1)
  where
    go : (b : Bool) → Signing (cond b 16 32) (cond b generator16 generator32) (cond b 4 6)
        (λ x. cond b (signature_octets 1 x) (signature_octets 2 x)) (λ s at. cond b (carried_at 1 s at) (carried_at 2 s at))
    go true = short
    go false = long
