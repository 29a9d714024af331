-- Demand 3 by computed SPDUs: each premise is needed (R5a), 16 (32) neighbouring bits are the most, and the premises can be met.
-- Assumes nothing.
use mathlib.Core.Path.{◌≡◌, refl, ap}
use mathlib.Core.Bool.{Bool, true, false}
use mathlib.Core.List.{List, [], ◌∷◌}
use Prim.Native.Nat.{ℕ, ◌+◌, ◌<◌}
use native.Mathlib.Omega.{arith}
use lib.ListN.{length, get_or, take, drop}
use lib.Pow.{are_bytes}
use Rattle.gf2.specs.Polynomial.{ones, Burst}
use Rattle.gf2.specs.Bits.{octet_bits}
use Rattle.gf2.proofs.Product.{burst_by_ones}
use Rattle.signature.specs.Signature.{signature, octet, shift_in_all, shift_in}
use Rattle.block.proofs.Arises.{octets_of_lem}
use Rattle.spdu.specs.Signature.{by_bits}
use Rattle.spdu.specs.Places.{contents_of, is_signed}
use Rattle.spdu.specs.Built.{contents_with}
use Rattle.spdu.specs.Flips.{valid_spdu, flipped_spdu, Flips, Premises}

-- k flips es within n neighbouring bits; the contents compute `before`, and after the flips `later`; whether the check passes
pub record Case (mode : ℕ) (process : List ℕ) (port control : ℕ) (es : List ℕ) (n k before later : ℕ) (passes : Bool) : Type 0 where
  pub flips : Flips mode process port control es
  pub first : ℕ
  pub within : Burst first n (octet_bits es)
  pub count : ones (octet_bits es) ≡ k
  pub computed : by_bits mode (contents_with process port control) ≡ before
  pub computed_later : by_bits mode (contents_of mode (flipped_spdu mode process port control es)) ≡ later
  pub checked : is_signed by_bits mode (flipped_spdu mode process port control es) ≡ passes

abbrev numbers : ℕ → List ℕ → ℕ → ℕ → List ℕ → ℕ → ℕ → List ℕ
numbers mode process port control es first n =
    length es
    ∷ ones (take first (octet_bits es))
    ∷ ones (drop (first + n) (octet_bits es))
    ∷ ones (octet_bits es)
    ∷ by_bits mode (contents_with process port control)
    ∷ by_bits mode (contents_of mode (flipped_spdu mode process port control es))
    ∷ []

-- a case is computed: that the flips are octets, its numbers, and whether it passes
case : {mode : ℕ} {process : List ℕ} {port control : ℕ} {es : List ℕ} {n k before later : ℕ} {passes : Bool} (first : ℕ) → are_bytes es ≡ true
    → numbers mode process port control es first n ≡ (length (valid_spdu mode process port control) ∷ 0 ∷ 0 ∷ k ∷ before ∷ later ∷ [])
    → is_signed by_bits mode (flipped_spdu mode process port control es) ≡ passes → Case mode process port control es n k before later passes
case {mode} {process} {port} {control} {es} {n} {k} {before} {later} first bytes e h = record {
  flips = record { same_length = at 0; octets = octets_of_lem es bytes };
  first = first;
  within = burst_by_ones first n (octet_bits es) (at 1) (at 2);
  count = at 3;
  computed = at 4;
  computed_later = at 5;
  checked = h;
}
  where
    at : (i : ℕ)
        → get_or (numbers mode process port control es first n) i 0
        ≡ get_or (length (valid_spdu mode process port control) ∷ 0 ∷ 0 ∷ k ∷ before ∷ later ∷ []) i 0
    at i = ap (λ (s : List ℕ). get_or s i 0) e

-- process octets with which port 3 and control octet 80 compute 0, and others
abbrev zero_short : List ℕ
zero_short = 0x00 ∷ 0x03 ∷ 0x3A ∷ []

abbrev zero_long : List ℕ
zero_long = 0xC0 ∷ 0x02 ∷ 0x5E ∷ 0x8D ∷ []

abbrev pub other_short : List ℕ
other_short = 0x01 ∷ 0x02 ∷ 0x03 ∷ []

abbrev pub other_long : List ℕ
other_long = 0x01 ∷ 0x02 ∷ 0x03 ∷ 0x04 ∷ []

-- flips: the generator, its leading 1 the last bit of the control octet; and the generator without its last 1
abbrev pub generator_short : List ℕ
generator_short = 0 ∷ 0 ∷ 0 ∷ 0 ∷ 0x01 ∷ 0x4E ∷ 0xAB ∷ []

abbrev pub generator_long : List ℕ
generator_long = 0 ∷ 0 ∷ 0 ∷ 0 ∷ 0 ∷ 0x01 ∷ 0xF4 ∷ 0xAC ∷ 0xFB ∷ 0x13 ∷ []

abbrev pub burst_short : List ℕ
burst_short = 0 ∷ 0 ∷ 0 ∷ 0 ∷ 0x01 ∷ 0x4E ∷ 0xAA ∷ []

abbrev pub burst_long : List ℕ
burst_long = 0 ∷ 0 ∷ 0 ∷ 0 ∷ 0 ∷ 0x01 ∷ 0xF4 ∷ 0xAC ∷ 0xFB ∷ 0x12 ∷ []

-- R5a: 00033A03814EAB is flipped to 00033A03800001
pub short-octets : flipped_spdu 1 zero_short 3 0x81 burst_short ≡ 0x00 ∷ 0x03 ∷ 0x3A ∷ 0x03 ∷ 0x80 ∷ 0x00 ∷ 0x01 ∷ []
unfolding signature octet shift_in_all shift_in
short-octets = refl

-- a burst passes, of an odd number of flips, where the flipped contents compute 0
pub short_later_needed : Case 1 zero_short 3 0x81 burst_short 16 9 0x4EAB 0 true
unfolding signature octet shift_in_all shift_in
short_later_needed = case 39 refl refl refl

pub long_later_needed : Case 2 zero_long 3 0x81 burst_long 32 19 0xF4ACFB13 0 true
unfolding signature octet shift_in_all shift_in
long_later_needed = case 47 refl refl refl

-- and where the valid SPDU's contents do
pub short_before_needed : Case 1 zero_short 3 0x80 burst_short 16 9 0 0x4EAB true
unfolding signature octet shift_in_all shift_in
short_before_needed = case 39 refl refl refl

pub long_before_needed : Case 2 zero_long 3 0x80 burst_long 32 19 0 0xF4ACFB13 true
unfolding signature octet shift_in_all shift_in
long_before_needed = case 47 refl refl refl

-- neither computes 0: 17 (33) neighbouring bits that pass
pub short_most : Case 1 other_short 3 0x20 generator_short 17 10 0x42A9 0xC02 true
unfolding signature octet shift_in_all shift_in
short_most = case 39 refl refl refl

pub long_most : Case 2 other_long 3 0x20 generator_long 33 20 0xCCC5B9D8 0x386942CB true
unfolding signature octet shift_in_all shift_in
long_most = case 47 refl refl refl

-- and 16 (32) that do not
pub short-refused : Case 1 other_short 3 0x20 burst_short 16 9 0x42A9 0xC02 false
unfolding signature octet shift_in_all shift_in
short-refused = case 39 refl refl refl

pub long-refused : Case 2 other_long 3 0x20 burst_long 32 19 0xCCC5B9D8 0x386942CB false
unfolding signature octet shift_in_all shift_in
long-refused = case 47 refl refl refl

-- the last four meet the premises
met : {mode : ℕ} {process : List ℕ} {port control : ℕ} {es : List ℕ} {n k before later : ℕ} {passes : Bool}
    → Case mode process port control es n k before later passes → 0 < before → 0 < later → Premises mode process port control es
met c b l = record { flips = c.flips; before = λ e. omega (arith, c.computed); after = λ e. omega (arith, c.computed_later) }

pub short_most_met : Premises 1 other_short 3 0x20 generator_short
short_most_met = met short_most (omega arith) (omega arith)

pub long_most_met : Premises 2 other_long 3 0x20 generator_long
long_most_met = met long_most (omega arith) (omega arith)

pub short_refused_met : Premises 1 other_short 3 0x20 burst_short
short_refused_met = met short-refused (omega arith) (omega arith)

pub long_refused_met : Premises 2 other_long 3 0x20 burst_long
long_refused_met = met long-refused (omega arith) (omega arith)
