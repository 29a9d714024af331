-- Accepted parameters satisfy every bound that the layers above rest on. Assumes nothing.
use mathlib.Core.Path.{◌≡◌, refl, sym, ap, ◌∙◌}
use mathlib.Core.Logic.{◌⊎◌, inl, inr}
use mathlib.Core.Bool.{Bool, true, false, not, ◌&&◌, ◌||◌, true≢false, and-eq-true_iff}
use mathlib.Core.List.{List}
use Prim.Native.Nat.{ℕ, ◌+◌, ◌-◌, ◌*◌, ◌≤◌, ◌<◌}
use native.Mathlib.Omega.{arith}
use borrow.Author.Tests.{ltb-false, leb-true, leb-false, eqb-true, eqb-false, not-false, le-leb}
use lib.Dec.{T, eqb, leb, ltb, leb→le, nleb→lt}
use Rattle.block.specs.declared.Params.{Params}
use Rattle.block.specs.Octets.{Octets}
use Rattle.block.specs.Table22.{params_of}
use Rattle.answer.specs.Answers.{is_taken}
use Rattle.answer.specs.Rules.{Kept}
use Rattle.ranges.specs.Fields.{inside, outside, neither, safety_octets, most_process_octets, length_broken}
use Rattle.block.specs.Rules.{rules_on, judged, params_in}
use Rattle.block.specs.Accepted.{SpduFits, Accepted}
use Rattle.block.proofs.Answered.{taken, taken_params}

-- ---- what a test that is false, or true, says
or-false : (a b : Bool) → (a || b) ≡ false → (a ≡ false) × (b ≡ false)
or-false true b e = absurd (true≢false e)
or-false false b e = (refl, e)

or-true : (a b : Bool) → (a || b) ≡ true → (a ≡ true) ⊎ (b ≡ true)
or-true true b e = inl refl
or-true false b e = inr e

-- ---- a range that is kept
range : (low high x : ℕ) → outside low high x ≡ false → (low ≤ x) × (x ≤ high)
range low high x e =
    let p = (and-eq-true_iff (leb low x) (leb x high)).0 (not-false (inside low high x) e) in
    (leb-true low x p.0, leb-true x high p.1)

one_of : (a b x : ℕ) → neither a b x ≡ false → (x ≡ a) ⊎ (x ≡ b)
one_of a b x e =
    elim (or-true (eqb x a) (eqb x b) (not-false (eqb x a || eqb x b) e)) [ inl u ↦ inl (eqb-true x a u) | inr u ↦ inr (eqb-true x b u) ]

module _ (protMode other length octets int16 int32 : ℕ) (kept : length_broken protMode other length octets int16 int32 ≡ false) where
  abbrev H : ℕ
  H = safety_octets protMode

  parts : ((outside 5 (32 - other) length || not (eqb length (H + octets + 2 * int16 + 4 * int32))) ≡ false) × (ltb (H + most_process_octets protMode) length ≡ false)
  parts = or-false (outside 5 (32 - other) length || not (eqb length (H + octets + 2 * int16 + 4 * int32))) (ltb (H + most_process_octets protMode) length) kept

  sides : (outside 5 (32 - other) length ≡ false) × (not (eqb length (H + octets + 2 * int16 + 4 * int32)) ≡ false)
  sides = or-false (outside 5 (32 - other) length) (not (eqb length (H + octets + 2 * int16 + 4 * int32))) parts.0

  sum : length ≡ H + octets + 2 * int16 + 4 * int32
  sum = eqb-true length (H + octets + 2 * int16 + 4 * int32) (not-false (eqb length (H + octets + 2 * int16 + 4 * int32)) sides.1)

  fits : SpduFits protMode other length
  fits =
      let r = range 5 (32 - other) length sides.0 in
      let m : length ≤ H + most_process_octets protMode = ltb-false (H + most_process_octets protMode) length parts.1 in
      record { least = r.0; room = omega (arith, r.1, r.0); safety = omega (arith, sum); process = omega (arith, m) }

-- ---- the port mode is 49 or 50
past : (low high m : ℕ) → inside low high m ≡ false → low ≤ m → high < m
past low high m e h = leb-false m high (sym (ap (λ (b : Bool). b && leb m high) (le-leb low m h)) ∙ e)

cases : {A : Type 0} (b : Bool) → (T b → A) → (T (not b) → A) → A
cases true f g = f tt
cases false f g = g tt

mode_known : (m : ℕ) → m < 256 → (inside 5 48 m || inside 52 96 m || inside 97 255 m) ≡ false → (inside 0 4 m || eqb m 51) ≡ false
    → (m ≡ 49) ⊎ (m ≡ 50)
mode_known m h e f =
    let x = or-false (inside 5 48 m || inside 52 96 m) (inside 97 255 m) e in
    let y = or-false (inside 5 48 m) (inside 52 96 m) x.0 in
    let z = or-false (inside 0 4 m) (eqb m 51) f in
    let a : 4 < m = past 0 4 m z.0 (omega arith) in
    let b : 48 < m = past 5 48 m y.0 (omega arith) in
    cases (leb m 49) (λ t. inl (omega (arith, leb→le m 49 t)))
    (λ t. cases (leb m 50) (λ u. inr (omega (arith, leb→le m 50 u, nleb→lt m 49 t)))
    (λ u. cases (leb m 51) (λ v. absurd (eqb-false m 51 z.1 (omega (arith, leb→le m 51 v, nleb→lt m 50 u))))
    (λ v. let c : 96 < m = past 52 96 m y.1 (omega (arith, nleb→lt m 51 v)) in absurd (omega (arith, past 97 255 m x.1 (omega arith))))))

-- ---- what is accepted is within its bounds
pub accepted : (s : List ℕ) (port : ℕ) → Octets s → is_taken (judged s port) ≡ true → Accepted port (params_in (judged s port))
accepted s port octets e = rw (taken_params s port e) bounds
  where
    kept : Kept (rules_on s port)
    kept = (taken s port).0 e

    q : Params
    q = params_of s

    input : length_broken q.FSP_ProtMode q.InputDataLength q.SPDUInLength q.TotalOfInOctets q.TotalOfInInt16 q.TotalOfInInt32 ≡ false
    input = kept.each 16

    output : length_broken q.FSP_ProtMode q.OutputDataLength q.SPDUOutLength q.TotalOfOutOctets q.TotalOfOutInt16 q.TotalOfOutInt32 ≡ false
    output = kept.each 18

    bounds : Accepted port (params_of s)
    bounds = record {
      port_known = range 1 8 port (kept.each 0);
      port_carried = eqb-true q.FSP_Port port (not-false (eqb q.FSP_Port port) (kept.each 20));
      mode = mode_known q.PortMode (octets 2) (kept.each 3) (kept.each 4);
      protocol_mode = one_of 1 2 q.FSP_ProtMode (kept.each 13);
      watchdog = range 1 65535 q.FSP_WatchdogTime (kept.each 14);
      input = fits q.FSP_ProtMode q.InputDataLength q.SPDUInLength q.TotalOfInOctets q.TotalOfInInt16 q.TotalOfInInt32 input;
      output = fits q.FSP_ProtMode q.OutputDataLength q.SPDUOutLength q.TotalOfOutOctets q.TotalOfOutInt16 q.TotalOfOutInt32 output;
      input_bits = ltb-false (8 * q.TotalOfInOctets) q.TotalOfInBits (kept.each 17);
      output_bits = ltb-false (8 * q.TotalOfOutOctets) q.TotalOfOutBits (kept.each 19);
      input_sum = sum q.FSP_ProtMode q.InputDataLength q.SPDUInLength q.TotalOfInOctets q.TotalOfInInt16 q.TotalOfInInt32 input;
      output_sum = sum q.FSP_ProtMode q.OutputDataLength q.SPDUOutLength q.TotalOfOutOctets q.TotalOfOutInt16 q.TotalOfOutInt32 output;
    }
