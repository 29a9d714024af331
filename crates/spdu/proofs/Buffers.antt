-- What it says that the buffers have the right lengths, and what stands in them then. Assumes nothing.
use mathlib.Core.Path.{◌≡◌, refl, sym, ap, ap₂, ◌∙◌}
use mathlib.Core.Bool.{Bool, true, false, cond, ◌&&◌, and-eq-true_iff}
use mathlib.Core.List.{List}
use Prim.Native.Nat.{ℕ, ◌+◌, ◌-◌, ◌≤◌, ◌<◌}
use native.Mathlib.Omega.{arith}
use borrow.Author.Tests.{eqb-true, eqb-false, eq-eqb, ne_eqb}
use lib.Dec.{eqb}
use lib.ListN.{length, replicate}
use Rattle.ranges.specs.Fields.{safety_octets}
use Rattle.block.specs.declared.Params.{Params}
use Rattle.spdu.specs.Built.{control_octet, status_octet, spdu_with, process_sent, buffers_hold, request_built, response_built}

-- ---- lengths
either : (a b c d : ℕ) → (a ≡ b → c ≡ d) → (c ≡ d → a ≡ b) → eqb a b ≡ eqb c d
either a b c d f g = by (eqb a b) refl
  where
    by : (t : Bool) → eqb a b ≡ t → t ≡ eqb c d
    by true e = sym (eq-eqb c d (f (eqb-true a b e)))
    by false e = sym (ne_eqb c d (λ q. eqb-false a b e (g q)))

module _ (mode spdu process out : ℕ) where
  pub too_short : spdu < safety_octets mode → false ≡ buffers_hold mode spdu process out
  too_short h = sym (ap (λ (b : Bool). b && eqb out spdu) (ne_eqb (process + safety_octets mode) spdu (λ e. omega arith)))

  pub long_enough : safety_octets mode ≤ spdu → (eqb process (spdu - safety_octets mode) && eqb out spdu) ≡ buffers_hold mode spdu process out
  long_enough h = ap (λ (b : Bool). b && eqb out spdu) (either process (spdu - safety_octets mode) (process + safety_octets mode) spdu (λ e. omega arith) (λ e. omega arith))

  pub held : buffers_hold mode spdu process out ≡ true → (out ≡ process + safety_octets mode) × (out ≡ spdu)
  held e =
      let p = (and-eq-true_iff (eqb (process + safety_octets mode) spdu) (eqb out spdu)).0 e in
      let a = eqb-true (process + safety_octets mode) spdu p.0 in
      let b = eqb-true out spdu p.1 in
      (omega arith, b)

-- ---- what stands in the buffer where the lengths are right
module _ (sign : ℕ → List ℕ → ℕ) (p : Params) (process out : List ℕ) where
  abbrev mode : ℕ
  mode = p.FSP_ProtMode

  pub request-built : (mCount : ℕ) (setSD chFAckReq : Bool) {control : ℕ} {sent written : List ℕ}
      → buffers_hold mode p.SPDUOutLength (length process) (length out) ≡ true → control ≡ control_octet mCount setSD chFAckReq → sent ≡ process_sent setSD process
      → written ≡ spdu_with sign mode sent p.FSP_Port control → written ≡ request_built sign p mCount setSD chFAckReq process out
  request-built mCount setSD chFAckReq h c s e =
      e
      ∙ ap₂ (λ (l : List ℕ) (x : ℕ). spdu_with sign mode l p.FSP_Port x) s c
      ∙ ap (λ (b : Bool). cond b (spdu_with sign mode (process_sent setSD process) p.FSP_Port (control_octet mCount setSD chFAckReq)) out) (sym h)

  pub response-built : (responded : Bool) (DCount_i : ℕ) (sdSet dCommErr dTimeout : Bool) {written : List ℕ}
      → buffers_hold mode p.SPDUInLength (length process) (length out) ≡ true
      → written ≡ cond responded (spdu_with sign mode process p.FSP_Port (status_octet DCount_i sdSet dCommErr dTimeout)) (replicate (length out) 0)
      → written ≡ response_built sign p responded DCount_i sdSet dCommErr dTimeout process out
  response-built responded DCount_i sdSet dCommErr dTimeout h e =
      e
      ∙ ap (λ (b : Bool). cond b (cond responded (spdu_with sign mode process p.FSP_Port (status_octet DCount_i sdSet dCommErr dTimeout)) (replicate (length out) 0)) out) (sym h)
