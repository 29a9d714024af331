-- Reading after building gives back what was built, the signature holds, and not every octet is zero (R2, R5, R8); what the zeros sent before the
-- first response read as (R23). Assumes nothing.
use mathlib.Core.Path.{◌≡◌, refl, sym, ap, ◌∙◌}
use mathlib.Core.Bool.{Bool, true, false, cond, and-eq-true_iff}
use mathlib.Core.List.{List, [], ◌∷◌}
use Prim.Native.Nat.{ℕ, zero, suc, ◌+◌}
use native.Mathlib.Omega.{arith}
use borrow.Author.Tests.{eqb-true, eqb-false, eq-eqb, ne_eqb}
use lib.Dec.{eqb}
use lib.ListN.{length, get_or, replicate, length-replicate}
use Rattle.ranges.specs.Fields.{safety_octets}
use Rattle.block.specs.Octets.{unsigned16, unsigned32}
use Rattle.block.specs.declared.Params.{Params}
use Rattle.spdu.specs.Signature.{by_bits, replaced}
use Rattle.spdu.specs.Places.{process_octets, port_number_of, contents_of, carried_of, is_signed, is_all_zero}
use Rattle.spdu.specs.Fields.{count_in, bit2, bit1, bit0, response_by, request_by}
use Rattle.spdu.specs.Built.{control_octet, status_octet, spdu_with}
use Rattle.spdu.specs.RoundTrip.{request_back, response_back, zeros_back}
use Rattle.spdu.proofs.Composed.{spdu-length}
use Rattle.spdu.proofs.ReadBack.{read-port, read-control, control_count, control-bit1, control-bit0, status_count, status-bit2, status-bit1, status-bit0}
use Rattle.spdu.proofs.Demand3.{valid_passes}

-- ---- zeros
zero-at : (s : List ℕ) → is_all_zero s ≡ true → (k : ℕ) → get_or s k 0 ≡ 0
zero-at [] h k = refl
zero-at (x ∷ s) h zero = eqb-true x 0 ((and-eq-true_iff (eqb x 0) (is_all_zero s)).0 h).0
zero-at (x ∷ s) h (suc k) = zero-at s ((and-eq-true_iff (eqb x 0) (is_all_zero s)).0 h).1 k

zero-carried : (mode : ℕ) (s : List ℕ) → is_all_zero s ≡ true → carried_of mode s ≡ 0
zero-carried mode s z = by (eqb mode 1) (process_octets mode (length s) + 2)
  where
    by : (b : Bool) (at : ℕ) → cond b (unsigned16 s at) (unsigned32 s at) ≡ 0
    by true at = omega (arith, zero-at s z at, zero-at s z (at + 1))
    by false at = omega (arith, zero-at s z at, zero-at s z (at + 1), zero-at s z (at + 2), zero-at s z (at + 2 + 1))

never_zero : (x : ℕ) → replaced x ≡ 0 → ⊥
never_zero x = by (eqb x 0) refl
  where
    by : (b : Bool) → eqb x 0 ≡ b → cond b 1 x ≡ 0 → ⊥
    by true e h = omega arith
    by false e h = eqb-false x 0 e h

-- a signature of zeros never holds, since a zero is replaced
zeros-refused : (sign : ℕ → List ℕ → ℕ) (mode : ℕ) (s : List ℕ) → is_all_zero s ≡ true → is_signed sign mode s ≡ false
zeros-refused sign mode s z =
    let x = sign mode (contents_of mode s) in
    ne_eqb (carried_of mode s) (replaced x) (λ e. never_zero x (sym e ∙ zero-carried mode s z))

-- ---- what was built
module _ (p : Params) (process : List ℕ) where
  abbrev mode : ℕ
  mode = p.FSP_ProtMode

  abbrev sent : ℕ → List ℕ
  sent control = spdu_with by_bits mode process p.FSP_Port control

  not_zero : (control : ℕ) → is_all_zero (sent control) ≡ false
  not_zero control = by (is_all_zero (sent control)) refl
    where
      by : (b : Bool) → is_all_zero (sent control) ≡ b → b ≡ false
      by true e = sym (valid_passes mode process p.FSP_Port control) ∙ zeros-refused by_bits mode (sent control) e
      by false e = refl

  port_back : (control : ℕ) → eqb (port_number_of mode (sent control)) p.FSP_Port ≡ true
  port_back control = eq-eqb (port_number_of mode (sent control)) p.FSP_Port (read-port by_bits mode process p.FSP_Port control)

  pub request_back_lem : (mCount : ℕ) (setSD chFAckReq : Bool) → length process + safety_octets mode ≡ p.SPDUOutLength
      → request_by by_bits p (sent (control_octet mCount setSD chFAckReq)) ≡ request_back p mCount setSD chFAckReq
  request_back_lem mCount setSD chFAckReq size =
      let control = control_octet mCount setSD chFAckReq in
      let long = spdu-length by_bits mode process p.FSP_Port control ∙ size in
      let read = read-control by_bits mode process p.FSP_Port control in
      simp (eq-eqb (length (sent control)) p.SPDUOutLength long) (λ i. record {
        length = long i;
        MCount = (ap count_in read ∙ control_count mCount setSD chFAckReq) i;
        setSD = (ap bit1 read ∙ control-bit1 mCount setSD chFAckReq) i;
        ChFAckReq = (ap bit0 read ∙ control-bit0 mCount setSD chFAckReq) i;
        port_holds = port_back control i;
        signature_holds = valid_passes mode process p.FSP_Port control i;
        all_zero = not_zero control i;
        unused = 0;
      })

  pub response_back_lem : (DCount_i : ℕ) (sdSet dCommErr dTimeout : Bool) → length process + safety_octets mode ≡ p.SPDUInLength
      → response_by by_bits p (sent (status_octet DCount_i sdSet dCommErr dTimeout)) ≡ response_back p DCount_i sdSet dCommErr dTimeout
  response_back_lem DCount_i sdSet dCommErr dTimeout size =
      let status = status_octet DCount_i sdSet dCommErr dTimeout in
      let long = spdu-length by_bits mode process p.FSP_Port status ∙ size in
      let read = read-control by_bits mode process p.FSP_Port status in
      simp (eq-eqb (length (sent status)) p.SPDUInLength long) (λ i. record {
        length = long i;
        DCount_i = (ap count_in read ∙ status_count DCount_i sdSet dCommErr dTimeout) i;
        SDset = (ap bit2 read ∙ status-bit2 DCount_i sdSet dCommErr dTimeout) i;
        DCommErr = (ap bit1 read ∙ status-bit1 DCount_i sdSet dCommErr dTimeout) i;
        DTimeout = (ap bit0 read ∙ status-bit0 DCount_i sdSet dCommErr dTimeout) i;
        port_holds = port_back status i;
        signature_holds = valid_passes mode process p.FSP_Port status i;
        all_zero = not_zero status i;
        unused = 0;
      })

zeros-all : (n : ℕ) → is_all_zero (replicate n 0) ≡ true
zeros-all zero = refl
zeros-all (suc n) = zeros-all n

-- the FS-Device's zeros before its first response
pub zeros_back_lem : (p : Params) → response_by by_bits p (replicate p.SPDUInLength 0) ≡ zeros_back p
zeros_back_lem p =
    let mode = p.FSP_ProtMode in
    let n = p.SPDUInLength in
    let zeros : List ℕ = replicate n 0 in
    let long : length zeros ≡ n = length-replicate n 0 in
    let none = zeros-all n in
    let read = zero-at zeros none (process_octets mode (length zeros) + 1) in
    simp (eq-eqb (length zeros) n long) (λ i. record {
      length = long i;
      DCount_i = count_in (read i);
      SDset = bit2 (read i);
      DCommErr = bit1 (read i);
      DTimeout = bit0 (read i);
      port_holds = eqb (zero-at zeros none (process_octets mode (length zeros)) i) p.FSP_Port;
      signature_holds = zeros-refused by_bits mode zeros none i;
      all_zero = none i;
      unused = 0;
    })
