-- The composed image: the SPDU in its place, and the other data behind it. Assumes nothing.
use mathlib.Core.Path.{◌≡◌, refl, sym, ap, ap₂, ◌∙◌}
use mathlib.Core.Bool.{Bool, true, false, cond, ◌&&◌, and-eq-true_iff}
use mathlib.Core.List.{List, [], ◌∷◌, ◌++◌}
use Prim.Native.Nat.{ℕ, ◌+◌, ◌/◌, ◌%◌, ◌≤◌}
use native.Mathlib.Omega.{arith}
use borrow.Author.Tests.{eqb-true, eq-eqb}
use lib.Dec.{eqb}
use lib.ListN.{length, take, length-append, length-replicate}
use lib.Seq.{length-take-le}
use Rattle.ranges.specs.Fields.{safety_octets}
use Rattle.block.specs.declared.Params.{Params}
use Rattle.spdu.specs.Signature.{replaced}
use Rattle.spdu.specs.Built.{control_octet, signature_octets, contents_with, spdu_with, process_sent, request_built}
use Rattle.spdu.specs.Image.{composer_holds, composed}

-- an SPDU is as long as its process octets and H
pub spdu-length : (sign : ℕ → List ℕ → ℕ) (mode : ℕ) (process : List ℕ) (port control : ℕ) → length (spdu_with sign mode process port control) ≡ length process + safety_octets mode
spdu-length sign mode process port control =
    let x = replaced (sign mode (contents_with process port control)) in
    length-append (contents_with process port control) (signature_octets mode x)
    ∙ omega (arith, length-append process (port ∷ control ∷ []), sizes (eqb mode 1) x)
  where
    sizes : (b : Bool) (x : ℕ) → length (cond b (x / 256 % 256 ∷ x % 256 ∷ []) (x / 16777216 % 256 ∷ x / 65536 % 256 ∷ x / 256 % 256 ∷ x % 256 ∷ [])) + 2 ≡ cond b 4 6
    sizes true x = refl
    sizes false x = refl

pub sent-length : (b : Bool) (process : List ℕ) → length (process_sent b process) ≡ length process
sent-length true process = omega (arith, length-replicate {A = ℕ} (length process) 0)
sent-length false process = omega (arith, length-replicate {A = ℕ} (length process) 0)

module _ (sign : ℕ → List ℕ → ℕ) (p : Params) (mCount : ℕ) (setSD chFAckReq : Bool) (process other image : List ℕ) (holds : composer_holds p (length process) (length other) (length image) ≡ true) where
  abbrev o : ℕ
  o = p.SPDUOutLength

  abbrev spdu : List ℕ
  spdu = spdu_with sign p.FSP_ProtMode (process_sent setSD process) p.FSP_Port (control_octet mCount setSD chFAckReq)

  parts : (length process + safety_octets p.FSP_ProtMode ≡ o) × ((length other ≡ p.OutputDataLength) × (length image ≡ o + p.OutputDataLength))
  parts =
      let a = (and-eq-true_iff (eqb (length process + safety_octets p.FSP_ProtMode) o && eqb (length other) p.OutputDataLength) (eqb (length image) (o + p.OutputDataLength))).0 holds in
      let b = (and-eq-true_iff (eqb (length process + safety_octets p.FSP_ProtMode) o) (eqb (length other) p.OutputDataLength)).0 a.0 in
      (eqb-true (length process + safety_octets p.FSP_ProtMode) o b.0, (eqb-true (length other) p.OutputDataLength b.1, eqb-true (length image) (o + p.OutputDataLength) a.1))

  pub within : o ≤ length image
  within = omega (arith, parts.1.1)

  pub lent : o ≡ length (take o image)
  lent = sym (length-take-le o image within)

  -- what the builder leaves in its part
  pub built : request_built sign p mCount setSD chFAckReq process (take o image) ≡ spdu
  built =
      ap (λ (b : Bool). cond b spdu (take o image))
      (ap₂ ◌&&◌ (eq-eqb (length process + safety_octets p.FSP_ProtMode) o parts.0) (eq-eqb (length (take o image)) o (sym lent)))

  -- R3: the SPDU stands first in the image, and the other data behind it
  pub spdu-first : composed sign p mCount setSD chFAckReq process other image ≡ request_built sign p mCount setSD chFAckReq process (take o image) ++ other
  spdu-first = ap (λ (b : Bool). cond b (spdu ++ other) image) holds ∙ ap (λ (l : List ℕ). l ++ other) (sym built)
