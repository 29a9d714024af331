-- What is read of an SPDU that was built is what it was built from, by any method of signing (R2, R5); and the control and status octets read
-- apart (000 Tables 31 and 32). Assumes nothing.
use mathlib.Core.Path.{◌≡◌, refl, sym, ap, ap₂, ◌∙◌}
use mathlib.Core.Bool.{Bool, true, false}
use mathlib.Core.List.{List, [], ◌∷◌, ◌++◌, append_assoc}
use Prim.Native.Nat.{ℕ, suc, ◌+◌, ◌*◌, ◌/◌, ◌%◌, ◌^◌, ◌≤◌, ◌<◌}
use native.Mathlib.Nat.{zero-mul, one-mul}
use native.Mathlib.Numerals.{add-one}
use native.Mathlib.Omega.{arith}
use borrow.Author.Tests.{eq-eqb, ne_eqb, eqb-true}
use lib.Dec.{eqb}
use lib.ListN.{length, get_or, take, drop, length-append, length-drop, take-append-drop}
use lib.Seq.{take_at, get_or_at, get_or-append-add, get_or-drop, length-take-le, take-add, drop-cons}
use Rattle.ranges.specs.Fields.{safety_octets}
use Rattle.block.specs.Octets.{Octets}
use Rattle.spdu.specs.Signature.{width_of, replaced}
use Rattle.spdu.specs.Places.{process_octets, process_of, port_number_of, control_of, contents_of, carried_at, carried_of, is_signed}
use Rattle.spdu.specs.Fields.{count_in, bit2, bit1, bit0}
use Rattle.spdu.specs.Built.{bit_in, control_octet, status_octet, signature_octets, contents_with, spdu_with}
use Rattle.spdu.proofs.Numbers.{number, number_injective}
use Rattle.spdu.proofs.Modes.{signing}

-- contents c with as many octets t behind them as a signature has
module _ (mode : ℕ) (c t : List ℕ) (two : 2 ≤ length c) (l : length t * 8 ≡ width_of mode) where
  place : process_octets mode (length (c ++ t)) + 2 ≡ length c
  place = omega (arith, length-append c t, (signing mode).safety)

  pub contents_of_lem : contents_of mode (c ++ t) ≡ c
  contents_of_lem = take_at c t (process_octets mode (length (c ++ t)) + 2) (sym place)

  pub carried_of_lem : carried_of mode (c ++ t) ≡ number t
  carried_of_lem = ap (carried_at mode (c ++ t)) place ∙ (signing mode).reads c t l

module _ (sign : ℕ → List ℕ → ℕ) (mode : ℕ) (process : List ℕ) (port control : ℕ) where
  abbrev contents : List ℕ
  contents = contents_with process port control

  abbrev value : ℕ
  value = replaced (sign mode contents)

  abbrev built : List ℕ
  built = spdu_with sign mode process port control

  pub contents-length : length contents ≡ length process + 2
  contents-length = length-append process (port ∷ control ∷ [])

  behind : process_octets mode (length built) ≡ length process
  behind =
      omega (arith, (signing mode).safety, (signing mode).size value, contents-length, length-append contents (signature_octets mode value))

  regrouped : built ≡ process ++ (port ∷ control ∷ signature_octets mode value)
  regrouped = append_assoc process (port ∷ control ∷ []) (signature_octets mode value)

  pub read-process : process_of mode built ≡ process
  read-process = ap₂ take behind regrouped ∙ take_at process (port ∷ control ∷ signature_octets mode value) (length process) refl

  pub read-port : port_number_of mode built ≡ port
  read-port =
      ap₂ (λ (s : List ℕ) (n : ℕ). get_or s n 0) regrouped behind
      ∙ get_or_at process port (control ∷ signature_octets mode value) 0 (length process) refl

  pub read-control : control_of mode built ≡ control
  read-control =
      ap₂ (λ (s : List ℕ) (n : ℕ). get_or s (n + 1) 0) regrouped behind
      ∙ get_or-append-add process (port ∷ control ∷ signature_octets mode value) 1 0

  read-contents : contents_of mode built ≡ contents
  read-contents =
      contents_of_lem mode contents (signature_octets mode value) (omega (arith, contents-length)) ((signing mode).size value)

  pub read-carried : value < 2 ^ width_of mode → carried_of mode built ≡ value
  read-carried h =
      carried_of_lem mode contents (signature_octets mode value) (omega (arith, contents-length)) ((signing mode).size value)
      ∙ (signing mode).written h

  -- so the signature holds
  pub built-holds : value < 2 ^ width_of mode → is_signed sign mode built ≡ true
  built-holds h =
      eq-eqb (carried_of mode built) (replaced (sign mode (contents_of mode built)))
      (read-carried h ∙ sym (ap (λ (c : List ℕ). replaced (sign mode c)) read-contents))

-- a received SPDU that is not too short
module _ (mode : ℕ) (s : List ℕ) (long : safety_octets mode ≤ length s) where
  abbrev seam : ℕ
  seam = process_octets mode (length s) + 2

  contents-long : length (contents_of mode s) ≡ seam
  contents-long = length-take-le seam s (omega (arith, (signing mode).safety))

  tail_long : length (drop seam s) * 8 ≡ width_of mode
  tail_long = omega (arith, (signing mode).safety, length-drop seam s)

  carried_tail : carried_of mode s ≡ number (drop seam s)
  carried_tail =
      rw take-append-drop at (carried_of_lem mode (contents_of mode s) (drop seam s) (omega (arith, contents-long)) tail_long)

  -- contents are process octets, port number, and control or status octet
  contents_parts : contents_of mode s ≡ contents_with (process_of mode s) (port_number_of mode s) (control_of mode s)
  contents_parts =
      let n = process_octets mode (length s) in
      let one : n < length s = omega (arith, (signing mode).safety) in
      let two : suc n < length s = omega (arith, (signing mode).safety) in
      take-add n 2 s ∙ rw (add-one, drop-cons s n 0 one, drop-cons s (suc n) 0 two)

-- Two SPDUs of the same length and with the same contents, whose signatures hold, are the same.
determined : (sign : ℕ → List ℕ → ℕ) (mode : ℕ) (s t : List ℕ) → Octets s → Octets t → safety_octets mode ≤ length s
    → length s ≡ length t → contents_of mode s ≡ contents_of mode t → is_signed sign mode s ≡ true → is_signed sign mode t ≡ true → s ≡ t
determined sign mode s t hs ht long same contents ps pt =
    let longt : safety_octets mode ≤ length t = omega arith in
    let n = seam mode s long in
    let m = seam mode t longt in
    let e : number (drop n s) ≡ number (drop m t)
    = sym (carried_tail mode s long) ∙ eqb-true (carried_of mode s) (replaced (sign mode (contents_of mode s))) ps
    ∙ ap (λ (c : List ℕ). replaced (sign mode c)) contents
    ∙ sym (eqb-true (carried_of mode t) (replaced (sign mode (contents_of mode t))) pt) ∙ carried_tail mode t longt in
    let tails : drop n s ≡ drop m t
    = number_injective (drop n s) (drop m t) (omega (arith, tail_long mode s long, tail_long mode t longt)) (λ k. rw get_or-drop (hs (n + k)))
    (λ k. rw get_or-drop (ht (m + k))) e in
    sym (take-append-drop n s) ∙ ap₂ ◌++◌ contents tails ∙ take-append-drop m t

-- so are two of the same length with the same process octets, port number, and control or status octet
pub determined_by_fields : (sign : ℕ → List ℕ → ℕ) (mode : ℕ) (s t : List ℕ) → Octets s → Octets t → safety_octets mode ≤ length s
    → length s ≡ length t → process_of mode s ≡ process_of mode t → port_number_of mode s ≡ port_number_of mode t → control_of mode s ≡ control_of mode t
    → is_signed sign mode s ≡ true → is_signed sign mode t ≡ true → s ≡ t
determined_by_fields sign mode s t hs ht long same process port control =
    determined sign mode s t hs ht long same
    (contents_parts mode s long ∙ ap₂ ◌++◌ process (ap₂ (λ (a b : ℕ). a ∷ b ∷ []) port control) ∙ sym (contents_parts mode t (omega arith)))

weight : (b : Bool) (w : ℕ) → bit_in b w ≡ bit_in b 1 * w
weight true w = sym (one-mul w)
weight false w = sym (zero-mul w)

small : (b : Bool) → bit_in b 1 < 2
small true = omega arith
small false = omega arith

is_bit : (b : Bool) (m : ℕ) → m ≡ bit_in b 1 → eqb m 1 ≡ b
is_bit true m e = eq-eqb m 1 e
is_bit false m e = ne_eqb m 1 (λ f. omega arith)

module _ (n : ℕ) (setSD chFAckReq : Bool) where
  abbrev control : ℕ
  control = control_octet n setSD chFAckReq

  pub control_count : count_in control ≡ n % 8
  control_count = omega (arith, weight setSD 2, small setSD, small chFAckReq)

  pub control-bit1 : bit1 control ≡ setSD
  control-bit1 = is_bit setSD (control / 2 % 2) (omega (arith, weight setSD 2, small setSD, small chFAckReq))

  pub control-bit0 : bit0 control ≡ chFAckReq
  control-bit0 = is_bit chFAckReq (control % 2) (omega (arith, weight setSD 2, small setSD, small chFAckReq))

module _ (n : ℕ) (sdSet dCommErr dTimeout : Bool) where
  abbrev status : ℕ
  status = status_octet n sdSet dCommErr dTimeout

  pub status_count : count_in status ≡ n % 8
  status_count = omega (arith, weight sdSet 4, weight dCommErr 2, small sdSet, small dCommErr, small dTimeout)

  pub status-bit2 : bit2 status ≡ sdSet
  status-bit2 = is_bit sdSet (status / 4 % 2) (omega (arith, weight sdSet 4, weight dCommErr 2, small sdSet, small dCommErr, small dTimeout))

  pub status-bit1 : bit1 status ≡ dCommErr
  status-bit1 = is_bit dCommErr (status / 2 % 2) (omega (arith, weight sdSet 4, weight dCommErr 2, small sdSet, small dCommErr, small dTimeout))

  pub status-bit0 : bit0 status ≡ dTimeout
  status-bit0 = is_bit dTimeout (status % 2) (omega (arith, weight sdSet 4, weight dCommErr 2, small sdSet, small dCommErr, small dTimeout))
