-- What goes out, by what is read of it at the other end of the same parameters: the SPDU that the FS-Master composes into its image, with zeros exactly
-- where it carries setSD 1 (R17b, R25), and the FS-Device's. Assumes nothing.
use Prim.Native.Nat.{ℕ, ◌+◌}
use native.Mathlib.Omega.{arith}
use borrow.Author.Tests.{eqb-true}
use mathlib.Core.Path.{◌≡◌, refl, sym, ap, ap₂, ◌∙◌}
use mathlib.Core.Bool.{Bool, true, false, cond, ◌&&◌}
use mathlib.Core.List.{List, ◌++◌}
use lib.Dec.{eqb}
use lib.ListN.{length, take, replicate, length-replicate}
use lib.Seq.{take_at}
use Rattle.answer.specs.Answers.{Answer, Taken, is_taken}
use Rattle.answer.specs.Rules.{answer_by}
use Rattle.ranges.specs.Fields.{outside, safety_octets}
use Rattle.block.specs.declared.Params.{Params}
use Rattle.scl.specs.declared.Request.{Request}
use Rattle.scl.specs.declared.Happening.{Happening}
use Rattle.scl.proofs.Cases.{cond_case, and_left, and_right}
use Rattle.spdu.specs.Signature.{by_bits}
use Rattle.spdu.specs.Places.{process_of}
use Rattle.spdu.specs.Fields.{response_by, request_by}
use Rattle.spdu.specs.Built.{control_octet, status_octet, spdu_with, process_sent, buffers_hold}
use Rattle.spdu.specs.Image as image
use Rattle.spdu.specs.RoundTrip.{request_back, response_back, zeros_back}
use Rattle.spdu.proofs.Composed.{spdu-length}
use Rattle.spdu.proofs.ReadBack.{read-process}
use Rattle.spdu.proofs.Back.{request_back_lem, response_back_lem, zeros_back_lem}
use Rattle.fs_master.specs.declared.Master.{Master}
use Rattle.fs_master.specs.History.{None, fault}
use Rattle.fs_master.proofs.Acknowledge.{sends_safe}
use Rattle.fs_device.specs.declared.Device.{Device}
use Rattle.bench.specs.declared.Port.{Port}
use Rattle.bench.specs.Methods.{annex_d}
use Rattle.bench.specs.Ports.{port_at}
use Rattle.bench.specs.Calls.{call_rules}
use Rattle.bench.specs.Images.{compose_answer, composed, build_answer, response_out}
use Rattle.bench.specs.History.{Call, history, since, since_block, octets_out}
use Rattle.bench.proofs.Taken.{both_kept}
use Rattle.bench.proofs.Release.{matching}

module _ (q : ℕ) (p : Port) where
  abbrev params : Params
  params = p.setting.params

  abbrev mode : ℕ
  mode = p.setting.params.FSP_ProtMode

  -- what is sent with these process octets and this control or status octet
  abbrev spdu : List ℕ → ℕ → List ℕ
  spdu process control = spdu_with by_bits mode process params.FSP_Port control

  abbrev answer : Answer
  answer = answer_by Taken (call_rules q p.setting)

  -- ---- the FS-Master's SPDU, in an image that is composed

  module _ (process other octets : List ℕ) where
    abbrev master : Master
    master = p.live.master

    -- it stands first (R3)
    abbrev pub sent : List ℕ
    sent = take params.SPDUOutLength (composed annex_d q p process other octets)

    abbrev values : List ℕ
    values = process_sent master.setSD process

    abbrev control : ℕ
    control = control_octet master.MCount master.setSD master.ChFAckReq

    module _ (taken : is_taken (compose_answer q p process other octets) ≡ true) where
      kept : (is_taken answer ≡ true) × (image.composer_holds params (length process) (length other) (length octets) ≡ true)
      unfolding compose_answer
      kept = both_kept answer (image.composer_holds params (length process) (length other) (length octets)) taken

      size : length process + safety_octets mode ≡ params.SPDUOutLength
      size =
          let fits = eqb (length process + safety_octets mode) params.SPDUOutLength in
          let others = eqb (length other) params.OutputDataLength in
          eqb-true (length process + safety_octets mode) params.SPDUOutLength
          (and_left fits others (and_left (fits && others) (eqb (length octets) (params.SPDUOutLength + params.OutputDataLength)) kept.1))

      values_size : length values + safety_octets mode ≡ params.SPDUOutLength
      values_size =
          ap (λ (n : ℕ). n + safety_octets mode)
          (cond_case (λ (l : List ℕ). length l ≡ length process) master.setSD (λ _. length-replicate (length process) 0) (λ _. refl))
          ∙ size

      sent_is : sent ≡ spdu values control
      unfolding composed
      sent_is =
          ap₂ (λ (t hold : Bool). take params.SPDUOutLength (cond t (cond hold (spdu values control ++ other) octets) octets)) kept.0 kept.1
          ∙ take_at (spdu values control) other params.SPDUOutLength (spdu-length by_bits mode values params.FSP_Port control ∙ values_size)

      -- "FS-Master, o - H octets as lent where setSD = 0 and zeros where it is 1" (R25)
      pub process_sent_lem : process_of mode sent ≡ cond master.setSD (replicate (octets_out p) 0) process
      process_sent_lem =
          let n : length process ≡ octets_out p = omega (arith, size) in
          ap (process_of mode) sent_is ∙ read-process by_bits mode values params.FSP_Port control
          ∙ ap (λ (n : ℕ). cond master.setSD (replicate n 0) process) n

      -- what the FS-Device of the same parameters reads
      pub request_sent : request_by by_bits params sent ≡ request_back params master.MCount master.setSD master.ChFAckReq
      request_sent =
          ap (request_by by_bits params) sent_is
          ∙ request_back_lem params values master.MCount master.setSD master.ChFAckReq values_size

      -- "zeros sent exactly when setSD = 1" (R17b), of the SPDU alone: exactly where it carries setSD 1
      pub zeros_with_setSD : process_of mode sent ≡ cond (request_by by_bits params sent).setSD (replicate (octets_out p) 0) process
      zeros_with_setSD = process_sent_lem ∙ ap (λ (r : Request). cond r.setSD (replicate (octets_out p) 0) process) (sym request_sent)

  -- ---- the FS-Device's SPDU

  module _ (process out : List ℕ) (taken : is_taken (build_answer q p process out) ≡ true) where
    abbrev device : Device
    device = p.live.device

    abbrev response : List ℕ
    response = response_out annex_d q p process out

    abbrev status : ℕ
    status = status_octet device.DCount_i device.SDset device.DCommErr device.DTimeout

    held : (is_taken answer ≡ true) × (buffers_hold mode params.SPDUInLength (length process) (length out) ≡ true)
    unfolding build_answer
    held = both_kept answer (buffers_hold mode params.SPDUInLength (length process) (length out)) taken

    sizes : (length process + safety_octets mode ≡ params.SPDUInLength) × (length out ≡ params.SPDUInLength)
    sizes =
        let fits = eqb (length process + safety_octets mode) params.SPDUInLength in
        let outs = eqb (length out) params.SPDUInLength in
        (eqb-true (length process + safety_octets mode) params.SPDUInLength (and_left fits outs held.1), eqb-true (length out) params.SPDUInLength (and_right fits outs held.1))

    response_is : {responded : Bool} → device.responded ≡ responded → response ≡ cond responded (spdu process status) (replicate (length out) 0)
    unfolding response_out
    response_is e =
        ap₂ (λ (t hold : Bool). cond t (cond hold (cond device.responded (spdu process status) (replicate (length out) 0)) out) out) held.0 held.1
        ∙ ap (λ (b : Bool). cond b (spdu process status) (replicate (length out) 0)) e

    module _ (responded : device.responded ≡ true) where
      -- "FS-Device, m - H octets of PDin_D in every row" (R25)
      pub process_answered : process_of mode response ≡ process
      process_answered = ap (process_of mode) (response_is responded) ∙ read-process by_bits mode process params.FSP_Port status

      -- what the FS-Master of the same parameters reads
      pub response_sent : response_by by_bits params response ≡ response_back params device.DCount_i device.SDset device.DCommErr device.DTimeout
      response_sent =
          ap (response_by by_bits params) (response_is responded)
          ∙ response_back_lem params process device.DCount_i device.SDset device.DCommErr device.DTimeout sizes.0

    -- before its first response: zeros, which the FS-Master ignores (R12, R23)
    pub zeros_first : device.responded ≡ false → response_by by_bits params response ≡ zeros_back params
    zeros_first not_yet = ap (response_by by_bits params) (response_is not_yet ∙ ap (λ (n : ℕ). replicate n 0) sizes.1) ∙ zeros_back_lem params

-- ---- after every list of calls: while a fault is open at the port, safe values go out

module _ (q : ℕ) (known : outside 1 8 q ≡ false) (calls : List Call) (at : ℕ) (params : Params) (past : List Happening)
    (block : since_block q calls ≡ since at params past) (faulty : fault at params.FSP_WatchdogTime past ≡ None → ⊥) where
  abbrev port : Port
  port = port_at (history calls) q

  safe-set : port.live.master.setSD ≡ true
  safe-set =
      ap (λ (m : Master). m.setSD) (matching q known calls at params past block).master
      ∙ (sends_safe at params.FSP_WatchdogTime past faulty).0

  pub safe_while_faulty : (process other octets : List ℕ) → is_taken (compose_answer q port process other octets) ≡ true
      → let s = sent q port process other octets in
      (process_of port.setting.params.FSP_ProtMode s ≡ replicate (octets_out port) 0) × ((request_by by_bits port.setting.params s).setSD ≡ true)
  safe_while_faulty process other octets taken = (
    process_sent_lem q port process other octets taken ∙ ap (λ (b : Bool). cond b (replicate (octets_out port) 0) process) safe-set,
    ap (λ (r : Request). r.setSD) (request_sent q port process other octets taken) ∙ safe-set,
  )
