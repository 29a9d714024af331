-- The calls at a port of the bench: those to other ports make no difference to it. Assumes nothing.
use Prim.Native.Nat.{ℕ}
use mathlib.Core.Path.{◌≡◌, refl, sym, ap, ◌∙◌}
use mathlib.Core.Bool.{Bool, true, false, cond, false≢true}
use mathlib.Core.List.{List, [], ◌∷◌}
use lib.Dec.{eqb}
use lib.ListN.{length}
use borrow.Author.Tests.{eqb-true}
use Rattle.answer.specs.Answers.{Answer, Taken, is_taken}
use Rattle.answer.specs.Rules.{answer_by}
use Rattle.ranges.specs.Fields.{outside}
use Rattle.block.specs.declared.Params.{Params}
use Rattle.std.specs.Prelude.{Result, Ok, Err}
use Rattle.answer.specs.declared.Refusal.{Refusal}
use Rattle.block.specs.Table22.{params_of}
use Rattle.block.specs.Rules.{judged, params_in}
use Rattle.block.proofs.Answered.{taken_params}
use Rattle.spdu.specs.Signature.{by_bits}
use Rattle.spdu.specs.Fields.{response_by, request_by}
use Rattle.scl.specs.declared.Happening.{Happening}
use Rattle.scl.specs.declared.Happening.TheVariants as happening
use Rattle.bench.specs.declared.Port.{Port}
use Rattle.bench.specs.declared.Bench.{Bench}
use Rattle.bench.specs.Ports.{silent, accepted_port, new_bench, port_at, step_of}
use Rattle.bench.specs.Calls.{asked, asked_by_block, done, placed}
use Rattle.bench.specs.History.{Call, SetParameters, ReceiveResponse, ReceiveRequest, Clock, Operator, WithoutReading, addressed, rules_of, answer_of, after, history, addressing, result_of, history_by}
use Rattle.bench.proofs.Index.{placed_same, placed_other, placed-length}
use Rattle.bench.proofs.Answers.{answer_is, refused_same}

-- ---- always eight ports
after-length : (b : Bench) (c : Call) → length (after b c).ports ≡ length b.ports
unfolding result_of
after-length b (SetParameters port at octets) = placed-length b port _
after-length b (ReceiveResponse port at spdu safe) = placed-length b port _
after-length b (ReceiveRequest port at spdu safe) = placed-length b port _
after-length b (Clock port at safe_in safe_out) = placed-length b port _
after-length b (Operator port at setSD_C ChFAck_C safe) = placed-length b port _
after-length b (WithoutReading port act) = refl

pub eight : (past : List Call) → length (history past).ports ≡ 8
unfolding history_by new_bench
eight [] = refl
eight (c ∷ past) = after-length (history past) c ∙ eight past

-- ---- the port that a call addresses, where the call is not refused
unfoldable pub taken_at : Port → Call → Port
taken_at p (SetParameters port at octets) = accepted_port p (params_of octets) at
taken_at p (ReceiveResponse port at spdu safe) = (step_of p (happening.Response at (response_by by_bits p.setting.params spdu))).port
taken_at p (ReceiveRequest port at spdu safe) = (step_of p (happening.Request at (request_by by_bits p.setting.params spdu))).port
taken_at p (Clock port at safe_in safe_out) = (step_of p (happening.Clock at)).port
taken_at p (Operator port at setSD_C ChFAck_C safe) = (step_of p (happening.Operator at setSD_C ChFAck_C)).port
taken_at p (WithoutReading port act) = p

asked-port : (p : Port) (at : ℕ) (a : Answer) (h : Happening) → is_taken (done p at (asked a h)).reply.answer ≡ true → (done p at (asked a h)).port ≡ (step_of p h).port
unfolding done asked silent
asked-port p at (Ok t) h e = refl
asked-port p at (Err r) h e = absurd (false≢true e)

pub block-port : (p : Port) (at : ℕ) (j : Result Params Refusal) → is_taken j ≡ true → (done p at (asked_by_block j)).port ≡ accepted_port p (params_in j) at
unfolding done asked_by_block
block-port p at (Ok q) e = refl
block-port p at (Err r) e = absurd (false≢true e)

pub block-taken : (p : Port) (at : ℕ) (j : Result Params Refusal) → is_taken (done p at (asked_by_block j)).reply.answer ≡ is_taken j
unfolding done asked_by_block silent
block-taken p at (Ok q) = refl
block-taken p at (Err r) = refl

module _ (b : Bench) (all : length b.ports ≡ 8) where
  set_at : (port at : ℕ) (j : Result Params Refusal) → outside 1 8 port ≡ false → is_taken j ≡ true → port_at (placed b port (done (port_at b port) at (asked_by_block j))).bench port ≡ accepted_port (port_at b port) (params_in j) at
  set_at port at j k e =
      let p = port_at b port in
      placed_same b all port k (done p at (asked_by_block j)) (block-taken p at j ∙ e) ∙ block-port p at j e

  happened_at : (port at : ℕ) (a : Answer) (h : Happening) → outside 1 8 port ≡ false → is_taken (done (port_at b port) at (asked a h)).reply.answer ≡ true → port_at (placed b port (done (port_at b port) at (asked a h))).bench port ≡ (step_of (port_at b port) h).port
  happened_at port at a h k e = placed_same b all port k (done (port_at b port) at (asked a h)) e ∙ asked-port (port_at b port) at a h e

  pub taken_at_lem : (c : Call) → outside 1 8 (addressed c) ≡ false → is_taken (answer_of b c) ≡ true → port_at (after b c) (addressed c) ≡ taken_at (port_at b (addressed c)) c
  unfolding result_of addressed taken_at placed
  taken_at_lem (SetParameters port at octets) k e =
      let j = judged octets port in
      let t : is_taken j ≡ true = sym (block-taken (port_at b port) at j) ∙ e in
      set_at port at j k t ∙ ap (λ (q : Params). accepted_port (port_at b port) q at) (taken_params octets port t)
  taken_at_lem (ReceiveResponse port at spdu safe) k e = happened_at port at _ _ k e
  taken_at_lem (ReceiveRequest port at spdu safe) k e = happened_at port at _ _ k e
  taken_at_lem (Clock port at safe_in safe_out) k e = happened_at port at _ _ k e
  taken_at_lem (Operator port at setSD_C ChFAck_C safe) k e = happened_at port at _ _ k e
  taken_at_lem (WithoutReading port act) k e = refl

  -- a call to another port
  pub other_at : (q : ℕ) → outside 1 8 q ≡ false → (c : Call) → eqb (addressed c) q ≡ false → port_at (after b c) q ≡ port_at b q
  unfolding result_of addressed
  other_at q k (SetParameters port at octets) e = placed_other b all q k port _ e
  other_at q k (ReceiveResponse port at spdu safe) e = placed_other b all q k port _ e
  other_at q k (ReceiveRequest port at spdu safe) e = placed_other b all q k port _ e
  other_at q k (Clock port at safe_in safe_out) e = placed_other b all q k port _ e
  other_at q k (Operator port at setSD_C ChFAck_C safe) e = placed_other b all q k port _ e
  other_at q k (WithoutReading port act) e = refl

-- ---- what a call does to its port depends on that port alone
answers_same : (b d : Bench) (c : Call) → port_at b (addressed c) ≡ port_at d (addressed c) → answer_of b c ≡ answer_of d c
answers_same b d c e = answer_is b c ∙ ap (λ (p : Port). answer_by Taken (rules_of p c)) e ∙ sym (answer_is d c)

module _ (b d : Bench) (all-b : length b.ports ≡ 8) (all-d : length d.ports ≡ 8) (c : Call) (known : outside 1 8 (addressed c) ≡ false) where
  after_same : port_at b (addressed c) ≡ port_at d (addressed c) → port_at (after b c) (addressed c) ≡ port_at (after d c) (addressed c)
  after_same e = go (is_taken (answer_of b c)) refl
    where
      go : (t : Bool) → is_taken (answer_of b c) ≡ t → port_at (after b c) (addressed c) ≡ port_at (after d c) (addressed c)
      go true t =
          taken_at_lem b all-b c known t ∙ ap (λ (p : Port). taken_at p c) e ∙ sym (taken_at_lem d all-d c known (ap is_taken (sym (answers_same b d c e)) ∙ t))
      go false t =
          ap (λ (n : Bench). port_at n (addressed c)) (refused_same b c t) ∙ e
          ∙ sym (ap (λ (n : Bench). port_at n (addressed c)) (refused_same d c (ap is_taken (sym (answers_same b d c e)) ∙ t)))

-- Calls to other ports could be left out of the history with no difference to a port.
pub others : (q : ℕ) → outside 1 8 q ≡ false → (past : List Call) → port_at (history past) q ≡ port_at (history (addressing q past)) q
unfolding history_by addressing
others q k [] = refl
others q k (c ∷ past) = go (eqb (addressed c) q) refl (others q k past)
  where
    go : (same : Bool) → eqb (addressed c) q ≡ same → port_at (history past) q ≡ port_at (history (addressing q past)) q
        → port_at (after (history past) c) q ≡ port_at (history (cond same (c ∷ addressing q past) (addressing q past))) q
    go true e i =
        let z : addressed c ≡ q = eqb-true (addressed c) q e in
        rw z at (after_same (history past) (history (addressing q past)) (eight past) (eight (addressing q past)) c (rw z k) (rw z i))
    go false e i = other_at (history past) (eight past) q k c e ∙ i
