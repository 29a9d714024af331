-- The safe values lent are right, so that no record is answered 7 (R27). Assumes nothing.
use Rattle.std.proofs.Common.{◌≡◌, ℕ, zero, suc, Bool, true, false, cond, not, ◌&&◌, eqb, List, [], ◌∷◌, length, replicate, refl, ap, ◌∙◌, eq-eqb}
use lib.ListN.{length-replicate}
use Rattle.std.specs.Prelude.{Err}
use Rattle.answer.specs.Answers.{Answer, Taken, number_of, is_taken}
use Rattle.answer.specs.Rules.{Rule, rule, refused, answer_by}
use Rattle.block.specs.declared.Params.{Params}
use Rattle.spdu.specs.Places.{process_octets, is_all_zero}
use Rattle.spdu.specs.Image.{safe_values_hold}
use Rattle.bench.specs.declared.Port.{Port}
use Rattle.bench.specs.declared.Bench.{Bench}
use Rattle.bench.specs.Ports.{port_at}
use Rattle.bench.specs.Calls.{safe_in_hold, safe_out_hold}
use Rattle.bench.specs.History.{Call, SetParameters, ReceiveResponse, Clock, Operator, addressed, rules_of, answer_of}
use Rattle.bench.proofs.Answers.{answer_is}
use Rattle.scl.proofs.Cases.{and_left, and_right}
use Rattle.session.specs.Run.{Entry, safe_in, safe_out, setSD_in, ack_in, call_of}

abbrev pub is_seven : Answer → Bool
is_seven a = eqb (number_of a) 7

-- no rule that is broken is answered 7
abbrev no_seven : List Rule → Bool
no_seven [] = true
no_seven (rule broken r ∷ rules) = not (is_seven (Err r) && broken) && no_seven rules

refused_by : (taken broken : Bool) (a r : Answer) → is_seven a ≡ false → not (is_seven r && broken) ≡ true → is_seven (cond (taken && broken) r a) ≡ false
refused_by true true a r e h = right (is_seven r) h
  where
    right : (b : Bool) → not (b && true) ≡ true → b ≡ false
    right true h = cc
    right false h = refl
refused_by true false a r e h = e
refused_by false true a r e h = e
refused_by false false a r e h = e

never : (rules : List Rule) (a : Answer) → is_seven a ≡ false → no_seven rules ≡ true → is_seven (answer_by a rules) ≡ false
never [] a e h = e
never (rule broken r ∷ rules) a e h =
    never rules (refused a broken r) (refused_by (is_taken a) broken a (Err r) e (and_left (not (is_seven (Err r) && broken)) (no_seven rules) h))
    (and_right (not (is_seven (Err r) && broken)) (no_seven rules) h)

zeros-zero : (n : ℕ) → is_all_zero (replicate {A = ℕ} n 0) ≡ true
zeros-zero zero = refl
zeros-zero (suc n) = zeros-zero n

lent : (mode n : ℕ) → safe_values_hold mode n (replicate {A = ℕ} (process_octets mode n) 0) ≡ true
lent mode n =
    rw (eq-eqb (length (replicate {A = ℕ} (process_octets mode n) 0)) (process_octets mode n) (length-replicate (process_octets mode n) 0), zeros-zero (process_octets mode n))

pub safe_in_lem : (q : Params) → safe_in_hold q (safe_in q) ≡ true
safe_in_lem q = lent q.FSP_ProtMode q.SPDUInLength

pub safe_out_lem : (q : Params) → safe_out_hold q (safe_out q) ≡ true
safe_out_lem q = lent q.FSP_ProtMode q.SPDUOutLength

module _ (b : Bench) (e : Entry) where
  abbrev p : Port
  p = port_at b e.port

  -- the call of a record, by three tests of its kind
  abbrev pub call : Bool → Bool → Bool → Call
  call k₁ k₂ k₃ =
      cond k₁ (SetParameters e.port e.at e.octets)
      (cond k₂ (ReceiveResponse e.port e.at e.octets (safe_in p.setting.params))
      (cond k₃ (Clock e.port e.at (safe_in p.setting.params) (safe_out p.setting.params))
      (Operator e.port e.at (setSD_in e.octets) (ack_in e.octets) (safe_in p.setting.params))))

  kept : (k₁ k₂ k₃ : Bool) → no_seven (rules_of (port_at b (addressed (call k₁ k₂ k₃))) (call k₁ k₂ k₃)) ≡ true
  unfolding rules_of addressed
  kept true k₂ k₃ = refl
  kept false true k₃ = rw (safe_in_lem p.setting.params)
  kept false false true = rw (safe_in_lem p.setting.params, safe_out_lem p.setting.params)
  kept false false false = rw (safe_in_lem p.setting.params)

  pub never_seven : is_seven (answer_of b (call_of b e)) ≡ false
  never_seven =
      let c = call_of b e in
      ap is_seven (answer_is b c) ∙ never (rules_of (port_at b (addressed c)) c) Taken refl (kept (eqb e.kind 1) (eqb e.kind 2) (eqb e.kind 3))
