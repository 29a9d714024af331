-- "A refusal changes no state": where the number told is not 0, the bench told is the bench given. Assumes nothing.
use Prim.Native.Nat.{ℕ}
use native.Mathlib.Omega.{arith}
use mathlib.Core.Path.{◌≡◌, refl}
use mathlib.Core.Bool.{Bool, false}
use mathlib.Core.List.{List, []}
use Rattle.std.specs.Prelude.{Ok, Err}
use Rattle.answer.specs.Answers.{Answer, number_of, is_taken}
use Rattle.bench.specs.declared.Bench.{Bench}
use Rattle.bench.specs.declared.BenchAfter.{BenchAfter}
use Rattle.bench.specs.Methods.{annex_d}
use Rattle.bench.specs.Ports.{new_port, new_bench, port_at, silent}
use Rattle.bench.specs.Calls as calls
use Rattle.bench.specs.History.{SetParameters, ReceiveResponse, ReceiveRequest, Clock, Operator, result_of}
use Rattle.bench.proofs.Answers.{refused_same}
use Rattle.export.specs.Benches.{bench_told}

-- of what a call returns from the bench b
abbrev pub KeptIfRefused : Bench → BenchAfter → Type 0
KeptIfRefused b a = ((bench_told a).reply.number ≡ 0 → ⊥) → (bench_told a).bench ≡ b

untaken : (x : Answer) → (number_of x ≡ 0 → ⊥) → is_taken x ≡ false
untaken (Ok t) n = absurd (n refl)
untaken (Err r) n = refl

kept : (b : Bench) (a : BenchAfter) → (is_taken a.reply.answer ≡ false → a.bench ≡ b) → KeptIfRefused b a
kept b a same refused = same (untaken a.reply.answer refused)

module _ (b : Bench) (port at : ℕ) where
  pub parameters_refused : (octets : List ℕ) → KeptIfRefused b (calls.set_parameters annex_d b port at octets)
  unfolding result_of
  parameters_refused octets = kept b (calls.set_parameters annex_d b port at octets) (refused_same b (SetParameters port at octets))

  pub response-refused : (spdu safe : List ℕ) → KeptIfRefused b (calls.receive_response annex_d b port at spdu safe)
  unfolding result_of
  response-refused spdu safe = kept b (calls.receive_response annex_d b port at spdu safe) (refused_same b (ReceiveResponse port at spdu safe))

  pub request-refused : (spdu safe : List ℕ) → KeptIfRefused b (calls.receive_request annex_d b port at spdu safe)
  unfolding result_of
  request-refused spdu safe = kept b (calls.receive_request annex_d b port at spdu safe) (refused_same b (ReceiveRequest port at spdu safe))

  pub clock_refused : (safe_in safe_out : List ℕ) → KeptIfRefused b (calls.clock b port at safe_in safe_out)
  unfolding result_of
  clock_refused safe_in safe_out = kept b (calls.clock b port at safe_in safe_out) (refused_same b (Clock port at safe_in safe_out))

  pub operator-refused : (setSD_C ChFAck_C : Bool) (safe : List ℕ) → KeptIfRefused b (calls.operator b port at setSD_C ChFAck_C safe)
  unfolding result_of
  operator-refused setSD_C ChFAck_C safe = kept b (calls.operator b port at setSD_C ChFAck_C safe) (refused_same b (Operator port at setSD_C ChFAck_C safe))

-- a clock reading for a port that does not run is told 9
pub clock_refused_met : (bench_told (calls.clock new_bench 2 0 [] [])).bench ≡ new_bench
unfolding calls.placed calls.done calls.asked port_at new_bench new_port silent
clock_refused_met = clock_refused new_bench 2 0 [] [] (λ e. let nine : ◌≡◌ {A = ℕ} 9 0 = e in absurd (omega arith))
