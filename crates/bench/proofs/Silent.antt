-- A refused call hands on nothing, and says that nothing is released (R26, R27). Assumes nothing.
use Prim.Native.Nat.{ℕ}
use mathlib.Core.Path.{◌≡◌, refl}
use mathlib.Core.Bool.{true, false}
use Rattle.answer.specs.Answers.{is_taken}
use Rattle.scl.specs.declared.Mark.TheVariants.{Nothing}
use Rattle.scl.proofs.Cases.{no}
use Rattle.bench.specs.declared.Port.{Port}
use Rattle.bench.specs.declared.Bench.{Bench}
use Rattle.bench.specs.declared.Reply.{Reply}
use Rattle.bench.specs.declared.Act.{Act}
use Rattle.bench.specs.declared.Act.TheVariants.{Accepted, Happens}
use Rattle.std.specs.Prelude.{Result, Ok, Err}
use Rattle.answer.specs.declared.Refusal.{Refusal}
use Rattle.bench.specs.Methods.{annex_d}
use Rattle.bench.specs.Ports.{port_at, step_of, said, silent}
use Rattle.bench.specs.Calls as calls
use Rattle.bench.specs.History.{Call, SetParameters, ReceiveResponse, ReceiveRequest, Clock, Operator, WithoutReading, answer_of, result_of}

pub record NothingSaid (r : Reply) : Type 0 where
  pub master : r.master ≡ Nothing
  pub device : r.device ≡ Nothing
  pub master_releases : r.master_releases ≡ false
  pub device_releases : r.device_releases ≡ false

-- of the reply that a call returns; a call without a reading returns none
unfoldable pub Says : (Reply → Type 0) → Bench → Call → Type 0
Says P b (SetParameters port at octets) = P (calls.set_parameters annex_d b port at octets).reply
Says P b (ReceiveResponse port at spdu safe) = P (calls.receive_response annex_d b port at spdu safe).reply
Says P b (ReceiveRequest port at spdu safe) = P (calls.receive_request annex_d b port at spdu safe).reply
Says P b (Clock port at safe_in safe_out) = P (calls.clock b port at safe_in safe_out).reply
Says P b (Operator port at setSD_C ChFAck_C safe) = P (calls.operator b port at setSD_C ChFAck_C safe).reply
Says P b (WithoutReading port act) = true ≡ true

refused-act : (p : Port) (at : ℕ) (a : Result Act Refusal) → is_taken (calls.done p at a).reply.answer ≡ false → NothingSaid (calls.done p at a).reply
unfolding calls.done step_of said silent
refused-act p at (Err r) e = record { master = refl; device = refl; master_releases = refl; device_releases = refl }
refused-act p at (Ok (Accepted params)) e = no e
refused-act p at (Ok (Happens h)) e = no e

pub refused_says : (b : Bench) (c : Call) → is_taken (answer_of b c) ≡ false → Says NothingSaid b c
unfolding Says result_of calls.placed
refused_says b (SetParameters port at octets) e = refused-act (port_at b port) at _ e
refused_says b (ReceiveResponse port at spdu safe) e = refused-act (port_at b port) at _ e
refused_says b (ReceiveRequest port at spdu safe) e = refused-act (port_at b port) at _ e
refused_says b (Clock port at safe_in safe_out) e = refused-act (port_at b port) at _ e
refused_says b (Operator port at setSD_C ChFAck_C safe) e = refused-act (port_at b port) at _ e
refused_says b (WithoutReading port act) e = refl
