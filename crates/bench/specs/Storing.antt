-- Method: what a call stores in its port's place, as the private functions of src/calls.rt are held to it. What is meant is `placed` (Calls.antt).
-- Assumes nothing.
use Rattle.std.specs.Prelude.{ℕ, Bool, true, false, List, set, Result, Ok, Err}
use Rattle.answer.specs.declared.Refusal.{Refusal}
use Rattle.bench.specs.declared.Port.{Port}
use Rattle.bench.specs.declared.Bench.{Bench}
use Rattle.bench.specs.declared.Act.{Act}
use Rattle.bench.specs.declared.Act.TheVariants.{Accepted, Happens}
use Rattle.bench.specs.declared.BenchAfter.{BenchAfter}
use Rattle.bench.specs.Ports.{accepted_port, step_of}
use Rattle.bench.specs.Calls.{done}

-- an act in place k of a bench, for the port p that stands there: a refusal stores nothing
abbrev pub acted_ports : List Port → ℕ → Port → ℕ → Result Act Refusal → List Port
acted_ports l k p at (Err r) = l
acted_ports l k p at (Ok (Accepted params)) = set l k (accepted_port p params at)
acted_ports l k p at (Ok (Happens h)) = set l k (step_of p h).port

abbrev pub acted : Bench → ℕ → Port → ℕ → Result Act Refusal → BenchAfter
acted b k p at a = record { bench = record { ports = acted_ports b.ports k p at a }; reply = (done p at a).reply }

-- parameters are accepted
abbrev pub has_block : Result Act Refusal → Bool
has_block (Err r) = false
has_block (Ok (Accepted params)) = true
has_block (Ok (Happens h)) = false
