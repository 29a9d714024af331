-- Demand 3, from the theorems on what the machines read. Assumes nothing.
use Rattle.spdu.proofs.Arrived as arrived
use Rattle.claims.specs.Demand3.{Demand3}

pub demand3 : Demand3
demand3 = record {
  master = λ p process port control es size. record {
    exactly = arrived.response_exact p process port control es size;
    burst = arrived.response_burst p process port control es size;
    odd = arrived.response_odd p process port control es size;
    none = arrived.response_none p process port control es size;
  };
  device = λ p process port control es size. record {
    exactly = arrived.request_exact p process port control es size;
    burst = arrived.request_burst p process port control es size;
    odd = arrived.request_odd p process port control es size;
    none = arrived.request_none p process port control es size;
  };
}
