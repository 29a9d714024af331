-- Both engines, from the theorems of the crates signature, bench and session. Assumes nothing.
use Rattle.signature.proofs.Engines.{engine_signs}
use Rattle.bench.proofs.Engines.{right_methods, same_results}
use Rattle.session.proofs.Engines.{same_text}
use Rattle.claims.specs.Engines.{Engines}

pub engines : Engines
engines = record { signatures = engine_signs; meant = right_methods; calls = same_results; text = same_text }
