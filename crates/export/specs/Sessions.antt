-- A fed block in numbers, for other languages. Assumes nothing.
use Rattle.std.specs.Prelude.{replicate, ℕ, Option, None, Some}
use Rattle.session.specs.declared.Fed.{Fed}
use Rattle.record.specs.declared.NoRecord.{NoRecord}
use Rattle.record.specs.declared.NoRecord.TheVariants.{Bad, Cut, End}
use Rattle.export.specs.declared.sessions.FedTold.{FedTold}

-- the numbers of the stops outside
abbrev pub stop_number_of : Option NoRecord → ℕ
stop_number_of None = 0
stop_number_of (Some Bad) = 1
stop_number_of (Some Cut) = 2
stop_number_of (Some End) = 3

abbrev pub fed_told : Fed → FedTold
fed_told f = record { state = f.state; used = f.used; written = f.written; stop = stop_number_of f.stop; unused = replicate 7 0 }
