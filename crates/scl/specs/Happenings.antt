-- What happens at a port, and what a call says of it. Assumes nothing.
use Rattle.std.specs.Prelude.{ℕ, Bool, true, false, cond, not, Option, Some, None}
use Rattle.scl.specs.declared.Happening.{Happening}
use Rattle.scl.specs.declared.Happening.TheVariants as happening
use Rattle.scl.specs.declared.Mark.{Mark}
use Rattle.scl.specs.declared.Mark.TheVariants.{Fresh, Safe, GoesOn, Nothing}
use Rattle.scl.specs.declared.Check.{Check}
use Rattle.scl.specs.declared.Check.TheVariants as check

-- 01: "Every happening, and every parameter block, carries a clock reading in ms."
abbrev pub reading_of : Happening → ℕ
reading_of (happening.Response at response) = at
reading_of (happening.Request at request) = at
reading_of (happening.Clock at) = at
reading_of (happening.Operator at setSD_C ChFAck_C) = at

-- The check that failed first, in their order (R13): signature, port number, count; of each whether it holds.
abbrev pub check_of : Bool → Bool → Bool → Option Check
check_of signature port count =
    cond (not signature) (Some check.Signature) (cond (not port) (Some check.Port) (cond (not count) (Some check.Count) None))

-- MCommErr (000 Table 37), CommErr (Table 39)
abbrev pub is_failure : Option Check → Bool
is_failure None = false
is_failure (Some check.Signature) = true
is_failure (Some check.Port) = true
is_failure (Some check.Count) = true

-- 01: safe values where the end does not release; else what this call's SPDU led to, or an empty part where no SPDU led to a row and earlier
-- values stay released (R13a, R26)
abbrev pub mark_of : Bool → Bool → Mark
mark_of admitted released = cond (not released) Safe (cond admitted Fresh GoesOn)

-- this call's SPDU led to a release: its process octets are handed on
abbrev pub is_fresh : Mark → Bool
is_fresh Fresh = true
is_fresh GoesOn = false
is_fresh Safe = false
is_fresh Nothing = false

-- their numbers outside
abbrev pub mark_number_of : Mark → ℕ
mark_number_of Fresh = 0
mark_number_of GoesOn = 1
mark_number_of Safe = 2
mark_number_of Nothing = 3

abbrev pub check_number_of : Option Check → ℕ
check_number_of None = 0
check_number_of (Some check.Signature) = 1
check_number_of (Some check.Port) = 2
check_number_of (Some check.Count) = 3
