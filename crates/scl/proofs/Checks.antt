-- The three checks (R13): one fails exactly where not all hold. Assumes nothing.
use Rattle.std.proofs.Common.{◌≡◌, Bool, true, false, not, ◌&&◌, refl}
use Rattle.scl.specs.Happenings.{check_of, is_failure}
use Rattle.scl.proofs.Cases.{no}

pub failed : (signature port count : Bool) → is_failure (check_of signature port count) ≡ not (signature && port && count)
failed true true true = refl
failed true true false = refl
failed true false count = refl
failed false port count = refl

pub passed : (signature port count : Bool) → not (is_failure (check_of signature port count)) ≡ (signature && port && count)
passed true true true = refl
passed true true false = refl
passed true false count = refl
passed false port count = refl

pub all_hold : (signature port count : Bool) → is_failure (check_of signature port count) ≡ false → (signature ≡ true) × ((port ≡ true) × (count ≡ true))
all_hold true true true e = (refl, (refl, refl))
all_hold true true false e = no e
all_hold true false count e = no e
all_hold false port count e = no e
