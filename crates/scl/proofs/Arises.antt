-- The definitions that both machines share, at each of their edges: computed, with the documents' numbers. Assumes nothing.
use Rattle.std.proofs.Common.{◌≡◌, ℕ, Bool, true, false, List, [], ◌∷◌, map, refl, Some, None}
use Rattle.scl.specs.declared.Happening.{Happening}
use Rattle.scl.specs.declared.Happening.TheVariants as happening
use Rattle.scl.specs.declared.Response.{Response}
use Rattle.scl.specs.declared.Request.{Request}
use Rattle.scl.specs.declared.Mark.TheVariants.{Fresh, Safe, GoesOn, Nothing}
use Rattle.scl.specs.declared.Check.TheVariants as check
use Rattle.scl.specs.Time.{elapsed_of, expired_of}
use Rattle.scl.specs.Counts.{count_after, inverted}
use Rattle.scl.specs.Happenings.{reading_of, check_of, mark_of, is_fresh, mark_number_of, check_number_of}
use Rattle.scl.specs.Delayed.{delayed, delayed_happening}

-- 01, "Numbers to try": of W 100 elapsed 100 passes and 101 has expired
pub expired_above : (expired_of 100 0 100 ≡ false) × (expired_of 101 0 100 ≡ true)
unfolding elapsed_of
expired_above = (refl, refl)

abbrev counts : List ℕ
counts = 0 ∷ 1 ∷ 2 ∷ 3 ∷ 4 ∷ 5 ∷ 6 ∷ 7 ∷ []

-- 000 Table 33: the phases of MCount in their order, 0 initial, 1 to 7 cyclic; and DCount_i beside each
pub each_count : map count_after counts ≡ 1 ∷ 2 ∷ 3 ∷ 4 ∷ 5 ∷ 6 ∷ 7 ∷ 1 ∷ []
each_count = refl

pub each_mirror : map inverted counts ≡ 7 ∷ 6 ∷ 5 ∷ 4 ∷ 3 ∷ 2 ∷ 1 ∷ 0 ∷ []
each_mirror = refl

-- 000 Tables 38 and 40: CRC_check, PortNum_check, Counter_check, the first that fails
pub each_check : (s p : Bool) → (check_of false s p ≡ Some check.Signature) × ((check_of true false p ≡ Some check.Port) × ((check_of true true false ≡ Some check.Count) × (check_of true true true ≡ None)))
each_check s p = (refl, (refl, (refl, refl)))

-- 01: without release safe values; with it this call's values where an SPDU led to a row, else an empty part
pub each_mark : (admitted : Bool) → (mark_of admitted false ≡ Safe) × ((mark_of true true ≡ Fresh) × (mark_of false true ≡ GoesOn))
each_mark true = (refl, (refl, refl))
each_mark false = (refl, (refl, refl))

-- of the four only the first hands on octets of this call
pub each_fresh : map is_fresh (Fresh ∷ GoesOn ∷ Safe ∷ Nothing ∷ []) ≡ true ∷ false ∷ false ∷ false ∷ []
each_fresh = refl

-- as include/whakelouna.h numbers them
pub each_number :
    (map mark_number_of (Fresh ∷ GoesOn ∷ Safe ∷ Nothing ∷ []) ≡ 0 ∷ 1 ∷ 2 ∷ 3 ∷ [])
    × (map check_number_of (None ∷ Some check.Signature ∷ Some check.Port ∷ Some check.Count ∷ []) ≡ 0 ∷ 1 ∷ 2 ∷ 3 ∷ [])
each_number = (refl, refl)

-- each happening has its own reading, and a delay of k ms changes that alone
module _ (f : Response) (q : Request) (setSD_C ChFAck_C : Bool) where
  abbrev each : ℕ → List Happening
  each at = happening.Response at f ∷ happening.Request at q ∷ happening.Clock at ∷ happening.Operator at setSD_C ChFAck_C ∷ []

  pub each_reading : (at : ℕ) → map reading_of (each at) ≡ at ∷ at ∷ at ∷ at ∷ []
  each_reading at = refl

  pub each-delayed : (k at : ℕ) → map (delayed_happening k) (each at) ≡ each (delayed k at)
  unfolding delayed_happening
  each-delayed k at = refl
