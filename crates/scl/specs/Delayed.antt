-- All readings later by k ms: the words in which it is said that the wrap of the clock changes nothing. Assumes nothing.
use Rattle.std.specs.Prelude.{ℕ, ◌+◌, ◌%◌, ◌^◌, ◌<◌, List, [], ◌∷◌, map}
use Rattle.scl.specs.declared.Happening.{Happening}
use Rattle.scl.specs.declared.Happening.TheVariants as happening
use Rattle.scl.specs.Happenings.{reading_of}

abbrev pub delayed : ℕ → ℕ → ℕ
delayed k reading = (reading + k) % 2 ^ 32

unfoldable pub delayed_happening : ℕ → Happening → Happening
delayed_happening k (happening.Response at response) = happening.Response (delayed k at) response
delayed_happening k (happening.Request at request) = happening.Request (delayed k at) request
delayed_happening k (happening.Clock at) = happening.Clock (delayed k at)
delayed_happening k (happening.Operator at setSD_C ChFAck_C) = happening.Operator (delayed k at) setSD_C ChFAck_C

abbrev pub delayed_past : ℕ → List Happening → List Happening
delayed_past k past = map (delayed_happening k) past

-- 01: "The clock is a 32-bit count of ms": each reading is one
pub data OnClock : List Happening → Type 0 where
  none : OnClock []
  more : {h : Happening} {past : List Happening} → reading_of h < 2 ^ 32 → OnClock past → OnClock (h ∷ past)
