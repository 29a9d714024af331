-- What elapsed time means. Assumes nothing.
use Rattle.std.proofs.Common.{◌≡◌, ℕ, ◌+◌, ◌-◌, ◌%◌, ◌^◌, ◌<◌, ◌≤◌, refl, arith}
use Rattle.scl.specs.Time.{elapsed_of}
use Rattle.scl.specs.Delayed.{delayed}

-- elapsed time is the one number below 2^32 that, added to the earlier reading, gives the later one modulo 2^32
pub elapsed_is : (r now since : ℕ) → r < 2 ^ 32 → since < 2 ^ 32 → (r + since) % 2 ^ 32 ≡ now → r ≡ elapsed_of now since
unfolding elapsed_of
elapsed_is r now since r-fits since-fits e = omega arith

pub meaning : (now since : ℕ) → now < 2 ^ 32 → since < 2 ^ 32 → (elapsed_of now since + since) % 2 ^ 32 ≡ now
unfolding elapsed_of
meaning now since now-fits since-fits = omega arith

-- a clock that has not wrapped between the two readings: the plain difference
pub forward : (now since : ℕ) → now < 2 ^ 32 → since ≤ now → elapsed_of now since ≡ now - since
unfolding elapsed_of
forward now since fits later = omega arith

-- "A clock that goes back reads as a very long wait": 2^32 less what it went back by
pub backward : (now since : ℕ) → now < since → since < 2 ^ 32 → elapsed_of now since ≡ 2 ^ 32 - (since - now)
unfolding elapsed_of
backward now since earlier fits = omega arith

-- the wrap of the clock changes nothing: both readings later by the same amount
pub shifted : (now since k : ℕ) → now < 2 ^ 32 → since < 2 ^ 32 → elapsed_of (delayed k now) (delayed k since) ≡ elapsed_of now since
unfolding elapsed_of
shifted now since k now-fits since-fits = omega arith

-- the premises are met, by readings over the wrap and by others
pub elapsed_met : 246 ≡ elapsed_of 150 4294967200
elapsed_met = elapsed_is 246 150 4294967200 (omega arith) (omega arith) refl

pub meaning_met : (elapsed_of 150 4294967200 + 4294967200) % 2 ^ 32 ≡ 150
meaning_met = meaning 150 4294967200 (omega arith) (omega arith)

pub forward_met : elapsed_of 4294967295 4294967290 ≡ 5
forward_met = forward 4294967295 4294967290 (omega arith) (omega arith)

pub backward_met : elapsed_of 1000 1001 ≡ 4294967295
backward_met = backward 1000 1001 (omega arith) (omega arith)

pub shifted_met : elapsed_of (delayed 14 4294967286) (delayed 14 4294967276) ≡ elapsed_of 4294967286 4294967276
shifted_met = shifted 4294967286 4294967276 14 (omega arith) (omega arith)
