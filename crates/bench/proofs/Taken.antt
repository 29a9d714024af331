-- TAKEN is the one answer that refuses nothing; a call whose last rule is on a buffer. Assumes nothing.
use mathlib.Core.Path.{◌≡◌, refl}
use mathlib.Core.Bool.{Bool, true, false, cond, not, false≢true}
use Rattle.std.specs.Prelude.{Ok, Err}
use Rattle.answer.specs.declared.Refusal.TheVariants.{Buffer}
use Rattle.answer.specs.Answers.{Answer, Taken, is_taken}
use Rattle.answer.specs.Rules.{refused}
use Rattle.spdu.specs.Built.{built_as}

pub taken_is : (a : Answer) → is_taken a ≡ true → Taken ≡ a
taken_is (Ok t) e = refl
taken_is (Err r) e = absurd (false≢true e)

-- where the rules before are kept the answer is the buffer's, else theirs: as a list of rules
pub on_buffers_lem : (a : Answer) (hold : Bool) → cond (is_taken a) (built_as hold) a ≡ refused a (not hold) Buffer
on_buffers_lem (Ok t) true = refl
on_buffers_lem (Ok t) false = refl
on_buffers_lem (Err r) hold = refl

-- an answer on buffers is TAKEN only where 8 and 9 are kept and the buffers hold
pub both_kept : (a : Answer) (hold : Bool) → is_taken (cond (is_taken a) (built_as hold) a) ≡ true → (is_taken a ≡ true) × (hold ≡ true)
both_kept (Ok t) true e = (refl, refl)
both_kept (Ok t) false e = absurd (false≢true e)
both_kept (Err r) hold e = absurd (false≢true e)
