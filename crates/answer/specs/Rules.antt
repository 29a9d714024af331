-- 01, "Answer numbers": "Where several conditions hold, the first in the order below is the answer". A call's rules are a list in that order.
-- Assumes nothing.
use Rattle.std.specs.Prelude.{ℕ, zero, suc, ◌<◌, ◌≡◌, Bool, true, false, cond, ◌&&◌, List, [], ◌∷◌, Err}
use Rattle.answer.specs.declared.Refusal.{Refusal}
use Rattle.answer.specs.Answers.{Answer, Taken, is_taken}

-- whether a rule is broken, and the refusal where it is
pub data Rule : Type 0 where
  rule : Bool → Refusal → Rule

-- after the answer a of the rules before: an earlier refusal stays; else a broken rule refuses
abbrev pub refused : Answer → Bool → Refusal → Answer
refused a broken refusal = cond (is_taken a && broken) (Err refusal) a

-- the rules in their order
abbrev pub answer_by : Answer → List Rule → Answer
answer_by a [] = a
answer_by a (rule broken refusal ∷ rules) = answer_by (refused a broken refusal) rules

-- whether the rule at place i is broken, and its answer; past the end none is
abbrev pub broken_at : List Rule → ℕ → Bool
broken_at [] i = false
broken_at (rule b r ∷ rules) zero = b
broken_at (rule b r ∷ rules) (suc i) = broken_at rules i

abbrev pub answer_at : List Rule → ℕ → Answer
answer_at [] i = Taken
answer_at (rule b r ∷ rules) zero = Err r
answer_at (rule b r ∷ rules) (suc i) = answer_at rules i

-- the rule at place i is broken, and none before it
pub record First (rules : List Rule) (i : ℕ) : Type 0 where
  pub broken : broken_at rules i ≡ true
  pub earlier : (j : ℕ) → j < i → broken_at rules j ≡ false

-- no rule is broken
pub record Kept (rules : List Rule) : Type 0 where
  pub each : (j : ℕ) → broken_at rules j ≡ false
