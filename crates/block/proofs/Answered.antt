-- Each answer to a block, number and offset, is given exactly where its rule is broken and none before it is; TAKEN exactly where none is broken,
-- and then with the parameters that stand in the block. Over every list of octets and every port. Assumes nothing.
use mathlib.Core.Path.{◌≡◌, refl}
use mathlib.Core.Logic.{◌↔◌}
use mathlib.Core.Bool.{true, false, true≢false, false≢true}
use mathlib.Core.List.{List, [], ◌∷◌}
use Prim.Native.Nat.{ℕ, ◌<◌}
use Rattle.std.specs.Prelude.{Ok, Err}
use Rattle.answer.specs.Answers.{Answer, Taken, refusal_number, refusal_offset, is_taken, with_value, without_value}
use Rattle.answer.specs.Rules.{Rule, rule, answer_by, answer_at, First, Kept}
use Rattle.answer.proofs.Exact.{given_exactly, taken_exactly}
use Rattle.answer.proofs.Values.{answer_alone, answer_taken}
use Rattle.block.specs.Table22.{params_of}
use Rattle.block.specs.Rules.{rules_on, no_params, judged, params_in}

-- each rule's number and offset
abbrev answers_in : List Rule → List (ℕ × ℕ)
answers_in [] = []
answers_in (rule broken refusal ∷ rules) = (refusal_number refusal, refusal_offset refusal) ∷ answers_in rules

module _ (s : List ℕ) (port : ℕ) where
  -- "Order for a parameter block: 8, 1, 2, 3, 4, 5, 12, 6", of 5 and 6 the lowest offset first
  pub in_order : answers_in (rules_on s port)
      ≡ (8, 0) ∷ (1, 0) ∷ (2, 0) ∷ (3, 0) ∷ (4, 0)
      ∷ (5, 3) ∷ (5, 4) ∷ (5, 6) ∷ (5, 8) ∷ (5, 12) ∷ (5, 13) ∷ (5, 22) ∷ (5, 25) ∷ (5, 26) ∷ (5, 27) ∷ (5, 37) ∷ (5, 38) ∷ (5, 39) ∷ (5, 43) ∷ (5, 44)
      ∷ (12, 0) ∷ (6, 23) ∷ (6, 29) ∷ (6, 35) ∷ []
  in_order = refl

  pub given : (i : ℕ) → i < 24 → (without_value (judged s port) ≡ answer_at (rules_on s port) i) ↔ First (rules_on s port) i
  given i h = rw (answer_alone (answer_by Taken (rules_on s port)) (params_of s)) (given_exactly (rules_on s port) tt i h)

  pub taken : (is_taken (judged s port) ≡ true) ↔ Kept (rules_on s port)
  taken = rw (answer_taken (answer_by Taken (rules_on s port)) (params_of s)) (taken_exactly (rules_on s port))

  pub taken_params : is_taken (judged s port) ≡ true → params_in (judged s port) ≡ params_of s
  taken_params e = in_case (answer_by Taken (rules_on s port)) e
    where
      in_case : (a : Answer) → is_taken (with_value a (params_of s)) ≡ true → params_in (with_value a (params_of s)) ≡ params_of s
      in_case (Ok t) e = refl
      in_case (Err r) e = absurd (false≢true e)

  pub refused-params : is_taken (judged s port) ≡ false → params_in (judged s port) ≡ no_params
  refused-params e = in_case (answer_by Taken (rules_on s port)) e
    where
      in_case : (a : Answer) → is_taken (with_value a (params_of s)) ≡ false → params_in (with_value a (params_of s)) ≡ no_params
      in_case (Ok t) e = absurd (true≢false e)
      in_case (Err r) e = refl

-- no parameters: each reads 0, as an octet past the end does
pub none_stand : no_params ≡ params_of []
none_stand = refl
