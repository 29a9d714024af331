-- Groups of rules in turn: one that refuses ends the call, and behind one that is kept the next answers. Assumes nothing.
use mathlib.Core.Path.{◌≡◌, refl, ap, ◌∙◌}
use mathlib.Core.Bool.{Bool, true, false, true≢false}
use mathlib.Core.List.{List, [], ◌∷◌, ◌++◌}
use Rattle.std.specs.Prelude.{Err}
use Rattle.answer.specs.declared.Refusal.{Refusal}
use Rattle.answer.specs.Answers.{Answer, Taken, is_taken}
use Rattle.answer.specs.Rules.{Rule, rule, refused, answer_by}
use Rattle.answer.proofs.Exact.{onward, stays}

pub after_group : (a : Answer) (group rules : List Rule) → answer_by a (group ++ rules) ≡ answer_by (answer_by a group) rules
after_group a [] rules = refl
after_group a (rule b r ∷ group) rules = after_group (refused a b r) group rules

pub ends_call : (group rules : List Rule) {r : Refusal} → answer_by Taken group ≡ Err r → answer_by Taken (group ++ rules) ≡ Err r
ends_call group rules {r} e = after_group Taken group rules ∙ onward rules e ∙ stays (Err r) rules refl

pub goes_on : (group rules : List Rule) → answer_by Taken group ≡ Taken → answer_by Taken (group ++ rules) ≡ answer_by Taken rules
goes_on group rules e = after_group Taken group rules ∙ onward rules e

-- a rule alone that leaves TAKEN is kept
pub kept_rule : (b : Bool) (r : Refusal) → Taken ≡ refused Taken b r → b ≡ false
kept_rule true r e = absurd (true≢false (ap is_taken e))
kept_rule false r e = refl
