-- A value that comes with an answer changes no answer. Assumes nothing.
use mathlib.Core.Path.{◌≡◌, refl}
use Rattle.std.specs.Prelude.{Ok, Err}
use Rattle.answer.specs.Answers.{Answer, is_taken, with_value, without_value}

module _ {A : Type 0} where
  pub answer_alone : (a : Answer) (x : A) → without_value (with_value a x) ≡ a
  answer_alone (Ok t) x = refl
  answer_alone (Err r) x = refl

  pub answer_taken : (a : Answer) (x : A) → is_taken (with_value a x) ≡ is_taken a
  answer_taken (Ok t) x = refl
  answer_taken (Err r) x = refl
