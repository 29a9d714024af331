-- Demand 1, from the theorems of the bench. Assumes nothing.
use mathlib.Core.Path.{refl}
use Rattle.bench.proofs.Answers.{answer_is, exactly, refused_same, left_out, compose_refused, build_refused, split_refused, handed-refused}
use Rattle.claims.specs.Demand1.{Demand1}

pub demand1 : Demand1
demand1 = record {
  answered = answer_is;
  first_broken = λ p c. (exactly p c).1;
  taken = λ p c. (exactly p c).0;
  numbers = refl;
  unchanged = refused_same;
  left_out = left_out;
  image_unwritten = compose_refused;
  spdu_unwritten = build_refused;
  part_unwritten = handed-refused;
  no_parts = split_refused;
}
