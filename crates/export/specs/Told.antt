-- Answers in numbers and engines in bits, for other languages. Assumes nothing.
use Rattle.std.specs.Prelude.{Bool, cond, replicate, Result}
use Rattle.signature.specs.declared.Engine.{Engine}
use Rattle.signature.specs.declared.Engine.TheVariants as engines
use Rattle.answer.specs.Answers.{number_of, offset_of}
use Rattle.answer.specs.declared.Refusal.{Refusal}
use Rattle.block.specs.declared.Params.{Params}
use Rattle.block.specs.Rules.{params_in}
use Rattle.export.specs.declared.blocks.BlockAnswer.{BlockAnswer}

abbrev pub told_of : Result Params Refusal → BlockAnswer
told_of j = record { number = number_of j; offset = offset_of j; params = params_in j; unused = replicate 2 0 }

abbrev pub engine_of : Bool → Engine
engine_of shift = cond shift engines.Shift engines.Table
