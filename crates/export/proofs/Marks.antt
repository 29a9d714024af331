-- The number that a call's reply has for a mark is that mark's. Assumes nothing.
use mathlib.Core.Path.{◌≡◌, refl}
use Rattle.scl.specs.declared.Mark.{Mark}
use Rattle.scl.specs.declared.Mark.TheVariants.{Fresh, GoesOn, Safe, Nothing}
use Rattle.scl.specs.Happenings.{mark_number_of}
use Rattle.export.specs.Benches.{mark_numbered}

pub mark_back : (m : Mark) → mark_numbered (mark_number_of m) ≡ m
unfolding mark_numbered
mark_back Fresh = refl
mark_back GoesOn = refl
mark_back Safe = refl
mark_back Nothing = refl
