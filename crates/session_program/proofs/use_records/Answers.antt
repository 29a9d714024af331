-- `session_program::use_records` meets its contract. Assumes nothing.
use Rattle.std.proofs.Common.{length, refl, ap, ◌∙◌, arith, rules}
use Rattle.std.specs.Prelude.{Some}
use Rattle.session_program.proofs.Taking.{begin, again, falls, ends}
use Rattle.session_program.proofs.use_records.Goals as goal

pub loop-program-init : goal.loop-program-init
loop-program-init c = (refl, refl, begin _ _ _ (omega arith) (λ k. omega (arith, c.type_inv.buf k)))

pub loop-program-smaller : goal.loop-program-smaller
loop-program-smaller c =
    let l = c.loop-program in
    let f = c.feed-fed in
    falls l.invariant.2 (length l.out) f.result f.ensures.value (omega (arith, c.requires.line_room_in_bounds)) c.in-None.is

pub loop-program-preserved : goal.loop-program-preserved
loop-program-preserved c =
    let l = c.loop-program in
    let f = c.feed-fed in
    (search rules, search rules, again l.invariant.2 (length l.out) f.result f.ensures.value)

pub returns-in-Some-Bad : goal.returns-in-Some-Bad
returns-in-Some-Bad c =
    let f = c.feed-fed in
    let s = c.in-Some-Bad in
    let k = c.keep.ensures in
    ends c.loop-program.invariant.2 (length c.loop-program.out) f.result f.ensures.value (s.is ∙ ap Some (rw s.is at s.field-0-is)) refl k.chunk _ k.to_front

pub returns-in-Some-Cut : goal.returns-in-Some-Cut
returns-in-Some-Cut c =
    let f = c.feed-fed in
    let s = c.in-Some-Cut in
    let k = c.keep-in-Some-Cut.ensures in
    ends c.loop-program.invariant.2 (length c.loop-program.out) f.result f.ensures.value (s.is ∙ ap Some (rw s.is at s.field-0-is)) refl k.chunk _ k.to_front

pub returns-in-Some-End : goal.returns-in-Some-End
returns-in-Some-End c =
    let f = c.feed-fed in
    let s = c.in-Some-End in
    let k = c.keep-in-Some-End.ensures in
    ends c.loop-program.invariant.2 (length c.loop-program.out) f.result f.ensures.value (s.is ∙ ap Some (rw s.is at s.field-0-is)) refl k.chunk _ k.to_front
