-- The records read so far are told of, and the columns are where they lead.
use Rattle.session.proofs.Going.{Going}
use Rattle.session.proofs.run.feed.Given as goal

abbrev pub invariant-loop-left : goal.invariant-loop-left
invariant-loop-left l =
    Going l.fn.st l.fn.s l.fn.out l.room l.fn.st.records l.out l.settings l.lives l.bins l.refused l.left l.at l.written

abbrev pub decreases-loop-left : goal.decreases-loop-left
decreases-loop-left l = l.left
