-- The calls on outgoing and incoming octets. They have no reading, look at no watchdog and change no state
-- (R11). What signs goes by a method. Assumes nothing.
use Rattle.std.specs.Prelude.{ℕ, Bool, cond, List, [], length}
use Rattle.answer.specs.Answers.{Answer, Taken, is_taken}
use Rattle.answer.specs.Rules.{answer_by}
use Rattle.spdu.specs.Built.{built_as, buffers_hold, response_built}
use Rattle.spdu.specs.Image as image
use Rattle.bench.specs.declared.Port.{Port}
use Rattle.bench.specs.Methods.{Method}
use Rattle.bench.specs.Calls.{call_rules}

-- 8 and 9 (R27); where both are kept, the answer on the buffers: 7 for a wrong length, else TAKEN
abbrev pub on_buffers : ℕ → Port → Bool → Answer
on_buffers port p hold = let a = answer_by Taken (call_rules port p.setting) in cond (is_taken a) (built_as hold) a

-- "A refusal .. writes no buffer": what stands in a buffer later
abbrev pub unless_refused : ℕ → Port → List ℕ → List ℕ → List ℕ
unless_refused port p written unchanged = cond (is_taken (answer_by Taken (call_rules port p.setting))) written unchanged

-- the FS-Master's outgoing image
unfoldable pub compose_answer : ℕ → Port → List ℕ → List ℕ → List ℕ → Answer
compose_answer port p process other octets = on_buffers port p (image.composer_holds p.setting.params (length process) (length other) (length octets))

unfoldable pub composed : Method → ℕ → Port → List ℕ → List ℕ → List ℕ → List ℕ
composed m port p process other octets =
    let master = p.live.master in
    unless_refused port p (image.composed m.spdu p.setting.params master.MCount master.setSD master.ChFAckReq process other octets) octets

-- the FS-Device's outgoing SPDU
unfoldable pub build_answer : ℕ → Port → List ℕ → List ℕ → Answer
build_answer port p process out =
    on_buffers port p (buffers_hold p.setting.params.FSP_ProtMode p.setting.params.SPDUInLength (length process) (length out))

unfoldable pub response_out : Method → ℕ → Port → List ℕ → List ℕ → List ℕ
response_out m port p process out =
    let d = p.live.device in
    unless_refused port p (response_built m.spdu p.setting.params d.responded d.DCount_i d.SDset d.DCommErr d.DTimeout process out) out

-- the two parts of an incoming image; of a refused one both are empty
unfoldable pub split_answer : ℕ → Port → List ℕ → Answer
split_answer port p octets = on_buffers port p (image.splitter_holds p.setting.params (length octets))

unfoldable pub spdu_part : ℕ → Port → List ℕ → List ℕ
spdu_part port p octets = unless_refused port p (image.spdu_part p.setting.params octets) []

unfoldable pub other_part : ℕ → Port → List ℕ → List ℕ
other_part port p octets = unless_refused port p (image.other_part p.setting.params octets) []
