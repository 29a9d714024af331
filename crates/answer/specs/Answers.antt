-- Document 01, "Answer numbers": the number of each answer, and the offset that is returned with it. Assumes nothing.
use Rattle.std.specs.Prelude.{ℕ, Bool, Result, Ok, Err, ⊤, is_ok}
use Rattle.answer.specs.declared.Refusal.{Refusal}
use Rattle.answer.specs.declared.Refusal.TheVariants.{
  BlockSize,
  BlockId,
  PortMode,
  NoScl,
  FieldRange,
  Signature,
  Buffer,
  NoPort,
  NotRunning,
  SpduLength,
  NoSamples,
  PortMismatch,
  Record,
}

-- TAKEN, or why a call is refused
abbrev pub Answer : Type 0
Answer = Result ⊤ Refusal

abbrev pub Taken : Answer
Taken = Ok tt

-- the table's first column, below TAKEN
abbrev pub refusal_number : Refusal → ℕ
refusal_number BlockSize = 1
refusal_number BlockId = 2
refusal_number PortMode = 3
refusal_number NoScl = 4
refusal_number (FieldRange at) = 5
refusal_number (Signature at) = 6
refusal_number Buffer = 7
refusal_number NoPort = 8
refusal_number NotRunning = 9
refusal_number SpduLength = 10
refusal_number NoSamples = 11
refusal_number PortMismatch = 12
refusal_number Record = 13

-- "Offsets are 0 for numbers other than 5 and 6."
abbrev pub refusal_offset : Refusal → ℕ
refusal_offset BlockSize = 0
refusal_offset BlockId = 0
refusal_offset PortMode = 0
refusal_offset NoScl = 0
refusal_offset (FieldRange at) = at
refusal_offset (Signature at) = at
refusal_offset Buffer = 0
refusal_offset NoPort = 0
refusal_offset NotRunning = 0
refusal_offset SpduLength = 0
refusal_offset NoSamples = 0
refusal_offset PortMismatch = 0
refusal_offset Record = 0

-- the same of a whole answer, also of one that comes with a value: TAKEN has the number 0
abbrev pub number_of : {A : Type 0} → Result A Refusal → ℕ
number_of (Ok x) = 0
number_of (Err r) = refusal_number r

abbrev pub offset_of : {A : Type 0} → Result A Refusal → ℕ
offset_of (Ok x) = 0
offset_of (Err r) = refusal_offset r

abbrev pub is_taken : {A : Type 0} → Result A Refusal → Bool
is_taken a = is_ok a

-- the value x with TAKEN; of a refusal none
abbrev pub with_value : {A : Type 0} → Answer → A → Result A Refusal
with_value (Ok t) x = Ok x
with_value (Err r) x = Err r

-- the answer alone
abbrev pub without_value : {A : Type 0} → Result A Refusal → Answer
without_value (Ok x) = Taken
without_value (Err r) = Err r
