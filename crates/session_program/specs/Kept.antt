-- Method, but for `Ran` and `Ended`: what a session program makes of the octets that it reads, chunk by chunk, and what it keeps of them. Assumes nothing.
use Rattle.std.specs.Prelude.{ℕ, suc, ◌+◌, ◌<◌, ◌≡◌, false, List, ◌++◌, Result, Ok, Err, length, take, drop}
use Rattle.std.specs.declared.io.Error.{Error}
use Rattle.record.specs.Format.{Form, nothing, part, bad, whole, form, most_octets}
use Rattle.session.specs.declared.State.{State}
use Rattle.session.specs.Run.{Entry, is_whole, records_of, rest_of, start, ran, lines_of, printed}
use Rattle.session_program.specs.declared.Chunk.{Chunk}
use Rattle.session_program.specs.declared.Going.{Going}
use Rattle.session_program.specs.declared.Going.TheVariants.{On, Over, Stopped}

-- the n octets from a place on, copied to the front of the buffer; behind them it stays as it was
abbrev pub to_front : ℕ → ℕ → List ℕ → List ℕ
to_front from n buf = take n (drop from buf) ++ drop n buf

-- all whole records of s: there are fewer than octets
abbrev pub records_in : List ℕ → List Entry
records_in s = records_of (length s) s

-- what is left behind them
abbrev pub left_of : List ℕ → List ℕ
left_of s = rest_of (length s) s

-- by what is left: "A 13 ends reading", and a bad record is one whatever follows it; one that is cut short may go on in the next chunk. A whole
-- one is never left.
abbrev pub going_on : Form → Going
going_on nothing = On
going_on part = On
going_on bad = Over
going_on whole = On

abbrev pub chunk_of : State → List ℕ → Chunk
chunk_of st s = record { state = ran st (records_in s); left = length (left_of s); going = going_on (form (left_of s)) }

-- a read or a write failed
abbrev pub stopped : State → Chunk
stopped st = record { state = st; left = 0; going = Stopped }

-- The answer r after the octets s, and the buffer, which has what is left of them at its front: where there is more to read, less than a record
-- can have. No contract says whether a write failed.
pub data Used (st : State) (s : List ℕ) (r : Chunk) (buf : List ℕ) : Type 0 where
  unwritten : r ≡ stopped st → Used st s r buf
  used : r ≡ chunk_of st s → is_whole (form (left_of s)) ≡ false → take r.left buf ≡ left_of s → (r.going ≡ On → r.left < most_octets) → Used st s r buf

-- The same after what `read` answered, with its octets behind those that are left from the last chunk. None are the end of the input.
pub data Brought (last : Chunk) (got : Result ℕ Error) (buf : List ℕ) (r : Chunk) (buf' : List ℕ) : Type 0 where
  unread : (e : Error) → got ≡ Err e → r ≡ stopped last.state → Brought last got buf r buf'
  none : got ≡ Ok 0 → r ≡ record { state = last.state; left = last.left; going = Over } → Brought last got buf r buf'
  some : (n : ℕ) → got ≡ Ok (suc n) → Used last.state (take (last.left + suc n) buf) r buf' → Brought last got buf r buf'

-- The same after a read that had room for an octet. No contract says what it answered and which octets it brought; those that were kept are left.
pub data Read (last : Chunk) (kept : List ℕ) (r : Chunk) (buf' : List ℕ) : Type 0 where
  read : (got : Result ℕ Error) (buf : List ℕ) → last.left < length buf → take last.left buf ≡ kept → Brought last got buf r buf' → Read last kept r buf'

-- before the first read
abbrev pub first : Chunk
first = record { state = start; left = 0; going = On }

-- n reads, one after the other: the last one's chunk, and the buffer after it. A chunk that does not go on is the last.
pub data After : ℕ → Chunk → List ℕ → Type 0 where
  none_yet : {buf : List ℕ} → After 0 first buf
  one_more : {n : ℕ} {last r : Chunk} {buf buf' : List ℕ} → After n last buf → last.going ≡ On → Read last (take last.left buf) r buf' → After (suc n) r buf'

-- the loop has to end: so many reads and no more, and no input takes as many
abbrev pub most_reads : ℕ
most_reads = 18446744073709551615

-- Some session leads to the last chunk, and what is printed of it behind the lines of its records is at the front of the buffer for text.
pub record Closed (last : Chunk) (out : List ℕ) : Type 0 where
  pub session : List ℕ
  pub state : last.state ≡ ran start (records_in session)
  pub left : last.left ≡ length (left_of session)
  pub text : List ℕ
  pub end : printed session ≡ lines_of start (records_in session) ++ text
  pub front : take (length text) out ≡ text

-- After all reads, r the chunk of the last of them. There is more to read only after the most; where the session has ended, its end is written.
pub record Ran (r : Chunk) (buf out : List ℕ) : Type 0 where
  pub reads : ℕ
  pub after : After reads r buf
  pub most : r.going ≡ On → reads ≡ most_reads
  pub closed : r.going ≡ Over → Closed r out

-- How the session program ended: some last chunk and buffers say it.
pub record Ended (going : Going) : Type 0 where
  pub last : Chunk
  pub buf : List ℕ
  pub out : List ℕ
  pub ran : Ran last buf out
  pub ends : last.going ≡ going
