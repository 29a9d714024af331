-- The session program (01): the text of every list of octets, fed in chunks of any sizes. What a session prints is `printed` (session specs/Run.antt);
-- the contracts of `feed` and `finish` say that they make this text. No field here says that a program reads all octets and writes all text: no contract
-- can speak of what a read brings and a write takes; it is run and compared. Assumes nothing.
use Rattle.std.specs.Prelude.{ℕ, ◌≡◌, true, false, not, List, [], ◌∷◌, ◌++◌, eqb, length, replicate}
use Rattle.ranges.specs.Fields.{outside}
use Rattle.block.specs.declared.Params.{Params}
use Rattle.scl.specs.declared.Happening.{Happening}
use Rattle.histogram.specs.Samples.{lowest_of, highest_of}
use Rattle.bench.specs.Ports.{port_at}
use Rattle.bench.specs.History.{history, never, since, since_block}
use Rattle.record.specs.Format.{bad, form}
use Rattle.lines.specs.Text.{refusal_line, summary_line, port_line}
use Rattle.session.specs.declared.State.{State}
use Rattle.session.specs.Text.{line_of_port}
use Rattle.session.specs.Run.{Entry, is_whole, calls_of, start, ran, closing, printed}
use Rattle.session.specs.Chunks.{InChunks, together}
use Rattle.claims.specs.Demand2.{counted}

pub record Session : Type 0 where
  -- where the input has ended: chunks of any sizes print what all octets at once print, a record cut short being a 13
  pub at_end : (chunks : List (List ℕ)) {st : State} {rest lines : List ℕ} → InChunks chunks start [] st rest lines → is_whole (form rest) ≡ false
      → printed (together chunks) ≡ lines ++ closing st (not (eqb (length rest) 0))
  -- 01: "A 13 ends reading": where a bad record stands, nothing behind it matters
  pub at_bad : (chunks : List (List ℕ)) (more : List ℕ) {st : State} {rest lines : List ℕ} → InChunks chunks start [] st rest lines → form rest ≡ bad
      → printed (together chunks ++ more) ≡ lines ++ closing st true
  -- each record is a call on the bench, so that demands 1 and 2 hold of every session
  pub calls : (records : List Entry) → (ran start records).bench ≡ history (calls_of [] records)
  -- 01: "for each running port .. `port P wd W n T` and, where T is above 0, ` lo L hi U`": number, lowest and highest of the samples that count
  pub port_line_lem : (records : List Entry) (q : ℕ) → outside 1 8 q ≡ false → (at : ℕ) (params : Params) (past : List Happening)
      → since_block q (calls_of [] records) ≡ since at params past
      → let s = counted at params past in
      line_of_port q (port_at (ran start records).bench q) ≡ port_line q params.FSP_WatchdogTime (length s) (lowest_of s) (highest_of s)
  pub no_line : (records : List Entry) (q : ℕ) → outside 1 8 q ≡ false → since_block q (calls_of [] records) ≡ never
      → line_of_port q (port_at (ran start records).bench q) ≡ []
  -- 01's examples: 48 zero octets as a block, and the three octets 53 4C 03
  pub zero_block : printed (0x53 ∷ 0x4C ∷ 1 ∷ 1 ∷ 0 ∷ 0 ∷ 0 ∷ 0 ∷ 48 ∷ replicate 48 0) ≡ refusal_line 1 2 ++ summary_line 1 1
  pub three_octets : printed (0x53 ∷ 0x4C ∷ 3 ∷ []) ≡ refusal_line 1 13 ++ summary_line 0 1
