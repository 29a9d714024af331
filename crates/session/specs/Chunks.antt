-- A session in chunks of any sizes, with buffers of any sizes lent for the lines: what proofs/Chunks.antt compares with the session at once
-- (`printed`). Assumes nothing.
use Rattle.std.specs.Prelude.{ℕ, List, [], ◌∷◌, ◌++◌}
use Rattle.session.specs.declared.State.{State}
use Rattle.session.specs.Run.{records_of, rest_of, ran, lines_of}

-- Calls of `feed` one after the other, each with a chunk behind what the one before it left, and with room for n lines. A call that was out of
-- room is followed by one with an empty chunk.
pub data InChunks : List (List ℕ) → State → List ℕ → State → List ℕ → List ℕ → Type 0 where
  none : {st : State} {r : List ℕ} → InChunks [] st r st r []
  chunk : (n : ℕ) {b r r₂ o : List ℕ} {bs : List (List ℕ)} {st st₂ : State}
      → InChunks bs (ran st (records_of n (r ++ b))) (rest_of n (r ++ b)) st₂ r₂ o → InChunks (b ∷ bs) st r st₂ r₂ (lines_of st (records_of n (r ++ b)) ++ o)

abbrev pub together : List (List ℕ) → List ℕ
together [] = []
together (b ∷ bs) = b ++ together bs
