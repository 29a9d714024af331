-- 000 11.4.7 and Annex D: an SPDU's signature, over its contents: process octets, port number, control or status (R5). A method of signing
-- takes the protocol mode and the contents, and gives the value before a zero is replaced. Assumes nothing.
use Rattle.std.specs.Prelude.{ℕ, cond, List, eqb}
use Rattle.gf2.specs.Generators.{generator16, generator32}
use Rattle.signature.specs.declared.Engine.{Engine}
use Rattle.signature.specs.Signature.{signature}
use Rattle.signature.specs.Engines.{signed_by}

-- 000 Table A.3: FSP_ProtMode 1 has the short signature; any other value reads as 2
abbrev pub width_of : ℕ → ℕ
width_of mode = cond (eqb mode 1) 16 32

abbrev pub generator_of : ℕ → ℕ
generator_of mode = cond (eqb mode 1) generator16 generator32

-- the signature itself: "The seed value to be used for the CRC signature calculation is 1"
abbrev pub by_bits : ℕ → List ℕ → ℕ
by_bits mode contents = signature (width_of mode) (generator_of mode) 1 contents

-- the bits that a look-up takes in: an octet by the short table, half an octet by the long one (02, item 4)
abbrev pub index_bits_of : ℕ → ℕ
index_bits_of mode = cond (eqb mode 1) 8 4

-- the same by an engine, where both tables are lent (02, item 3)
abbrev pub by_engine : Engine → List ℕ → List ℕ → ℕ → List ℕ → ℕ
by_engine e short long mode contents =
    signed_by e (width_of mode) (generator_of mode) (index_bits_of mode) (cond (eqb mode 1) short long) 1 contents

-- "In case the result of the CRC signature calculation leads to a 0, a 1 shall be sent and evaluated at the receiver side correspondingly."
abbrev pub replaced : ℕ → ℕ
replaced x = cond (eqb x 0) 1 x
