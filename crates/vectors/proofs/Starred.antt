-- Document 01's marked cases hold, by computation, for every pair of tables that have its rule. `table` of u16 and that of u32 return such tables.
-- Assumes nothing.
use Rattle.std.proofs.Common.{ℕ, List, [], ◌∷◌, lit<}
use Rattle.gf2.specs.Generators.{generator16, generator32}
use Rattle.signature.specs.Signature.{shift_in, shift_in_all}
use Rattle.signature.specs.Lookup.{division, Table}
use Rattle.scl.specs.Time.{elapsed_of}
use Rattle.vectors.specs.Starred.{rows, Agree}

pub starred : {short long : List ℕ} → Table 16 generator16 8 short → Table 32 generator32 4 long → Agree (rows short long)
unfolding rows elapsed_of division shift_in_all shift_in
starred s l = λ i.
    s.entry 0 (lit< tt) i
    ∷ s.entry 1 (lit< tt) i
    ∷ s.entry 2 (lit< tt) i
    ∷ s.entry 3 (lit< tt) i
    ∷ s.entry 4 (lit< tt) i
    ∷ l.entry 1 (lit< tt) i
    ∷ l.entry 2 (lit< tt) i
    ∷ 0
    ∷ 1
    ∷ 31
    ∷ 16
    ∷ 31
    ∷ 10
    ∷ []
