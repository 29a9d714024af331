-- A table's rule, proved at all of its entries by one test that antt computes, one entry after the other. Assumes nothing.
use mathlib.Core.Path.{◌≡◌, ◌∙◌, subst, sym}
use mathlib.Core.Bool.{Bool, true, ◌&&◌}
use mathlib.Core.List.{List, [], ◌∷◌}
use Prim.Native.Nat.{ℕ, zero, suc, ◌+◌, ◌^◌, ◌<◌}
use native.Mathlib.Nat.{add-zero, zero-add, add-suc, suc-add, le_of_suc-le-suc, not-suc-le-zero}
use lib.Dec.{T, eqb, eqb→eq}
use lib.ListN.{length, get_or}
use lib.Seq.{ext_get_or}
use mir.Facts.{and_yes}
use Rattle.signature.specs.Lookup.{division, Table}

-- the test f passes at each entry of the list and its place, counted from i
abbrev every : (ℕ → ℕ → Bool) → ℕ → List ℕ → Bool
every f i [] = true
every f i (x ∷ xs) = f i x && every f (suc i) xs

from : (f : ℕ → ℕ → Bool) (xs : List ℕ) (i : ℕ) → T (every f i xs) → (k : ℕ) → k < length xs → T (f (i + k) (get_or xs k 0))
from f [] i t k h = absurd (not-suc-le-zero h)
from f (x ∷ xs) i t zero h = subst (λ (m : ℕ). T (f m x)) (sym (add-zero i)) (and_yes (f i x) (every f (suc i) xs) t).0
from f (x ∷ xs) i t (suc k) h =
    subst (λ (m : ℕ). T (f m (get_or xs k 0))) (suc-add i k ∙ sym (add-suc i k))
    (from f xs (suc i) (and_yes (f i x) (every f (suc i) xs) t).1 k (le_of_suc-le-suc h))

-- the rule as a test: the entry x at i is the division of i
abbrev pub divides : ℕ → ℕ → ℕ → ℕ → ℕ → Bool
divides w g n i x = eqb x (division w g n i)

pub rule : {w g n : ℕ} {table : List ℕ} → T (every (divides w g n) 0 table) → length table ≡ 2 ^ n → Table w g n table
rule {w} {g} {n} {table} t size = record {
  size = size;
  entry = λ i h. eqb→eq (get_or table i 0) (division w g n i) (subst (λ (m : ℕ). T (divides w g n m (get_or table i 0))) (zero-add i) (from (divides w g n) table 0 t i (rw size h)));
}

-- a rule has one table
pub one_table : {w g n : ℕ} {s t : List ℕ} → Table w g n s → Table w g n t → s ≡ t
one_table {s = s} {t = t} p q =
    ext_get_or 0 s t (p.size ∙ sym q.size) (λ i h. let k : i < 2 ^ _ = rw p.size at h in p.entry i k ∙ sym (q.entry i k))
