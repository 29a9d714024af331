-- Method: a bench whose ports stand in three columns, as whoever steps them many times keeps them. What is meant is the bench (Ports.antt).
-- Assumes nothing.
use Rattle.std.specs.Prelude.{ℕ, ◌<◌, List, [], ◌∷◌, get_or, set, map, Option}
use Rattle.histogram.specs.Samples.{bin_count}
use Rattle.histogram.specs.Counted.{raised_if}
use Rattle.bench.specs.declared.Setting.{Setting}
use Rattle.bench.specs.declared.Live.{Live}
use Rattle.bench.specs.declared.Port.{Port}
use Rattle.bench.specs.declared.Bench.{Bench}

-- the columns of some ports
abbrev pub settings_in : List Port → List Setting
settings_in ports = map (λ p. p.setting) ports

abbrev pub lives_in : List Port → List Live
lives_in ports = map (λ p. p.live) ports

abbrev pub bins_in : List Port → List (List ℕ)
bins_in ports = map (λ p. p.bins) ports

abbrev pub settings_of : Bench → List Setting
settings_of b = settings_in b.ports

abbrev pub lives_of : Bench → List Live
lives_of b = lives_in b.ports

abbrev pub all_bins_of : Bench → List (List ℕ)
all_bins_of b = bins_in b.ports

abbrev pub joined : Setting → Live → List ℕ → Port
joined s l bins = record { setting = s; live = l; bins = bins }

-- each element of a column with the one beside it
module _ {A B C : Type 0} (f : A → B → C) where
  abbrev pub beside : List A → List B → List C
  beside [] ys = []
  beside (x ∷ xs) [] = []
  beside (x ∷ xs) (y ∷ ys) = f x y ∷ beside xs ys

abbrev pub ports_of : List Setting → List Live → List (List ℕ) → List Port
ports_of settings lives bins = beside (λ f b. f b) (beside joined settings lives) bins

abbrev pub packed : List Setting → List Live → List (List ℕ) → Bench
packed settings lives bins = record { ports = ports_of settings lives bins }

-- the bins after a turn of the port in place k which raises this bin, or none
abbrev pub raised_at : List (List ℕ) → ℕ → Option ℕ → List (List ℕ)
raised_at bins k bin = set bins k (raised_if (get_or bins k []) bin)

abbrev pub IsBin : ℕ → Type 0
IsBin i = i < bin_count
