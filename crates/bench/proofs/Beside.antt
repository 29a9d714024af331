-- Laws of ports in columns: a store in each column is a store of the port, and an element of each is the port. Assumes nothing.
use Prim.Native.Nat.{ℕ, zero, suc, ◌<◌}
use native.Mathlib.Omega.{arith}
use mathlib.Core.Path.{◌≡◌, refl, sym, ap, ◌∙◌}
use mathlib.Core.List.{List, [], ◌∷◌}
use lib.ListN.{length, get_or, set}
use Rattle.std.specs.Prelude.{map}
use Rattle.std.proofs.lemmas.List.{ext_get_or, get_or-map, length-map}
use Rattle.bench.specs.declared.Setting.{Setting}
use Rattle.bench.specs.declared.Live.{Live}
use Rattle.bench.specs.declared.Port.{Port}
use Rattle.bench.specs.declared.Bench.{Bench}
use Rattle.bench.specs.Columns.{settings_in, lives_in, bins_in, joined, beside, ports_of, packed}

module _ {A B C : Type 0} (f : A → B → C) where
  set-beside : (xs : List A) (ys : List B) (k : ℕ) (x : A) (y : B) → beside f (set xs k x) (set ys k y) ≡ set (beside f xs ys) k (f x y)
  set-beside [] ys k x y = refl
  set-beside (a ∷ xs) [] zero x y = refl
  set-beside (a ∷ xs) [] (suc k) x y = refl
  set-beside (a ∷ xs) (b ∷ ys) zero x y = refl
  set-beside (a ∷ xs) (b ∷ ys) (suc k) x y = ap (λ (l : List C). f a b ∷ l) (set-beside xs ys k x y)

  get_or-beside : (xs : List A) (ys : List B) (k : ℕ) (x : A) (y : B) (z : C) → k < length xs → k < length ys
      → get_or (beside f xs ys) k z ≡ f (get_or xs k x) (get_or ys k y)
  get_or-beside [] ys k x y z h h' = absurd (omega arith)
  get_or-beside (a ∷ xs) [] k x y z h h' = absurd (omega arith)
  get_or-beside (a ∷ xs) (b ∷ ys) zero x y z h h' = refl
  get_or-beside (a ∷ xs) (b ∷ ys) (suc k) x y z h h' = get_or-beside xs ys k x y z (omega arith) (omega arith)

  length-beside : (xs : List A) (ys : List B) → length xs ≡ length ys → length (beside f xs ys) ≡ length ys
  length-beside [] [] h = refl
  length-beside [] (b ∷ ys) h = h
  length-beside (a ∷ xs) [] h = refl
  length-beside (a ∷ xs) (b ∷ ys) h = ap suc (length-beside xs ys (omega arith))

-- ---- Three columns

-- columns of eight
pub record Eight (s : List Setting) (l : List Live) (b : List (List ℕ)) : Type 0 where
  pub settings : length s ≡ 8
  pub lives : length l ≡ 8
  pub bins : length b ≡ 8

abbrev with : (List ℕ → Port) → List ℕ → Port
with f x = f x

module _ (s : List Setting) (l : List Live) (b : List (List ℕ)) where
  abbrev two : List (List ℕ → Port)
  two = beside joined s l

  pub set_columns : (k : ℕ) (s' : Setting) (l' : Live) (b' : List ℕ)
      → ports_of (set s k s') (set l k l') (set b k b') ≡ set (ports_of s l b) k (joined s' l' b')
  set_columns k s' l' b' = rw (set-beside joined s l k s' l') (set-beside with two b k (joined s' l') b')

  module _ (e : Eight s l b) where
    two-length : length two ≡ 8
    two-length = length-beside joined s l (e.settings ∙ sym e.lives) ∙ e.lives

    pub length_columns : length (ports_of s l b) ≡ 8
    length_columns = length-beside with two b (two-length ∙ sym e.bins) ∙ e.bins

    -- the element of each column, whatever is read past the end of one
    pub get_or-columns : (k : ℕ) (s' : Setting) (l' : Live) (b' : List ℕ) (p : Port) → k < 8
        → get_or (ports_of s l b) k p ≡ joined (get_or s k s') (get_or l k l') (get_or b k b')
    get_or-columns k s' l' b' p h =
        get_or-beside with two b k (joined s' l') b' p (rw two-length h) (rw e.bins h)
        ∙ ap (λ (f : List ℕ → Port). f (get_or b k b')) (get_or-beside joined s l k s' l' (joined s' l') (rw e.settings h) (rw e.lives h))

-- ---- From a bench and back

abbrev bench_of : List Port → Bench
bench_of ports = record { ports = ports }

-- columns of some ports, side by side, are the ports
pub columns_of : (ports : List Port) → ports_of (settings_in ports) (lives_in ports) (bins_in ports) ≡ ports
columns_of [] = refl
columns_of (p ∷ ports) = ap (λ (l : List Port). p ∷ l) (columns_of ports)

pub packed_same : {s s' : List Setting} {l l' : List Live} {b b' : List (List ℕ)} → s ≡ s' → l ≡ l' → b ≡ b' → packed s l b ≡ packed s' l' b'
packed_same e f g = rw (e, f, g)

-- a column, element by element
pub column : {A : Type 0} (f : Port → A) (ports : List Port) (p : Port) (d : A) (l : List A) → length ports ≡ 8 → length l ≡ 8
    → ((i : ℕ) → i < 8 → get_or l i d ≡ f (get_or ports i p)) → l ≡ map f ports
column f ports p d l n m each =
    ext_get_or d l (map f ports) (m ∙ sym (length-map ports f ∙ n))
    (λ i h. each i (omega (arith, h, m)) ∙ sym (get_or-map f ports i p d (omega (arith, h, m, n))))

-- ports put together from eight of each column, element by element
pub packed_by : (s : List Setting) (l : List Live) (b : List (List ℕ)) → Eight s l b → {ports : List Port} (p : Port) → length ports ≡ 8
    → ((i : ℕ) → i < 8 → get_or ports i p ≡ joined (get_or s i p.setting) (get_or l i p.live) (get_or b i []))
    → bench_of ports ≡ packed s l b
packed_by s l b e {ports} p n each =
    ap bench_of
    (ext_get_or p ports (ports_of s l b) (n ∙ sym (length_columns s l b e))
    (λ i h. let k : i < 8 = omega (arith, h, n) in each i k ∙ sym (get_or-columns s l b e i p.setting p.live [] p k)))
