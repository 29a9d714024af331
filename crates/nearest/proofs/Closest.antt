-- `round` gives a value of its format that no other is nearer to. `closest` of `lib.Ieee.Nearest` picks a nearest multiple of the unit (`closest_best`),
-- and a value of the format that is no multiple of the unit lies below a power of two that is one, and that the fraction has reached (`grid_best`).
-- Assumes nothing.
use mathlib.Core.Path.{◌≡◌, refl, sym, ap, ◌∙◌, subst}
use mathlib.Core.Logic.{◌⊎◌, inl, inr}
use Prim.Native.Nat.{ℕ, zero, suc, ◌+◌, ◌-◌, ◌*◌, ◌/◌, ◌%◌, ◌^◌, ◌≤◌, ◌<◌, zero-le, compare, Ordering}
use native.Mathlib.Nat.{le_trans, le_of_eq, le_of_lt, lt_of_lt_of_le, lt_of_le_of_lt, lt_irrefl, mul-one, one-mul, mul_comm, mul_assoc, mul_left_comm, mul_right_comm, mul-le-mul_right, mul-le-mul_left, mul-lt-mul_of_pos_right, le_of_mul-le-mul_right, eq_of_mul-eq-mul_right, mul-mod_left, pow-suc, mul-sub, mul-pos, zero-mul, suc-mul, add-mul, mod-lt, div-add-mod', le-div_iff_mul-le, zero-lt-suc}
use native.Mathlib.Omega.{arith}
use mathlib.Core.Bool.{Bool, true, false, not, ◌&&◌, cond}
use lib.IntN.{ℤ, pos, negsuc}
use lib.Dec.{T, is_le, compare_is_eq, leb, ltb, eqb, leb→le, nleb→lt, eqb→eq, eqb_refl, ltb→lt}
use lib.Arith.{lt_of_le-ne}
use lib.Pow.{pow-add, pow_pos, pow-lt, pow_mono, shl_lt}
use lib.Ieee.{Float, nan, inf, fin, Format, prec, emax, low, up, down, size, nearest, odd, units, round, fits, le}
use lib.Ieee.Digits.{back, size_reaches}
use lib.Ieee.Fits.{two, two-le_pos, round-fits, round_is, and_l, and_r}
use lib.Ieee.Exact.{HasValue}
use lib.Ieee.Nearest.{closest}
use lib.Ieee.Order.{drop, kept, round_mono}
use lib.Ieee.Scale.{grid, overflow, round_val}
use lib.Ieee.Back.{round_whole}
use lib.Ieee.Positive.{num, den, den_pos, value→cross}
use Rattle.nearest.specs.Nearest.{apart, last_digit, Nearest}

-- ---- small things
le-or-lt : (a b : ℕ) → (a ≤ b) ⊎ (b < a)
le-or-lt a b = go (leb a b) (leb→le a b) (nleb→lt a b)
  where
    go : (t : Bool) → (T t → a ≤ b) → (T (not t) → b < a) → (a ≤ b) ⊎ (b < a)
    go true h k = inl (h tt)
    go false h k = inr (k tt)

-- the distance of two numbers
abbrev dist : ℕ → ℕ → ℕ
dist x y = x - y + (y - x)

sub-mul : (x y c : ℕ) → (x - y) * c ≡ x * c - y * c
sub-mul x y c = mul_comm (x - y) c ∙ mul-sub c x y ∙ (λ i. mul_comm c x i - mul_comm c y i)

dist-mul : (x y c : ℕ) → dist (x * c) (y * c) ≡ dist x y * c
dist-mul x y c = sym (add-mul (x - y) (y - x) c ∙ (λ i. sub-mul x y c i + sub-mul y x c i))

-- ---- `closest n u` times u is a nearest multiple of u to n
abbrev Cmp : Ordering → ℕ → ℕ → Type 0
Cmp Ordering.lt a b = a < b
Cmp Ordering.eq a b = a ≡ b
Cmp Ordering.gt a b = b < a

cmp : (a b : ℕ) → Cmp (compare a b) a b
cmp a b = go (compare a b) (leb→le a b) (nleb→lt a b) (eqb→eq a b) (λ (e : a ≡ b). subst (λ (x : ℕ). T (eqb a x)) e (eqb_refl a))
  where
    go : (o : Ordering) → (T (is_le o) → a ≤ b) → (T (not (is_le o)) → b < a) → (T (compare_is_eq o) → a ≡ b) → (a ≡ b → T (compare_is_eq o)) → Cmp o a b
    go Ordering.lt h k e n = lt_of_le-ne (h tt) n
    go Ordering.eq h k e n = e tt
    go Ordering.gt h k e n = k tt

-- the multiple below n, where the rest is at most a half, or the one above, where it is at least a half
abbrev Picked : ℕ → ℕ → ℕ → ℕ → Type 0
Picked x w u r = ((x * u ≡ w * u) × (r * 2 ≤ u)) ⊎ ((x * u ≡ w * u + u) × (u ≤ r * 2))

picked : (w u r : ℕ) (o : Ordering) → Cmp o (r * 2) u → Picked (nearest w o) w u r
picked w u r Ordering.lt h = inl (refl, le_of_lt h)
picked w u r Ordering.gt h = inr (suc-mul w u, le_of_lt h)
picked w u r Ordering.eq h = go (le-or-lt (w % 2) 0)
  where
    go : (w % 2 ≤ 0) ⊎ (0 < w % 2) → Picked (w + w % 2) w u r
    go (inl z) = let e : w + w % 2 ≡ w = omega arith in inl (ap (λ (x : ℕ). x * u) e, le_of_eq h)
    go (inr z) = let e : w + w % 2 ≡ suc w = omega arith in inr (ap (λ (x : ℕ). x * u) e ∙ suc-mul w u, le_of_eq (sym h))

-- W and W + u are two multiples in a row, Q is any, and K is the one that was picked for W + r
nearer : (W Q K u r : ℕ) → r < u → (Q ≤ W) ⊎ (W + u ≤ Q) → ((K ≡ W) × (r * 2 ≤ u)) ⊎ ((K ≡ W + u) × (u ≤ r * 2)) → dist K (W + r) ≤ dist Q (W + r)
nearer W Q K u r l (inl q) (inl k) = omega (arith, k.0, k.1)
nearer W Q K u r l (inl q) (inr k) = omega (arith, k.0, k.1)
nearer W Q K u r l (inr q) (inl k) = omega (arith, k.0, k.1)
nearer W Q K u r l (inr q) (inr k) = omega (arith, k.0, k.1)

closest_best : (n u q : ℕ) → 0 < u → dist (closest n u * u) n ≤ dist (q * u) n
closest_best n u q U =
    subst (λ (z : ℕ). dist (closest n u * u) z ≤ dist (q * u) z) (div-add-mod' n u)
    (nearer (n / u * u) (q * u) (closest n u * u) u (n % u) (mod-lt n U) (go (le-or-lt q (n / u))) (picked (n / u) u (n % u) (compare (n % u * 2) u) (cmp (n % u * 2) u)))
  where
    go : (q ≤ n / u) ⊎ (n / u < q) → (q * u ≤ n / u * u) ⊎ (n / u * u + u ≤ q * u)
    go (inl h) = inl (mul-le-mul_right u h)
    go (inr h) = inr (le_trans (le_of_eq (sym (suc-mul (n / u) u))) (mul-le-mul_right u h))

-- ---- of two multiples that are as near, `closest` is the even one
steps : (q w u : ℕ) → (q * u + u ≤ w * u) ⊎ ((q ≡ w) ⊎ ((q ≡ suc w) ⊎ (w * u + u + u ≤ q * u)))
steps q w u = first (le-or-lt (suc q) w)
  where
    third : (q ≤ suc w) ⊎ (suc w < q) → (w < q) → (q ≡ suc w) ⊎ (w * u + u + u ≤ q * u)
    third (inl h) l = inl (omega arith)
    third (inr h) l = inr (le_trans (le_of_eq (ap (λ (z : ℕ). z + u) (sym (suc-mul w u)) ∙ sym (suc-mul (suc w) u))) (mul-le-mul_right u h))

    second : (q ≤ w) ⊎ (w < q) → (w < suc q) → (q ≡ w) ⊎ ((q ≡ suc w) ⊎ (w * u + u + u ≤ q * u))
    second (inl h) l = inl (omega arith)
    second (inr h) l = inr (third (le-or-lt q (suc w)) h)

    first : (suc q ≤ w) ⊎ (w < suc q) → (q * u + u ≤ w * u) ⊎ ((q ≡ w) ⊎ ((q ≡ suc w) ⊎ (w * u + u + u ≤ q * u)))
    first (inl h) = inl (le_trans (le_of_eq (sym (suc-mul q u))) (mul-le-mul_right u h))
    first (inr h) = inr (second (le-or-lt q w) h)

abbrev Tied : ℕ → ℕ → Type 0
Tied x q = (x ≡ q) ⊎ ((x % 2 ≡ 0) × (q % 2 ≡ 1))

-- K and Q are multiples of u as near to W + r, and Q is not one of the two around it
too_far : (W Q K u r : ℕ) → 0 < u → r < u → ((K ≡ W) × (r * 2 ≤ u)) ⊎ ((K ≡ W + u) × (u ≤ r * 2)) → (Q + u ≤ W) ⊎ (W + u + u ≤ Q) → dist K (W + r) ≡ dist Q (W + r) → ⊥
too_far W Q K u r U l (inl k) (inl q) e = omega (arith, k.0, k.1)
too_far W Q K u r U l (inl k) (inr q) e = omega (arith, k.0, k.1)
too_far W Q K u r U l (inr k) (inl q) e = omega (arith, k.0, k.1)
too_far W Q K u r U l (inr k) (inr q) e = omega (arith, k.0, k.1)

-- Q is the one around it that was not picked
other_below : (W Q K u r : ℕ) → r < u → K ≡ W → r * 2 < u → Q ≡ W + u → dist K (W + r) ≡ dist Q (W + r) → ⊥
other_below W Q K u r l k h q e = omega arith

other_above : (W Q K u r : ℕ) → r < u → K ≡ W + u → u < r * 2 → Q ≡ W → dist K (W + r) ≡ dist Q (W + r) → ⊥
other_above W Q K u r l k h q e = omega arith

even_low : (w q : ℕ) → q ≡ w → Tied (w + w % 2) q
even_low w q e = go (le-or-lt (w % 2) 0)
  where
    go : (w % 2 ≤ 0) ⊎ (0 < w % 2) → Tied (w + w % 2) q
    go (inl h) = inl (omega arith)
    go (inr h) = inr (omega arith, omega arith)

even_high : (w q : ℕ) → q ≡ suc w → Tied (w + w % 2) q
even_high w q e = go (le-or-lt (w % 2) 0)
  where
    go : (w % 2 ≤ 0) ⊎ (0 < w % 2) → Tied (w + w % 2) q
    go (inl h) = inr (omega arith, omega arith)
    go (inr h) = inl (omega arith)

by_order : (w u r q : ℕ) (o : Ordering) → Cmp o (r * 2) u → r < u → dist (nearest w o * u) (w * u + r) ≡ dist (q * u) (w * u + r) → (q ≡ w) ⊎ (q ≡ suc w) → Tied (nearest w o) q
by_order w u r q Ordering.lt h l e (inl z) = inl (sym z)
by_order w u r q Ordering.lt h l e (inr z) = absurd (other_below (w * u) (q * u) (w * u) u r l refl h (ap (λ (x : ℕ). x * u) z ∙ suc-mul w u) e)
by_order w u r q Ordering.eq h l e (inl z) = even_low w q z
by_order w u r q Ordering.eq h l e (inr z) = even_high w q z
by_order w u r q Ordering.gt h l e (inl z) = absurd (other_above (w * u) (q * u) (suc w * u) u r l (suc-mul w u) h (ap (λ (x : ℕ). x * u) z) e)
by_order w u r q Ordering.gt h l e (inr z) = inl (sym z)

tie_at : (w u r q : ℕ) (o : Ordering) → Cmp o (r * 2) u → 0 < u → r < u → dist (nearest w o * u) (w * u + r) ≡ dist (q * u) (w * u + r) → Tied (nearest w o) q
tie_at w u r q o h U l e = go (steps q w u)
  where
    far : (q * u + u ≤ w * u) ⊎ (w * u + u + u ≤ q * u) → ⊥
    far s = too_far (w * u) (q * u) (nearest w o * u) u r U l (picked w u r o h) s e

    go : (q * u + u ≤ w * u) ⊎ ((q ≡ w) ⊎ ((q ≡ suc w) ⊎ (w * u + u + u ≤ q * u))) → Tied (nearest w o) q
    go (inl s) = absurd (far (inl s))
    go (inr (inl s)) = by_order w u r q o h l e (inl s)
    go (inr (inr (inl s))) = by_order w u r q o h l e (inr s)
    go (inr (inr (inr s))) = absurd (far (inr s))

closest_tie : (n u q : ℕ) → 0 < u → dist (closest n u * u) n ≡ dist (q * u) n → Tied (closest n u) q
closest_tie n u q U e =
    tie_at (n / u) u (n % u) q (compare (n % u * 2) u) (cmp (n % u * 2) u) U (mod-lt n U)
    (subst (λ (z : ℕ). dist (closest n u * u) z ≡ dist (q * u) z) (sym (div-add-mod' n u)) e)

-- ---- no value of a format of p digits, m * 2 ^ t in units, is nearer to n / b
powers_under : (p m t k : ℕ) → 0 < p → m < 2 ^ p → t < k → m * 2 ^ t < 2 ^ (p - 1) * 2 ^ k
powers_under p m t k P h l =
    let r : p + t ≤ p - 1 + k = omega arith in
    lt_of_lt_of_le (shl_lt p t h) (le_trans (pow_mono r) (le_of_eq (pow-add 2 (p - 1) k)))

farther : (y z n k : ℕ) → y ≤ z → z ≤ n → k ≤ dist z n → k ≤ dist y n
farther y z n k a b c = omega arith

all_in_use : (z p : ℕ) → 0 < p → 0 < z - p → p - 1 + (z - p) < z
all_in_use z p P h = omega arith

-- where digits are dropped, the fraction is at least the power of two that p digits start from
reached : (p n b : ℕ) → 0 < p → 0 < b → 0 < drop p n b → 2 ^ (p - 1) * 2 ^ drop p n b * b ≤ n
reached p n b P B K =
    let k = drop p n b in
    (le-div_iff_mul-le B).0 (le_trans (le_of_eq (sym (pow-add 2 (p - 1) k))) (size_reaches (n / b) (p - 1 + k) (all_in_use (size (n / b)) p P K)))

grid_best : (p n b m t : ℕ) → 0 < p → 0 < b → m < 2 ^ p → dist (kept p n b * 2 ^ drop p n b * b) n ≤ dist (m * 2 ^ t * b) n
grid_best p n b m t P B h =
    let k = drop p n b in
    let u = b * 2 ^ k in
    let U : 0 < u = mul-pos B (pow_pos k) in
    let e : kept p n b * u ≡ kept p n b * 2 ^ k * b = simp (mul_assoc, mul_comm, mul_left_comm) in
    subst (λ (z : ℕ). dist z n ≤ dist (m * 2 ^ t * b) n) e (go (le-or-lt k t))
  where
    go : (drop p n b ≤ t) ⊎ (t < drop p n b) → dist (kept p n b * (b * 2 ^ drop p n b)) n ≤ dist (m * 2 ^ t * b) n
    go (inl l) =
        let k = drop p n b in
        let u = b * 2 ^ k in
        let s : 2 ^ (t - k) * 2 ^ k ≡ 2 ^ t = sym (pow-add 2 (t - k) k) ∙ ap (λ (x : ℕ). 2 ^ x) (back t k l) in
        let x : m * 2 ^ (t - k) * u ≡ m * (2 ^ (t - k) * 2 ^ k) * b = simp (mul_assoc, mul_comm, mul_left_comm) in
        subst (λ (z : ℕ). dist (kept p n b * u) n ≤ dist z n) (x ∙ ap (λ (z : ℕ). m * z * b) s) (closest_best n u (m * 2 ^ (t - k)) (mul-pos B (pow_pos k)))
    go (inr l) =
        let k = drop p n b in
        let u = b * 2 ^ k in
        let x : 2 ^ (p - 1) * 2 ^ k * b ≡ 2 ^ (p - 1) * u = simp (mul_assoc, mul_comm, mul_left_comm) in
        farther (m * 2 ^ t * b) (2 ^ (p - 1) * u) n (dist (kept p n b * u) n) (le_trans (mul-le-mul_right b (le_of_lt (powers_under p m t k P h l))) (le_of_eq x))
        (le_trans (le_of_eq (sym x)) (reached p n b P B (lt_of_le_of_lt zero-le l)))
        (closest_best n u (2 ^ (p - 1)) (mul-pos B (pow_pos k)))

-- ---- a value that is as near is the same one, or its last digit is one unit, of which the result is an even number
odd_shift : (m j : ℕ) → m * 2 ^ j % 2 ≡ 1 → j ≡ 0
odd_shift m zero h = refl
odd_shift m (suc j) h =
    let e : m * 2 ^ suc j % 2 ≡ 0 = ap (λ (x : ℕ). x % 2) (ap (λ (x : ℕ). m * x) (pow-suc 2 j) ∙ sym (mul_assoc m (2 ^ j) 2)) ∙ mul-mod_left (m * 2 ^ j) 2 in
    absurd (omega arith)

odd_above : (m j : ℕ) → m * 2 ^ j % 2 ≡ 1 → 0 < m
odd_above zero j h = let e : 0 * 2 ^ j ≡ 0 = zero-mul (2 ^ j) in absurd (omega arith)
odd_above (suc m) j h = zero-lt-suc m

strictly : (y z n k : ℕ) → y < z → z ≤ n → k ≤ dist z n → k ≡ dist y n → ⊥
strictly y z n k a b c d = omega arith

same_power : (t k : ℕ) → k ≤ t → t - k ≡ 0 → k ≡ t
same_power t k h e = omega arith

grid_tie : (p n b m t : ℕ) → 0 < p → 0 < b → m < 2 ^ p → dist (kept p n b * 2 ^ drop p n b * b) n ≡ dist (m * 2 ^ t * b) n
    → (kept p n b * 2 ^ drop p n b ≡ m * 2 ^ t) ⊎ ((kept p n b % 2 ≡ 0) × (drop p n b ≡ t) × (0 < m))
grid_tie p n b m t P B h d =
    let k = drop p n b in
    let u = b * 2 ^ k in
    let e : kept p n b * 2 ^ k * b ≡ kept p n b * u = simp (mul_assoc, mul_comm, mul_left_comm) in
    go (le-or-lt k t) (subst (λ (z : ℕ). dist z n ≡ dist (m * 2 ^ t * b) n) e d)
  where
    go : (drop p n b ≤ t) ⊎ (t < drop p n b) → dist (kept p n b * (b * 2 ^ drop p n b)) n ≡ dist (m * 2 ^ t * b) n
        → (kept p n b * 2 ^ drop p n b ≡ m * 2 ^ t) ⊎ ((kept p n b % 2 ≡ 0) × (drop p n b ≡ t) × (0 < m))
    go (inl l) c =
        let k = drop p n b in
        let u = b * 2 ^ k in
        let s : 2 ^ (t - k) * 2 ^ k ≡ 2 ^ t = sym (pow-add 2 (t - k) k) ∙ ap (λ (x : ℕ). 2 ^ x) (back t k l) in
        let x : m * 2 ^ (t - k) * u ≡ m * (2 ^ (t - k) * 2 ^ k) * b = simp (mul_assoc, mul_comm, mul_left_comm) in
        elim (closest_tie n u (m * 2 ^ (t - k)) (mul-pos B (pow_pos k)) (c ∙ ap (λ (z : ℕ). dist z n) (sym (x ∙ ap (λ (z : ℕ). m * z * b) s)))) [
          | inl e ↦ inl (ap (λ (z : ℕ). z * 2 ^ k) e ∙ mul_assoc m (2 ^ (t - k)) (2 ^ k) ∙ ap (λ (z : ℕ). m * z) s)
          | inr e ↦ inr (e.0, same_power t k l (odd_shift m (t - k) e.1), odd_above m (t - k) e.1)
        ]
    go (inr l) c =
        let k = drop p n b in
        let u = b * 2 ^ k in
        let x : 2 ^ (p - 1) * 2 ^ k * b ≡ 2 ^ (p - 1) * u = simp (mul_assoc, mul_comm, mul_left_comm) in
        absurd (strictly (m * 2 ^ t * b) (2 ^ (p - 1) * u) n (dist (kept p n b * u) n) (subst (λ (z : ℕ). m * 2 ^ t * b < z) x (mul-lt-mul_of_pos_right (powers_under p m t k P h l) B))
        (le_trans (le_of_eq (sym x)) (reached p n b P B (lt_of_le_of_lt zero-le l)))
        (closest_best n u (2 ^ (p - 1)) (mul-pos B (pow_pos k))) c)

-- ---- a value of the format, in units of its smallest: m of the weight of its last digit
abbrev InUnits : Format → Float → Type 0
InUnits f y = (m : ℕ) × (t : ℕ) × (m < 2 ^ prec f) × (num y * 2 ^ low f ≡ m * 2 ^ t * den y) × (0 < m → last_digit y * 2 ^ low f ≡ 2 ^ t * den y)

no_deeper : (j l : ℕ) → 2 ^ j ≤ 2 ^ l → j ≤ l
no_deeper j l h = go (le-or-lt j l)
  where
    go : (j ≤ l) ⊎ (l < j) → j ≤ l
    go (inl a) = a
    go (inr a) = absurd (lt_irrefl (2 ^ l) (lt_of_lt_of_le (pow-lt a) h))

-- from the weight of the last digit to the number
times : (m v l t d : ℕ) → v * l ≡ t * d → m * v * l ≡ m * t * d
times m v l t d h = mul_assoc m v l ∙ ap (λ (x : ℕ). m * x) h ∙ sym (mul_assoc m t d)

last_digit_is : (e : ℤ) (l : ℕ) → down e ≤ 2 ^ l → (t : ℕ) × (up e * 2 ^ l ≡ 2 ^ t * down e)
last_digit_is (pos j) l h = (j + l, sym (pow-add 2 j l) ∙ sym (mul-one (2 ^ (j + l))))
last_digit_is (negsuc j) l h = (l - suc j, one-mul (2 ^ l) ∙ ap (λ (x : ℕ). 2 ^ x) (sym (back l (suc j) (no_deeper (suc j) l h))) ∙ pow-add 2 (l - suc j) (suc j))

in_units : (f : Format) (y : Float) → T (fits f y) → InUnits f y
unfolding fits
in_units f nan t = (0, 0, pow_pos (prec f), simp zero-mul, λ h. absurd (lt_irrefl 0 h))
in_units f (inf s) t = (0, 0, pow_pos (prec f), simp zero-mul, λ h. absurd (lt_irrefl 0 h))
in_units f (fin s zero e) t = (0, 0, pow_pos (prec f), simp zero-mul, λ h. absurd (lt_irrefl 0 h))
in_units f (fin s (suc m) e) t =
    let A : Bool = eqb (suc m % 2) 1 in
    let B : Bool = ltb (suc m) (2 ^ prec f) in
    let C : Bool = leb (down e) (2 ^ low f) in
    let D : Bool = ltb (suc m * up e) (2 ^ suc (emax f) * down e) in
    let w = last_digit_is e (low f) (leb→le (down e) (2 ^ low f) (and_r (A && B) C (and_l (A && B && C) D t))) in
    (suc m, w.0, ltb→lt (suc m) (2 ^ prec f) (and_r A B (and_l (A && B) C (and_l (A && B && C) D t))), times (suc m) (up e) (2 ^ low f) (2 ^ w.0) (down e) w.1, λ h. w.1)

-- ---- from units to fractions: p / q is y / l
scaled : (p q y l a b : ℕ) → p * l ≡ y * q → apart p q a b * l ≡ dist (y * b) (a * l) * q
scaled p q y l a b h =
    sym (dist-mul (p * b) (a * q) l)
    ∙ (λ i. dist ((mul_right_comm p b l ∙ ap (λ (z : ℕ). z * b) h ∙ mul_right_comm y q b) i) (mul_right_comm a q l i))
    ∙ dist-mul (y * b) (a * l) q

compared : (p q x r s y l a b : ℕ) → 0 < l → p * l ≡ x * q → r * l ≡ y * s → dist (x * b) (a * l) ≤ dist (y * b) (a * l) → apart p q a b * s ≤ apart r s a b * q
compared p q x r s y l a b L h k d =
    le_of_mul-le-mul_right
    (le_trans (le_of_eq (mul_right_comm (apart p q a b) s l ∙ ap (λ (z : ℕ). z * s) (scaled p q x l a b h)))
    (le_trans (mul-le-mul_right s (mul-le-mul_right q d))
    (le_of_eq (mul_right_comm (dist (y * b) (a * l)) q s ∙ ap (λ (z : ℕ). z * q) (sym (scaled r s y l a b k)) ∙ mul_right_comm (apart r s a b) l q))))
    L

equated : (p q x r s y l a b : ℕ) → 0 < q → 0 < s → p * l ≡ x * q → r * l ≡ y * s → apart p q a b * s ≡ apart r s a b * q → dist (x * b) (a * l) ≡ dist (y * b) (a * l)
equated p q x r s y l a b Q S h k e =
    eq_of_mul-eq-mul_right (q * s) (mul-pos Q S) (dist (x * b) (a * l)) (dist (y * b) (a * l))
    (sym (mul_assoc (dist (x * b) (a * l)) q s)
    ∙ ap (λ (z : ℕ). z * s) (sym (scaled p q x l a b h))
    ∙ mul_right_comm (apart p q a b) l s
    ∙ ap (λ (z : ℕ). z * l) e
    ∙ mul_right_comm (apart r s a b) q l
    ∙ ap (λ (z : ℕ). z * q) (scaled r s y l a b k)
    ∙ mul_assoc (dist (y * b) (a * l)) s q
    ∙ ap (λ (z : ℕ). dist (y * b) (a * l) * z) (mul_comm s q))

-- p / q is x / l, and r / s is y / l
same_number : (p q x r s y l : ℕ) → 0 < l → p * l ≡ x * q → r * l ≡ y * s → x ≡ y → p * s ≡ r * q
same_number p q x r s y l L h k e =
    eq_of_mul-eq-mul_right l L (p * s) (r * q)
    (mul_right_comm p s l ∙ ap (λ (z : ℕ). z * s) (h ∙ ap (λ (z : ℕ). z * q) e) ∙ mul_right_comm y q s ∙ ap (λ (z : ℕ). z * q) (sym k) ∙ mul_right_comm r l q)

halves : (x : ℕ) → x % 2 ≡ 0 → x ≡ 2 * (x / 2)
halves x h = omega arith

-- p / q is x * t / l with an even x, and v / s is t / l
even-number : (p q x t v s l : ℕ) → 0 < l → p * l ≡ x * t * q → v * l ≡ t * s → x % 2 ≡ 0 → p * s ≡ 2 * (x / 2) * v * q
even-number p q x t v s l L h k e =
    eq_of_mul-eq-mul_right l L (p * s) (2 * (x / 2) * v * q)
    (mul_right_comm p s l
    ∙ ap (λ (z : ℕ). z * s) h
    ∙ mul_right_comm (x * t) q s
    ∙ ap (λ (z : ℕ). z * q) (mul_assoc x t s ∙ ap (λ (z : ℕ). x * z) (sym k) ∙ sym (mul_assoc x v l))
    ∙ mul_right_comm (x * v) l q
    ∙ ap (λ (z : ℕ). z * v * q * l) (halves x e))

-- ---- nothing overflows
inf_above : (y : Float) (a c : ℕ) → HasValue y false a c → T (le (inf false) y) → ⊥
unfolding le
inf_above nan a c v t = v
inf_above (inf s) a c v t = v
inf_above (fin s m e) a c v t = t

capped : (f : Format) (q k : ℕ) (y : Float) (a c : ℕ) → HasValue y false a c → T (le (units f false q k) y) → q * 2 ^ k < overflow f
unfolding units
capped f q k y a c v = go (ltb (q * 2 ^ k) (overflow f)) (ltb→lt (q * 2 ^ k) (overflow f))
  where
    go : (t : Bool) → (T t → q * 2 ^ k < overflow f) → T (le (cond t (odd (suc (prec f)) false q k (low f)) (inf false)) y) → q * 2 ^ k < overflow f
    go true h l = h tt
    go false h l = absurd (inf_above y a c v l)

quotient_under : (f : Format) (a b : ℕ) → a ≤ 2 ^ prec f → 0 < b → grid f a b < overflow f
quotient_under f a b h B =
    capped f (kept (prec f) (a * 2 ^ low f) b) (drop (prec f) (a * 2 ^ low f) b) (round f false a 1) a 1 (round_whole f false a h)
    (subst (λ (z : Float). T (le z (round f false a 1))) (round_is f false a b) (round_mono f a b a 1 B (zero-lt-suc 0) (mul-le-mul_left a B)))

-- ---- a quotient of whole numbers that the format counts without a gap
own_size : (x : Float) (a c : ℕ) → HasValue x false a c → HasValue x false (num x) (den x)
own_size nan a c v = v
own_size (inf s) a c v = v
own_size (fin s m e) a c v = (v.0, refl)

pub quotient_nearest : (f : Format) (a b : ℕ) → a ≤ 2 ^ prec f → 0 < b → Nearest f (round f false a b) a b
quotient_nearest f a b h B =
    let x = round f false a b in
    let l = 2 ^ low f in
    let L : 0 < l = pow_pos (low f) in
    let P : 0 < prec f = two-le_pos (prec f) (two f) in
    let v : HasValue x false (grid f a b) l = round_val f a b (quotient_under f a b h B) in
    let c : num x * l ≡ grid f a b * den x = value→cross x (grid f a b) l v in
    record {
      value = round-fits f false a b;
      size = own_size x (grid f a b) l v;
      near = λ y t w.
          let u = in_units f y t in
          compared (num x) (den x) (grid f a b) (num y) (den y) (u.0 * 2 ^ u.1) l a b L c u.3 (grid_best (prec f) (a * l) b u.0 u.1 P B u.2);
      even = λ y t w e.
          let u = in_units f y t in
          let d = equated (num x) (den x) (grid f a b) (num y) (den y) (u.0 * 2 ^ u.1) l a b (den_pos x) (den_pos y) c u.3 e in
          elim (grid_tie (prec f) (a * l) b u.0 u.1 P B u.2 d) [
            | inl i ↦ inl (same_number (num x) (den x) (grid f a b) (num y) (den y) (u.0 * 2 ^ u.1) l L c u.3 i)
            | inr i ↦
                let k = kept (prec f) (a * l) b in
                inr (k / 2, even-number (num x) (den x) k (2 ^ u.1) (last_digit y) (den y) l L (subst (λ (z : ℕ). num x * l ≡ k * 2 ^ z * den x) i.1 c) (u.4 i.2) i.0)
          ];
    }
