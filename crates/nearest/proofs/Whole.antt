-- A whole number that a format counts without a gap is converted exactly, and the quotient of two such numbers is their fraction rounded once.
-- Assumes nothing.
use mathlib.Core.Path.{◌≡◌, sym, ap, ◌∙◌, subst}
use Prim.Native.Nat.{ℕ, ◌*◌, ◌^◌, ◌≤◌, ◌<◌}
use native.Mathlib.Nat.{mul-one, mul_comm, mul_assoc, mul_left_comm, mul-pos, zero-lt-suc}
use native.Mathlib.Omega.{arith}
use mathlib.Core.Bool.{Bool, true, false, not, true≢false}
use lib.IntN.{pos}
use lib.Dec.{T, eqb, eqb→eq, le→leb}
use lib.Ieee.{Float, nan, inf, fin, Format, prec, up, down, round, of_int, in_float, div}
use lib.Ieee.Fits.{up_pos, down_pos}
use lib.Ieee.Bits.{cond_no}
use lib.Ieee.Exact.{HasValue}
use lib.Ieee.Back.{round_whole, unsigned_back}
use lib.Ieee.Scale.{round_same}
use lib.Ieee.Positive.{first_pos}
use Rattle.nearest.specs.Nearest.{Exact}

whole_is : (f : Format) (n : ℕ) → n ≤ 2 ^ prec f → HasValue (of_int f (pos n)) false n 1
unfolding of_int
whole_is f n h = round_whole f false n h

in_float_lem : (f : Format) (n : ℕ) → n ≤ 2 ^ prec f → T (in_float f (pos n))
unfolding in_float
in_float_lem f n h = le→leb n (2 ^ prec f) h

pub exact : (f : Format) (n : ℕ) → n ≤ 2 ^ prec f → n < 2 ^ 64 → Exact f n
exact f n h l = record { value = whole_is f n h; back = (unsigned_back f 64 n (in_float_lem f n h) l).1 }

-- ---- the quotient of a / c and b / d
not_zero : (n : ℕ) → 0 < n → T (not (eqb n 0))
not_zero n h = go (eqb n 0) (eqb→eq n 0)
  where
    go : (b : Bool) → (T b → n ≡ 0) → T (not b)
    go true k = let z : n ≡ 0 = k tt in absurd (omega arith)
    go false k = tt

cross : (p q r s a b c d : ℕ) → p * c ≡ a * r → q * d ≡ b * s → p * s * (b * c) ≡ a * d * (q * r)
cross p q r s a b c d h k =
    let x : p * s * (b * c) ≡ p * c * (b * s) = simp (mul_assoc, mul_comm, mul_left_comm) in
    let y : a * r * (q * d) ≡ a * d * (q * r) = simp (mul_assoc, mul_comm, mul_left_comm) in
    x ∙ ap (λ (z : ℕ). z * (b * s)) h ∙ ap (λ (z : ℕ). a * r * z) (sym k) ∙ y

div-at : (f : Format) (x y : Float) (a c b d : ℕ) → 0 < b → 0 < c → HasValue x false a c → HasValue y false b d → div f x y ≡ round f false (a * d) (b * c)
unfolding div
div-at f nan y a c b d B C h k = absurd h
div-at f (inf s) y a c b d B C h k = absurd h
div-at f (fin true m e) y a c b d B C h k = absurd (true≢false h.0)
div-at f (fin false m e) nan a c b d B C h k = absurd k
div-at f (fin false m e) (inf t) a c b d B C h k = absurd k
div-at f (fin false m e) (fin true n g) a c b d B C h k = absurd (true≢false k.0)
div-at f (fin false m e) (fin false n g) a c b d B C h k =
    let N : 0 < n = first_pos n (up g) (first_pos (n * up g) d (subst (λ (z : ℕ). 0 < z) (sym k.1) (mul-pos B (down_pos g)))) in
    cond_no (eqb n 0) _ _ (not_zero n N)
    ∙ round_same f false (m * up e * down g) (n * up g * down e) (a * d) (b * c) (mul-pos (mul-pos N (up_pos g)) (down_pos e)) (mul-pos B C) (cross (m * up e) (n * up g) (down e) (down g) a b c d h.1 k.1)

pub rounded_once : (f : Format) (a b : ℕ) → a ≤ 2 ^ prec f → 0 < b → b ≤ 2 ^ prec f → div f (of_int f (pos a)) (of_int f (pos b)) ≡ round f false a b
rounded_once f a b h B k =
    div-at f (of_int f (pos a)) (of_int f (pos b)) a 1 b 1 B (zero-lt-suc 0) (whole_is f a h) (whole_is f b k) ∙ (λ i. round f false (mul-one a i) (mul-one b i))
