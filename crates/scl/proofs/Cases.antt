-- Going by cases on a test. Assumes nothing.
use Rattle.std.proofs.Common.{◌≡◌, ℕ, Bool, true, false, cond, ◌&&◌, ◌||◌, refl, arith}

-- what holds of each arm, where its test says so, holds of the choice
pub cond_case : {A : Type 0} (P : A → Type 0) (b : Bool) {x y : A} → (b ≡ true → P x) → (b ≡ false → P y) → P (cond b x y)
cond_case P true p q = p refl
cond_case P false p q = q refl

-- two choices by the same test are related where their arms are
pub cond_both : {A B : Type 0} (R : A → B → Type 0) (b : Bool) {x y : A} {m n : B} → R x m → R y n → R (cond b x y) (cond b m n)
cond_both R true p q = p
cond_both R false p q = q

pub no : {A : Type 0} → true ≡ false → A
no e = let z : ◌≡◌ {A = ℕ} 0 1 = cc in absurd (omega arith)

pub and_left : (a b : Bool) → (a && b) ≡ true → a ≡ true
and_left true b e = refl
and_left false b e = e

pub and_right : (a b : Bool) → (a && b) ≡ true → b ≡ true
and_right true b e = e
and_right false b e = cc

pub or_left : (a b : Bool) → (a || b) ≡ false → a ≡ false
or_left true b e = e
or_left false b e = refl

pub or_right : (a b : Bool) → (a || b) ≡ false → b ≡ false
or_right true b e = let z : true ≡ false = e in cc
or_right false b e = e

pub or_second : (a b : Bool) → b ≡ true → (a || b) ≡ true
or_second true b e = refl
or_second false b e = e

pub cond-or : {A : Type 0} (a b : Bool) (x y : A) → cond a x (cond b x y) ≡ cond (a || b) x y
cond-or true b x y = refl
cond-or false b x y = refl
