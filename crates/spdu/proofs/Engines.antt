-- Signing by an engine: a message and two octets behind it; and either engine, with tables that serve it, signs as bits do. Assumes nothing.
use mathlib.Core.Path.{◌≡◌, refl, sym, ap, ◌∙◌}
use mathlib.Core.Bool.{Bool, true, false, cond}
use mathlib.Core.List.{List, [], ◌∷◌, ◌++◌}
use Prim.Native.Nat.{ℕ}
use lib.Dec.{eqb, lit<}
use Rattle.gf2.specs.Generators.{generator16, generator32}
use Rattle.signature.specs.declared.Engine.{Engine}
use Rattle.signature.specs.Signature.{signature}
use Rattle.signature.specs.Engines.{octet_by, signed_by, Serves}
use Rattle.signature.proofs.Loop.{ByOctets}
use Rattle.signature.proofs.Engines.{by_octets, engine_signs}
use Rattle.spdu.specs.Signature.{by_bits, by_engine}
use Rattle.spdu.specs.Built.{contents_with}

by_two : {one : ℕ → ℕ → ℕ} {all : ℕ → List ℕ → ℕ} → ByOctets one all → (r : ℕ) (xs : List ℕ) (x y : ℕ)
    → one (one (all r xs) x) y ≡ all r (xs ++ (x ∷ y ∷ []))
by_two {one} {all} by r [] x y =
    sym (by.some r x (y ∷ []) ∙ by.some (one r x) y [] ∙ by.none (one (one r x) y) ∙ ap (λ (s : ℕ). one (one s x) y) (sym (by.none r)))
by_two {one} {all} by r (z ∷ xs) x y =
    ap (λ (s : ℕ). one (one s x) y) (by.some r z xs) ∙ by_two by (one r z) xs x y ∙ sym (by.some r z (xs ++ (x ∷ y ∷ [])))

-- the register that is `a` after the process octets, `b` after the port number, and `c` after the control or status octet
pub sealed : (e : Engine) (w g n : ℕ) (t process : List ℕ) (port control : ℕ) {a b c : ℕ}
    → a ≡ signed_by e w g n t 1 process → b ≡ octet_by e w g n t a port → c ≡ octet_by e w g n t b control
    → c ≡ signed_by e w g n t 1 (contents_with process port control)
sealed e w g n t process port control first second third =
    third
    ∙ ap (λ (r : ℕ). octet_by e w g n t r control) (second ∙ ap (λ (r : ℕ). octet_by e w g n t r port) first)
    ∙ by_two (by_octets e w g n t) 1 process port control

-- with tables that serve the engine, what is read and built is what the bit shift algorithm says
right_engine : (e : Engine) (short long : List ℕ) → Serves e 16 generator16 8 short → Serves e 32 generator32 4 long → (mode : ℕ) (contents : List ℕ)
    → by_engine e short long mode contents ≡ by_bits mode contents
right_engine e short long s l mode contents = by (eqb mode 1)
  where
    by : (b : Bool)
        → signed_by e (cond b 16 32) (cond b generator16 generator32) (cond b 8 4) (cond b short long) 1 contents
        ≡ signature (cond b 16 32) (cond b generator16 generator32) 1 contents
    by true = engine_signs 16 generator16 8 8 refl (lit< tt) (lit< tt) refl e short s 1 contents
    by false = engine_signs 32 generator32 4 28 refl (lit< tt) (lit< tt) refl e long l 1 contents

-- as methods of signing
pub right_method : (e : Engine) (short long : List ℕ) → Serves e 16 generator16 8 short → Serves e 32 generator32 4 long → by_engine e short long ≡ by_bits
right_method e short long s l = λ i mode contents. right_engine e short long s l mode contents i
