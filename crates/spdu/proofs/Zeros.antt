-- A loop that looks for an octet that is not zero. Assumes nothing.
use mathlib.Core.Path.{◌≡◌, refl, sym, ap, ◌∙◌}
use mathlib.Core.Bool.{Bool, true, false, ◌&&◌}
use mathlib.Core.List.{List}
use Prim.Native.Nat.{ℕ, ◌+◌, ◌≤◌, ◌<◌}
use native.Mathlib.Numerals.{add-one}
use native.Mathlib.Omega.{arith}
use borrow.Author.Tests.{eq-eqb, ne_eqb}
use lib.Dec.{eqb}
use lib.ListN.{length, get_or, drop, drop_of_length-le}
use lib.Seq.{drop-cons}
use Rattle.spdu.specs.Places.{is_all_zero}

-- the octets before i are zeros, so that what is left decides
pub record ZerosBefore (s : List ℕ) (i : ℕ) : Type 0 where
  pub within : i ≤ length s
  pub rest : is_all_zero (drop i s) ≡ is_all_zero s

split : (s : List ℕ) (i : ℕ) → i < length s → is_all_zero (drop i s) ≡ (eqb (get_or s i 0) 0 && is_all_zero (drop (i + 1) s))
split s i h = rw (add-one, drop-cons s i 0)

module _ {s : List ℕ} where
  pub start : ZerosBefore s 0
  start = record { within = omega arith; rest = refl }

  pub again : {i : ℕ} → ZerosBefore s i → i < length s → get_or s i 0 ≡ 0 → ZerosBefore s (i + 1)
  again {i} inv h e = record { within = omega arith; rest = sym (split s i h ∙ ap (λ (b : Bool). b && is_all_zero (drop (i + 1) s)) (eq-eqb (get_or s i 0) 0 e)) ∙ inv.rest }

  pub found : {i : ℕ} → ZerosBefore s i → i < length s → (get_or s i 0 ≡ 0 → ⊥) → false ≡ is_all_zero s
  found {i} inv h e = sym (split s i h ∙ ap (λ (b : Bool). b && is_all_zero (drop (i + 1) s)) (ne_eqb (get_or s i 0) 0 e)) ∙ inv.rest

  pub done : {i : ℕ} → ZerosBefore s i → length s ≤ i → true ≡ is_all_zero s
  done {i} inv h = sym (ap is_all_zero (drop_of_length-le s h)) ∙ inv.rest
