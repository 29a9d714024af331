-- The answer by rules is that of the first rule that is broken; and where no two rules have one answer, each rule's answer is given only for that
-- rule. Assumes nothing.
use mathlib.Core.Path.{◌≡◌, refl, sym, ap, ◌∙◌}
use mathlib.Core.Logic.{◌↔◌, ◌⊎◌, inl, inr}
use mathlib.Core.Bool.{Bool, true, false, ◌&&◌, not, and-false, true≢false, false≢true}
use mathlib.Core.List.{List, [], ◌∷◌}
use Prim.Native.Nat.{ℕ, zero, suc, ◌+◌, ◌*◌, ◌<◌}
use native.Mathlib.Nat.{le_of_suc-le-suc}
use native.Mathlib.Omega.{arith}
use lib.Dec.{T, T_not, eqb, eqb_refl}
use lib.ListN.{length, get_or}
use mir.Facts.{and_yes}
use Rattle.std.specs.Prelude.{Err}
use Rattle.answer.specs.declared.Refusal.{Refusal}
use Rattle.answer.specs.Answers.{Answer, Taken, number_of, offset_of, is_taken}
use Rattle.answer.specs.Rules.{Rule, rule, refused, answer_by, broken_at, answer_at, First, Kept}

-- an answer as one number
abbrev pub code : Answer → ℕ
code a = number_of a * 256 + offset_of a

-- the codes of the rules' answers, in their order
abbrev codes : List Rule → List ℕ
codes [] = []
codes (rule b r ∷ rules) = code (Err r) ∷ codes rules

abbrev absent : ℕ → List ℕ → Bool
absent x [] = true
absent x (y ∷ ys) = not (eqb x y) && absent x ys

-- no number twice: a test that antt computes
abbrev distinct : List ℕ → Bool
distinct [] = true
distinct (x ∷ xs) = absent x xs && distinct xs

-- ---- each answer stands at one place of the list
differs : (x y : ℕ) → T (not (eqb x y)) → x ≡ y → ⊥
differs x y t e = T_not (eqb x y) t (rw e (eqb_refl y))

elsewhere : (x : ℕ) (ys : List ℕ) (j : ℕ) → T (absent x ys) → j < length ys → x ≡ get_or ys j 0 → ⊥
elsewhere x [] j t h e = absurd (omega arith)
elsewhere x (y ∷ ys) zero t h e = differs x y (and_yes (not (eqb x y)) (absent x ys) t).0 e
elsewhere x (y ∷ ys) (suc j) t h e = elsewhere x ys j (and_yes (not (eqb x y)) (absent x ys) t).1 (le_of_suc-le-suc h) e

one_place : (xs : List ℕ) (i j : ℕ) → T (distinct xs) → i < length xs → j < length xs → get_or xs i 0 ≡ get_or xs j 0 → i ≡ j
one_place [] i j t h k e = absurd (omega arith)
one_place (x ∷ xs) zero zero t h k e = refl
one_place (x ∷ xs) zero (suc j) t h k e = absurd (elsewhere x xs j (and_yes (absent x xs) (distinct xs) t).0 (le_of_suc-le-suc k) e)
one_place (x ∷ xs) (suc i) zero t h k e = absurd (elsewhere x xs i (and_yes (absent x xs) (distinct xs) t).0 (le_of_suc-le-suc h) (sym e))
one_place (x ∷ xs) (suc i) (suc j) t h k e = ap suc (one_place xs i j (and_yes (absent x xs) (distinct xs) t).1 (le_of_suc-le-suc h) (le_of_suc-le-suc k) e)

codes-length : (rules : List Rule) → length (codes rules) ≡ length rules
codes-length [] = refl
codes-length (rule b r ∷ rules) = ap suc (codes-length rules)

code_at : (rules : List Rule) (i : ℕ) → i < length rules → get_or (codes rules) i 0 ≡ code (answer_at rules i)
code_at [] i h = absurd (omega arith)
code_at (rule b r ∷ rules) zero h = refl
code_at (rule b r ∷ rules) (suc i) h = code_at rules i (le_of_suc-le-suc h)

-- rules go on from the answer of those before
pub onward : {a b : Answer} (rules : List Rule) → a ≡ b → answer_by a rules ≡ answer_by b rules
onward rules e = ap (λ (a : Answer). answer_by a rules) e

-- a rule that is kept changes no answer
pub refused_kept : (a : Answer) (r : Refusal) → refused a false r ≡ a
refused_kept a r = simp (and-false (is_taken a))

-- ---- a refusal stays; the first rule that is broken refuses; where there is none the answer stays TAKEN
pub stays : (a : Answer) (rules : List Rule) → is_taken a ≡ false → answer_by a rules ≡ a
stays a [] h = refl
stays a (rule b r ∷ rules) h = rw h (stays a rules h)

later : {r : Refusal} {rules : List Rule} {i : ℕ} → First rules i → First (rule false r ∷ rules) (suc i)
later {r} {rules} {i} f = record { broken = f.broken; earlier = go }
  where
    go : (j : ℕ) → j < suc i → broken_at (rule false r ∷ rules) j ≡ false
    go zero h = refl
    go (suc j) h = f.earlier j (le_of_suc-le-suc h)

sooner : {r : Refusal} {rules : List Rule} {i : ℕ} → First (rule false r ∷ rules) (suc i) → First rules i
sooner f = record { broken = f.broken; earlier = λ j h. f.earlier (suc j) (omega arith) }

find : (rules : List Rule) → ((i : ℕ) × (First rules i × (i < length rules))) ⊎ Kept rules
find [] = inr (record { each = λ j. refl })
find (rule true r ∷ rules) = inl (0, (record { broken = refl; earlier = λ j h. absurd (omega arith) }, omega arith))
find (rule false r ∷ rules) = elim (find rules) [ inl (i, (f, h)) ↦ inl (suc i, (later f, omega arith)) | inr k ↦ inr (record { each = λ j. go k j }) ]
  where
    go : Kept rules → (j : ℕ) → broken_at (rule false r ∷ rules) j ≡ false
    go k zero = refl
    go k (suc j) = k.each j

takes : (rules : List Rule) → Kept rules → answer_by Taken rules ≡ Taken
takes [] k = refl
takes (rule true r ∷ rules) k = absurd (true≢false (k.each 0))
takes (rule false r ∷ rules) k = takes rules (record { each = λ j. k.each (suc j) })

refuses : (rules : List Rule) (i : ℕ) → First rules i → answer_by Taken rules ≡ answer_at rules i
refuses [] i f = absurd (false≢true f.broken)
refuses (rule true r ∷ rules) zero f = stays (Err r) rules refl
refuses (rule false r ∷ rules) zero f = absurd (false≢true f.broken)
refuses (rule true r ∷ rules) (suc i) f = absurd (true≢false (f.earlier 0 (omega arith)))
refuses (rule false r ∷ rules) (suc i) f = refuses rules i (sooner f)

refusal : (rules : List Rule) (i : ℕ) → i < length rules → is_taken (answer_at rules i) ≡ false
refusal [] i h = absurd (omega arith)
refusal (rule b r ∷ rules) zero h = refl
refusal (rule b r ∷ rules) (suc i) h = refusal rules i (le_of_suc-le-suc h)

-- ---- the theorems
module _ (rules : List Rule) where
  -- A rule's answer is given exactly where the rule is broken and none before it is.
  pub given_exactly : T (distinct (codes rules)) → (i : ℕ) → i < length rules → (answer_by Taken rules ≡ answer_at rules i) ↔ First rules i
  given_exactly apart i h = (only, refuses rules i)
    where
      only : answer_by Taken rules ≡ answer_at rules i → First rules i
      only e = elim (find rules) [ inl (j, (f, k)) ↦ here j f k | inr kept ↦ absurd (true≢false (ap is_taken (sym (takes rules kept) ∙ e) ∙ refusal rules i h)) ]
        where
          here : (j : ℕ) → First rules j → j < length rules → First rules i
          here j f k =
              let q : answer_at rules j ≡ answer_at rules i = sym (refuses rules j f) ∙ e in
              let o : j ≡ i = one_place (codes rules) j i apart (rw codes-length k) (rw codes-length h) (code_at rules j k ∙ ap code q ∙ sym (code_at rules i h)) in
              rw (sym o) f

  -- TAKEN is given exactly where no rule is broken.
  pub taken_exactly : (is_taken (answer_by Taken rules) ≡ true) ↔ Kept rules
  taken_exactly = (only, λ k. ap is_taken (takes rules k))
    where
      only : is_taken (answer_by Taken rules) ≡ true → Kept rules
      only e = elim (find rules) [ inl (j, (f, k)) ↦ absurd (false≢true (sym (refusal rules j k) ∙ ap is_taken (sym (refuses rules j f)) ∙ e)) | inr kept ↦ kept ]
