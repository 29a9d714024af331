-- What the form of a record says of its octets, and that more octets behind a record, or behind what is none, leave it so. Assumes nothing.
use Prim.Native.Nat.{ℕ, ◌+◌, ◌*◌, ◌≤◌, ◌<◌}
use mathlib.Core.Path.{◌≡◌, refl, sym, ap, ◌∙◌}
use mathlib.Core.Bool.{Bool, true, false, cond, not, ◌&&◌}
use mathlib.Core.List.{List, ◌++◌}
use mathlib.Core.Logic.{⊎_elim, inl, inr, ◌⊎◌}
use borrow.Author.Tests.{eqb-true, eqb-false, ltb-true, ltb-false, ne_eqb, le-ltb, not-true, not-false}
use lib.Dec.{eqb, ltb}
use lib.ListN.{length, length-append, get_or-append}
use native.Mathlib.Omega.{arith}
use Rattle.scl.proofs.Cases.{and_right}
use Rattle.record.specs.declared.Record.{Record}
use Rattle.record.specs.declared.NoRecord.TheVariants.{Bad, Cut, End}
use Rattle.std.specs.Prelude.{Ok, Err}
use Rattle.record.specs.Format.{number_of, kind_named, at, kind_of, port_of, clock_of, length_of, size_of, most_octets, head_octets, record_mark_holds, length_in, kinds, head_holds, octet_holds, Form, nothing, part, bad, whole, form_by, form, record_by}

mark_by : (a b : ℕ) (x y : Bool) → eqb a 0x53 ≡ x → eqb b 0x4C ≡ y → a < 256 → b < 256 → eqb (a * 256 + b) 0x534C ≡ (eqb a 0x53 && eqb b 0x4C)
mark_by a b true true p q h k =
    let e : a * 256 + b ≡ 0x534C = omega (arith, eqb-true a 0x53 p, eqb-true b 0x4C q) in
    rw (p, q, e) refl
mark_by a b true false p q h k = rw (p, q) (ne_eqb (a * 256 + b) 0x534C (λ e. eqb-false b 0x4C q (omega (arith, e, eqb-true a 0x53 p))))
mark_by a b false y p q h k = rw p (ne_eqb (a * 256 + b) 0x534C (λ e. eqb-false a 0x53 p (omega (arith, e))))

-- the mark's two octets as one number
pub mark_is : (a b : ℕ) → a < 256 → b < 256 → eqb (a * 256 + b) 0x534C ≡ (eqb a 0x53 && eqb b 0x4C)
mark_is a b = mark_by a b _ _ refl refl

-- a record of kind 4 whose head holds has the length 1
pub four : (s : List ℕ) → head_holds s ≡ true → kind_of s ≡ 4 → length_of s ≡ 1
four s h k = eqb-true (length_of s) 1 (and_right (record_mark_holds s) (eqb (length_of s) 1) (rw k at h))

numbered_by : (k m : ℕ) (a b c d : Bool) → eqb k 1 ≡ a → eqb k 2 ≡ b → eqb k 3 ≡ c → eqb k 4 ≡ d → length_in kinds k m ≡ true → number_of (kind_named k) ≡ k
numbered_by k m true b c d p q r s h = rw p (sym (eqb-true k 1 p))
numbered_by k m false true c d p q r s h = rw (p, q) (sym (eqb-true k 2 q))
numbered_by k m false false true d p q r s h = rw (p, q, r) (sym (eqb-true k 3 r))
numbered_by k m false false false true p q r s h = rw (p, q, r) (sym (eqb-true k 4 s))
numbered_by k m false false false false p q r s h = let z : false ≡ true = rw (p, q, r, s) at h in cc z

-- the kind of a record whose head holds has its number
pub numbered : (s : List ℕ) → head_holds s ≡ true → number_of (kind_named (kind_of s)) ≡ kind_of s
numbered s h =
    numbered_by (kind_of s) (length_of s) _ _ _ _ refl refl refl refl (and_right (record_mark_holds s) (length_in kinds (kind_of s) (length_of s)) h)

others_by : (a b c e f z : Bool)
    → cond a true (cond b true (cond c e (cond false f false))) ≡ true → cond a true (cond b true (cond c true (cond false z false))) ≡ true
others_by true b c e f z h = refl
others_by false true c e f z h = refl
others_by false false true e f z h = refl
others_by false false false e f z h = cc

-- a kind other than 4 asks nothing of its octets
pub others : (s : List ℕ) → head_holds s ≡ true → eqb (kind_of s) 4 ≡ false → octet_holds s ≡ true
others s h e =
    rw e
    (others_by (eqb (kind_of s) 1) (eqb (kind_of s) 2) (eqb (kind_of s) 3) (eqb (length_of s) 0) (eqb (length_of s) 1) (ltb (at s 9) 4)
    (rw e at (and_right (record_mark_holds s) (length_in kinds (kind_of s) (length_of s)) h)))

-- what a test `!r` says of b, where r is b
pub off : {r b : Bool} → r ≡ b → not r ≡ true → b ≡ false
off {r} e h = sym e ∙ not-true r h

pub on : {r b : Bool} → r ≡ b → not r ≡ false → b ≡ true
on {r} e h = sym e ∙ not-false r h

-- ---- What stands at a position

-- what an answer says of the form that it is made from
pub record Found (f : Form) (s : List ℕ) (p : ℕ) (r : Record) : Type 0 where
  pub is_whole_lem : f ≡ whole
  pub kind : r.kind ≡ kind_named (kind_of s)
  pub port : r.port ≡ port_of s
  pub clock : r.clock ≡ clock_of s
  pub start : r.start ≡ p + head_octets
  pub next : r.next ≡ p + size_of s

pub whole_found : (f : Form) (s : List ℕ) (p : ℕ) (r : Record) → record_by f s p ≡ Ok r → Found f s p r
whole_found nothing s p r e = record { is_whole_lem = cc; kind = cc; port = cc; clock = cc; start = cc; next = cc }
whole_found part s p r e = record { is_whole_lem = cc; kind = cc; port = cc; clock = cc; start = cc; next = cc }
whole_found bad s p r e = record { is_whole_lem = cc; kind = cc; port = cc; clock = cc; start = cc; next = cc }
whole_found whole s p r e = record { is_whole_lem = refl; kind = cc; port = cc; clock = cc; start = cc; next = cc }

pub bad_found : (f : Form) (s : List ℕ) (p : ℕ) → record_by f s p ≡ Err Bad → f ≡ bad
bad_found nothing s p e = cc
bad_found part s p e = cc
bad_found bad s p e = refl
bad_found whole s p e = cc

pub end_found : (f : Form) (s : List ℕ) (p : ℕ) → record_by f s p ≡ Err End → f ≡ nothing
end_found nothing s p e = refl
end_found part s p e = cc
end_found bad s p e = cc
end_found whole s p e = cc

pub cut_found : (f : Form) (s : List ℕ) (p : ℕ) → record_by f s p ≡ Err Cut → f ≡ part
cut_found nothing s p e = cc
cut_found part s p e = refl
cut_found bad s p e = cc
cut_found whole s p e = cc

-- the tests that lead to a whole record
pub record Tests (e n h l b : Bool) : Type 0 where
  pub some : e ≡ false
  pub headed : n ≡ false
  pub right : h ≡ true
  pub long : l ≡ false
  pub good : b ≡ true

whole_tests : (e n h l b : Bool) → form_by e n h l b ≡ whole → Tests e n h l b
whole_tests true n h l b q = record { some = cc; headed = cc; right = cc; long = cc; good = cc }
whole_tests false true h l b q = record { some = refl; headed = cc; right = cc; long = cc; good = cc }
whole_tests false false false l b q = record { some = refl; headed = refl; right = cc; long = cc; good = cc }
whole_tests false false true true b q = record { some = refl; headed = refl; right = refl; long = cc; good = cc }
whole_tests false false true false false q = record { some = refl; headed = refl; right = refl; long = refl; good = cc }
whole_tests false false true false true q = record { some = refl; headed = refl; right = refl; long = refl; good = refl }

pub tests_of : (s : List ℕ) → form s ≡ whole
    → Tests (eqb (length s) 0) (ltb (length s) head_octets) (head_holds s) (ltb (length s) (size_of s)) (octet_holds s)
tests_of s q = whole_tests (eqb (length s) 0) (ltb (length s) head_octets) (head_holds s) (ltb (length s) (size_of s)) (octet_holds s) q

pub whole_fits : (s : List ℕ) → form s ≡ whole → size_of s ≤ length s
whole_fits s q = ltb-false (length s) (size_of s) (tests_of s q).long

-- what was read of a whole record has the kind of its number
pub found_number : (s : List ℕ) (p : ℕ) (r : Record) → record_by (form s) s p ≡ Ok r → number_of r.kind ≡ kind_of s
found_number s p r e =
    let f = whole_found (form s) s p r e in
    ap number_of f.kind ∙ numbered s (tests_of s f.is_whole_lem).right

nothing_tests : (e n h l b : Bool) → form_by e n h l b ≡ nothing → e ≡ true
nothing_tests true n h l b q = refl
nothing_tests false true h l b q = cc
nothing_tests false false false l b q = cc
nothing_tests false false true true b q = cc
nothing_tests false false true false false q = cc
nothing_tests false false true false true q = cc

pub nothing_none : (s : List ℕ) → form s ≡ nothing → length s ≡ 0
nothing_none s q = eqb-true (length s) 0 (nothing_tests (eqb (length s) 0) (ltb (length s) head_octets) (head_holds s) (ltb (length s) (size_of s)) (octet_holds s) q)

part_tests : (e n h l b : Bool) → form_by e n h l b ≡ part → (n ≡ true) ⊎ ((n ≡ false) × (l ≡ true))
part_tests true n h l b q = inl cc
part_tests false true h l b q = inl refl
part_tests false false false l b q = inl cc
part_tests false false true true b q = inr (refl, refl)
part_tests false false true false false q = inl cc
part_tests false false true false true q = inl cc

-- where the octet that is its length is one, a record cut short has fewer octets than a record can have
pub part-short : (s : List ℕ) → (head_octets ≤ length s → length_of s < 256) → form s ≡ part → length s < most_octets
part-short s octet q =
    ⊎_elim
    (λ w. omega (arith, ltb-true (length s) head_octets w))
    (λ w. omega (arith, ltb-true (length s) (size_of s) w.1, octet (ltb-false (length s) head_octets w.0)))
    (part_tests (eqb (length s) 0) (ltb (length s) head_octets) (head_holds s) (ltb (length s) (size_of s)) (octet_holds s) q)

-- ---- More octets behind

-- a form that is no record ends with one of two tests
bad_tests : (e n h l b : Bool) → form_by e n h l b ≡ bad → (e ≡ false) × (n ≡ false) × ((h ≡ false) ⊎ ((h ≡ true) × (l ≡ false) × (b ≡ false)))
bad_tests true n h l b q = (cc, cc, inl (cc))
bad_tests false true h l b q = (cc, cc, inl (cc))
bad_tests false false false l b q = (refl, refl, inl refl)
bad_tests false false true true b q = (refl, refl, inl (cc))
bad_tests false false true false false q = (refl, refl, inr (refl, refl, refl))
bad_tests false false true false true q = (refl, refl, inl (cc))

by_whole : (e n h l b : Bool) → e ≡ false → n ≡ false → h ≡ true → l ≡ false → b ≡ true → form_by e n h l b ≡ whole
by_whole e n h l b p q r s t = rw (p, q, r, s, t)

by_head : (e n h l b : Bool) → e ≡ false → n ≡ false → h ≡ false → form_by e n h l b ≡ bad
by_head e n h l b p q r = rw (p, q, r)

by_octet : (e n h l b : Bool) → e ≡ false → n ≡ false → h ≡ true → l ≡ false → b ≡ false → form_by e n h l b ≡ bad
by_octet e n h l b p q r s t = rw (p, q, r, s, t)

module _ (a b : List ℕ) where
  pub at_kept : (k : ℕ) → k < length a → at (a ++ b) k ≡ at a k
  at_kept k h = get_or-append a b 0 k h

  head_kept : 9 ≤ length a → head_holds (a ++ b) ≡ head_holds a
  head_kept h = simp (at_kept 0 (omega arith), at_kept 1 (omega arith), at_kept 2 (omega arith), at_kept 8 (omega arith))

  some_kept : 9 ≤ length a → eqb (length (a ++ b)) 0 ≡ false
  some_kept h = ne_eqb (length (a ++ b)) 0 (λ e. omega (arith, length-append a b))

  headed_kept : 9 ≤ length a → ltb (length (a ++ b)) 9 ≡ false
  headed_kept h = le-ltb (length (a ++ b)) 9 (omega (arith, length-append a b))

  room_kept : 9 ≤ length a → size_of a ≤ length a → ltb (length (a ++ b)) (size_of (a ++ b)) ≡ false
  room_kept h g = le-ltb (length (a ++ b)) (size_of (a ++ b)) (omega (arith, length-append a b, at_kept 8 (omega arith)))

  octet_by_lem : (k : Bool) → eqb (kind_of a) 4 ≡ k → 9 ≤ length a → size_of a ≤ length a → head_holds a ≡ true → octet_holds (a ++ b) ≡ octet_holds a
  octet_by_lem false e h g r =
      let e' : eqb (kind_of (a ++ b)) 4 ≡ false = rw (at_kept 2 (omega arith)) e in
      others (a ++ b) (head_kept h ∙ r) e' ∙ sym (others a r e)
  octet_by_lem true e h g r =
      let f : length_of a ≡ 1 = four a r (eqb-true (kind_of a) 4 e) in
      simp (at_kept 2 (omega arith), at_kept 9 (omega arith))

  octet_kept : 9 ≤ length a → size_of a ≤ length a → head_holds a ≡ true → octet_holds (a ++ b) ≡ octet_holds a
  octet_kept = octet_by_lem (eqb (kind_of a) 4) refl

  pub whole_kept : form a ≡ whole → form (a ++ b) ≡ whole
  whole_kept q =
      let t = tests_of a q in
      let h : 9 ≤ length a = ltb-false (length a) 9 t.headed in
      let g = whole_fits a q in
      by_whole _ _ _ _ _ (some_kept h) (headed_kept h) (head_kept h ∙ t.right) (room_kept h g) (octet_kept h g t.right ∙ t.good)

  pub bad_kept : form a ≡ bad → form (a ++ b) ≡ bad
  bad_kept q =
      let t = bad_tests (eqb (length a) 0) (ltb (length a) 9) (head_holds a) (ltb (length a) (size_of a)) (octet_holds a) q in
      let h : 9 ≤ length a = ltb-false (length a) 9 t.1 in
      ⊎_elim
      (λ w. by_head _ _ _ (ltb (length (a ++ b)) (size_of (a ++ b))) (octet_holds (a ++ b)) (some_kept h) (headed_kept h) (head_kept h ∙ w))
      (λ w. by_octet _ _ _ _ _ (some_kept h) (headed_kept h) (head_kept h ∙ w.0) (room_kept h (ltb-false (length a) (size_of a) w.1)) (octet_kept h (ltb-false (length a) (size_of a) w.1) w.0 ∙ w.2))
      t.2

pub bad_some : (s : List ℕ) → form s ≡ bad → eqb (length s) 0 ≡ false
bad_some s q = (bad_tests (eqb (length s) 0) (ltb (length s) 9) (head_holds s) (ltb (length s) (size_of s)) (octet_holds s) q).0
