-- Laws of byte runs, for the proofs of the functions and for the theorems.
use Prim.Native.Nat.{ℕ, zero, suc, ◌+◌, ◌-◌, ◌*◌, ◌/◌, ◌%◌, ◌^◌, ◌≤◌, ◌<◌}
use mathlib.Core.Path.{◌≡◌, refl, sym, ap, ◌∙◌}
use mathlib.Core.List.{List, [], ◌∷◌, ◌++◌, append_assoc}
use mathlib.Core.Bool.{Bool, true, false, ◌&&◌, cond, and-true, and-false, and_assoc, false≢true}
use mathlib.Core.Logic.{◌⊎◌, inl, inr}
use native.Mathlib.Numerals.{add-one}
use native.Mathlib.Nat.{pow-suc, pow-le-pow_right, add-zero, zero-add, add-suc, suc-add}
use lib.ListN.{length, get_or, take, drop, set, replicate, drop_of_length-le, length-append, length-replicate, length-take}
use native.Mathlib.Omega.{arith}
use lib.Dec.{eqb, leb, ltb, lit<}
use lib.Seq.{drop-cons, drop-drop, get_or_at, sets, sets-eq, take-append_seam}
use borrow.Author.Tests.{eq-eqb, eqb-true, ltb-true, ltb-false, le-ltb, le-leb}
use borrow.Rule.Slice.PartMut.{put_mid}
use Rattle.std.specs.List.{list_all, list_any, starts_with}
use Rattle.forms.specs.Bytes.{to_bytes, from_bytes, pad, within, all, contains, leads, same}
use Rattle.forms.specs.Fields.{frame, framed}
use Rattle.forms.specs.Framing.{framing_as, framing_of}
use Rattle.forms.specs.declared.framing.Framing.TheVariants as F

-- ---- tests

pub below_or_past : (i n : ℕ) → (i < n) ⊎ (n ≤ i)
below_or_past i n = go (ltb i n) refl
  where
    go : (b : Bool) → ltb i n ≡ b → (i < n) ⊎ (n ≤ i)
    go true e = inl (ltb-true i n e)
    go false e = inr (ltb-false i n e)

pub and_left : (a b : Bool) → (a && b) ≡ true → a ≡ true
and_left true b h = refl
and_left false b h = h

pub and_right : (a b : Bool) → (a && b) ≡ true → b ≡ true
and_right true b h = h
and_right false b h = absurd (false≢true h)

-- what a choice gives, where it is not the second
pub picked : {A : Type 0} (b : Bool) (x y z : A) → cond b x y ≡ z → (y ≡ z → ⊥) → (b ≡ true) × (x ≡ z)
picked true x y z h n = (refl, h)
picked false x y z h n = absurd (n h)

-- ---- what std's methods of slices answer, in the words of specs/

pub all_lem : (p : ℕ → Bool) (s : List ℕ) → list_all p s ≡ all p s
unfolding all
all_lem p [] = refl
all_lem p (x ∷ s) = rw (all_lem p s)

pub contains_lem : (x : ℕ) (t : List ℕ) → list_any (λ (y : ℕ). eqb y x) t ≡ contains x t
unfolding contains
contains_lem x [] = refl
contains_lem x (y ∷ t) = rw (contains_lem x t)

pub leads_lem : (a d : List ℕ) → starts_with eqb d a ≡ leads a d
unfolding leads
leads_lem [] d = refl
leads_lem (x ∷ a) [] = refl
leads_lem (x ∷ a) (y ∷ d) = rw (leads_lem a d)

-- s copied into the part of d from place a to e
pub copied : (d s t : List ℕ) (a e : ℕ) → t ≡ s → e ≡ a + length s → e ≤ length d → put_mid a (e - a) d t ≡ sets d a s
copied d s t a e p q l =
    let k : e - a ≡ length s = omega arith in
    rw (p, k, sets-eq s d a (rw q at l), drop-drop (length s) a d, append_assoc)

-- Cited by no proof any more; docs/PORT.md names them. A loop that stores the elements of s from place a on: what is left to store, at the start, after a turn, at the end.
pub sets_start : (d s : List ℕ) (a : ℕ) → sets d (a + 0) (drop 0 s) ≡ sets d a s
sets_start d s a = rw add-zero

pub sets_step : (d s : List ℕ) (a i : ℕ) → i < length s → sets (set d (a + i) (get_or s i 0)) (a + (i + 1)) (drop (i + 1) s) ≡ sets d (a + i) (drop i s)
sets_step d s a i h = rw (drop-cons s i 0 h, add-one i, add-suc a i)

pub sets_end : (d s : List ℕ) (a i : ℕ) → length s ≤ i → sets d a (drop i s) ≡ d
sets_end d s a i h = rw (drop_of_length-le s h)

-- two runs of stores, one after the other, are one
pub sets_more : (a b d : List ℕ) (i : ℕ) → sets (sets d i a) (i + length a) b ≡ sets d i (a ++ b)
sets_more [] b d i = rw add-zero
sets_more (x ∷ a) b d i = rw (add-suc, ← suc-add i (length a)) (sets_more a b (set d i x) (suc i))

pub sets_then : (a b d : List ℕ) (i n : ℕ) → n ≡ i + length a → sets (sets d i a) n b ≡ sets d i (a ++ b)
sets_then a b d i n e = rw e (sets_more a b d i)

-- ---- bytes in n places, zeros behind them

pad_is : (n : ℕ) (s : List ℕ) → length s ≤ n → pad n s ≡ s ++ drop (length s) (replicate n 0)
pad_is zero [] h = refl
pad_is zero (x ∷ s) h = absurd (omega arith)
pad_is (suc n) [] h = ap (λ (r : List ℕ). 0 ∷ r) (pad_is n [] (omega arith))
pad_is (suc n) (x ∷ s) h = ap (λ (r : List ℕ). x ∷ r) (pad_is n s (omega arith))

pub pad_front : (n : ℕ) (s : List ℕ) → length s ≤ n → take (length s) (pad n s) ≡ s
pad_front n s h = ap (take (length s)) (pad_is n s h) ∙ take-append_seam s (drop (length s) (replicate n 0))

-- a run stored in n zeros
pub pad_stored : (n : ℕ) (s : List ℕ) → length s ≤ n → sets (replicate n 0) 0 s ≡ pad n s
pad_stored n s h =
    let z : List ℕ = replicate n 0 in
    let r : 0 + length s ≤ length z = omega (arith, length-replicate {A = ℕ} n 0) in
    sets-eq s z 0 r ∙ ap (λ (k : ℕ). s ++ drop k z) (zero-add (length s)) ∙ sym (pad_is n s h)

-- Cited by no proof any more; docs/PORT.md names it. The first n bytes of a run that may be longer.
pad_taken : (n : ℕ) (s : List ℕ) → pad n (take n s) ≡ pad n s
pad_taken zero s = refl
pad_taken (suc n) [] = refl
pad_taken (suc n) (x ∷ s) = ap (λ (r : List ℕ). x ∷ r) (pad_taken n s)

pub pad_cut : (n : ℕ) (s : List ℕ) → sets (replicate n 0) 0 (take n s) ≡ pad n s
pad_cut n s = pad_stored n (take n s) (omega (arith, length-take n s)) ∙ pad_taken n s

-- ---- runs that lead, and runs that are the same

-- a run made of two leads as the two do, one after the other
pub leads_both : (a b s : List ℕ) → leads (a ++ b) s ≡ (leads a s && leads b (drop (length a) s))
unfolding leads
leads_both [] b s = refl
leads_both (x ∷ a) b [] = refl
leads_both (x ∷ a) b (y ∷ s) = rw (leads_both a b s, and_assoc)

pub leads_next : (x : ℕ) (a s : List ℕ) (q : ℕ) → q < length s → leads (x ∷ a) (drop q s) ≡ (eqb x (get_or s q 0) && leads a (drop (q + 1) s))
unfolding leads
leads_next x a s q h = rw (drop-cons s q 0 h, add-one)

pub same_self : (a : List ℕ) → same a a ≡ true
unfolding same
same_self [] = refl
same_self (x ∷ a) = rw (eq-eqb x x refl) (same_self a)

pub same_true : (a b : List ℕ) → same a b ≡ true → a ≡ b
unfolding same
same_true [] [] h = refl
same_true [] (y ∷ b) h = absurd (false≢true h)
same_true (x ∷ a) [] h = absurd (false≢true h)
same_true (x ∷ a) (y ∷ b) h = rw (eqb-true x y (and_left (eqb x y) (same a b) h), same_true a b (and_right (eqb x y) (same a b) h))

-- with its own rest behind it, a run is the same as s where it leads s
pub same_rest : (a s : List ℕ) → same (a ++ drop (length a) s) s ≡ leads a s
unfolding same leads
same_rest [] s = same_self s
same_rest (x ∷ a) [] = refl
same_rest (x ∷ a) (y ∷ s) = rw (same_rest a s)

-- bytes are a frame and a body where they begin with their own length and version 1, and the body is the same
pub framed_same : (b s : List ℕ) → same (framed b) s ≡ (leads (frame (length s)) s && same b (drop 3 s))
unfolding same leads
framed_same b [] = refl
framed_same b (x ∷ []) = simp and-false
framed_same b (x ∷ y ∷ []) = simp and-false
framed_same b (x ∷ y ∷ z ∷ s) = go (same b s) refl
  where
    go : (f : Bool) → same b s ≡ f → same (framed b) (x ∷ y ∷ z ∷ s) ≡ (leads (frame (length (x ∷ y ∷ z ∷ s))) (x ∷ y ∷ z ∷ s) && same b s)
    go true e =
        let n : 3 + length s ≡ length (x ∷ y ∷ z ∷ s) = omega arith in
        rw (e, same_true b s e, n) (simp and-true)
    go false e = simp (e, and-false)

-- a framed run of low..high bytes is found whole
pub framed_whole : (low high : ℕ) {b s : List ℕ} → framed b ≡ s → low ≤ length s → length s ≤ high → high < 65536 → framing_of low high (length s) (from_bytes 2 s) ≡ F.Whole (length s)
unfolding framing_of
framed_whole low high {b} e l u h = rw (← e) (go (rw (← e) at l) (rw (← e) at u))
  where
    n : ℕ
    n = length (framed b)

    go : low ≤ n → n ≤ high → framing_as (ltb n 2) (within low high (from_bytes 2 (framed b))) (leb (from_bytes 2 (framed b)) n) (from_bytes 2 (framed b)) ≡ F.Whole n
    go l u =
        let k : from_bytes 2 (framed b) ≡ n = omega arith in
        rw (k, le-ltb n 2 (omega arith), le-leb low n l, le-leb n high u, le-leb n n (omega arith))

-- ---- numbers in w bytes

length_bytes : (w n : ℕ) → length (to_bytes w n) ≡ w
length_bytes zero n = refl
length_bytes (suc w) n = rw (length-append (to_bytes w (n / 256)) (n % 256 ∷ []), length_bytes w (n / 256)) (omega arith)

-- what the loop over the bytes of a number adds, fits
pub number_fits : (w i n b : ℕ) → w ≤ 8 → i < w → n < 256 ^ i → b < 256 → n * 256 + b < 256 ^ 8
number_fits w i n b h l m p = let e : i ≤ 7 = omega arith in let k : 256 ^ i ≤ 256 ^ 7 = pow-le-pow_right (lit< tt) e in omega arith

-- a number reads back from its bytes
pub number_back : (w n : ℕ) (t : List ℕ) → n < 256 ^ w → from_bytes w (to_bytes w n ++ t) ≡ n
number_back zero n t h = omega arith
number_back (suc w) n t h =
    let a = to_bytes w (n / 256) in
    let l : n < 256 ^ w * 256 = rw pow-suc at h in
    rw (append_assoc a (n % 256 ∷ []) t, number_back w (n / 256) (n % 256 ∷ t) (omega arith), get_or_at a (n % 256) t 0 w (length_bytes w (n / 256))) (omega arith)

-- the bytes of a number lead the bytes that it was read from
pub own_bytes : (s : List ℕ) → ((i : ℕ) → get_or s i 0 < 256) → (w : ℕ) → w ≤ length s → leads (to_bytes w (from_bytes w s)) s ≡ true
unfolding leads
own_bytes s b zero h = refl
own_bytes s b (suc w) h =
    let m = from_bytes w s in
    let q : (m * 256 + get_or s w 0) / 256 ≡ m = omega (arith, b w) in
    let r : (m * 256 + get_or s w 0) % 256 ≡ get_or s w 0 = omega (arith, b w) in
    rw (q, r, leads_both (to_bytes w m) (get_or s w 0 ∷ []) s, length_bytes w m, own_bytes s b w (omega arith), drop-cons s w 0 (omega arith), eq-eqb (get_or s w 0) (get_or s w 0) refl)
