-- Laws of the framing and of the feeder, for the proofs of the functions and for the theorems.
use Prim.Native.Nat.{ℕ, ◌+◌, ◌-◌, ◌≤◌, ◌<◌}
use mathlib.Core.Path.{◌≡◌, refl, sym, ap, ◌∙◌, subst}
use mathlib.Core.List.{List, ◌++◌}
use mathlib.Core.Bool.{Bool, true, false, ◌||◌, not, cond, false≢true}
use mathlib.Core.Logic.{◌⊎◌, inl, inr}
use native.Mathlib.Nat.{zero-add}
use native.Mathlib.Omega.{arith}
use borrow.Author.Tests.{ltb-true, ltb-false, leb-true, leb-false, le-ltb, le-leb}
use lib.ListN.{length, take, replicate, length-append, length-take, get_or-append}
use lib.Seq.{sets}
use lib.Dec.{ltb, leb}
use Rattle.forms.specs.Bytes.{from_bytes, pad, within}
use Rattle.forms.specs.Framing.{framing_as, framing_of, item_framing, is_short}
use Rattle.forms.specs.Feeder.{bytes_of, begins, is_closed, taken_as, take_of, feed_of}
use Rattle.forms.specs.declared.framing.Framing.{Framing}
use Rattle.forms.specs.declared.framing.Framing.TheVariants as F
use Rattle.forms.specs.declared.feeder.Feeder.{Feeder}
use Rattle.forms.specs.declared.feeder.Taken.{Taken}
use Rattle.forms.specs.declared.feeder.Taken.TheVariants as T
use Rattle.forms.proofs.ByteLaws.{below_or_past, and_left, and_right, sets_then, pad_front, pad_stored}

-- ---- two runs stored one behind the other in n zeros

pub pad_both : (n : ℕ) (h c : List ℕ) → length h + length c ≤ n → sets (sets (replicate n 0) 0 h) (length h) c ≡ pad n (h ++ c)
pad_both n h c l = sets_then h c (replicate n 0) 0 (length h) (sym (zero-add (length h))) ∙ pad_stored n (h ++ c) (omega (arith, length-append h c))

-- ---- what t bytes whose first two are the number n begin with, told by what it is

abbrev pub Says : ℕ → ℕ → Framing → Type 0
Says t n F.Short = (t < 65) × (2 ≤ t → (within 14 65 n ≡ true) × (t < n))
Says t n F.Bad = (2 ≤ t) × (within 14 65 n ≡ false)
Says t n (F.Whole k) = (k ≡ n) × (14 ≤ n) × (n ≤ 65) × (n ≤ t)

says : (t n : ℕ) → Says t n (item_framing t n)
unfolding framing_of
says t n = go (ltb t 2) (within 14 65 n) (leb n t) refl refl refl
  where
    go : (a b w : Bool) → ltb t 2 ≡ a → within 14 65 n ≡ b → leb n t ≡ w → Says t n (framing_as a b w n)
    go true b w p q r = let l = ltb-true t 2 p in (omega arith, λ (m : 2 ≤ t). absurd (omega arith))
    go false false w p q r = (ltb-false t 2 p, q)
    go false true false p q r =
        let u = leb-true n 65 (and_right (leb 14 n) (leb n 65) q) in
        let l = leb-false n t r in
        (omega arith, λ (m : 2 ≤ t). (q, l))
    go false true true p q r =
        (refl, leb-true 14 n (and_left (leb 14 n) (leb n 65) q), leb-true n 65 (and_right (leb 14 n) (leb n 65) q), leb-true n t r)

pub told : (s : List ℕ) (r : Framing) → begins s ≡ r → Says (length s) (from_bytes 2 s) r
told s r e = subst (Says (length s) (from_bytes 2 s)) e (says (length s) (from_bytes 2 s))

-- ---- a longer run begins as a shorter one does, where that says what it is

number_more : (s d : List ℕ) → 2 ≤ length s → from_bytes 2 (s ++ d) ≡ from_bytes 2 s
number_more s d h = rw (get_or-append s d 0 0 (omega arith), get_or-append s d 0 1 (omega arith))

pub more : (s d : List ℕ) (r : Framing) → begins s ≡ r → is_short r ≡ false → begins (s ++ d) ≡ r
unfolding framing_of
more s d F.Short e n = absurd (false≢true (sym n))
more s d F.Bad e n =
    let t = told s F.Bad e in
    rw (number_more s d t.0, t.1, le-ltb (length (s ++ d)) 2 (omega (arith, length-append s d, t.0)))
more s d (F.Whole k) e n =
    let t = told s (F.Whole k) e in
    let z = length-append s d in
    rw (number_more s d (omega arith), ← t.0, le-ltb (length (s ++ d)) 2 (omega arith), le-leb 14 k (omega arith), le-leb k 65 (omega arith), le-leb k (length (s ++ d)) (omega arith))

-- ---- an unfinished item h, and the next chunk c

module _ (h c : List ℕ) (short : begins h ≡ F.Short) where
  -- where the two are a bad length or a whole item, it was not so before
  pub before_bad : begins (h ++ c) ≡ F.Bad → length h < 2
  before_bad e = go (below_or_past (length h) 2)
    where
      go : (length h < 2) ⊎ (2 ≤ length h) → length h < 2
      go (inl l) = l
      go (inr l) = absurd (false≢true (sym (sym ((told h F.Short short).1 l).0 ∙ ap (within 14 65) (sym (number_more h c l)) ∙ (told (h ++ c) F.Bad e).1)))

  pub before_whole : (k : ℕ) → begins (h ++ c) ≡ F.Whole k → length h < k
  before_whole k e = go (below_or_past (length h) 2)
    where
      t : Says (length (h ++ c)) (from_bytes 2 (h ++ c)) (F.Whole k)
      t = told (h ++ c) (F.Whole k) e

      go : (length h < 2) ⊎ (2 ≤ length h) → length h < k
      go (inl l) = omega (arith, t.0, t.1)
      go (inr l) = omega (arith, t.0, number_more h c l, ((told h F.Short short).1 l).1)

-- ---- a feeder that is not closed holds an unfinished item

pub open_short : (f : Feeder) → is_closed f ≡ false → begins (bytes_of f.held) ≡ F.Short
unfolding is_closed
open_short f e = go f.stopped (begins (bytes_of f.held)) e
  where
    go : (x : Bool) (r : Framing) → (x || not (is_short r)) ≡ false → r ≡ F.Short
    go true r h = absurd (false≢true (sym h))
    go false F.Short h = refl
    go false F.Bad h = absurd (false≢true (sym h))
    go false (F.Whole n) h = absurd (false≢true (sym h))

-- what is known by what is taken of a chunk: how many of its bytes, and that there is room for them in 65 places behind those that are held
abbrev pub Takes : Feeder → List ℕ → Taken → Type 0
Takes f c T.Closed = is_closed f ≡ true
Takes f c (T.Bad n) = (1 ≤ n) × (n ≤ length c)
Takes f c T.Unfinished = length (bytes_of f.held) + length c ≤ 65
Takes f c (T.Whole n) = (1 ≤ n) × (n ≤ length c) × (length (bytes_of f.held) + length (take n c) ≤ 65)

pub takes : (f : Feeder) (c : List ℕ) → Takes f c (take_of f c)
unfolding take_of
takes f c = go (is_closed f) (begins (h ++ c)) refl refl
  where
    h : List ℕ
    h = bytes_of f.held

    go : (x : Bool) (r : Framing) → is_closed f ≡ x → begins (h ++ c) ≡ r → Takes f c (cond x T.Closed (taken_as r h))
    go true r p q = p
    go false F.Short p q = omega (arith, length-append h c, (told (h ++ c) F.Short q).0)
    go false F.Bad p q =
        let l = before_bad h c (open_short f p) q in
        let k = (told (h ++ c) F.Bad q).0 in
        let z = length-append h c in
        (omega arith, omega arith)
    go false (F.Whole n) p q =
        let l = before_whole h c (open_short f p) n q in
        let k = told (h ++ c) (F.Whole n) q in
        let z = length-append h c in
        let y = length-take (n - length h) c in
        (omega arith, omega arith, omega arith)

pub takes_as : (f : Feeder) (c : List ℕ) {t : Taken} → t ≡ take_of f c → (u : Taken) → t ≡ u → Takes f c u
takes_as f c e u p = subst (Takes f c) (sym e ∙ p) (takes f c)

-- where the chunk does not finish the item, its bytes are held behind those that were held before
pub held_more : (f : Feeder) (c : List ℕ) → take_of f c ≡ T.Unfinished → bytes_of (feed_of f c).feeder.held ≡ bytes_of f.held ++ c
unfolding feed_of
held_more f c e =
    let h = bytes_of f.held in
    rw e (pad_front 65 (h ++ c) (rw (length-append h c) (takes_as f c refl T.Unfinished e)))
