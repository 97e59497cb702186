-- Laws of lists: the members that pass a test, the first of them, and one member overwritten.
use Prim.Native.Nat.{ℕ, zero, suc, ◌+◌, ◌≤◌, ◌<◌}
use native.Mathlib.Omega.{arith}
use mathlib.Core.Path.{◌≡◌, refl, ap, ◌∙◌}
use mathlib.Core.Bool.{Bool, true, false}
use mathlib.Core.List.{List, [], ◌∷◌, ◌++◌}
use Rattle.std.specs.Prelude.{Option, None, Some, is_none}
use lib.ListN.{length, get_or, take, drop, set, replicate, length-append}
use lib.Seq.{split_at, set_split}
use Rattle.forms.proofs.ByteLaws.{and_left, and_right}
use Rattle.table.specs.Runs.{cons_if, only}
use Rattle.table.specs.Table.{next, find, all}

module _ {A : Type 0} where
  pub nil : (l : List A) → length l ≤ 0 → l ≡ []
  nil [] h = refl
  nil (x ∷ l) h = absurd (omega arith)

  -- ---- `cons_if`

  pub cons_if_length : (b : Bool) (x : A) (l : List A) → length (cons_if b x l) ≡ length (cons_if b x []) + length l
  unfolding cons_if
  cons_if_length true x l = omega arith
  cons_if_length false x l = omega arith

  cons_if_one : (b : Bool) (x : A) → length (cons_if b x []) ≤ 1
  unfolding cons_if
  cons_if_one true x = omega arith
  cons_if_one false x = omega arith

  cons_if_append : (b : Bool) (x : A) (s t : List A) → cons_if b x (s ++ t) ≡ cons_if b x s ++ t
  unfolding cons_if
  cons_if_append true x s t = refl
  cons_if_append false x s t = refl

  -- ---- `only`

  pub only_one : (p : A → Bool) (x : A) → length (only p (x ∷ [])) ≤ 1
  unfolding only
  only_one p x = cons_if_one (p x) x

  pub only_append : (p : A → Bool) (s t : List A) → only p (s ++ t) ≡ only p s ++ only p t
  unfolding only
  only_append p [] t = refl
  only_append p (x ∷ s) t = ap (cons_if (p x) x) (only_append p s t) ∙ cons_if_append (p x) x (only p s) (only p t)

  pub only_replicate : (p : A → Bool) (n : ℕ) (x : A) → p x ≡ false → only p (replicate n x) ≡ []
  unfolding only cons_if
  only_replicate p zero x e = refl
  only_replicate p (suc n) x e = rw (e, only_replicate p n x e)

  -- one member overwritten
  module _ (p : A → Bool) (t : List A) (i : ℕ) (v d : A) (h : i < length t) where
    before : List A
    before = only p (take i t)

    after : List A
    after = only p (drop (suc i) t)

    was : only p t ≡ before ++ cons_if (p (get_or t i d)) (get_or t i d) after
    unfolding before after only
    was = ap (only p) (split_at t i d h) ∙ only_append p (take i t) (get_or t i d ∷ drop (suc i) t)

    is : only p (set t i v) ≡ before ++ cons_if (p v) v after
    unfolding before after only
    is = ap (only p) (set_split t i v h) ∙ only_append p (take i t) (v ∷ drop (suc i) t)

    -- neither passes: nothing changes
    pub only_set_other : p (get_or t i d) ≡ false → p v ≡ false → only p (set t i v) ≡ only p t
    unfolding cons_if
    only_set_other e e' = rw (is, was, e, e')

    pub only_pos : p (get_or t i d) ≡ true → 0 < length (only p t)
    unfolding cons_if
    only_pos e = rw (was, e) (simp length-append (omega arith))

    -- no other passes: the overwritten one decides
    pub only_set : length (only p t) ≤ length (only p (get_or t i d ∷ [])) → (only p t ≡ only p (get_or t i d ∷ [])) × (only p (set t i v) ≡ only p (v ∷ []))
    unfolding only
    only_set l =
        let n = simp length-append at (ap length was) in
        let c = cons_if_length (p (get_or t i d)) (get_or t i d) after in
        let b = nil before (omega arith) in
        let a = nil after (omega arith) in
        (was ∙ rw (b, a), is ∙ rw (b, a))

  -- ---- `find`: what is found

  abbrev pub Found : (A → Bool) → A → List A → Option ℕ → Type 0
  Found p d t None = only p t ≡ []
  Found p d t (Some i) = (i < length t) × (p (get_or t i d) ≡ true)

  found_next : (p : A → Bool) (d s : A) (t : List A) (b : Bool) → p s ≡ b → (o : Option ℕ) → Found p d t o → Found p d (s ∷ t) (next b o)
  unfolding next only cons_if
  found_next p d s t true e o h = (omega arith, e)
  found_next p d s t false e None h = rw (e, h)
  found_next p d s t false e (Some i) h = (omega arith, h.1)

  pub found : (p : A → Bool) (d : A) (t : List A) → Found p d t (find p t)
  unfolding find only
  found p d [] = refl
  found p d (s ∷ t) = found_next p d s t (p s) refl (find p t) (found p d t)

  pub none_nil : (p : A → Bool) (d : A) (t : List A) → is_none (find p t) ≡ true → only p t ≡ []
  none_nil p d t = go (find p t) (found p d t)
    where
      go : (o : Option ℕ) → Found p d t o → is_none o ≡ true → only p t ≡ []
      go None h e = h
      go (Some i) h e = cc

  pub nil_none : (p : A → Bool) (d : A) (t : List A) → only p t ≡ [] → is_none (find p t) ≡ true
  nil_none p d t e = go (find p t) (found p d t)
    where
      go : (o : Option ℕ) → Found p d t o → is_none o ≡ true
      go None h = refl
      go (Some i) h = absurd (omega (arith, only_pos p t i d d h.0 h.1, ap length e))

  -- ---- `all`

  pub all_at : (p : A → Bool) (t : List A) (i : ℕ) (d : A) → i < length t → all p t ≡ true → p (get_or t i d) ≡ true
  unfolding all
  all_at p [] i d h e = absurd (omega arith)
  all_at p (s ∷ t) zero d h e = and_left (p s) (all p t) e
  all_at p (s ∷ t) (suc i) d h e = all_at p t i d (omega arith) (and_right (p s) (all p t) e)

  pub all_set : (p : A → Bool) (t : List A) (i : ℕ) (v : A) → p v ≡ true → all p t ≡ true → all p (set t i v) ≡ true
  unfolding all
  all_set p [] i v h e = refl
  all_set p (s ∷ t) zero v h e = rw (h, and_right (p s) (all p t) e)
  all_set p (s ∷ t) (suc i) v h e = rw (and_left (p s) (all p t) e, all_set p t i v h (and_right (p s) (all p t) e))

  pub all_replicate : (p : A → Bool) (n : ℕ) (x : A) → p x ≡ true → all p (replicate n x) ≡ true
  unfolding all
  all_replicate p zero x e = refl
  all_replicate p (suc n) x e = rw (e, all_replicate p n x e)
