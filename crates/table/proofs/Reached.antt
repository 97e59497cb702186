-- What holds of each call that opens, and of what each item leaves of a call of which it holds, holds of every call that a run from a fresh table reaches. For every layer of one call; `our-reached` in Ours.antt has it for ours.
use Prim.Native.Nat.{ℕ, zero, suc, ◌<◌}
use native.Mathlib.Omega.{arith}
use mathlib.Core.Path.{◌≡◌, refl, sym, subst}
use mathlib.Core.Bool.{Bool, true, false}
use mathlib.Core.List.{List, [], ◌∷◌}
use Rattle.std.specs.Prelude.{Option, None, Some}
use lib.ListN.{length, get_or, set, replicate}
use Rattle.call.proofs.Laws.{by_cond}
use Rattle.table.specs.Runs.{cons_if, only, All, final}
use Rattle.table.specs.Table.{Effect, refuses, goes, ends, OneCall, Slots, find, is_free, owns, first, look, fresh, unless, Done, store, seat, setup_at, other_at, serve, damage, table_step}
use Rattle.table.proofs.Lists.{Found, found}
use Rattle.table.proofs.Promises.{OnNext, Promises}
use Rattle.table.proofs.Valid.{owner_is}

-- ---- each member of a list

module _ {A : Type 0} (Q : A → Type 0) where
  each_at : (t : List A) (i : ℕ) (d : A) → i < length t → All Q t → Q (get_or t i d)
  each_at [] i d h a = absurd (omega arith)
  each_at (s ∷ t) zero d h a = a.0
  each_at (s ∷ t) (suc i) d h a = each_at t i d (omega arith) a.1

  each_set : (t : List A) (i : ℕ) (v : A) → Q v → All Q t → All Q (set t i v)
  each_set [] i v q a = a
  each_set (s ∷ t) zero v q a = (q, a.1)
  each_set (s ∷ t) (suc i) v q a = (a.0, each_set t i v q a.1)

  each_replicate : (n : ℕ) (x : A) → Q x → All Q (replicate n x)
  each_replicate zero x q = tt
  each_replicate (suc n) x q = (q, each_replicate n x q)

-- ---- any layer of one call

module _ (c : OneCall) (m : Slots c.Rec) (below : Promises c m) (P : c.Rec → Type 0) where
  open c use {Item, Rec, Answer, refused, call, early, is_setup, begin, respond, Reason}
  open m use {Slot, owner, body, own, blank}

  -- a slot: the record of its owner, if it has one
  abbrev Has : Slot → Type 0
  Has s = (k : ℕ) → owner s ≡ Some k → P (body s)

  own_has : (k : ℕ) (r : Rec) → P r → Has (own k r)
  own_has k r p j e = subst P (sym (below.body_own k r)) p

  blank_has : Has blank
  blank_has k e = absurd (let z : ◌≡◌ {A = ℕ} 0 1 = cc in omega arith)

  module _ (begins : (x : Item) → early x ≡ None → is_setup x ≡ true → P (begin x).1) (keeps : (r : Rec) (x : Item) → P r → OnNext P (respond r x)) where
    abbrev Left : Done c m → Type 0
    Left d = All Has d.1

    unless_left : (o : Option Reason) (t : List Slot) (d : Done c m) → All Has t → (o ≡ None → Left d) → Left (unless refused o t d)
    unfolding unless
    unless_left (Some n) t d a f = a
    unless_left None t d a f = f refl

    module _ (t : List Slot) (x : Item) (a : All Has t) where
      -- a Setup is stored in a free slot
      setup_left : early x ≡ None → is_setup x ≡ true → (o : Option ℕ) → Left (setup_at c m t x o)
      unfolding setup_at seat
      setup_left e s (Some i) = a
      setup_left e s None = go (find (is_free m) t)
        where
          go : (o : Option ℕ) → Left (seat c m t x o)
          go None = a
          go (Some i) = each_set Has t i (own (call x) (begin x).1) (own_has (call x) (begin x).1 (begins x e s)) a

      -- another item in its call's
      other_left : (o : Option ℕ) → Found (owns m (call x)) blank t o → Left (other_at c m t x o)
      unfolding other_at store
      other_left None f = a
      other_left (Some i) f = let s = get_or t i blank in go (respond (body s) x) (keeps (body s) x (each_at Has t i blank f.0 a (call x) (owner_is m (call x) (owner s) f.1)))
        where
          go : (e : Effect Answer Rec) → OnNext P e → Left (store c m t (call x) i e)
          go (refuses b) p = a
          go (goes b r) p = each_set Has t i (own (call x) r) (own_has (call x) r p) a
          go (ends b) p = each_set Has t i blank blank_has a

      step_left : Left (table_step c m t x)
      unfolding table_step serve
      step_left =
          let o = find (owns m (call x)) t in
          unless_left (early x) t _ a (λ e. unless_left (damage c m t) t _ a (λ d. by_cond Left (is_setup x) _ _ (λ s. setup_left e s o) (λ s. other_left o (found (owns m (call x)) blank t))))

    run_left : (l : List Item) (t : List Slot) → All Has t → All Has (final (table_step c m) t l)
    unfolding final
    run_left [] t a = a
    run_left (x ∷ l) t a = run_left l (table_step c m t x).1 (step_left t x a)

    looked : (k : ℕ) (r : Rec) (t : List Slot) → All Has t → look m k t ≡ Some r → P r
    unfolding look only first cons_if
    looked k r [] a = λ e. absurd (let z : ◌≡◌ {A = ℕ} 0 1 = cc in omega arith)
    looked k r (s ∷ t) a = go (owns m k s) refl (looked k r t a.1)
      where
        go : (b : Bool) → owns m k s ≡ b → (look m k t ≡ Some r → P r) → first m (cons_if b s (only (owns m k) t)) ≡ Some r → P r
        go true o f e = let same : body s ≡ r = cc in subst P same (a.0 k (owner_is m k (owner s) o))
        go false o f e = f e

    -- each call that a run reaches
    pub reached : (l : List Item) (k : ℕ) (r : Rec) → look m k (final (table_step c m) (fresh m) l) ≡ Some r → P r
    unfolding fresh
    reached l k r = looked k r _ (run_left l (fresh m) (each_replicate Has 64 blank blank_has))
