-- One item on a sound table: its call gets what it gets by itself, unless there is no room, and every other call keeps its record.
use Prim.Native.Nat.{ℕ}
use mathlib.Core.Path.{◌≡◌, refl, ap, ◌∙◌}
use mathlib.Core.Bool.{Bool, true, false, cond}
use mathlib.Core.List.{List}
use Rattle.std.specs.Prelude.{Option, None, Some}
use lib.ListN.{get_or, set}
use Rattle.table.specs.Table.{Effect, refuses, goes, ends, OneCall, Slots, unless, of_call, find, is_free, owns, look, is_sound_slot, Done, store, seat, setup_at, other_at, serve, damage, table_step}
use Rattle.table.proofs.Lists.{Found, found}
use Rattle.table.proofs.Apart.{Met, served, crowded}
use Rattle.table.proofs.Promises.{Kept, keep, setup_alone, other_alone, serve_alone, alone_as, Promises}
use Rattle.table.proofs.Valid.{Valid, valid_sound, Holds, holds_some, holds_none, Spot, spot_own, spot_free, read, look_read, read_range, look_other, look_now, valid_set}

module _ (c : OneCall) (m : Slots c.Rec) where
  open c use {Item, Rec, Answer, refused, call, TableFull}
  open m use {Slot, blank}

  -- what can happen at x on t, where the call by itself gives `o`: a refusal, no room, or one slot written
  pub data Happens (t : List Slot) (x : Item) : Kept c → Done c m → Type 0 where
    refuse : {v : Option Rec} (a : Answer) → look m (call x) t ≡ v → Happens t x (a, v) (a, t)
    full : {o : Kept c} → look m (call x) t ≡ None → Happens t x o (refused TableFull, t)
    write : {v v' : Option Rec} {i : ℕ} {s : Slot} (a : Answer) → Spot m t (call x) i v → Holds m (call x) v' s → is_sound_slot m s ≡ true → Happens t x (a, v') (a, set t i s)

  module _ {t : List Slot} {x : Item} where
    pub valid_after : {o : Kept c} {d : Done c m} → Valid m t → Happens t x o d → Valid m d.1
    valid_after v (refuse a e) = v
    valid_after v (full e) = v
    valid_after v (write a p h e) = valid_set m p h v e

    pub meets_own : {o : Kept c} {d : Done c m} → Happens t x o d → Met (refused TableFull) None d.0 (look m (call x) t) (look m (call x) d.1) o
    meets_own (refuse a e) = served (ap (λ r. (a, r)) e)
    meets_own (full e) = crowded refl e e
    meets_own (write a p h e) = served (ap (λ r. (a, r)) (look_now m p h))

    pub leaves_others : {o : Kept c} {d : Done c m} → Happens t x o d → (k : ℕ) → of_call c k x ≡ false → look m k d.1 ≡ look m k t
    leaves_others (refuse a e) k f = refl
    leaves_others (full e) k f = refl
    leaves_others (write a p h e) k f = look_other m p h k f

module _ (c : OneCall) (m : Slots c.Rec) (below : Promises c m) where
  open c use {Item, Rec, Answer, refused, call, early, is_setup, begin, respond, alone, Reason, CallNotOpen, CallOpen}
  open m use {Slot, owner, body, own, blank, in_range}

  pub blank_sound : is_sound_slot m blank ≡ true
  blank_sound = rw below.owner_blank below.blank_blank

  fill : {t : List Slot} {x : Item} {v : Option Rec} {i : ℕ} → Spot m t (call x) i v → (r : Rec) → in_range r ≡ true → (a : Answer)
      → Happens c m t x (a, Some r) (a, set t i (own (call x) r))
  fill {x = x} p r e a =
      let k = call x in
      let o = below.owner_own k r in
      let b = below.body_own k r in
      write a p (rw b at (holds_some m k (own k r) o)) (rw o (ap in_range b ∙ e))

  clear : {t : List Slot} {x : Item} {v : Option Rec} {i : ℕ} → Spot m t (call x) i v → (a : Answer) → Happens c m t x (a, None) (a, set t i blank)
  clear {x = x} p a = write a p (holds_none m (call x) blank below.owner_blank) blank_sound

  module _ {t : List Slot} (v : Valid m t) (x : Item) where
    module _ (ready : early x ≡ None) where
      stored : (i : ℕ) → Found (owns m (call x)) blank t (Some i) → is_setup x ≡ false → (o : Effect Answer Rec)
          → respond (body (get_or t i blank)) x ≡ o → Happens c m t x (keep c (body (get_or t i blank)) o) (store c m t (call x) i o)
      unfolding keep store
      stored i f b (refuses a) e = refuse a (look_read m v (call x) (Some i) f)
      stored i f b (goes a r) e =
          fill (spot_own m v (call x) i f) r (rw e at (below.respond_range (body (get_or t i blank)) x ready b (read_range m v (call x) i f))) a
      stored i f b (ends a) e = clear (spot_own m v (call x) i f) a

      seated : Found (owns m (call x)) blank t None → is_setup x ≡ true → (o : Option ℕ) → Found (is_free m) blank t o
          → Happens c m t x (setup_alone c x None) (seat c m t x o)
      unfolding setup_alone seat
      seated f b None g = full (look_read m v (call x) None f)
      seated f b (Some i) g = fill (spot_free m t (call x) i f g) (begin x).1 (below.begin_range x ready b) (begin x).0

      setup_at_lem : is_setup x ≡ true → (o : Option ℕ) → Found (owns m (call x)) blank t o → Happens c m t x (setup_alone c x (read m t o)) (setup_at c m t x o)
      unfolding setup_alone setup_at
      setup_at_lem b None f = seated f b (find (is_free m) t) (found (is_free m) blank t)
      setup_at_lem b (Some i) f = refuse (refused CallOpen) (look_read m v (call x) (Some i) f)

      other_at_lem : is_setup x ≡ false → (o : Option ℕ) → Found (owns m (call x)) blank t o → Happens c m t x (other_alone c x (read m t o)) (other_at c m t x o)
      unfolding other_alone other_at
      other_at_lem b None f = refuse (refused CallNotOpen) (look_read m v (call x) None f)
      other_at_lem b (Some i) f = stored i f b (respond (body (get_or t i blank)) x) refl

      served_at_lem : (o : Option ℕ) → Found (owns m (call x)) blank t o → Happens c m t x (serve_alone c x (read m t o)) (serve c m t x o)
      unfolding serve_alone serve
      served_at_lem o f = go (is_setup x) refl
        where
          go : (b : Bool) → is_setup x ≡ b → Happens c m t x (cond b (setup_alone c x (read m t o)) (other_alone c x (read m t o))) (cond b (setup_at c m t x o) (other_at c m t x o))
          go true b = setup_at_lem b o f
          go false b = other_at_lem b o f

    serves : (o : Option ℕ) → Found (owns m (call x)) blank t o → Happens c m t x (alone_as c (look m (call x) t) x) (unless refused (early x) t (serve c m t x o))
    unfolding alone_as unless
    serves o f = go (early x) refl
      where
        go : (e : Option Reason) → early x ≡ e → Happens c m t x (unless refused e (look m (call x) t) (serve_alone c x (look m (call x) t))) (unless refused e t (serve c m t x o))
        go (Some n) e = refuse (refused n) refl
        go None e = rw (look_read m v (call x) o f) (served_at_lem e o f)

    pub table_step_lem : Happens c m t x (alone (look m (call x) t) x) (table_step c m t x)
    unfolding table_step damage unless
    table_step_lem = rw (valid_sound m v, below.alone_is (look m (call x) t) x) (serves (find (owns m (call x)) t) (found (owns m (call x)) blank t))
