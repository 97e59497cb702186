-- Demand 3, for every layer of one call and every kind of slot that keep their promises.
use Prim.Native.Nat.{ℕ}
use native.Mathlib.Omega.{arith}
use mathlib.Core.Path.{◌≡◌, refl, ap}
use mathlib.Core.Bool.{true}
use mathlib.Core.List.{List, []}
use Rattle.std.specs.Prelude.{None}
use mathlib.Core.Logic.{◌≢◌}
use lib.ListN.{replicate}
use borrow.Author.Tests.{eqb-true, eq-eqb}
use Rattle.table.specs.Runs.{only}
use Rattle.table.specs.Table.{OneCall, Slots, of_call, owns, first, look, fresh, is_sound_slot, is_sound, table_step}
use Rattle.table.specs.Independence.{Independence}
use Rattle.table.proofs.Lists.{all_replicate, only_replicate}
use Rattle.table.proofs.Apart.{Apart, invariant, as_alone, alike, answers_have, each_alone_lem}
use Rattle.table.proofs.Promises.{Promises}
use Rattle.table.proofs.Valid.{Valid, valid_sound, sound_valid}
use Rattle.table.proofs.Step.{table_step_lem, valid_after, meets_own, leaves_others, blank_sound}

module _ (c : OneCall) (m : Slots c.Rec) (below : Promises c m) where
  open c use {Item, refused, call, alone, DamagedTable, TableFull}
  open m use {Slot, blank}

  -- ---- a fresh table is sound and holds nothing

  none_owned : (k : ℕ) → only (owns m k) (replicate 64 blank) ≡ []
  none_owned k = only_replicate (owns m k) 64 blank (rw below.owner_blank)

  fresh_valid : Valid m (fresh m)
  unfolding fresh
  fresh_valid =
      record { size = refl; each = all_replicate (is_sound_slot m) 64 blank (blank_sound c m below); single = λ k. rw (none_owned k) (omega arith) }

  fresh_look : (k : ℕ) → look m k (fresh m) ≡ None
  unfolding look first fresh
  fresh_look k = ap (first m) (none_owned k)

  pub fresh_is_sound : is_sound m (fresh m) ≡ true
  fresh_is_sound = valid_sound m fresh_valid

  -- ---- a sound table stays so

  pub stays_sound : (t : List Slot) (x : Item) → is_sound m t ≡ true → is_sound m (table_step c m t x).1 ≡ true
  stays_sound t x e = let v = sound_valid m t e in valid_sound m (valid_after c m v (table_step_lem c m below v x))

  -- ---- demand 3

  apart : Apart (table_step c m) alone (look m) (of_call c) (refused TableFull) None (Valid m)
  apart =
      record {
        keeps = λ t x v. valid_after c m v (table_step_lem c m below v x);
        meets = λ t x k v e. rw (← eqb-true (call x) k e) (meets_own c m (table_step_lem c m below v x));
        leaves = λ t x k v e. leaves_others c m (table_step_lem c m below v x) k e;
      }

  own_call : (x : Item) → of_call c (call x) x ≡ true
  own_call x = eq-eqb (call x) (call x) refl

  pub independence : Independence c m
  independence =
      record {
        sound = λ l. valid_sound m (invariant apart l fresh_valid);
        never_3 = λ l. answers_have apart call own_call (λ a. a ≢ refused DamagedTable) below.room_is_not_3 below.alone_never_3 l fresh_valid;
        by_itself = λ l h. record {
          each = each_alone_lem apart call own_call None l fresh_valid h fresh_look;
          records = λ k. rw (fresh_look k) at (as_alone apart l fresh_valid h k).1;
        };
        alike = λ l l' h h' e. record {
          answers = λ k. (alike apart l l' fresh_valid fresh_valid h h' k refl (e k)).0;
          records = λ k. (alike apart l l' fresh_valid fresh_valid h h' k refl (e k)).1;
        };
      }
