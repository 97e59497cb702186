-- The three demands hold of whatever keeps to `feed`'s contract.
use Prim.Native.Nat.{ℕ}
use mathlib.Core.Path.{◌≡◌, refl, sym, ap, ◌∙◌}
use mathlib.Core.Bool.{Bool, true, false, cond}
use mathlib.Core.List.{List, [], ◌∷◌, ◌++◌, map}
use Rattle.std.specs.Prelude.{Option, None, Some, Result, Ok, Err}
use lib.ListN.{get_or, set, take, drop}
use Rattle.forms.specs.Bytes.{all, contains}
use Rattle.forms.specs.Units.{is_period, is_timer}
use Rattle.forms.specs.Item.{item_bytes, item_in_range, item_of, is_item, read_item, placed, read_item_at}
use Rattle.forms.specs.Write.{writable, written}
use Rattle.forms.specs.Profile.{profile_of, is_profile, read_profile}
use Rattle.forms.specs.Feeder.{bytes_of, take_of, whole_fed_as, fed_as, feed_of as feeder_of}
use Rattle.forms.specs.declared.feeder.Feeder.{Feeder}
use Rattle.forms.specs.declared.feeder.Taken.{Taken}
use Rattle.forms.specs.declared.feeder.Taken.TheVariants as taken
use Rattle.forms.specs.Refusal.{number_of}
use Rattle.forms.specs.declared.refusal.Refusal.TheVariants.{MalformedItem, MalformedProfile, BadEntry}
use Rattle.forms.proofs.ItemTheorems.{written_read, one_run}
use Rattle.call.specs.Kind.{is_setup}
use Rattle.call.specs.Step.{respond_of, step_of}
use Rattle.call.specs.Setup.{set_up_of, open_of}
use Rattle.call.specs.Alone.{Input}
use Rattle.call.proofs.Laws.{on_cond}
use Rattle.call.proofs.SetupLaws.{Comes, refuses, opens, passes, comes, setup_opens}
use Rattle.call.proofs.Numbers.{is_one_of, accepted_one, one_of_more, respond_numbers, step_numbers, set_up_numbers, open_numbers, respond_numbers_lem, step_numbers_lem, set_up_numbers_lem, open_numbers_lem}
use Rattle.call.specs.Answers.{refusal as refusal_of, values_of}
use Rattle.call.proofs.AnswerTheorems.{same_answer}
use Rattle.call.proofs.Order.{either_order, either_order_items}
use Rattle.table.specs.Types.{Item, Record, Refusal, Answer, Early, Slot}
use Rattle.table.specs.Runs.{log, final}
use Rattle.table.specs.Table.{refuses, goes, ends, unless, damage, fresh, table_step, serve, setup_at, other_at, seat, store}
use Rattle.table.specs.Slot.{owned_by, blank_slot, our_slots}
use Rattle.table.specs.Feed.{item_in, rest_in, first_row, effect_as, our_call, is_sound_table, feed_step, Turn, Feeds}
use Rattle.table.specs.EntryPoints.{EntryPoint, period, timer, reads_item, reads_item_at, write_item, reads_profile, feed_chunk, says_early, set_up, open_call, respond, step, feed, feed_item, feed_sound, numbers, in_result, refusal}
use Rattle.table.specs.Demands.{Demand1, own_slot, free_slot, stored, rows, slot, made, Demand2, Run, end_of, Started, ending, fed, line, Demand3, Demands}
use Rattle.table.proofs.Ours.{item_fits, on_remains, open_remains, ours}

-- ---- demand 2: the rows in their order, then what `call` makes of the item

-- the numbers that are given on a sound table, and on one that is not
abbrev numbers_on : Bool → List ℕ
numbers_on true = 1 ∷ 2 ∷ 4 ∷ 5 ∷ 6 ∷ 7 ∷ 8 ∷ 9 ∷ 10 ∷ 11 ∷ 12 ∷ 13 ∷ 14 ∷ []
numbers_on false = 1 ∷ 2 ∷ 3 ∷ []

module _ (t : List Slot) (x : Input) where
  -- what is due, with the answer itself in the place of its values
  abbrev answered : Answer × List Slot
  answered = unless (λ n. Err n) (first_row (rows t x)) t ((made t x).answer, stored t (item_in x).call (slot t x) (made t x).answer (made t x).next)

  abbrev Right : Type 0
  Right = (feed_step t x ≡ answered) × (is_one_of (numbers_on (is_sound_table t)) answered.0 ≡ true)

  right : Right
  unfolding table_step unless damage serve setup_at other_at seat store all contains
  right =
      go (is_item (item_in x) x.item) (is_setup (item_in x)) (is_profile (profile_of x.profile) x.profile) (is_sound_table t) (own_slot t x) (free_slot t x) refl refl refl refl refl refl
    where
      -- what `call` makes of an item of an open call, and of a Setup that opens one, is stored
      responded : (k i : ℕ) (a : Answer) (next : Record) → store our_call our_slots t k i (effect_as a next) ≡ (a, stored t k i a next)
      responded k i a next =
          on_remains (store our_call our_slots t k i) a (refuses a) (ends a) (goes a next) ∙ sym (on_remains (λ u. (a, u)) a t (set t i blank_slot) (set t i (owned_by k next)))

      go : (i s p w : Bool) (o f : Option ℕ) → is_item (item_in x) x.item ≡ i → is_setup (item_in x) ≡ s → is_profile (profile_of x.profile) x.profile ≡ p → is_sound_table t ≡ w
          → own_slot t x ≡ o → free_slot t x ≡ f → Right
      go false s p true o f a b c d e g = rw (a, d) (refl, refl)
      go false s p false o f a b c d e g = rw (a, d) (refl, refl)
      go true true false true o f a b c d e g = rw (a, b, c, d) (refl, refl)
      go true true false false o f a b c d e g = rw (a, b, c, d) (refl, refl)
      go true true true false o f a b c d e g = rw (a, b, c, d) (refl, refl)
      go true false p false o f a b c d e g = rw (a, b, d) (refl, refl)
      go true false p true None f a b c d e g = rw (a, b, d, e) (refl, refl)
      go true false p true (Some i) f a b c d e g =
          let r = (get_or t i blank_slot).body in
          let s = respond_of r (item_in x) (rest_in x) in
          rw (a, b, d, e) (responded (item_in x).call i s.answer s.next, one_of_more respond_numbers (numbers_on true) s.answer refl (respond_numbers_lem r (item_in x) (rest_in x)))
      go true true true true (Some i) f a b c d e g = rw (a, b, c, d, e) (refl, refl)
      go true true true true None None a b c d e g = rw (a, b, c, d, e, g) (refl, refl)
      go true true true true None (Some j) a b c d e g =
          let s = open_of (item_in x) (rest_in x) x.profile in
          let q = setup_opens (item_in x) (rest_in x) x.profile (item_fits (item_in x) x.item a) b c in
          rw (a, b, c, d, e, g) (ap (λ u. (s.answer, u)) (sym (open_remains s.answer t (set t j blank_slot) (set t j (owned_by (item_in x).call s.next)) q)), accepted_one (numbers_on true) s.answer q.0)

abbrev given : Turn → Input
given f = record { item = f.item; profile = f.profile }

its_answer : (f : Turn) → Feeds f → (f.answer, f.after) ≡ answered f.before (given f)
its_answer f e = e ∙ (right f.before (given f)).0

-- the values of what is given unless a row applies
unless_values : (o : Option Refusal) (t u : List Slot) (a : Answer) → (values_of (unless (λ n. Err n) o t (a, u)).0, (unless (λ n. Err n) o t (a, u)).1) ≡ unless (λ n. refusal_of (number_of n)) o t (values_of a, u)
unfolding unless
unless_values (Some n) t u a = refl
unless_values None t u a = refl

demand2 : (f : Turn) → Feeds f → Demand2 f
demand2 f e =
    let t = f.before in
    let x = given f in
    ap (λ (d : Answer × List Slot). (values_of d.0, d.1)) (its_answer f e) ∙ unless_values (first_row (rows t x)) t (stored t (item_in x).call (slot t x) (made t x).answer (made t x).next) (made t x).answer

-- ---- demand 1: a refusal of a row leaves the table, and so does one of `call`

kept : (o : Option Refusal) (t : List Slot) (k i : ℕ) (a : Answer) (next : Record) (n : Refusal) → (unless (λ n. Err n) o t (a, stored t k i a next)).0 ≡ Err n → (unless (λ n. Err n) o t (a, stored t k i a next)).1 ≡ t
unfolding unless
kept (Some m) t k i a next n e = refl
kept None t k i (Err m) next n e = refl
kept None t k i (Ok o) next n e = cc

unchanged : (f : Turn) → Feeds f → (n : Refusal) → f.answer ≡ Err n → f.after ≡ f.before
unchanged f e n h =
    let t = f.before in
    let x = given f in
    let q = its_answer f e in
    let answer : f.answer ≡ (answered t x).0 = ap (λ (d : Answer × List Slot). d.0) q in
    ap (λ (d : Answer × List Slot). d.1) q ∙ kept (first_row (rows t x)) t (item_in x).call (slot t x) (made t x).answer (made t x).next n (sym answer ∙ h)

-- the refusal, if there is one, is one of ns
abbrev is_among : List ℕ → Option ℕ → Bool
is_among ns None = true
is_among ns (Some n) = contains n ns

abbrev Among : List ℕ → Option ℕ → Type 0
Among ns x = is_among ns x ≡ true

answer_among : (ns : List ℕ) (a : Answer) → is_one_of ns a ≡ true → Among ns (in_result a)
answer_among ns (Ok o) h = refl
answer_among ns (Err n) h = h

-- what is fed to a table, sound or not
fed_among : (w : Bool) (t : List Slot) (x : Input) (ns : List ℕ) → is_sound_table t ≡ w → all (λ n. contains n ns) (numbers_on w) ≡ true → Among ns (in_result (feed_step t x).0)
fed_among w t x ns e h =
    answer_among ns (feed_step t x).0
    (one_of_more (numbers_on w) ns (feed_step t x).0 h (rw (ap (λ (d : Answer × List Slot). d.0) (right t x).0, ← e) (right t x).1))

-- so whatever the table is
any_among : (t : List Slot) (x : Input) → Among (numbers (feed t x.item x.profile)) (in_result (feed_step t x).0)
unfolding all contains
any_among t x = go (is_sound_table t) refl
  where
    go : (w : Bool) → is_sound_table t ≡ w → Among (numbers (feed t x.item x.profile)) (in_result (feed_step t x).0)
    go true e = fed_among true t x (numbers (feed t x.item x.profile)) e refl
    go false e = fed_among false t x (numbers (feed t x.item x.profile)) e refl

-- an item that a chunk completes is read; else a stop is 1 and a closed feeder 15
chunk_among : (k : Taken) (f : Feeder) (c : List ℕ) → Among (1 ∷ 15 ∷ []) (in_result (fed_as k f c).completed)
unfolding read_item contains
chunk_among taken.Closed f c = refl
chunk_among (taken.Bad n) f c = refl
chunk_among taken.Unfinished f c = refl
chunk_among (taken.Whole n) f c = let s = bytes_of f.held ++ take n c in on_cond (λ x. Among (1 ∷ 15 ∷ []) (in_result (whole_fed_as x n s).completed)) (is_item (item_of s) s) _ _ refl refl

-- a value, or the one refusal
either : {A : Type 0} (ns : List ℕ) (b : Bool) (a : A) (n : Refusal) → contains (number_of n) ns ≡ true → Among ns (in_result {A = A} (cond b (Ok a) (Err n)))
either ns true a n h = refl
either ns false a n h = h

each_among : (e : EntryPoint) → Among (numbers e) (refusal e)
unfolding read_item read_item_at written read_profile feeder_of all contains
each_among (period n) = either (1 ∷ []) (is_period (record { 0 = n })) _ MalformedItem refl
each_among (timer n) = either (11 ∷ []) (is_timer (record { 0 = n })) _ BadEntry refl
each_among (reads_item s) = either (1 ∷ []) (is_item (item_of s) s) _ MalformedItem refl
each_among (reads_item_at s a) = on_cond (λ (x : Result (Item × ℕ) Refusal). Among (1 ∷ []) (in_result (placed a x))) (is_item (item_of (drop a s)) (drop a s)) _ _ refl refl
each_among (write_item i rest d) = either (1 ∷ []) (writable i rest d) _ MalformedItem refl
each_among (reads_profile s) = either (2 ∷ []) (is_profile (profile_of s) s) _ MalformedProfile refl
each_among (feed_chunk f c) = chunk_among (take_of f c) f c
each_among (says_early i rest s) = go (comes i rest s)
  where
    go : {e : Early} → Comes i rest s e → Among (2 ∷ []) (in_result e)
    go (refuses a b) = refl
    go (opens o m a b f) = refl
    go (passes a) = refl
each_among (set_up i rest o) = answer_among set_up_numbers (set_up_of i rest o).answer (set_up_numbers_lem i rest o)
each_among (open_call i rest s) = answer_among open_numbers (open_of i rest s).answer (open_numbers_lem i rest s)
each_among (respond r i rest) = answer_among respond_numbers (respond_of r i rest).answer (respond_numbers_lem r i rest)
each_among (step r i rest) = answer_among step_numbers (step_of r i rest).answer (step_numbers_lem r i rest)
each_among (feed t item profile) = any_among t (record { item = item; profile = profile })
each_among (feed_item t i rest profile) =
    on_cond (λ (d : Answer × List Slot). Among (numbers (feed_item t i rest profile)) (in_result d.0)) (item_in_range i rest) _ _ (any_among t (record { item = item_bytes i rest; profile = profile })) refl
each_among (feed_sound t h item profile) = fed_among true t (record { item = item; profile = profile }) (numbers (feed_sound t h item profile)) h refl

among : (ns : List ℕ) (x : Option ℕ) → Among ns x → (n : ℕ) → x ≡ Some n → contains n ns ≡ true
among ns None h n e = cc
among ns (Some m) h n e = let same : m ≡ n = cc in rw (← same) h

demand1 : Demand1
demand1 = record { numbered = λ e n. among (numbers e) (refusal e) (each_among e) n; unchanged = unchanged }

-- ---- demand 3

-- of what is handed in beside an item only a Setup's profile counts
own_profile : (t : List Slot) (f : Turn) → feed_step t (given f) ≡ feed_step t (fed f)
own_profile t f = (right t (given f)).0 ∙ go (is_setup (item_in (given f))) refl ∙ sym (right t (fed f)).0
  where
    go : (b : Bool) → is_setup (item_in (given f)) ≡ b → answered t (given f) ≡ answered t (fed f)
    go true e = rw e
    go false e = rw e

turned : (t : List Slot) (f : Turn) → f.before ≡ t → Feeds f → (f.answer, f.after) ≡ feed_step t (fed f)
turned t f b e = e ∙ own_profile f.before f ∙ ap (λ u. feed_step u (fed f)) b

-- a run's lines, and the table that it leaves, are those of the definition
ran_lines : (t : List Slot) (l : List Turn) → Run t l → map line l ≡ log feed_step t (map fed l)
unfolding log
ran_lines t [] r = refl
ran_lines t (f ∷ l) (b, e, r) = ap (λ m. line f ∷ m) (ran_lines f.after l r) ∙ ap (λ (d : Answer × List Slot). (fed f, d.0) ∷ log feed_step d.1 (map fed l)) (turned t f b e)

ran_end : (t : List Slot) (l : List Turn) → Run t l → end_of t l ≡ final feed_step t (map fed l)
unfolding final
ran_end t [] r = refl
ran_end t (f ∷ l) (b, e, r) = ran_end f.after l r ∙ ap (λ (d : Answer × List Slot). final feed_step d.1 (map fed l)) (turned t f b e)

module _ (l : List Turn) (r : Started l) where
  its_lines : map line l ≡ log feed_step (fresh our_slots) (map fed l)
  its_lines = ran_lines (fresh our_slots) l r

  pub its_end : ending l ≡ final feed_step (fresh our_slots) (map fed l)
  its_end = ran_end (fresh our_slots) l r

demand3 : Demand3
demand3 =
    record {
      never_3 = λ l r. rw (its_lines l r) (ours.never_3 (map fed l));
      sound = λ l r. rw (its_end l r) (ours.sound (map fed l));
      answers = λ l r s. its_lines l r ∙ (ours.by_itself (map fed l) (rw (its_lines l r) at s)).each;
      records = λ l r s k. rw (its_end l r) ((ours.by_itself (map fed l) (rw (its_lines l r) at s)).records k);
      alike = λ l m r q s u e k.
          let a = ours.alike (map fed l) (map fed m) (rw (its_lines l r) at s) (rw (its_lines m q) at u) e in
          (rw (its_lines l r, its_lines m q) (a.answers k), rw (its_end l r, its_end m q) (a.records k));
      either_order = either_order_items;
      either_first = either_order;
    }

-- ---- the three

pub demands : Demands
demands = record { anything = demand1; right = demand2; told = same_answer; written = record { reads_back = written_read; one_form = one_run }; apart = demand3 }
