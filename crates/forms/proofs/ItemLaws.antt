-- Laws of the item's written form, for the proofs of reading and writing and for the theorems.
use Prim.Native.Nat.{ℕ, ◌+◌, ◌*◌, ◌≤◌, ◌<◌}
use mathlib.Core.Path.{◌≡◌, refl, sym, ap, ◌∙◌}
use mathlib.Core.List.{List, [], ◌∷◌, ◌++◌}
use mathlib.Core.Bool.{Bool, true, false, ◌&&◌, cond, and-true, and_assoc}
use native.Mathlib.Omega.{arith}
use lib.ListN.{length, get_or, take, drop, length-append, length-drop}
use lib.Seq.{drop-drop, get_or-drop}
use lib.Dec.{leb, eqb, lit≤}
use borrow.Author.Tests.{leb-true, eqb-true, ne_eqb}
use Rattle.std.specs.Prelude.{Result, Ok, Err}
use Rattle.forms.specs.Bytes.{to_bytes, from_bytes, leads, same}
use Rattle.forms.specs.Units.{longest_period, is_period, is_clock_reading}
use Rattle.forms.specs.Fields.{nature, flag, most_digits, is_digit_count, digit_count, leg_number, entry_count, all_in_range, frame, framed}
use Rattle.forms.specs.Item.{form_of, field_bytes, rest_in_range, item_bytes, item_in_range, rest_at, rest_of, leg_of, setup_of, choose, body_from, body_of, item_of, is_item, read_item, head_of, fixed_of}
use Rattle.forms.specs.declared.units.Tenths.{Tenths}
use Rattle.forms.specs.declared.item.Leg.{Leg}
use Rattle.forms.specs.declared.item.Leg.TheVariants.{One, Two}
use Rattle.forms.specs.declared.item.Bcsm.{Bcsm}
use Rattle.forms.specs.declared.item.Bcsm.TheVariants.{Originating, Terminating}
use Rattle.forms.specs.declared.item.Body.{Body}
use Rattle.forms.specs.declared.item.Body.TheVariants as B
use Rattle.forms.specs.declared.item.Rest.{Rest}
use Rattle.forms.specs.declared.item.Rest.TheVariants.{Nothing, Digits, Entries}
use Rattle.forms.specs.declared.item.Fixed.{Fixed}
use Rattle.forms.specs.declared.item.Item.{Item}
use Rattle.forms.specs.declared.refusal.Refusal.{Refusal}
use Rattle.forms.specs.declared.refusal.Refusal.TheVariants.{MalformedItem}
use Rattle.forms.proofs.ByteLaws.{number_back, pad_front, picked, and_left, and_right, leads_both, leads_next, same_rest, same_true, framed_same, own_bytes}

-- how many bytes follow the fields
abbrev pub followed : Rest → ℕ
followed Nothing = 0
followed (Digits c) = c
followed (Entries c) = c * 5

-- what a flag and a leg are written as reads back
flag_back : (f : Bool) → eqb (flag f) 1 ≡ f
flag_back true = refl
flag_back false = refl

leg_back : (l : Leg) → leg_of (eqb (leg_number l) 2) ≡ l
leg_back One = refl
leg_back Two = refl

period_back : (p : Tenths) (t : List ℕ) → is_period p ≡ true → from_bytes 4 (to_bytes 4 p.0 ++ t) ≡ p.0
period_back p t h = number_back 4 p.0 t (omega (arith, leb-true p.0 longest_period (and_right (leb 1 p.0) _ h)))

-- what the laws and the theorems need of a body's form: only here do they take the bodies one by one
pub record Formed (b : Body) : Type 0 where
  -- its fields fit their five places; in range, with what follows they are at most 51 bytes
  pub short : length (field_bytes b) ≤ 5
  pub bounded : all_in_range (form_of b).fields ≡ true → length (field_bytes b) + followed (form_of b).rest ≤ 51
  -- its bytes name its values
  pub back : (t : List ℕ) → all_in_range (form_of b).fields ≡ true → body_of (form_of b).kind (field_bytes b ++ t) ≡ b

-- a body that nothing follows
alone : (b : Body) → length (field_bytes b) + followed (form_of b).rest ≤ 5
    → ((t : List ℕ) → all_in_range (form_of b).fields ≡ true → body_of (form_of b).kind (field_bytes b ++ t) ≡ b)
    → Formed b
alone b s k = record { short = omega arith; bounded = λ h. omega arith; back = k }

numbered : (n c : ℕ) → ((nature n).in_range && ((digit_count c).in_range && true)) ≡ true → c ≤ most_digits
numbered n c h = leb-true c most_digits (and_right (leb 1 c) _ (and_left (is_digit_count c) true (and_right (nature n).in_range _ h)))

-- each kind of Setup has its number
setup_back : (b : Bcsm) (n s : ℕ) (f : Bool) (c : ℕ) (t : List ℕ) → let x = B.Setup (setup_of b n s f c) in body_of (form_of x).kind (field_bytes x ++ t) ≡ x
unfolding body_of body_from
setup_back Originating n s f c t = ap (λ x. B.Setup (setup_of Originating n s x c)) (flag_back f)
setup_back Terminating n s f c t = ap (λ x. B.Setup (setup_of Terminating n s x c)) (flag_back f)

pub formed : (b : Body) → Formed b
unfolding body_of body_from
formed (B.Setup s) = record { short = lit≤ tt; bounded = λ h. omega (arith, numbered s.nature s.count h); back = λ t h. setup_back s.bcsm s.nature s.service s.forwarded s.count t }
formed (B.RouteFailure c) = alone (B.RouteFailure c) (lit≤ tt) (λ t h. refl)
formed (B.Busy c) = alone (B.Busy c) (lit≤ tt) (λ t h. refl)
formed B.NoAnswer = alone B.NoAnswer (lit≤ tt) (λ t h. refl)
formed B.Seized = alone B.Seized (lit≤ tt) (λ t h. refl)
formed B.Answer = alone B.Answer (lit≤ tt) (λ t h. refl)
formed (B.MidCall d) = alone (B.MidCall d) (lit≤ tt) (λ t h. refl)
formed B.Moved = alone B.Moved (lit≤ tt) (λ t h. refl)
formed (B.Clear l c) = alone (B.Clear l c) (lit≤ tt) (λ t h. ap (λ x. B.Clear x c) (leg_back l))
formed (B.PeriodOver l) = alone (B.PeriodOver l) (lit≤ tt) (λ t h. ap B.PeriodOver (leg_back l))
formed (B.RequestReport c) = record { short = lit≤ tt; bounded = λ h. omega (arith, leb-true c 10 (and_right (leb 1 c) _ (and_left (entry_count c).in_range true h))); back = λ t h. refl }
formed B.Continue = alone B.Continue (lit≤ tt) (λ t h. refl)
formed (B.Connect n c) = record { short = lit≤ tt; bounded = λ h. omega (arith, numbered n c h); back = λ t h. refl }
formed B.Release = alone B.Release (lit≤ tt) (λ t h. refl)
formed (B.ApplyCharging l p) = alone (B.ApplyCharging l p) (lit≤ tt) (λ t h. ap (λ x. B.ApplyCharging x (record { 0 = from_bytes 4 (to_bytes 4 p.0 ++ t) })) (leg_back l) ∙ ap (λ (n : ℕ). B.ApplyCharging l (record { 0 = n })) (period_back p t (and_left (is_period p) true h)))
formed B.ActivityTest = alone B.ActivityTest (lit≤ tt) (λ t h. refl)
formed B.Abort = alone B.Abort (lit≤ tt) (λ t h. refl)

-- Cited by no proof any more; docs/PORT.md names it. A number that is the kind of none of the bodies, as the last arm of a `match` says it, chooses none of them.
abbrev NoneOf : ℕ → Type 0 → List Body → Type 0
NoneOf n before [] = before
NoneOf n before (b ∷ bs) = NoneOf n (before × (n ≡ (form_of b).kind → ⊥)) bs

none_chosen : (n : ℕ) (before : Type 0) (bs : List Body) → NoneOf n before bs → (choose n bs ≡ B.Abort) × before
none_chosen n before [] p = (refl, p)
none_chosen n before (b ∷ bs) p =
    let q = none_chosen n (before × (n ≡ (form_of b).kind → ⊥)) bs p in
    (rw (ne_eqb n (form_of b).kind q.1.1) q.0, q.1.0)

pub no_kind : (n : ℕ) (bs : List Body) → NoneOf n (Unit {0}) bs → choose n bs ≡ B.Abort
no_kind n bs p = (none_chosen n (Unit {0}) bs p).0

pub rest_size : (r : Rest) (t : List ℕ) → rest_in_range r t ≡ true → length t ≡ followed r
rest_size Nothing t h = eqb-true _ _ h
rest_size (Digits c) t h = eqb-true _ _ (and_left (eqb (length t) c) _ h)
rest_size (Entries c) t h = eqb-true _ _ h

pub item_size : (i : Item) (t : List ℕ) → item_in_range i t ≡ true → length (field_bytes i.body) + length t ≤ 51
unfolding item_in_range
item_size i t h =
    let f = form_of i.body in
    let r = and_left (all_in_range f.fields && rest_in_range f.rest t) (is_clock_reading i.time) h in
    rw (rest_size f.rest t (and_right (all_in_range f.fields) _ r)) ((formed i.body).bounded (and_left (all_in_range f.fields) (rest_in_range f.rest t) r))

pub fields_back : (b : Body) → take (fixed_of (form_of b)).len (fixed_of (form_of b)).bytes ≡ field_bytes b
fields_back b = pad_front 5 (field_bytes b) (formed b).short

module _ (i : Item) (t : List ℕ) where
  -- an item's bytes are its first 14, its fields, and its digits or entries
  pub item_parts : item_bytes i t ≡ head_of (rest_at i.body + length t) (form_of i.body).kind i.call i.time.0 ++ field_bytes i.body ++ t
  unfolding item_bytes rest_at
  item_parts =
      let f = field_bytes i.body in
      let b = (form_of i.body).kind ∷ (to_bytes 4 i.call ++ (to_bytes 6 i.time.0 ++ (f ++ t))) in
      let n : 3 + length b ≡ 14 + length f + length t = omega (arith, length-append f t) in
      rw n

  pub item_length : length (item_bytes i t) ≡ rest_at i.body + length t
  unfolding rest_at
  item_length = rw item_parts (simp length-append)

-- the 14 bytes before the fields f, in a form of n bytes
module _ (k c t : ℕ) (f : List ℕ) where
  abbrev inner : List ℕ
  inner = k ∷ (to_bytes 4 c ++ to_bytes 6 t)

  -- s is such a form, what follows in s included, where it begins so
  form_same : (s : List ℕ) → same (framed (inner ++ (f ++ drop (14 + length f) s))) s ≡ (leads (head_of (length s) k c t) s && leads f (drop 14 s))
  form_same s =
      let n : 14 + length f ≡ 3 + length (inner ++ f) = omega arith in
      let e : drop (14 + length f) s ≡ drop (length (inner ++ f)) (drop 3 s) = rw (drop-drop, n) in
      rw (framed_same (inner ++ (f ++ drop (14 + length f) s)) s, e, same_rest (inner ++ f) (drop 3 s), leads_both inner f (drop 3 s), drop-drop 11 3 s, leads_both (frame (length s)) inner s, and_assoc)

-- of an item and its row f: where its digits or entries begin, and that what the code tests is what makes the bytes an item
module _ (i : Item) (f : Fixed) (e : f ≡ fixed_of (form_of i.body)) where
  pub rest_at_lem : rest_at i.body ≡ 14 + f.len
  unfolding rest_at
  rest_at_lem = rw e

  pub item_in_range_lem : (t : List ℕ) → item_in_range i t ≡ ((f.in_range && rest_in_range f.rest t) && is_clock_reading i.time)
  unfolding item_in_range
  item_in_range_lem t = rw e

  -- of an item that was read from s, call and time need no test: their bytes are those that they were read from
  module _ (s : List ℕ) (q : i ≡ item_of s) (bytes : (k : ℕ) → get_or s k 0 < 256) (h : 14 ≤ length s) where
    own : (a : ℕ) (k : ℕ) → get_or (drop a s) k 0 < 256
    own a k = rw (get_or-drop a s k 0) (bytes (a + k))

    head_same : leads (head_of (length s) f.kind i.call i.time.0) s ≡ (leads (frame (length s)) s && eqb f.kind (get_or s 3 0))
    unfolding item_of
    head_same =
        let c = from_bytes 4 (drop 4 s) in
        let t = from_bytes 6 (drop 8 s) in
        let c₁ = own_bytes (drop 4 s) (own 4) 4 (rw length-drop (omega arith)) in
        let t₁ = own_bytes (drop 8 s) (own 8) 6 (rw length-drop (omega arith)) in
        rw (q, leads_both (frame (length s)) (f.kind ∷ (to_bytes 4 c ++ to_bytes 6 t)) s, leads_next f.kind (to_bytes 4 c ++ to_bytes 6 t) s 3 (omega arith), leads_both (to_bytes 4 c) (to_bytes 6 t) (drop 4 s), drop-drop 4 4 s, c₁, t₁, and-true)

    pub is_item_lem : is_item i s
        ≡ (((leads (frame (length s)) s && eqb f.kind (get_or s 3 0)) && leads (take f.len f.bytes) (drop 14 s))
        && ((f.in_range && rest_in_range f.rest (drop (14 + f.len) s)) && is_clock_reading i.time))
    unfolding is_item item_bytes item_in_range rest_at
    is_item_lem = rw (← head_same, e, fields_back i.body, form_same (form_of i.body).kind i.call i.time.0 (field_bytes i.body) s)

-- fewer than 14 bytes are no item
pub read_short : (s : List ℕ) → length s < 14 → read_item s ≡ Err MalformedItem
unfolding read_item is_item rest_at
read_short s h =
    let i = item_of s in
    let t = rest_of i.body s in
    go (same (item_bytes i t) s) (λ e. let l : 14 + length (field_bytes i.body) + length t ≡ length s = sym (item_length i t) ∙ ap length (same_true (item_bytes i t) s e) in omega arith)
  where
    go : (b : Bool) → (b ≡ true → ⊥) → cond {A = Result (Item × ℕ) Refusal} (b && item_in_range (item_of s) (rest_of (item_of s).body s)) (Ok (item_of s, rest_at (item_of s).body)) (Err MalformedItem) ≡ Err MalformedItem
    go true h = absurd (h refl)
    go false h = refl

-- what reading an item says: the bytes are its written form, it is in range, and its digits or entries begin at this place
pub record Reads (s : List ℕ) (i : Item) (n : ℕ) : Type 0 where
  pub written : item_bytes i (drop n s) ≡ s
  pub in_range : item_in_range i (drop n s) ≡ true
  pub place : rest_at i.body ≡ n

pub reads : (s : List ℕ) (i : Item) (n : ℕ) → read_item s ≡ Ok (i, n) → Reads s i n
unfolding read_item is_item
reads s i n h =
    let j = item_of s in
    let t = rest_of j.body s in
    let p = picked (is_item j s) (Ok (j, rest_at j.body)) (Err MalformedItem) (Ok (i, n)) h (λ (e : Err MalformedItem ≡ Ok (i, n)). let z : ◌≡◌ {A = ℕ} 0 1 = cc in omega arith) in
    let k : ◌≡◌ {A = Item × ℕ} (j, rest_at j.body) (i, n) = cc in
    let q : j ≡ i = ap (λ (x : Item × ℕ). x.0) k in
    let m : rest_at j.body ≡ n = ap (λ (x : Item × ℕ). x.1) k in
    let w : item_bytes j t ≡ s = same_true (item_bytes j t) s (and_left (same (item_bytes j t) s) (item_in_range j t) p.0) in
    let r : item_in_range j t ≡ true = and_right (same (item_bytes j t) s) (item_in_range j t) p.0 in
    record { written = rw (m, q) at w; in_range = rw (m, q) at r; place = rw q at m }

-- they begin within its first 19 bytes
pub place_small : (s : List ℕ) (i : Item) (n : ℕ) → read_item s ≡ Ok (i, n) → n ≤ 19
unfolding rest_at
place_small s i n h = let p : 14 + length (field_bytes i.body) ≡ n = (reads s i n h).place in omega (arith, (formed i.body).short)
