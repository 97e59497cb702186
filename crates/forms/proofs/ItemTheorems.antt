-- The theorems of the item form: what is written reads back the same; each item has one written form; an item is 14 to 65 bytes long; entries likewise.
use Prim.Native.Nat.{ℕ, ◌+◌, ◌/◌, ◌%◌, ◌^◌, ◌≤◌, ◌<◌}
use mathlib.Core.Path.{◌≡◌, sym, ap, ◌∙◌}
use mathlib.Core.List.{List, [], ◌∷◌, ◌++◌}
use mathlib.Core.Bool.{true, ◌&&◌}
use native.Mathlib.Omega.{arith}
use borrow.Author.Tests.{ltb-true, le-leb}
use lib.ListN.{length, take, drop}
use lib.Seq.{drop_at, take-append_seam}
use lib.Dec.{leb, ltb}
use Rattle.std.specs.Prelude.{Ok, Err}
use Rattle.forms.specs.Bytes.{to_bytes, from_bytes}
use Rattle.forms.specs.Units.{clock_end}
use Rattle.forms.specs.Fields.{all_in_range}
use Rattle.forms.specs.Item.{form_of, field_bytes, rest_in_range, item_bytes, item_in_range, rest_at, rest_of, item_of, is_item, read_item, entry_bytes, entry_of, head_of}
use Rattle.forms.specs.Framing.{item_framing}
use Rattle.forms.specs.Write.{writable, written, after}
use Rattle.forms.specs.declared.framing.Framing.TheVariants as F
use Rattle.forms.specs.declared.item.Item.{Item}
use Rattle.forms.specs.declared.item.Entry.{Entry}
use Rattle.forms.specs.declared.refusal.Refusal.TheVariants.{MalformedItem}
use Rattle.forms.proofs.ByteLaws.{picked, and_left, and_right, number_back, same_self, framed_whole}
use Rattle.forms.proofs.ItemLaws.{formed, item_size, item_parts, item_length, reads}

-- ---- what is written reads back the same

module _ (i : Item) (t : List ℕ) (right : item_in_range i t ≡ true) (call : i.call < 256 ^ 4) where
  in_range_lem : (all_in_range (form_of i.body).fields ≡ true) × (i.time.0 < clock_end)
  unfolding item_in_range
  in_range_lem =
      let f = form_of i.body in
      let r = all_in_range f.fields && rest_in_range f.rest t in
      (and_left (all_in_range f.fields) (rest_in_range f.rest t) (and_left r (ltb i.time.0 clock_end) right), ltb-true _ _ (and_right r _ right))

  item_back : item_of (item_bytes i t) ≡ i
  unfolding item_of item_bytes
  item_back =
      let b = field_bytes i.body ++ t in
      rw (number_back 4 i.call (to_bytes 6 i.time.0 ++ b) call, number_back 6 i.time.0 b in_range_lem.1, (formed i.body).back t in_range_lem.0)

  rest_back : rest_of i.body (item_bytes i t) ≡ t
  unfolding rest_at
  rest_back = rw (item_parts i t) (drop_at (head_of _ _ _ _ ++ field_bytes i.body) t (14 + length (field_bytes i.body)) (omega arith))

  -- reading an item's bytes gives the item and what follows it
  pub read_back : (read_item (item_bytes i t) ≡ Ok (i, rest_at i.body)) × (rest_of i.body (item_bytes i t) ≡ t)
  unfolding read_item is_item
  read_back = (rw (item_back, rest_back, same_self (item_bytes i t), right), rest_back)

-- what was written into a buffer reads back the same. (A call is below 256 ^ 4 in the code: it is a u32.)
pub written_read : (i : Item) (t d : List ℕ) (n : ℕ) → i.call < 256 ^ 4 → written i t d ≡ Ok n
    → (read_item (take n (after i t d)) ≡ Ok (i, rest_at i.body)) × (rest_of i.body (take n (after i t d)) ≡ t)
unfolding written after writable
written_read i t d n call h =
    let b = item_bytes i t in
    let p = picked (item_in_range i t && leb (length b) (length d)) (Ok (length b)) (Err MalformedItem) (Ok n) h (λ (e : Err MalformedItem ≡ Ok n). let z : ◌≡◌ {A = ℕ} 0 1 = cc in omega arith) in
    let l : length b ≡ n = cc in
    rw (p.0, ← l, take-append_seam b (drop (length b) d)) (read_back i t (and_left (item_in_range i t) (leb (length b) (length d)) p.0) call)

-- ---- one written form

module _ (s : List ℕ) (i : Item) (n : ℕ) (h : read_item s ≡ Ok (i, n)) where
  -- bytes that read as an item are its written form
  pub one_form : item_bytes i (drop n s) ≡ s
  one_form = (reads s i n h).written

  -- writing what was read gives the bytes back, in any buffer with room
  pub read_written : (d : List ℕ) → length s ≤ length d → (written i (drop n s) d ≡ Ok (length s)) × (after i (drop n s) d ≡ s ++ drop (length s) d)
  unfolding written after writable
  read_written d l = (rw ((reads s i n h).in_range, one_form, le-leb _ _ l), rw ((reads s i n h).in_range, one_form, le-leb _ _ l))

  -- an item is 14 to 65 bytes long
  pub item_bounds : (14 ≤ length s) × (length s ≤ 65)
  unfolding rest_at
  item_bounds =
      let r = reads s i n h in
      let l : 14 + length (field_bytes i.body) + length (drop n s) ≡ length s = sym (item_length i (drop n s)) ∙ ap length r.written in
      (omega arith, omega (arith, item_size i (drop n s) r.in_range))

  -- and its length field says so: a run that begins with it is found to
  pub item_framed : item_framing (length s) (from_bytes 2 s) ≡ F.Whole (length s)
  unfolding item_bytes
  item_framed = framed_whole 14 65 {b = drop 3 (item_bytes i (drop n s))} one_form item_bounds.0 item_bounds.1 (omega arith)

-- two byte runs that read as one item, with the same digits or entries, are the same bytes
pub one_run : (s r : List ℕ) (i : Item) (m n : ℕ) → read_item s ≡ Ok (i, m) → read_item r ≡ Ok (i, n) → drop m s ≡ drop n r → s ≡ r
one_run s r i m n hs hr e = sym (one_form s i m hs) ∙ ap (item_bytes i) e ∙ one_form r i n hr

-- ---- entries

-- an entry reads back from its bytes
pub entry_back : (e : Entry) (w : List ℕ) → e.timer.0 < 256 ^ 2 → entry_of (entry_bytes e ++ w) ≡ e
unfolding entry_of
entry_back e w h = rw (number_back 2 e.timer.0 w h)

-- five bytes are the written form of one entry
pub entry_form : (a b c m n : ℕ) (w : List ℕ) → m < 256 → n < 256 → entry_bytes (entry_of (a ∷ b ∷ c ∷ m ∷ n ∷ w)) ≡ a ∷ b ∷ c ∷ m ∷ n ∷ []
unfolding entry_of
entry_form a b c m n w hm hn =
    let t = from_bytes 2 (m ∷ n ∷ w) in
    let p : t / 256 % 256 ≡ m = omega arith in
    let q : t % 256 ≡ n = omega arith in
    rw (p, q)
