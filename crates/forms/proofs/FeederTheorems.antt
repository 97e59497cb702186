-- The theorems of the feeder (document 02, T-02): however a run of bytes is cut into chunks, it gets the same; one call more than a chunk has bytes is enough; items written one behind the other are handed out once each, in order.
use Prim.Native.Nat.{ℕ, zero, suc, ◌+◌, ◌-◌, ◌≤◌, ◌<◌}
use mathlib.Core.Path.{◌≡◌, refl, sym, ap, ◌∙◌}
use mathlib.Core.List.{List, [], ◌∷◌, ◌++◌, append_assoc, append-nil}
use mathlib.Core.Bool.{Bool, true, false, ◌&&◌, cond, false≢true}
use native.Mathlib.Nat.{add-zero}
use native.Mathlib.Omega.{arith}
use lib.ListN.{length, take, drop, length-append, length-drop}
use lib.Seq.{take-append_seam, drop-append_seam, take-append-le, drop-append-le, take-append-add, drop-append-add}
use Rattle.std.specs.Prelude.{Some, Result, Ok, Err}
use Rattle.forms.specs.Framing.{framing_of}
use Rattle.forms.specs.Item.{item_bytes, item_in_range, rest_at, item_of, is_item, read_item}
use Rattle.forms.specs.Feeder.{bytes_of, gathered, holding, new_feeder, stopped_feeder, begins, is_closed, taken_as, take_of, whole_fed, whole_fed_as, fed_as, feed_of, reset_of, Placed, Got, nothing_but, and_then, is_answer, placed, offered, chunk_fed, chunks_fed, joined, run_as, run_from, run_of}
use Rattle.forms.specs.declared.framing.Framing.{Framing}
use Rattle.forms.specs.declared.framing.Framing.TheVariants as F
use Rattle.forms.specs.declared.item.Item.{Item}
use Rattle.forms.specs.declared.refusal.Refusal.{Refusal}
use Rattle.forms.specs.declared.refusal.Refusal.TheVariants.{MalformedItem}
use Rattle.forms.specs.declared.feeder.Feeder.{Feeder}
use Rattle.forms.specs.declared.feeder.Taken.{Taken}
use Rattle.forms.specs.declared.feeder.Taken.TheVariants as T
use Rattle.forms.specs.declared.feeder.Fed.{Fed}
use Rattle.forms.proofs.ByteLaws.{and_left, and_right, pad_front}
use Rattle.forms.proofs.ItemTheorems.{read_back, item_framed}
use Rattle.forms.proofs.FeederLaws.{told, more, before_bad, before_whole, Takes, takes}
use borrow.Author.Tests.{ltb-true}
use lib.Dec.{ltb}

-- ---- one chunk

-- a feeder that holds the bytes h of an unfinished item
module _ (h c : List ℕ) (short : begins h ≡ F.Short) where
  held : bytes_of (gathered h) ≡ h
  held = pad_front 65 h (omega (arith, (told h F.Short short).0))

  -- it answers by what h and c begin with
  fed_open : feed_of (holding (gathered h)) c ≡ fed_as (taken_as (begins (h ++ c)) h) (holding (gathered h)) c
  unfolding feed_of take_of is_closed
  fed_open = rw (held, short)

-- a stopped feeder answers nothing more
stopped_offered : (n p : ℕ) (c : List ℕ) → offered n stopped_feeder p c ≡ nothing_but stopped_feeder
unfolding offered feed_of take_of is_closed
stopped_offered zero p c = refl
stopped_offered (suc n) p c = refl

stopped_chunks : (p : ℕ) (cs : List (List ℕ)) → chunks_fed stopped_feeder p cs ≡ nothing_but stopped_feeder
unfolding chunks_fed
stopped_chunks p [] = refl
stopped_chunks p (c ∷ cs) = rw (stopped_offered (suc (length c)) p c, stopped_chunks (p + length c) cs)

-- a call of those that offer a chunk again, with r its answer
abbrev after_call : ℕ → ℕ → List ℕ → Fed → Got
after_call n p c r = cond (is_answer r.completed) (and_then (placed r (p + r.used)) (offered n r.feeder (p + r.used) (drop r.used c))) (nothing_but r.feeder)

-- a whole item is an answer, and feeding goes on as new
whole_call : (n p u k : ℕ) (c s : List ℕ) → after_call n p c (whole_fed u s) ≡ and_then (placed (whole_fed k s) (p + u)) (offered n new_feeder (p + u) (drop u c))
unfolding read_item
whole_call n p u k c s = go (is_item (item_of s) s)
  where
    read : Bool → Result (Item × ℕ) Refusal
    read b = cond b (Ok (item_of s, rest_at (item_of s).body)) (Err MalformedItem)

    go : (b : Bool) → after_call n p c (whole_fed_as (read b) u s) ≡ and_then (placed (whole_fed_as (read b) k s) (p + u)) (offered n new_feeder (p + u) (drop u c))
    go true = refl
    go false = refl

new_short : begins [] ≡ F.Short
unfolding framing_of
new_short = refl

-- a chunk c offered behind the bytes h of an unfinished item gets what the run of both gets by itself
offered_run : (n m q : ℕ) (h c : List ℕ) → begins h ≡ F.Short → length c < n → length (h ++ c) < m → offered n (holding (gathered h)) (q + length h) c ≡ run_from m q (h ++ c)
unfolding offered run_from
offered_run zero m q h c e l k = absurd (omega arith)
offered_run (suc n) zero q h c e l k = absurd (omega arith)
offered_run (suc n) (suc m) q h c e l k = ap (after_call n (q + length h) c) (fed_open h c e) ∙ go (begins (h ++ c)) refl (offered_run n m)
  where
    go : (r : Framing) → begins (h ++ c) ≡ r
        → ((q : ℕ) (h c : List ℕ) → begins h ≡ F.Short → length c < n → length (h ++ c) < m → offered n (holding (gathered h)) (q + length h) c ≡ run_from m q (h ++ c))
        → after_call n (q + length h) c (fed_as (taken_as r h) (holding (gathered h)) c) ≡ run_as r q (h ++ c) (λ (k : ℕ). run_from m (q + k) (drop k (h ++ c)))
    go F.Short b ih = rw (held h c e)
    go F.Bad b ih =
        let p : q + length h + (2 - length h) ≡ q + 2 = omega (arith, before_bad h c e b) in
        rw (stopped_offered n (q + length h + (2 - length h)) (drop (2 - length h) c), p)
    go (F.Whole j) b ih =
        let u = j - length h in
        let t = told (h ++ c) (F.Whole j) b in
        let less = before_whole h c e j b in
        let a : length h + u ≡ j = omega arith in
        let p : q + length h + u ≡ q + j = omega arith in
        let s : h ++ take u c ≡ take j (h ++ c) = sym (take-append-add h c u) ∙ ap (λ (k : ℕ). take k (h ++ c)) a in
        let d : drop u c ≡ drop j (h ++ c) = sym (drop-append-add h c u) ∙ ap (λ (k : ℕ). drop k (h ++ c)) a in
        let w = drop j (h ++ c) in
        let v = length-drop j (h ++ c) in
        let z = length-append h c in
        let next : offered n new_feeder (q + j) w ≡ run_from m (q + j) w =
        ap (λ (k : ℕ). offered n new_feeder k w) (sym (add-zero (q + j))) ∙ ih (q + j) [] w new_short (omega arith) (omega arith) in
        ap (λ (x : List ℕ). after_call n (q + length h) c (whole_fed u (x ++ take u c))) (held h c e) ∙ whole_call n (q + length h) u j c (h ++ take u c) ∙ rw (s, p, d) (ap (and_then (placed (whole_fed j (take j (h ++ c))) (q + j))) next)

-- ---- chunks one after the other

run_short : (n q : ℕ) (h : List ℕ) → begins h ≡ F.Short → nothing_but (holding (gathered h)) ≡ run_from (suc n) q (h ++ [])
unfolding run_from
run_short n q h e = rw (append-nil h, e)

-- where a chunk's run w is done with, the chunks behind it get what the run of all gets
then_chunks : (cs : List (List ℕ))
    → ((m q : ℕ) (h : List ℕ) → begins h ≡ F.Short → length (h ++ joined cs) < m → chunks_fed (holding (gathered h)) (q + length h) cs ≡ run_from m q (h ++ joined cs))
    → (n m q : ℕ) (w : List ℕ) → length w < n → length (w ++ joined cs) < m
    → and_then (run_from n q w).answers (chunks_fed (run_from n q w).left (q + length w) cs) ≡ run_from m q (w ++ joined cs)
unfolding run_from
then_chunks cs all zero m q w l k = absurd (omega arith)
then_chunks cs all (suc n) zero q w l k = absurd (omega arith)
then_chunks cs all (suc n) (suc m) q w l k = go (begins w) refl (then_chunks cs all n m)
  where
    d : List ℕ
    d = joined cs

    next : ℕ → Got
    next j = run_from n (q + j) (drop j w)

    go : (r : Framing) → begins w ≡ r
        → ((q : ℕ) (w : List ℕ) → length w < n → length (w ++ d) < m → and_then (run_from n q w).answers (chunks_fed (run_from n q w).left (q + length w) cs) ≡ run_from m q (w ++ d))
        → and_then (run_as r q w next).answers (chunks_fed (run_as r q w next).left (q + length w) cs) ≡ run_from (suc m) q (w ++ d)
    go F.Short b ih = all (suc m) q w b k
    go F.Bad b ih = rw (stopped_chunks (q + length w) cs, more w d F.Bad b refl)
    go (F.Whole j) b ih =
        let t = told w (F.Whole j) b in
        let v = length-drop j w in
        let z = length-append w d in
        let y = length-append (drop j w) d in
        let i : j ≤ length w = omega arith in
        let p : q + length w ≡ q + j + length (drop j w) = omega arith in
        rw (more w d (F.Whole j) b refl, take-append-le j w d i, drop-append-le j w d i, p) (ap (and_then (placed (whole_fed j (take j w)) (q + j))) (ih (q + j) (drop j w) (omega arith) (omega arith)))

chunks_run : (cs : List (List ℕ)) (m q : ℕ) (h : List ℕ) → begins h ≡ F.Short → length (h ++ joined cs) < m → chunks_fed (holding (gathered h)) (q + length h) cs ≡ run_from m q (h ++ joined cs)
unfolding chunks_fed joined
chunks_run [] zero q h e l = absurd (omega arith)
chunks_run [] (suc m) q h e l = run_short m q h e
chunks_run (c ∷ cs) m q h e l =
    let n = suc (length (h ++ c)) in
    let g : chunk_fed (holding (gathered h)) (q + length h) c ≡ run_from n q (h ++ c) = offered_run (suc (length c)) n q h c e (omega arith) (omega arith) in
    let p : q + length h + length c ≡ q + length (h ++ c) = omega (arith, length-append h c) in
    rw (g, p, ← append_assoc h c (joined cs)) (then_chunks cs (chunks_run cs) n m q (h ++ c) (omega arith) (rw (append_assoc h c (joined cs)) l))

-- ---- the theorems

-- however a run is cut that is fed after a reset, it gets what it gets by itself: its items, its answers 1, their places, and the feeder left
pub as_run : (f : Feeder) (cs : List (List ℕ)) → chunks_fed (reset_of f).feeder 0 cs ≡ run_of (joined cs)
unfolding reset_of
as_run f cs = chunks_run cs (suc (length (joined cs))) 0 [] new_short (omega arith)

-- "However a byte run fed after a reset is cut, the items, the answers 1 and their places are the same as for one chunk, its rest offered again."
pub cut : (f : Feeder) (cs : List (List ℕ)) → chunks_fed (reset_of f).feeder 0 cs ≡ chunk_fed (reset_of f).feeder 0 (joined cs)
unfolding reset_of
cut f cs =
    let s = joined cs in
    let n = suc (length s) in
    as_run f cs ∙ sym (offered_run n n 0 [] s new_short (omega arith) (omega arith))

-- an answer uses a byte at least, and no more than the chunk has
pub uses : (f : Feeder) (c : List ℕ) → is_answer (feed_of f c).completed ≡ true → (1 ≤ (feed_of f c).used) × ((feed_of f c).used ≤ length c)
unfolding feed_of
uses f c = go (take_of f c) (takes f c)
  where
    whole_used : (r : Result (Item × ℕ) Refusal) (n : ℕ) (s : List ℕ) → (whole_fed_as r n s).used ≡ n
    whole_used (Ok i) n s = refl
    whole_used (Err m) n s = refl

    go : (t : Taken) → Takes f c t → is_answer (fed_as t f c).completed ≡ true → (1 ≤ (fed_as t f c).used) × ((fed_as t f c).used ≤ length c)
    go T.Closed k n = absurd (false≢true n)
    go (T.Bad m) k n = k
    go T.Unfinished k n = absurd (false≢true n)
    go (T.Whole m) k n = let s = bytes_of f.held ++ take m c in rw (whole_used (read_item s) m s) (k.0, k.1)

-- so one call more than the chunk has bytes is enough
pub enough : (n m : ℕ) (f : Feeder) (p : ℕ) (c : List ℕ) → length c < n → length c < m → offered n f p c ≡ offered m f p c
unfolding offered
enough zero m f p c l k = absurd (omega arith)
enough (suc n) zero f p c l k = absurd (omega arith)
enough (suc n) (suc m) f p c l k = go (is_answer r.completed) refl (enough n m)
  where
    r : Fed
    r = feed_of f c

    q : ℕ
    q = p + r.used

    one : List Placed
    one = placed r q

    go : (x : Bool) → is_answer r.completed ≡ x
        → ((f : Feeder) (p : ℕ) (c : List ℕ) → length c < n → length c < m → offered n f p c ≡ offered m f p c)
        → cond x (and_then one (offered n r.feeder q (drop r.used c))) (nothing_but r.feeder) ≡ cond x (and_then one (offered m r.feeder q (drop r.used c))) (nothing_but r.feeder)
    go false e ih = refl
    go true e ih =
        let u = uses f c e in
        let d = length-drop r.used c in
        ap (and_then one) (ih r.feeder q (drop r.used c) (omega arith) (omega arith))

-- ---- "Each completed item is handed out once, in order"

-- an item and its digits or entries
pub record Sent : Type 0 where
  pub item : Item
  pub rest : List ℕ

-- all of it in range; the call in four bytes
abbrev pub sent_in_range : Sent → Bool
sent_in_range x = item_in_range x.item x.rest && ltb x.item.call 4294967296

abbrev pub all_sent_in_range : List Sent → Bool
all_sent_in_range [] = true
all_sent_in_range (x ∷ xs) = sent_in_range x && all_sent_in_range xs

-- written one behind the other; and each handed out at its place, with its bytes, where the first begins at place q
abbrev pub sent_bytes : List Sent → List ℕ
sent_bytes [] = []
sent_bytes (x ∷ xs) = item_bytes x.item x.rest ++ sent_bytes xs

abbrev pub handed_out : ℕ → List Sent → List Placed
handed_out q [] = []
handed_out q (x ∷ xs) =
    let b = item_bytes x.item x.rest in
    record { completed = Ok (Some (record { item = x.item; at = rest_at x.item.body; bytes = gathered b })); place = q + length b } ∷ handed_out (q + length b) xs

sent_run : (n q : ℕ) (xs : List Sent) → length (sent_bytes xs) < n → all_sent_in_range xs ≡ true → run_from n q (sent_bytes xs) ≡ record { answers = handed_out q xs; left = new_feeder }
unfolding run_from framing_of
sent_run zero q xs l a = absurd (omega arith)
sent_run (suc n) q [] l a = refl
sent_run (suc n) q (x ∷ xs) l a =
    let i = x.item in
    let t = x.rest in
    let b = item_bytes i t in
    let w = sent_bytes xs in
    let r = and_left (sent_in_range x) (all_sent_in_range xs) a in
    let back = (read_back i t (and_left (item_in_range i t) (ltb i.call 4294967296) r) (ltb-true _ _ (and_right (item_in_range i t) _ r))).0 in
    let e = item_framed b i (rest_at i.body) back in
    let z = length-append b w in
    let k = told b (F.Whole (length b)) e in
    rw (more b w (F.Whole (length b)) e refl, take-append_seam b w, drop-append_seam b w, back)
    (ap (and_then (placed (whole_fed_as (Ok (i, rest_at i.body)) (length b) b) (q + length b))) (sent_run n (q + length b) xs (omega arith) (and_right (sent_in_range x) (all_sent_in_range xs) a)))

pub in_order : (f : Feeder) (xs : List Sent) (cs : List (List ℕ)) → all_sent_in_range xs ≡ true → joined cs ≡ sent_bytes xs → chunks_fed (reset_of f).feeder 0 cs ≡ record { answers = handed_out 0 xs; left = new_feeder }
in_order f xs cs a e = as_run f cs ∙ ap run_of e ∙ sent_run (suc (length (sent_bytes xs))) 0 xs (omega arith) a
