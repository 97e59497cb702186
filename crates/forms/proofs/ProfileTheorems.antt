-- The theorems of the profile form: what is written reads back the same; each profile has one written form; a profile is 10 to 188 bytes long.
use Prim.Native.Nat.{ℕ, ◌+◌, ◌*◌, ◌≤◌}
use mathlib.Core.Path.{◌≡◌, refl, sym, ap, ◌∙◌}
use mathlib.Core.List.{List, [], ◌∷◌, ◌++◌, append_assoc}
use mathlib.Core.Bool.{true, ◌&&◌}
use native.Mathlib.Omega.{arith}
use borrow.Author.Tests.{leb-true}
use lib.ListN.{length, get_or, drop, length-append}
use lib.Seq.{drop-drop, take-append_seam, drop-append_seam}
use lib.Dec.{leb, eqb}
use Rattle.std.specs.Prelude.{Ok, Err}
use Rattle.forms.specs.Bytes.{from_bytes, within, all, same}
use Rattle.forms.specs.Units.{is_default_timer}
use Rattle.forms.specs.Fields.{nature, most_digits, is_digit_count, is_digit, bytes_in, all_in_range}
use Rattle.forms.specs.Framing.{profile_framing}
use Rattle.forms.specs.declared.framing.Framing.TheVariants as F
use Rattle.forms.specs.Profile.{Number, Profile, is_release, handling_number, criterion_number, number_fields, list_fields, fields_of, profile_bytes, sense_in_range, profile_in_range, handling_of, criterion_of, list_at, list_end, numbers_at, numbers_end, view_at, view_of, profile_of, is_profile, read_profile}
use Rattle.forms.specs.declared.profile.Handling.{Handling}
use Rattle.forms.specs.declared.profile.Handling.TheVariants as H
use Rattle.forms.specs.declared.profile.Criterion.{Criterion}
use Rattle.forms.specs.declared.profile.Criterion.TheVariants as C
use Rattle.forms.specs.declared.profile.ProfileView.{ProfileView}
use Rattle.forms.specs.declared.refusal.Refusal.TheVariants.{MalformedProfile}
use Rattle.forms.proofs.ByteLaws.{picked, and_left, and_right, same_self, same_true, framed_whole}
use Rattle.forms.proofs.ProfileLaws.{bytes_both, in_range_both, head_at}

-- ---- what is written reads back the same

handling_back : (h : Handling) → handling_of (eqb (handling_number h) 1) ≡ h
handling_back H.Continue = refl
handling_back H.Release = refl

-- to release is the handling that is written 1
pub release_number : (h : Handling) → is_release h ≡ eqb (handling_number h) 1
release_number H.Continue = refl
release_number H.Release = refl

criterion_back : (c : Criterion) → criterion_of (eqb (criterion_number c) 1) (eqb (criterion_number c) 2) ≡ c
criterion_back C.Absent = refl
criterion_back C.Enabling = refl
criterion_back C.Inhibiting = refl

module _ (s : List ℕ) where
  -- the bytes from place q on, one byte further
  next_at : (q x : ℕ) (w : List ℕ) → drop q s ≡ x ∷ w → (get_or s q 0 ≡ x) × (drop (q + 1) s ≡ w)
  next_at q x w e = (sym (head_at s q) ∙ ap (λ (r : List ℕ). get_or r 0 0) e, sym (drop-drop 1 q s) ∙ ap (drop 1) e)

  list_back : (q : ℕ) (l w : List ℕ) → drop q s ≡ length l ∷ (l ++ w) → (list_at s q ≡ l) × (drop (list_end s q) s ≡ w)
  list_back q l w e =
      let n = next_at q (length l) (l ++ w) e in
      (rw (n.0, n.1) (take-append_seam l w), rw (← drop-drop (get_or s q 0) (q + 1) s, n.0, n.1) (drop-append_seam l w))

  numbers_back : (ns : List Number) (q : ℕ) (w : List ℕ) → drop q s ≡ bytes_in (number_fields ns) ++ w → (numbers_at (length ns) s q ≡ ns) × (drop (numbers_end (length ns) s q) s ≡ w)
  unfolding numbers_at numbers_end
  numbers_back [] q w e = (refl, e)
  numbers_back (x ∷ ns) q w e =
      let b = bytes_in (number_fields ns) in
      let n = next_at q x.nature (length x.digits ∷ (x.digits ++ (b ++ w))) (rw (append_assoc x.digits b w) at e) in
      let l = list_back (q + 1) x.digits (b ++ w) n.1 in
      let r = numbers_back ns (list_end s (q + 1)) w l.1 in
      (rw (n.0, l.0, r.0), r.1)

module _ (p : Profile) where
  -- the values at their places in what was written
  value_back : profile_of (profile_bytes p) ≡ p
  unfolding profile_of view_at profile_bytes fields_of
  value_back =
      let s = profile_bytes p in
      let f = criterion_number p.forwarding ∷ [] in
      let v = length p.services ∷ (p.services ++ f) in
      let n = numbers_back s p.numbers 7 (bytes_in (list_fields p)) (bytes_both (number_fields p.numbers) (list_fields p)) in
      let q = numbers_end (length p.numbers) s 7 in
      let l = list_back s q p.lengths v n.1 in
      let r = list_back s (list_end s q) p.services f l.1 in
      let c = next_at s (list_end s (list_end s q)) (criterion_number p.forwarding) [] r.1 in
      rw (n.0, l.0, r.0, c.0, handling_back p.handling, criterion_back p.sense, criterion_back p.forwarding)

  -- reading what was written gives a view of the profile
  pub read_back : profile_in_range p ≡ true → (read_profile (profile_bytes p) ≡ Ok (view_of (profile_bytes p))) × (profile_of (profile_bytes p) ≡ p)
  unfolding read_profile is_profile
  read_back right = (rw (value_back, same_self (profile_bytes p), right), value_back)

-- ---- one written form

module _ (s : List ℕ) (v : ProfileView) (h : read_profile s ≡ Ok v) where
  -- the bytes are the profile's written form, it is in range, and the view is its own
  pub reads : ((profile_bytes (profile_of s) ≡ s) × (profile_in_range (profile_of s) ≡ true)) × (view_of s ≡ v)
  unfolding read_profile is_profile
  reads =
      let p = profile_of s in
      let r = picked (is_profile p s) (Ok (view_of s)) (Err MalformedProfile) (Ok v) h (λ (e : Err MalformedProfile ≡ Ok v). let z : ◌≡◌ {A = ℕ} 0 1 = cc in omega arith) in
      ((same_true (profile_bytes p) s (and_left (same (profile_bytes p) s) (profile_in_range p) r.0), and_right (same (profile_bytes p) s) (profile_in_range p) r.0), cc)

  -- bytes that read as a profile are its written form
  pub one_form : profile_bytes (profile_of s) ≡ s
  one_form = reads.0.0

-- two byte runs that read as one profile are the same bytes
pub one_run : (s r : List ℕ) (v w : ProfileView) → read_profile s ≡ Ok v → read_profile r ≡ Ok w → profile_of s ≡ profile_of r → s ≡ r
one_run s r v w hs hr e = sym (one_form s v hs) ∙ ap profile_bytes e ∙ one_form r w hr

-- ---- sizes

numbers_size : (ns : List Number) → all_in_range (number_fields ns) ≡ true → length (bytes_in (number_fields ns)) ≤ 17 * length ns
numbers_size [] h = omega arith
numbers_size (x ∷ ns) h =
    let d = length x.digits in
    let r = and_right (nature x.nature).in_range _ h in
    let m : d ≤ most_digits = leb-true d most_digits (and_right (leb 1 d) _ (and_left (is_digit_count d) _ r)) in
    let i = numbers_size ns (and_right (all is_digit x.digits) _ (and_right (is_digit_count d) _ r)) in
    omega (arith, length-append x.digits (bytes_in (number_fields ns)))

size : (p : Profile) → profile_in_range p ≡ true → (10 ≤ length (profile_bytes p)) × (length (profile_bytes p) ≤ 188)
unfolding profile_in_range profile_bytes fields_of
size p h =
    let ns = number_fields p.numbers in
    let l = length p.lengths in
    let v = length p.services in
    let ok = and_right (is_default_timer p.timer) _ (and_left _ (sense_in_range p.sense (length p.numbers + l)) h) in
    let both : (all_in_range ns && all_in_range (list_fields p)) ≡ true = sym (in_range_both ns (list_fields p)) ∙ and_right (within 0 10 (length p.numbers)) _ ok in
    let lists = and_right (all_in_range ns) _ both in
    let after = and_right (all is_digit_count p.lengths) _ (and_right (within 0 3 l) _ lists) in
    let m₁ = leb-true (length p.numbers) 10 (and_right (leb 0 (length p.numbers)) _ (and_left (within 0 10 (length p.numbers)) _ ok)) in
    let m₂ = numbers_size p.numbers (and_left (all_in_range ns) _ both) in
    let m₃ = leb-true l 3 (and_right (leb 0 l) _ (and_left (within 0 3 l) _ lists)) in
    let m₄ = leb-true v 5 (and_right (leb 0 v) _ (and_left (within 0 5 v) _ after)) in
    rw (bytes_both ns (list_fields p), length-append (bytes_in ns) (bytes_in (list_fields p)), length-append p.lengths (v ∷ (p.services ++ (criterion_number p.forwarding ∷ []))), length-append p.services (criterion_number p.forwarding ∷ [])) (omega arith, omega arith)

-- a profile is 10 to 188 bytes long
pub profile_bounds : (s : List ℕ) (v : ProfileView) → read_profile s ≡ Ok v → (10 ≤ length s) × (length s ≤ 188)
profile_bounds s v h = rw (one_form s v h) at (size (profile_of s) (reads s v h).0.1)

-- and its length field says so: a run that begins with it is found to
pub profile_framed : (s : List ℕ) (v : ProfileView) → read_profile s ≡ Ok v → profile_framing (length s) (from_bytes 2 s) ≡ F.Whole (length s)
unfolding profile_bytes
profile_framed s v h = framed_whole 10 188 {b = bytes_in (fields_of (profile_of s))} (one_form s v h) (profile_bounds s v h).0 (profile_bounds s v h).1 (omega arith)
