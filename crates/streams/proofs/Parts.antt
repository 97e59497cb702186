-- A buffer that is filled part by part.
use Rattle.std.proofs.Common.{◌≡◌, ℕ, ◌+◌, ◌≤◌, List, ◌++◌, length, take, drop, sym, ap, ◌∙◌, arith, le_refl, drop_at, length-take-le, length-append}
use Rattle.std.proofs.lemmas.Slice.{take-put_mid_below}
use borrow.Rule.Slice.PartMut.{put_mid, post_of}
use lib.Seq.{take-add, take-append-le}

-- n bytes of a part that was put in stand behind the bytes in front of it
pub take_more-put_mid : (a k n : ℕ) (xs ys : List ℕ) → a ≤ length xs → n ≤ length ys → take a xs ++ take n ys ≡ take (a + n) (put_mid a k xs ys)
take_more-put_mid a k n xs ys within fits =
    let after = post_of a k xs in
    let front = take-put_mid_below a k xs ys a (le_refl a) within in
    let behind = ap (take n) (drop_at (take a xs) (ys ++ after) a (length-take-le a xs within)) ∙ take-append-le n ys after fits in
    sym (take-add a n (put_mid a k xs ys) ∙ ap (λ l. l ++ take n (drop a (put_mid a k xs ys))) front ∙ ap (λ l. take a xs ++ l) behind)

-- the same behind all of a front that was put in before
pub take_two-put_mid : (a k n r s : ℕ) (front rest ys : List ℕ) → r ≡ a → a ≤ length front → s ≤ length ys → a + s ≡ n → take r front ++ take s ys ≡ take n (put_mid a k (front ++ rest) ys)
take_two-put_mid a k n r s front rest ys p q fits e =
    let all = front ++ rest in
    let within : a ≤ length all = omega (arith, length-append front rest) in
    ap (λ m. take m front ++ take s ys) p ∙ ap (λ l. l ++ take s ys) (sym (take-append-le a front rest q)) ∙ take_more-put_mid a k s all ys within fits ∙ ap (λ m. take m (put_mid a k all ys)) e
