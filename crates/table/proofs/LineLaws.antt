-- Laws of text, for the proofs of `line` and the functions below it.
use Prim.Native.Nat.{ℕ, zero, suc, ◌+◌, ◌-◌, ◌*◌, ◌/◌, ◌%◌, ◌^◌, ◌≤◌, ◌<◌}
use mathlib.Core.Path.{◌≡◌, refl, sym, ap, ◌∙◌}
use mathlib.Core.Bool.{true, false}
use mathlib.Core.List.{List, [], ◌++◌}
use mathlib.Core.Logic.{⊎_elim}
use native.Mathlib.Nat.{pow-suc, add-zero}
use native.Mathlib.Omega.{arith}
use borrow.Author.Tests.{lt-ltb, le-ltb, le-leb, lt-leb}
use lib.Dec.{leb, ltb}
use lib.ListN.{length, length-append}
use Rattle.std.specs.Prelude as std
use Rattle.std.specs.Prelude.{Some, None}
use Rattle.std.proofs.lemmas.Fmt.{decimal_by_steps}
use Rattle.forms.proofs.ByteLaws.{below_or_past, sets_then}
use Rattle.table.specs.declared.line.Text.{Text}
use Rattle.table.specs.Line.{digit, digits, decimal, Puts, printed, longest}

-- ---- decimal digits

-- the first argument matters no more once it is no smaller than the number
enough : (j k n : ℕ) → n ≤ j → n ≤ k → digits j (ltb n 10) n ≡ digits k (ltb n 10) n
unfolding digits
enough zero zero n h l = refl
enough zero (suc k) n h l = rw (lt-ltb n 10 (omega arith))
enough (suc j) zero n h l = rw (lt-ltb n 10 (omega arith))
enough (suc j) (suc k) n h l =
    ⊎_elim (λ s. rw (lt-ltb n 10 s)) (λ m. rw (le-ltb n 10 m, enough j k (n / 10) (omega arith) (omega arith))) (below_or_past n 10)

one_less : (k n : ℕ) → 10 ≤ n → digits (suc k) (ltb n 10) n ≡ digits k (ltb (n / 10) 10) (n / 10) ++ digit (n % 10)
unfolding digits
one_less k n h = rw (le-ltb n 10 h)

pub one_digit : (n : ℕ) → n < 10 → decimal n ≡ digit n
unfolding decimal digits
one_digit zero h = refl
one_digit (suc n) h = rw (lt-ltb (suc n) 10 h)

pub last_digit : (n : ℕ) → 10 ≤ n → decimal n ≡ decimal (n / 10) ++ digit (n % 10)
unfolding decimal
last_digit n h = enough n (suc n) n (omega arith) (omega arith) ∙ one_less n n h ∙ rw (enough n (n / 10) (n / 10) (omega arith) (omega arith))

-- of a number that fits into 64 bits these are the digits that std writes
pub std_decimal : (n : ℕ) → n < 2 ^ 64 → decimal n ≡ std.decimal n
std_decimal n h = decimal_by_steps (λ n ds. decimal n ≡ ds) one_digit (λ n ds m e. last_digit n m ∙ ap (λ d. d ++ digit (n % 10)) e) n h

few : (j k n : ℕ) → n < 10 ^ suc j → length (digits k (ltb n 10) n) ≤ suc j
unfolding digits
few j zero n h = omega arith
few zero (suc k) n h = rw (lt-ltb n 10 h) (omega arith)
few (suc j) (suc k) n h =
    let l : n < 10 ^ suc j * 10 = rw pow-suc at h in
    let d = digits k (ltb (n / 10) 10) (n / 10) in
    ⊎_elim (λ s. rw (lt-ltb n 10 s) (omega arith)) (λ m. rw (le-ltb n 10 m, length-append d (digit (n % 10))) (omega (arith, few j k (n / 10) (omega arith)))) (below_or_past n 10)

-- a number below 10 ^ (j + 1) has at most j + 1 digits
pub few_digits : (j n : ℕ) → n < 10 ^ suc j → length (decimal n) ≤ suc j
unfolding decimal
few_digits j n h = few j n n h

-- the number of digits, and that of all but the last
pub one_size : (n : ℕ) → n < 10 → length (decimal n) ≡ 1
one_size n h = rw (one_digit n h)

pub last_size : (n : ℕ) → 10 ≤ n → length (decimal n) ≡ length (decimal (n / 10)) + 1
last_size n h = rw (last_digit n h, length-append (decimal (n / 10)) (digit (n % 10)))

pub some_digit : (n : ℕ) → 1 ≤ length (decimal n)
some_digit n = ⊎_elim (λ s. omega (arith, one_size n s)) (λ m. omega (arith, last_size n m)) (below_or_past n 10)

-- ---- runs of stores

module _ {s : Text} where
  pub nothing : {n : ℕ} → Puts n [] s s
  nothing = record { same = refl; size = refl; most = omega arith; place = sym (add-zero s.at); bytes = refl }

  -- a number's digits as the crate itoa says them
  pub digits_put : {j n : ℕ} {e : Text} → n < 2 ^ 64 → Puts j (std.decimal n) s e → Puts j (decimal n) s e
  digits_put {n = n} h p = rw (std_decimal n h) p

  -- the same text, however it is said, within another bound
  pub spelled : {j : ℕ} {t u : List ℕ} {e : Text} (n : ℕ) → t ≡ u → length t ≤ n → Puts j t s e → Puts n u s e
  spelled n q h p = rw (← q) (record { same = p.same; size = p.size; most = h; place = p.place; bytes = p.bytes })

  pub both : {j m : ℕ} {a b : List ℕ} {e f : Text} → Puts j a s e → Puts m b e f → Puts (j + m) (a ++ b) s f
  both {a = a} {b = b} p q =
      record {
        same = q.same ∙ p.same;
        size = q.size ∙ p.size;
        most = rw (length-append a b) (omega arith);
        place = rw (length-append a b) (omega arith);
        bytes = rw (q.bytes, p.bytes) (sets_then a b s.out.now s.at _ p.place);
      }

-- ---- room for the longest line

pub no_room : (t d : List ℕ) (i : ℕ) → leb (i + longest) (length d) ≡ false → (None, d) ≡ printed t d i
unfolding printed
no_room t d i h = rw h

-- d: what the text's buffer is in the end
pub with_room : {n : ℕ} {t d : List ℕ} (s : Text) {e : Text} → leb (s.at + longest) (length s.out.now) ≡ true → Puts n t s e → d ≡ e.out.now → (Some e.at, d) ≡ printed t s.out.now s.at
unfolding printed
with_room s h p q = rw (h, q, p.place, p.bytes)

-- the room behind place i, counted
-- Cited by no proof any more; docs/PORT.md names it.
pub room_left : (i n : ℕ) → i ≤ n → leb longest (n - i) ≡ leb (i + longest) n
room_left i n h =
    ⊎_elim (λ s. rw (lt-leb longest (n - i) (omega arith), lt-leb (i + longest) n s)) (λ m. rw (le-leb longest (n - i) (omega arith), le-leb (i + longest) n m)) (below_or_past n (i + longest))
