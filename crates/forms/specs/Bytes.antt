-- Byte runs. Document 01, Forms: "Big-endian; a field whose width isn't given is one byte."
use Rattle.std.specs.Prelude.{ℕ, zero, suc, ◌+◌, ◌*◌, ◌/◌, ◌%◌, List, [], ◌∷◌, ◌++◌, Bool, true, false, ◌&&◌, ◌||◌, get_or, take, drop, leb, eqb}

-- a number in w bytes, the highest first; and the number that the first w bytes are
abbrev pub to_bytes : ℕ → ℕ → List ℕ
to_bytes zero n = []
to_bytes (suc w) n = to_bytes w (n / 256) ++ (n % 256 ∷ [])

abbrev pub from_bytes : ℕ → List ℕ → ℕ
from_bytes zero s = 0
from_bytes (suc w) s = from_bytes w s * 256 + get_or s w 0

-- the n bytes from place a on
abbrev pub part : List ℕ → ℕ → ℕ → List ℕ
part s a n = take n (drop a s)

-- s in n places, zeros behind it
abbrev pub pad : ℕ → List ℕ → List ℕ
pad zero s = []
pad (suc n) [] = 0 ∷ pad n []
pad (suc n) (x ∷ s) = x ∷ pad n s

-- low..high
abbrev pub within : ℕ → ℕ → ℕ → Bool
within low high n = leb low n && leb n high

-- every element passes the test
unfoldable pub all : (ℕ → Bool) → List ℕ → Bool
all p [] = true
all p (x ∷ xs) = p x && all p xs

-- some element is x
unfoldable pub contains : ℕ → List ℕ → Bool
contains x [] = false
contains x (y ∷ ys) = eqb y x || contains x ys

-- xs are the leading elements of ys
unfoldable pub leads : List ℕ → List ℕ → Bool
leads [] ys = true
leads (x ∷ xs) [] = false
leads (x ∷ xs) (y ∷ ys) = eqb x y && leads xs ys

-- the two runs are the same
unfoldable pub same : List ℕ → List ℕ → Bool
same [] [] = true
same [] (y ∷ ys) = false
same (x ∷ xs) [] = false
same (x ∷ xs) (y ∷ ys) = eqb x y && same xs ys
