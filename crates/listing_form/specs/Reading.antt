-- A listing read from tokens, as they come. That this finds a listing exactly where the tokens are those of one, of counts from 1 to 64 and nesting at
-- most 8 deep, is proved (proofs/Reading.antt).
use Rattle.std.specs.Prelude.{Bool, true, false, cond, List, [], ◌∷◌, ℕ, zero, suc, ◌-◌, eqb, length}
use Rattle.rules.specs.Refusals.{outside}
use Rattle.listing_form.specs.Listing.{Listing, end, access, branch, loop, followed_by}

-- what is read at the front of some tokens: a sequence, and the tokens behind it; or they are not of this form
pub data Reading : Type 0 where
  found : Listing → List ℕ → Reading
  broken : Reading

-- what a token begins
pub data Kind : Type 0 where
  an_access : Kind
  a_branch : Kind
  a_loop : Kind
  nothing : Kind

-- 1 an access, 2 a branch, 5 a loop
unfoldable pub kind_of : ℕ → Kind
kind_of t = cond (eqb t 1) an_access (cond (eqb t 2) a_branch (cond (eqb t 5) a_loop nothing))

-- what is read goes on with k
abbrev pub and_then : Reading → (Listing → List ℕ → Reading) → Reading
and_then broken k = broken
and_then (found s ts) k = k s ts

-- the token t has to come next, and k goes on behind it
abbrev pub closed : ℕ → List ℕ → (List ℕ → Reading) → Reading
closed t [] k = broken
closed t (u ∷ us) k = cond (eqb u t) (k us) broken

-- One item, of a kind, from the tokens behind its first one. Branches and loops may nest d deep; `sequence` reads a sequence in which they may nest
-- as deep as it is told.
unfoldable pub item : (ℕ → List ℕ → Reading) → ℕ → Kind → List ℕ → Reading
item sequence d an_access [] = broken
item sequence d an_access (b ∷ ts) = found (access b end) ts
item sequence zero a_branch ts = broken
item sequence (suc d) a_branch ts =
    and_then (sequence d ts) (λ l us. closed 3 us (λ us. and_then (sequence d us) (λ r vs. closed 4 vs (λ vs. found (branch l r end) vs))))
item sequence zero a_loop ts = broken
item sequence (suc d) a_loop [] = broken
item sequence (suc d) a_loop (n ∷ ts) =
    cond (outside 1 64 n) broken (and_then (sequence d ts) (λ l us. closed 6 us (λ us. found (loop n l end) us)))
item sequence d nothing ts = broken

-- a token that begins no item ends the sequence
abbrev pub onwards : Kind → Reading → Reading → Reading
onwards an_access stop go = go
onwards a_branch stop go = go
onwards a_loop stop go = go
onwards nothing stop go = stop

-- A sequence: items as long as they come. At most f items are read; there are no more than tokens.
unfoldable pub sequence_of : ℕ → ℕ → List ℕ → Reading
sequence_of zero d ts = found end ts
sequence_of (suc f) d [] = found end []
sequence_of (suc f) d (t ∷ ts) =
    onwards (kind_of t) (found end (t ∷ ts))
    (and_then (item (sequence_of f) d (kind_of t) ts) (λ i us. and_then (sequence_of f d us) (λ s vs. found (followed_by i s) vs)))

-- a sequence in which branches and loops nest at most d deep, at the front of some tokens
unfoldable pub sequence_in : ℕ → List ℕ → Reading
sequence_in d ts = sequence_of (length ts) d ts

-- nothing may be left over
abbrev pub to_the_end : Reading → Reading
to_the_end broken = broken
to_the_end (found s []) = found s []
to_the_end (found s (t ∷ ts)) = broken

-- a listing: one sequence, 8 deep at most, and nothing behind it
unfoldable pub listing_of : List ℕ → Reading
listing_of ts = to_the_end (sequence_in 8 ts)

-- ---- what a reading says

-- whether the tokens are not of this form
abbrev pub is_broken : Reading → Bool
is_broken broken = true
is_broken (found s ts) = false

-- the listing that was read
abbrev pub listing_in : Reading → Listing
listing_in broken = end
listing_in (found s ts) = s

-- the place behind it, of n tokens
abbrev pub place_in : ℕ → Reading → ℕ
place_in n broken = n
place_in n (found s ts) = n - length ts
