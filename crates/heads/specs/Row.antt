-- Heads in a row, the lowest first: one is put in, and the one at a place becomes another and goes on.
use Rattle.std.specs.Prelude.{◌≡◌, Bool, cond, ◌&&◌, List, [], ◌∷◌, ◌++◌, ℕ, zero, suc, ◌-◌, ltb, leb, length, take, drop, get_or}

-- the place behind the last of the first n of hs that is less than h; 0 where none is
unfoldable pub behind_less : ℕ → List ℕ → ℕ → ℕ
behind_less h hs zero = 0
behind_less h hs (suc n) = cond (ltb (get_or hs n 0) h) (suc n) (behind_less h hs n)

-- hs with h at place p; those from there on, of the first n, stand one place further on, where the one at place n was
unfoldable pub put_at : ℕ → ℕ → ℕ → List ℕ → List ℕ
put_at p n h hs = take p hs ++ h ∷ (drop p (take n hs) ++ drop (suc n) hs)

-- h among the first n of hs, behind those that are less; where hs has no more than n there is no room, and nothing is done
unfoldable pub inserted : ℕ → ℕ → List ℕ → List ℕ
inserted n h hs = cond (ltb n (length hs)) (put_at (behind_less h hs n) n h hs) hs

-- h before the first of hs that is not less
unfoldable pub onward : ℕ → List ℕ → List ℕ
onward h [] = h ∷ []
onward h (g ∷ gs) = cond (ltb g h) (g ∷ onward h gs) (h ∷ g ∷ gs)

-- whether hs has something behind place i, and the last of it is not less than h
abbrev pub ends : ℕ → ℕ → List ℕ → Bool
ends i h hs = ltb i (length hs - 1) && leb h (get_or hs (length hs - 1) 0)

-- the one at place i becomes h, and goes on to before the first behind it that is not less; where the last is less nothing is done
unfoldable pub moved_on : ℕ → ℕ → List ℕ → List ℕ
moved_on i h hs = cond (ends i h hs) (take i hs ++ onward h (drop (suc i) hs)) hs

-- gs are hs with h at some place among them
pub record Among (h : ℕ) (hs gs : List ℕ) : Type 0 where
  pub before : List ℕ
  pub behind : List ℕ
  pub without : hs ≡ before ++ behind
  pub with : gs ≡ before ++ h ∷ behind
