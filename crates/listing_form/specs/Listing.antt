-- Loops and branches as the compiler lists them: document 02, request 8/13. What a listing is, and the tokens that say it.
use Rattle.std.specs.Prelude.{Bool, true, not, ◌&&◌, List, [], ◌∷◌, ◌++◌, ℕ, suc, max}
use Rattle.rules.specs.Refusals.{outside}

-- A sequence: no item at all; or an item and the sequence s of those after it. An item is an access to a block, a branch with its two arms, or a
-- loop with its count and the sequence that it runs.
pub data Listing : Type 0 where
  end : Listing
  access : ℕ → Listing → Listing
  branch : Listing → Listing → Listing → Listing
  loop : ℕ → Listing → Listing → Listing

-- the tokens of a sequence: 1 b; 2, sequence, 3, sequence, 4; 5 n, sequence, 6
unfoldable pub tokens : Listing → List ℕ
tokens end = []
tokens (access b s) = 1 ∷ b ∷ tokens s
tokens (branch l r s) = 2 ∷ (tokens l ++ (3 ∷ (tokens r ++ (4 ∷ tokens s))))
tokens (loop n l s) = 5 ∷ n ∷ (tokens l ++ (6 ∷ tokens s))

-- how deep branches and loops together nest
unfoldable pub nesting : Listing → ℕ
nesting end = 0
nesting (access b s) = nesting s
nesting (branch l r s) = max (suc (max (nesting l) (nesting r))) (nesting s)
nesting (loop n l s) = max (suc (nesting l)) (nesting s)

-- every count is from 1 to 64
unfoldable pub good_counts : Listing → Bool
good_counts end = true
good_counts (access b s) = good_counts s
good_counts (branch l r s) = good_counts l && good_counts r && good_counts s
good_counts (loop n l s) = not (outside 1 64 n) && good_counts l && good_counts s

-- the items of one sequence, and those of another after them
unfoldable pub followed_by : Listing → Listing → Listing
followed_by end t = t
followed_by (access b s) t = access b (followed_by s t)
followed_by (branch l r s) t = branch l r (followed_by s t)
followed_by (loop n l s) t = loop n l (followed_by s t)
