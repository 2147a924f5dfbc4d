-- The rows of two tables, paired: which pairs of rows there are in turn, how many units each takes, and the list of them in the lent words, three words to a pair.
use Rattle.std.specs.Prelude.{◌≡◌, ◌⊎◌, Bool, cond, ◌&&◌, ◌||◌, List, [], ◌∷◌, ◌++◌, ℕ, zero, suc, ◌+◌, ◌-◌, ◌*◌, ◌≤◌, ◌<◌, eqb, leb, ltb, length, set}
use Rattle.rules.specs.AnyTable.{Match}
use Rattle.rules.specs.Contents.{places, shared, size}
use Rattle.tight_rules.specs.Join.{Two}
use Rattle.tight_pairs.specs.declared.Side.{Side}
use Rattle.tight_pairs.specs.declared.Sides.{Sides}
use Rattle.tight_rows.specs.Room.{Words, words_of}
use Rattle.tight_rows.specs.Numbers.{rank_of}
use Rattle.tight_pairs.specs.Joining.{taken, amount, left_of, right_of}

-- ---- in turn

-- row i of one table and row j of the other
abbrev pub two : ℕ → ℕ → Two
two i j = record { left = i; right = j }

-- row i with the first j rows of the other table, as far as they share exactly n blocks; rows i and j share s i j
unfoldable pub row_with : (ℕ → ℕ → ℕ) → ℕ → ℕ → ℕ → List Two
row_with s n i zero = []
row_with s n i (suc j) = row_with s n i j ++ cond (eqb (s i j) n) (two i j ∷ []) []

-- the first i rows with the J rows of the other table
unfoldable pub rows_with : (ℕ → ℕ → ℕ) → ℕ → ℕ → ℕ → List Two
rows_with s n J zero = []
rows_with s n J (suc i) = rows_with s n J i ++ row_with s n i J

-- I rows with J rows: those that share all places first, then one less, k times
unfoldable pub turns_to : (ℕ → ℕ → ℕ) → ℕ → ℕ → ℕ → List Two
turns_to s I J zero = []
turns_to s I J (suc k) = turns_to s I J k ++ rows_with s (places - k) J I

-- ---- how much

-- a pair, if it takes units
abbrev pub match_of : Two → ℕ → List Match
match_of c u = cond (eqb u 0) [] (record { left = c.left; right = c.right; units = u } ∷ [])

-- the pairs that take units, one after the other: as many as both rows have left
unfoldable pub takes : List Two → (ℕ → ℕ) → (ℕ → ℕ) → List Match
takes [] a b = []
takes (c ∷ cs) a b = let u = amount c a b in match_of c u ++ takes cs (taken c.left u a) (taken c.right u b)

-- ---- in words

-- what is left of the units of row i; nothing beyond the last row
abbrev pub units_left : Side → Words → ℕ → ℕ
units_left s w i = cond (ltb i s.rows) (w (s.units + i)) 0

-- how many of them have units left
abbrev pub rows_left : Side → Words → ℕ
rows_left s w = rank_of (units_left s w) s.rows

-- how many blocks rows i and j share
abbrev pub shared_by : Sides → Words → ℕ → ℕ → ℕ
shared_by p w i j = size (shared (w (p.left.masks + i)) (w (p.right.masks + j)))

-- pair n of those that stand at place a
abbrev pub pair_at : ℕ → Words → ℕ → Match
pair_at a w n = record { left = w (a + 3 * n); right = w (a + 3 * n + 1); units = w (a + 3 * n + 2) }

-- the first n pairs
unfoldable pub pairs_to : ℕ → Words → ℕ → List Match
pairs_to a w zero = []
pairs_to a w (suc n) = pairs_to a w n ++ (pair_at a w n ∷ [])

-- masks and units of each table stand before the pairs, and no word is of two of them; there is room for as many pairs as there are rows
pub record Placed (p : Sides) (ws : List ℕ) : Type 0 where
  pub left : p.left.masks + p.left.rows ≤ p.left.units
  pub right : p.right.masks + p.right.rows ≤ p.right.units
  pub apart : (p.left.units + p.left.rows ≤ p.right.masks) ⊎ (p.right.units + p.right.rows ≤ p.left.masks)
  pub before : p.left.units + p.left.rows ≤ p.pairs
  pub behind : p.right.units + p.right.rows ≤ p.pairs
  pub end : p.pairs + 3 * (p.left.rows + p.right.rows) ≤ length ws

-- whether the masks of a table and then its units stand before place `end`
abbrev pub is_side : Side → ℕ → Bool
is_side s end = leb (s.masks + s.rows) s.units && leb (s.units + s.rows) end

-- whether one table stands before the other
abbrev pub are_apart : Sides → Bool
are_apart p = leb (p.left.units + p.left.rows) p.right.masks || leb (p.right.units + p.right.rows) p.left.masks

-- whether there is room for as many pairs as there are rows, in `all` words
abbrev pub has_room : Sides → ℕ → Bool
has_room p all = leb (p.pairs + 3 * (p.left.rows + p.right.rows)) all

-- whether all of it is in its place
abbrev pub is_placed : Sides → ℕ → Bool
is_placed p all = is_side p.left p.pairs && is_side p.right p.pairs && are_apart p && has_room p all

-- there are n pairs, and room for as many more as can come: each uses up what is left of a row
pub record Pairable (p : Sides) (n : ℕ) (ws : List ℕ) : Type 0 where
  pub placed : Placed p ws
  pub room : n + (rows_left p.left (words_of ws) + rows_left p.right (words_of ws)) ≤ p.left.rows + p.right.rows

-- pair n is put down: so many units of rows i and j
abbrev pub pair_put : Sides → ℕ → ℕ → ℕ → ℕ → List ℕ → List ℕ
pair_put p i j u n ws =
    let w = words_of ws in
    let to = p.pairs + 3 * n in
    set (set (set (set (set ws to i) (to + 1) j) (to + 2) u) (p.left.units + i) (w (p.left.units + i) - u)) (p.right.units + j) (w (p.right.units + j) - u)

-- place q is beside the units of both tables and the pairs from pair n on
pub record Beside (p : Sides) (n q : ℕ) : Type 0 where
  pub left : (q < p.left.units) ⊎ (p.left.units + p.left.rows ≤ q)
  pub right : (q < p.right.units) ⊎ (p.right.units + p.right.rows ≤ q)
  pub pairs : (q < p.pairs + 3 * n) ⊎ (p.pairs + 3 * (p.left.rows + p.right.rows) ≤ q)

-- the rows of cs are paired in turn: the pairs that take units are behind the first n, r in all, and their units are used; nothing else is changed
pub record PairedTo (p : Sides) (cs : List Two) (n r : ℕ) (xs ys : List ℕ) : Type 0 where
  pub long : length ys ≡ length xs
  pub pairs : pairs_to p.pairs (words_of ys) r ≡ pairs_to p.pairs (words_of xs) n ++ takes cs (units_left p.left (words_of xs)) (units_left p.right (words_of xs))
  pub left : units_left p.left (words_of ys) ≡ left_of cs (units_left p.left (words_of xs)) (units_left p.right (words_of xs))
  pub right : units_left p.right (words_of ys) ≡ right_of cs (units_left p.left (words_of xs)) (units_left p.right (words_of xs))
  pub more : n ≤ r
  pub room : r + (rows_left p.left (words_of ys) + rows_left p.right (words_of ys)) ≤ p.left.rows + p.right.rows
  pub beside : (q : ℕ) → q < length xs → Beside p n q → words_of ys q ≡ words_of xs q
