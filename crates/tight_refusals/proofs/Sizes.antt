-- How many words there are: the sum that the code makes is the definition's, and within the limits it is small.
use mathlib.Core.Path.{◌≡◌}
use Prim.Native.Nat.{ℕ, ◌+◌, ◌*◌, ◌^◌, ◌≤◌}
use native.Mathlib.Nat.{mul-le-mul, pow-le-pow_right}
use native.Mathlib.Omega.{arith}
use lib.Dec.{lit<}
use lib.ListN.{length}
use Rattle.rules.specs.Input.{edges_of}
use Rattle.tight_rules.specs.Asked.{Asked}
use Rattle.tight_rules.specs.Rooms.{row_cells, table_words, most_kept, room_needed}

-- a table of K contents and W cells
table_most : (K W : ℕ) → K ≤ 4096 → W ≤ 4098 → 4 + 2 * K + 2 * W + K * W ≤ 16801800
table_most K W k w = omega (arith, mul-le-mul k w)

-- all tables: of no more than 64 nodes, and three
pub tables_most : (S K W X : ℕ) → S ≤ 64 → K ≤ 4096 → W ≤ 4098 → X ≡ 4 + 2 * K + 2 * W + K * W → (S + 3) * X ≤ 67 * 16801800
tables_most S K W X s k w x = let three : S + 3 ≤ 67 = omega arith in
    let one : X ≤ 16801800 = rw x (table_most K W k w) in
    mul-le-mul three one

-- and what is beside them, with t tracked blocks
pub beside_most : (K W t Y : ℕ) → K ≤ 4096 → W ≤ 4098 → t ≤ 16 → Y ≡ 3 * 2 ^ t + (10 * K + 10) + 8 * (W + 1) → Y ≤ 300000
beside_most K W t Y k w h y = let masks : 2 ^ t ≤ 65536 = pow-le-pow_right (lit< tt) {i = t} {j = 16} h in omega (arith, y, masks)

pub words_are : (a : Asked) (S W X Y : ℕ) → S ≡ most_kept (edges_of a.edges) (length a.lengths) → W ≡ row_cells a → X ≡ 4 + 2 * a.contents + 2 * W + a.contents * W
    → Y ≡ 3 * 2 ^ length a.tracked + (10 * a.contents + 10) + 8 * (W + 1) → (S + 3) * X + Y ≡ room_needed a
unfolding room_needed table_words
words_are a S W X Y s w x y = rw (s, x, y, w) (omega arith)
