-- The finished table, handed over: the words of a slot's table, carried into a room of zeros, are the table with zeros behind it.
use mathlib.Core.Path.{◌≡◌, refl, ap, ap₂, ◌∙◌}
use mathlib.Core.Bool.{true}
use mathlib.Core.List.{List, [], ◌∷◌, ◌++◌}
use Prim.Native.Nat.{ℕ, zero, suc, ◌+◌, ◌-◌, ◌*◌, ◌≤◌, ◌<◌}
use native.Mathlib.Omega.{arith}
use lib.ListN.{length, take, drop, replicate, length-drop}
use Rattle.rules.specs.declared.State.{State}
use Rattle.words.specs.Tables.{table_of, words_of}
use Rattle.words.specs.Handing.{goes_over, handed_over, emptied}
use Rattle.words.proofs.Tables.{fifth, table_drop, fits_table}
use Rattle.words.proofs.Handing.{goes}
use Rattle.estimate.specs.Rooms.{filled, slot_of, table_in}
use Rattle.estimate.specs.Call.{written}
use Rattle.rules.specs.Table.{listing}
use Rattle.tables.proofs.Nodes.{counted, counted_few, table_long}

words_take : (ws : List ℕ) (n : ℕ) → n * 5 ≤ length ws → take (n * 5) ws ≡ words_of (take n (table_of ws))
unfolding table_of words_of
words_take ws zero l = refl
words_take [] (suc n) l = absurd (omega arith)
words_take (a ∷ []) (suc n) l = absurd (omega arith)
words_take (a ∷ b ∷ []) (suc n) l = absurd (omega arith)
words_take (a ∷ b ∷ c ∷ []) (suc n) l = absurd (omega arith)
words_take (a ∷ b ∷ c ∷ d ∷ []) (suc n) l = absurd (omega arith)
words_take (a ∷ b ∷ c ∷ d ∷ e ∷ ws) (suc n) l = rw (fifth n) (ap (λ (us : List ℕ). a ∷ b ∷ c ∷ d ∷ e ∷ us) (words_take ws n (omega arith)))

-- from place p on
words_there : (ws : List ℕ) (p n : ℕ) → (p + n) * 5 ≤ length ws → take (n * 5) (drop (p * 5) ws) ≡ words_of (take n (drop p (table_of ws)))
words_there ws p n l =
    words_take (drop (p * 5) ws) n (omega (arith, length-drop (p * 5) ws)) ∙ ap (λ (T : List State). words_of (take n T)) (table_drop ws p)

-- the table in a slot, handed over
module _ (last m : ℕ) (ws : List ℕ) (l : last < 64) (long : 25920 ≤ length ws) (count : m ≡ filled (slot_of last (table_of ws))) where
  -- there is room for it
  fits : (rs : List ℕ) → m * 5 ≤ length rs → goes_over (length rs) (length ws) (last * 64 * 5) (m * 5) ≡ true
  fits rs room = goes rs ws (last * 64 * 5) (m * 5) room (omega (arith, counted_few listing last m (table_of ws) count))

  pub handed_over_lem : (rs us : List ℕ) → m * 5 ≤ length rs → us ≡ handed_over rs ws (last * 64 * 5) (m * 5) → us ≡ written (table_in last (table_of ws)) (length rs)
  handed_over_lem rs us room q =
      q ∙ rw (fits rs room)
      (ap₂ (λ (us vs : List ℕ). us ++ vs)
      (words_there ws (last * 64) m (omega (arith, counted_few listing last m (table_of ws) count)) ∙ ap words_of (counted listing last m (table_of ws) count))
      (ap (λ (k : ℕ). replicate (length rs - k * 5) 0) (table_long listing last m (table_of ws) count (omega (arith, fits_table ws 5184 long)))))

  pub handed_empty : (rs us : List ℕ) → m * 5 ≤ length rs → us ≡ emptied rs ws (last * 64 * 5) (m * 5) → us ≡ replicate (length ws) 0
  handed_empty rs us room q = q ∙ rw (fits rs room) refl
