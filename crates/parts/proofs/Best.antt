-- What the best case's call leaves for a list of numbers: one that is not complete is refused with 9, and otherwise what lies between the ends is what they mean.
use Rattle.std.specs.Prelude.{Err}
use mathlib.Core.Path.{◌≡◌, sym, ap, ◌∙◌}
use mathlib.Core.Bool.{Bool, true, false, cond}
use mathlib.Core.List.{List}
use Prim.Native.Nat.{ℕ, ◌+◌, ◌-◌}
use lib.ListN.{length, get_or, take, drop}
use Rattle.rules.specs.declared.Refusal.TheVariants.{Text}
use Rattle.best.specs.Call.{After, best_analysed}
use Rattle.curve_numbers.specs.Parts.{tracked_part, runs_part, accesses_part, edges_part, complete}
use Rattle.curve_numbers.specs.Places.{Ends}
use Rattle.parts.specs.Best.{best_numbers_left}
use Rattle.curve_numbers.proofs.Places.{is_complete, parts_are}

module _ (Z v : ℕ) (ns rs ws : List ℕ) where
  -- what the call leaves for these parts
  abbrev of_parts : List ℕ → List ℕ → List ℕ → List ℕ → After
  of_parts ts ls bs es = best_analysed Z (get_or ns 0 0) v (get_or ns 1 0) ts ls bs es rs ws

  abbrev either : Bool → After
  either b =
      cond b (of_parts (tracked_part ns).numbers (runs_part ns).numbers (accesses_part ns).numbers (edges_part ns).numbers)
      (record { answer = Err Text; result = rs; work = ws })

  best_complete : complete ns ≡ true → best_numbers_left Z v ns rs ws ≡ either true
  unfolding best_numbers_left
  best_complete e = ap either e

  pub best_incomplete : complete ns ≡ false → record { answer = Err Text; result = rs; work = ws } ≡ best_numbers_left Z v ns rs ws
  unfolding best_numbers_left
  best_incomplete e = sym (ap either e)

  pub best_between : (a b c : ℕ) → Ends ns a b c → (f : After)
      → f ≡ of_parts (take (a - 3) (drop 3 ns)) (take (b - (a + 1)) (drop (a + 1) ns)) (take (c - (b + 1)) (drop (b + 1) ns)) (take (length ns - (c + 1)) (drop (c + 1) ns))
      → f ≡ best_numbers_left Z v ns rs ws
  best_between a b c ends f e = e ∙ sym (parts_are ns a b c ends of_parts) ∙ sym (best_complete (is_complete ns a b c ends))
