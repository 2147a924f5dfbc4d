-- Where rows end, by the units of each column. A row of a slot has cells 0, 1 ..; t are the units of each over all contents.
use Rattle.std.specs.Prelude.{◌≡◌, ◌⊎◌, List, ℕ, suc, ◌+◌, ◌-◌, ◌*◌, ◌≤◌, ◌<◌, length}
use Rattle.basics.proofs.Sums.{sum_to}
use Rattle.rules.specs.Units.{whole}
use Rattle.tight_rules.specs.Ends.{allowance}
use Rattle.tight_rows.specs.Room.{words_of}
use Rattle.tight_ends.specs.Stage.{groups_of}
use Rattle.tight_ends.specs.Settling.{both, settled_filled}
use Rattle.tight_rows.specs.Grid.{filled_words}

-- of n cells the first `top` stay, at least one, and those beyond have `gone` units, no more than may leave; one cell less would be too many, or none
pub record Topped (t : ℕ → ℕ) (n top gone : ℕ) : Type 0 where
  pub some : 1 ≤ top
  pub within : top ≤ n
  pub leaving : sum_to n t ≡ sum_to top t + gone
  pub light : gone ≤ allowance
  pub full : (top ≡ 1) ⊎ (allowance < gone + t (top - 1))

-- of these the first `bot` rise, and have `low` units: no more than may leave, or there would be more than W - 1 cells; one more would be too many, or the last
pub record Bottomed (t : ℕ → ℕ) (W top bot low : ℕ) : Type 0 where
  pub within : bot < top
  pub rising : low ≡ sum_to bot t
  pub needed : (bot ≡ 0) ⊎ (low ≤ allowance) ⊎ (bot + W ≤ suc top)
  pub enough : (suc bot ≡ top) ⊎ (allowance < low + t bot) × (top < bot + W)

-- the six rows of a stage at place e are there, and its first n columns have no more than WHOLE units
pub record Staging (W e n : ℕ) (ws : List ℕ) : Type 0 where
  pub narrow : n ≤ W
  pub inside : e + 6 * suc W ≤ length ws
  pub most : sum_to n (both (groups_of W e (words_of ws))) ≤ whole

-- the stage is there, and so are `wide` front words and as many back words, which are no words of the stage or of each other
pub record FilledPlaces (W e bot fronts backs wide : ℕ) (ws : List ℕ) : Type 0 where
  pub within : bot + wide ≤ W
  pub inside : e + 6 * suc W ≤ length ws
  pub order : fronts + wide ≤ backs
  pub end : backs + wide ≤ length ws
  pub front : (fronts + wide ≤ e) ⊎ (e + 6 * suc W ≤ fronts)
  pub back : (backs + wide ≤ e) ⊎ (e + 6 * suc W ≤ backs)

-- the settled filled numbers of the first n cells have been written, and nothing else
pub record FilledAll (W e bot fronts backs n : ℕ) (xs ys : List ℕ) : Type 0 where
  pub long : length ys ≡ length xs
  pub front : (i : ℕ) → i < n → words_of ys (fronts + i) ≡ (settled_filled (groups_of W e (words_of xs)) bot i).front
  pub back : (i : ℕ) → i < n → words_of ys (backs + i) ≡ (settled_filled (groups_of W e (words_of xs)) bot i).back
  pub beside : (p : ℕ) → p < length xs → (p < fronts) ⊎ (fronts + n ≤ p) → (p < backs) ⊎ (backs + n ≤ p) → words_of ys p ≡ words_of xs p

-- the stage is there, and the settled filled numbers of the cells from bot to top stand at their places
pub record FilledThere (W e bot top fronts backs : ℕ) (ws : List ℕ) : Type 0 where
  pub below : bot < top
  pub stage : Staging W e top ws
  pub front_end : fronts + (top - bot) ≤ length ws
  pub back_end : backs + (top - bot) ≤ length ws
  pub filled : (i : ℕ) → i < top - bot → filled_words (words_of ws) (fronts + i) (backs + i) ≡ settled_filled (groups_of W e (words_of ws)) bot i
