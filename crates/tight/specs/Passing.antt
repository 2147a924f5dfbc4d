-- One access from slot to slot, part by part: what must be there, and what each part leaves. The words between two steps are named, so that each step's own record says what it did.
use Rattle.std.specs.Prelude.{◌≡◌, ◌⊎◌, List, ℕ, suc, ◌+◌, ◌*◌, ◌^◌, ◌≤◌, ◌<◌, length, take, drop}
use Rattle.basics.proofs.Sums.{sum_to}
use Rattle.rules.specs.declared.Target.{Target}
use Rattle.rules.specs.Contents.{size, Place}
use Rattle.rules.specs.Shape.{Listed}
use Rattle.plan.specs.Plan.{planned}
use Rattle.tight_rules.specs.Run.{alive}
use Rattle.tight.specs.declared.Sender.{Sender}
use Rattle.tight.specs.declared.Shares.{Shares}
use Rattle.tight.specs.declared.SetAside.{SetAside}
use Rattle.tight_rows.specs.declared.Opening.{Opening}
use Rattle.tight.specs.declared.Receiver.{Receiver}
use Rattle.tight_rows.specs.Room.{words_of, Leaves, width_at, slot_words}
use Rattle.tight.specs.Access.{risk}
use Rattle.tight.specs.Moving.{plus}
use Rattle.tight_rows.specs.Numbers.{sum_in, rank_of, Placed, Opened}
use Rattle.tight_rows.specs.Rows.{replaced}
use Rattle.tight.specs.Selecting.{Selects}
use Rattle.tight.specs.Splitting.{Shared}
use Rattle.tight.specs.Sending.{start_at, mask_in, comes_from, rest_comes, Totalled}
use Rattle.tight.specs.Grouping.{column_of, UnitsStaged, Grouped, HeaderSent}

-- ---- cells are chosen, the stage has its units, and rows are split

-- the rows that are split, of what is sent
abbrev pub shares_of : Sender → Shares
shares_of s = record { masks = s.masks; rows = s.rows; length = s.length; count = s.count; select = s.lose; rest = s.rest; width = s.width }

-- what is sent stands before the stage at place e, of W cells to a row; the rows that choose cells and the one for what is left over are the last four of the stage; and no column has more
-- units than a word
pub record Preparing (N : ℕ) (x : Target) (s : Sender) (fronts backs e W : ℕ) (ws : List ℕ) : Type 0 where
  pub placed : Listed 16 x.place
  pub sets : x.set < 16
  pub ways : 1 ≤ N
  pub few : s.count * N < 2 ^ 64
  pub wide : s.width ≤ s.length
  pub narrow : s.width ≤ W
  pub front : fronts + s.width ≤ e
  pub back : backs + s.width ≤ e
  pub masks : s.masks + s.count ≤ s.rows
  pub rows : s.rows + s.count * s.length ≤ e
  pub lose : s.lose ≡ e + 2 * (W + 1)
  pub keep : s.keep ≡ e + 3 * (W + 1)
  pub all : s.all ≡ e + 4 * (W + 1)
  pub rest : s.rest ≡ e + 5 * (W + 1)
  pub inside : e + 6 * (W + 1) ≤ length ws
  pub columns : (j : ℕ) → j < s.width → column_of s (words_of ws) j < 2 ^ 64

-- they are, one after the other
pub record RowsPrepared (N : ℕ) (x : Target) (s : Sender) (fronts backs e W : ℕ) (xs ys : List ℕ) : Type 0 where
  pub chosen : List ℕ
  pub counted : List ℕ
  pub cleared : List ℕ
  pub selects : Selects N x fronts backs s.lose s.keep s.all s.width xs chosen
  pub stages : UnitsStaged W e x s chosen counted
  pub clears : Leaves (λ w. replaced s.rest s.width (λ j. 0) w) counted cleared
  pub shares : Shared N x (shares_of s) s.count cleared ys

-- ---- the plan

-- the n words from place a on
abbrev pub part_of : ℕ → ℕ → List ℕ → List ℕ
part_of a n ws = take n (drop a ws)

-- the plan at place p, of n masks, is reduced to at most K of them, but for what is held: u units are set aside, and nothing else is changed
pub record PlanReduced (p n : ℕ) (y : Place) (K u : ℕ) (xs ys : List ℕ) : Type 0 where
  pub long : length ys ≡ length xs
  pub words : (i : ℕ) → i < n + n → words_of ys (p + i) ≡ words_of (planned K n y (part_of p (n + n) xs)).words i
  pub aside : u ≡ (planned K n y (part_of p (n + n) xs)).aside
  pub beside : (i : ℕ) → i < length xs → (i < p) ⊎ (p + (n + n) ≤ i) → words_of ys i ≡ words_of xs i

-- the sums by mask are made, and reduced
pub record Planned (N : ℕ) (x : Target) (L : ℕ) (s : Sender) (p n K : ℕ) (r : SetAside) (xs ys : List ℕ) : Type 0 where
  pub summed : List ℕ
  pub totals : Totalled N x L s p n r.over xs summed
  pub reduces : PlanReduced p n (alive L x.place) K r.planned summed ys

-- ---- a table is opened, rows move to it, and its header and the stage's filled numbers are written

-- the table that receives, when r rows are opened
abbrev pub receiver_of : Opening → ℕ → Receiver
receiver_of o r = record { numbers = o.numbers; cells = o.slot + 4 + 2 * o.contents + 2 * o.cells; rows = r; length = o.cells }

-- what is sent stands in the slot at place a, beside the one that is opened, and the rows that choose cells and what is left over are the last four of the stage at place e; some masks
-- have units, and no more than there is room for; and no cell grows beyond a word
pub record Delivering (N : ℕ) (x : Target) (L : ℕ) (s : Sender) (o : Opening) (a e : ℕ) (ws : List ℕ) : Type 0 where
  pub placed : Listed 16 x.place
  pub sets : x.set < 16
  pub few : N ≤ 16
  pub there : Placed o ws
  pub live : L < o.masks
  pub some : 1 ≤ rank_of (sum_in o (words_of ws)) o.masks
  pub few_rows : rank_of (sum_in o (words_of ws)) o.masks ≤ o.contents
  pub from : a + slot_words o.contents o.cells ≤ o.plan
  pub apart : (a + slot_words o.contents o.cells ≤ o.slot) ⊎ (o.slot + slot_words o.contents o.cells ≤ a)
  pub long : s.width ≤ s.length
  pub wide : s.width < o.cells
  pub masks : a + 4 ≤ s.masks
  pub masks_end : s.masks + s.count ≤ a + slot_words o.contents o.cells
  pub rows : a + 4 ≤ s.rows
  pub rows_end : s.rows + s.count * s.length ≤ a + slot_words o.contents o.cells
  pub stage : o.numbers + o.masks ≤ e
  pub lose : s.lose ≡ e + 2 * (o.cells + 1)
  pub keep : s.keep ≡ e + 3 * (o.cells + 1)
  pub all : s.all ≡ e + 4 * (o.cells + 1)
  pub rest : s.rest ≡ e + 5 * (o.cells + 1)
  pub inside : e + 6 * (o.cells + 1) ≤ length ws
  pub width : suc (words_of ws (width_at a)) < 2 ^ 64
  pub ways : (k : ℕ) → k < s.count → size (risk x (mask_in s (words_of ws) k)) ≤ N
  pub fits : 33 * sum_to s.count (λ k. sum_to s.width (λ j. words_of ws (start_at s k + j))) + sum_to s.width (λ j. words_of ws (s.rest + j)) < 2 ^ 64

-- they are, one after the other: r rows
pub record Delivered (N : ℕ) (x : Target) (L : ℕ) (s : Sender) (o : Opening) (a e r : ℕ) (xs ys : List ℕ) : Type 0 where
  pub opened : List ℕ
  pub moved : List ℕ
  pub headed : List ℕ
  pub opens : Opened o r xs opened
  pub moves : Leaves (plus (λ w i. sum_to s.count (comes_from N x L (receiver_of o r) s w i) + rest_comes x L (receiver_of o r) s w i)) opened moved
  pub heads : HeaderSent a o.slot r moved headed
  pub groups : Grouped N o.cells e x (a + 4 + 2 * o.contents) (a + 4 + 2 * o.contents + o.cells) s.width headed ys
