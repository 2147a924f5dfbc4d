-- A table in its place: an access of it can be worked and fits, and each access starts from what the one before it left. What is the same for every kind of table is in
-- tables/proofs/Settling.
use Rattle.std.specs.Prelude.{None, Some}
use mathlib.Core.Path.{◌≡◌, refl, sym, ◌∙◌}
use mathlib.Core.Bool.{true}
use mathlib.Core.List.{List, [], ◌∷◌}
use Prim.Native.Nat.{ℕ, suc, ◌≤◌, ◌<◌}
use native.Mathlib.Omega.{arith}
use lib.ListN.{length, take, drop, get_or}
use Rattle.rules.specs.declared.BestState.{BestState}
use Rattle.rules.specs.declared.Target.{Target}
use Rattle.rules.specs.Units.{whole, more}
use Rattle.rules.specs.Contents.{among, target_of}
use Rattle.rules.specs.Refusals.{set_counts}
use Rattle.rules.specs.AnyTable.{advance as advance_any}
use Rattle.rules.specs.Best.{listing, kind}
use Rattle.rules.specs.Shape.{Every, Present, Aimed, Listed, BestLoose}
use Rattle.rules.proofs.Refusals.{counts_some, counts_few}
use Rattle.rules.proofs.Sets.{aimed}
use Rattle.rules.proofs.Best.{risk_room}
use Rattle.words.specs.BestTables.{table_of}
use Rattle.words.proofs.BestTables.{fits_table}
use Rattle.best.specs.Tables.{rising, units_of, Work, work_of, access, folded, join, advance, run}
use Rattle.best.specs.Rooms.{InScratch, InPlace}
use Rattle.best.specs.Following.{Workable}
use Rattle.best.specs.Working.{work_at, Table, InRange, Ready}
use Rattle.best.proofs.Laws.{rising_is, rising_join, length_join, rising_access, access_length, none_aside, run_last, table_advance, table_wider}
use Rattle.tables.proofs.Settling.{unit_most, settled_from, stands_there, ran_all, Ran as RanAny, ran_next as ran_next_any}

-- ---- an access of a table at a place

module _ (N Z : ℕ) (ts : List ℕ) (few : N ≤ 16) (x : Target) (aim : Aimed Z ts x) where
  workables : (M : ℕ) (T : List BestState) → M ≤ 4095 → Every (Present listing (BestLoose N Z ts M)) T → Every (λ s. units_of s ≤ whole) T → Every (Workable N x) T
  workables M [] l h u = tt
  workables M (s ∷ T) l h u =
      ((omega (arith, h.0.0.few), omega (arith, h.0.0.few), u.0, risk_room N Z ts few x aim s.mask h.0.0.small), workables M T l h.1 u.1)

  pub workable : (K M : ℕ) (T : List BestState) → M ≤ 4095 → Table N Z ts K M T → Every (Workable N x) T
  workable K M T l t = workables M T l t.shaped (unit_most listing T whole (rw t.full (omega arith)))

  pub placed : length ts ≤ 16 → Listed 16 x.place
  placed short i p = omega (arith, short, aim.placed i p)

-- what is found out about a block is what an access to it is after
pub aimed_so : (Z : ℕ) (ts : List ℕ) → among set_counts Z ≡ true → (b : ℕ) (x : Target) → x ≡ target_of Z ts None b → Aimed Z ts x
aimed_so Z ts known b x e = rw e (aimed Z ts (counts_some Z known) (counts_few Z known) None b)

-- what is gathered can be settled
pub gathered_fits : (Z N : ℕ) (ts : List ℕ) (K M : ℕ) (x : Target) (T : List BestState) (r : ℕ) (T₀ T₁ : List BestState) → InRange Z N ts K → Aimed Z ts x
    → Table N Z ts K M T → InScratch (access N x T) r T₀ T₁ → (r ≤ 1088) × (rising (take r (drop 4096 T₁)) ≡ true)
gathered_fits Z N ts K M x T r T₀ T₁ ranges aim t g = (
  omega (arith, g.count, access_length N Z ts K M x T ranges.some_ways ranges.few_ways aim t, ranges.few_states),
  rw g.table (rising_is (access N x T) (rising_access N x T)),
)

pub joined_fits : (S T : List BestState) (r : ℕ) (T₀ T₁ : List BestState) → length S ≤ 64 → length T ≤ 64
    → InScratch (join S T) r T₀ T₁ → (r ≤ 1088) × (rising (take r (drop 4096 T₁)) ≡ true)
joined_fits S T r T₀ T₁ l m g = (omega (arith, g.count, length_join S T), rw g.table (rising_is (join S T) (rising_join S T)))

pub advanced : (N K : ℕ) (x y : Target) (X : List BestState) (at r m : ℕ) (T T₁ T₂ : List BestState) → x ≡ y → at ≤ 4096 → InScratch (access N x X) r T T₁
    → InPlace (folded K (work_of (take r (drop 4096 T₁)))) at m T₁ T₂ → InPlace (advance N K y (work_of X)) at m T T₂
unfolding advance_any more
advanced N K x y X at r m T T₁ T₂ p low g h = rw (← p) (settled_from kind K _ _ _ _ at m _ T T₁ T₂ g.table (rw (none_aside X) refl) low g.slots h)

-- ---- accesses one after the other

-- as far as access i, from w; the last block changes nothing
module _ (N Z K : ℕ) (ts bs : List ℕ) where
  abbrev pub Ran : ℕ → Work → Work → Type 0
  Ran i v w = RanAny kind N Z K ts bs i None v None w

  pub ran_next : (i : ℕ) (v w : Work) (b : ℕ) → i < length bs → b ≡ get_or bs i 0 → Ran i v w → Ran (suc i) (advance N K (target_of Z ts None b) v) w
  ran_next i v w b here e h =
      sym (run_last N Z K ts (Some b) (drop (suc i) bs) (advance N K (target_of Z ts None b) v)) ∙ ran_next_any kind N Z K ts bs i None v None w b here e h

-- a table that can be worked on still can where more hits and misses are allowed, and after an access
pub ready_wider : (Z N : ℕ) (ts : List ℕ) (K M L at n : ℕ) (ws : List ℕ) → M ≤ L → Ready Z N ts K M at n ws → Ready Z N ts K L at n ws
ready_wider Z N ts K M L at n ws l r =
    record {
      ranges = r.ranges;
      room = r.room;
      slot = r.slot;
      count = r.count;
      table = table_wider N Z ts r.ranges.few_ways K M L (work_at at n ws).table l r.table;
    }

pub ready_next : (Z N : ℕ) (ts : List ℕ) (K L M at n n' : ℕ) (b : ℕ) (ws ws' : List ℕ) → suc L ≤ M → length ws' ≡ length ws → Ready Z N ts K L at n ws
    → InPlace (advance N K (target_of Z ts None b) (work_at at n ws)) at n' (table_of ws) (table_of ws') → Ready Z N ts K M at n' ws'
ready_next Z N ts K L M at n n' b ws ws' l e r g =
    record {
      ranges = r.ranges;
      room = rw e r.room;
      slot = r.slot;
      count = omega (arith, g.stands.count, t.short, r.ranges.few_states);
      table = rw g.stands.table t;
    }
  where
    t : Table N Z ts K M (advance N K (target_of Z ts None b) (work_at at n ws)).table
    t =
        table_wider N Z ts r.ranges.few_ways K (suc L) M _ l
        (table_advance N Z ts r.ranges.few_ways K r.ranges.some_ways r.ranges.some_states L (target_of Z ts None b) (work_at at n ws)
        (aimed_so Z ts r.ranges.known_sets b _ refl)
        r.table)

-- when no access is to come, the table stands where it is to
pub ran_stands : (Z N : ℕ) (ts : List ℕ) (K M at n i : ℕ) (bs ws : List ℕ) (w : Work) (T : List BestState) → length bs ≤ i → Ready Z N ts K M at n ws
    → take at (table_of ws) ≡ take at T → Ran N Z K ts bs i (work_at at n ws) w → InPlace (run N Z K ts None bs w) at n T (table_of ws)
ran_stands Z N ts K M at n i bs ws w T past r e h =
    rw (← ran_all kind N Z K ts bs i None (work_at at n ws) None w past h)
    (stands_there at n 0 _ (table_of ws) (omega (arith, r.slot, r.count, fits_table ws 5184 r.room)) e)
