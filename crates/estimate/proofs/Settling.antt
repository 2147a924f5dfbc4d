-- A table in its place: an access of it can be worked and fits, and each access starts from what the one before it left. What is the same for every kind of table is in
-- tables/proofs/Settling.
use mathlib.Core.Path.{◌≡◌, refl}
use mathlib.Core.Bool.{true}
use mathlib.Core.List.{List, [], ◌∷◌}
use Prim.Native.Nat.{ℕ, suc, ◌≤◌}
use native.Mathlib.Omega.{arith}
use lib.ListN.{length, take, drop}
use lib.Pow.{pow_mono}
use Rattle.rules.specs.declared.Cache.{Cache}
use Rattle.rules.specs.declared.Target.{Target}
use Rattle.rules.specs.declared.State.{State}
use Rattle.rules.specs.Units.{whole, more}
use Rattle.rules.specs.Contents.{among, target_of, Last}
use Rattle.rules.specs.Refusals.{set_counts}
use Rattle.rules.specs.AnyTable.{advance as advance_any}
use Rattle.rules.specs.Table.{rising, units_of, Work, listing}
use Rattle.rules.specs.Shape.{Every, Aimed, Shaped, Table}
use Rattle.rules.specs.Step.{access, access_aside}
use Rattle.rules.specs.Fold.{folded, states}
use Rattle.rules.specs.Run.{advance, run}
use Rattle.rules.proofs.Table.{rising_is}
use Rattle.rules.proofs.Run.{rising_access, access_length, table_advance, table_wider, advance_aside}
use Rattle.rules.proofs.Refusals.{counts_some, counts_few}
use Rattle.rules.proofs.Sets.{aimed, room_risk}
use Rattle.words.specs.Tables.{table_of}
use Rattle.estimate.specs.Rooms.{InScratch, InPlace}
use Rattle.estimate.specs.Following.{Placed, Workable}
use Rattle.estimate.specs.Working.{work_at, InRange, Ready}
use Rattle.words.proofs.Tables.{fits_table}
use Rattle.tables.proofs.Settling.{unit_most, settled_from, stands_there, ran_all, Ran}

-- ---- an access of a table at a place

module _ (N Z : ℕ) (ts : List ℕ) (few : N ≤ 16) (short : length ts ≤ 16) (x : Target) (aim : Aimed Z ts x) where
  workables : (M : ℕ) (T : List State) → M ≤ 4095 → Every (Shaped N Z ts M) T → Every (λ s. units_of s ≤ whole) T → Every (Workable N x) T
  workables M [] l h u = tt
  workables M (s ∷ T) l h u =
      ((omega (arith, h.0.0.few), u.0, room_risk N Z ts few x aim s.mask s.filled h.0.0.small, omega (arith, h.0.0.masked, pow_mono short)), workables M T l h.1 u.1)

  pub workable : (K M : ℕ) (T : List State) → M ≤ 4095 → Table N Z ts K M T → Every (Workable N x) T
  workable K M T l t = workables M T l t.shaped (unit_most listing T whole (rw t.full (omega arith)))

  pub placed : Placed x
  placed = (λ i p. omega (arith, short, aim.placed i p), aim.near)

-- what is found out about a block is what an access to it is after
pub aimed_so : (Z : ℕ) (ts : List ℕ) → among set_counts Z ≡ true → (l : Last) (b : ℕ) (x : Target) → x ≡ target_of Z ts l b → Aimed Z ts x
aimed_so Z ts known l b x e = rw e (aimed Z ts (counts_some Z known) (counts_few Z known) l b)

-- what is gathered can be settled
pub gathered_fits : (c : Cache) (ts : List ℕ) (K M : ℕ) (x : Target) (T : List State) (r : ℕ) (T₀ T₁ : List State) → InRange c ts K → Aimed c.sets ts x
    → Table c.ways c.sets ts K M T → InScratch (access c.ways x T) r T₀ T₁ → (r ≤ 1088) × (rising (take r (drop 4096 T₁)) ≡ true)
gathered_fits c ts K M x T r T₀ T₁ ranges aim t g = (
  omega (arith, g.count, access_length c.ways c.sets ts K M x T ranges.few_ways aim t, ranges.few_states),
  rw g.table (rising_is (access c.ways x T) (rising_access c.ways c.sets ts K ranges.some_ways ranges.few_ways ranges.some_states x T)),
)

pub advanced : (N K : ℕ) (x y : Target) (w : Work) (at r a m b : ℕ) (T T₁ T₂ : List State) → x ≡ y → at ≤ 4096 → InScratch (access N x w.table) r T T₁
    → a ≡ more w.aside (access_aside N x w.table)
    → InPlace (folded K (record { table = take r (drop 4096 T₁); aside = a })) at m b T₁ T₂ → InPlace (advance N K y w) at m b T T₂
unfolding advance_any
advanced N K x y w at r a m b T T₁ T₂ p low g q h = rw (← p) (settled_from states K _ _ _ _ at m b T T₁ T₂ g.table q low g.slots h)

-- ---- accesses one after the other

-- a table that can be worked on still can where more misses are allowed, and after an access
pub ready_wider : (c : Cache) (ts : List ℕ) (K M L at n a : ℕ) (ws : List ℕ) → M ≤ L → Ready c ts K M at n a ws → Ready c ts K L at n a ws
ready_wider c ts K M L at n a ws l r =
    record {
      ranges = r.ranges;
      room = r.room;
      slot = r.slot;
      count = r.count;
      aside = r.aside;
      table = table_wider c.ways c.sets ts K M L (work_at at n a ws).table l r.table;
    }

pub ready_next : (c : Cache) (ts : List ℕ) (K L M at n a n' a' : ℕ) (k : Last) (b : ℕ) (ws ws' : List ℕ) → suc L ≤ M → length ws' ≡ length ws → Ready c ts K L at n a ws
    → InPlace (advance c.ways K (target_of c.sets ts k b) (work_at at n a ws)) at n' a' (table_of ws) (table_of ws') → Ready c ts K M at n' a' ws'
ready_next c ts K L M at n a n' a' k b ws ws' l e r g =
    record {
      ranges = r.ranges;
      room = rw e r.room;
      slot = r.slot;
      count = omega (arith, g.stands.count, t.short, r.ranges.few_states);
      aside = rw g.stands.aside (advance_aside c.ways K (target_of c.sets ts k b) (work_at at n a ws));
      table = rw g.stands.table t;
    }
  where
    t : Table c.ways c.sets ts K M (advance c.ways K (target_of c.sets ts k b) (work_at at n a ws)).table
    t =
        table_wider c.ways c.sets ts K (suc L) M _ l
        (table_advance c.ways c.sets ts K r.ranges.some_ways r.ranges.few_ways r.ranges.some_states L (target_of c.sets ts k b) (work_at at n a ws)
        (aimed_so c.sets ts r.ranges.known_sets k b _ refl)
        r.table)

-- when no access is to come, the table stands where it is to
pub ran_stands : (c : Cache) (ts : List ℕ) (K M at n a i : ℕ) (bs ws : List ℕ) (k l : Last) (w : Work) (T : List State) → length bs ≤ i → Ready c ts K M at n a ws
    → take at (table_of ws) ≡ take at T → Ran states c.ways c.sets K ts bs i k (work_at at n a ws) l w → InPlace (run c.ways c.sets K ts l bs w) at n a T (table_of ws)
ran_stands c ts K M at n a i bs ws k l w T past r e h =
    rw (← ran_all states c.ways c.sets K ts bs i k (work_at at n a ws) l w past h)
    (stands_there at n a _ (table_of ws) (omega (arith, r.slot, r.count, fits_table ws 5184 r.room)) e)
