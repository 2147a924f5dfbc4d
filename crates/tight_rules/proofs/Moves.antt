-- States that move to weaker ones: what a table is worth does not fall, to a weight that rises, and grows by no more than the units that changed, each at most B.
-- Reduction, row ends and filled numbers are such moves; so are dead blocks that leave, and to a weight deaf to them they add nothing at all. Lost units count B each,
-- which is no less than any state's.
use mathlib.Core.Path.{◌≡◌, refl, sym, ap, ◌∙◌}
use mathlib.Core.Logic.{◌⊎◌, inl, inr, ⊎_elim, ◌≢◌}
use mathlib.Core.Bool.{Bool, true, false, cond}
use mathlib.Core.List.{List, [], ◌∷◌, map}
use Prim.Native.Nat.{ℕ, ◌+◌, ◌*◌, ◌≤◌}
use native.Mathlib.Nat.{le_refl, le_trans, le_of_eq, le-max_left, max-le, min-le_left, mul-le-mul_left}
use native.Mathlib.Omega.{arith}
use lib.Dec.{eqb, ltb, leb}
use lib.ListN.{length}
use borrow.Author.Tests.{eqb-true}
use Rattle.basics.specs.Sums.{sum_over}
use Rattle.rules.specs.declared.State.{State}
use Rattle.rules.specs.declared.Filled.{Filled}
use Rattle.rules.specs.Units.{whole, more}
use Rattle.rules.specs.AnyTable.{total as total_of}
use Rattle.rules.specs.Table.{units_of, listing, total, Work}
use Rattle.rules.specs.Fold.{changed}
use Rattle.rules.specs.Filling.{filled_at, fullest}
use Rattle.rules.specs.Counts.{above as above_of}
use Rattle.rules.specs.Questions.{above, smallest_budget}
use Rattle.rules.specs.Shape.{Every, Room, Loose, Shaped}
use Rattle.rules.specs.Contents.{shared, Place}
use Rattle.rules.proofs.Lists.{every_map}
use Rattle.rules.proofs.Splitting.{more_stops, more_cases}
use Rattle.rules.proofs.Contents.{sub_shared_left, shared_lt}
use Rattle.rules.proofs.Filling.{none_at, fullest_at, fewer_left}
use Rattle.rules.proofs.Questions.{smallest_most}
use Rattle.rules.proofs.Longest.{shaped_largest}
use Rattle.rules.proofs.Listings.{shaped_plus}
use Rattle.rules.proofs.Table.{states_lawful, Weight, weight_of, worth_of, worth, worth_add, total_add, every_add}
use Rattle.promises.proofs.Value.{Rises}
use Rattle.promises.proofs.Weaker.{Weaker, weaker_low, changed_high}
use Rattle.tight_rules.specs.Rows.{Rows, move, moved, narrow, narrowed, filled_for, even_by, even, evened}
use Rattle.tight_rules.specs.Join.{filled_to, filled_of, filled_up}
use Rattle.tight_rules.specs.Reduction.{relabel, reduced}
use Rattle.tight_rules.specs.Ends.{up_to, cut, raise, raised, highest, lowest, ends}
use Rattle.tight_rules.proofs.Dead.{Deaf, room_part}
use Rattle.tight_rules.proofs.Parts.{Part, part_same, reduced_keeps}

-- ---- the moves

module _ (N Z : ℕ) (ts : List ℕ) (M : ℕ) where
  -- h weakens each state of T that is in shape, keeps it in shape, and keeps its units
  pub record Weakens (h : State → State) : Type 0 where
    pub weaker : (s : State) → Weaker s (h s)
    pub shaped : (s : State) → Loose N Z ts M s → Loose N Z ts M (h s)
    pub units : (s : State) → units_of (h s) ≡ units_of s

  pub narrow_weakens : (L : ℕ) → Weakens (narrow L)
  narrow_weakens L =
      record {
        weaker = λ s. record { fewer = sub_shared_left s.mask L; later = le_refl s.misses; fuller = λ j. le_refl _ };
        shaped = λ s h. record {
          masked = shared_lt (length ts) s.mask L h.masked;
          few = h.few;
          small = room_part N Z ts (shared s.mask L) s.mask s.filled (sub_shared_left s.mask L) h.small;
        };
        units = λ s. refl;
      }

  pub relabel_weakens : (y : Place) (C D : ℕ) → Part y D C → Weakens (relabel C D)
  relabel_weakens y C D p =
      record {
        weaker = λ s. record { fewer = (part s).inside; later = le_refl s.misses; fuller = λ j. le_refl _ };
        shaped = λ s h. record {
          masked = (part s).short (length ts) h.masked;
          few = h.few;
          small = room_part N Z ts (relabel C D s).mask s.mask s.filled (part s).inside h.small;
        };
        units = λ s. refl;
      }
    where
      part : (s : State) → Part y (cond (eqb s.mask C) D s.mask) s.mask
      part s = go (eqb s.mask C) refl
        where
          go : (b : Bool) → eqb s.mask C ≡ b → Part y (cond b D s.mask) s.mask
          go true e = rw (eqb-true s.mask C e) p
          go false e = part_same y s.mask

  pub raise_weakens : (B : ℕ) → B ≤ M → Weakens (raise B)
  raise_weakens B l =
      record {
        weaker = λ s. record { fewer = λ i h. h; later = le-max_left s.misses B; fuller = λ j. le_refl _ };
        shaped = λ s h. record { masked = h.masked; few = max-le h.few l; small = h.small };
        units = λ s. refl;
      }

  -- no number of a miss count is larger than N
  filled_for_most : (m : ℕ) (T : List State) → Every (Shaped N Z ts M) T → (j : ℕ) → filled_at (filled_for m T) j ≤ N
  unfolding filled_for
  filled_for_most m [] h j = rw (none_at j) (omega arith)
  filled_for_most m (s ∷ T) h j = go (eqb s.misses m) (filled_for_most m T h.1 j)
    where
      go : (b : Bool) → filled_at (filled_for m T) j ≤ N → filled_at (cond b (fullest s.filled (filled_for m T)) (filled_for m T)) j ≤ N
      go true l = rw (fullest_at s.filled (filled_for m T) j) (max-le (h.0.0.small j).1 l)
      go false l = l

  -- at least the numbers of G, which are no more than the ways
  pub even_by_weakens : (G : ℕ → Filled) → ((m j : ℕ) → filled_at (G m) j ≤ N) → Weakens (even_by G)
  even_by_weakens G most =
      record {
        weaker = λ s. record { fewer = λ i h. h; later = le_refl s.misses; fuller = fewer_left s.filled (G s.misses) };
        shaped = λ s h. record {
          masked = h.masked;
          few = h.few;
          small = λ j. (
            le_trans (h.small j).0 (fewer_left s.filled (G s.misses) j),
            rw (fullest_at s.filled (G s.misses) j) (max-le (h.small j).1 (most s.misses j)),
          );
        };
        units = λ s. refl;
      }

  even_weakens : (T : List State) → Every (Shaped N Z ts M) T → Weakens (even T)
  even_weakens T all = even_by_weakens (λ m. filled_for m T) (λ m j. filled_for_most m T all j)

  filled_to_most : (m : ℕ) (T : List State) → Every (Shaped N Z ts M) T → (j : ℕ) → filled_at (filled_to m T) j ≤ N
  unfolding filled_to
  filled_to_most m [] h j = rw (none_at j) (omega arith)
  filled_to_most m (s ∷ T) h j = go (leb s.misses m) (filled_to_most m T h.1 j)
    where
      go : (b : Bool) → filled_at (filled_to m T) j ≤ N → filled_at (cond b (fullest s.filled (filled_to m T)) (filled_to m T)) j ≤ N
      go true l = rw (fullest_at s.filled (filled_to m T) j) (max-le (h.0.0.small j).1 l)
      go false l = l

  -- no more than the ways are filled in two tables
  pub filled_of_most : (S T : List State) → Every (Shaped N Z ts M) S → Every (Shaped N Z ts M) T → (m j : ℕ) → filled_at (filled_of S T m) j ≤ N
  filled_of_most S T a b m j = rw (fullest_at (filled_to m S) (filled_to m T) j) (max-le (filled_to_most m S a j) (filled_to_most m T b j))

  module _ (h : State → State) (w : Weakens h) where
    total_map : (T : List State) → total (map h T) ≡ total T
    unfolding total_of
    total_map [] = refl
    total_map (s ∷ T) = omega (arith, w.units s, total_map T)

    room_to_add : (T : List State) → total T ≤ whole → total (map h T) + total [] ≤ whole
    unfolding total_of
    room_to_add T full = omega (arith, total_map T)

    pub move_total : (T : List State) → total T ≤ whole → total (move h T) ≡ total T
    unfolding move total_of
    move_total T full = total_add (map h T) [] (room_to_add T full) ∙ omega (arith, total_map T)

    pub move_shaped : (T : List State) → Every (Shaped N Z ts M) T → Every (Shaped N Z ts M) (move h T)
    unfolding move
    move_shaped T all =
        every_add (Shaped N Z ts M) (shaped_plus listing states_lawful (Loose N Z ts M) (λ s u l. record { masked = l.masked; few = l.few; small = l.small })) (map h T) []
        (every_map (Shaped N Z ts M) (λ s. units_of s ≢ 0 → Shaped N Z ts M s) h (λ s p n. (w.shaped s p.0, le_trans p.1 (le_of_eq (sym (w.units s))))) T all) tt

    move_worth : (f : Weight) (T : List State) → total T ≤ whole → worth f (move h T) ≡ sum_over (λ s. units_of s * weight_of f (h s)) T
    unfolding move
    move_worth f T full = worth_add f (map h T) [] (room_to_add T full) ∙ omega (arith, each T)
      where
        each : (T : List State) → worth f (map h T) ≡ sum_over (λ s. units_of s * weight_of f (h s)) T
        each [] = refl
        each (s ∷ T) = omega (arith, ap (λ (u : ℕ). u * weight_of f (h s)) (w.units s), each T)

    pub move_low : (f : Weight) → Rises N Z ts f → (T : List State) → Every (Shaped N Z ts M) T → total T ≤ whole → worth f T ≤ worth f (move h T)
    move_low f rises T all full = rw (move_worth f T full) (each T all)
      where
        each : (T : List State) → Every (Shaped N Z ts M) T → worth f T ≤ sum_over (λ s. units_of s * weight_of f (h s)) T
        each [] all = omega arith
        each (s ∷ T) all = omega (arith, weaker_low N Z ts f rises s (h s) (w.weaker s) all.0.0.small, each T all.1)

    pub move_high : (f : Weight) (B : ℕ) → ((C m : ℕ) (F : Filled) → Room N Z ts C F → f C m F ≤ B) → (T : List State) → Every (Shaped N Z ts M) T → total T ≤ whole
        → worth f (move h T) ≤ worth f T + sum_over (λ s. changed s (h s)) T * B
    move_high f B most T all full = rw (move_worth f T full) (each T all)
      where
        each : (T : List State) → Every (Shaped N Z ts M) T → sum_over (λ s. units_of s * weight_of f (h s)) T ≤ worth f T + sum_over (λ s. changed s (h s)) T * B
        each [] all = omega arith
        each (s ∷ T) all =
            omega (arith, changed_high f B s (h s) (most _ _ _ (w.shaped s all.0.0).small), each T all.1)

  -- to a weight that is deaf to the blocks that are not in L
  pub narrow_high : (L : ℕ) (f : Weight) → Deaf N Z ts L f → (T : List State) → Every (Shaped N Z ts M) T → total T ≤ whole → worth f (move (narrow L) T) ≤ worth f T
  narrow_high L f deaf T all full = rw (move_worth (narrow L) (narrow_weakens L) f T full) (each T all)
    where
      each : (T : List State) → Every (Shaped N Z ts M) T → sum_over (λ s. units_of s * weight_of f (narrow L s)) T ≤ worth f T
      each [] all = omega arith
      each (s ∷ T) all = omega (arith, mul-le-mul_left (units_of s) (deaf s.mask s.misses s.filled all.0.0.small), each T all.1)

-- ---- from rows to rows, to one weight

-- a table in shape, whose units and lost units total WHOLE
pub record Fit (N Z : ℕ) (ts : List ℕ) (M : ℕ) (r : Rows) : Type 0 where
  pub shaped : Every (Shaped N Z ts M) r.kept.table
  pub full : total r.kept.table + r.lost ≡ whole

-- what rows are worth, each lost unit B
abbrev pub worth_of_all : Weight → ℕ → Rows → ℕ
worth_of_all f B r = worth f r.kept.table + r.lost * B

-- a weight that rises and is at most B
pub record Good (N Z : ℕ) (ts : List ℕ) (f : Weight) (B : ℕ) : Type 0 where
  pub rises : Rises N Z ts f
  pub most : (C m : ℕ) (F : Filled) → Room N Z ts C F → f C m F ≤ B

module _ (N Z : ℕ) (ts : List ℕ) (M : ℕ) (f : Weight) (B : ℕ) (good : Good N Z ts f B) (L : ℕ) where
  abbrev all : Rows → ℕ
  all r = worth_of_all f B r

  -- r is in shape, worth no less than q, and no more than what is set aside makes up for, unless the count has stopped, which it does for good
  pub record Sure (q r : Rows) : Type 0 where
    pub fit : Fit N Z ts M r
    pub low : all q ≤ all r
    pub high : Deaf N Z ts L f → (r.kept.aside ≡ whole) ⊎ (all r + q.kept.aside * B ≤ all q + r.kept.aside * B)
    pub stopped : q.kept.aside ≡ whole → r.kept.aside ≡ whole

  pub sure_same : (q : Rows) → Fit N Z ts M q → Sure q q
  sure_same q fit = record { fit = fit; low = le_refl _; high = λ deaf. inr (le_refl _); stopped = λ e. e }

  pub sure_onward : (p q r : Rows) → Sure p q → Sure q r → Sure p r
  sure_onward p q r a b =
      record {
        fit = b.fit;
        low = le_trans a.low b.low;
        high = λ deaf. both (a.high deaf) (b.high deaf);
        stopped = λ e. b.stopped (a.stopped e);
      }
    where
      both : (q.kept.aside ≡ whole) ⊎ (all q + p.kept.aside * B ≤ all p + q.kept.aside * B)
          → (r.kept.aside ≡ whole) ⊎ (all r + q.kept.aside * B ≤ all q + r.kept.aside * B)
          → (r.kept.aside ≡ whole) ⊎ (all r + p.kept.aside * B ≤ all p + r.kept.aside * B)
      both (inl e) y = inl (b.stopped e)
      both (inr x) (inl e) = inl e
      both (inr x) (inr y) = inr (omega arith)

  abbrev rows : Work → ℕ → Rows
  rows w l = record { kept = w; lost = l }

  fits : (w : Work) (l : ℕ) → Fit N Z ts M (rows w l) → total w.table ≤ whole
  fits w l fit = omega (arith, fit.full)

  -- a count with n more, of which each counts for at most B
  counted : (a n x y : ℕ) → y ≤ x + n * B → (more a n ≡ whole) ⊎ (y + a * B ≤ x + more a n * B)
  counted a n x y l = ⊎_elim (λ e. inl e) (λ e. inr (rw e (omega arith))) (more_cases a n)

  pub sure_moved : (h : State → State) → Weakens N Z ts M h → (w : Work) (l : ℕ) → Fit N Z ts M (rows w l) → Sure (rows w l) (rows (moved h w) l)
  unfolding moved
  sure_moved h k w l fit =
      record {
        fit = record {
          shaped = move_shaped N Z ts M h k w.table fit.shaped;
          full = ap (◌+ l) (move_total N Z ts M h k w.table (fits w l fit)) ∙ fit.full;
        };
        low = omega (arith, move_low N Z ts M h k f good.rises w.table fit.shaped (fits w l fit));
        high = λ deaf. counted w.aside (sum_over (λ s. changed s (h s)) w.table) (all (rows w l)) (worth f (move h w.table) + l * B)
            (omega (arith, move_high N Z ts M h k f B good.most w.table fit.shaped (fits w l fit)));
        stopped = λ e. more_stops w.aside (sum_over (λ s. changed s (h s)) w.table) (omega arith);
      }

  pub sure_narrowed : (w : Work) (l : ℕ) → Fit N Z ts M (rows w l) → Sure (rows w l) (rows (narrowed L w) l)
  unfolding narrowed
  sure_narrowed w l fit =
      record {
        fit = record {
          shaped = move_shaped N Z ts M (narrow L) (narrow_weakens N Z ts M L) w.table fit.shaped;
          full = ap (◌+ l) (move_total N Z ts M (narrow L) (narrow_weakens N Z ts M L) w.table (fits w l fit)) ∙ fit.full;
        };
        low = omega (arith, move_low N Z ts M (narrow L) (narrow_weakens N Z ts M L) f good.rises w.table fit.shaped (fits w l fit));
        high = λ deaf. inr (omega (arith, narrow_high N Z ts M L f deaf w.table fit.shaped (fits w l fit)));
        stopped = λ e. e;
      }

  pub sure_reduced : (K k : ℕ) (y : Place) (w : Work) (l : ℕ) → Fit N Z ts M (rows w l) → Sure (rows w l) (rows (reduced K k y w) l)
  sure_reduced K k y w l fit =
      reduced_keeps (λ v. Sure (rows w l) (rows v l)) y
      (λ C D v p h. sure_onward (rows w l) (rows v l) (rows (moved (relabel C D) v) l) h (sure_moved (relabel C D) (relabel_weakens N Z ts M y C D p) v l h.fit))
      K k w (sure_same (rows w l) fit)

  pub sure_evened : (w : Work) (l : ℕ) → Fit N Z ts M (rows w l) → Sure (rows w l) (rows (evened w) l)
  unfolding evened
  sure_evened w l fit = sure_moved (even w.table) (even_weakens N Z ts M w.table fit.shaped) w l fit

  -- fuller rows are in shape and worth no less
  pub filled_up_fit : (G : ℕ → Filled) → ((m j : ℕ) → filled_at (G m) j ≤ N) → (w : Work) (l : ℕ) → Fit N Z ts M (rows w l)
      → Fit N Z ts M (rows (filled_up G w) l) × (all (rows w l) ≤ all (rows (filled_up G w) l))
  unfolding filled_up
  filled_up_fit G most w l fit =
      let k = even_by_weakens N Z ts M G most in (
        record {
          shaped = move_shaped N Z ts M (even_by G) k w.table fit.shaped;
          full = ap (◌+ l) (move_total N Z ts M (even_by G) k w.table (fits w l fit)) ∙ fit.full;
        },
        omega (arith, move_low N Z ts M (even_by G) k f good.rises w.table fit.shaped (fits w l fit)),
      )

  -- ---- row ends

  -- what stays and what is cut off
  cut_units : (H : ℕ) (T : List State) → total (up_to H T) + above H T ≡ total T
  unfolding total_of above_of
  cut_units H [] = refl
  cut_units H (s ∷ T) = go (ltb H s.misses) (cut_units H T)
    where
      go : (b : Bool) → total (up_to H T) + above H T ≡ total T
          → total (cond b (up_to H T) (s ∷ up_to H T)) + (cond b (units_of s) 0 + above H T) ≡ units_of s + total T
      go true e = omega arith
      go false e = omega arith

  cut_shaped : (H : ℕ) (T : List State) → Every (Shaped N Z ts M) T → Every (Shaped N Z ts M) (up_to H T)
  cut_shaped H [] h = tt
  cut_shaped H (s ∷ T) h = go (ltb H s.misses) (cut_shaped H T h.1)
    where
      go : (b : Bool) → Every (Shaped N Z ts M) (up_to H T) → Every (Shaped N Z ts M) (cond b (up_to H T) (s ∷ up_to H T))
      go true r = r
      go false r = (h.0, r)

  cut_worth : (H : ℕ) (T : List State) → Every (Shaped N Z ts M) T
      → (worth f T ≤ worth f (up_to H T) + above H T * B) × (worth f (up_to H T) ≤ worth f T)
  unfolding above_of
  cut_worth H [] h = (omega arith, omega arith)
  cut_worth H (s ∷ T) h = go (ltb H s.misses) (cut_worth H T h.1)
    where
      one : units_of s * weight_of f s ≤ units_of s * B
      one = mul-le-mul_left (units_of s) (good.most s.mask s.misses s.filled h.0.0.small)

      go : (b : Bool) → (worth f T ≤ worth f (up_to H T) + above H T * B) × (worth f (up_to H T) ≤ worth f T)
          → (worth_of f s + worth f T ≤ worth f (cond b (up_to H T) (s ∷ up_to H T)) + (cond b (units_of s) 0 + above H T) * B)
          × (worth f (cond b (up_to H T) (s ∷ up_to H T)) ≤ worth_of f s + worth f T)
      go true (p, q) = (omega (arith, one), omega arith)
      go false (p, q) = (omega arith, omega arith)

  sure_cut : (H : ℕ) (r : Rows) → Fit N Z ts M r → Sure r (cut H r)
  unfolding cut
  sure_cut H r fit =
      let T = r.kept.table in
      let (p, q) = cut_worth H T fit.shaped in
      record {
        fit = record { shaped = cut_shaped H T fit.shaped; full = omega (arith, cut_units H T, fit.full) };
        low = omega (arith, p);
        high = λ deaf. counted r.kept.aside (above H T) (all r) (worth f (up_to H T) + (r.lost + above H T) * B) (omega (arith, q));
        stopped = λ e. more_stops r.kept.aside (above H T) (omega arith);
      }

  pub sure_ends : (W : ℕ) (r : Rows) → Fit N Z ts M r → Sure r (ends W r)
  unfolding ends raised highest lowest
  sure_ends W r fit =
      let T = r.kept.table in
      let H = smallest_budget 4096 T in
      let c = sure_cut H r fit in
      sure_onward r (cut H r) _ c
      (sure_moved (raise _) (raise_weakens N Z ts M _ (le_trans (min-le_left H _) (le_trans (smallest_most 4096 T) (shaped_largest N Z ts M T fit.shaped))))
      (cut H r).kept (cut H r).lost c.fit)
