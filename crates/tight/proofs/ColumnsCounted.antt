-- The units of each column that hit, and those that miss: row after row is added to one of two rows of the stage. What is read for a row is none of the words written. And the filled
-- numbers of both, column after column.
use mathlib.Core.Path.{◌≡◌, refl, sym, ap, ap₂, subst, ◌∙◌}
use mathlib.Core.Logic.{◌⊎◌, inl, inr, ⊎_elim, ◌≢◌}
use mathlib.Core.Bool.{true, false, not}
use mathlib.Core.List.{List}
use Prim.Native.Nat.{ℕ, suc, ◌+◌, ◌-◌, ◌*◌, ◌^◌, ◌≤◌, ◌<◌}
use native.Mathlib.Nat.{le_trans, le_refl}
use native.Mathlib.Numerals.{add-one}
use native.Mathlib.Omega.{arith}
use native.Mathlib.Decide.{ℕ_discrete}
use lib.Bits.{and_le_l}
use lib.ListN.{length}
use Rattle.basics.proofs.Sums.{sum_to, sum_eq, sum_le, part_most}
use Rattle.rules.specs.declared.Filled.{Filled}
use Rattle.rules.specs.declared.Target.{Target}
use Rattle.rules.specs.declared.State.{State}
use Rattle.rules.specs.Contents.{hits}
use Rattle.rules.specs.Filling.{fill_one}
use Rattle.rules.specs.Shape.{Listed}
use Rattle.states.specs.Step.{in_reach, fuller_in}
use Rattle.states.proofs.Steps.{fuller_so}
use Rattle.tight.specs.declared.Sender.{Sender}
use Rattle.tight_rows.specs.Room.{words_of, Leaves}
use Rattle.tight_rows.specs.Rows.{replaced, selected, with_row, Addable, if}
use Rattle.tight.specs.Sending.{start_at, mask_in}
use Rattle.tight_rows.specs.Grid.{filled_words}
use Rattle.tight_ends.specs.Stage.{stage_at}
use Rattle.tight.specs.Grouping.{missed_at, hit_of, miss_of, column_of, Counting, ColumnFits, Aside, RowCounted, CountedTo, UnitsStaged, group_put, Grouping, Grouped}
use Rattle.tight_rows.proofs.Writing.{as_before, written_at, four_long, four_beside, four_first, four_second, four_third, four_fourth, row_before}
use Rattle.tight_rows.proofs.Adding.{sum_part}
use Rattle.tight.proofs.CellsChosen.{chosen_part}

-- ---- one row

-- as the code adds it up
pub missed_place : (W e : ℕ) → e + W + 2 ≡ missed_at W e
missed_place W e = omega arith

module _ (W e : ℕ) (x : Target) (s : Sender) (k : ℕ) (l : k < s.count) (xs : List ℕ) (ok : Counting W e s xs) where
  abbrev from : ℕ
  from = start_at s k

  pub row_ends : from + s.length ≤ e
  row_ends = omega (arith, row_before s.length k s.count l, ok.rows)

  module _ (fits : (j : ℕ) → j < s.width → ColumnFits W e j (words_of xs (from + j)) xs) where
    addable : (to : ℕ) → e ≤ to → to + s.width ≤ s.all → ((j : ℕ) → j < s.width → words_of xs (to + j) + words_of xs (from + j) < 2 ^ 64) → Addable from s.all to s.width 1 xs
    addable to a b f =
        record {
          inside = omega (arith, row_ends, ok.wide, ok.behind, ok.all_end);
          chosen = ok.all_end;
          room = omega (arith, ok.all_end);
          apart = inr (omega (arith, row_ends, ok.wide));
          beside = inl b;
          fits = λ j h. omega (arith, f j h, and_le_l (words_of xs (from + j)) (words_of xs (s.all + j)));
        }

    pub hit_addable : Addable from s.all e s.width 1 xs
    hit_addable = addable e (le_refl e) (omega (arith, ok.narrow, ok.behind)) (λ j h. (fits j h).0)

    -- every cell is chosen
    whole_word : (j : ℕ) → j < s.width → selected (words_of xs) (from + j) (s.all + j) ≡ words_of xs (from + j)
    whole_word j h = rw (ok.all j h) (chosen_part true (words_of xs (from + j)) (omega (arith, (fits j h).0)))

    module _ (ys : List ℕ) where
      pub hit_counted : hits x (mask_in s (words_of xs) k) ≡ true → Leaves (λ w. replaced e s.width (with_row from s.all e 1 w) w) xs ys → RowCounted W e x s k xs ys
      hit_counted h new =
          record {
            long = new.long;
            hit = λ j i. written_at e (with_row from s.all e 1) s.width xs ys new (omega (arith, ok.narrow, ok.behind, ok.all_end)) j i ∙ rw h (omega (arith, whole_word j i));
            missed = λ j i. as_before e (with_row from s.all e 1) s.width xs ys new (missed_at W e + j) (omega (arith, ok.narrow, ok.behind, ok.all_end)) (inr (omega (arith, ok.narrow)))
                ∙ rw h (omega arith);
            beside = λ i m b. as_before e (with_row from s.all e 1) s.width xs ys new i m b.hit;
          }

      pub missed_counted : hits x (mask_in s (words_of xs) k) ≡ false → (to : ℕ) → to ≡ missed_at W e → Leaves (λ w. replaced to s.width (with_row from s.all to 1 w) w) xs ys
          → RowCounted W e x s k xs ys
      missed_counted h to q done =
          let new : Leaves (λ w. replaced (missed_at W e) s.width (with_row from s.all (missed_at W e) 1 w) w) xs ys = rw (← q) done in
          record {
            long = new.long;
            hit = λ j i. as_before (missed_at W e) (with_row from s.all (missed_at W e) 1) s.width xs ys new (e + j) (omega (arith, ok.narrow, ok.behind, ok.all_end)) (inl (omega (arith, ok.narrow)))
                ∙ rw h (omega arith);
            missed = λ j i. written_at (missed_at W e) (with_row from s.all (missed_at W e) 1) s.width xs ys new (omega (arith, ok.narrow, ok.behind, ok.all_end)) j i ∙ rw h (omega (arith, whole_word j i));
            beside = λ i m b. as_before (missed_at W e) (with_row from s.all (missed_at W e) 1) s.width xs ys new i m b.missed;
          }

-- ---- row after row

-- places before the stage, and behind its first two rows
before_stage : (W e n i : ℕ) → i < e → Aside W e n i
before_stage W e n i l = record { hit = inl l; missed = inl (omega arith) }

behind_units : (W e n i : ℕ) → n ≤ W → e + 2 * suc W ≤ i → Aside W e n i
behind_units W e n i l h = record { hit = inr (omega arith); missed = inr (omega arith) }

module _ (W e : ℕ) (x : Target) (s : Sender) (xs : List ℕ) where
  module _ (ok : Counting W e s xs) (fits : (j : ℕ) → j < s.width → ColumnFits W e j (column_of s (words_of xs) j) xs) (m : ℕ) (ys : List ℕ) (l : m < s.count) (so : CountedTo W e x s m xs ys) where
    same_mask : mask_in s (words_of ys) m ≡ mask_in s (words_of xs) m
    same_mask = so.beside (s.masks + m) (omega (arith, ok.masks, ok.behind, ok.all_end)) (before_stage W e s.width (s.masks + m) (omega (arith, ok.masks)))

    same_cell : (j : ℕ) → j < s.width → words_of ys (start_at s m + j) ≡ words_of xs (start_at s m + j)
    same_cell j h =
        let there : start_at s m + j < e = omega (arith, row_ends W e x s m l xs ok, ok.wide) in
        so.beside (start_at s m + j) (omega (arith, ok.behind, ok.all_end)) (before_stage W e s.width (start_at s m + j) there)

    pub still_counting : Counting W e s ys
    still_counting =
        record {
          wide = ok.wide;
          narrow = ok.narrow;
          masks = ok.masks;
          rows = ok.rows;
          behind = ok.behind;
          all_end = rw so.long ok.all_end;
          all = λ j h. so.beside (s.all + j) (omega (arith, ok.all_end)) (behind_units W e s.width (s.all + j) ok.narrow (omega (arith, ok.behind))) ∙ ok.all j h;
        }

    -- no more than the column has
    column_part : (j : ℕ) (f : ℕ → ℕ) → ((k : ℕ) → f k ≤ words_of xs (start_at s k + j)) → sum_to m f + words_of xs (start_at s m + j) ≤ column_of s (words_of xs) j
    column_part j f h =
        le_trans (omega (arith, sum_le m f (λ k. words_of xs (start_at s k + j)) (λ k i. h k))) (sum_part (suc m) s.count (λ k. words_of xs (start_at s k + j)) l)

    pub fits_next : (j : ℕ) → j < s.width → ColumnFits W e j (words_of ys (start_at s m + j)) ys
    fits_next j h = (
      omega (arith, same_cell j h, so.hit j h, column_part j (hit_of x s (words_of xs) j) (λ k. part_most (hits x (mask_in s (words_of xs) k)) (words_of xs (start_at s k + j))), (fits j h).0),
      omega (arith, same_cell j h, so.missed j h, column_part j (miss_of x s (words_of xs) j) (λ k. part_most (not (hits x (mask_in s (words_of xs) k))) (words_of xs (start_at s k + j))), (fits j h).1),
    )

    pub counted_next : (zs : List ℕ) → RowCounted W e x s m ys zs → CountedTo W e x s (m + 1) xs zs
    counted_next zs new =
        record {
          long = new.long ∙ so.long;
          hit = λ j h. new.hit j h ∙ rw (add-one m, same_mask, same_cell j h) (omega (arith, so.hit j h));
          missed = λ j h. new.missed j h ∙ rw (add-one m, same_mask, same_cell j h) (omega (arith, so.missed j h));
          beside = λ i h b. new.beside i (omega (arith, so.long)) b ∙ so.beside i h b;
        }

-- ---- from nothing

-- as the code has the words of two rows
pub double : (W : ℕ) → 2 * (W + 1) ≡ 2 * suc W
double W = omega arith

module _ (W e : ℕ) (x : Target) (s : Sender) (xs ys : List ℕ) (ok : Counting W e s xs) (n : ℕ) (q : n ≡ 2 * suc W) (done : Leaves (λ w. replaced e n (λ j. 0) w) xs ys) where
  clear : Leaves (λ w. replaced e (2 * suc W) (λ j. 0) w) xs ys
  clear = rw (← q) done

  cleared : (p : ℕ) → e ≤ p → p < e + 2 * suc W → words_of ys p ≡ 0
  cleared p a b =
      let there : e + (p - e) ≡ p = omega arith in
      ap (words_of ys) (sym there) ∙ written_at e (λ w j. 0) (2 * suc W) xs ys clear (omega (arith, ok.behind, ok.all_end)) (p - e) (omega arith)

  uncleared : (p : ℕ) → p < length xs → (p < e) ⊎ (e + 2 * suc W ≤ p) → words_of ys p ≡ words_of xs p
  uncleared = as_before e (λ w j. 0) (2 * suc W) xs ys clear

  pub cleared_counting : Counting W e s ys
  cleared_counting =
      record {
        wide = ok.wide;
        narrow = ok.narrow;
        masks = ok.masks;
        rows = ok.rows;
        behind = ok.behind;
        all_end = rw clear.long ok.all_end;
        all = λ j h. uncleared (s.all + j) (omega (arith, ok.all_end)) (inr (omega (arith, ok.behind))) ∙ ok.all j h;
      }

  first_cell : (k j : ℕ) → k < s.count → j < s.width → words_of ys (start_at s k + j) ≡ words_of xs (start_at s k + j)
  first_cell k j l h =
      let there : start_at s k + j < e = omega (arith, row_ends W e x s k l xs ok, ok.wide) in
      uncleared (start_at s k + j) (omega (arith, ok.behind, ok.all_end)) (inl there)

  first_mask : (k : ℕ) → k < s.count → mask_in s (words_of ys) k ≡ mask_in s (words_of xs) k
  first_mask k l = uncleared (s.masks + k) (omega (arith, ok.masks, ok.behind, ok.all_end)) (inl (omega (arith, ok.masks)))

  pub cleared_fits : ((j : ℕ) → j < s.width → column_of s (words_of xs) j < 2 ^ 64) → (j : ℕ) → j < s.width → ColumnFits W e j (column_of s (words_of ys) j) ys
  cleared_fits fits j h =
      let same = sum_eq s.count (λ k. words_of ys (start_at s k + j)) (λ k. words_of xs (start_at s k + j)) (λ k l. first_cell k j l h) in (
        omega (arith, same, fits j h, cleared (e + j) (omega arith) (omega (arith, ok.narrow))),
        omega (arith, same, fits j h, cleared (missed_at W e + j) (omega arith) (omega (arith, ok.narrow))),
      )

  pub units_staged : (zs : List ℕ) → CountedTo W e x s s.count ys zs → UnitsStaged W e x s xs zs
  units_staged zs so =
      record {
        long = so.long ∙ clear.long;
        hit = λ j h. ap (words_of zs) (place_0 j) ∙ so.hit j h
            ∙ omega (arith, cleared (e + j) (omega arith) (omega (arith, ok.narrow)), sum_eq s.count (hit_of x s (words_of ys) j) (hit_of x s (words_of xs) j) (λ k l. ap₂ (λ (C u : ℕ). if (hits x C) u) (first_mask k l) (first_cell k j l h)));
        hit_end = λ j h i. ap (words_of zs) (place_0 j) ∙ so.beside (e + j) (omega (arith, clear.long, ok.behind, ok.all_end)) (record { hit = inr (omega arith); missed = inl (omega arith) })
            ∙ cleared (e + j) (omega arith) (omega arith);
        missed = λ j h. ap (words_of zs) (place_1 j) ∙ so.missed j h
            ∙ omega (arith, cleared (missed_at W e + j) (omega arith) (omega (arith, ok.narrow)), sum_eq s.count (miss_of x s (words_of ys) j) (miss_of x s (words_of xs) j) (λ k l. ap₂ (λ (C u : ℕ). if (not (hits x C)) u) (first_mask k l) (first_cell k j l h)));
        missed_start = so.beside (stage_at W e 1 0) (omega (arith, clear.long, ok.behind, ok.all_end)) (record { hit = inr (omega (arith, ok.narrow)); missed = inl (omega arith) })
            ∙ cleared (stage_at W e 1 0) (omega arith) (omega arith);
        beside = λ i h o. so.beside i (omega (arith, clear.long)) (⊎_elim (λ p. before_stage W e s.width i p) (λ p. behind_units W e s.width i ok.narrow p) o) ∙ uncleared i h o;
      }
    where
      place_0 : (j : ℕ) → stage_at W e 0 j ≡ e + j
      place_0 j = omega arith

      place_1 : (j : ℕ) → stage_at W e 1 (suc j) ≡ missed_at W e + j
      place_1 j = omega arith

-- ---- filled numbers

pub after_miss : (N : ℕ) (x : Target) → Listed 16 x.place → x.set < 16 → N ≤ 16 → (s t : State) → t ≡ fuller_in N (in_reach x) s → t.filled ≡ fill_one N x.set s.filled
after_miss N x placed near few s t e = ap (λ (u : State). u.filled) (fuller_so x placed near N few s t e)

module _ (N W e : ℕ) (x : Target) (fronts backs n : ℕ) (xs : List ℕ) (ok : Grouping W e fronts backs n xs) where
  pub grouped_start : Grouped N W e x fronts backs 0 xs xs
  grouped_start = record { long = refl; hit = λ j l. absurd (omega arith); missed = λ j l. absurd (omega arith); beside = λ i l o. refl }

  pub all_grouped : (m : ℕ) (ys : List ℕ) → m ≡ n → Grouped N W e x fronts backs m xs ys → Grouped N W e x fronts backs n xs ys
  all_grouped m ys q so = subst (λ (k : ℕ). Grouped N W e x fronts backs k xs ys) q so

  module _ (m : ℕ) (ys : List ℕ) (l : m < n) (so : Grouped N W e x fronts backs m xs ys) (F G : Filled) (f : F ≡ filled_words (words_of ys) (fronts + m) (backs + m)) (g : G ≡ fill_one N x.set F) where
    abbrev zs : List ℕ
    zs = group_put (e + m) (W + 1) F G ys

    -- the four places
    abbrev p2 : ℕ
    p2 = e + m + 2 * (W + 1)

    abbrev p3 : ℕ
    p3 = e + m + 3 * (W + 1)

    abbrev p4 : ℕ
    p4 = e + m + 4 * (W + 1) + 1

    abbrev p5 : ℕ
    p5 = e + m + 5 * (W + 1) + 1

    inside : p5 < length ys
    inside = omega (arith, so.long, ok.inside, ok.narrow)

    same_filled_lem : F ≡ filled_words (words_of xs) (fronts + m) (backs + m)
    same_filled_lem =
        f ∙ ap₂ (λ (u v : ℕ). record { front = u; back = v })
        (so.beside (fronts + m) (omega (arith, ok.front, ok.inside)) (inl (omega (arith, ok.front))))
        (so.beside (backs + m) (omega (arith, ok.back, ok.inside)) (inl (omega (arith, ok.back))))

    unwritten : (i : ℕ) → i ≢ p2 → i ≢ p3 → i ≢ p4 → i ≢ p5 → words_of zs i ≡ words_of ys i
    unwritten = four_beside p2 p3 p4 p5 F.front F.back G.front G.back ys

    -- what is written for a column before stays
    kept_hit : (j : ℕ) → j < m → filled_words (words_of zs) (stage_at W e 2 j) (stage_at W e 3 j) ≡ filled_words (words_of ys) (stage_at W e 2 j) (stage_at W e 3 j)
    kept_hit j h =
        let narrow = ok.narrow in
        ap₂ (λ (u v : ℕ). record { front = u; back = v })
        (unwritten (stage_at W e 2 j) (λ q. absurd (omega arith)) (λ q. absurd (omega arith)) (λ q. absurd (omega arith)) (λ q. absurd (omega arith)))
        (unwritten (stage_at W e 3 j) (λ q. absurd (omega arith)) (λ q. absurd (omega arith)) (λ q. absurd (omega arith)) (λ q. absurd (omega arith)))

    kept_missed : (j : ℕ) → j < m → filled_words (words_of zs) (stage_at W e 4 (suc j)) (stage_at W e 5 (suc j)) ≡ filled_words (words_of ys) (stage_at W e 4 (suc j)) (stage_at W e 5 (suc j))
    kept_missed j h =
        let narrow = ok.narrow in
        ap₂ (λ (u v : ℕ). record { front = u; back = v })
        (unwritten (stage_at W e 4 (suc j)) (λ q. absurd (omega arith)) (λ q. absurd (omega arith)) (λ q. absurd (omega arith)) (λ q. absurd (omega arith)))
        (unwritten (stage_at W e 5 (suc j)) (λ q. absurd (omega arith)) (λ q. absurd (omega arith)) (λ q. absurd (omega arith)) (λ q. absurd (omega arith)))

    module _ (rise : p2 < p3) (again : p3 < p4) (last : p4 < p5) where
      new_hit : filled_words (words_of zs) (stage_at W e 2 m) (stage_at W e 3 m) ≡ F
      new_hit =
          let a : stage_at W e 2 m ≡ p2 = omega arith in
          let b : stage_at W e 3 m ≡ p3 = omega arith in
          ap₂ (λ (u v : ℕ). record { front = u; back = v })
          (ap (words_of zs) a ∙ four_first p2 p3 p4 p5 F.front F.back G.front G.back ys rise again last inside)
          (ap (words_of zs) b ∙ four_second p2 p3 p4 p5 F.front F.back G.front G.back ys rise again last inside)

      new_missed : filled_words (words_of zs) (stage_at W e 4 (suc m)) (stage_at W e 5 (suc m)) ≡ G
      new_missed =
          let a : stage_at W e 4 (suc m) ≡ p4 = omega arith in
          let b : stage_at W e 5 (suc m) ≡ p5 = omega arith in
          ap₂ (λ (u v : ℕ). record { front = u; back = v })
          (ap (words_of zs) a ∙ four_third p2 p3 p4 p5 F.front F.back G.front G.back ys rise again last inside)
          (ap (words_of zs) b ∙ four_fourth p2 p3 p4 p5 F.front F.back G.front G.back ys rise again last inside)

    split : (j : ℕ) → j < m + 1 → (P : ℕ → Type 0) → (j < m → P j) → P m → P j
    split j h P a b = go (ℕ_discrete j m)
      where
        go : Dec (j ≡ m) → P j
        go (yes q) = subst P (sym q) b
        go (no q) = a (omega (arith, q))

    pub grouped_next : Grouped N W e x fronts backs (m + 1) xs zs
    grouped_next =
        record {
          long = four_long p2 p3 p4 p5 F.front F.back G.front G.back ys ∙ so.long;
          hit = λ j h. split j h (λ i. filled_words (words_of zs) (stage_at W e 2 i) (stage_at W e 3 i) ≡ filled_words (words_of xs) (fronts + i) (backs + i)) (λ q. kept_hit j q ∙ so.hit j q)
              (new_hit (omega arith) (omega arith) (omega arith) ∙ same_filled_lem);
          missed = λ j h. split j h
              (λ i. filled_words (words_of zs) (stage_at W e 4 (suc i)) (stage_at W e 5 (suc i)) ≡ fill_one N x.set (filled_words (words_of xs) (fronts + i) (backs + i)))
              (λ q. kept_missed j q ∙ so.missed j q)
              (new_missed (omega arith) (omega arith) (omega arith) ∙ g ∙ ap (fill_one N x.set) same_filled_lem);
          beside = λ i h o. unwritten i (λ q. out o (omega arith) (omega (arith, ok.narrow))) (λ q. out o (omega arith) (omega (arith, ok.narrow))) (λ q. out o (omega arith) (omega (arith, ok.narrow)))
              (λ q. out o (omega arith) (omega (arith, ok.narrow)))
              ∙ so.beside i h o;
        }
      where
        out : {i : ℕ} → (i < stage_at W e 2 0) ⊎ (e + 6 * suc W ≤ i) → stage_at W e 2 0 ≤ i → i < e + 6 * suc W → ⊥
        out (inl h) q r = absurd (omega arith)
        out (inr h) q r = absurd (omega arith)
