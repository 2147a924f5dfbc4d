-- The scratch, lent as a part of the working room: what is lent, what comes back, and what the scratch then holds. For any kind of state.
use mathlib.Core.Path.{◌≡◌, refl, sym, ap, ◌∙◌}
use mathlib.Core.Bool.{true}
use mathlib.Core.List.{List, [], ◌∷◌, ◌++◌, append-nil}
use Prim.Native.Nat.{ℕ, zero, suc, ◌+◌, ◌-◌, ◌*◌, ◌≤◌, ◌<◌}
use native.Mathlib.Omega.{arith}
use lib.ListN.{length, take, drop, length-drop, drop_of_length-le}
use lib.Seq.{take_all, take_at, take-take, drop_at, get_or-take, get_or-drop, length-take-le}
use Rattle.rules.specs.Ordered.{rises, insert}
use Rattle.rules.specs.AnyTable.{Listing, plus, add, at}
use Rattle.tables.specs.Placing.{Inserted, Added}
use Rattle.tables.specs.Rooms.{InScratch}
use Rattle.tables.proofs.Reading.{Reading, fits_table}

module _ {A : Type 0} where
  -- ---- stretches of states

  -- a stretch of states that lies before place base, which is as it was where all before base are
  within : (i m base : ℕ) (T : List A) → i + m ≤ base → take m (drop i (take base T)) ≡ take m (drop i T)
  within zero m base T l = take-take m base T (omega arith)
  within (suc i) m zero T l = absurd (omega arith)
  within (suc i) m (suc base) [] l = refl
  within (suc i) m (suc base) (t ∷ T) l = within i m base T (omega arith)

  pub stretch_kept : (i m base : ℕ) (T T' : List A) → i + m ≤ base → take base T' ≡ take base T → take m (drop i T') ≡ take m (drop i T)
  stretch_kept i m base T T' l e =
      sym (within i m base T' l) ∙ ap (λ (X : List A). take m (drop i X)) e ∙ within i m base T l

  pub stretch_long : (i m : ℕ) (T : List A) → i + m ≤ length T → length (take m (drop i T)) ≡ m
  stretch_long i m T l = length-take-le m (drop i T) (omega (arith, length-drop i T))

-- ---- a part of the words that is lent, from a place on, and the words when it comes back

abbrev pub part_from : ℕ → List ℕ → List ℕ
part_from from ws = take (length ws - from) (drop from ws)

abbrev pub back_from : ℕ → List ℕ → List ℕ → List ℕ
back_from from ws ys = take from ws ++ (ys ++ drop (length ws - from) (drop from ws))

module _ {A : Type 0} {table_of : List ℕ → List A} (reads : Reading table_of) where
  module _ (ws : List ℕ) (base : ℕ) where
    part_all : part_from (base * 5) ws ≡ drop (base * 5) ws
    part_all = take_all (length ws - base * 5) (drop (base * 5) ws) (omega (arith, length-drop (base * 5) ws))

    pub part_table : table_of (part_from (base * 5) ws) ≡ drop base (table_of ws)
    part_table = ap table_of part_all ∙ reads.behind ws base

    pub part_long : length (part_from (base * 5) ws) ≡ length ws - base * 5
    part_long = ap length part_all ∙ length-drop (base * 5) ws

    module _ (ys : List ℕ) (l : base * 5 ≤ length ws) where
      back_all : back_from (base * 5) ws ys ≡ take (base * 5) ws ++ ys
      back_all = rw (drop_of_length-le (drop (base * 5) ws) {i = length ws - base * 5} (omega (arith, length-drop (base * 5) ws)), append-nil)

      back_table : table_of (back_from (base * 5) ws ys) ≡ take base (table_of ws) ++ table_of ys
      back_table =
          ap table_of back_all ∙ reads.onto (take (base * 5) ws) ys base (length-take-le (base * 5) ws l) ∙ ap (◌++ table_of ys) (reads.first ws base)

      pub back_slots : take base (table_of (back_from (base * 5) ws ys)) ≡ take base (table_of ws)
      back_slots = ap (take base) back_table ∙ take_at (take base (table_of ws)) (table_of ys) base (length-take-le base (table_of ws) (fits_table reads ws base l))

      pub back_scratch : drop base (table_of (back_from (base * 5) ws ys)) ≡ table_of ys
      back_scratch = ap (drop base) back_table ∙ drop_at (take base (table_of ws)) (table_of ys) base (length-take-le base (table_of ws) (fits_table reads ws base l))

  -- ---- what the scratch holds

  -- what is added to the lent part is added to what the scratch holds
  pub lent_added : (states : Listing A) (S : List A) (n r : ℕ) (ws ys : List ℕ) → 20480 ≤ length ws → Added states S n r (table_of (part_from 20480 ws)) (table_of ys)
      → InScratch (add states S (take n (drop 4096 (table_of ws)))) r (table_of ws) (table_of (back_from 20480 ws ys))
  lent_added states S n r ws ys l a =
      record {
        count = a.count ∙ ap length is;
        table = ap (take r) (back_scratch ws 4096 ys l) ∙ a.table ∙ is;
        slots = back_slots ws 4096 ys l;
      }
    where
      is : add states S (take n (table_of (part_from 20480 ws))) ≡ add states S (take n (drop 4096 (table_of ws)))
      is = ap (λ (T : List A). add states S (take n T)) (part_table ws 4096)

  -- so is a state that is inserted
  pub lent_inserted : (states : Listing A) (s : A) (n r : ℕ) (ws ys : List ℕ) → 20480 ≤ length ws → Inserted states s n r (table_of (part_from 20480 ws)) (table_of ys)
      → InScratch (insert states.order (plus states) s (take n (drop 4096 (table_of ws)))) r (table_of ws) (table_of (back_from 20480 ws ys))
  lent_inserted states s n r ws ys l a =
      record {
        count = a.count ∙ ap length is;
        table = ap (take r) (back_scratch ws 4096 ys l) ∙ a.table ∙ is;
        slots = back_slots ws 4096 ys l;
      }
    where
      is : insert states.order (plus states) s (take n (table_of (part_from 20480 ws))) ≡ insert states.order (plus states) s (take n (drop 4096 (table_of ws)))
      is = ap (λ (T : List A). insert states.order (plus states) s (take n T)) (part_table ws 4096)

  -- nothing is done
  pub scratch_stays : (X : List A) (n : ℕ) (ws : List ℕ) → 20480 + n * 5 ≤ length ws → X ≡ take n (drop 4096 (table_of ws)) → InScratch X n (table_of ws) (table_of ws)
  scratch_stays X n ws l e =
      record {
        count = sym (ap length e ∙ length-take-le n (drop 4096 (table_of ws)) (omega (arith, length-drop 4096 (table_of ws), fits_table reads ws (4096 + n) (omega arith))));
        table = sym e;
        slots = refl;
      }

pub scratch_empty : {A : Type 0} (T : List A) → InScratch [] 0 T T
scratch_empty T = record { count = refl; table = refl; slots = refl }

module _ {A : Type 0} (states : Listing A) (X : List A) (n : ℕ) (T₀ T : List A) (g : InScratch X n T₀ T) where
  -- more is added to it
  pub scratch_more : (S : List A) (r : ℕ) (T' : List A) → InScratch (add states S (take n (drop 4096 T))) r T T' → InScratch (add states S X) r T₀ T'
  scratch_more S r T' h = record { count = h.count ∙ ap length is; table = h.table ∙ is; slots = h.slots ∙ g.slots }
    where
      is : add states S (take n (drop 4096 T)) ≡ add states S X
      is = ap (λ (U : List A). add states S U) g.table

  pub slot_same : (from m : ℕ) → from + m ≤ 4096 → take m (drop from T) ≡ take m (drop from T₀)
  slot_same from m l = stretch_kept from m 4096 T₀ T l g.slots

  pub scratch_rising : rises states.order X ≡ true → rises states.order (take n (drop 4096 T)) ≡ true
  scratch_rising h = rw g.table h

  -- the slots read as they did: the state at place i of the m states at place `from`
  pub slot_reads : (from m i : ℕ) (s : A) → i < m → from + m ≤ 4096 → s ≡ at states T (from + i) → s ≡ at states (take m (drop from T₀)) i
  slot_reads from m i s l h e =
      e ∙ sym (get_or-take 4096 T (from + i) states.none (omega arith)) ∙ ap (λ (U : List A). at states U (from + i)) g.slots
      ∙ get_or-take 4096 T₀ (from + i) states.none (omega arith)
      ∙ sym (get_or-take m (drop from T₀) i states.none l ∙ get_or-drop from T₀ i states.none)
