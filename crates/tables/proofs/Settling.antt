-- A table in its place, of any kind: what the folds leave in the scratch is copied there; each access starts from what the one before it left; and what a node starts
-- from stands in its slot, the start or its predecessors' tables joined.
use Rattle.std.specs.Prelude.{Some}
use mathlib.Core.Path.{◌≡◌, refl, sym, ap, ap₂, ◌∙◌, subst}
use mathlib.Core.List.{List, [], ◌∷◌}
use Prim.Native.Nat.{ℕ, zero, suc, ◌+◌, ◌*◌, ◌≤◌, ◌<◌}
use native.Mathlib.Omega.{arith}
use lib.ListN.{length, get_or, set, take, drop, length-drop, drop_of_length-le}
use lib.Seq.{paste, drop-cons}
use Rattle.rules.specs.Contents.{target_of, Last}
use Rattle.rules.specs.AnyTable.{Listing, Kind, Work, Worked, Entry, Entries, later, behind, total, folded, advance, run, table_at, join_one, join_all_by, enter_by}
use Rattle.rules.specs.Shape.{Every, Present}
use Rattle.rules.proofs.AnyTable.{joins_alike}
use Rattle.tables.specs.Rooms.{Stands, InPlace, filled, slot_of, worked_in}
use Rattle.tables.proofs.Scratch.{stretch_kept, stretch_long}
use Rattle.tables.proofs.Nodes.{paste_take, paste_there, counted, counted_few, table_in_kept, tables_in_kept, tables_in_at}

-- the table of n states at place p, with the set-aside count a
abbrev pub work_at : {A : Type 0} → ℕ → ℕ → ℕ → List A → Work A
work_at p n a T = record { table = take n (drop p T); aside = a }

-- ---- from the scratch to a place

module _ {A : Type 0} where
  -- w stands in the scratch of T₂, whose slots are T's; the copy puts it at place `at`
  pub settled : (w : Work A) (at m a : ℕ) (T T₂ T₃ : List A) → at + 64 ≤ 4096 → m ≤ 64 → 5184 ≤ length T₂ → Stands w m a (drop 4096 T₂)
      → take 4096 T₂ ≡ take 4096 T → T₃ ≡ paste T₂ at (drop 4096 T₂) m → InPlace w at m a T T₃
  settled w at m a T T₂ T₃ slot few long s e q =
      record {
        stands = record { count = s.count; table = ap (λ (U : List A). take m (drop at U)) q ∙ paste_there T₂ (drop 4096 T₂) at m (omega arith) (omega (arith, length-drop 4096 T₂)) ∙ s.table; aside = s.aside };
        before = ap (take at) q ∙ paste_take T₂ (drop 4096 T₂) at m at (omega arith) (omega arith) ∙ stretch_kept 0 at 4096 T T₂ (omega arith) e;
      }

  -- the work at a place is what stands there
  pub stands_work : (w : Work A) (at n a : ℕ) (T₀ T : List A) → InPlace w at n a T₀ T → work_at at n a T ≡ w
  stands_work w at n a T₀ T g = rw (g.stands.table, g.stands.aside) refl

  -- what stands there is the work at the place
  pub stands_there : (at n a : ℕ) (T₀ T : List A) → at + n ≤ length T → take at T ≡ take at T₀ → InPlace (work_at at n a T) at n a T₀ T
  stands_there at n a T₀ T long e = record { stands = record { count = sym (stretch_long at n T long); table = refl; aside = refl }; before = e }

-- the entries from a number on: the first, and those behind it
module _ (Q : Entries) (number : ℕ) where
  pub number_first : behind number Q 0 ≡ Q number
  number_first = ap Q (omega arith)

  pub number_next : (k : ℕ) → behind (number + 1) Q k ≡ later (behind number Q) k
  number_next k = ap Q (omega arith)

-- no state has more units than all have together
pub unit_most : {A : Type 0} (states : Listing A) (T : List A) (n : ℕ) → total states T ≤ n → Every (λ s. states.units s ≤ n) T
unfolding total
unit_most states [] n h = tt
unit_most states (s ∷ T) n h = (omega arith, unit_most states T n (omega arith))

-- the states of a table have units
pub some_units : {A : Type 0} (states : Listing A) (P : A → Type 0) (T : List A) → Every (Present states P) T → Every (λ s. 1 ≤ states.units s) T
some_units states P [] h = tt
some_units states P (s ∷ T) h = (h.0.1, some_units states P T h.1)

module _ {A : Type 0} (kind : Kind A) where
  open kind use {listing}

  -- w was settled from X in the scratch, and the slots were T's before
  pub settled_from : (K : ℕ) (X X' : List A) (a a' : ℕ) (at m b : ℕ) (T T₂ T₃ : List A) → X ≡ X' → a ≡ a' → at ≤ 4096 → take 4096 T₂ ≡ take 4096 T
      → InPlace (folded kind K (record { table = X; aside = a })) at m b T₂ T₃ → InPlace (folded kind K (record { table = X'; aside = a' })) at m b T T₃
  settled_from K X X' a a' at m b T T₂ T₃ p q low e g =
      record { stands = rw (← p, ← q) g.stands; before = g.before ∙ stretch_kept 0 at 4096 T T₂ (omega arith) e }

  -- ---- accesses one after the other

  -- as far as access i, from w and the last block l; k is the last block then
  module _ (N Z K : ℕ) (ts bs : List ℕ) where
    abbrev pub Ran : ℕ → Last → Work A → Last → Work A → Type 0
    Ran i k v l w = run kind N Z K ts k (drop i bs) v ≡ run kind N Z K ts l bs w

    pub ran_next : (i : ℕ) (k : Last) (v : Work A) (l : Last) (w : Work A) (b : ℕ) → i < length bs → b ≡ get_or bs i 0 → Ran i k v l w
        → Ran (suc i) (Some b) (advance kind N K (target_of Z ts k b) v) l w
    unfolding run
    ran_next i k v l w b here e h = rw e (sym (ap (λ (cs : List ℕ). run kind N Z K ts k cs v) (drop-cons bs i 0 here))) ∙ h

    pub ran_all : (i : ℕ) (k : Last) (v : Work A) (l : Last) (w : Work A) → length bs ≤ i → Ran i k v l w → v ≡ run kind N Z K ts l bs w
    unfolding run
    ran_all i k v l w past h = sym (ap (λ (cs : List ℕ). run kind N Z K ts k cs v) (drop_of_length-le bs {i = i} past)) ∙ h

  -- ---- what node j starts from

  module _ (j a₀ : ℕ) (T₀ : List A) where
    abbrev before_it : Worked A
    before_it = worked_in listing j a₀ T₀

    -- the table that node p left, as it stands when the slots before node j's are as they were
    pub table_left : (p m : ℕ) (T : List A) → p < j → m ≡ filled listing (slot_of p T) → take (j * 64) T ≡ take (j * 64) T₀
        → take m (drop (p * 64) T) ≡ table_at before_it p
    table_left p m T l c e = counted listing p m T c ∙ table_in_kept listing p (j * 64) T₀ T (omega arith) e ∙ sym (tables_in_at listing j T₀ p l)

    -- one table more is joined, by the entry of that number
    module _ (K : ℕ) (Q : Entries) (number : ℕ) (R R' : List ℕ) (p n a n' a' m : ℕ) (T T' : List A) (r : R ≡ p ∷ R') (l : p < j) (c : m ≡ filled listing (slot_of p T))
        (e : take (j * 64) T ≡ take (j * 64) T₀) (g : InPlace (join_one kind (Q number) K (work_at (j * 64) n a T) (take m (drop (p * 64) T))) (j * 64) n' a' T T') where
      pub next_work : work_at (j * 64) n' a' T' ≡ join_one kind (behind number Q 0) K (work_at (j * 64) n a T) (table_at before_it p)
      next_work =
          stands_work _ (j * 64) n' a' T T' g
          ∙ ap₂ (λ (x : Entry) (U : List A). join_one kind x K (work_at (j * 64) n a T) U) (sym (number_first Q number)) (table_left p m T l c e)

      pub join_turn : (W : Work A) → join_all_by kind (behind number Q) K before_it R (work_at (j * 64) n a T) ≡ W
          → join_all_by kind (behind (number + 1) Q) K before_it R' (work_at (j * 64) n' a' T') ≡ W
      unfolding join_all_by
      join_turn W h =
          joins_alike kind K before_it (behind (number + 1) Q) (later (behind number Q)) (number_next Q number) R' (work_at (j * 64) n' a' T')
          ∙ ap (join_all_by kind (later (behind number Q)) K before_it R') next_work
          ∙ sym (ap (λ (is : List ℕ). join_all_by kind (behind number Q) K before_it is (work_at (j * 64) n a T)) r) ∙ h

    -- all are joined
    pub joined : (K : ℕ) (q : Entries) (R : List ℕ) (n a : ℕ) (T : List A) (W : Work A) → R ≡ [] → n ≤ 64 → j < 64 → 5184 ≤ length T
        → take (j * 64) T ≡ take (j * 64) T₀ → join_all_by kind q K before_it R (work_at (j * 64) n a T) ≡ W → InPlace W (j * 64) n a T₀ T
    unfolding join_all_by
    joined K q R n a T W r few node long e h = rw (← h, r) (stands_there (j * 64) n a T₀ T (omega arith) e)

    -- a node without predecessors starts from the start
    pub enter_none : (K : ℕ) (Q : Entries) (s : A) (R : List ℕ) (T : List A) → R ≡ [] → 5184 ≤ length T₀ → j < 64 → T ≡ set T₀ (j * 64) s
        → InPlace (enter_by kind Q K s before_it R) (j * 64) 1 a₀ T₀ T
    unfolding enter_by
    enter_none K Q s R T r long node q =
        rw r
        record {
          stands = record { count = refl; table = ap (λ (U : List A). take 1 (drop (j * 64) U)) q ∙ set_there (j * 64) T₀ (omega arith); aside = refl };
          before = ap (take (j * 64)) q ∙ set_before (j * 64) T₀;
        }
      where
        set_there : (i : ℕ) (T : List A) → i < length T → take 1 (drop i (set T i s)) ≡ s ∷ []
        set_there i [] l = absurd (omega arith)
        set_there zero (t ∷ T) l = refl
        set_there (suc i) (t ∷ T) l = set_there i T (omega arith)

        set_before : (i : ℕ) (T : List A) → take i (set T i s) ≡ take i T
        set_before zero T = refl
        set_before (suc i) [] = refl
        set_before (suc i) (t ∷ T) = ap (t ∷◌) (set_before i T)

    -- the first predecessor's table is copied, to T₁, and the others are joined to it
    module _ (p m : ℕ) (T₁ : List A) (l : p < j) (node : j < 64) (long : 5184 ≤ length T₀) (c : m ≡ filled listing (slot_of p T₀))
        (q : T₁ ≡ paste T₀ (j * 64) (drop (p * 64) T₀) m) where
      few : m ≤ 64
      few = counted_few listing p m T₀ c

      kept : take (j * 64) T₁ ≡ take (j * 64) T₀
      kept = ap (take (j * 64)) q ∙ paste_take T₀ (drop (p * 64) T₀) (j * 64) m (j * 64) (omega arith) (omega arith)

      pub tables_copied : worked_in listing j a₀ T₁ ≡ before_it
      tables_copied = ap (λ (X : List (List A)). record { tables = X; aside = a₀ }) (tables_in_kept listing j (j * 64) T₀ T₁ (omega arith) kept)

      pub first_copied : work_at (j * 64) m a₀ T₁ ≡ record { table = table_at before_it p; aside = a₀ }
      first_copied =
          ap (λ (X : List A). record { table = X; aside = a₀ })
          (ap (λ (U : List A). take m (drop (j * 64) U)) q ∙ paste_there T₀ (drop (p * 64) T₀) (j * 64) m (omega arith) (omega (arith, few, length-drop (p * 64) T₀))
          ∙ table_left p m T₀ l c refl)

      pub enter_some : (K : ℕ) (Q : Entries) (s : A) (R R' : List ℕ) (n a : ℕ) (T : List A) → R ≡ p ∷ R'
          → InPlace (join_all_by kind Q K (worked_in listing j a₀ T₁) R' (work_at (j * 64) m a₀ T₁)) (j * 64) n a T₁ T
          → InPlace (enter_by kind Q K s before_it R) (j * 64) n a T₀ T
      unfolding enter_by
      enter_some K Q s R R' n a T r g =
          rw r
          record {
            stands = subst (λ (W : Work A). Stands W n a (drop (j * 64) T)) (ap₂ (λ (d : Worked A) (v : Work A). join_all_by kind Q K d R' v) tables_copied first_copied) g.stands;
            before = g.before ∙ kept;
          }
